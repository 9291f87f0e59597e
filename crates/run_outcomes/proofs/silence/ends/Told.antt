-- What a node gives: no line of it tells a tick, but the first where its clock ticks.
use Rattle.std.specs.Prelude.{ℕ, ◌++◌, ◌≡◌, List, [], ◌∷◌, Option, None, Some}
use Rattle.std.proofs.Common.{sym, subst}
use Rattle.cl_base.specs.Limits.{most_nodes}
use Rattle.cl_base.specs.Numbers.{numbers_to}
use Rattle.cl_base.specs.declared.method.Outcome as method
use Rattle.cmm_attempt.proofs.Basics.{if_either}
use Rattle.node_model.specs.Clusters.{first_valid_of}
use Rattle.node_model.specs.Steps.{Outcome, at_second, booted_with, stepped}
use Rattle.node_model.specs.Seats.{coordinator_of}
use Rattle.node_model.specs.Ticks.{heartbeat_of, heartbeats_to, ticked_output}
use Rattle.node_model.specs.Ticks as clock
use Rattle.node_model.specs.Updates.{request_again, request_again_by, request_again_to}
use Rattle.node_model.specs.declared.cluster.Cluster.{Cluster}
use Rattle.node_model.specs.declared.input.Input.{Input}
use Rattle.node_model.specs.declared.input.Input.TheVariants.{Boot, Tick}
use Rattle.node_model.specs.declared.node.Node.{Node}
use Rattle.node_model.specs.declared.node.Node.TheVariants.{Down, Up}
use Rattle.node_model.specs.declared.node.UpNode.{UpNode}
use Rattle.node_model.specs.declared.output.Output.{Output}
use Rattle.node_model.specs.declared.output.Output.TheVariants.{Sends}
use Rattle.node_model.specs.declared.presidency.Presidency.{Presidency}
use Rattle.record_disk.specs.Disks.{DiskState, mounting}
use Rattle.record_disk.specs.declared.error.Loss.{Loss}
use Rattle.refinement.proofs.Disks.{disks_keep_rules}
use Rattle.refinement.proofs.Replies.{steps_are_cut}
use Rattle.refinement.specs.Courses.{Course, joined, under}
use Rattle.refinement.specs.Cuts as cuts
use Rattle.refinement.specs.Cuts.{course_at}
use Rattle.refinement.specs.Doings.{given_all, of_node, site}
use Rattle.refinement.specs.Steps.{IsCut, disk_rules}
use Rattle.request_queue.specs.Queue as queue
use Rattle.request_queue.specs.declared.request.Request.{Request}
use Rattle.run_history.proofs.Courses.{doings_so}
use Rattle.run_history.proofs.Lists.{both, mapped}
use Rattle.status_report.specs.declared.node_entry.NodeEntry.TheVariants as note
use Rattle.run_outcomes.proofs.silence.ends.Ticking.{AreUntold, NoTick, Untold, behind_tick, course_clock, course_untold}

-- ---- a clock that ticks

again_to_untold : (x : UpNode) (r : Option Request) (o : Option ℕ) → AreUntold (request_again_to x r o)
again_to_untold x (Some r) (Some president) = (tt, tt)
again_to_untold x None president = tt
again_to_untold x (Some r) None = tt

again_untold : (x : UpNode) (o : Option Presidency) → AreUntold (request_again_by x o)
again_untold x None =
    if_either AreUntold (queue.goes_again x.requests) (request_again_to x (queue.oldest x.requests) (coordinator_of x)) [] (again_to_untold x (queue.oldest x.requests) (coordinator_of x)) tt
again_untold x (Some p) = tt

beats_untold : (x : UpNode) (receivers : ℕ) → AreUntold (heartbeats_to x receivers)
unfolding heartbeats_to
beats_untold x receivers = mapped Untold (λ m. Sends m (heartbeat_of x)) (numbers_to receivers most_nodes) (λ m. tt)

ticked_untold : (c : Cluster) (before x : UpNode) → AreUntold (ticked_output c before x)
ticked_untold c before x = both Untold (heartbeats_to x _) (request_again before) (beats_untold x _) (again_untold before before.presidency)

-- ---- each step

boot_untold : (c : Cluster) (n : ℕ) (disk : DiskState) (lost : Option Loss) → AreUntold (booted_with n (first_valid_of c n) disk.kept (record { after = (mounting disk).after; lost = lost })).given
boot_untold c n disk None = (tt, tt)
boot_untold c n disk (Some loss) = (tt, (tt, tt))

pub given_untold : (c : Cluster) (n now : ℕ) (ends : method.Outcome) (node : Node) (disk : DiskState) (i : Input) → NoTick i → AreUntold (stepped disk_rules c n now ends node disk i).given
given_untold c n now ends Down disk Tick none = absurd none
given_untold c n now ends Down disk Boot none = boot_untold c n disk (mounting disk).lost
given_untold c n now ends Down disk _ none = tt
given_untold c n now ends (Up x) disk i none =
    let o : Outcome DiskState = stepped disk_rules c n now ends (Up x) disk i in
    let cut : IsCut disk_rules c n now ends (Up x) disk i [] o = steps_are_cut disk_rules disks_keep_rules c n now ends (Up x) disk i in
    subst AreUntold cut.comes.given (course_untold c n cut.replies disk.kept x (course_at c n now ends x i) (doings_so c n now ends cut.replies i (Up x)) (tt, course_clock c n ends (at_second now x) i none))

-- its tick is told first
pub record TicksFirst (n : ℕ) (os : List Output) : Type 0 where
  pub rest : List Output
  pub is : os ≡ of_node n note.Ticked ∷ rest
  pub untold : AreUntold rest

pub tick_given : (c : Cluster) (n now : ℕ) (ends : method.Outcome) (x : UpNode) (disk : DiskState) → TicksFirst n (stepped disk_rules c n now ends (Up x) disk Tick).given
tick_given c n now ends x disk =
    let o : Outcome DiskState = stepped disk_rules c n now ends (Up x) disk Tick in
    let cut : IsCut disk_rules c n now ends (Up x) disk Tick [] o = steps_are_cut disk_rules disks_keep_rules c n now ends (Up x) disk Tick in
    let z : UpNode = at_second now x in
    let y : UpNode = clock.later c z in
    let k : Course = joined c n y (cuts.governing_course c n ends z y) (λ w. cuts.ticked_course c n w w.attempt) in
    let more : List Output = given_all c n (site (Up y) disk.kept) (under cut.replies k) in
    record {
      rest = ticked_output c z y ++ more;
      is = sym cut.comes.given;
      untold = both Untold (ticked_output c z y) more (ticked_untold c z y) (course_untold c n cut.replies disk.kept y k (doings_so c n now ends cut.replies Tick (Up x)).1.1 (behind_tick c n ends z));
    }
