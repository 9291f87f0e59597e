-- Where no seizing ends with the answer, a coordinator has no work as it starts.
use Rattle.std.specs.Prelude.{ℕ, ◌≡◌, ◌==◌, false, List, [], ◌∷◌, filter, Option, None, Some}
use Rattle.std.proofs.Common.{refl, sym, subst, ◌∙◌}
use Rattle.cl_base.specs.Seizings.{SeizeResult}
use Rattle.cmm_attempt.proofs.Basics.{if_either}
use Rattle.cmm_attempt.specs.Attempts.{AttemptState}
use Rattle.cmm_attempt.specs.declared.phase.Phase.TheVariants.{Installing}
use Rattle.cmm_member.specs.Records.{NodeRecord}
use Rattle.device_queue.specs.Queue.{joins, next_of, progress_after}
use Rattle.device_queue.specs.Tasks.{is_queued}
use Rattle.device_queue.specs.declared.progress.Progress.{Progress}
use Rattle.device_queue.specs.declared.progress.Progress.TheVariants.{GoesOn, Joined, Seized}
use Rattle.history.specs.Moment.{Moment}
use Rattle.history.specs.Seizing.{acts_for}
use Rattle.history.specs.Setting.{Setting}
use Rattle.node_model.specs.Devices.{answer_told, joining_so}
use Rattle.node_model.specs.Members.{ready_of}
use Rattle.node_model.specs.Seats.{coordinator_of, installed_of, record_of, session_of, state_of, with_state}
use Rattle.node_model.specs.declared.seat.Seat.{Seat}
use Rattle.node_model.specs.declared.seat.Seat.TheVariants.{Forming, Member}
use Rattle.cmm_member.specs.Nodes.{with_joined}
use Rattle.node_model.specs.declared.cluster.Cluster.{Cluster}
use Rattle.node_model.specs.declared.node.Node.TheVariants.{Up}
use Rattle.node_model.specs.declared.node.UpNode.{UpNode}
use Rattle.pgr_device.specs.declared.command.PrCommand.{PrCommand}
use Rattle.refinement.specs.Courses.{Reply, under}
use Rattle.refinement.specs.Courses.Course.{Keeps, Stops}
use Rattle.refinement.specs.Courses.Reply.{Done, Lost_new, Lost_old}
use Rattle.refinement.specs.Cuts as cuts
use Rattle.refinement.specs.Cuts.{answered_course, doings, joined_course, progress_course}
use Rattle.refinement.specs.Doings.{answered_so, site}
use Rattle.refinement.specs.Doings.Change.{Admits}
use Rattle.seize.specs.Answers.{Answer}
use Rattle.seize.specs.declared.kind.JoinResult.TheVariants as join
use Rattle.status_report.specs.declared.device_entry.DeviceEntry.TheVariants as device_entry
use Rattle.status_report.specs.declared.entry.Entry.{Entry}
use Rattle.status_report.specs.declared.entry.Entry.TheVariants as entry
use Rattle.status_report.specs.declared.node_entry.NodeEntry.TheVariants as note
use Rattle.run_history.specs.Scenes.{Scene, telling}
use Rattle.run_devices.proofs.queues.Acts.{due_writes}
use Rattle.run_devices.specs.queues.Kept.{joins_in}
use Rattle.run_outcomes.specs.stops.Idle.{AllIdle, IsIdle}
use Rattle.run_outcomes.proofs.stops.Commanded.{IsTold}
use Rattle.run_outcomes.proofs.stops.Starting.{IsReady, line_idle, own_ready_idle, saved_idle}
use Rattle.run_outcomes.proofs.stops.Unled.{Still, still_idle}

-- what is so of the coordinator as its command comes
pub record Leads (S : Setting) (n : ℕ) (x : UpNode) (a : AttemptState) (ms : List Moment) : Type 0 where
  pub has : x.attempt ≡ Some a
  pub queue : IsTold S n x ms
  pub acts : a.phase ≡ Installing → (e : ℕ) → acts_for n e ms ≡ false
  pub only : installed_of x ≡ session_of x → filter is_queued x.tasks ≡ filter is_queued (joins_in x.tasks)

-- a device more that is joined leaves what is installed
seat_installed : (seat : Seat) (d : ℕ) → (state_of (with_state seat (with_joined (state_of seat) d))).saved.installed ≡ (state_of seat).saved.installed
seat_installed (Forming s) d = refl
seat_installed (Member s) d = refl

seat_session : (seat : Seat) (d : ℕ) → (state_of (with_state seat (with_joined (state_of seat) d))).session ≡ (state_of seat).session
seat_session (Forming s) d = refl
seat_session (Member s) d = refl

joined_idle : (S : Setting) (c : Cluster) (n : ℕ) (x : UpNode) (disk : NodeRecord) (a : AttemptState) (o : Option ℕ) (replies : List Reply) (s : Scene) → x.attempt ≡ Some a → (joins x.tasks ≡ false → IsReady x a → IsIdle S n s.moments)
    → AllIdle S c n (site (Up x) disk) (under replies (joined_course c n x o)) s
joined_idle S c n x disk a None replies s is idle = tt
joined_idle S c n x disk a (Some m) replies s is idle =
    if_either (λ k. AllIdle S c n (site (Up x) disk) (under replies k) s) (m == n) (cuts.own_ready_course c n x) (cuts.readying_course c x m) (own_ready_idle S c n x disk a replies s is idle)
    (still_idle S c n x disk (cuts.readying_course c x m) replies s (if_either Still (joins x.tasks) Stops (cuts.writing m (ready_of c x)) tt tt))

pub progress_idle : (S : Setting) (c : Cluster) (n : ℕ) (x : UpNode) (disk : NodeRecord) (a : AttemptState) (at : ℕ) (q : PrCommand) (b : Answer) (replies : List Reply) (s : Scene) → next_of x.tasks ≡ Some q → Leads S n x a s.moments
    → ((d : ℕ) (r : SeizeResult) → progress_after x.tasks b ≡ Seized d r → AllIdle S c n (site (Up x) disk) (under replies (progress_course c n x at q b (Seized d r))) s)
    → AllIdle S c n (site (Up x) disk) (under replies (progress_course c n x at q b (progress_after x.tasks b))) s
progress_idle S c n x disk a at q b replies s due k seized = by_progress (progress_after x.tasks b) refl
  where
    l : Entry
    l = entry.Device (device_entry.Command n at q (answer_told b))

    t : Scene
    t = telling l s

    y : UpNode
    y = answered_so x b

    after : joins y.tasks ≡ false → IsReady x a → IsIdle S n t.moments
    after none ready = line_idle S n at q b x s.moments (due_writes x.tasks q due) (k.acts ready.phase) (k.only ready.installed) none k.queue

    late : AllIdle S c n (site (Up y) disk) (under replies (joined_course c n y (coordinator_of y))) t
    late = joined_idle S c n y disk a (coordinator_of y) replies t k.has (λ none ready. after none (record { phase = ready.phase; installed = ready.installed }))

    admitted : (d : ℕ) (rs : List Reply)
        → (let z : UpNode = joining_so y d in AllIdle S c n (site (Up x) disk) (under rs (Keeps (Admits at q b d) (joined_course c n z (coordinator_of z)))) s)
    admitted d [] = (tt, tt)
    admitted d (Lost_new why ∷ rs) = (tt, tt)
    admitted d (Lost_old why ∷ rs) = (tt, tt)
    admitted d (Done ∷ rs) =
        let z : UpNode = joining_so y d in
        let u : Scene = telling (entry.Node n note.Saved) t in
        (tt, joined_idle S c n z (record_of z) a (coordinator_of z) rs u k.has (λ none ready. saved_idle S n t.moments (after none (record { phase = ready.phase; installed = sym (seat_installed x.seat d) ∙ (ready.installed ∙ seat_session x.seat d) }))))

    by_progress : (g : Progress) → progress_after x.tasks b ≡ g → AllIdle S c n (site (Up x) disk) (under replies (progress_course c n x at q b g)) s
    by_progress GoesOn is = (tt, tt)
    by_progress (Seized d r) is = seized d r is
    by_progress (Joined d join.Joined) is = admitted d replies
    by_progress (Joined d (join.Late w)) is = (tt, late)
    by_progress (Joined d join.Fault) is = (tt, late)

pub answered_idle : (S : Setting) (c : Cluster) (n : ℕ) (x : UpNode) (disk : NodeRecord) (a : AttemptState) (b : Answer) (o : Option ℕ) (p : Option PrCommand) (replies : List Reply) (s : Scene) → next_of x.tasks ≡ p → Leads S n x a s.moments
    → ((d : ℕ) (r : SeizeResult) → progress_after x.tasks b ≡ Seized d r → AllIdle S c n (site (Up x) disk) (under replies (answered_course c n x b o p)) s)
    → AllIdle S c n (site (Up x) disk) (under replies (answered_course c n x b o p)) s
answered_idle S c n x disk a b None p replies s due k seized = tt
answered_idle S c n x disk a b (Some at) None replies s due k seized = tt
answered_idle S c n x disk a b (Some at) (Some q) replies s due k seized =
    progress_idle S c n x disk a at q b replies s due k (λ d r is. subst (λ g. AllIdle S c n (site (Up x) disk) (under replies (progress_course c n x at q b g)) s) is (seized d r is))
