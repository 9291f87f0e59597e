-- Each command is numbered, and answered by its node or taken.
use Rattle.std.specs.Prelude.{ℕ, ◌≡◌, List, Option, Some, MatchOption, slice_get}
use Rattle.std.proofs.Common.{refl, sym, subst, ◌∙◌}
use Rattle.cl_base.specs.declared.header.Header.{Header}
use Rattle.record_disk.specs.Disks.{DiskState}
use Rattle.request_queue.specs.Queue.{next_number}
use Rattle.schedule_text.specs.declared.event.Event.{Event}
use Rattle.schedule_text.specs.declared.event.Event.TheVariants as event
use Rattle.schedule_text.specs.declared.line.Line.TheVariants as line
use Rattle.history.specs.Commands.{CommandIsTaken, IfUp, IsNumbered, TakesCommand, has_own_answer, number_in, own_case}
use Rattle.history.specs.Member.{member_of}
use Rattle.history.specs.Moment.{Moment, Said}
use Rattle.history.specs.Setting.{Setting}
use Rattle.history.specs.Trace.{asked}
use Rattle.history_setting.specs.Settings.{setting_of}
use Rattle.membership_machine.specs.State.{Memberships}
use Rattle.cmm_member.specs.Records.{NodeRecord}
use Rattle.node_model.specs.Requests.{numbered}
use Rattle.node_model.specs.Seats.{version_of}
use Rattle.node_model.specs.Steps.{at_second, stepped}
use Rattle.node_model.specs.declared.cluster.Cluster.{Cluster}
use Rattle.node_model.specs.declared.input.Input.TheVariants as input
use Rattle.node_model.specs.declared.node.Node.{Node}
use Rattle.node_model.specs.declared.node.Node.TheVariants.{Down, Up}
use Rattle.node_model.specs.declared.node.UpNode.{UpNode}
use Rattle.node_model.specs.declared.output.Output.{Output}
use Rattle.refinement.specs.Steps.{disk_rules}
use Rattle.refinement.specs.Ties.{NodeTied}
use Rattle.world_model.specs.First.{first_cluster}
use Rattle.run_history.specs.Happenings.{happened}
use Rattle.run_history.specs.Happenings.Happening.{Speaks}
use Rattle.run_history.specs.Members.{NodeLines}
use Rattle.run_history.specs.Scenes.{Scene}
use Rattle.run_history.specs.Shapes.{brings, if_up, taking_this}
use Rattle.run_history.specs.Stages.{Stage}
use Rattle.run_messages.specs.Laws.{AreSeated, IsSeated}
use Rattle.run_commands.proofs.carried.Causes.{president_at}
use Rattle.run_commands.proofs.carried.Commands.{next_is}
use Rattle.run_commands.proofs.carried.Counts.{room_left}
use Rattle.run_commands.proofs.Coordinators.{AreLed, NodeLed}
use Rattle.run_commands.proofs.Counting.{is_enough, is_filled}
use Rattle.run_commands.proofs.Numbers.{asked_numbered}
use Rattle.run_commands.proofs.Presiding.{NodePresides}
use Rattle.run_commands.proofs.PresidingRuns.{PresideIn}
use Rattle.run_commands.proofs.ReadWalk.{NodeReads}
use Rattle.run_commands.proofs.Runs.{FewLines, NodeFits, WaitsIn}
use Rattle.run_commands.specs.taken.Entries.{Comes, Leave, Leaves}
use Rattle.run_commands.proofs.taken.Cases.{FitsIn}
use Rattle.run_commands.proofs.taken.Free.{Given, given_so}
use Rattle.run_commands.proofs.taken.Members.{Came, command_fits}
use Rattle.run_commands.proofs.taken.Walk.{Opening}

-- what is known of a scene
pub record CommandFacts (h : Header) (s : Scene) : Type 0 where
  pub stage : Stage (first_cluster h) s
  pub lines : (n : ℕ) → NodeLines n (s.nodes.node n) s.moments
  pub seated : AreSeated s
  pub waits : WaitsIn s
  pub few : FewLines s.moments
  pub preside : PresideIn s
  pub led : AreLed s
  pub reads : (n : ℕ) → NodeReads (version_of (first_cluster h)) (s.nodes.node n)

-- .. and of a node in it
record At (h : Header) (s : Scene) (n : ℕ) (node : Node) : Type 0 where
  machine : Memberships
  disk : NodeRecord
  tied : NodeTied (first_cluster h) machine n disk node
  lines : NodeLines n node s.moments
  seated : IsSeated s.moments n node
  fits : NodeFits n s.moments node
  few : FewLines s.moments
  presides : NodePresides n node
  led : NodeLed node
  reads : NodeReads (version_of (first_cluster h)) node

at_node : (h : Header) (s : Scene) (n : ℕ) → CommandFacts h s → At h s n (s.nodes.node n)
at_node h s n f = record {
  machine = f.stage.machine;
  disk = (s.nodes.disk n).kept;
  tied = (f.stage.stands n).tied;
  lines = f.lines n;
  seated = f.seated n;
  fits = f.waits.nodes n;
  few = f.few;
  presides = f.preside n;
  led = f.led n;
  reads = f.reads n;
}

-- the command of this number, as `history` has it
abbrev Takes : Setting → List Moment → ℕ → List ℕ → List Moment → Option ℕ → Type 0
Takes S before n words entries o = MatchOption o ⊥ (TakesCommand S before n words entries (own_case S before n (S.canonical words) (member_of n before)))

taken_so : (S : Setting) (n q : ℕ) (words : List ℕ) (before entries : List Moment) → slice_get entries 0 ≡ Some (asked n q) → IsNumbered n q before
    → FitsIn S n q words before entries (S.canonical words) (member_of n before) → Takes S before n words entries (number_in (slice_get entries 0))
taken_so S n q words before entries first is fits =
    subst (λ o. Takes S before n words entries (number_in o)) (sym first) (record { numbered = is; own_answer = fits.0; query = fits.1 })

up_so : (h : Header) (s : Scene) (n : ℕ) (x : UpNode) (words : List ℕ) (disk : DiskState) (u : Scene) (later : List Moment) → At h s n (Up x) → u.nodes.node n ≡ Up x
    → Comes (first_cluster h) u n (input.Commanded words) later → Takes (setting_of h) s.moments n words later (number_in (slice_get later 0))
up_so h s n x words disk u later k at l =
    let c : Cluster = first_cluster h in
    let S : Setting = setting_of h in
    let q : ℕ = next_number x.requests in
    let y : UpNode = numbered (at_second l.now x) in
    let os : List Output = (stepped disk_rules c n l.now l.ends (Up x) (u.nodes.disk n) (input.Commanded words)).given in
    let g : Given n q (version_of c) (at_second l.now x) words os = given_so S c n l.now l.ends x (u.nodes.disk n) words s k.reads in
    let leave : Leave os later = subst (λ z. Leave (stepped disk_rules c n l.now l.ends z (u.nodes.disk n) (input.Commanded words)).given later) at l.leave in
    let came : Came h n y words s.moments later = record {
      at = k.seated;
      presides = k.presides;
      president = president_at k.machine n y k.tied.1;
      led = k.led;
      enough = λ full. is_enough n s.moments x.requests.asked x.requests.waiting full k.fits.0;
      filled = λ many. is_filled n s.moments x.requests.asked x.requests.waiting many k.fits.0;
      free = λ none. leave.any has_own_answer (λ e. refl) ∙ g.free none;
    } in
    taken_so S n q words s.moments later (g.first later leave.first)
    (asked_numbered n q x.requests.asked s.moments (next_is x.requests.asked x refl (room_left x.requests.asked s.moments (record { low = k.fits.1; few = k.few }))) k.fits.2)
    (command_fits h c n q y words s.moments later (u.nodes.disk n) came leave)

command_so : (h : Header) (s : Scene) (n : ℕ) (node : Node) (words : List ℕ) (u : Scene) (later : List Moment) → At h s n node → u.nodes.node n ≡ node
    → Leaves (first_cluster h) u (if_up node (λ x. taking_this n (input.Commanded words))) later → CommandIsTaken (setting_of h) s.moments (Said (line.Event (event.Command n words))) later
command_so h s n Down words u later k at leaves = subst (λ b. IfUp b (Takes (setting_of h) s.moments n words later (number_in (slice_get later 0)))) (sym k.lines) tt
command_so h s n (Up x) words u later k at leaves =
    subst (λ b. IfUp b (Takes (setting_of h) s.moments n words later (number_in (slice_get later 0)))) (sym k.lines.0) (up_so h s n x words (u.nodes.disk n) u later k at leaves)

event_so : (h : Header) (s : Scene) (e : Event) (later : List Moment) → CommandFacts h s
    → Leaves (first_cluster h) (happened (first_cluster h) s (Speaks e)) (brings (first_cluster h) (happened (first_cluster h) s (Speaks e)) e) later
    → CommandIsTaken (setting_of h) s.moments (Said (line.Event e)) later
event_so h s (event.Command n words) later f leaves =
    command_so h s n (s.nodes.node n) words (happened (first_cluster h) s (Speaks (event.Command n words))) later (at_node h s n f) refl leaves
event_so h s _ later f leaves = tt

pub commands_open : (h : Header) → Opening (CommandIsTaken (setting_of h)) (first_cluster h) (CommandFacts h)
commands_open h = record { line = λ s e later f leaves. event_so h s e later f leaves; part = λ before e later. tt }
