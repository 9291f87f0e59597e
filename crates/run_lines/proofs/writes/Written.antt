-- What a write comes to.
use Rattle.std.specs.Prelude.{ℕ, ◌≡◌, ◌≤◌, ◌||◌, not, Bool, true, false, List, [], ◌∷◌, Option, None, Some, Ok, Err, is_ok, length, if◌then◌else◌}
use Rattle.std.proofs.Common.{refl, sym, ap, subst, ◌∙◌}
use Rattle.attempt_laws.proofs.Walk.{if_with}
use Rattle.cl_base.specs.Sets.{has}
use Rattle.cl_base.specs.declared.header.Header.{Header}
use Rattle.cl_base.specs.declared.method.Outcome as method
use Rattle.cl_base.specs.declared.panic.Panic.TheVariants.{Fenced}
use Rattle.cmm_attempt.proofs.Basics.{false_true, if_either}
use Rattle.pgr_device.specs.Device.{Device}
use Rattle.pgr_device.specs.Spc.{answers, carried_out, conflict, good, may_write, step}
use Rattle.pgr_device.specs.declared.command.PrAnswer.TheVariants as given
use Rattle.pgr_device.specs.declared.command.PrCommand.TheVariants.{Write}
use Rattle.schedule_text.specs.declared.event.Event.TheVariants as event
use Rattle.schedule_text.specs.declared.line.Line.TheVariants as line
use Rattle.seize.specs.Answers.{Answer}
use Rattle.status_report.specs.declared.device_entry.DeviceEntry.TheVariants as device_entry
use Rattle.status_report.specs.declared.device_entry.WriteRefusal.{WriteRefusal}
use Rattle.status_report.specs.declared.device_entry.WriteRefusal.TheVariants as refusal
use Rattle.status_report.specs.declared.entry.Entry.TheVariants as entry
use Rattle.status_report.specs.declared.node_entry.DownCause.TheVariants as cause
use Rattle.status_report.specs.declared.node_entry.NodeEntry.TheVariants as note
use Rattle.history.specs.DeviceRun.{answer_of, state_of}
use Rattle.history.specs.Lines.{asked_device, epoch_in, has_joined, refusal_due, write_entries, written}
use Rattle.history.specs.Member.{is_up, member_of}
use Rattle.history.specs.Moment.{Moment, Said}
use Rattle.history.specs.Setting.{Setting, is_server, paths_of}
use Rattle.history.specs.Trace.{device}
use Rattle.node_model.specs.Clusters.{has_path}
use Rattle.node_model.specs.Devices.{answer_told, may_write_as, write_told}
use Rattle.node_model.specs.Seats.{session_of, state_of as kept_in}
use Rattle.node_model.specs.Steps.{stepped}
use Rattle.node_model.specs.declared.cluster.Cluster.{Cluster}
use Rattle.node_model.specs.declared.input.Input.TheVariants as input
use Rattle.node_model.specs.declared.node.Node.{Node}
use Rattle.node_model.specs.declared.node.Node.TheVariants.{Down, Up}
use Rattle.node_model.specs.declared.node.UpNode.{UpNode}
use Rattle.node_model.specs.declared.output.Output.{Output}
use Rattle.node_model.specs.declared.output.Output.TheVariants.{Tells}
use Rattle.node_model.specs.declared.seat.Seat.{Seat}
use Rattle.node_model.specs.declared.seat.Seat.TheVariants.{Forming, Member}
use Rattle.record_disk.specs.Disks.{DiskState}
use Rattle.refinement.specs.Guards.{OfUp}
use Rattle.refinement.specs.Runs.{moved}
use Rattle.refinement.specs.Runs.Move.{Takes as Takes_in}
use Rattle.refinement.specs.Steps.{disk_rules}
use Rattle.world_model.specs.Devices.{executed}
use Rattle.world_model.specs.First.{first_cluster}
use Rattle.run_history.specs.Happenings.{MayHappen, commanded_at, given_by, happened, taking, wrote}
use Rattle.run_history.specs.Happenings.Happening.{Writes}
use Rattle.run_history.specs.Members.{NodeLines}
use Rattle.run_history.specs.Scenes.{Scene, fault_in, passing}
use Rattle.run_history.specs.Shapes.{Want, if_up, writing}
use Rattle.run_history.specs.WorldLines.{AreDisks, IsAtDevices, IsDevice}
use Rattle.run_history.proofs.Known.{first_listed, listed_is, write_named, write_path}
use Rattle.run_messages.specs.Laws.{IsSeated, membership_in}
use Rattle.run_lines.proofs.Adds.{Adds}
use Rattle.run_lines.specs.writes.Written.{Leaves, NodeHeld, SeatHeld, Ties}
use Rattle.run_lines.proofs.writes.Paths.{no_server, path_so, paths_stay}

-- ---- the answer to a write

abbrev IsWriteAnswer : Answer → Type 0
IsWriteAnswer (Ok given.Good) = Unit {0}
IsWriteAnswer (Ok given.Conflict) = Unit {0}
IsWriteAnswer (Ok _) = ⊥
IsWriteAnswer (Err _) = Unit {0}

-- what the node gives of it
abbrev outcome_of : ℕ → ℕ → ℕ → ℕ → Answer → List Output
outcome_of e n d value (Ok given.Good) = Tells (entry.Device (device_entry.Accepted e n d value)) ∷ []
outcome_of e n d value (Ok given.Conflict) =
    Tells (entry.Device (device_entry.Refused n d value refusal.Fenced)) ∷ Tells (entry.Node n (note.Down (cause.Panic (Fenced d)))) ∷ []
outcome_of e n d value _ = Tells (entry.Device (device_entry.Refused n d value refusal.Fault)) ∷ []

wrote_given : (c : Cluster) (n now : ℕ) (ends : method.Outcome) (x : UpNode) (disk : DiskState) (d value : ℕ) (a : Answer) → IsWriteAnswer a
    → (stepped disk_rules c n now ends (Up x) disk (input.Wrote d value a)).given ≡ Tells (write_told n d value a) ∷ outcome_of (session_of x) n d value a
wrote_given c n now ends x disk d value (Ok given.Good) is = refl
wrote_given c n now ends x disk d value (Ok given.Conflict) is = refl
wrote_given c n now ends x disk d value (Err _) is = refl
wrote_given c n now ends x disk d value (Ok _) is = absurd is

-- these entries are added, and no other
pub record Adding (before after entries : List Moment) : Type 0 where
  pub adds : Adds before after
  pub are : adds.entries ≡ entries

wrote_passing : (t : Scene) (e n d value : ℕ) (a : Answer) → IsWriteAnswer a
    → Adding t.moments (passing n (Tells (write_told n d value a) ∷ outcome_of e n d value a) t).moments (device n d (Write value) (answer_told a) ∷ written e n d value (answer_told a))
wrote_passing t e n d value (Ok given.Good) is =
    record { adds = record { entries = device n d (Write value) (answer_told (Ok given.Good)) ∷ written e n d value (answer_told (Ok given.Good)); are = (tt, (tt, tt)); is = refl }; are = refl }
wrote_passing t e n d value (Ok given.Conflict) is =
    record { adds = record { entries = device n d (Write value) (answer_told (Ok given.Conflict)) ∷ written e n d value (answer_told (Ok given.Conflict)); are = (tt, (tt, (tt, tt))); is = refl }; are = refl }
wrote_passing t e n d value (Err _) is =
    record { adds = record { entries = device n d (Write value) (answer_told (Err (record {}))) ∷ written e n d value (answer_told (Err (record {}))); are = (tt, (tt, tt)); is = refl }; are = refl }
wrote_passing t e n d value (Ok _) is = absurd is

-- a device with a path to the node answers so
step_answers : (x : Device) (n value : ℕ) → has x.paths n ≡ true → IsWriteAnswer (Ok (step x n (Write value)).answer)
step_answers x n value path =
    if_with (λ o. IsWriteAnswer (Ok o.answer)) (has x.paths n) (has x.paths n) (carried_out x n (Write value)) (answers x given.NoPath) refl
    (λ is. if_either (λ o. IsWriteAnswer (Ok o.answer)) (may_write x.registrations n x.reservation) (good (record x { value = value })) (conflict x) tt tt)
    (λ none. absurd (false_true (sym none ∙ path)))

write_answers : (x : Device) (n value : ℕ) (f : Option Bool) → has x.paths n ≡ true → IsWriteAnswer (executed x n (Write value) f).answer
write_answers x n value None path = step_answers x n value path
write_answers x n value (Some true) path = tt
write_answers x n value (Some false) path = tt

same_answer : (x : Device) (n value : ℕ) (f : Option Bool) → answer_told (executed x n (Write value) f).answer ≡ answer_of f x n (Write value)
same_answer x n value None = refl
same_answer x n value (Some true) = refl
same_answer x n value (Some false) = refl

-- ---- a write that is carried out

-- the node is a member
record Writer (c : Cluster) (n d : ℕ) (x : UpNode) (moments : List Moment) : Type 0 where
  member : member_of n moments ≡ Some (session_of x)
  path : has_path c.attached n d ≡ true

member_writes : (c : Cluster) (n d : ℕ) (x : UpNode) (ms : List Moment) (seat : Seat) → x.seat ≡ seat → member_of n ms ≡ membership_in seat → is_ok (may_write_as c n d seat) ≡ true
    → Writer c n d x ms
member_writes c n d x ms (Forming s) at seated may = absurd (false_true may)
member_writes c n d x ms (Member s) at seated may = record {
  member = seated ∙ sym (ap (λ z. Some (kept_in z).session) at);
  path = write_path c n d (Member s) may;
}

wrote_so : (c : Cluster) (t : Scene) (ms : List Moment) (n d value now : ℕ) (ends : method.Outcome) (x : Device) (f : Option Bool) (y : UpNode) (e : ℕ) → t.moments ≡ ms → t.nodes.node n ≡ Up y → session_of y ≡ e → has x.paths n ≡ true
    → (let a : Answer = (executed x n (Write value) f).answer in
    Adding ms (taking c n now ends (input.Wrote d value a) t).moments (device n d (Write value) (answer_of f x n (Write value)) ∷ written e n d value (answer_of f x n (Write value))))
wrote_so c t ms n d value now ends x f y e same at session path =
    let a : Answer = (executed x n (Write value) f).answer in
    let u : Scene = record t { nodes = moved c t.nodes (Takes_in n now ends (input.Wrote d value a)) } in
    let is : IsWriteAnswer a = write_answers x n value f path in
    let gives : given_by c n now ends (input.Wrote d value a) t.nodes ≡ Tells (write_told n d value a) ∷ outcome_of e n d value a =
    subst (λ z. (stepped disk_rules c n now ends z (t.nodes.disk n) (input.Wrote d value a)).given ≡ Tells (write_told n d value a) ∷ outcome_of e n d value a) (sym at)
    (subst (λ q. (stepped disk_rules c n now ends (Up y) (t.nodes.disk n) (input.Wrote d value a)).given ≡ Tells (write_told n d value a) ∷ outcome_of q n d value a) session
    (wrote_given c n now ends y (t.nodes.disk n) d value a is)) in
    subst (λ r. Adding ms (taking c n now ends (input.Wrote d value a) t).moments (device n d (Write value) r ∷ written e n d value r)) (same_answer x n value f)
    (subst (λ os. Adding ms (passing n os u).moments (device n d (Write value) (answer_told a) ∷ written e n d value (answer_told a))) (sym gives)
    (subst (λ z. Adding z (passing n (Tells (write_told n d value a) ∷ outcome_of e n d value a) u).moments (device n d (Write value) (answer_told a) ∷ written e n d value (answer_told a))) same
    (wrote_passing u e n d value a is)))

write_at : (S : Setting) (s : Scene) (n d value now : ℕ) (ends : method.Outcome) (z : Node) → length S.header.devices ≤ 16 → 1 ≤ n → IsAtDevices S.header s → s.nodes.node n ≡ z → IsSeated s.moments n z
    → OfUp (λ x. is_ok (may_write_as (first_cluster S.header) n d x.seat) ≡ true) z
    → Adding s.moments (happened (first_cluster S.header) s (Writes n d value now ends)).moments (asked_device S s.moments n d value None)
write_at S s n d value now ends Down few low devices at seated may = absurd may
write_at S s n d value now ends (Up y) few low devices at seated may =
    let h : Header = S.header in
    let c : Cluster = first_cluster h in
    let ms : List Moment = s.moments in
    let is : IsDevice h d = listed_is h d few (write_named c n d y.seat (first_listed h few) may) in
    let w : Writer c n d y ms = member_writes c n d y ms y.seat refl seated may in
    let x : Device = state_of h d ms in
    let path : has x.paths n ≡ true = ap (λ p. has p n) (paths_stay h d ms) ∙ (sym (path_so h n d is.0) ∙ w.path) in
    let done : Scene = (commanded_at s n d (Some x) (Write value)).scene in
    subst (λ o. Adding ms (wrote c n d value now ends (commanded_at s n d o (Write value))).moments (asked_device S ms n d value None)) (sym (devices.states d is))
    (subst (λ f. Adding ms (wrote c n d value now ends (commanded_at s n d (Some x) (Write value))).moments
    (device n d (Write value) (answer_of f x n (Write value)) ∷ written (epoch_in (member_of n ms)) n d value (answer_of f x n (Write value)))) (devices.armed n d low is)
    (wrote_so c done ms n d value now ends x (fault_in s n d) y (epoch_in (member_of n ms)) refl at (sym (ap epoch_in w.member)) path))

pub write_adds : (S : Setting) (s : Scene) (n d value now : ℕ) (ends : method.Outcome) → length S.header.devices ≤ 16 → Ties S s → MayHappen (first_cluster S.header) s (Writes n d value now ends)
    → Adding s.moments (happened (first_cluster S.header) s (Writes n d value now ends)).moments (asked_device S s.moments n d value None)
write_adds S s n d value now ends few ties may = write_at S s n d value now ends (s.nodes.node n) few may.0.0 ties.devices refl (ties.seats n) may.1

-- ---- what is due is what the lines say

abbrev due_by : Bool → Bool → Bool → Option WriteRefusal
due_by path server joined = if not path || server then Some refusal.NoPath else (if joined then None else Some refusal.NotHeld)

due_so : (S : Setting) (ms : List Moment) (n d e : ℕ) (path joined : Bool) → is_server S.header d ≡ false → has (paths_of S.header d) n ≡ path → (path ≡ true → has_joined n d e ms ≡ joined)
    → refusal_due S ms n d (Some e) ≡ due_by path false joined
due_so S ms n d e path joined server is held =
    ap (λ b. due_by b (is_server S.header d) (has_joined n d e ms)) is ∙ (ap (λ b. due_by path b (has_joined n d e ms)) server ∙ by_path path held)
  where
    by_path : (p : Bool) → (p ≡ true → has_joined n d e ms ≡ joined) → due_by p false (has_joined n d e ms) ≡ due_by p false joined
    by_path true f = ap (λ b. due_by true false b) (f refl)
    by_path false f = refl

-- the line of the write stands before its entries
abbrev LineLeaves : Setting → List Moment → ℕ → ℕ → ℕ → List Want → List Moment → Type 0
LineLeaves S ms n d value wants later = Leaves S (Said (line.Event (event.Write n d value)) ∷ ms) wants later

seat_written : (S : Setting) (ms : List Moment) (n d value : ℕ) (seat : Seat) (later : List Moment) → AreDisks S.header → 1 ≤ d → member_of n ms ≡ membership_in seat
    → (has_path (first_cluster S.header).attached n d ≡ true → SeatHeld ms n d seat) → LineLeaves S ms n d value (writing n d value (may_write_as (first_cluster S.header) n d seat)) later
    → later ≡ write_entries S ms n d value
seat_written S ms n d value (Forming s) later disks low seated held leaves = leaves ∙ ap (λ o. asked_device S ms n d value (refusal_due S ms n d o)) (sym seated)
seat_written S ms n d value (Member s) later disks low seated held leaves =
    by_tests (has_path (first_cluster S.header).attached n d) (has s.joined d) (sym (path_so S.header n d low)) held leaves
    ∙ ap (λ o. asked_device S ms n d value (refusal_due S ms n d o)) (sym seated)
  where
    by_tests : (p j : Bool) → has (paths_of S.header d) n ≡ p → (p ≡ true → has_joined n d s.session ms ≡ j)
        → LineLeaves S ms n d value (writing n d value (if p then (if j then Ok s.session else Err refusal.NotHeld) else Err refusal.NoPath)) later
        → later ≡ asked_device S ms n d value (refusal_due S ms n d (Some s.session))
    by_tests true true path joined l = l ∙ ap (asked_device S ms n d value) (sym (due_so S ms n d s.session true true (no_server S.header d disks) path joined))
    by_tests true false path joined l = l ∙ ap (asked_device S ms n d value) (sym (due_so S ms n d s.session true false (no_server S.header d disks) path joined))
    by_tests false j path joined l = l ∙ ap (asked_device S ms n d value) (sym (due_so S ms n d s.session false j (no_server S.header d disks) path joined))

node_written : (S : Setting) (ms : List Moment) (n d value : ℕ) (z : Node) (later : List Moment) → AreDisks S.header → 1 ≤ d → is_up n ms ≡ true → NodeLines n z ms → IsSeated ms n z
    → NodeHeld (first_cluster S.header) ms n d z → LineLeaves S ms n d value (if_up z (λ x. writing n d value (may_write_as (first_cluster S.header) n d x.seat))) later
    → later ≡ write_entries S ms n d value
node_written S ms n d value Down later disks low on lines seated held leaves = absurd (false_true (sym lines ∙ on))
node_written S ms n d value (Up x) later disks low on lines seated held leaves = seat_written S ms n d value x.seat later disks low seated held leaves

pub line_written : (S : Setting) (s : Scene) (n d value : ℕ) (later : List Moment) → AreDisks S.header → Ties S s → 1 ≤ d → is_up n s.moments ≡ true
    → LineLeaves S s.moments n d value (if_up (s.nodes.node n) (λ x. writing n d value (may_write_as (first_cluster S.header) n d x.seat))) later
    → later ≡ write_entries S s.moments n d value
line_written S s n d value later disks ties low on leaves =
    node_written S s.moments n d value (s.nodes.node n) later disks low on (ties.nodes n) (ties.seats n) (ties.held n d) leaves
