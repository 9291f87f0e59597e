-- A step of a node goes as the stop in its disk is armed.
use Rattle.std.specs.Prelude.{ℕ, ◌==◌, ◌≡◌, ◌&&◌, ◌||◌, Bool, true, false, List, [], ◌∷◌, Option, None, Some, Ok, if◌then◌else◌}
use Rattle.std.specs.List.{list_any}
use Rattle.std.proofs.Common.{refl, sym, ap, subst, ◌∙◌, arith}
use Rattle.ccr_tables.specs.State.{ConfigState}
use Rattle.ccr_tables.specs.declared.address.Address.{Address}
use Rattle.cl_base.specs.declared.method.Outcome as method
use Rattle.cl_base.specs.declared.panic.Panic.TheVariants as panic
use Rattle.device_queue.specs.Queue.{begins_plainly, due_device, next_of, progress_after}
use Rattle.history.specs.Downs.{StopsWhereDue, after_four, are_four, calls_left, is_fenced_write, stop_due, stops_here, stops_next}
use Rattle.history.specs.Moment.{Moment, Told}
use Rattle.history.specs.Order.{Always, so_far, under_way}
use Rattle.node_model.specs.Clusters.{first_valid_of}
use Rattle.node_model.specs.Configurations.{in_force}
use Rattle.node_model.specs.declared.cluster.Cluster.{Cluster}
use Rattle.node_model.specs.declared.input.Input.{Input}
use Rattle.node_model.specs.declared.input.Input.TheVariants.{Answered, Boot, Client, CommandDue, Commanded, Crash, Packet, Reported, Tick, Wrote}
use Rattle.node_model.specs.declared.node.Node.{Node}
use Rattle.node_model.specs.declared.node.Node.TheVariants.{Down, Up}
use Rattle.node_model.specs.declared.node.UpNode.{UpNode}
use Rattle.node_model.specs.declared.output.Output.TheVariants.{Tells}
use Rattle.node_model.specs.declared.presidency.Presidency.{Presidency}
use Rattle.node_model.specs.Devices.{answer_told, write_told, wrote}
use Rattle.node_model.specs.Steps.{Outcome, at_second, booted_with, carried, plan_of, stepped}
use Rattle.pgr_device.specs.declared.command.PrAnswer.TheVariants as given
use Rattle.pgr_device.specs.declared.command.PrCommand.{PrCommand}
use Rattle.pgr_device.specs.declared.command.PrCommand.TheVariants as command
use Rattle.record_disk.specs.Disks.{DiskState, crashed, remounted, saving, stops_in_four}
use Rattle.record_disk.specs.Savings.{Saving}
use Rattle.record_disk.specs.declared.error.Loss.TheVariants.{Stopped}
use Rattle.refinement.specs.Cuts as cuts
use Rattle.refinement.specs.Cuts.{course_at}
use Rattle.refinement.specs.Steps.{disk_rules}
use Rattle.refinement.proofs.Cuts.{step_of_node_is_its_course}
use Rattle.schedule_text.specs.declared.event.Event.TheVariants as event
use Rattle.rg_props.specs.Lookups.{named}
use Rattle.seize.specs.Answers.{Answer}
use Rattle.status_report.specs.declared.device_entry.DeviceEntry.{DeviceEntry}
use Rattle.status_report.specs.declared.device_entry.DeviceEntry.TheVariants as device
use Rattle.status_report.specs.declared.device_entry.WriteRefusal.TheVariants.{Fenced}
use Rattle.status_report.specs.declared.entry.Entry.TheVariants as entry
use Rattle.status_report.specs.declared.node_entry.DownCause.TheVariants as cause
use Rattle.status_report.specs.declared.node_entry.NodeEntry.TheVariants as note
use Rattle.wire.specs.declared.message.Message.{Message}
use Rattle.run_history.specs.Names.{UpNames}
use Rattle.run_history.specs.Scenes.{Scene, passing}
use Rattle.run_history.proofs.Handlers.{distrusting_is, packet_is, progress_is, tick_is}
use Rattle.run_history.proofs.Idle.{if_false, if_true}
use Rattle.run_history.proofs.LineSteps.{Any, any_known, any_node}
use Rattle.run_history.proofs.Requests.{client_is, command_is, report_is}
use Rattle.run_downs.proofs.Courses.{GoesFine, KeepsNone, Walked, answer_fine, by_test, four_is, four_left, ordinary_fine, unsaved_fine, walked}
use Rattle.run_downs.proofs.Lines.{none_comes, passing_fine}
use Rattle.run_downs.specs.Calls.{GoesSo, Passed, calls_in, left_by_all}
use Rattle.run_downs.specs.Laws.{IsInOwnEvent, is_of}

same_number : (n : ℕ) → (n == n) ≡ true
same_number n = grind arith

other_number : (j n : ℕ) → (j ≡ n → ⊥) → (n == j) ≡ false
other_number j n ne = grind arith

-- ---- a boot

abbrev BootPassed : ℕ → ℕ → DiskState → Scene → Saving DiskState → Type 0
BootPassed n valid disk s m = Passed n (calls_in (booted_with n valid disk.kept m).disk.stop) s.moments (passing n (booted_with n valid disk.kept m).given s).moments

up_so : (n : ℕ) (ms : List Moment) → under_way ms ≡ Some (event.Boot n) → stop_due ms ≡ None → GoesSo ms (Told (entry.Node n note.Up))
up_so n ms boot due = record { boots = boot; crashes = tt; fences = tt; stops = tt; saves = tt; comes = none_comes ms (Told (entry.Node n note.Up)) due }

boot_passed : (n valid : ℕ) (disk : DiskState) (s : Scene) → under_way s.moments ≡ Some (event.Boot n) → calls_left n s.moments ≡ calls_in disk.stop → stop_due s.moments ≡ None
    → Always GoesSo s.moments → BootPassed n valid disk s (if stops_in_four disk.stop then record { after = crashed disk; lost = Some Stopped } else record { after = remounted disk; lost = None })
boot_passed n valid disk s boot left due so =
    by_test (BootPassed n valid disk s) (stops_in_four disk.stop) (record { after = crashed disk; lost = Some Stopped }) (record { after = remounted disk; lost = None }) stops mounts
  where
    ms : List Moment
    ms = s.moments

    first : Moment
    first = Told (entry.Node n note.Up)

    same : are_four (calls_left n ms) ≡ stops_in_four disk.stop
    same = ap are_four left ∙ four_is disk.stop

    up_left : (j : ℕ) → (j ≡ n → ⊥) → calls_left j (Told (entry.Node n note.Up) ∷ ms) ≡ calls_left j ms
    up_left j ne = if_false (n == j) (after_four (calls_left j ms)) (calls_left j ms) (other_number j n ne)

    stops : stops_in_four disk.stop ≡ true → BootPassed n valid disk s (record { after = crashed disk; lost = Some Stopped })
    stops near = record {
      so = (
        record {
          boots = tt;
          crashes = tt;
          fences = tt;
          stops = same ∙ near;
          saves = subst (λ e. is_of n e (so_far (first ∷ ms)) ≡ true) (sym boot) (same_number n);
          comes = subst (λ o. StopsWhereDue o (Told (entry.Node n (note.Down cause.Stopped)))) (sym (if_true (stops_next n ms) (Some n) None (same ∙ near))) (same_number n);
        },
        (up_so n ms boot due, so),
      );
      left = if_true (n == n) None (calls_left n (Told (entry.Node n note.Up) ∷ ms)) (same_number n);
      others = λ j ne. if_false (n == j) None (calls_left j (Told (entry.Node n note.Up) ∷ ms)) (other_number j n ne) ∙ up_left j ne;
      due = refl;
    }

    mounts : stops_in_four disk.stop ≡ false → BootPassed n valid disk s (record { after = remounted disk; lost = None })
    mounts far = record {
      so = (up_so n ms boot due, so);
      left = if_true (n == n) (after_four (calls_left n ms)) (calls_left n ms) (same_number n) ∙ (ap after_four left ∙ sym (four_left disk.stop far));
      others = up_left;
      due = if_false (stops_next n ms) (Some n) None (same ∙ far);
    }

-- ---- a write

both_true : (a b : Bool) → a ≡ true → b ≡ true → (a && b) ≡ true
both_true true true h k = refl
both_true false b h k = cc
both_true true false h k = cc

first_true : (a b : Bool) → a ≡ true → (a || b) ≡ true
first_true true b h = refl
first_true false b h = cc

not_so : false ≡ true → ⊥
not_so h = cc

-- two lines at the device
lines_passed : (n : ℕ) (k : Option ℕ) (e f : DeviceEntry) (s : Scene) → calls_left n s.moments ≡ k → stop_due s.moments ≡ None → stops_here n s.moments ≡ stops_next n s.moments → Always GoesSo s.moments
    → Passed n k s.moments (passing n (Tells (entry.Device e) ∷ Tells (entry.Device f) ∷ []) s).moments
lines_passed n k e f s left due here so = passing_fine n false k (Tells (entry.Device e) ∷ Tells (entry.Device f) ∷ []) s (tt, (tt, tt)) (λ never. absurd (not_so never)) left due here so

fence_so : (n d value : ℕ) (x : Moment) (ms : List Moment)
    → list_any (is_fenced_write n d) (so_far (Told (entry.Device (device.Refused n d value Fenced)) ∷ x ∷ ms)) ≡ true
fence_so n d value x ms = first_true ((n == n) && (d == d)) _ (both_true (n == n) (d == d) (same_number n) (same_number d))

wrote_passed : (n d value : ℕ) (x : UpNode) (a : Answer) (disk : DiskState) (s : Scene) → calls_left n s.moments ≡ calls_in disk.stop → stop_due s.moments ≡ None
    → stops_here n s.moments ≡ stops_next n s.moments → Always GoesSo s.moments
    → (let o : Outcome DiskState = carried saving n (wrote n x d value a) [] disk in Passed n (calls_in o.disk.stop) s.moments (passing n o.given s).moments)
wrote_passed n d value x (Ok given.Good) disk s left due here so = lines_passed n (calls_in disk.stop) _ _ s left due here so
wrote_passed n d value x (Ok given.Conflict) disk s left due here so =
    let first : Moment = Told (write_told n d value (Ok given.Conflict)) in
    let second : Moment = Told (entry.Device (device.Refused n d value Fenced)) in
    let p : Passed n (calls_in disk.stop) s.moments (second ∷ first ∷ s.moments) =
    lines_passed n (calls_in disk.stop) (device.Command n d (command.Write value) (answer_told (Ok given.Conflict))) (device.Refused n d value Fenced) s left due here so in
    record {
      so = (record { boots = tt; crashes = tt; fences = fence_so n d value first s.moments; stops = tt; saves = tt; comes = none_comes (second ∷ first ∷ s.moments) (Told (entry.Node n (note.Down (cause.Panic (panic.Fenced d))))) p.due }, p.so);
      left = p.left;
      others = p.others;
      due = refl;
    }
wrote_passed n d value x _ disk s left due here so = lines_passed n (calls_in disk.stop) _ _ s left due here so

-- ---- any step

-- the event that brings what comes; where it is no boot and no crash, the node has not just come up, and where it may save, the event is its own
abbrev pub AtEvent : Input → ℕ → List Moment → Type 0
AtEvent Boot n ms = under_way ms ≡ Some (event.Boot n)
AtEvent Crash n ms = under_way ms ≡ Some (event.Crash n)
AtEvent (Wrote d value a) n ms = stops_here n ms ≡ stops_next n ms
AtEvent (Client name client port) n ms = stops_here n ms ≡ stops_next n ms
AtEvent _ n ms = (stops_here n ms ≡ stops_next n ms) × IsInOwnEvent n ms

nothing_passed : (n : ℕ) (k : Option ℕ) (ms : List Moment) → calls_left n ms ≡ k → stop_due ms ≡ None → Always GoesSo ms → Passed n k ms ms
nothing_passed n k ms left due so = record { so = so; left = left; others = λ j ne. refl; due = due }

-- a course on the disk
course_passed : (c : Cluster) (n now : ℕ) (ends : method.Outcome) (may : Bool) (i : Input) (x : UpNode) (disk : DiskState) (s : Scene) → GoesFine may (course_at c n now ends x i)
    → (may ≡ true → IsInOwnEvent n s.moments) → stops_here n s.moments ≡ stops_next n s.moments → calls_left n s.moments ≡ calls_in disk.stop → stop_due s.moments ≡ None → Always GoesSo s.moments
    → (let o : Outcome DiskState = carried saving n (plan_of c n ends (at_second now x) i) [] disk in Passed n (calls_in o.disk.stop) s.moments (passing n o.given s).moments)
course_passed c n now ends may i x disk s fine owns here left due so =
    let o : Outcome DiskState = carried saving n (plan_of c n ends (at_second now x) i) [] disk in
    let w : Walked n may disk.stop [] o =
    subst (Walked n may disk.stop []) (sym ((step_of_node_is_its_course saving c n now ends x i).is [] disk)) (walked c n may x (course_at c n now ends x i) [] disk fine) in
    let p : Passed n (left_by_all (calls_in disk.stop) w.outputs) s.moments (passing n w.outputs s).moments = passing_fine n may (calls_in disk.stop) w.outputs s w.fine owns left due here so in
    subst (λ os. Passed n (calls_in o.disk.stop) s.moments (passing n os s).moments) w.given (subst (λ q. Passed n q s.moments (passing n w.outputs s).moments) w.left p)

answered_fine : (c : Cluster) (n : ℕ) (x : UpNode) (a : Answer) (o : Option ℕ) (k : Option PrCommand) → UpNames Any x → GoesFine true (cuts.answered_course c n x a o k)
answered_fine c n x a None k names = tt
answered_fine c n x a (Some d) None names = tt
answered_fine c n x a (Some d) (Some k) names =
    answer_fine Any d k a (cuts.progress_course c n x d k a (progress_after x.tasks a)) (progress_is Any c n x d k a (progress_after x.tasks a) (any_known c) names)

-- a client's request saves nothing
client_serves : (s : ConfigState) (x : UpNode) (p : Presidency) (name : List ℕ) (client port : ℕ) (o : Option Address) → KeepsNone (cuts.serving_at_course s x p name client port o)
client_serves s x p name client port None = tt
client_serves s x p name client port (Some a) = tt

client_keeps : (c : Cluster) (x : UpNode) (name : List ℕ) (client port : ℕ) (o : Option Presidency) → KeepsNone (cuts.serving_by_course c x name client port o)
client_keeps c x name client port None = tt
client_keeps c x name client port (Some p) = client_serves (in_force c x) x p name client port (named (in_force c x).addresses name)

pub client_fine : (c : Cluster) (n now : ℕ) (ends : method.Outcome) (x : UpNode) (name : List ℕ) (client port : ℕ) → GoesFine false (course_at c n now ends x (Client name client port))
client_fine c n now ends x name client port =
    (tt, unsaved_fine Any (cuts.client_course c (at_second now x) name client port) (client_is Any c (at_second now x) name client port) (client_keeps c (at_second now x) name client port x.presidency))

pub packet_fine : (c : Cluster) (n now : ℕ) (ends : method.Outcome) (x : UpNode) (from : ℕ) (m : Message) → GoesFine true (course_at c n now ends x (Packet from m))
packet_fine c n now ends x from m =
    (tt, ordinary_fine Any (cuts.packet_course c n ends (at_second now x) from m) (packet_is Any c n ends (at_second now x) from m (any_known c) (any_node (Up x))))

pub command_fine : (c : Cluster) (n now : ℕ) (ends : method.Outcome) (x : UpNode) (words : List ℕ) → GoesFine true (course_at c n now ends x (Commanded words))
command_fine c n now ends x words = (tt, ordinary_fine Any (cuts.command_course c n (at_second now x) words) (command_is Any c n (at_second now x) words))

pub report_fine : (c : Cluster) (n now : ℕ) (ends : method.Outcome) (x : UpNode) (r : List ℕ) (good : Bool) → GoesFine true (course_at c n now ends x (Reported r good))
report_fine c n now ends x r good = (tt, ordinary_fine Any (cuts.report_course c n (at_second now x) r good) (report_is Any c n (at_second now x) r good))

pub step_passed : (c : Cluster) (n now : ℕ) (ends : method.Outcome) (i : Input) (node : Node) (disk : DiskState) (s : Scene) → AtEvent i n s.moments
    → calls_left n s.moments ≡ calls_in disk.stop → stop_due s.moments ≡ None → Always GoesSo s.moments
    → (let o : Outcome DiskState = stepped disk_rules c n now ends node disk i in Passed n (calls_in o.disk.stop) s.moments (passing n o.given s).moments)
step_passed c n now ends Boot Down disk s at left due so = boot_passed n (first_valid_of c n) disk s at left due so
step_passed c n now ends _ Down disk s at left due so = nothing_passed n (calls_in disk.stop) s.moments left due so
step_passed c n now ends Boot (Up x) disk s at left due so = nothing_passed n (calls_in disk.stop) s.moments left due so
step_passed c n now ends Crash (Up x) disk s at left due so = record {
  so = (record { boots = tt; crashes = at; fences = tt; stops = tt; saves = tt; comes = none_comes s.moments (Told (entry.Node n (note.Down cause.Crash))) due }, so);
  left = left;
  others = λ j ne. refl;
  due = refl;
}
step_passed c n now ends (Wrote d value a) (Up x) disk s at left due so = wrote_passed n d value (at_second now x) a disk s left due at so
step_passed c n now ends Tick (Up x) disk s at left due so =
    course_passed c n now ends true Tick x disk s (tt, ordinary_fine Any (cuts.tick_course c n ends (at_second now x)) (tick_is Any c n ends (at_second now x) (any_known c) (any_node (Up x)))) (λ y. at.1) at.0 left due so
step_passed c n now ends (Packet from m) (Up x) disk s at left due so =
    course_passed c n now ends true (Packet from m) x disk s (packet_fine c n now ends x from m) (λ y. at.1) at.0 left due so
step_passed c n now ends CommandDue (Up x) disk s at left due so =
    course_passed c n now ends true CommandDue x disk s
    (tt, ordinary_fine Any (cuts.distrusting_course (at_second now x) (begins_plainly x.tasks)) (distrusting_is Any (at_second now x) (begins_plainly x.tasks))) (λ y. at.1) at.0 left due so
step_passed c n now ends (Answered a) (Up x) disk s at left due so =
    course_passed c n now ends true (Answered a) x disk s (tt, answered_fine c n (at_second now x) a (due_device x.tasks) (next_of x.tasks) (any_node (Up x))) (λ y. at.1) at.0 left due so
step_passed c n now ends (Commanded words) (Up x) disk s at left due so =
    course_passed c n now ends true (Commanded words) x disk s (command_fine c n now ends x words) (λ y. at.1) at.0 left due so
step_passed c n now ends (Reported r good) (Up x) disk s at left due so =
    course_passed c n now ends true (Reported r good) x disk s (report_fine c n now ends x r good) (λ y. at.1) at.0 left due so
step_passed c n now ends (Client name client port) (Up x) disk s at left due so =
    course_passed c n now ends false (Client name client port) x disk s (client_fine c n now ends x name client port) (λ never. absurd (not_so never)) at left due so
