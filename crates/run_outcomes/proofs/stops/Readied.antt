-- A node that readies itself for its command: before it registers it saves that the device is not valid.
use Rattle.std.specs.Prelude.{ℕ, ◌≡◌, Bool, true, false, List, [], ◌∷◌, Option, None, Some, if◌then◌else◌}
use Rattle.std.specs.List.{list_any}
use Rattle.std.specs.Option.{option_and_then}
use Rattle.std.proofs.Common.{refl, sym, subst, ◌∙◌}
use Rattle.cl_base.specs.Sets.{has}
use Rattle.cmm_attempt.proofs.Basics.{false_true, none_some, same_some}
use Rattle.cmm_member.specs.Records.{NodeRecord}
use Rattle.device_queue.specs.Queue.{begins_plainly, first_of}
use Rattle.device_queue.specs.Tasks.{registers_first}
use Rattle.device_queue.specs.declared.task.Task.{Task}
use Rattle.history.specs.Moment.{Moment}
use Rattle.history.specs.Order.{so_far}
use Rattle.history.specs.Queue as told
use Rattle.history.specs.Saves.{is_command_of, is_lapsed, may_save}
use Rattle.history.specs.Setting.{Setting}
use Rattle.history.specs.Validated.{Lapsed, Open, Valid, Validity, validity}
use Rattle.node_model.specs.Seats.{record_of}
use Rattle.node_model.specs.declared.cluster.Cluster.{Cluster}
use Rattle.node_model.specs.declared.node.Node.TheVariants.{Up}
use Rattle.node_model.specs.declared.node.UpNode.{UpNode}
use Rattle.refinement.specs.Courses.{Reply, under}
use Rattle.refinement.specs.Courses.Course.{Keeps, Stops}
use Rattle.refinement.specs.Courses.Reply.{Done, Lost_new, Lost_old}
use Rattle.refinement.specs.Cuts.{distrusting_course}
use Rattle.refinement.specs.Doings.{given_all, site}
use Rattle.refinement.specs.Doings.Change.{Distrusts}
use Rattle.status_report.specs.declared.entry.Entry.TheVariants as entry
use Rattle.status_report.specs.declared.node_entry.DownCause.{DownCause}
use Rattle.status_report.specs.declared.node_entry.DownCause.TheVariants as cause
use Rattle.status_report.specs.declared.node_entry.NodeEntry.TheVariants as note
use Rattle.run_history.specs.Scenes.{Scene, passing, telling}
use Rattle.run_devices.specs.validity.Laws.{Agrees}
use Rattle.run_outcomes.specs.stops.Idle.{AllDisk}
use Rattle.run_outcomes.proofs.stops.Commanded.{Comes}
use Rattle.run_outcomes.proofs.stops.DiskRules.{gone_disk, invalid_rule}
use Rattle.run_outcomes.proofs.stops.Queued.{head_same, registers_so}

-- the first task of the queue is a seizing that registers first
record Registers (ts : List Task) (d : ℕ) : Type 0 where
  task : Task
  first : first_of ts ≡ Some task
  registers : registers_first task.work ≡ true
  device : task.device ≡ d

registers_there : (ts : List Task) (d : ℕ) → begins_plainly ts ≡ Some d → Registers ts d
registers_there ts d is = by_first (first_of ts) refl is
  where
    by_test : (t : Task) → first_of ts ≡ Some t → (b : Bool) → registers_first t.work ≡ b → (if b then Some t.device else None) ≡ Some d → Registers ts d
    by_test t found true plain e = record { task = t; first = found; registers = plain; device = same_some t.device d e }
    by_test t found false plain e = absurd (none_some d e)

    by_first : (o : Option Task) → first_of ts ≡ o → option_and_then (λ (t : Task). if registers_first t.work then Some t.device else None) o ≡ Some d → Registers ts d
    by_first None found e = absurd (none_some d e)
    by_first (Some t) found e = by_test t found (registers_first t.work) refl e

not_lapsed : (v : Validity) (held : Bool) → Agrees v held → held ≡ true → is_lapsed v ≡ false
not_lapsed Valid held k is = refl
not_lapsed Lapsed held k is = absurd (false_true (sym k ∙ is))
not_lapsed Open held k is = refl

-- what is so of its devices
pub record Trusts (S : Setting) (n : ℕ) (x : UpNode) (ms : List Moment) : Type 0 where
  pub none : list_any (is_command_of n) (so_far ms) ≡ false
  pub agrees : (t : Task) → first_of x.tasks ≡ Some t → Agrees (validity S.header n t.device ms) (has (record_of x).valid t.device)

readied_may : (S : Setting) (n d : ℕ) (x : UpNode) (ms : List Moment) → begins_plainly x.tasks ≡ Some d → has (record_of x).valid d ≡ true → Trusts S n x ms → Comes S n x ms → may_save S n ms ≡ true
readied_may S n d x ms is held b k =
    let r : Registers x.tasks d = registers_there x.tasks d is in
    let t : Task = r.task in
    invalid_rule S n ms k.here b.none (λ shut.
    registers_so S n t (told.queued_of S n ms) ms (head_same x.tasks t (told.queued_of S n ms) r.first (k.queue shut)) r.registers
    (not_lapsed (validity S.header n t.device ms) (has (record_of x).valid t.device) (b.agrees t r.first) (subst (λ e. has (record_of x).valid e ≡ true) (sym r.device) held)))

pub readied_disk : (S : Setting) (c : Cluster) (n : ℕ) (x : UpNode) (disk : NodeRecord) (o : Option ℕ) (replies : List Reply) (s : Scene) → begins_plainly x.tasks ≡ o → Trusts S n x s.moments → Comes S n x s.moments
    → AllDisk S (passing n (given_all c n (site (Up x) disk) (under replies (distrusting_course x o))) s).moments
readied_disk S c n x disk None replies s is b k = k.stops
readied_disk S c n x disk (Some d) replies s is b k = by_test (has (record_of x).valid d) refl
  where
    gone : has (record_of x).valid d ≡ true → (why : DownCause) → AllDisk S (telling (entry.Node n (note.Down why)) s).moments
    gone held why = gone_disk S n why s.moments (readied_may S n d x s.moments is held b k) k.stops

    by_replies : has (record_of x).valid d ≡ true → (rs : List Reply) → AllDisk S (passing n (given_all c n (site (Up x) disk) (under rs (Keeps (Distrusts d) Stops))) s).moments
    by_replies held [] = gone held cause.Stopped
    by_replies held (Lost_new why ∷ rs) = gone held why
    by_replies held (Lost_old why ∷ rs) = gone held why
    by_replies held (Done ∷ rs) = (tt, k.stops)

    by_test : (t : Bool) → has (record_of x).valid d ≡ t → AllDisk S (passing n (given_all c n (site (Up x) disk) (under replies (if t then Keeps (Distrusts d) Stops else Stops))) s).moments
    by_test true held = by_replies held replies
    by_test false held = k.stops
