-- The seizing whose command shows that a device is seized has not ended, in the machine of the device.
use Rattle.std.specs.Prelude.{ℕ, zero, suc, ◌≡◌, ◌<◌, ◌≤◌, ◌==◌, ◌&&◌, not, Bool, true, false, List, [], ◌∷◌, Option, None, Some, find, is_some, if◌then◌else◌}
use Rattle.std.specs.List.{AllByRecursion, list_any}
use Rattle.std.specs.Option.{option_and_then, option_map}
use Rattle.std.proofs.Common.{refl, sym, ap, subst, ◌∙◌, arith}
use Rattle.cl_base.specs.declared.header.Header.{Header}
use Rattle.cluster_machine.proofs.Whole.{InOrder}
use Rattle.cluster_machine.specs.Agreement.{SameNode}
use Rattle.cluster_machine.specs.Cluster.{Cluster as Whole}
use Rattle.cluster_ties.specs.Ties.{SeizingAt, TaskAt, WorkAt}
use Rattle.cmm_attempt.proofs.Basics.{and_cases, none_some, same_number, same_some}
use Rattle.cmm_member.specs.Records.{NodeRecord}
use Rattle.device_machine.proofs.Invariant.{Inv}
use Rattle.device_machine.specs.Phase.{Phase, rank}
use Rattle.device_machine.specs.Sharing.{Sharing}
use Rattle.device_queue.specs.Queue.{due_device, next_of, seizure_of}
use Rattle.device_queue.specs.Tasks.{is_queued, is_seizing, is_seizure_of}
use Rattle.device_queue.specs.declared.task.Task.{Task}
use Rattle.device_queue.specs.declared.task.Work.{Work}
use Rattle.device_queue.specs.declared.task.Work.TheVariants.{Seizing as Seizes, Joining as Joins}
use Rattle.device_ties.specs.Tasks.{SeizingTied, StepTied}
use Rattle.pgr_device.specs.declared.command.PrCommand.{PrCommand}
use Rattle.seize.specs.Seizing as seizing
use Rattle.seize.specs.Seizing.{SeizeState}
use Rattle.seize.specs.declared.step.SeizeStep.{SeizeStep}
use Rattle.seize.specs.declared.step.SeizeStep.TheVariants as step
use Rattle.history.specs.Member as member
use Rattle.history.specs.Moment.{Moment}
use Rattle.history.specs.Seizing.{Begun, Saw, acts_for, is_install, is_number, progress_of}
use Rattle.node_model.specs.Seats.{session_of, state_of}
use Rattle.node_model.specs.declared.cluster.Cluster.{Cluster}
use Rattle.node_model.specs.declared.node.Node.{Node}
use Rattle.node_model.specs.declared.node.Node.TheVariants.{Down, Up}
use Rattle.node_model.specs.declared.node.UpNode.{UpNode}
use Rattle.refinement.proofs.Changes.{Sees, sees}
use Rattle.refinement.specs.Doings.{site}
use Rattle.refinement.specs.Ties.{setting_of}
use Rattle.world_model.specs.Devices.{due_at}
use Rattle.run_history.specs.Sites.{SiteAt}
use Rattle.run_seizings.proofs.Progress.{if_not, if_so, no_truth, not_same, same_is}
use Rattle.run_seizings.specs.Seized.{has_installed}
use Rattle.run_devices.specs.readings.Readings.{AreSeizings, StepRead, TaskRead, TasksRead, WorkRead}
use Rattle.run_devices.specs.readings.Sites.{UpIn, UpSo}

-- ---- the task

both_true : (b c : Bool) → b ≡ true → c ≡ true → (b && c) ≡ true
both_true true c i j = j
both_true false c i j = absurd (no_truth i)

-- the task whose command is due is the seizing of its device
record Seizure (ts : List Task) (d : ℕ) : Type 0 where
  task : Task
  was : seizure_of ts d ≡ Some task
  queued : is_queued task ≡ true
  device : task.device ≡ d

due_seizure : (ts : List Task) (d : ℕ) → AreSeizings ts → due_device ts ≡ Some d → Seizure ts d
due_seizure [] d apart due = absurd (none_some d due)
due_seizure (t ∷ ts) d apart due = by_test (is_queued t) refl due (λ rest. due_seizure ts d apart.2 rest)
  where
    first : is_queued t ≡ true → t.device ≡ d → Seizure (t ∷ ts) d
    first queued same = record {
      task = t;
      was = if_so (is_seizure_of d t) (Some t) (seizure_of ts d)
          (both_true (t.device == d) (is_seizing t.work) (subst (λ z. (t.device == z) ≡ true) same (same_is t.device)) apart.0);
      queued = queued;
      device = same;
    }

    later : Seizure ts d → Seizure (t ∷ ts) d
    later z = record {
      task = z.task;
      was = if_not (is_seizure_of d t) (Some t) (seizure_of ts d)
          (ap (λ b. b && is_seizing t.work)
          (not_same t.device d (λ same. none_some z.task (sym (subst (λ j. seizure_of ts j ≡ None) same apart.1) ∙ z.was)))) ∙ z.was;
      queued = z.queued;
      device = z.device;
    }

    by_test : (b : Bool) → is_queued t ≡ b → option_map (λ (z : Task). z.device) (if b then Some t else find is_queued ts) ≡ Some d
        → (due_device ts ≡ Some d → Seizure ts d) → Seizure (t ∷ ts) d
    by_test true queued is rest = first queued (same_some t.device d is)
    by_test false other is rest = later (rest is)

due_so : (o : Option ℕ) (q : Option PrCommand) (d : ℕ) (k : PrCommand)
    → option_and_then {U = ℕ × PrCommand} (λ e. option_and_then {U = ℕ × PrCommand} (λ (j : PrCommand). Some (e, j)) q) o ≡ Some (d, k) → o ≡ Some d
due_so None q d k h = absurd (none_some (d, k) h)
due_so (Some e) None d k h = absurd (none_some (d, k) h)
due_so (Some e) (Some j) d k h = ap (λ (z : ℕ × PrCommand). Some z.0) (same_some (e, j) (d, k) h)

found_so : (P : Task → Type 0) (f : Task → Bool) (ts : List Task) (t : Task) → find f ts ≡ Some t → AllByRecursion P ts → P t
found_so P f [] t is k = absurd (none_some t is)
found_so P f (first ∷ ts) t is k = by_test (f first) is (λ e. found_so P f ts t e k.1)
  where
    by_test : (b : Bool) → (if b then Some first else find f ts) ≡ Some t → (find f ts ≡ Some t → P t) → P t
    by_test true e more = subst P (same_some first t e) k.0
    by_test false e more = more e

-- ---- the machine has it so

abbrev pub Runs : Sharing → ℕ → ℕ → Type 0
Runs s n e = (s.node n).past.ended e ≡ false

running_at : (s : Sharing) (n e : ℕ) → Inv s → (s.node n).session ≡ e → 0 < e → 6 ≤ rank (s.node n).phase → rank (s.node n).phase ≤ 8 → Runs s n e
running_at s n e i at some low high = subst (λ q. (s.node n).past.ended q ≡ false) at ((i.node n).running (subst (λ q. 0 < q) (sym at) some) high)

not_begun : (seen : List ℕ) → Saw seen ≡ Begun → ⊥
not_begun seen is = cc

step_runs : (cluster n e : ℕ) (s : Sharing) (t : SeizeState) (p : SeizeStep) (seen : List ℕ) → Inv s → (s.node n).session ≡ e → 0 < e
    → not (is_some (seizing.result_at p)) ≡ true → t.step ≡ p → StepRead (Saw seen) p → SeizingAt cluster n s t p → Runs s n e
step_runs cluster n e s t p seen i at some queued is read tied = by_step p queued is read tied
  where
    phased : (ph : Phase) → (s.node n).phase ≡ ph → 6 ≤ rank ph → rank ph ≤ 8 → Runs s n e
    phased ph same low high = running_at s n e i at some (subst (λ z. 6 ≤ rank z) (sym same) low) (subst (λ z. rank z ≤ 8) (sym same) high)

    stepped : (p : SeizeStep) → t.step ≡ p → SeizingTied cluster n s t → StepTied t.kind t.cluster p (s.node n)
    stepped p is tied = subst (λ z. StepTied t.kind t.cluster z (s.node n)) is tied.step

    by_step : (p : SeizeStep) → not (is_some (seizing.result_at p)) ≡ true → t.step ≡ p → StepRead (Saw seen) p → SeizingAt cluster n s t p → Runs s n e
    by_step step.Check q is r a = absurd (not_begun seen r)
    by_step step.Register q is r a = absurd (not_begun seen r)
    by_step step.ReadWord q is r a = absurd (not_begun seen r)
    by_step (step.Swap expected) q is r a = absurd (not_begun seen r)
    by_step step.Reserve q is r a = absurd (not_begun seen r)
    by_step (step.ReadKeys reading) q is r a = phased Phase.Reserved (stepped (step.ReadKeys reading) is a.0) (omega arith) (omega arith)
    by_step (step.Preempt victim reading) q is r a = phased Phase.Preempting (stepped (step.Preempt victim reading) is a.0).0 (omega arith) (omega arith)
    by_step (step.Confirm keys) q is r a = phased Phase.Cleared (stepped (step.Confirm keys) is a.0) (omega arith) (omega arith)
    by_step (step.Ended r) q is read a = absurd (no_truth q)

work_runs : (cluster n e : ℕ) (s : Sharing) (w : Work) (seen : List ℕ) (t : Task) → Inv s → (s.node n).session ≡ e → 0 < e → t.work ≡ w → is_queued t ≡ true
    → WorkRead (Saw seen) w → WorkAt cluster n s w → Runs s n e
work_runs cluster n e s (Joins j) seen t i at some is queued read tied = absurd read
work_runs cluster n e s (Seizes z) seen t i at some is queued read tied =
    step_runs cluster n e s z z.step seen i at some (subst (λ w. is_queued (record { device = t.device; work = w }) ≡ true) is queued) refl read tied

-- the machine has the node in its session
session_at : (c : Cluster) (W : Whole) (n d : ℕ) (disk : NodeRecord) (x : UpNode) → InOrder (setting_of c) W → SiteAt c W n (site (Up x) disk)
    → ((W.device d).node n).session ≡ session_of x
session_at c W n d disk x order at =
    let m : SameNode (W.memberships.node n) ((W.device d).node n) = (order.agrees d).node n in
    let sight : Sees W.memberships n disk (state_of x.seat) = sees c W.memberships n disk x.attempt x.seat at.tied.0 in
    m.session ∙ sight.session

-- ---- the node

not_not : (b : Bool) → not b ≡ true → b ≡ false
not_not true is = absurd (no_truth is)
not_not false is = refl

-- it is in session e
in_session : (h : Header) (ms : List Moment) (n e : ℕ) (x : UpNode) → UpSo h ms n x → is_number e (member.session_of n ms) ≡ true → (session_of x ≡ e) × (0 < session_of x)
in_session h ms n e x up is = by_session (session_of x) refl
  where
    some_of : (k : ℕ) → 0 < suc k
    some_of k = omega arith

    by_session : (q : ℕ) → session_of x ≡ q → (session_of x ≡ e) × (0 < session_of x)
    by_session zero none = absurd (no_truth (subst (λ o. is_number e o ≡ true) (up.outside none) is))
    by_session (suc k) same =
        let some : 0 < session_of x = subst (λ z. 0 < z) (sym same) (some_of k) in
        (same_number (session_of x) e (subst (λ o. is_number e o ≡ true) (up.session some) is), some)

up_runs : (h : Header) (c : Cluster) (W : Whole) (ms : List Moment) (n d e : ℕ) (k : PrCommand) (disk : NodeRecord) (x : UpNode) (seen : List ℕ)
    → InOrder (setting_of c) W → SiteAt c W n (site (Up x) disk) → UpSo h ms n x → due_at (Some (Up x)) ≡ Some (d, k) → acts_for n e ms ≡ true
    → progress_of h n e d ms ≡ Saw seen → Runs (W.device d) n e
up_runs h c W ms n d e k disk x seen order at up due acts saw =
    let two : (is_number e (member.session_of n ms) ≡ true) × (not (list_any (is_install n e) ms) ≡ true) =
    and_cases (is_number e (member.session_of n ms)) (not (list_any (is_install n e) ms)) acts in
    let here : (session_of x ≡ e) × (0 < session_of x) = in_session h ms n e x up two.0 in
    let read : TasksRead h ms n (session_of x) x.tasks =
    up.read here.1 (subst (λ q. has_installed n q ms ≡ false) (sym here.0) (not_not (list_any (is_install n e) ms) two.1)) in
    let f : Seizure x.tasks d = due_seizure x.tasks d read.0 (due_so (due_device x.tasks) (next_of x.tasks) d k due) in
    work_runs c.id n e (W.device d) f.task.work seen f.task (order.device d) (session_at c W n d disk x order at ∙ here.0)
    (subst (λ q. 0 < q) here.0 here.1) refl f.queued
    (subst (λ p. WorkRead p f.task.work) (subst (λ q. progress_of h n q d ms ≡ Saw seen) (sym here.0) saw)
    (subst (λ o. TaskRead (progress_of h n (session_of x) d ms) o) f.was (read.1 d)))
    (subst (λ j. WorkAt c.id n (W.device j) f.task.work) f.device (found_so (TaskAt c W n) (is_seizure_of d) x.tasks f.task f.was at.at.tasks))

pub due_runs : (h : Header) (c : Cluster) (W : Whole) (ms : List Moment) (n d e : ℕ) (k : PrCommand) (disk : NodeRecord) (node : Node) (seen : List ℕ)
    → InOrder (setting_of c) W → SiteAt c W n (site node disk) → UpIn h ms n node → due_at (Some node) ≡ Some (d, k) → acts_for n e ms ≡ true
    → progress_of h n e d ms ≡ Saw seen → Runs (W.device d) n e
due_runs h c W ms n d e k disk Down seen order at up due acts saw = absurd (none_some (d, k) due)
due_runs h c W ms n d e k disk (Up x) seen order at up due acts saw = up_runs h c W ms n d e k disk x seen order at up due acts saw
