-- The task whose command is due, and how far it is by the answer.
use Rattle.std.specs.Prelude.{ℕ, ◌≡◌, ◌<◌, ◌==◌, ◌&&◌, Bool, true, false, List, [], ◌∷◌, Some, Ok, Err, find, if◌then◌else◌}
use Rattle.std.specs.List.{AllByRecursion, list_any}
use Rattle.std.proofs.Common.{refl, sym, subst, ◌∙◌}
use Rattle.cl_base.specs.Keys as keys
use Rattle.cl_base.specs.Sets.{has}
use Rattle.cmm_attempt.proofs.Basics.{none_some, same_some}
use Rattle.device_queue.specs.Queue.{after_answer, first_of}
use Rattle.device_queue.specs.Tasks.{answered, command_in, is_queued, work_answered}
use Rattle.device_queue.specs.declared.task.Task.{Task}
use Rattle.device_queue.specs.declared.task.Work.{Work}
use Rattle.device_queue.specs.declared.task.Work.TheVariants.{Seizing as Seizes, Joining as Joins}
use Rattle.pgr_device.specs.declared.command.PrAnswer.TheVariants as given
use Rattle.pgr_device.specs.declared.command.PrCommand.{PrCommand}
use Rattle.pgr_device.specs.declared.command.PrCommand.TheVariants as command
use Rattle.seize.specs.Answers.{Answer, is_good}
use Rattle.seize.specs.Joining as joining
use Rattle.seize.specs.Joining.{JoinState}
use Rattle.seize.specs.declared.kind.JoinResult.TheVariants as end
use Rattle.seize.specs.declared.step.JoinStep.{JoinStep}
use Rattle.seize.specs.declared.step.JoinStep.TheVariants as join
use Rattle.status_report.specs.declared.device_entry.DeviceEntry.TheVariants as device_entry
use Rattle.status_report.specs.declared.entry.Entry.TheVariants as entry
use Rattle.wire.specs.Spelling.{IsDevice as IsNumber}
use Rattle.history.specs.Moment.{Moment, Told}
use Rattle.history.specs.Order.{since}
use Rattle.history.specs.Seizing.{is_install}
use Rattle.history.specs.Validated.{registers}
use Rattle.node_model.specs.Devices.{answer_told}
use Rattle.node_model.specs.Seats.{installed_of, record_of, session_of}
use Rattle.node_model.specs.declared.node.UpNode.{UpNode}
use Rattle.run_history.specs.Happenings.{IsReadied}
use Rattle.run_seizings.proofs.Progress.{if_not, if_so, or_left, same_is}
use Rattle.run_seizings.proofs.Promising.{and_both, same_so}
use Rattle.run_devices.specs.validity.Kept.{HasEntered, JoinSo, MovedSo, TaskSo, UpSo, WorkSo}
use Rattle.run_devices.proofs.validity.Stills.{entered_more, task_stays, tasks_stay}

-- ---- the task whose command is due

abbrev pub WorkFits : UpNode → ℕ → Work → Type 0
WorkFits x d (Seizes s) = installed_of x < session_of x
WorkFits x d (Joins j) = (has (record_of x).valid d ≡ false) × (j.epoch ≡ session_of x) × (session_of x ≡ installed_of x) × (0 < session_of x)

pub record IsFirst (x : UpNode) (at : ℕ) (k : PrCommand) : Type 0 where
  pub task : Task
  pub found : first_of x.tasks ≡ Some task
  pub device : task.device ≡ at
  pub command : command_in task.work ≡ Some k
  pub number : IsNumber at
  pub fits : WorkFits x at task.work
  pub readied : IsReadied x

-- the line of the answer
abbrev pub line_of : ℕ → ℕ → PrCommand → Answer → Moment
line_of n at k a = Told (entry.Device (device_entry.Command n at k (answer_told a)))

pub no_truth : false ≡ true → ⊥
no_truth e = cc

pub found_so : (P : Task → Type 0) (f : Task → Bool) (ts : List Task) (t : Task) → find f ts ≡ Some t → AllByRecursion P ts → P t
found_so P f [] t is k = absurd (none_some t is)
found_so P f (first ∷ ts) t is k = by_test (f first) is (λ e. found_so P f ts t e k.1)
  where
    by_test : (b : Bool) → (if b then Some first else find f ts) ≡ Some t → (find f ts ≡ Some t → P t) → P t
    by_test true e more = subst P (same_some first t e) k.0
    by_test false e more = more e

-- ---- how far the tasks are

pub same_two : (n at d : ℕ) → at ≡ d → ((n == n) && (at == d)) ≡ true
same_two n at d is = and_both (n == n) (at == d) (same_is n) (same_so at d is)

-- a good answer to the `ignore` of a joining
entered_now : (ms : List Moment) (n q e at d key : ℕ) (a : Answer) → q ≡ e → at ≡ d
    → JoinSo (line_of n at (command.Ignore key) a ∷ ms) n q e d (if is_good a then join.ReadWord else join.Ended end.Fault)
entered_now ms n q e at d key (Ok given.Good) same here =
    (same, or_left ((n == n) && (at == d)) (list_any (registers n d) (since (is_install n q) ms)) (same_two n at d here))
entered_now ms n q e at d key (Ok given.Conflict) same here = tt
entered_now ms n q e at d key (Ok given.InvalidRelease) same here = tt
entered_now ms n q e at d key (Ok given.NoPath) same here = tt
entered_now ms n q e at d key (Ok (given.Keys keys)) same here = tt
entered_now ms n q e at d key (Ok (given.Holder holder)) same here = tt
entered_now ms n q e at d key (Ok (given.Word word)) same here = tt
entered_now ms n q e at d key (Ok (given.Value v)) same here = tt
entered_now ms n q e at d key (Ok (given.Miscompare word)) same here = tt
entered_now ms n q e at d key (Err lost) same here = tt

join_answered : (ms : List Moment) (n q e at d : ℕ) (k : PrCommand) (a : Answer) (j : JoinState) (s : JoinStep) → joining.command_at j s ≡ Some k → q ≡ e → at ≡ d
    → JoinSo (line_of n at k a ∷ ms) n q e d (joining.next_step j s a)
join_answered ms n q e at d k a j join.Register is same here =
    let own : ℕ = keys.key_of j.cluster j.me in
    subst (λ z. JoinSo (line_of n at z a ∷ ms) n q e d (if is_good a then join.ReadWord else join.Ended end.Fault)) (same_some (command.Ignore own) k is)
    (entered_now ms n q e at d own a same here)
join_answered ms n q e at d k a j join.ReadWord is same here = tt
join_answered ms n q e at d k a j (join.Ended r) is same here = tt

work_taken : (ms : List Moment) (n at d : ℕ) (x : UpNode) (k : PrCommand) (a : Answer) (w : Work) → command_in w ≡ Some k → WorkFits x at w → at ≡ d
    → WorkSo (line_of n at k a ∷ ms) n (session_of x) (installed_of x) d (work_answered a w)
work_taken ms n at d x k a (Seizes s) is fits here = tt
work_taken ms n at d x k a (Joins j) is fits here = join_answered ms n (session_of x) (installed_of x) at d k a j j.step is fits.2 here

tasks_taken : (ms : List Moment) (z : Moment) (n q e : ℕ) (a : Answer) (ts : List Task) → ((d q : ℕ) → HasEntered ms n d q → HasEntered (z ∷ ms) n d q)
    → ((t : Task) → first_of ts ≡ Some t → TaskSo (z ∷ ms) n q e (answered a t)) → AllByRecursion (TaskSo ms n q e) ts → AllByRecursion (TaskSo (z ∷ ms) n q e) (after_answer ts a)
tasks_taken ms z n q e a [] more first k = tt
tasks_taken ms z n q e a (t ∷ ts) more first k =
    by_test (is_queued t) refl (λ is. tasks_taken ms z n q e a ts more (λ u found. first u (if_not (is_queued t) (Some t) (find is_queued ts) is ∙ found)) k.1)
  where
    by_test : (b : Bool) → is_queued t ≡ b → (is_queued t ≡ false → AllByRecursion (TaskSo (z ∷ ms) n q e) (after_answer ts a))
        → AllByRecursion (TaskSo (z ∷ ms) n q e) (if b then answered a t ∷ ts else t ∷ after_answer ts a)
    by_test true is rest = (first t (if_so (is_queued t) (Some t) (find is_queued ts) is), tasks_stay ms z n q e ts more k.1)
    by_test false is rest = (task_stays ms z n q e t.device t.work more k.0, rest is)

-- the line of a command leaves all but how far the tasks are
pub taken_up : (ms : List Moment) (n at : ℕ) (x y : UpNode) (k : PrCommand) (a : Answer) → IsFirst x at k → session_of y ≡ session_of x → installed_of y ≡ installed_of x
    → y.tasks ≡ after_answer x.tasks a → UpSo ms n x → UpSo (line_of n at k a ∷ ms) n y
taken_up ms n at x y k a f session installed tasks up =
    let z : Moment = line_of n at k a in
    let all : AllByRecursion (TaskSo (z ∷ ms) n (session_of x) (installed_of x)) (after_answer x.tasks a) =
    tasks_taken ms z n (session_of x) (installed_of x) a x.tasks (λ d q is. entered_more ms n d q z refl is)
    (λ t found. subst (λ (u : Task). TaskSo (z ∷ ms) n (session_of x) (installed_of x) (answered a u)) (same_some f.task t (sym f.found ∙ found))
    (work_taken ms n at f.task.device x k a f.task.work f.command f.fits (sym f.device))) up.tasks in
    record {
      moved = λ some.
          let old : MovedSo ms n (session_of x) (installed_of x) = up.moved (subst (λ q. 0 < q) session some) in
          subst (λ e. MovedSo (z ∷ ms) n (session_of y) e) (sym installed)
          (subst (λ q. MovedSo (z ∷ ms) n q (installed_of x)) (sym session) (record { stands = old.stands; moved = old.moved }));
      tasks = subst (λ ts. AllByRecursion (TaskSo (z ∷ ms) n (session_of y) (installed_of y)) ts) (sym tasks)
          (subst (λ e. AllByRecursion (TaskSo (z ∷ ms) n (session_of y) e) (after_answer x.tasks a)) (sym installed)
          (subst (λ q. AllByRecursion (TaskSo (z ∷ ms) n q (installed_of x)) (after_answer x.tasks a)) (sym session) all));
    }
