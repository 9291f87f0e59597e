-- The tasks of a node: one is put at the end, and the first that is queued takes the answer to its command.
use Rattle.std.specs.Prelude.{ℕ, ◌≡◌, ◌++◌, not, nat_le, Bool, true, false, List, [], ◌∷◌, Option, None, Some, find, is_some, Ok, if◌then◌else◌}
use Rattle.std.specs.List.{AllByRecursion, list_any}
use Rattle.std.specs.Option.{option_and_then, option_map}
use Rattle.std.proofs.Common.{refl, sym, subst, inl, inr}
use Rattle.cl_base.specs.Seizings.{SeizeResult}
use Rattle.cl_base.specs.declared.header.Header.{Header}
use Rattle.cmm_attempt.proofs.Basics.{if_either, none_some, same_some}
use Rattle.device_queue.specs.Queue.{after_answer, after_join, after_seize, due_device, join_of, next_of, put_unless, seizure_of}
use Rattle.device_queue.specs.Tasks.{answered, command_in, is_queued, result_in, work_answered}
use Rattle.device_queue.specs.declared.task.Task.{Task}
use Rattle.device_queue.specs.declared.task.Work.{Work}
use Rattle.device_queue.specs.declared.task.Work.TheVariants.{Joining as Joins, Seizing as Seizes}
use Rattle.history.specs.Moment.{Moment}
use Rattle.history.specs.Seizing.{is_attempt}
use Rattle.node_model.specs.Attempts.{is_to_join, joining_from, joining_with}
use Rattle.node_model.specs.declared.cluster.Cluster.{Cluster}
use Rattle.pgr_device.specs.declared.command.PrAnswer.TheVariants as answer
use Rattle.pgr_device.specs.declared.command.PrCommand.{PrCommand}
use Rattle.pgr_device.specs.declared.command.PrCommand.TheVariants as command
use Rattle.run_history.proofs.Lists.{both}
use Rattle.run_history.specs.Guards.{HasEnded}
use Rattle.run_seizings.proofs.Stages.{AreOwn}
use Rattle.run_seizings.proofs.Stays.{all_fresh_stay, base_stays, either_maps}
use Rattle.run_seizings.specs.Seized.{Base, Either, Fresh, FreshWork, IsFirst}
use Rattle.seize.specs.Answers.{Answer}
use Rattle.seize.specs.Joining.{JoinState}
use Rattle.seize.specs.Joining as joining
use Rattle.seize.specs.Seizing.{SeizeState, command_at, next_step, result_at}
use Rattle.seize.specs.declared.step.SeizeStep.{SeizeStep}
use Rattle.seize.specs.declared.step.SeizeStep.TheVariants as step
use Rattle.wire.specs.declared.lists.Reading.{Reading}
use Rattle.run_outcomes.specs.results.Shown.{EndShown, StepShown, TasksShown, WorkShown}
use Rattle.run_outcomes.proofs.results.Answered.{seizing_shown}
use Rattle.run_outcomes.proofs.results.Words.{Fits, IsHigh, line}
use Rattle.run_outcomes.proofs.results.Stays.{end_stays}
use Rattle.run_outcomes.specs.results.Tried.{TasksHeld, WorkHeld}

-- ---- those that have not begun

first_step : (h : Header) (ms : List Moment) (n e d : ℕ) (s : SeizeStep) → IsFirst s → StepShown h ms n e d s
first_step h ms n e d step.Check is = tt
first_step h ms n e d step.Register is = tt
first_step h ms n e d step.ReadWord is = absurd is
first_step h ms n e d (step.Swap expected) is = absurd is
first_step h ms n e d step.Reserve is = absurd is
first_step h ms n e d (step.ReadKeys reading) is = absurd is
first_step h ms n e d (step.Preempt victim reading) is = absurd is
first_step h ms n e d (step.Confirm ks) is = absurd is
first_step h ms n e d (step.Ended r) is = absurd is

fresh_work : (h : Header) (ms : List Moment) (n q d : ℕ) (w : Work) → FreshWork h ms n q w → WorkShown h ms n q d w
fresh_work h ms n q d (Seizes s) k = (k.0, first_step h ms n q d s.step k.1)
fresh_work h ms n q d (Joins j) k = tt

either_of : (b : Bool) (P Q : Type 0) → P → Q → Either b P Q
either_of true P Q p q = p
either_of false P Q p q = q

fresh_tasks : (h : Header) (ms : List Moment) (n q : ℕ) (ts : List Task) → AllByRecursion (Fresh h ms n q) ts → TasksShown h ms n q ts
fresh_tasks h ms n q [] k = tt
fresh_tasks h ms n q (t ∷ ts) k =
    (fresh_work h ms n q t.device t.work k.0, either_of (is_queued t) (AllByRecursion (Fresh h ms n q) ts) (TasksShown h ms n q ts) k.1 (fresh_tasks h ms n q ts k.1))

-- ---- one more

put_last : (h : Header) (ms : List Moment) (n q : ℕ) (ts : List Task) (new : Task) → Fresh h ms n q new → TasksShown h ms n q ts → TasksShown h ms n q (ts ++ new ∷ [])
put_last h ms n q [] new fresh k = fresh_tasks h ms n q (new ∷ []) (fresh, tt)
put_last h ms n q (t ∷ ts) new fresh k = (
  k.0,
  either_maps (is_queued t) (AllByRecursion (Fresh h ms n q) ts) (TasksShown h ms n q ts) (AllByRecursion (Fresh h ms n q) (ts ++ new ∷ [])) (TasksShown h ms n q (ts ++ new ∷ []))
      (λ all. both (Fresh h ms n q) ts (new ∷ []) all (fresh, tt)) (put_last h ms n q ts new fresh) k.1,
)

put_shown : (h : Header) (ms : List Moment) (n q : ℕ) (o : Option Task) (new : Task) (ts : List Task) → Fresh h ms n q new → TasksShown h ms n q ts → TasksShown h ms n q (put_unless o new ts)
put_shown h ms n q None new ts fresh k = put_last h ms n q ts new fresh k
put_shown h ms n q (Some t) new ts fresh k = k

pub seize_shown : (h : Header) (ms : List Moment) (n q d : ℕ) (ts : List Task) (s : SeizeState) → Base h ms n q s → IsFirst s.step → TasksShown h ms n q ts
    → TasksShown h ms n q (after_seize ts d s)
seize_shown h ms n q d ts s base first k = put_shown h ms n q (seizure_of ts d) (record { device = d; work = Seizes s }) ts (base, first) k

join_shown : (h : Header) (ms : List Moment) (n q d : ℕ) (ts : List Task) (j : JoinState) → TasksShown h ms n q ts → TasksShown h ms n q (after_join ts d j)
join_shown h ms n q d ts j k = put_shown h ms n q (join_of ts d) (record { device = d; work = Joins j }) ts tt k

pub joins_shown : (h : Header) (c : Cluster) (ms : List Moment) (n q me e joined : ℕ) (rs : List Reading) (ts : List Task) → TasksShown h ms n q ts
    → TasksShown h ms n q (joining_from c me e joined ts rs)
joins_shown h c ms n q me e joined [] ts k = k
joins_shown h c ms n q me e joined (r ∷ rs) ts k =
    joins_shown h c ms n q me e joined rs (joining_with c me e joined ts r)
    (if_either (TasksShown h ms n q) (is_to_join c me joined r) (after_join ts r.device (joining.begun e me c.id)) ts (join_shown h ms n q r.device ts (joining.begun e me c.id) k) k)

-- ---- one that has ended

-- how it ended is shown, and its attempt has begun
pub record Ended (h : Header) (ms : List Moment) (n q d : ℕ) (r : SeizeResult) : Type 0 where
  pub begun : list_any (is_attempt q) ms ≡ true
  pub shown : EndShown h q d ms n r

step_ended : (h : Header) (ms : List Moment) (n q d : ℕ) (r : SeizeResult) (s : SeizeStep) → result_at s ≡ Some r → StepShown h ms n q d s → EndShown h q d ms n r
step_ended h ms n q d r (step.Ended result) is k = subst (λ z. EndShown h q d ms n z) (same_some result r is) k
step_ended h ms n q d r step.Check is k = absurd (none_some r is)
step_ended h ms n q d r step.Register is k = absurd (none_some r is)
step_ended h ms n q d r step.ReadWord is k = absurd (none_some r is)
step_ended h ms n q d r (step.Swap expected) is k = absurd (none_some r is)
step_ended h ms n q d r step.Reserve is k = absurd (none_some r is)
step_ended h ms n q d r (step.ReadKeys reading) is k = absurd (none_some r is)
step_ended h ms n q d r (step.Preempt victim reading) is k = absurd (none_some r is)
step_ended h ms n q d r (step.Confirm ks) is k = absurd (none_some r is)

work_ended : (h : Header) (ms : List Moment) (n q d : ℕ) (r : SeizeResult) (w : Work) → result_in w ≡ Some r → WorkShown h ms n q d w → Ended h ms n q d r
work_ended h ms n q d r (Seizes s) is k = record { begun = k.0.of.0; shown = step_ended h ms n q d r s.step is k.1 }
work_ended h ms n q d r (Joins j) is k = absurd (none_some r is)

pub rest_shown : (h : Header) (ms : List Moment) (n q : ℕ) (b : Bool) (ts : List Task) → Either b (AllByRecursion (Fresh h ms n q) ts) (TasksShown h ms n q ts) → TasksShown h ms n q ts
rest_shown h ms n q true ts k = fresh_tasks h ms n q ts k
rest_shown h ms n q false ts k = k

pub ended_shown : (h : Header) (ms : List Moment) (n q d : ℕ) (r : SeizeResult) (ts : List Task) → HasEnded ts d r → TasksShown h ms n q ts → Ended h ms n q d r
ended_shown h ms n q d r [] ended k = absurd ended
ended_shown h ms n q d r (t ∷ ts) (inl here) k = subst (λ z. Ended h ms n q z r) here.0 (work_ended h ms n q t.device r t.work here.1 k.0)
ended_shown h ms n q d r (t ∷ ts) (inr later) k = ended_shown h ms n q d r ts later (rest_shown h ms n q (is_queued t) ts k.1)

-- ---- the answer

abbrev pub WorkHigh : Work → Answer → Type 0
WorkHigh (Seizes s) a = IsHigh s a × ((k : PrCommand) → command_at s s.step ≡ Some k → Fits k a)
WorkHigh (Joins j) a = Unit {0}

-- of the first task of the queue
abbrev pub FirstHigh : Option Task → Answer → Type 0
FirstHigh None a = Unit {0}
FirstHigh (Some t) a = WorkHigh t.work a

-- keys that are read are those of nodes
abbrev pub ReadsOwn : Header → PrCommand → Answer → Type 0
ReadsOwn h k a = k ≡ command.Keys → (ks : List ℕ) → a ≡ Ok (answer.Keys ks) → AreOwn h.cluster ks

no_false : true ≡ false → ⊥
no_false e = cc

step_over : (h : Header) (ms : List Moment) (n m at e d : ℕ) (k : PrCommand) (a : Answer) (s : SeizeStep) → list_any (is_attempt e) ms ≡ true → not (is_some (result_at s)) ≡ false
    → StepShown h ms n e d s → StepShown h (line m at k a ∷ ms) n e d s
step_over h ms n m at e d k a (step.Ended r) begun over so = end_stays h e d n r (line m at k a) ms tt begun so
step_over h ms n m at e d k a step.Check begun over so = tt
step_over h ms n m at e d k a step.Register begun over so = tt
step_over h ms n m at e d k a step.ReadWord begun over so = tt
step_over h ms n m at e d k a (step.Swap expected) begun over so = tt
step_over h ms n m at e d k a step.Reserve begun over so = tt
step_over h ms n m at e d k a (step.Confirm ks) begun over so = tt
step_over h ms n m at e d k a (step.ReadKeys reading) begun over so = absurd (no_false over)
step_over h ms n m at e d k a (step.Preempt victim reading) begun over so = absurd (no_false over)

work_taken : (h : Header) (ms : List Moment) (n q d at : ℕ) (k : PrCommand) (a : Answer) (w : Work) → nat_le n 32 ≡ true → d ≡ at → command_in w ≡ Some k → ReadsOwn h k a → WorkHigh w a
    → WorkHeld h ms n q d w → WorkShown h ms n q d w → WorkShown h (line n at k a ∷ ms) n q d (work_answered a w)
work_taken h ms n q d at k a (Seizes s) low same is own high held w =
    let b : Base h (line n at k a ∷ ms) n q s = base_stays h ms (line n at k a) n q s tt w.0 in (
      record { me = b.me; cluster = b.cluster; epoch = b.epoch; some = b.some; of = b.of; member = b.member },
      subst (λ z. StepShown h (line n z k a ∷ ms) n q d (next_step s s.step a)) same (seizing_shown h ms n q d s k a low is w.0 held (high.1 k is) own high.0 w.1),
    )
work_taken h ms n q d at k a (Joins j) low same is own high held w = tt

pub tasks_taken : (h : Header) (ms : List Moment) (n q at : ℕ) (k : PrCommand) (a : Answer) (ts : List Task) → nat_le n 32 ≡ true → due_device ts ≡ Some at → next_of ts ≡ Some k
    → ReadsOwn h k a → FirstHigh (find is_queued ts) a → TasksHeld h ms n q ts → TasksShown h ms n q ts → TasksShown h (line n at k a ∷ ms) n q (after_answer ts a)
tasks_taken h ms n q at k a [] low device due own high held all = tt
tasks_taken h ms n q at k a (t ∷ ts) low device due own high held all =
    by_test (is_queued t) refl device due high all.1 (λ e f g rest. tasks_taken h ms n q at k a ts low e f own g held.1 rest)
  where
    x : Moment
    x = line n at k a

    by_test : (b : Bool) → is_queued t ≡ b → option_map (λ (z : Task). z.device) (if b then Some t else find is_queued ts) ≡ Some at
        → option_and_then (λ (z : Task). command_in z.work) (if b then Some t else find is_queued ts) ≡ Some k
        → FirstHigh (if b then Some t else find is_queued ts) a
        → Either b (AllByRecursion (Fresh h ms n q) ts) (TasksShown h ms n q ts)
        → (due_device ts ≡ Some at → next_of ts ≡ Some k → FirstHigh (find is_queued ts) a → TasksShown h ms n q ts → TasksShown h (x ∷ ms) n q (after_answer ts a))
        → TasksShown h (x ∷ ms) n q (if b then answered a t ∷ ts else t ∷ after_answer ts a)
    by_test true is device due high rest next =
        let fresh : AllByRecursion (Fresh h (x ∷ ms) n q) ts = all_fresh_stay h ms x n q ts tt rest in (
          work_taken h ms n q t.device at k a t.work low (same_some t.device at device) due own high held.0 all.0,
          either_of (is_queued (answered a t)) (AllByRecursion (Fresh h (x ∷ ms) n q) ts) (TasksShown h (x ∷ ms) n q ts) fresh (fresh_tasks h (x ∷ ms) n q ts fresh),
        )
    by_test false is device due high rest next = (
      over_stays t.work is all.0,
      subst (λ b. Either b (AllByRecursion (Fresh h (x ∷ ms) n q) (after_answer ts a)) (TasksShown h (x ∷ ms) n q (after_answer ts a))) (sym is) (next device due high rest),
    )
      where
        over_stays : (w : Work) → is_queued (record { device = t.device; work = w }) ≡ false → WorkShown h ms n q t.device w → WorkShown h (x ∷ ms) n q t.device w
        over_stays (Seizes s) over so = (base_stays h ms x n q s tt so.0, step_over h ms n n at q t.device k a s.step so.0.of.0 over so.1)
        over_stays (Joins j) over so = tt
