-- The tasks of a node: one is put at the end, and the first that is queued takes an answer.
use Rattle.std.specs.Prelude.{ℕ, ◌≡◌, ◌<◌, ◌&&◌, ◌++◌, nat_le, not, Bool, true, false, List, [], ◌∷◌, Option, None, Some, is_some, find, Ok, if◌then◌else◌}
use Rattle.std.specs.List.{AllByRecursion, list_any}
use Rattle.std.specs.Option.{option_and_then, option_map}
use Rattle.std.proofs.Common.{refl, sym, ap, subst, ◌∙◌, inl, inr}
use Rattle.cl_base.specs.Seizings.{SeizeResult}
use Rattle.cl_base.specs.declared.header.Header.{Header}
use Rattle.cl_base.specs.declared.seizing.SeizeEnd.TheVariants as end
use Rattle.cmm_attempt.proofs.Basics.{none_some, same_some}
use Rattle.device_queue.specs.Queue.{after_answer, after_seize, due_device, next_of, put_unless, seizure_of}
use Rattle.device_queue.specs.Tasks.{answered, command_in, is_queued, result_in, work_answered}
use Rattle.device_queue.specs.declared.task.Task.{Task}
use Rattle.device_queue.specs.declared.task.Work.{Work}
use Rattle.device_queue.specs.declared.task.Work.TheVariants.{Seizing as Seizes, Joining as Joins}
use Rattle.pgr_device.specs.declared.command.PrAnswer.TheVariants as answer
use Rattle.pgr_device.specs.declared.command.PrCommand.{PrCommand}
use Rattle.pgr_device.specs.declared.command.PrCommand.TheVariants as command
use Rattle.seize.specs.Answers.{Answer}
use Rattle.seize.specs.Seizing.{SeizeState, next_step, result_at}
use Rattle.seize.specs.declared.step.SeizeStep.{SeizeStep}
use Rattle.seize.specs.declared.step.SeizeStep.TheVariants as step
use Rattle.status_report.specs.declared.device_entry.DeviceEntry.{DeviceEntry}
use Rattle.status_report.specs.declared.device_entry.DeviceEntry.TheVariants as device_entry
use Rattle.status_report.specs.declared.entry.Entry.TheVariants as entry
use Rattle.history.specs.Member.{members_of, session_of}
use Rattle.history.specs.Moment.{Moment, Told}
use Rattle.history.specs.Seizing.{Progress, acts_for, is_attempt, is_number, progress_of}
use Rattle.run_history.proofs.Lists.{both}
use Rattle.run_history.specs.Guards.{HasEnded}
use Rattle.run_seizings.specs.Seized.{Base, Either, Fresh, FreshWork, IsFirst, IsSeized, StepSo, TasksSo, WorkSo, has_installed}
use Rattle.run_seizings.proofs.Progress.{IsDone, same_is, seized_stays, seizing_has}
use Rattle.run_seizings.proofs.Stages.{AreOwn, taken_so, told_of}
use Rattle.run_seizings.proofs.Stays.{all_fresh_stay, base_stays, either_maps}

-- ---- those that have not begun

first_step : (h : Header) (members n : ℕ) (p : Progress) (s : SeizeStep) → IsFirst s → StepSo h members n p s
first_step h members n p step.Check is = tt
first_step h members n p step.Register is = tt
first_step h members n p step.ReadWord is = absurd is
first_step h members n p (step.Swap expected) is = absurd is
first_step h members n p step.Reserve is = absurd is
first_step h members n p (step.ReadKeys reading) is = absurd is
first_step h members n p (step.Preempt victim reading) is = absurd is
first_step h members n p (step.Confirm ks) is = absurd is
first_step h members n p (step.Ended r) is = absurd is

fresh_work : (h : Header) (ms : List Moment) (n q d : ℕ) (w : Work) → FreshWork h ms n q w → WorkSo h ms n q d w
fresh_work h ms n q d (Seizes s) k = (k.0, first_step h s.members n (progress_of h n q d ms) s.step k.1)
fresh_work h ms n q d (Joins j) k = tt

either_of : (b : Bool) (P Q : Type 0) → P → Q → Either b P Q
either_of true P Q p q = p
either_of false P Q p q = q

pub fresh_tasks : (h : Header) (ms : List Moment) (n q : ℕ) (ts : List Task) → AllByRecursion (Fresh h ms n q) ts → TasksSo h ms n q ts
fresh_tasks h ms n q [] k = tt
fresh_tasks h ms n q (t ∷ ts) k =
    (fresh_work h ms n q t.device t.work k.0, either_of (is_queued t) (AllByRecursion (Fresh h ms n q) ts) (TasksSo h ms n q ts) k.1 (fresh_tasks h ms n q ts k.1))

-- ---- one more

put_last : (h : Header) (ms : List Moment) (n q : ℕ) (ts : List Task) (new : Task) → Fresh h ms n q new → TasksSo h ms n q ts → TasksSo h ms n q (ts ++ new ∷ [])
put_last h ms n q [] new fresh k = fresh_tasks h ms n q (new ∷ []) (fresh, tt)
put_last h ms n q (t ∷ ts) new fresh k = (
  k.0,
  either_maps (is_queued t) (AllByRecursion (Fresh h ms n q) ts) (TasksSo h ms n q ts) (AllByRecursion (Fresh h ms n q) (ts ++ new ∷ []))
      (TasksSo h ms n q (ts ++ new ∷ []))
      (λ all. both (Fresh h ms n q) ts (new ∷ []) all (fresh, tt)) (put_last h ms n q ts new fresh) k.1,
)

pub seize_tasks : (h : Header) (ms : List Moment) (n q d : ℕ) (ts : List Task) (s : SeizeState) → Base h ms n q s → IsFirst s.step → TasksSo h ms n q ts
    → TasksSo h ms n q (after_seize ts d s)
seize_tasks h ms n q d ts s base first k = by_old (seizure_of ts d)
  where
    by_old : (o : Option Task) → TasksSo h ms n q (put_unless o (record { device = d; work = Seizes s }) ts)
    by_old None = put_last h ms n q ts (record { device = d; work = Seizes s }) (base, first) k
    by_old (Some t) = k

-- ---- one that has ended

ended_step : (s : SeizeStep) (r : SeizeResult) → result_at s ≡ Some r → s ≡ step.Ended r
ended_step (step.Ended result) r is = ap (λ z. step.Ended z) (same_some result r is)
ended_step step.Check r is = absurd (none_some r is)
ended_step step.Register r is = absurd (none_some r is)
ended_step step.ReadWord r is = absurd (none_some r is)
ended_step (step.Swap expected) r is = absurd (none_some r is)
ended_step step.Reserve r is = absurd (none_some r is)
ended_step (step.ReadKeys reading) r is = absurd (none_some r is)
ended_step (step.Preempt victim reading) r is = absurd (none_some r is)
ended_step (step.Confirm ks) r is = absurd (none_some r is)

-- a seizing that has ended held: what is so of its session
pub record EndedSo (h : Header) (ms : List Moment) (n q d : ℕ) : Type 0 where
  pub some : 0 < q
  pub begun : list_any (is_attempt q) ms ≡ true
  pub seized : IsSeized h ms n q d

work_seized : (h : Header) (ms : List Moment) (n q d : ℕ) (keys : List ℕ) (w : Work) → nat_le n 32 ≡ true → result_in w ≡ Some (end.Held keys)
    → WorkSo h ms n q d w → EndedSo h ms n q d
work_seized h ms n q d keys (Seizes s) low is k =
    let done : IsDone (progress_of h n q d ms) = subst (λ z. StepSo h s.members n (progress_of h n q d ms) z) (ended_step s.step (end.Held keys) is) k.1 in
    record { some = k.0.some; begun = k.0.of.0; seized = (done, seizing_has h n q d s.members ms k.0.of.1 low k.0.member done) }
work_seized h ms n q d keys (Joins j) low is k = absurd (none_some (end.Held keys) is)

-- the rest is so, whichever it is
rest_so : (h : Header) (ms : List Moment) (n q : ℕ) (b : Bool) (ts : List Task) → Either b (AllByRecursion (Fresh h ms n q) ts) (TasksSo h ms n q ts)
    → TasksSo h ms n q ts
rest_so h ms n q true ts k = fresh_tasks h ms n q ts k
rest_so h ms n q false ts k = k

pub ended_seized : (h : Header) (ms : List Moment) (n q d : ℕ) (keys : List ℕ) (ts : List Task) → nat_le n 32 ≡ true → HasEnded ts d (end.Held keys)
    → TasksSo h ms n q ts → EndedSo h ms n q d
ended_seized h ms n q d keys [] low ended k = absurd ended
ended_seized h ms n q d keys (t ∷ ts) low (inl here) k = subst (λ z. EndedSo h ms n q z) here.0 (work_seized h ms n q t.device keys t.work low here.1 k.0)
ended_seized h ms n q d keys (t ∷ ts) low (inr later) k = ended_seized h ms n q d keys ts low later (rest_so h ms n q (is_queued t) ts k.1)

-- ---- the answer

no_false : true ≡ false → ⊥
no_false e = cc

-- what is over stays so, whatever is told
step_over : (h : Header) (ms : List Moment) (x : Moment) (n q d members : ℕ) (s : SeizeStep) → not (is_some (result_at s)) ≡ false
    → StepSo h members n (progress_of h n q d ms) s
    → StepSo h members n (progress_of h n q d (x ∷ ms)) s
step_over h ms x n q d members (step.Ended (end.Held keys)) over k = seized_stays h n q d x ms k
step_over h ms x n q d members (step.Ended (end.NotRegistered keys)) over k = tt
step_over h ms x n q d members (step.Ended (end.Greater w)) over k = tt
step_over h ms x n q d members (step.Ended end.Expelled) over k = tt
step_over h ms x n q d members (step.Ended (end.Contended key)) over k = tt
step_over h ms x n q d members (step.Ended end.Fault) over k = tt
step_over h ms x n q d members step.Check over k = tt
step_over h ms x n q d members step.Register over k = tt
step_over h ms x n q d members step.ReadWord over k = tt
step_over h ms x n q d members (step.Swap expected) over k = tt
step_over h ms x n q d members step.Reserve over k = tt
step_over h ms x n q d members (step.ReadKeys reading) over k = absurd (no_false over)
step_over h ms x n q d members (step.Preempt victim reading) over k = absurd (no_false over)
step_over h ms x n q d members (step.Confirm ks) over k = absurd (no_false over)

over_stays : (h : Header) (ms : List Moment) (n q d : ℕ) (e : DeviceEntry) (w : Work) → is_queued (record { device = d; work = w }) ≡ false → WorkSo h ms n q d w
    → WorkSo h (Told (entry.Device e) ∷ ms) n q d w
over_stays h ms n q d e (Seizes s) over k = (base_stays h ms (Told (entry.Device e)) n q s tt k.0, step_over h ms (Told (entry.Device e)) n q d s.members s.step over k.1)
over_stays h ms n q d e (Joins j) over k = tt

pub acts_so : (n q : ℕ) (ms : List Moment) → session_of n ms ≡ Some q → has_installed n q ms ≡ false → acts_for n q ms ≡ true
acts_so n q ms session none = ap (λ o. is_number q o && not (has_installed n q ms)) session ∙ (ap (λ b. b && not (has_installed n q ms)) (same_is q) ∙ ap not none)

-- the first that is queued takes the answer
work_taken : (h : Header) (ms : List Moment) (n q d at : ℕ) (k : PrCommand) (a : Answer) (w : Work) → d ≡ at → command_in w ≡ Some k → (0 < q → acts_for n q ms ≡ true)
    → (k ≡ command.Keys → (ks : List ℕ) → a ≡ Ok (answer.Keys ks) → AreOwn h.cluster ks) → WorkSo h ms n q d w
    → WorkSo h (Told (entry.Device (device_entry.Command n at k (told_of a))) ∷ ms) n q d (work_answered a w)
work_taken h ms n q d at k a (Seizes s) same is acts own w =
    let x : Moment = Told (entry.Device (device_entry.Command n at k (told_of a))) in
    let b : Base h ms n q s = w.0 in
    let base : Base h (x ∷ ms) n q s = base_stays h ms x n q s tt b in
    let before : StepSo h s.members n (progress_of h n s.epoch d ms) s.step = subst (λ z. StepSo h s.members n (progress_of h n z d ms) s.step) (sym b.epoch) w.1 in
    let after : StepSo h s.members n (progress_of h n s.epoch d (Told (entry.Device (device_entry.Command n d k (told_of a))) ∷ ms)) (next_step s s.step a) =
    taken_so h ms n d s k a b.cluster b.me (subst (λ z. members_of z ms ≡ s.members) (sym b.epoch) b.of.1)
    (subst (λ z. acts_for n z ms ≡ true) (sym b.epoch) (acts b.some))
    (λ reads ks e. subst (λ z. AreOwn z ks) (sym b.cluster) (own reads ks e)) is before in (
      record { me = base.me; cluster = base.cluster; epoch = base.epoch; some = base.some; of = base.of; member = base.member },
      subst (λ z. StepSo h s.members n (progress_of h n z d (x ∷ ms)) (next_step s s.step a)) b.epoch
          (subst (λ z. StepSo h s.members n (progress_of h n s.epoch d (Told (entry.Device (device_entry.Command n z k (told_of a))) ∷ ms))
          (next_step s s.step a)) same after),
    )
work_taken h ms n q d at k a (Joins j) same is acts own w = tt

pub tasks_taken : (h : Header) (ms : List Moment) (n q at : ℕ) (k : PrCommand) (a : Answer) (ts : List Task) → due_device ts ≡ Some at → next_of ts ≡ Some k
    → (0 < q → acts_for n q ms ≡ true)
    → (k ≡ command.Keys → (ks : List ℕ) → a ≡ Ok (answer.Keys ks) → AreOwn h.cluster ks) → TasksSo h ms n q ts
    → TasksSo h (Told (entry.Device (device_entry.Command n at k (told_of a))) ∷ ms) n q (after_answer ts a)
tasks_taken h ms n q at k a [] device due acts own all = tt
tasks_taken h ms n q at k a (t ∷ ts) device due acts own all =
    by_test (is_queued t) refl device due all.1 (λ e f rest. tasks_taken h ms n q at k a ts e f acts own rest)
  where
    x : Moment
    x = Told (entry.Device (device_entry.Command n at k (told_of a)))

    by_test : (b : Bool) → is_queued t ≡ b → option_map (λ (z : Task). z.device) (if b then Some t else find is_queued ts) ≡ Some at
        → option_and_then (λ (z : Task). command_in z.work) (if b then Some t else find is_queued ts) ≡ Some k
        → Either b (AllByRecursion (Fresh h ms n q) ts) (TasksSo h ms n q ts)
        → (due_device ts ≡ Some at → next_of ts ≡ Some k → TasksSo h ms n q ts → TasksSo h (x ∷ ms) n q (after_answer ts a))
        → TasksSo h (x ∷ ms) n q (if b then answered a t ∷ ts else t ∷ after_answer ts a)
    by_test true is device due rest next =
        let fresh : AllByRecursion (Fresh h (x ∷ ms) n q) ts = all_fresh_stay h ms x n q ts tt rest in (
          work_taken h ms n q t.device at k a t.work (same_some t.device at device) due acts own all.0,
          either_of (is_queued (answered a t)) (AllByRecursion (Fresh h (x ∷ ms) n q) ts) (TasksSo h (x ∷ ms) n q ts) fresh (fresh_tasks h (x ∷ ms) n q ts fresh),
        )
    by_test false is device due rest next = (
      over_stays h ms n q t.device (device_entry.Command n at k (told_of a)) t.work is all.0,
      subst
          (λ b. Either b (AllByRecursion (Fresh h (x ∷ ms) n q) (after_answer ts a)) (TasksSo h (x ∷ ms) n q (after_answer ts a))) (sym is)
          (next device due rest),
    )
