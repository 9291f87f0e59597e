-- The seizings of a node, of devices apart: one is put at the end, and the first that is queued takes an answer.
use Rattle.std.specs.Prelude.{ℕ, ◌≡◌, ◌≢◌, ◌==◌, ◌&&◌, ◌⊎◌, ◌++◌, Bool, true, false, List, [], ◌∷◌, Option, None, Some, find, if◌then◌else◌}
use Rattle.std.specs.List.{AllByRecursion}
use Rattle.std.specs.Option.{option_and_then, option_map}
use Rattle.std.proofs.Common.{refl, sym, ap, subst, ◌∙◌, inl, inr}
use Rattle.cl_base.specs.Seizings.{SeizeResult}
use Rattle.cl_base.specs.declared.header.Header.{Header}
use Rattle.cmm_attempt.proofs.Basics.{none_some, same_some}
use Rattle.device_queue.specs.Queue.{after_answer, after_seize, due_device, kept_of, next_of, put_unless, seizure_of}
use Rattle.device_queue.specs.Tasks.{answered, command_in, is_queued, is_seizing, is_seizure_of, result_in, work_answered}
use Rattle.device_queue.specs.declared.task.Task.{Task}
use Rattle.device_queue.specs.declared.task.Work.{Work}
use Rattle.device_queue.specs.declared.task.Work.TheVariants.{Seizing as Seizes, Joining as Joins}
use Rattle.machine_base.proofs.Puts.{same_or_not, true_or_false}
use Rattle.pgr_device.specs.declared.command.PrCommand.{PrCommand}
use Rattle.seize.specs.Answers.{Answer}
use Rattle.seize.specs.Seizing.{SeizeState, next_step, result_at}
use Rattle.seize.specs.declared.step.SeizeStep.{SeizeStep}
use Rattle.seize.specs.declared.step.SeizeStep.TheVariants as step
use Rattle.status_report.specs.declared.device_entry.DeviceEntry.TheVariants as device_entry
use Rattle.status_report.specs.declared.entry.Entry.TheVariants as entry
use Rattle.history.specs.Moment.{Moment, Told}
use Rattle.history.specs.Seizing.{Progress, Begun, acts_for, keys_in, or_else, progress_of}
use Rattle.run_history.specs.Guards.{HasEnded}
use Rattle.run_seizings.specs.Seized.{Base, Either, Fresh, IsFirst, TasksSo, WorkSo}
use Rattle.run_seizings.proofs.Progress.{if_not, if_so, no_truth, not_same, same_is}
use Rattle.run_seizings.proofs.Stages.{shown, shown_so, told_of}
use Rattle.run_devices.specs.readings.Laws.{held_keys}
use Rattle.run_devices.specs.readings.Readings.{AreSeizings, StepRead, TaskRead, TasksRead, WorkRead}
use Rattle.run_devices.proofs.readings.Shown.{step_read}
use Rattle.run_devices.proofs.readings.Aside.{apart_shows}

-- ---- the seizing of a device

seizing_stays : (a : Answer) (w : Work) → is_seizing (work_answered a w) ≡ is_seizing w
seizing_stays a (Seizes s) = refl
seizing_stays a (Joins j) = refl

same_seizure : (d : ℕ) (a : Answer) (t : Task) → is_seizure_of d (answered a t) ≡ is_seizure_of d t
same_seizure d a t = ap (λ b. (t.device == d) && b) (seizing_stays a t.work)

none_of_two : {X : Type 0} (b : Bool) (x : X) (o : Option X) → (if b then Some x else o) ≡ None → (b ≡ false) × (o ≡ None)
none_of_two true x o k = absurd (none_some x (sym k))
none_of_two false x o k = (refl, k)

-- none is there after an answer, where none was
none_after : (d : ℕ) (a : Answer) (ts : List Task) → seizure_of ts d ≡ None → seizure_of (after_answer ts a) d ≡ None
none_after d a [] k = refl
none_after d a (t ∷ ts) k =
    let two : (is_seizure_of d t ≡ false) × (seizure_of ts d ≡ None) = none_of_two (is_seizure_of d t) t (seizure_of ts d) k in
    by_test (is_queued t) two.0 two.1 (none_after d a ts two.1)
  where
    by_test : (b : Bool) → is_seizure_of d t ≡ false → seizure_of ts d ≡ None → seizure_of (after_answer ts a) d ≡ None
        → seizure_of (if b then answered a t ∷ ts else t ∷ after_answer ts a) d ≡ None
    by_test true other rest after = if_not (is_seizure_of d (answered a t)) (Some (answered a t)) (seizure_of ts d) (same_seizure d a t ∙ other) ∙ rest
    by_test false other rest after = if_not (is_seizure_of d t) (Some t) (seizure_of (after_answer ts a) d) other ∙ after

pub seizings_answered : (a : Answer) (ts : List Task) → AreSeizings ts → AreSeizings (after_answer ts a)
seizings_answered a [] k = tt
seizings_answered a (t ∷ ts) k = by_test (is_queued t) (seizings_answered a ts k.2)
  where
    by_test : (b : Bool) → AreSeizings (after_answer ts a) → AreSeizings (if b then answered a t ∷ ts else t ∷ after_answer ts a)
    by_test true rest = (seizing_stays a t.work ∙ k.0, k.1, k.2)
    by_test false rest = (k.0, none_after t.device a ts k.1, rest)

-- another device's is left alone
others_left : (d at : ℕ) (a : Answer) (ts : List Task) → at ≢ d → due_device ts ≡ Some at → seizure_of (after_answer ts a) d ≡ seizure_of ts d
others_left d at a [] ne due = refl
others_left d at a (t ∷ ts) ne due = by_test (is_queued t) due (λ rest. others_left d at a ts ne rest)
  where
    skipped : (b : Bool) (o p : Option Task) → o ≡ p → (if b then Some t else o) ≡ (if b then Some t else p)
    skipped b o p same = ap (λ z. if b then Some t else z) same

    other : t.device ≡ at → is_seizure_of d t ≡ false
    other is = ap (λ b. b && is_seizing t.work) (not_same t.device d (λ same. ne (sym is ∙ same)))

    by_test : (b : Bool) → option_map (λ (z : Task). z.device) (if b then Some t else find is_queued ts) ≡ Some at
        → (due_device ts ≡ Some at → seizure_of (after_answer ts a) d ≡ seizure_of ts d)
        → seizure_of (if b then answered a t ∷ ts else t ∷ after_answer ts a) d ≡ seizure_of (t ∷ ts) d
    by_test true is next =
        let no_one : is_seizure_of d t ≡ false = other (same_some t.device at is) in
        if_not (is_seizure_of d (answered a t)) (Some (answered a t)) (seizure_of ts d) (same_seizure d a t ∙ no_one)
        ∙ sym (if_not (is_seizure_of d t) (Some t) (seizure_of ts d) no_one)
    by_test false is next = skipped (is_seizure_of d t) (seizure_of (after_answer ts a) d) (seizure_of ts d) (next is)

-- the seizing that is due, before and after its answer
record Due (h : Header) (ms : List Moment) (n q at : ℕ) (k : PrCommand) (a : Answer) (before after : Option Task) : Type 0 where
  task : Task
  due : command_in task.work ≡ Some k
  so : WorkSo h ms n q at task.work
  was : before ≡ Some task
  is : after ≡ Some (answered a task)

due_task : (h : Header) (ms : List Moment) (n q at : ℕ) (k : PrCommand) (a : Answer) (ts : List Task) → due_device ts ≡ Some at → next_of ts ≡ Some k
    → AreSeizings ts → TasksSo h ms n q ts → Due h ms n q at k a (seizure_of ts at) (seizure_of (after_answer ts a) at)
due_task h ms n q at k a [] device due apart all = absurd (none_some at device)
due_task h ms n q at k a (t ∷ ts) device due apart all =
    by_test (is_queued t) device due all.1 (λ e f rest. due_task h ms n q at k a ts e f apart.2 rest)
  where
    seizes : t.device ≡ at → is_seizure_of at t ≡ true
    seizes same = both (t.device == at) (is_seizing t.work) (subst (λ z. (t.device == z) ≡ true) same (same_is t.device)) apart.0
      where
        both : (b c : Bool) → b ≡ true → c ≡ true → (b && c) ≡ true
        both true c i j = j
        both false c i j = absurd (no_truth i)

    other : (o : Option Task) (u : Task) → o ≡ Some u → t.device ≡ at → seizure_of ts at ≡ o → ⊥
    other o u is same there = none_some u (sym (subst (λ z. seizure_of ts z ≡ None) same apart.1) ∙ (there ∙ is))

    later : Due h ms n q at k a (seizure_of ts at) (seizure_of (after_answer ts a) at)
        → Due h ms n q at k a (seizure_of (t ∷ ts) at) (seizure_of (t ∷ after_answer ts a) at)
    later z =
        let not_it : is_seizure_of at t ≡ false = ap (λ b. b && is_seizing t.work) (not_same t.device at (λ same. other (seizure_of ts at) z.task z.was same refl)) in
        record {
          task = z.task;
          due = z.due;
          so = z.so;
          was = if_not (is_seizure_of at t) (Some t) (seizure_of ts at) not_it ∙ z.was;
          is = if_not (is_seizure_of at t) (Some t) (seizure_of (after_answer ts a) at) not_it ∙ z.is;
        }

    by_test : (b : Bool) → option_map (λ (z : Task). z.device) (if b then Some t else find is_queued ts) ≡ Some at
        → option_and_then (λ (z : Task). command_in z.work) (if b then Some t else find is_queued ts) ≡ Some k
        → Either b (AllByRecursion (Fresh h ms n q) ts) (TasksSo h ms n q ts)
        → (due_device ts ≡ Some at → next_of ts ≡ Some k → TasksSo h ms n q ts → Due h ms n q at k a (seizure_of ts at) (seizure_of (after_answer ts a) at))
        → Due h ms n q at k a (seizure_of (t ∷ ts) at) (seizure_of (if b then answered a t ∷ ts else t ∷ after_answer ts a) at)
    by_test true is cmd rest next =
        let same : t.device ≡ at = same_some t.device at is in
        record {
          task = t;
          due = cmd;
          so = subst (λ z. WorkSo h ms n q z t.work) same all.0;
          was = if_so (is_seizure_of at t) (Some t) (seizure_of ts at) (seizes same);
          is = if_so (is_seizure_of at (answered a t)) (Some (answered a t)) (seizure_of ts at) (same_seizure at a t ∙ seizes same);
        }
    by_test false is cmd rest next = later (next is cmd rest)

-- ---- the answer

work_read : (h : Header) (ms : List Moment) (n q at : ℕ) (k : PrCommand) (a : Answer) (w : Work) → acts_for n q ms ≡ true → command_in w ≡ Some k → WorkSo h ms n q at w
    → WorkRead (progress_of h n q at ms) w → WorkRead (progress_of h n q at (Told (entry.Device (device_entry.Command n at k (told_of a))) ∷ ms)) (work_answered a w)
work_read h ms n q at k a (Joins j) acts due so read = absurd read
work_read h ms n q at k a (Seizes s) acts due so read =
    let b : Base h ms n q s = so.0 in
    let p : Progress = progress_of h n q at ms in
    subst (λ z. StepRead z (next_step s s.step a)) (sym (shown_so h ms n q at k (told_of a) acts))
    (subst (λ m. StepRead (shown h m n q k (told_of a) p) (next_step s s.step a)) (sym b.of.1)
    (subst (λ e. StepRead (shown h s.members n e k (told_of a) p) (next_step s s.step a)) b.epoch (step_read h n p s s.step k a due so.1 read)))

and_false : (a b : Bool) → a ≡ false → (a && b) ≡ false
and_false true b e = absurd (no_truth (sym e))
and_false false b e = refl

pub tasks_read : (h : Header) (ms : List Moment) (n q at : ℕ) (k : PrCommand) (a : Answer) (ts : List Task) → due_device ts ≡ Some at → next_of ts ≡ Some k
    → acts_for n q ms ≡ true → TasksSo h ms n q ts → TasksRead h ms n q ts
    → TasksRead h (Told (entry.Device (device_entry.Command n at k (told_of a))) ∷ ms) n q (after_answer ts a)
tasks_read h ms n q at k a ts device due acts all read = (seizings_answered a ts read.0, (λ d. by_device d (same_or_not at d)))
  where
    by_device : (d : ℕ) → (at ≡ d) ⊎ (at ≢ d)
        → TaskRead (progress_of h n q d (Told (entry.Device (device_entry.Command n at k (told_of a))) ∷ ms)) (seizure_of (after_answer ts a) d)
    by_device d (inr ne) =
        subst (λ o. TaskRead (progress_of h n q d (Told (entry.Device (device_entry.Command n at k (told_of a))) ∷ ms)) o) (sym (others_left d at a ts ne device))
        (subst (λ p. TaskRead p (seizure_of ts d)) (sym (apart_shows h ms n q d n at k (told_of a) (and_false (at == d) (acts_for n q ms) (not_same at d ne)))) (read.1 d))
    by_device d (inl same) =
        let z : Due h ms n q at k a (seizure_of ts at) (seizure_of (after_answer ts a) at) = due_task h ms n q at k a ts device due read.0 all in
        subst (λ j. TaskRead (progress_of h n q j (Told (entry.Device (device_entry.Command n at k (told_of a))) ∷ ms)) (seizure_of (after_answer ts a) j)) same
        (subst (λ o. TaskRead (progress_of h n q at (Told (entry.Device (device_entry.Command n at k (told_of a))) ∷ ms)) o) (sym z.is)
        (work_read h ms n q at k a z.task.work acts z.due z.so (subst (λ o. TaskRead (progress_of h n q at ms) o) z.was (read.1 at))))

-- ---- one more

find_last : {X : Type 0} (p : X → Bool) (xs : List X) (y : X) → find p (xs ++ y ∷ []) ≡ or_else (find p xs) (if p y then Some y else None)
find_last p [] y = refl
find_last p (x ∷ xs) y = by_test (p x) (find_last p xs y)
  where
    by_test : (b : Bool) → find p (xs ++ y ∷ []) ≡ or_else (find p xs) (if p y then Some y else None)
        → (if b then Some x else find p (xs ++ y ∷ [])) ≡ or_else (if b then Some x else find p xs) (if p y then Some y else None)
    by_test true rest = refl
    by_test false rest = rest

else_none : {X : Type 0} (o p : Option X) → o ≡ None → p ≡ None → or_else o p ≡ None
else_none None p i j = j
else_none (Some x) p i j = absurd (none_some x (sym i))

put_apart : (new : Task) (ts : List Task) → is_seizing new.work ≡ true → seizure_of ts new.device ≡ None → AreSeizings ts → AreSeizings (ts ++ new ∷ [])
put_apart new [] one none k = (one, refl, tt)
put_apart new (t ∷ ts) one none k =
    let two : (is_seizure_of new.device t ≡ false) × (seizure_of ts new.device ≡ None) =
    none_of_two (is_seizure_of new.device t) t (seizure_of ts new.device) none in (
      k.0,
      find_last (is_seizure_of t.device) ts new
          ∙ else_none (seizure_of ts t.device) (if is_seizure_of t.device new then Some new else None) k.1
          (if_not (is_seizure_of t.device new) (Some new) None (ap (λ b. b && is_seizing new.work) (not_same new.device t.device (λ same. is_there two.0 same)))),
      put_apart new ts one two.1 k.2,
    )
  where
    is_there : is_seizure_of new.device t ≡ false → new.device ≡ t.device → ⊥
    is_there other same = no_truth (sym other ∙ there (t.device == new.device) (is_seizing t.work) (subst (λ z. (t.device == z) ≡ true) (sym same) (same_is t.device)) k.0)
      where
        there : (b c : Bool) → b ≡ true → c ≡ true → (b && c) ≡ true
        there true c i j = j
        there false c i j = absurd (no_truth i)

first_read : (p : Progress) (s : SeizeStep) → IsFirst s → p ≡ Begun → StepRead p s
first_read p step.Check is k = k
first_read p step.Register is k = k
first_read p step.ReadWord is k = absurd is
first_read p (step.Swap expected) is k = absurd is
first_read p step.Reserve is k = absurd is
first_read p (step.ReadKeys reading) is k = absurd is
first_read p (step.Preempt victim reading) is k = absurd is
first_read p (step.Confirm ks) is k = absurd is
first_read p (step.Ended r) is k = absurd is

pub seize_read : (h : Header) (ms : List Moment) (n q d : ℕ) (ts : List Task) (s : SeizeState) → IsFirst s.step → TasksRead h ms n q ts
    → TasksRead h ms n q (after_seize ts d s)
seize_read h ms n q d ts s first k = by_old (seizure_of ts d) refl
  where
    new : Task
    new = record { device = d; work = Seizes s }

    last_one : (j : ℕ) (o : Option Task) → seizure_of ts d ≡ None → seizure_of ts j ≡ o → TaskRead (progress_of h n q j ms) o
        → TaskRead (progress_of h n q j ms) (or_else o (if is_seizure_of j new then Some new else None))
    last_one j (Some t) none is read = read
    last_one j None none is read = by_same (true_or_false (is_seizure_of j new))
      where
        by_same : (is_seizure_of j new ≡ true) ⊎ (is_seizure_of j new ≡ false)
            → TaskRead (progress_of h n q j ms) (if is_seizure_of j new then Some new else None)
        by_same (inl same) = subst (λ o. TaskRead (progress_of h n q j ms) o) (sym (if_so (is_seizure_of j new) (Some new) None same))
            (first_read (progress_of h n q j ms) s.step first read)
        by_same (inr other) = subst (λ o. TaskRead (progress_of h n q j ms) o) (sym (if_not (is_seizure_of j new) (Some new) None other)) read

    by_old : (o : Option Task) → seizure_of ts d ≡ o → TasksRead h ms n q (put_unless o new ts)
    by_old (Some t) is = k
    by_old None is = (
      put_apart new ts refl is k.0,
      (λ j. subst (λ o. TaskRead (progress_of h n q j ms) o) (sym (find_last (is_seizure_of j) ts new)) (last_one j (seizure_of ts j) is refl (k.1 j))),
    )

-- ---- how a seizing ended

-- where none is kept, none ended
pub ended_kept : (d : ℕ) (r : SeizeResult) (ts : List Task) → AreSeizings ts → HasEnded ts d r → kept_of ts d ≡ Some r
ended_kept d r [] apart ended = absurd ended
ended_kept d r (t ∷ ts) apart (inl here) =
    ap (λ o. option_and_then (λ (z : Task). result_in z.work) o) (if_so (is_seizure_of d t) (Some t) (seizure_of ts d) (there (t.device == d) (is_seizing t.work)
    (subst (λ z. (t.device == z) ≡ true) here.0 (same_is t.device)) apart.0))
    ∙ here.1
  where
    there : (b c : Bool) → b ≡ true → c ≡ true → (b && c) ≡ true
    there true c i j = j
    there false c i j = absurd (no_truth i)
ended_kept d r (t ∷ ts) apart (inr later) =
    ap (λ o. option_and_then (λ (z : Task). result_in z.work) o)
    (if_not (is_seizure_of d t) (Some t) (seizure_of ts d) (ap (λ b. b && is_seizing t.work) (not_same t.device d (λ same. both_not same (ended_kept d r ts apart.2 later)))))
    ∙ ended_kept d r ts apart.2 later
  where
    both_not : t.device ≡ d → kept_of ts d ≡ Some r → ⊥
    both_not same kept =
        none_some r (sym (ap (λ o. option_and_then (λ (z : Task). result_in z.work) o) (subst (λ z. seizure_of ts z ≡ None) same apart.1)) ∙ kept)

step_keys : (p : Progress) (s : SeizeStep) → StepRead p s → keys_in p ≡ held_keys (result_at s)
step_keys p step.Check k = ap keys_in k
step_keys p step.Register k = ap keys_in k
step_keys p step.ReadWord k = ap keys_in k
step_keys p (step.Swap expected) k = ap keys_in k
step_keys p step.Reserve k = ap keys_in k
step_keys p (step.ReadKeys reading) k = k
step_keys p (step.Preempt victim reading) k = k
step_keys p (step.Confirm ks) k = k
step_keys p (step.Ended r) k = k

work_keys : (p : Progress) (w : Work) → WorkRead p w → keys_in p ≡ held_keys (result_in w)
work_keys p (Seizes s) k = step_keys p s.step k
work_keys p (Joins j) k = absurd k

-- the keys that are told are those of the seizing
pub kept_keys : (p : Progress) (o : Option Task) → TaskRead p o → keys_in p ≡ held_keys (option_and_then (λ (t : Task). result_in t.work) o)
kept_keys p None k = ap keys_in k
kept_keys p (Some t) k = work_keys p t.work k
