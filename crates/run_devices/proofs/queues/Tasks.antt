-- The tasks of a node go as those that are told.
use Rattle.std.specs.Prelude.{ℕ, ◌+◌, ◌≡◌, nat_lt, ◌==◌, ◌&&◌, ◌||◌, not, Bool, true, false, List, [], ◌∷◌, ◌++◌, filter, Option, None, Some, is_some, if◌then◌else◌}
use Rattle.std.proofs.Common.{refl, sym, ap, subst, ◌∙◌}
use Rattle.cl_base.specs.declared.seizing.SeizeEnd.TheVariants.{Held, NotRegistered, Greater, Expelled, Contended, Fault}
use Rattle.cmm_attempt.proofs.Basics.{if_either}
use Rattle.device_queue.specs.Queue.{after_answer, after_seize, first_of, put_unless, seizure_of}
use Rattle.device_queue.specs.Tasks.{answered, is_joining, is_over, is_queued, is_seizing, work_answered}
use Rattle.device_queue.specs.declared.task.Task.{Task}
use Rattle.device_queue.specs.declared.task.Work.{Work}
use Rattle.device_queue.specs.declared.task.Work.TheVariants.{Seizing, Joining}
use Rattle.seize.specs.Answers.{Answer, keys_told, word_told, word_found, is_good, is_conflict}
use Rattle.seize.specs.Keys.{has_key, first_stranger}
use Rattle.seize.specs.Joining as joining
use Rattle.seize.specs.Joining.{JoinState}
use Rattle.seize.specs.Seizing as seizing
use Rattle.seize.specs.Seizing.{SeizeState, own_key, checked, compared, swapped, cleared, looked, confirmed, next_step}
use Rattle.seize.specs.declared.step.SeizeStep.{SeizeStep}
use Rattle.seize.specs.declared.step.SeizeStep.TheVariants.{Check, Register, ReadWord, Swap, Reserve, ReadKeys, Preempt, Confirm, Ended}
use Rattle.history.specs.Queue as told
use Rattle.run_history.proofs.Lists.{both}
use Rattle.run_seizings.proofs.Progress.{if_not, if_so, no_truth}
use Rattle.run_devices.specs.queues.Kept.{NoJoins, joins_in}
use Rattle.run_devices.specs.queues.Laws.{Same, SameTask, SameWork}

-- ---- a seizing is at its check at first alone

abbrev is_check : SeizeStep → Bool
is_check Check = true
is_check _ = false

abbrev Past : SeizeStep → Type 0
Past p = is_check p ≡ false

either : (b : Bool) (x y : SeizeStep) → Past x → Past y → Past (if b then x else y)
either b x y one other = if_either Past b x y one other

from_word : (s : SeizeState) (o : Option ℕ) → Past (compared s o)
from_word s None = refl
from_word s (Some word) =
    either (nat_lt word s.epoch) (Swap word) (if word == s.epoch then Reserve else Ended (Greater word)) refl (either (word == s.epoch) Reserve (Ended (Greater word)) refl refl)

from_check : (s : SeizeState) (o : Option (List ℕ)) → Past (checked s o)
from_check s None = refl
from_check s (Some keys) = either (has_key (own_key s) keys && s.valid) ReadWord (Ended (NotRegistered keys)) refl refl

from_swap : (s : SeizeState) (expected : ℕ) (a : Answer) → Past (swapped s expected a)
from_swap s expected a =
    either (is_good a) Reserve (if is_conflict a then Ended Expelled else compared s (word_found expected a)) refl
    (either (is_conflict a) (Ended Expelled) (compared s (word_found expected a)) refl (from_word s (word_found expected a)))

from_strangers : (keys : List ℕ) (reading : ℕ) (found : Option ℕ) → Past (cleared keys reading found)
from_strangers keys reading None = refl
from_strangers keys reading (Some key) = either (nat_lt reading 64) (Preempt key reading) (Ended (Contended key)) refl refl

from_keys : (s : SeizeState) (reading : ℕ) (o : Option (List ℕ)) → Past (looked s reading o)
from_keys s reading None = refl
from_keys s reading (Some keys) =
    either (has_key (own_key s) keys) (cleared keys reading (first_stranger s.cluster s.members keys)) (Ended Expelled)
    (from_strangers keys reading (first_stranger s.cluster s.members keys)) refl

from_last : (s : SeizeState) (keys : List ℕ) (o : Option ℕ) → Past (confirmed s keys o)
from_last s keys None = refl
from_last s keys (Some word) = either (word == s.epoch) (Ended (Held keys)) (Ended (Greater word)) refl refl

past_check : (s : SeizeState) (p : SeizeStep) (a : Answer) → Past (next_step s p a)
past_check s Check a = from_check s (keys_told a)
past_check s Register a = either (is_good a) ReadWord (Ended Fault) refl refl
past_check s ReadWord a = from_word s (word_told a)
past_check s (Swap expected) a = from_swap s expected a
past_check s Reserve a = either (is_good a || is_conflict a) (ReadKeys 1) (Ended Fault) refl refl
past_check s (ReadKeys reading) a = from_keys s reading (keys_told a)
past_check s (Preempt victim reading) a = either (is_good a || is_conflict a) (ReadKeys (reading + 1)) (Ended Fault) refl refl
past_check s (Confirm keys) a = from_last s keys (word_told a)
past_check s (Ended result) a = refl

-- ---- one task

-- that the key is validated counts at the check alone
same_step : (s : SeizeState) (v : Bool) (p : SeizeStep) (a : Answer) → (p ≡ Check → s.valid ≡ v) → next_step s p a ≡ next_step (record s { valid = v }) p a
same_step s v Check a k = ap (λ b. next_step (record s { valid = b }) Check a) (k refl)
same_step s v Register a k = refl
same_step s v ReadWord a k = by_word (word_told a)
  where
    by_word : (o : Option ℕ) → compared s o ≡ compared (record s { valid = v }) o
    by_word None = refl
    by_word (Some word) = refl
same_step s v (Swap expected) a k = ap (λ q. if is_good a then Reserve else if is_conflict a then Ended Expelled else q) (by_word (word_found expected a))
  where
    by_word : (o : Option ℕ) → compared s o ≡ compared (record s { valid = v }) o
    by_word None = refl
    by_word (Some word) = refl
same_step s v Reserve a k = refl
same_step s v (ReadKeys reading) a k = by_keys (keys_told a)
  where
    by_keys : (o : Option (List ℕ)) → looked s reading o ≡ looked (record s { valid = v }) reading o
    by_keys None = refl
    by_keys (Some keys) = refl
same_step s v (Preempt victim reading) a k = refl
same_step s v (Confirm keys) a k = by_word (word_told a)
  where
    by_word : (o : Option ℕ) → confirmed s keys o ≡ confirmed (record s { valid = v }) keys o
    by_word None = refl
    by_word (Some word) = refl
same_step s v (Ended result) a k = refl

work_taken : (w : Work) (u : told.Work) (a : Answer) → SameWork w u → SameWork (work_answered a w) (told.work_after u a)
work_taken (Seizing s) (told.Seizes r) a k = (
  ap (λ p. record s { step = p; valid = r.valid }) (same_step s r.valid s.step a k.1) ∙ ap (λ z. seizing.taken z a) k.0,
  λ is. absurd (no_truth (sym (past_check s s.step a) ∙ ap is_check is)),
)
work_taken (Joining j) (told.Joins i) a k = ap (λ z. joining.taken z a) k
work_taken (Seizing s) (told.Joins i) a k = absurd k
work_taken (Joining j) (told.Seizes r) a k = absurd k

work_over : (w : Work) (u : told.Work) (d : ℕ) → SameWork w u → is_over (record { device = d; work = w }) ≡ told.is_over u
work_over (Seizing s) (told.Seizes r) d k = ap (λ (z : SeizeState). is_some (seizing.result_of z)) k.0
work_over (Joining j) (told.Joins i) d k = ap (λ (z : JoinState). is_some (joining.result_of z)) k
work_over (Seizing s) (told.Joins i) d k = absurd k
work_over (Joining j) (told.Seizes r) d k = absurd k

pub task_over : (t : Task) (u : told.Task) → SameTask t u → is_over t ≡ told.is_over u.work
task_over t u k = work_over t.work u.work t.device k.1

-- ---- lists of them

pub same_taken : (ts : List Task) (us : List told.Task) (a : Answer) → Same ts us → Same (after_answer ts a) (told.moved a us)
same_taken [] [] a k = tt
same_taken (t ∷ ts) (u ∷ us) a k =
    subst (λ b. Same (if not b then answered a t ∷ ts else t ∷ after_answer ts a)
    (if told.is_over u.work then u ∷ told.moved a us else (record u { work = told.work_after u.work a }) ∷ us)) (sym (task_over t u k.0))
    (by_test (told.is_over u.work) (same_taken ts us a k.1))
  where
    by_test : (b : Bool) → Same (after_answer ts a) (told.moved a us)
        → Same (if not b then answered a t ∷ ts else t ∷ after_answer ts a) (if b then u ∷ told.moved a us else (record u { work = told.work_after u.work a }) ∷ us)
    by_test true rest = (k.0, rest)
    by_test false rest = ((k.0.0, work_taken t.work u.work a k.0.1), k.1)
same_taken [] (u ∷ us) a k = absurd k
same_taken (t ∷ ts) [] a k = absurd k

pub same_queue : (ts : List Task) (us : List told.Task) → Same ts us → Same (filter is_queued ts) (filter (λ (u : told.Task). not (told.is_over u.work)) us)
same_queue [] [] k = tt
same_queue (t ∷ ts) (u ∷ us) k =
    subst (λ b. Same (if not b then t ∷ filter is_queued ts else filter is_queued ts)
    (if not (told.is_over u.work) then u ∷ filter (λ (z : told.Task). not (told.is_over z.work)) us else filter (λ (z : told.Task). not (told.is_over z.work)) us)) (sym (task_over t u k.0))
    (by_test (told.is_over u.work) (same_queue ts us k.1))
  where
    by_test : (b : Bool) → Same (filter is_queued ts) (filter (λ (z : told.Task). not (told.is_over z.work)) us)
        → Same (if not b then t ∷ filter is_queued ts else filter is_queued ts)
        (if not b then u ∷ filter (λ (z : told.Task). not (told.is_over z.work)) us else filter (λ (z : told.Task). not (told.is_over z.work)) us)
    by_test true rest = rest
    by_test false rest = (k.0, rest)
same_queue [] (u ∷ us) k = absurd k
same_queue (t ∷ ts) [] k = absurd k

same_more : (ts : List Task) (us : List told.Task) (t : Task) (u : told.Task) → Same ts us → SameTask t u → Same (ts ++ t ∷ []) (us ++ u ∷ [])
same_more [] [] t u k one = (one, tt)
same_more (x ∷ ts) (y ∷ us) t u k one = (k.0, same_more ts us t u k.1 one)
same_more [] (y ∷ us) t u k one = absurd k
same_more (x ∷ ts) [] t u k one = absurd k

seizes_so : (w : Work) → is_joining w ≡ false → is_seizing w ≡ true
seizes_so (Seizing s) k = refl
seizes_so (Joining j) k = absurd (no_truth (sym k))

and_true : (a b : Bool) → b ≡ true → (a && b) ≡ a
and_true true b k = k
and_true false b k = refl

-- a device has a task where it has a seizing
pub found_same : (d : ℕ) (ts : List Task) (us : List told.Task) → NoJoins ts → Same ts us → told.has_task d us ≡ is_some (seizure_of ts d)
found_same d [] [] none k = refl
found_same d (t ∷ ts) (u ∷ us) none k =
    ap (λ e. (e == d) || told.has_task d us) (sym k.0.0)
    ∙ (ap (λ b. b || told.has_task d us) (sym (and_true (t.device == d) (is_seizing t.work) (seizes_so t.work none.0)))
    ∙ by_test ((t.device == d) && is_seizing t.work) (found_same d ts us none.1 k.1))
  where
    by_test : (b : Bool) → told.has_task d us ≡ is_some (seizure_of ts d) → (b || told.has_task d us) ≡ is_some (if b then Some t else seizure_of ts d)
    by_test true rest = refl
    by_test false rest = rest
found_same d [] (u ∷ us) none k = absurd k
found_same d (t ∷ ts) [] none k = absurd k

-- a seizing more, unless the device has one
pub same_begun : (d : ℕ) (ts : List Task) (us : List told.Task) (s r : SeizeState) → NoJoins ts → Same ts us → SameWork (Seizing s) (told.Seizes r)
    → Same (after_seize ts d s) (told.with_task d (told.Seizes r) us)
same_begun d ts us s r none k one =
    subst (λ b. Same (put_unless (seizure_of ts d) (record { device = d; work = Seizing s }) ts)
    (if b then us else us ++ (record { device = d; work = told.Seizes r }) ∷ [])) (sym (found_same d ts us none k)) (by_old (seizure_of ts d))
  where
    by_old : (o : Option Task) → Same (put_unless o (record { device = d; work = Seizing s }) ts) (if is_some o then us else us ++ (record { device = d; work = told.Seizes r }) ∷ [])
    by_old None = same_more ts us (record { device = d; work = Seizing s }) (record { device = d; work = told.Seizes r }) k (refl, one)
    by_old (Some t) = k

-- ---- no joining among them

pub none_begun : (d : ℕ) (ts : List Task) (s : SeizeState) → NoJoins ts → NoJoins (after_seize ts d s)
none_begun d ts s k = by_old (seizure_of ts d)
  where
    by_old : (o : Option Task) → NoJoins (put_unless o (record { device = d; work = Seizing s }) ts)
    by_old None = both (λ (t : Task). is_joining t.work ≡ false) ts (record { device = d; work = Seizing s } ∷ []) k (refl, tt)
    by_old (Some t) = k

answered_kind : (a : Answer) (w : Work) → is_joining (work_answered a w) ≡ is_joining w
answered_kind a (Seizing s) = refl
answered_kind a (Joining j) = refl

pub none_taken : (ts : List Task) (a : Answer) → NoJoins ts → NoJoins (after_answer ts a)
none_taken [] a k = tt
none_taken (t ∷ ts) a k = by_test (is_queued t) (none_taken ts a k.1)
  where
    by_test : (b : Bool) → NoJoins (after_answer ts a) → NoJoins (if b then answered a t ∷ ts else t ∷ after_answer ts a)
    by_test true rest = (answered_kind a t.work ∙ k.0, k.1)
    by_test false rest = (k.0, rest)

-- ---- the joinings among them

pub joins_taken : (ts : List Task) (a : Answer) → ((t : Task) → first_of ts ≡ Some t → is_joining t.work ≡ true) → joins_in (after_answer ts a) ≡ after_answer (joins_in ts) a
joins_taken [] a first = refl
joins_taken (t ∷ ts) a first = by_queue (is_queued t) refl (λ off. joins_taken ts a (λ u found. first u (if_not (is_queued t) (Some t) (first_of ts) off ∙ found)))
  where
    by_kind : is_queued t ≡ false → (j : Bool) → is_joining t.work ≡ j → joins_in (after_answer ts a) ≡ after_answer (joins_in ts) a
        → joins_in (t ∷ after_answer ts a) ≡ after_answer (joins_in (t ∷ ts)) a
    by_kind off true is rest =
        if_so (is_joining t.work) (t ∷ joins_in (after_answer ts a)) (joins_in (after_answer ts a)) is
        ∙ (ap (λ z. t ∷ z) rest
        ∙ (sym (if_not (is_queued t) (answered a t ∷ joins_in ts) (t ∷ after_answer (joins_in ts) a) off)
        ∙ sym (ap (λ z. after_answer z a) (if_so (is_joining t.work) (t ∷ joins_in ts) (joins_in ts) is))))
    by_kind off false is rest =
        if_not (is_joining t.work) (t ∷ joins_in (after_answer ts a)) (joins_in (after_answer ts a)) is
        ∙ (rest ∙ sym (ap (λ z. after_answer z a) (if_not (is_joining t.work) (t ∷ joins_in ts) (joins_in ts) is)))

    by_queue : (q : Bool) → is_queued t ≡ q → (is_queued t ≡ false → joins_in (after_answer ts a) ≡ after_answer (joins_in ts) a) → joins_in (after_answer (t ∷ ts) a) ≡ after_answer (joins_in (t ∷ ts)) a
    by_queue true is rest =
        let joins : is_joining t.work ≡ true = first t (if_so (is_queued t) (Some t) (first_of ts) is) in
        ap joins_in (if_so (is_queued t) (answered a t ∷ ts) (t ∷ after_answer ts a) is)
        ∙ (if_so (is_joining (work_answered a t.work)) (answered a t ∷ joins_in ts) (joins_in ts) (answered_kind a t.work ∙ joins)
        ∙ (sym (if_so (is_queued t) (answered a t ∷ joins_in ts) (t ∷ after_answer (joins_in ts) a) is)
        ∙ sym (ap (λ z. after_answer z a) (if_so (is_joining t.work) (t ∷ joins_in ts) (joins_in ts) joins))))
    by_queue false is rest =
        ap joins_in (if_not (is_queued t) (answered a t ∷ ts) (t ∷ after_answer ts a) is)
        ∙ by_kind is (is_joining t.work) refl (rest is)

joins_more : (ts : List Task) (t : Task) → is_joining t.work ≡ false → joins_in (ts ++ t ∷ []) ≡ joins_in ts
joins_more [] t off = if_not (is_joining t.work) (t ∷ []) [] off
joins_more (x ∷ ts) t off = ap (λ z. if is_joining x.work then x ∷ z else z) (joins_more ts t off)

pub joins_begun : (d : ℕ) (ts : List Task) (s : SeizeState) → joins_in (after_seize ts d s) ≡ joins_in ts
joins_begun d ts s = by_old (seizure_of ts d)
  where
    by_old : (o : Option Task) → joins_in (put_unless o (record { device = d; work = Seizing s }) ts) ≡ joins_in ts
    by_old None = joins_more ts (record { device = d; work = Seizing s }) refl
    by_old (Some t) = refl
