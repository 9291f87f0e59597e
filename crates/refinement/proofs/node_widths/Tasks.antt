-- What is read and how a task ends has its widths, where answers have.
use Rattle.std.specs.Prelude.{ℕ, ◌^◌, ◌≤◌, ◌<◌, ◌==◌, ◌&&◌, ◌||◌, nat_lt, Bool, List, [], ◌∷◌, ◌++◌, Option, None, Some, IfSome, Ok, find, length}
use Rattle.std.proofs.Common.{refl, arith}
use Rattle.std.specs.List.{AllByRecursion}
use Rattle.std.specs.Option.{option_and_then}
use Rattle.cmm_attempt.proofs.Basics.{if_either}
use Rattle.device_queue.specs.declared.progress.Progress.{Progress}
use Rattle.device_queue.specs.declared.progress.Progress.TheVariants as progress
use Rattle.device_queue.specs.declared.task.Task.{Task}
use Rattle.device_queue.specs.declared.task.Work.{Work}
use Rattle.device_queue.specs.declared.task.Work.TheVariants as work
use Rattle.device_queue.specs.Queue.{after_answer, first_of, join_of, kept_of, progress_after, progress_by, put_unless, seizure_of}
use Rattle.device_queue.specs.Tasks.{answered, is_queued, is_seizure_of, joining_progress, progress_in, result_in, seizing_progress, work_answered}
use Rattle.cl_base.specs.Seizings.{SeizeResult}
use Rattle.pgr_device.specs.declared.command.PrAnswer.TheVariants as given
use Rattle.seize.specs.Answers.{Answer, is_conflict, is_good, keys_told, word_found, word_told}
use Rattle.seize.specs.Joining as joining
use Rattle.seize.specs.Keys.{first_stranger, has_key}
use Rattle.seize.specs.Seizing as seizing
use Rattle.seize.specs.Seizing.{SeizeState, checked, cleared, compared, confirmed, looked, next_step, own_key, result_at, swapped}
use Rattle.seize.specs.declared.kind.JoinResult.{JoinResult}
use Rattle.seize.specs.declared.step.SeizeStep.{SeizeStep}
use Rattle.seize.specs.declared.step.SeizeStep.TheVariants as seize
use Rattle.cl_base.specs.declared.seizing.SeizeEnd.TheVariants as end
use Rattle.wire.specs.declared.lists.Reading.{Reading}
use Rattle.wire.specs.Spelling.{FitsReading, FitsResult, IsDevice, IsShortList, IsWord}
use Rattle.node_model.specs.declared.cluster.Cluster.{Cluster}
use Rattle.node_model.specs.Attempts.{is_to_join, joining_from, joining_with}
use Rattle.refinement.specs.node_widths.Widths.{AnswerFits, ReadFits, TaskFits, WorkFits}

-- Lists.

pub found_fits : {X : Type 0} (P : X → Type 0) (f : X → Bool) (xs : List X) → AllByRecursion P xs → IfSome (find f xs) P
found_fits P f [] h = tt
found_fits P f (x ∷ xs) h = if_either (λ o. IfSome o P) (f x) (Some x) (find f xs) h.0 (found_fits P f xs h.1)

pub all_and_one : {X : Type 0} (P : X → Type 0) (xs : List X) (y : X) → AllByRecursion P xs → P y → AllByRecursion P (xs ++ y ∷ [])
all_and_one P [] y h p = (p, tt)
all_and_one P (x ∷ xs) y h p = (h.0, all_and_one P xs y h.1 p)

-- One seizing.

abbrev AreKeys : List ℕ → Type 0
AreKeys keys = IsShortList IsWord keys

few_keys : (n : ℕ) → n ≤ 32 → n < 2 ^ 16
few_keys n h = omega (arith, h)

keys_fit : (a : Answer) → AnswerFits a → IfSome (keys_told a) AreKeys
keys_fit (Ok (given.Keys keys)) h = (few_keys (length keys) h.0, h.1)
keys_fit _ h = tt

word_fits : (a : Answer) → AnswerFits a → IfSome (word_told a) IsWord
word_fits (Ok (given.Word w)) h = h
word_fits _ h = tt

found_word_fits : (expected : ℕ) (a : Answer) → AnswerFits a → IfSome (word_found expected a) IsWord
found_word_fits expected (Ok (given.Miscompare w)) h = if_either (λ o. IfSome o IsWord) (w == expected) None (Some w) tt h
found_word_fits expected _ h = tt

checked_fits : (s : SeizeState) (o : Option (List ℕ)) → IfSome o AreKeys → ReadFits (checked s o)
checked_fits s None h = tt
checked_fits s (Some keys) h = if_either ReadFits (has_key (own_key s) keys && s.valid) seize.ReadWord (seize.Ended (end.NotRegistered keys)) tt h

compared_fits : (s : SeizeState) (o : Option ℕ) → IfSome o IsWord → ReadFits (compared s o)
compared_fits s None h = tt
compared_fits s (Some w) h =
    if_either ReadFits (nat_lt w s.epoch) (seize.Swap w) _ tt (if_either ReadFits (w == s.epoch) seize.Reserve (seize.Ended (end.Greater w)) tt h)

swapped_fits : (s : SeizeState) (expected : ℕ) (a : Answer) → AnswerFits a → ReadFits (swapped s expected a)
swapped_fits s expected a h =
    if_either ReadFits (is_good a) seize.Reserve _ tt
    (if_either ReadFits (is_conflict a) (seize.Ended end.Expelled) (compared s (word_found expected a)) tt (compared_fits s (word_found expected a) (found_word_fits expected a h)))

cleared_fits : (keys : List ℕ) (reading : ℕ) (o : Option ℕ) → AreKeys keys → IfSome o IsWord → ReadFits (cleared keys reading o)
cleared_fits keys reading None h k = h
cleared_fits keys reading (Some key) h k = if_either ReadFits (nat_lt reading 64) (seize.Preempt key reading) (seize.Ended (end.Contended key)) tt k

looked_fits : (s : SeizeState) (reading : ℕ) (o : Option (List ℕ)) → IfSome o AreKeys → ReadFits (looked s reading o)
looked_fits s reading None h = tt
looked_fits s reading (Some keys) h =
    if_either ReadFits (has_key (own_key s) keys) (cleared keys reading (first_stranger s.cluster s.members keys)) (seize.Ended end.Expelled)
    (cleared_fits keys reading (first_stranger s.cluster s.members keys) h (found_fits IsWord _ keys h.1)) tt

confirmed_fits : (s : SeizeState) (keys : List ℕ) (o : Option ℕ) → AreKeys keys → IfSome o IsWord → ReadFits (confirmed s keys o)
confirmed_fits s keys None h k = tt
confirmed_fits s keys (Some w) h k = if_either ReadFits (w == s.epoch) (seize.Ended (end.Held keys)) (seize.Ended (end.Greater w)) h k

next_fits : (s : SeizeState) (step : SeizeStep) (a : Answer) → AnswerFits a → ReadFits step → ReadFits (next_step s step a)
next_fits s seize.Check a h k = checked_fits s (keys_told a) (keys_fit a h)
next_fits s seize.Register a h k = if_either ReadFits (is_good a) seize.ReadWord (seize.Ended end.Fault) tt tt
next_fits s seize.ReadWord a h k = compared_fits s (word_told a) (word_fits a h)
next_fits s (seize.Swap expected) a h k = swapped_fits s expected a h
next_fits s seize.Reserve a h k = if_either ReadFits (is_good a || is_conflict a) (seize.ReadKeys 1) (seize.Ended end.Fault) tt tt
next_fits s (seize.ReadKeys reading) a h k = looked_fits s reading (keys_told a) (keys_fit a h)
next_fits s (seize.Preempt victim reading) a h k = if_either ReadFits (is_good a || is_conflict a) _ (seize.Ended end.Fault) tt tt
next_fits s (seize.Confirm keys) a h k = confirmed_fits s keys (word_told a) k (word_fits a h)
next_fits s (seize.Ended result) a h k = k

-- The queue.

abbrev pub TasksFit : Cluster → ℕ → List Task → Type 0
TasksFit c n tasks = AllByRecursion (TaskFits c n) tasks

work_fits : (c : Cluster) (n : ℕ) (a : Answer) (w : Work) → AnswerFits a → WorkFits c n w → WorkFits c n (work_answered a w)
work_fits c n a (work.Seizing s) h k = (k.0, k.1, k.2, next_fits s s.step a h k.3)
work_fits c n a (work.Joining j) h k = k

pub answered_fit : (c : Cluster) (n : ℕ) (tasks : List Task) (a : Answer) → AnswerFits a → TasksFit c n tasks → TasksFit c n (after_answer tasks a)
answered_fit c n [] a h k = tt
answered_fit c n (t ∷ ts) a h k =
    if_either (TasksFit c n) (is_queued t) (answered a t ∷ ts) (t ∷ after_answer ts a) ((k.0.0, work_fits c n a t.work h k.0.1), k.1) (k.0, answered_fit c n ts a h k.1)

pub put_fits : (c : Cluster) (n : ℕ) (o : Option Task) (t : Task) (tasks : List Task) → TaskFits c n t → TasksFit c n tasks → TasksFit c n (put_unless o t tasks)
put_fits c n None t tasks new h = all_and_one (TaskFits c n) tasks t h new
put_fits c n (Some earlier) t tasks new h = h

joining_fits : (c : Cluster) (n e joined : ℕ) (tasks : List Task) (r : Reading) → FitsReading r → TasksFit c n tasks → TasksFit c n (joining_with c n e joined tasks r)
joining_fits c n e joined tasks r f h =
    if_either (TasksFit c n) (is_to_join c n joined r) _ tasks (put_fits c n (join_of tasks r.device) _ tasks (f.0, (refl, refl)) h) h

pub joinings_fit : (c : Cluster) (n e joined : ℕ) (tasks : List Task) (rs : List Reading) → AllByRecursion FitsReading rs → TasksFit c n tasks → TasksFit c n (joining_from c n e joined tasks rs)
joinings_fit c n e joined tasks [] f h = h
joinings_fit c n e joined tasks (r ∷ rs) f h = joinings_fit c n e joined (joining_with c n e joined tasks r) rs f.1 (joining_fits c n e joined tasks r f.0 h)

-- How a task ends.

result_fits : (step : SeizeStep) → ReadFits step → IfSome (result_at step) FitsResult
result_fits (seize.Ended result) h = h
result_fits _ h = tt

work_result_fits : (c : Cluster) (n : ℕ) (w : Work) → WorkFits c n w → IfSome (result_in w) FitsResult
work_result_fits c n (work.Seizing s) h = result_fits s.step h.3
work_result_fits c n (work.Joining j) h = tt

kept_by_fits : (c : Cluster) (n : ℕ) (o : Option Task) → IfSome o (TaskFits c n) → IfSome (option_and_then (λ (t : Task). result_in t.work) o) FitsResult
kept_by_fits c n None h = tt
kept_by_fits c n (Some t) h = work_result_fits c n t.work h.1

pub kept_fits : (c : Cluster) (n : ℕ) (tasks : List Task) (d : ℕ) → TasksFit c n tasks → IfSome (kept_of tasks d) FitsResult
kept_fits c n tasks d h = kept_by_fits c n (seizure_of tasks d) (found_fits (TaskFits c n) (is_seizure_of d) tasks h)

abbrev pub ProgressFits : Progress → Type 0
ProgressFits progress.GoesOn = Unit {0}
ProgressFits (progress.Seized d result) = IsDevice d × FitsResult result
ProgressFits (progress.Joined d result) = IsDevice d

seized_fits : (d : ℕ) (o : Option SeizeResult) → IsDevice d → IfSome o FitsResult → ProgressFits (seizing_progress d o)
seized_fits d None is h = tt
seized_fits d (Some result) is h = (is, h)

joined_fits : (d : ℕ) (o : Option JoinResult) → IsDevice d → ProgressFits (joining_progress d o)
joined_fits d None is = tt
joined_fits d (Some result) is = is

in_fits : (c : Cluster) (n d : ℕ) (w : Work) → IsDevice d → WorkFits c n w → ProgressFits (progress_in d w)
in_fits c n d (work.Seizing s) is h = seized_fits d (seizing.result_of s) is (result_fits s.step h.3)
in_fits c n d (work.Joining j) is h = joined_fits d (joining.result_of j) is

by_fits : (c : Cluster) (n : ℕ) (o : Option Task) (a : Answer) → AnswerFits a → IfSome o (TaskFits c n) → ProgressFits (progress_by o a)
by_fits c n None a h k = tt
by_fits c n (Some t) a h k = in_fits c n t.device (work_answered a t.work) k.0 (work_fits c n a t.work h k.1)

pub progress_fits : (c : Cluster) (n : ℕ) (tasks : List Task) (a : Answer) → AnswerFits a → TasksFit c n tasks → ProgressFits (progress_after tasks a)
progress_fits c n tasks a h k = by_fits c n (first_of tasks) a h (found_fits (TaskFits c n) is_queued tasks k)
