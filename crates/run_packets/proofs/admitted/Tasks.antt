-- The tasks of a node are of devices of the cluster.
use Rattle.std.specs.Prelude.{ℕ, ◌==◌, ◌&&◌, ◌||◌, nat_lt, List, [], ◌∷◌, Option, None, Some, IfSome, Ok}
use Rattle.std.proofs.Common.{subst, inl, inr}
use Rattle.cl_base.specs.Seizings.{SeizeResult}
use Rattle.cl_base.specs.declared.seizing.SeizeEnd.TheVariants as end
use Rattle.cmm_attempt.proofs.Basics.{if_either}
use Rattle.device_queue.specs.Queue.{after_answer, after_seize, first_of, join_of, progress_after, progress_by, put_unless, seizure_of}
use Rattle.device_queue.specs.Tasks.{answered, is_queued, joining_progress, progress_in, result_in, seizing_progress, work_answered}
use Rattle.device_queue.specs.declared.progress.Progress.{Progress}
use Rattle.device_queue.specs.declared.progress.Progress.TheVariants as progress
use Rattle.device_queue.specs.declared.task.Task.{Task}
use Rattle.device_queue.specs.declared.task.Work.{Work}
use Rattle.device_queue.specs.declared.task.Work.TheVariants as work
use Rattle.node_model.specs.Attempts.{is_to_join, joining_from, joining_with}
use Rattle.node_model.specs.declared.cluster.Cluster.{Cluster}
use Rattle.refinement.specs.node_widths.Widths.{AnswerFits}
use Rattle.pgr_device.specs.declared.command.PrAnswer.TheVariants as given
use Rattle.run_history.proofs.Lists.{both, found}
use Rattle.run_history.specs.Guards.{HasEnded}
use Rattle.run_packets.specs.native.Named.{IsKnown}
use Rattle.seize.specs.Answers.{Answer, is_conflict, is_good, keys_told, word_found, word_told}
use Rattle.seize.specs.Joining as joining
use Rattle.seize.specs.Keys.{first_stranger, has_key}
use Rattle.seize.specs.Seizing as seizing
use Rattle.seize.specs.Seizing.{SeizeState, checked, cleared, compared, confirmed, looked, next_step, own_key, result_at, swapped}
use Rattle.seize.specs.declared.kind.JoinResult.{JoinResult}
use Rattle.seize.specs.declared.kind.SeizeKind.{SeizeKind}
use Rattle.seize.specs.declared.kind.SeizeKind.TheVariants.{Plain, Vote}
use Rattle.seize.specs.declared.step.SeizeStep.{SeizeStep}
use Rattle.seize.specs.declared.step.SeizeStep.TheVariants as seize
use Rattle.wire.specs.declared.lists.Reading.{Reading}
use Rattle.run_packets.specs.admitted.Known.{AreFew, ReadingsKnown, ResultFew, StepFew, TaskKnown, TasksKnown, WorkFew}

-- ---- one more

put_known : (c : Cluster) (o : Option Task) (t : Task) (tasks : List Task) → TaskKnown c t → TasksKnown c tasks → TasksKnown c (put_unless o t tasks)
put_known c None t tasks is h = both (TaskKnown c) tasks (t ∷ []) h (is, tt)
put_known c (Some earlier) t tasks is h = h

pub seize_known : (c : Cluster) (tasks : List Task) (d : ℕ) (s : SeizeState) → IsKnown c d → StepFew s.step → TasksKnown c tasks → TasksKnown c (after_seize tasks d s)
seize_known c tasks d s is few h = put_known c (seizure_of tasks d) (record { device = d; work = work.Seizing s }) tasks (is, few) h

join_known : (c : Cluster) (me e joined : ℕ) (tasks : List Task) (r : Reading) → IsKnown c r.device → TasksKnown c tasks → TasksKnown c (joining_with c me e joined tasks r)
join_known c me e joined tasks r is h =
    if_either (TasksKnown c) (is_to_join c me joined r) (put_unless (join_of tasks r.device) (record { device = r.device; work = work.Joining (joining.begun e me c.id) }) tasks) tasks
    (put_known c (join_of tasks r.device) (record { device = r.device; work = work.Joining (joining.begun e me c.id) }) tasks (is, tt) h) h

pub joins_known : (c : Cluster) (me e joined members : ℕ) (tasks : List Task) (readings : List Reading) → ReadingsKnown c members readings → TasksKnown c tasks
    → TasksKnown c (joining_from c me e joined tasks readings)
joins_known c me e joined members tasks [] are h = h
joins_known c me e joined members tasks (r ∷ readings) are h =
    joins_known c me e joined members (joining_with c me e joined tasks r) readings are.1 (join_known c me e joined tasks r are.0.0 h)

-- a seizing that begins has read nothing
pub begun_few : (kind : SeizeKind) → StepFew (seizing.first_step kind)
begun_few Vote = tt
begun_few Plain = tt

-- ---- an answer

keys_few : (a : Answer) → AnswerFits a → IfSome (keys_told a) AreFew
keys_few (Ok (given.Keys keys)) h = h.0
keys_few _ h = tt

checked_few : (s : SeizeState) (o : Option (List ℕ)) → IfSome o AreFew → StepFew (checked s o)
checked_few s None h = tt
checked_few s (Some keys) h = if_either StepFew (has_key (own_key s) keys && s.valid) seize.ReadWord (seize.Ended (end.NotRegistered keys)) tt h

compared_few : (s : SeizeState) (o : Option ℕ) → StepFew (compared s o)
compared_few s None = tt
compared_few s (Some w) = if_either StepFew (nat_lt w s.epoch) (seize.Swap w) _ tt (if_either StepFew (w == s.epoch) seize.Reserve (seize.Ended (end.Greater w)) tt tt)

swapped_few : (s : SeizeState) (expected : ℕ) (a : Answer) → StepFew (swapped s expected a)
swapped_few s expected a =
    if_either StepFew (is_good a) seize.Reserve _ tt (if_either StepFew (is_conflict a) (seize.Ended end.Expelled) (compared s (word_found expected a)) tt (compared_few s (word_found expected a)))

cleared_few : (keys : List ℕ) (reading : ℕ) (o : Option ℕ) → AreFew keys → StepFew (cleared keys reading o)
cleared_few keys reading None h = h
cleared_few keys reading (Some key) h = if_either StepFew (nat_lt reading 64) (seize.Preempt key reading) (seize.Ended (end.Contended key)) tt tt

looked_few : (s : SeizeState) (reading : ℕ) (o : Option (List ℕ)) → IfSome o AreFew → StepFew (looked s reading o)
looked_few s reading None h = tt
looked_few s reading (Some keys) h =
    if_either StepFew (has_key (own_key s) keys) (cleared keys reading (first_stranger s.cluster s.members keys)) (seize.Ended end.Expelled)
    (cleared_few keys reading (first_stranger s.cluster s.members keys) h) tt

confirmed_few : (s : SeizeState) (keys : List ℕ) (o : Option ℕ) → AreFew keys → StepFew (confirmed s keys o)
confirmed_few s keys None h = tt
confirmed_few s keys (Some w) h = if_either StepFew (w == s.epoch) (seize.Ended (end.Held keys)) (seize.Ended (end.Greater w)) h tt

next_few : (s : SeizeState) (step : SeizeStep) (a : Answer) → AnswerFits a → StepFew step → StepFew (next_step s step a)
next_few s seize.Check a h k = checked_few s (keys_told a) (keys_few a h)
next_few s seize.Register a h k = if_either StepFew (is_good a) seize.ReadWord (seize.Ended end.Fault) tt tt
next_few s seize.ReadWord a h k = compared_few s (word_told a)
next_few s (seize.Swap expected) a h k = swapped_few s expected a
next_few s seize.Reserve a h k = if_either StepFew (is_good a || is_conflict a) (seize.ReadKeys 1) (seize.Ended end.Fault) tt tt
next_few s (seize.ReadKeys reading) a h k = looked_few s reading (keys_told a) (keys_few a h)
next_few s (seize.Preempt victim reading) a h k = if_either StepFew (is_good a || is_conflict a) _ (seize.Ended end.Fault) tt tt
next_few s (seize.Confirm keys) a h k = confirmed_few s keys (word_told a) k
next_few s (seize.Ended result) a h k = k

work_few : (a : Answer) (w : Work) → AnswerFits a → WorkFew w → WorkFew (work_answered a w)
work_few a (work.Seizing s) h k = next_few s s.step a h k
work_few a (work.Joining j) h k = k

pub answer_known : (c : Cluster) (tasks : List Task) (a : Answer) → AnswerFits a → TasksKnown c tasks → TasksKnown c (after_answer tasks a)
answer_known c [] a fit h = tt
answer_known c (t ∷ tasks) a fit h =
    if_either (TasksKnown c) (is_queued t) (answered a t ∷ tasks) (t ∷ after_answer tasks a) ((h.0.0, work_few a t.work fit h.0.1), h.1) (h.0, answer_known c tasks a fit h.1)

-- what a task has come to is of its device
abbrev pub ProgressKnown : Cluster → Progress → Type 0
ProgressKnown c progress.GoesOn = Unit {0}
ProgressKnown c (progress.Seized d result) = IsKnown c d
ProgressKnown c (progress.Joined d result) = IsKnown c d

seized_known : (c : Cluster) (d : ℕ) (o : Option SeizeResult) → IsKnown c d → ProgressKnown c (seizing_progress d o)
seized_known c d None is = tt
seized_known c d (Some result) is = is

joined_known : (c : Cluster) (d : ℕ) (o : Option JoinResult) → IsKnown c d → ProgressKnown c (joining_progress d o)
joined_known c d None is = tt
joined_known c d (Some result) is = is

in_known : (c : Cluster) (d : ℕ) (w : Work) → IsKnown c d → ProgressKnown c (progress_in d w)
in_known c d (work.Seizing s) is = seized_known c d (seizing.result_of s) is
in_known c d (work.Joining j) is = joined_known c d (joining.result_of j) is

by_known : (c : Cluster) (o : Option Task) (a : Answer) → IfSome o (TaskKnown c) → ProgressKnown c (progress_by o a)
by_known c None a h = tt
by_known c (Some t) a h = in_known c t.device (work_answered a t.work) h.0

pub progress_known : (c : Cluster) (tasks : List Task) (a : Answer) → TasksKnown c tasks → ProgressKnown c (progress_after tasks a)
progress_known c tasks a h = by_known c (first_of tasks) a (found (TaskKnown c) is_queued tasks h)

-- ---- what a task has ended is of its device

result_few : (step : SeizeStep) → StepFew step → IfSome (result_at step) ResultFew
result_few (seize.Ended result) h = h
result_few _ h = tt

work_result_few : (w : Work) → WorkFew w → IfSome (result_in w) ResultFew
work_result_few (work.Seizing s) h = result_few s.step h
work_result_few (work.Joining j) h = tt

pub ended_known : (c : Cluster) (tasks : List Task) (d : ℕ) (r : SeizeResult) → HasEnded tasks d r → TasksKnown c tasks → IsKnown c d × ResultFew r
ended_known c [] d r ended h = absurd ended
ended_known c (t ∷ tasks) d r (inl here) h = (subst (IsKnown c) here.0 h.0.0, subst (λ o. IfSome o ResultFew) here.1 (work_result_few t.work h.0.1))
ended_known c (t ∷ tasks) d r (inr later) h = ended_known c tasks d r later h.1
