-- The tasks of a node since they were last cleared, in the order in which they were begun: what is asked of them, and what calls make of them.
use Rattle.std.specs.Prelude.{ℕ, ◌&&◌, Bool, List, [], ◌∷◌, ◌++◌, Option, None, Some, is_none, find, if◌then◌else◌}
use Rattle.std.specs.List.{list_any, list_all}
use Rattle.std.specs.Option.{option_and_then, option_map}
use Rattle.cl_base.specs.Seizings.{SeizeResult}
use Rattle.pgr_device.specs.declared.command.PrCommand.{PrCommand}
use Rattle.seize.specs.declared.kind.JoinResult.{JoinResult}
use Rattle.seize.specs.Answers.{Answer}
use Rattle.seize.specs.Seizing.{SeizeState}
use Rattle.seize.specs.Joining.{JoinState}
use Rattle.device_queue.specs.declared.progress.Asked.{Asked}
use Rattle.device_queue.specs.declared.progress.Asked.TheVariants.{Kept, UnderWay, Begun}
use Rattle.device_queue.specs.declared.progress.Progress.{Progress}
use Rattle.device_queue.specs.declared.progress.Progress.TheVariants.{GoesOn}
use Rattle.device_queue.specs.declared.task.Task.{Task}
use Rattle.device_queue.specs.declared.task.Work.TheVariants.{Seizing, Joining}
use Rattle.device_queue.specs.Tasks.{answered, command_in, is_join_of, is_joining, is_over, is_queued, is_seizure_of, join_result_in, progress_of, registers_first, result_in}

-- the first task of the queue: the first that is not over
abbrev pub first_of : List Task → Option Task
first_of tasks = find is_queued tasks

-- no task is queued
abbrev pub is_idle : List Task → Bool
is_idle tasks = list_all is_over tasks

-- a joining is queued
abbrev pub joins : List Task → Bool
joins tasks = list_any (λ t. is_joining t.work && is_queued t) tasks

-- the command that is due
abbrev pub next_of : List Task → Option PrCommand
next_of tasks = option_and_then (λ t. command_in t.work) (first_of tasks)

-- the device of that command
abbrev pub due_device : List Task → Option ℕ
due_device tasks = option_map (λ t. t.device) (first_of tasks)

-- the device, where the command that is due is the first of a plain seizing
abbrev pub begins_plainly : List Task → Option ℕ
begins_plainly tasks = option_and_then (λ t. if registers_first t.work then Some t.device else None) (first_of tasks)

-- the seizing of this device, and the joining
abbrev pub seizure_of : List Task → ℕ → Option Task
seizure_of tasks d = find (is_seizure_of d) tasks

abbrev pub join_of : List Task → ℕ → Option Task
join_of tasks d = find (is_join_of d) tasks

-- how they ended
abbrev pub kept_of : List Task → ℕ → Option SeizeResult
kept_of tasks d = option_and_then (λ t. result_in t.work) (seizure_of tasks d)

abbrev pub kept_join_of : List Task → ℕ → Option JoinResult
kept_join_of tasks d = option_and_then (λ t. join_result_in t.work) (join_of tasks d)

-- what becomes of a request to seize a device
abbrev pub asked_again : Option SeizeResult → Asked
asked_again None = UnderWay
asked_again (Some result) = Kept result

abbrev pub asked_by : Option Task → Asked
asked_by None = Begun
asked_by (Some t) = asked_again (result_in t.work)

abbrev pub asked_of : List Task → ℕ → Asked
asked_of tasks d = asked_by (seizure_of tasks d)

abbrev pub begins_join : List Task → ℕ → Bool
begins_join tasks d = is_none (join_of tasks d)

-- a task is put at the end, unless there is one already
abbrev pub put_unless : Option Task → Task → List Task → List Task
put_unless None t tasks = tasks ++ t ∷ []
put_unless (Some earlier) t tasks = tasks

abbrev pub after_seize : List Task → ℕ → SeizeState → List Task
after_seize tasks d s = put_unless (seizure_of tasks d) (record { device = d; work = Seizing s }) tasks

abbrev pub after_join : List Task → ℕ → JoinState → List Task
after_join tasks d j = put_unless (join_of tasks d) (record { device = d; work = Joining j }) tasks

-- the first task of the queue takes the answer
abbrev pub after_answer : List Task → Answer → List Task
after_answer [] a = []
after_answer (t ∷ ts) a = if is_queued t then answered a t ∷ ts else t ∷ after_answer ts a

-- .. and has come to this by it
abbrev pub progress_by : Option Task → Answer → Progress
progress_by None a = GoesOn
progress_by (Some t) a = progress_of (answered a t)

abbrev pub progress_after : List Task → Answer → Progress
progress_after tasks a = progress_by (first_of tasks) a
