-- One task: what is done at its device, and how far it has come.
use Rattle.std.specs.Prelude.{ℕ, ◌==◌, ◌&&◌, not, Bool, true, false, Option, None, Some, is_some}
use Rattle.cl_base.specs.Seizings.{SeizeResult}
use Rattle.pgr_device.specs.declared.command.PrCommand.{PrCommand}
use Rattle.seize.specs.declared.kind.JoinResult.{JoinResult}
use Rattle.seize.specs.declared.step.SeizeStep.{SeizeStep}
use Rattle.seize.specs.declared.step.SeizeStep.TheVariants.{Register}
use Rattle.seize.specs.Answers.{Answer}
use Rattle.seize.specs.Seizing as seizing
use Rattle.seize.specs.Joining as joining
use Rattle.device_queue.specs.declared.progress.Progress.{Progress}
use Rattle.device_queue.specs.declared.progress.Progress.TheVariants.{GoesOn, Seized, Joined}
use Rattle.device_queue.specs.declared.task.Task.{Task}
use Rattle.device_queue.specs.declared.task.Work.{Work}
use Rattle.device_queue.specs.declared.task.Work.TheVariants.{Seizing, Joining}

-- the command that is due, if one is
abbrev pub command_in : Work → Option PrCommand
command_in (Seizing s) = seizing.command_of s
command_in (Joining j) = joining.command_of j

-- how a seizing ended
abbrev pub result_in : Work → Option SeizeResult
result_in (Seizing s) = seizing.result_of s
result_in (Joining j) = None

-- how a joining ended
abbrev pub join_result_in : Work → Option JoinResult
join_result_in (Seizing s) = None
join_result_in (Joining j) = joining.result_of j

-- a task is over once there is a result
abbrev pub is_over_in : Work → Bool
is_over_in (Seizing s) = is_some (seizing.result_of s)
is_over_in (Joining j) = is_some (joining.result_of j)

abbrev pub is_over : Task → Bool
is_over t = is_over_in t.work

-- .. and in the queue until then
abbrev pub is_queued : Task → Bool
is_queued t = not (is_over t)

abbrev pub is_seizing : Work → Bool
is_seizing (Seizing s) = true
is_seizing (Joining j) = false

abbrev pub is_joining : Work → Bool
is_joining (Seizing s) = false
is_joining (Joining j) = true

-- the task is to seize this device, or to join it
abbrev pub is_seizure_of : ℕ → Task → Bool
is_seizure_of d t = (t.device == d) && is_seizing t.work

abbrev pub is_join_of : ℕ → Task → Bool
is_join_of d t = (t.device == d) && is_joining t.work

-- a plain seizing begins by registering the own key, and no other step of a seizing does
abbrev pub is_register : SeizeStep → Bool
is_register Register = true
is_register _ = false

abbrev pub registers_first : Work → Bool
registers_first (Seizing s) = is_register s.step
registers_first (Joining j) = false

-- the answer to the command that is due is taken
abbrev pub work_answered : Answer → Work → Work
work_answered a (Seizing s) = Seizing (seizing.taken s a)
work_answered a (Joining j) = Joining (joining.taken j a)

abbrev pub answered : Answer → Task → Task
answered a t = record t { work = work_answered a t.work }

-- what a task has come to
abbrev pub seizing_progress : ℕ → Option SeizeResult → Progress
seizing_progress d None = GoesOn
seizing_progress d (Some result) = Seized d result

abbrev pub joining_progress : ℕ → Option JoinResult → Progress
joining_progress d None = GoesOn
joining_progress d (Some result) = Joined d result

abbrev pub progress_in : ℕ → Work → Progress
progress_in d (Seizing s) = seizing_progress d (seizing.result_of s)
progress_in d (Joining j) = joining_progress d (joining.result_of j)

abbrev pub progress_of : Task → Progress
progress_of t = progress_in t.device t.work
