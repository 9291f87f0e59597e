-- The laws of this crate, each as a statement.
use Rattle.std.specs.Prelude.{ℕ, ◌≡◌, ◌≤◌, ◌==◌, ◌&&◌, Bool, true, false, List, ◌++◌, Some, IsNone, IsSome, ◌↔◌}
use Rattle.std.specs.List.{list_any}
use Rattle.cl_base.specs.Seizings.{SeizeResult}
use Rattle.seize.specs.declared.kind.JoinResult.{JoinResult}
use Rattle.seize.specs.declared.kind.SeizeKind.{SeizeKind}
use Rattle.seize.specs.declared.kind.SeizeKind.TheVariants.{Vote, Plain}
use Rattle.seize.specs.Answers.{Answer}
use Rattle.seize.specs.Seizing.{SeizeState, begun, taken}
use Rattle.device_queue.specs.declared.progress.Asked.TheVariants.{Kept}
use Rattle.device_queue.specs.declared.task.Task.{Task}
use Rattle.device_queue.specs.declared.task.Work.TheVariants.{Seizing}
use Rattle.device_queue.specs.Tasks.{command_in, is_join_of, is_over, is_queued, registers_first}
use Rattle.device_queue.specs.Queue.{asked_of, is_idle, kept_join_of, kept_of, next_of}
use Rattle.device_queue.specs.Calls.{Call, AreFresh, joinings_begun, left_by, seized_after_join, seizings_begun}

-- Of each device at most one seizing is begun, and at most one joining.
abbrev pub OneSeizing : Type 0
OneSeizing = (calls : List Call) (d : ℕ) → seizings_begun d calls ≤ 1

abbrev pub OneJoining : Type 0
OneJoining = (calls : List Call) (d : ℕ) → joinings_begun d calls ≤ 1

-- Once a result is kept, it is kept ..
abbrev pub KeptResultsStay : Type 0
KeptResultsStay = (earlier later : List Call) (d : ℕ) (r : SeizeResult) → kept_of (left_by earlier) d ≡ Some r → kept_of (left_by (later ++ earlier)) d ≡ Some r

abbrev pub KeptJoinsStay : Type 0
KeptJoinsStay = (earlier later : List Call) (d : ℕ) (r : JoinResult) → kept_join_of (left_by earlier) d ≡ Some r → kept_join_of (left_by (later ++ earlier)) d ≡ Some r

-- .. and every request gets it.
abbrev pub RequestsGetIt : Type 0
RequestsGetIt = (tasks : List Task) (d : ℕ) (r : SeizeResult) → kept_of tasks d ≡ Some r → asked_of tasks d ≡ Kept r

-- a task at device d is queued
abbrev pub has_task : ℕ → List Task → Bool
has_task d tasks = list_any (λ t. (t.device == d) && is_queued t) tasks

abbrev pub has_join : ℕ → List Task → Bool
has_join d tasks = list_any (λ t. is_join_of d t && is_queued t) tasks

-- Of a device whose joining has ended no joining is queued ..
abbrev pub EndedHasNoJoin : Type 0
EndedHasNoJoin = (calls : List Call) (d : ℕ) (r : JoinResult) → kept_join_of (left_by calls) d ≡ Some r → has_join d (left_by calls) ≡ false

-- .. and no task at all, unless it was asked to be seized after it was asked to be joined.
abbrev pub EndedHasNoTask : Type 0
EndedHasNoTask = (calls : List Call) (d : ℕ) (r : JoinResult) → AreFresh calls → seized_after_join d calls ≡ false → kept_join_of (left_by calls) d ≡ Some r → has_task d (left_by calls) ≡ false

-- A task has a command due exactly until it is over, so one is due exactly where a task is queued.
abbrev pub TaskHasCommand : Type 0
TaskHasCommand = (t : Task) → IsSome (command_in t.work) ↔ (is_over t ≡ false)

abbrev pub QueueHasCommand : Type 0
QueueHasCommand = (tasks : List Task) → IsNone (next_of tasks) ↔ (is_idle tasks ≡ true)

-- A plain seizing registers at its beginning, and no seizing does later.
abbrev pub is_plain : SeizeKind → Bool
is_plain Vote = false
is_plain Plain = true

abbrev pub PlainRegistersAtFirst : Type 0
PlainRegistersAtFirst = (kind : SeizeKind) (epoch members me cluster : ℕ) (valid : Bool) → registers_first (Seizing (begun kind epoch members me cluster valid)) ≡ is_plain kind

abbrev pub NoneRegistersLater : Type 0
NoneRegistersLater = (s : SeizeState) (a : Answer) → registers_first (Seizing (taken s a)) ≡ false
