-- How many commands a node may still do at shared devices while nothing else comes to it.
use Rattle.std.specs.Prelude.{◌≤◌, ◌⊎◌, is_some, slice_get, ℕ, zero, suc, ◌+◌, ◌-◌, ◌*◌, ◌==◌, ◌≡◌, Bool, true, false, List, [], ◌∷◌, Option, None, Some, Ok, if◌then◌else◌}
use Rattle.cl_base.specs.Limits.{most_devices}
use Rattle.cmm_attempt.specs.Attempts.{AttemptState}
use Rattle.cmm_attempt.specs.declared.phase.Phase.{Phase}
use Rattle.cmm_attempt.specs.declared.phase.Phase.TheVariants.{Choosing, Collecting, Installing, Over, SeizingOthers, SeizingVotes}
use Rattle.device_queue.specs.Tasks.{is_join_of, is_seizure_of}
use Rattle.device_queue.specs.Queue.{first_of, join_of, seizure_of}
use Rattle.device_queue.specs.declared.task.Task.{Task}
use Rattle.device_queue.specs.declared.task.Work.{Work}
use Rattle.device_queue.specs.declared.task.Work.TheVariants.{Joining, Seizing}
use Rattle.pgr_device.specs.declared.command.PrAnswer.TheVariants as answer
use Rattle.history.specs.Order.{Always}
use Rattle.node_model.specs.declared.input.Input.TheVariants as input
use Rattle.node_model.specs.declared.node.Node.{Node}
use Rattle.node_model.specs.declared.node.Node.TheVariants.{Down, Up}
use Rattle.pgr_device.specs.Device.{Device}
use Rattle.run_history.specs.Scenes.{Scene}
use Rattle.run_history.specs.Shapes.{Want}
use Rattle.run_history.specs.Shapes as want
use Rattle.run_lines.specs.few.Laws.{IsBounded}
use Rattle.run_lines.specs.rounds.Laws.{in_a_row}
use Rattle.run_lines.specs.writes.Joins.{Lone}
use Rattle.world_model.specs.Devices.{due_at}
use Rattle.seize.specs.Answers.{Answer}
use Rattle.seize.specs.declared.step.JoinStep.{JoinStep}
use Rattle.seize.specs.declared.step.JoinStep.TheVariants as join
use Rattle.seize.specs.declared.step.SeizeStep.{SeizeStep}
use Rattle.seize.specs.declared.step.SeizeStep.TheVariants as seize

-- ---- one task

-- From this step on a seizing does fewer commands than this, where no swap misses: it reads the keys 64 times at most, and preempts between.
abbrev pub seizing_cost : SeizeStep → ℕ
seizing_cost seize.Check = 133
seizing_cost seize.Register = 133
seizing_cost seize.ReadWord = 132
seizing_cost (seize.Swap expected) = 131
seizing_cost seize.Reserve = 130
seizing_cost (seize.ReadKeys reading) = 3 + 2 * (64 - reading)
seizing_cost (seize.Preempt victim reading) = 4 + 2 * (64 - (reading + 1))
seizing_cost (seize.Confirm keys) = 2
seizing_cost (seize.Ended result) = 0

abbrev pub joining_cost : JoinStep → ℕ
joining_cost join.Register = 3
joining_cost join.ReadWord = 2
joining_cost (join.Ended result) = 0

abbrev pub cost : Work → ℕ
cost (Seizing s) = seizing_cost s.step
cost (Joining j) = joining_cost j.step

-- a swap misses where the device has another word than is expected; it is done again, with the word that was found
abbrev pub step_spare : ℕ → SeizeStep → ℕ
step_spare word (seize.Swap expected) = if word == expected then 0 else 1
step_spare word _ = 0

abbrev pub work_spare : ℕ → Work → ℕ
work_spare word (Seizing s) = step_spare word s.step
work_spare word (Joining j) = 0

-- of the task that is first in the queue; the words of devices are these
abbrev pub spare : (ℕ → ℕ) → Option Task → ℕ
spare word None = 0
spare word (Some t) = work_spare (word t.device) t.work

-- ---- all tasks

-- what is left of a task, and this where there is none
abbrev pub cost_or : ℕ → Option Task → ℕ
cost_or none None = none
cost_or none (Some t) = cost t.work

-- .. at device d: a node that may seize devices itself yet, and install, may begin a seizing and a joining there
abbrev pub left_at : Bool → List Task → ℕ → ℕ
left_at more tasks d = cost_or (if more then 133 else 0) (seizure_of tasks d) + cost_or 0 (join_of tasks d) + (if more then 3 else 0)

-- the sum over the numbers from 1 to k
unfoldable pub total : ℕ → (ℕ → ℕ) → ℕ
total zero f = 0
total (suc k) f = f (suc k) + total k f

abbrev pub left_in : (ℕ → ℕ) → Bool → List Task → ℕ
left_in word more tasks = total most_devices (left_at more tasks) + spare word (first_of tasks)

-- the most that may be left
abbrev pub most_left : ℕ
most_left = 2225

-- ---- what an answer tells of the word that a device had, and has

abbrev pub TellsWord : ℕ → ℕ → Answer → Type 0
TellsWord before after (Ok (answer.Word w)) = w ≡ after
TellsWord before after (Ok (answer.Miscompare w)) = (w ≡ before) × (w ≡ after)
TellsWord before after _ = Unit {0}

-- ---- a node

abbrev pub is_before : Phase → Bool
is_before Collecting = true
is_before Choosing = true
is_before SeizingVotes = true
is_before SeizingOthers = true
is_before Installing = false
is_before Over = false

-- its attempt may ask it to seize devices yet, and install
abbrev pub seizes : Option AttemptState → Bool
seizes None = false
seizes (Some a) = is_before a.phase

abbrev pub node_left : (ℕ → ℕ) → Node → ℕ
node_left word Down = 0
node_left word (Up x) = left_in word (seizes x.attempt) x.tasks

-- of each device at most one task is a seizing, and at most one a joining
abbrev pub AllAlone : List Task → Type 0
AllAlone tasks = (d : ℕ) → Lone (is_seizure_of d) tasks × Lone (is_join_of d) tasks

abbrev pub NodeAlone : Node → Type 0
NodeAlone Down = Unit {0}
NodeAlone (Up x) = AllAlone x.tasks

-- ---- a scene

abbrev pub word_of : Option Device → ℕ
word_of None = 0
word_of (Some device) = device.word

-- the word of device d
abbrev pub word_at : List Device → ℕ → ℕ
word_at devices d = word_of (slice_get devices (d - 1))

-- how many commands n may still do
abbrev pub left_by : Scene → ℕ → ℕ
left_by s n = node_left (word_at s.devices) (s.nodes.node n)

-- How far n is in a row of commands, of what is due in the event under way: with those that it has done so many are left, and one more before it does the one that is due.

abbrev pub Rests : Scene → ℕ → List Want → Type 0
Rests s n wants = (wants ≡ []) × (in_a_row n s.moments + left_by s n ≤ most_left)

-- it readies itself, and then does its command
abbrev pub Readies : Scene → ℕ → List Want → Type 0
Readies s n wants =
    (wants ≡ want.Take n input.CommandDue ∷ want.Command n ∷ []) × (is_some (due_at (Some (s.nodes.node n))) ≡ true) × (in_a_row n s.moments + left_by s n ≤ most_left + 1)

abbrev pub Commands : Scene → ℕ → List Want → Type 0
Commands s n wants = (wants ≡ want.Command n ∷ []) × (in_a_row n s.moments + left_by s n ≤ most_left + 1)

abbrev pub Counted : Scene → ℕ → List Want → Type 0
Counted s n wants = (in_a_row n s.moments ≡ 0) ⊎ (Rests s n wants ⊎ (Readies s n wants ⊎ Commands s n wants))

-- of each scene in which so much is due
pub record AllCounted (s : Scene) (wants : List Want) : Type 0 where
  pub alone : (n : ℕ) → NodeAlone (s.nodes.node n)
  pub counted : (n : ℕ) → Counted s n wants
  pub few : Always IsBounded s.moments
