-- What comes to a node beside messages, answers of devices and ticks leaves its attempt and its tasks, and gives no line that changes them.
use Rattle.std.specs.Prelude.{ℕ, ◌≡◌, List, [], Option, None, Some, Ok}
use Rattle.std.proofs.Common.{refl}
use Rattle.ccr_tables.specs.State.{ConfigState}
use Rattle.ccr_tables.specs.declared.address.Address.{Address}
use Rattle.cl_base.specs.Sets.{has}
use Rattle.cl_base.specs.declared.method.Outcome as method
use Rattle.cmm_attempt.proofs.Basics.{if_either}
use Rattle.cmm_attempt.specs.Attempts.{AttemptState}
use Rattle.device_queue.specs.Queue.{begins_plainly}
use Rattle.device_queue.specs.declared.task.Task.{Task}
use Rattle.node_model.specs.Configurations.{in_force}
use Rattle.node_model.specs.Seats.{record_of}
use Rattle.node_model.specs.Steps.{at_second}
use Rattle.node_model.specs.declared.cluster.Cluster.{Cluster}
use Rattle.node_model.specs.declared.input.Input.{Input}
use Rattle.node_model.specs.declared.input.Input.TheVariants.{Answered, Boot, Client, CommandDue, Commanded, Crash, Packet, Reported, Tick, Wrote}
use Rattle.node_model.specs.declared.node.UpNode.{UpNode}
use Rattle.node_model.specs.declared.presidency.Presidency.{Presidency}
use Rattle.pgr_device.specs.declared.command.PrAnswer.TheVariants as given
use Rattle.refinement.specs.Courses.Course.{Keeps, Stops}
use Rattle.refinement.specs.Cuts as cuts
use Rattle.refinement.specs.Cuts.{course_at, course_of}
use Rattle.refinement.specs.Doings.Change.{Distrusts}
use Rattle.rg_props.specs.Lookups.{named}
use Rattle.seize.specs.Answers.{Answer}
use Rattle.run_outcomes.specs.phases.Kept.{In}
use Rattle.run_outcomes.specs.tasks.Onward.{GoesOut, Onward, OnwardOf}
use Rattle.run_outcomes.proofs.own_tasks.Beside.{AreLeft, command_left, report_left}
use Rattle.run_outcomes.proofs.onward.Beside.{left_out}

abbrev pub IsBesides : Input → Type 0
IsBesides (Packet from m) = ⊥
IsBesides (Answered a) = ⊥
IsBesides Tick = ⊥
IsBesides _ = Unit {0}

serving_at_left : (s : ConfigState) (x : UpNode) (p : Presidency) (name : List ℕ) (number port : ℕ) (o : Option Address) → AreLeft (cuts.serving_at_course s x p name number port o)
serving_at_left s x p name number port None = tt
serving_at_left s x p name number port (Some a) = (tt, (tt, tt))

serving_left : (c : Cluster) (x : UpNode) (name : List ℕ) (number port : ℕ) (o : Option Presidency) → AreLeft (cuts.serving_by_course c x name number port o)
serving_left c x name number port None = tt
serving_left c x name number port (Some p) = serving_at_left (in_force c x) x p name number port (named (in_force c x).addresses name)

distrusting_left : (x : UpNode) (o : Option ℕ) → AreLeft (cuts.distrusting_course x o)
distrusting_left x None = tt
distrusting_left x (Some d) = if_either AreLeft (has (record_of x).valid d) (Keeps (Distrusts d) Stops) Stops (tt, tt) tt

fenced_left : (d : ℕ) (a : Answer) → AreLeft (cuts.fenced_course d a)
fenced_left d (Ok given.Good) = tt
fenced_left d (Ok given.Conflict) = tt
fenced_left d _ = tt

besides_left : (c : Cluster) (n : ℕ) (ends : method.Outcome) (x : UpNode) (i : Input) → IsBesides i → AreLeft (course_of c n ends x i)
besides_left c n ends x Boot is = tt
besides_left c n ends x Crash is = tt
besides_left c n ends x Tick is = absurd is
besides_left c n ends x (Packet from m) is = absurd is
besides_left c n ends x CommandDue is = distrusting_left x (begins_plainly x.tasks)
besides_left c n ends x (Answered a) is = absurd is
besides_left c n ends x (Wrote d value a) is = (tt, fenced_left d a)
besides_left c n ends x (Commanded words) is = command_left c n x words
besides_left c n ends x (Reported r good) is = report_left c n x r good
besides_left c n ends x (Client name number port) is = serving_left c x name number port x.presidency

-- the attempt and the tasks are the same
abbrev pub IsSame : UpNode → AttemptState → List Task → Type 0
IsSame x b ts = (x.attempt ≡ Some b) × (ts ≡ x.tasks)

pub besides_out : (c : Cluster) (n now : ℕ) (ends : method.Outcome) (x : UpNode) (i : Input) → IsBesides i → GoesOut c n (Onward n (IsSame x)) x [] (course_at c n now ends x i)
besides_out c n now ends x i is = λ so. left_out c n (IsSame x) y [] (course_of c n ends y i) (besides_left c n ends y i is) (by_attempt x.attempt refl)
  where
    y : UpNode
    y = at_second now x

    by_attempt : (o : Option AttemptState) → x.attempt ≡ o → In (OnwardOf n (IsSame x) x.tasks []) o
    by_attempt None at = tt
    by_attempt (Some b) at = λ seizing. (tt, (at, refl))
