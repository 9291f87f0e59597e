-- What each node has of results, in its tasks and its attempt, and what messages tell of them, against the lines.
use Rattle.std.specs.Prelude.{ℕ, ◌+◌, ◌≡◌, ◌<◌, ◌≤◌, ◌⊎◌, ◌==◌, ◌&&◌, not, true, false, List, [], ◌∷◌, Option, None, Some, IfSome, is_some, length}
use Rattle.std.specs.List.{AllByRecursion, count_by, list_any}
use Rattle.attempt_laws.specs.Asking.{AreApart, entry_numbers, numbers_of}
use Rattle.cl_base.specs.Seizings.{SeizeResult}
use Rattle.cl_base.specs.Sets.{has}
use Rattle.cl_base.specs.declared.header.Header.{Header}
use Rattle.cl_base.specs.declared.seizing.Lack.{Lack}
use Rattle.cl_base.specs.declared.seizing.Obstacle.{Obstacle}
use Rattle.cl_base.specs.declared.seizing.Obstacle.TheVariants as obstacle
use Rattle.cl_base.specs.declared.seizing.SeizeEnd.TheVariants.{Contended, Expelled, Fault, Greater, Held, NotRegistered}
use Rattle.cmm_attempt.specs.Attempts.{AttemptState, all_promised}
use Rattle.cmm_attempt.specs.Calls.{IsReached}
use Rattle.cmm_attempt.specs.Promises.{holds_valid, is_from}
use Rattle.cmm_attempt.specs.Seizings.{next_by}
use Rattle.cmm_attempt.specs.declared.attached.AttachedDevice.{AttachedDevice}
use Rattle.cmm_attempt.specs.declared.phase.Phase.TheVariants.{Collecting, Over}
use Rattle.cmm_attempt.specs.declared.plan.Plan.{Plan}
use Rattle.cmm_attempt.specs.declared.promised.Promised.{Promised}
use Rattle.cmm_attempt.specs.declared.seizing.Seizing.{Seizing}
use Rattle.device_queue.specs.Tasks.{is_queued}
use Rattle.device_queue.specs.declared.task.Task.{Task}
use Rattle.device_queue.specs.declared.task.Work.{Work}
use Rattle.device_queue.specs.declared.task.Work.TheVariants.{Joining as Joins, Seizing as Seizes}
use Rattle.history.specs.Attempts.{IsAccounted, is_ended_so, reads_keys, reserves}
use Rattle.history.specs.Moment.{Moment}
use Rattle.history.specs.Order.{Always, since}
use Rattle.history.specs.Seizing.{is_attempt}
use Rattle.history.specs.Setting.{coordinator, nodes_of, paths_of}
use Rattle.history.specs.Setting.{Setting}
use Rattle.history.specs.Starts.{base_so_far, completed}
use Rattle.history.specs.Trace.{base, ended_votes, start}
use Rattle.history_setting.specs.Settings.{setting_of}
use Rattle.node_model.specs.Seats.{session_of}
use Rattle.node_model.specs.declared.cluster.Cluster.{Cluster}
use Rattle.node_model.specs.declared.node.Node.{Node}
use Rattle.node_model.specs.declared.node.Node.TheVariants.{Down, Up}
use Rattle.node_model.specs.declared.node.UpNode.{UpNode}
use Rattle.refinement.specs.Runs.{Letter, Nodes}
use Rattle.refinement.specs.Ties.{Delivered, votes_under}
use Rattle.run_history.specs.Scenes.{Scene}
use Rattle.run_history.specs.WorldLines.{IsDevice}
use Rattle.run_seizings.specs.Seized.{Base, Either, Fresh, IsOf}
use Rattle.seize.specs.declared.step.SeizeStep.{SeizeStep}
use Rattle.seize.specs.declared.step.SeizeStep.TheVariants as step
use Rattle.wire.specs.declared.message.Body.{Body}
use Rattle.wire.specs.declared.message.Body.TheVariants as body
use Rattle.world_model.specs.First.{attached_from}
use Rattle.run_outcomes.specs.results.Tried.{Collected, SeatHeld, TasksHeld, Tried, Unheld, Without}

-- ---- how a seizing ended

-- Device lines since the attempt e began show that the seizing of d by n ended so: a greater word, as a member read it or found it in a swap; a conflict to the
-- swap of a member, or a reading after its `reserve` that lacks its key; the 64th reading since that `reserve`, whose first key of no member this is; or a command
-- of a member that failed. Where n was not registered, it read these keys, and may not seize the device.
abbrev pub EndShown : Header → ℕ → ℕ → List Moment → ℕ → SeizeResult → Type 0
EndShown h e d before n (Greater w) = is_ended_so h e d before (Greater w) ≡ true
EndShown h e d before n Expelled = is_ended_so h e d before Expelled ≡ true
EndShown h e d before n (Contended key) = is_ended_so h e d before (Contended key) ≡ true
EndShown h e d before n Fault = is_ended_so h e d before Fault ≡ true
EndShown h e d before n (NotRegistered keys) = Tried h e d before n keys
EndShown h e d before n (Held keys) = Unit {0}

-- of what is named; a device that is held is not
abbrev pub ObstacleShown : Header → ℕ → ℕ → List Moment → Obstacle → Type 0
ObstacleShown h e d before obstacle.NoPath = Unit {0}
ObstacleShown h e d before (obstacle.Seizing (Held keys)) = ⊥
ObstacleShown h e d before (obstacle.Seizing end) = is_ended_so h e d before end ≡ true

-- where a start is complete, it accounts for each device
abbrev pub StartShown : Setting → List Moment → Type 0
StartShown S moments = IfSome (completed moments) (λ s. IsAccounted S moments s (base_so_far moments))

-- for want of votes it ends with results that are shown; where it starts, it accounts for each device
abbrev pub EndsShown : Header → List Moment → Moment → Type 0
EndsShown h before (start e members held count) = StartShown (setting_of h) (start e members held count ∷ before)
EndsShown h before (base e v words) = StartShown (setting_of h) (base e v words ∷ before)
EndsShown h before (ended_votes e have need lacking) = AllByRecursion (λ (x : Lack). ObstacleShown h e x.device before x.obstacle) lacking
EndsShown h before _ = Unit {0}

-- ---- tasks

-- how often n read the keys of device d since it tried to reserve it
abbrev pub readings : ℕ → ℕ → List Moment → ℕ
readings n d moments = count_by (reads_keys n d) (since (reserves n d) moments)

-- How far a seizing is, against the lines since its attempt began: it has tried to reserve the device, and counts the readings; and how it ended is shown.
abbrev pub StepShown : Header → List Moment → ℕ → ℕ → ℕ → SeizeStep → Type 0
StepShown h moments n e d (step.ReadKeys reading) =
    (list_any (reserves n d) (since (is_attempt e) moments) ≡ true) × (readings n d (since (is_attempt e) moments) + 1 ≡ reading) × (reading ≤ 64)
StepShown h moments n e d (step.Preempt victim reading) =
    (list_any (reserves n d) (since (is_attempt e) moments) ≡ true) × (readings n d (since (is_attempt e) moments) ≡ reading) × (reading < 64)
StepShown h moments n e d (step.Ended r) = EndShown h e d moments n r
StepShown h moments n e d _ = Unit {0}

abbrev pub WorkShown : Header → List Moment → ℕ → ℕ → ℕ → Work → Type 0
WorkShown h moments n q d (Seizes s) = Base h moments n q s × StepShown h moments n q d s.step
WorkShown h moments n q d (Joins j) = Unit {0}

-- Each up to the first that is queued is as far as its lines are; those behind it have not begun.
abbrev pub TasksShown : Header → List Moment → ℕ → ℕ → List Task → Type 0
TasksShown h moments n q [] = Unit {0}
TasksShown h moments n q (t ∷ ts) =
    WorkShown h moments n q t.device t.work
    × Either (is_queued t) (AllByRecursion (Fresh h moments n q) ts) (TasksShown h moments n q ts)

-- ---- the attempt

-- of a device and how its seizing by a node ended, and of each device of a plan
pub record Fact : Type 1 where
  pub told : ℕ → ℕ → SeizeResult → Type 0
  pub place : AttachedDevice → Type 0

-- a Promise of n does not show the device as valid
abbrev pub ShowsNot : List Promised → ℕ → ℕ → Type 0
ShowsNot promises d n = list_any (λ p. is_from n p && not (has p.shown.valid d)) promises ≡ true

abbrev pub IsAmong : ℕ → List ℕ → Type 0
IsAmong n nodes = list_any (λ m. m == n) nodes ≡ true

-- n was asked, and is no more: it was told that it is not registered
abbrev pub WasTried : Fact → ℕ → ℕ → Type 0
WasTried P d n = (keys : List ℕ) × P.told d n (NotRegistered keys)

-- How it ended was told, and each node that was asked is the last, or was tried; a node that holds the device not valid has promised so. Where it ended so that its node is not
-- registered, no other is to be asked; and where nobody was, no attached node holds it valid.
pub record EntryTold (P : Fact) (plan : Plan) (promises : List Promised) (s : Seizing) : Type 0 where
  pub place : P.place s.attached
  pub among : (n : ℕ) → s.seizer ≡ Some n → IsAmong n plan.nodes × (has s.attached.nodes n ≡ true)
  pub told : (n : ℕ) (r : SeizeResult) → s.seizer ≡ Some n → s.result ≡ Some r → P.told s.attached.device n r
  pub asked : (n : ℕ) → has s.asked n ≡ true → (s.seizer ≡ Some n) ⊎ WasTried P s.attached.device n
  pub shows : (n : ℕ) → IsAmong n plan.nodes → holds_valid promises s.attached.device n ≡ false → ShowsNot promises s.attached.device n
  pub left : (keys : List ℕ) → is_some s.seizer ≡ true → s.result ≡ Some (NotRegistered keys) → next_by plan.cluster promises plan.nodes s s.kind (NotRegistered keys) ≡ None
  pub nobody : s.seizer ≡ None → (s.result ≡ Some (NotRegistered []))
      × ((n : ℕ) → IsAmong n plan.nodes → has s.attached.nodes n ≡ true → holds_valid promises s.attached.device n ≡ false)

-- nothing is to be seized before all have promised
pub record Rests (P : Fact) (s : AttemptState) : Type 0 where
  pub early : s.phase ≡ Collecting → s.devices ≡ []
  pub past : (s.phase ≡ Collecting) ⊎ ((s.phase ≡ Over) ⊎ (all_promised s ≡ true))
  pub entries : AllByRecursion (EntryTold P s.plan s.promises) s.devices
  pub apart : AreApart (entry_numbers s.devices)

-- it is a device of the header, which tells who has a path to it
pub record IsPlaced (h : Header) (a : AttachedDevice) : Type 0 where
  pub nodes : a.nodes ≡ paths_of h a.device
  pub device : IsDevice h a.device

abbrev pub Was : Header → List Moment → ℕ → Fact
Was h moments e = record { told = λ d n r. EndShown h e d moments n r; place = IsPlaced h }

-- what it does not show as valid its node did not hold so where it promised
abbrev pub PromiseShown : Header → List Moment → ℕ → Promised → Type 0
PromiseShown h moments e p = (d : ℕ) → Unheld h e d moments p.shown.summary.node (has p.shown.valid d)

pub record OfHeader (h : Header) (c : Cluster) : Type 0 where
  pub id : c.id ≡ h.cluster
  pub places : AllByRecursion (IsPlaced h) c.attached
  pub apart : AreApart (numbers_of c.attached)
  pub few : length h.devices ≤ 32
  pub all : c.attached ≡ attached_from 1 h.devices
  pub votes : (updates : List (List ℕ)) → (setting_of h).votes updates ≡ votes_under c updates

pub record PlanShown (h : Header) (plan : Plan) : Type 0 where
  pub own : plan.coordinator ≡ coordinator plan.epoch
  pub nodes : plan.nodes ≡ nodes_of plan.members
  pub cluster : plan.cluster ≡ h.cluster
  pub places : AllByRecursion (IsPlaced h) plan.attached
  pub all : plan.attached ≡ attached_from 1 h.devices
  pub apart : AreApart (numbers_of plan.attached)

pub record AttemptShown (h : Header) (moments : List Moment) (q : ℕ) (a : AttemptState) : Type 0 where
  pub reached : IsReached a
  pub of : IsOf moments a.plan.epoch a.plan.members
  pub some : 0 < a.plan.epoch
  pub epoch : a.plan.epoch ≡ q
  pub plan : PlanShown h a.plan
  pub promises : AllByRecursion (PromiseShown h moments a.plan.epoch) a.promises
  pub rests : Rests (Was h moments a.plan.epoch) a

abbrev pub AttemptIn : Header → List Moment → ℕ → Option AttemptState → Type 0
AttemptIn h moments q None = Unit {0}
AttemptIn h moments q (Some a) = AttemptShown h moments q a

-- the coordinator of an own attempt
abbrev pub MineIn : ℕ → Option AttemptState → Type 0
MineIn n None = Unit {0}
MineIn n (Some a) = a.plan.coordinator ≡ n

pub record UpShown (h : Header) (past : Collected) (moments : List Moment) (n : ℕ) (x : UpNode) : Type 0 where
  pub tasks : TasksShown h moments n (session_of x) x.tasks
  pub held : TasksHeld h moments n (session_of x) x.tasks
  pub seat : SeatHeld h past moments n x
  pub attempt : AttemptIn h moments (session_of x) x.attempt
  pub mine : MineIn n x.attempt

abbrev pub NodeShown : Header → Collected → List Moment → ℕ → Node → Type 0
NodeShown h past moments n Down = Unit {0}
NodeShown h past moments n (Up x) = UpShown h past moments n x

-- ---- messages

-- A Seized says how a seizing ended, or that its sender has installed the attempt already: then its coordinator has installed so much (newest k is
-- the newest that node k has installed). A Promise shows what is valid where it was promised; or it is of an attempt that is installed, or collects no more.
abbrev pub SaysShown : Header → Collected → (ℕ → ℕ) → List Moment → ℕ → Body → Type 0
SaysShown h past newest moments from (body.Seized e d r) =
    ((r ≡ Fault) × (e ≤ newest (coordinator e))) ⊎ ((list_any (is_attempt e) moments ≡ true) × EndShown h e d moments from r)
SaysShown h past newest moments from (body.Promise e last members valid flagged committed pending) =
    (e ≤ newest (coordinator e)) ⊎ ((d : ℕ) → IsDevice h d → has valid d ≡ false → Without h e d moments from ⊎ past e)
SaysShown h past newest moments from _ = Unit {0}

abbrev pub LetterShown : Header → Collected → (ℕ → ℕ) → List Moment → Letter → Type 0
LetterShown h past newest moments l = SaysShown h past newest moments l.from l.body

-- a request to seize is of the members of its attempt
abbrev pub AsksOf : List Moment → Body → Type 0
AsksOf moments (body.SeizeQuorum e members d) = IsOf moments e members
AsksOf moments (body.SeizeData e members d) = IsOf moments e members
AsksOf moments _ = Unit {0}

abbrev pub HandShown : Header → Collected → (ℕ → ℕ) → List Moment → Delivered → Type 0
HandShown h past newest moments None = Unit {0}
HandShown h past newest moments (Some d) = AsksOf moments d.1.body × SaysShown h past newest moments d.0 d.1.body

-- what each node has installed, by its disk
abbrev pub installed_in : Nodes → ℕ → ℕ
installed_in v k = (v.disk k).kept.installed

-- the attempt of a node is not e, or collects no more
abbrev pub CollectsNot : ℕ → Node → Type 0
CollectsNot e Down = Unit {0}
CollectsNot e (Up x) = (a : AttemptState) → x.attempt ≡ Some a → a.plan.epoch ≡ e → a.phase ≡ Collecting → ⊥

abbrev pub collected_in : Scene → Collected
collected_in s e = (list_any (is_attempt e) s.moments ≡ true) × CollectsNot e (s.nodes.node (coordinator e))

-- of a whole scene
pub record IsShown (h : Header) (s : Scene) : Type 0 where
  pub nodes : (n : ℕ) → NodeShown h (collected_in s) s.moments n (s.nodes.node n)
  pub sent : AllByRecursion (LetterShown h (collected_in s) (installed_in s.nodes) s.moments) s.nodes.sent
  pub lines : Always (EndsShown h) s.moments
