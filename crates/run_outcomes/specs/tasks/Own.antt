-- What each thing that happens keeps of the own tasks of a coordinator, against the entries of its attempt.
use Rattle.std.specs.Prelude.{ℕ, ◌≡◌, ◌⊎◌, ◌==◌, Bool, true, false, List, [], ◌∷◌, None, Some, slice_get, if◌then◌else◌}
use Rattle.std.specs.List.{find}
use Rattle.attempt_laws.specs.Asking.{AreApart, entry_numbers}
use Rattle.attempt_laws.specs.Staying.{IsFinal}
use Rattle.cl_base.specs.Numbers.{numbers_to}
use Rattle.cl_base.specs.Seizings.{SeizeResult}
use Rattle.cl_base.specs.Sets.{has}
use Rattle.cmm_attempt.specs.Attempts.{AttemptState, Turn}
use Rattle.cmm_attempt.specs.Calls.{Call, Own_ready, Own_seized, Take, Tick, With_votes}
use Rattle.cmm_attempt.specs.Seizings.{awaits, is_asked, may_seize}
use Rattle.cmm_attempt.specs.declared.phase.Phase.{Phase}
use Rattle.cmm_attempt.specs.declared.phase.Phase.TheVariants.{Choosing, Collecting, Installing, Over, SeizingOthers, SeizingVotes}
use Rattle.cmm_attempt.specs.declared.plan.Plan.{Plan}
use Rattle.cmm_attempt.specs.declared.promised.Promised.{Promised}
use Rattle.cmm_attempt.specs.declared.seizing.Seizing.{Seizing}
use Rattle.cmm_attempt.specs.declared.step.Step.{Step}
use Rattle.cmm_attempt.specs.declared.step.Step.TheVariants.{Ended, InstallHere, NeedVotes, Send, SeizeHere, StartHere}
use Rattle.cmm_member.specs.Nodes.{NodeState}
use Rattle.device_queue.specs.Queue.{after_seize}
use Rattle.device_queue.specs.Tasks.{is_seizing as is_seizure, result_in}
use Rattle.device_queue.specs.declared.task.Task.{Task}
use Rattle.node_model.specs.Seats.{coordinator_of, is_in}
use Rattle.node_model.specs.declared.cluster.Cluster.{Cluster}
use Rattle.node_model.specs.declared.input.Input.{Input}
use Rattle.node_model.specs.declared.input.Input.TheVariants.{Packet}
use Rattle.node_model.specs.declared.node.UpNode.{UpNode}
use Rattle.node_model.specs.declared.seat.Seat.TheVariants.{Forming}
use Rattle.refinement.specs.Doings.{accepting, changed}
use Rattle.refinement.specs.Doings.Change.{Installs}
use Rattle.seize.specs.Seizing.{SeizeState}
use Rattle.seize.specs.declared.kind.SeizeKind.{SeizeKind}
use Rattle.seize.specs.declared.kind.SeizeKind.TheVariants.{Plain, Vote}
use Rattle.wire.specs.declared.message.Body.{Body}
use Rattle.wire.specs.declared.message.Body.TheVariants as body
use Rattle.run_seizings.specs.Seized.{Either}
use Rattle.run_outcomes.specs.phases.Kept.{In}
use Rattle.run_outcomes.specs.phases.Laws.{is_seizing}
use Rattle.run_outcomes.specs.tasks.Laws.{IsUnregistered}

-- ---- one entry, and its task

-- The coordinator was asked to seize the device, and has this task for it. Where it was asked last the results are the same; where another was asked since, it was not
-- registered.
pub record IsOwn (c : ℕ) (e : Seizing) (t : Task) : Type 0 where
  pub device : t.device ≡ e.attached.device
  pub asked : has e.asked c ≡ true
  pub work : is_seizure t.work ≡ true
  pub result : Either (is_asked e.seizer c) (result_in t.work ≡ e.result) (IsUnregistered (result_in t.work))

-- .. and that has just ended so, while its answer is awaited
pub record IsEnding (c d : ℕ) (r : SeizeResult) (e : Seizing) (t : Task) : Type 0 where
  pub device : t.device ≡ e.attached.device
  pub of : (e.attached.device == d) ≡ true
  pub asked : has e.asked c ≡ true
  pub work : is_seizure t.work ≡ true
  pub seizer : is_asked e.seizer c ≡ true
  pub awaited : e.result ≡ None
  pub result : result_in t.work ≡ Some r

-- .. of one device, and of the others as before
abbrev pub IsOwnBut : ℕ → ℕ → SeizeResult → Seizing → Task → Type 0
IsOwnBut c d r e t = IsEnding c d r e t ⊎ (IsOwn c e t × ((e.attached.device == d) ≡ false))

-- The coordinator was not asked, and is never to be asked: it may not seize the device for its votes; and for another device no second member is asked.
pub record IsOthers (c : ℕ) (promises : List Promised) (e : Seizing) : Type 0 where
  pub unasked : has e.asked c ≡ false
  pub seizer : is_asked e.seizer c ≡ false
  pub never : e.kind ≡ Vote → may_seize promises e.attached c ≡ false

-- ---- all entries, and all tasks

-- there is a first task, and this holds of it and the others
abbrev pub Begins : List Task → (Task → List Task → Type 0) → Type 0
Begins [] P = ⊥
Begins (t ∷ ts) P = P t ts

-- each task is that of an entry, in order, and each other entry is not the coordinator's
abbrev pub Match : (Seizing → Task → Type 0) → ℕ → List Promised → List Seizing → List Task → Type 0
Match A c promises [] ts = ts ≡ []
Match A c promises (e ∷ es) ts = (IsOthers c promises e × Match A c promises es ts) ⊎ Begins ts (λ t us. A e t × Match A c promises es us)

-- the coordinator is the first member
pub record IsFirstOf (plan : Plan) : Type 0 where
  pub nodes : plan.nodes ≡ numbers_to plan.members 32
  pub first : slice_get plan.nodes 0 ≡ Some plan.coordinator

-- .. node n is a member, and the devices of the entries are apart
pub record IsOrdered (n : ℕ) (a : AttemptState) : Type 0 where
  pub plan : IsFirstOf a.plan
  pub member : has a.plan.members n ≡ true
  pub apart : AreApart (entry_numbers a.devices)

-- it does not seize devices yet: it collects Promises, or is to be given the votes
abbrev pub IsEarly : Phase → Type 0
IsEarly Collecting = Unit {0}
IsEarly Choosing = Unit {0}
IsEarly SeizingVotes = ⊥
IsEarly SeizingOthers = ⊥
IsEarly Installing = ⊥
IsEarly Over = ⊥

-- These are the tasks of node n, whose attempt this is: none at first, and while it seizes devices those of its entries.
pub record Owns (n : ℕ) (ts : List Task) (a : AttemptState) : Type 0 where
  pub idle : IsEarly a.phase → ts ≡ []
  pub seizes : is_seizing a.phase ≡ true → IsOrdered n a → Match (IsOwn a.plan.coordinator) a.plan.coordinator a.promises a.devices ts

-- .. of a node that has one
abbrev pub Owned : ℕ → UpNode → Type 0
Owned n x = In (Owns n x.tasks) x.attempt

-- ---- a turn

-- the tasks once its steps are done: those that it asks the coordinator for are put at the end, where the node is a member
abbrev pub begun_here : Bool → (ℕ → SeizeKind → SeizeState) → ℕ → SeizeKind → List Task → List Task
begun_here member begun d kind ts = if member then after_seize ts d (begun d kind) else ts

abbrev pub with_own : Bool → (ℕ → SeizeKind → SeizeState) → List Step → List Task → List Task
with_own member begun [] ts = ts
with_own member begun (SeizeHere d kind ∷ steps) ts = with_own member begun steps (begun_here member begun d kind ts)
with_own member begun (Send to m ∷ steps) ts = with_own member begun steps ts
with_own member begun (NeedVotes n ∷ steps) ts = with_own member begun steps ts
with_own member begun (InstallHere i ∷ steps) ts = with_own member begun steps ts
with_own member begun (StartHere ∷ steps) ts = with_own member begun steps ts
with_own member begun (Ended e ∷ steps) ts = with_own member begun steps ts

-- where it installs or starts, the attempt seizes devices no more
abbrev pub IsFinalWhere : List Step → Phase → Type 0
IsFinalWhere (InstallHere i ∷ steps) phase = IsFinal phase
IsFinalWhere (StartHere ∷ steps) phase = IsFinal phase
IsFinalWhere _ phase = Unit {0}

-- so are the tasks of node n after this turn
pub record OwnsAfter (n : ℕ) (begun : ℕ → SeizeKind → SeizeState) (ts : List Task) (t : Turn) : Type 0 where
  pub owns : Owns n (with_own (has t.after.plan.members n) begun t.steps ts) t.after
  pub final : IsFinalWhere t.steps t.after.phase

-- ---- a call

-- what a message tells of a seizing of this attempt comes from another than its coordinator, whose own answer no message brings
abbrev pub IsOfOthers : AttemptState → ℕ → Body → Type 0
IsOfOthers s from (body.Seized e d r) = is_seizing s.phase ≡ true → (e == s.plan.epoch) ≡ true → (from == s.plan.coordinator) ≡ true → find (awaits d from) s.devices ≡ None
IsOfOthers s from _ = Unit {0}

-- the task of device d has just ended so, and its entry awaits that
pub record IsEnded (n : ℕ) (ts : List Task) (s : AttemptState) (d : ℕ) (r : SeizeResult) : Type 0 where
  pub ordered : IsOrdered n s
  pub match : Match (IsOwnBut s.plan.coordinator d r) s.plan.coordinator s.promises s.devices ts
  pub awaited : find (awaits d s.plan.coordinator) s.devices ≡ None → ⊥

-- so are the tasks of node n as its attempt takes a call
abbrev pub CallSo : ℕ → List Task → AttemptState → Call → Type 0
CallSo n ts s (Take from m) = IsOrdered n s × Owns n ts s × IsOfOthers s from m.body
CallSo n ts s (With_votes both) = ts ≡ []
CallSo n ts s (Own_seized d r) = (is_seizing s.phase ≡ true → IsEnded n ts s d r) × (is_seizing s.phase ≡ false → Owns n ts s)
CallSo n ts s Own_ready = Owns n ts s
CallSo n ts s Tick = Owns n ts s

-- ---- what comes to a node

-- its attempt is ordered, and it coordinates its session
abbrev pub Leads : ℕ → UpNode → Type 0
Leads n x = In (λ a. IsOrdered n a × (coordinator_of x ≡ Some n)) x.attempt

-- A request to seize and an Install leave the tasks of a coordinator.
abbrev pub BodySo : Cluster → ℕ → UpNode → ℕ → Body → Type 0
BodySo c n x from (body.Seized e d r) = In (λ a. IsOfOthers a from (body.Seized e d r)) x.attempt
BodySo c n x from (body.SeizeQuorum e members d) = is_in x e ≡ true → Owned n (accepting c n x Vote e members d)
BodySo c n x from (body.SeizeData e members d) = is_in x e ≡ true → Owned n (accepting c n x Plain e members d)
BodySo c n x from (body.Install i) = is_in x i.epoch ≡ true → (s : NodeState) → x.seat ≡ Forming s → (s.saved.installed == i.epoch) ≡ false → Owned n (changed c n x (Installs s i))
BodySo c n x from _ = Unit {0}

abbrev pub InputSo : Cluster → ℕ → UpNode → Input → Type 0
InputSo c n x (Packet from m) = BodySo c n x from m.body
InputSo c n x i = Unit {0}
