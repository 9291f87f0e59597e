-- What Promises show and requests to seize rest on, as nodes gave them: what is kept of all that was ever sent, of nodes, attempts and packets.
use Rattle.std.specs.Prelude.{ℕ, ◌%◌, ◌≡◌, ◌≢◌, ◌<◌, ◌≤◌, ◌⊎◌, Bool, true, false, List, Option, None, Some}
use Rattle.std.specs.List.{AllByRecursion}
use Rattle.attempt_laws.specs.Staying.{IsBefore, IsPast}
use Rattle.cl_base.specs.Sets.{has}
use Rattle.cmm_attempt.specs.Attempts.{AttemptState, Turn}
use Rattle.cmm_attempt.specs.Calls.{IsReached}
use Rattle.cmm_attempt.specs.Counts.{is_quorum}
use Rattle.cmm_attempt.specs.Promises.{holds_valid}
use Rattle.cmm_attempt.specs.declared.counting.BothVotes.{BothVotes}
use Rattle.cmm_attempt.specs.declared.promised.Promised.{Promised}
use Rattle.cmm_attempt.specs.declared.step.Step.{Step}
use Rattle.cmm_attempt.specs.declared.step.Step.TheVariants as step
use Rattle.cmm_member.specs.Records.{NodeRecord}
use Rattle.device_queue.specs.Tasks.{is_register}
use Rattle.device_queue.specs.declared.task.Task.{Task}
use Rattle.device_queue.specs.declared.task.Work.{Work}
use Rattle.device_queue.specs.declared.task.Work.TheVariants.{Joining as Joins, Seizing as Seizes}
use Rattle.history.specs.Moment.{Moment}
use Rattle.history.specs.Trace.{sent}
use Rattle.interconnect.specs.Links.{Packet}
use Rattle.node_model.specs.Seats.{installed_of, promised_of, record_of, session_of}
use Rattle.node_model.specs.declared.node.Node.{Node}
use Rattle.node_model.specs.declared.node.Node.TheVariants.{Down, Up}
use Rattle.node_model.specs.declared.node.UpNode.{UpNode}
use Rattle.refinement.specs.Doings.{Site}
use Rattle.refinement.specs.Runs.{IsAmong, Letter}
use Rattle.refinement.specs.Ties.{Delivered}
use Rattle.run_history.specs.Guards.{Hand, IsStep}
use Rattle.run_history.specs.Scenes.{Scene}
use Rattle.run_history.specs.Stages.{site_of}
use Rattle.seize.specs.declared.kind.SeizeKind.TheVariants.{Plain}
use Rattle.wire.specs.Reads.{whole_of}
use Rattle.wire.specs.declared.message.Body.{Body}
use Rattle.wire.specs.declared.message.Body.TheVariants as body
use Rattle.wire.specs.declared.message.Install.{Install}
use Rattle.wire.specs.declared.message.Message.{Message}
use Rattle.run_outcomes.specs.tasks.Laws.{seizes_plainly}

-- a number that a set of devices may have
abbrev pub InRange : ℕ → Type 0
InRange d = (1 ≤ d) × (d ≤ 32)

-- ---- what was ever sent

-- a Promise of e, by node n, that shows these devices as valid
pub record HasShown (L : List Letter) (n e v : ℕ) : Type 0 where
  pub newest : ℕ
  pub members : ℕ
  pub flagged : Bool
  pub committed : List (List ℕ)
  pub pending : Option (List ℕ)
  pub among : IsAmong n (body.Promise e newest members v flagged committed pending) L

-- a request for e to seize a quorum device, or another
pub record AsksQuorum (L : List Letter) (e d : ℕ) : Type 0 where
  pub from : ℕ
  pub members : ℕ
  pub among : IsAmong from (body.SeizeQuorum e members d) L

pub record AsksData (L : List Letter) (e d : ℕ) : Type 0 where
  pub from : ℕ
  pub members : ℕ
  pub among : IsAmong from (body.SeizeData e members d) L

-- an Install of e
pub record Installs (L : List Letter) (e : ℕ) : Type 0 where
  pub from : ℕ
  pub install : Install
  pub epoch : install.epoch ≡ e
  pub among : IsAmong from (body.Install install) L

-- no device is asked for as both
abbrev pub IsApart : List Letter → Type 0
IsApart L = (e d : ℕ) → AsksData L e d → AsksQuorum L e d → ⊥

-- Two Promises of a number by another than its coordinator show the same, but for devices without votes that are to be seized, until it is installed.
abbrev pub Agree : List Letter → Type 0
Agree L = (n e v w d : ℕ) → InRange d → e % 64 ≢ n → HasShown L n e v → HasShown L n e w → has v d ≡ true → has w d ≡ false → AsksData L e d ⊎ Installs L e

-- ---- tasks

-- a seizing that registers first is such a one, and none is a joining
abbrev pub WorkFits : Work → Type 0
WorkFits (Seizes s) = is_register s.step ≡ true → s.kind ≡ Plain
WorkFits (Joins j) = ⊥

abbrev pub TasksFit : List Task → Type 0
TasksFit tasks = AllByRecursion (λ (t : Task). WorkFits t.work) tasks

-- ---- a node

-- in a session of another's, which it has not installed
pub record Follows (n : ℕ) (x : UpNode) : Type 0 where
  pub some : 0 < session_of x
  pub other : session_of x % 64 ≢ n
  pub fresh : installed_of x ≢ session_of x

-- Its Promises of the session show what its record has, but for devices that it seizes as such without votes, of which the record says no more that they are
-- valid.
pub record FollowsSo (L : List Letter) (n : ℕ) (x : UpNode) : Type 0 where
  pub shown : (v d : ℕ) → InRange d → HasShown L n (session_of x) v → has (record_of x).valid d ≡ true → has v d ≡ true
  pub held : (v d : ℕ) → InRange d → HasShown L n (session_of x) v → has v d ≡ true → (has (record_of x).valid d ≡ true) ⊎ (seizes_plainly d x.tasks ≡ true)
  pub plain : (d : ℕ) → seizes_plainly d x.tasks ≡ true → AsksData L (session_of x) d
  pub fit : TasksFit x.tasks

-- ---- its attempt

-- the votes were given, and by them the device has none, or has some
pub record IsPlainTo (a : AttemptState) (d : ℕ) : Type 0 where
  pub past : IsPast a.phase
  pub both : BothVotes
  pub votes : a.votes ≡ Some both
  pub none : is_quorum both d ≡ false

pub record IsVoteTo (a : AttemptState) (d : ℕ) : Type 0 where
  pub past : IsPast a.phase
  pub both : BothVotes
  pub votes : a.votes ≡ Some both
  pub some : is_quorum both d ≡ true

-- the coordinator's own Promise, or one that was given
abbrev pub GivenSo : List Letter → ℕ → ℕ → Promised → Type 0
GivenSo L n e p = (p.shown.summary.node ≡ n) ⊎ HasShown L p.shown.summary.node e p.shown.valid

-- .. and what others of the same node show is valid by it, until the attempt is installed
abbrev pub TakenSo : List Letter → ℕ → ℕ → Promised → Type 0
TakenSo L n e p =
    (p.shown.summary.node ≡ n)
    ⊎ (HasShown L p.shown.summary.node e p.shown.valid
    × ((v d : ℕ) → InRange d → HasShown L p.shown.summary.node e v → has v d ≡ true → (has p.shown.valid d ≡ true) ⊎ Installs L e))

pub record AttemptSo (L : List Letter) (n q : ℕ) (a : AttemptState) : Type 0 where
  pub reached : IsReached a
  pub epoch : a.plan.epoch ≡ q
  pub some : 0 < a.plan.epoch
  pub own : a.plan.epoch % 64 ≡ n
  pub coordinator : a.plan.coordinator ≡ n
  pub promises : AllByRecursion (TakenSo L n a.plan.epoch) a.promises
  pub asked_data : (d : ℕ) → AsksData L a.plan.epoch d → IsPlainTo a d
  pub quorum : (d : ℕ) → AsksQuorum L a.plan.epoch d → IsVoteTo a d
  pub before : Installs L a.plan.epoch → IsBefore a.phase → ⊥

abbrev pub AttemptIn : List Letter → ℕ → ℕ → Option AttemptState → Type 0
AttemptIn L n q None = Unit {0}
AttemptIn L n q (Some a) = AttemptSo L n q a

pub record UpSo (L : List Letter) (n : ℕ) (x : UpNode) : Type 0 where
  pub session : session_of x ≤ promised_of x
  pub follows : Follows n x → FollowsSo L n x
  pub installed : 0 < session_of x → session_of x % 64 ≢ n → installed_of x ≡ session_of x → Installs L (session_of x)
  pub attempt : AttemptIn L n (session_of x) x.attempt

abbrev pub UpIn : List Letter → ℕ → NodeRecord → Node → Type 0
UpIn L n disk Down = Unit {0}
UpIn L n disk (Up x) = (record_of x ≡ disk) × UpSo L n x

-- with its disk: what it gave is of numbers that it has promised
pub record SiteSo (L : List Letter) (n : ℕ) (x : Site) : Type 0 where
  pub order : x.disk.installed ≤ x.disk.promised
  pub shown : (e v : ℕ) → HasShown L n e v → e ≤ x.disk.promised
  pub asked_data : (e d : ℕ) → e % 64 ≡ n → AsksData L e d → e ≤ x.disk.promised
  pub quorum : (e d : ℕ) → e % 64 ≡ n → AsksQuorum L e d → e ≤ x.disk.promised
  pub installs : (e : ℕ) → e % 64 ≡ n → Installs L e → e ≤ x.disk.promised
  pub up : UpIn L n x.disk x.node

-- ---- the steps that its attempt gave last

abbrev pub BodyStep : AttemptState → ℕ → Body → Type 0
BodyStep t to (body.SeizeQuorum e members d) = InRange d × (e ≡ t.plan.epoch) × (to ≢ t.plan.coordinator) × IsVoteTo t d × (holds_valid t.promises d to ≡ true)
BodyStep t to (body.SeizeData e members d) = (e ≡ t.plan.epoch) × IsPlainTo t d
BodyStep t to _ = Unit {0}

abbrev pub StepSo : AttemptState → Step → Type 0
StepSo t (step.Send to m) = BodyStep t to m.body
StepSo t _ = Unit {0}

-- an attempt of the same number that the node has now has the same votes
abbrev pub AgreesIn : AttemptState → Option AttemptState → Type 0
AgreesIn t None = Unit {0}
AgreesIn t (Some a) = a.plan.epoch ≡ t.plan.epoch → (d : ℕ) → (IsPlainTo t d → IsPlainTo a d) × (IsVoteTo t d → IsVoteTo a d)

pub record TurnSo (L : List Letter) (n promised : ℕ) (o : Option AttemptState) (u : Turn) : Type 0 where
  pub low : u.after.plan.epoch ≤ promised
  pub some : 0 < u.after.plan.epoch
  pub own : u.after.plan.epoch % 64 ≡ n
  pub coordinator : u.after.plan.coordinator ≡ n
  pub promises : AllByRecursion (GivenSo L n u.after.plan.epoch) u.after.promises
  pub asked_data : (d : ℕ) → AsksData L u.after.plan.epoch d → IsPlainTo u.after d
  pub quorum : (d : ℕ) → AsksQuorum L u.after.plan.epoch d → IsVoteTo u.after d
  pub steps : (x : Step) → IsStep x u.steps → StepSo u.after x
  pub agrees : AgreesIn u.after o

abbrev pub HandIn : List Letter → ℕ → NodeRecord → Node → Hand → Type 0
HandIn L n disk node None = Unit {0}
HandIn L n disk Down (Some u) = TurnSo L n disk.promised None u
HandIn L n disk (Up x) (Some u) = TurnSo L n (promised_of x) x.attempt u

-- ---- messages

-- what is delivered was sent
abbrev pub HandSent : List Letter → Delivered → Type 0
HandSent L None = Unit {0}
HandSent L (Some d) = IsAmong d.0 d.1.body L

-- a Promise of e by node n shows device d as valid
pub record ShowsDevice (L : List Letter) (n e d : ℕ) : Type 0 where
  pub valid : ℕ
  pub shown : HasShown L n e valid
  pub has_it : has valid d ≡ true

-- who is asked to seize a quorum device is not the coordinator, and has shown the device as valid
abbrev pub AskSo : List Letter → ℕ → Body → Type 0
AskSo L to (body.SeizeQuorum e members d) = InRange d × (0 < e) × (e % 64 ≢ to) × AsksQuorum L e d × ShowsDevice L to e d
AskSo L to _ = Unit {0}

abbrev pub PacketSo : List Letter → Packet → Type 0
PacketSo L p = (m : Message) → whole_of p.bytes ≡ Some m → AskSo L p.to m.body

-- what a line says that a node sent, it gave
abbrev pub LineSo : List Letter → Moment → Type 0
LineSo L (sent p n to called bytes) = (m : Message) → whole_of bytes ≡ Some m → IsAmong n m.body L
LineSo L _ = Unit {0}

-- ---- of a whole scene

pub record SceneSo (s : Scene) : Type 0 where
  pub apart : IsApart s.nodes.sent
  pub agree : Agree s.nodes.sent
  pub sites : (n : ℕ) → SiteSo s.nodes.sent n (site_of s.nodes n)
  pub packets : AllByRecursion (PacketSo s.nodes.sent) s.links.packets
  pub lines : AllByRecursion (LineSo s.nodes.sent) s.moments
