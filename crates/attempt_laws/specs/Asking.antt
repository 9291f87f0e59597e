-- What an attempt does at one shared device, as the device's machine has it: when all have promised it goes on to seize, it asks one node
-- after another, and with every answer in hand it counts the device as held or not.
use Rattle.std.specs.Prelude.{◌&&◌, ◌⊎◌, ℕ, ◌≡◌, ◌≢◌, ◌≤◌, ◌<◌, ◌==◌, Bool, true, false, List, [], ◌∷◌, Option, Some, None, All}
use Rattle.std.specs.List.{find, list_any}
use Rattle.cl_base.specs.Sets.{has}
use Rattle.cluster_machine.specs.Cluster.{MayCome, all_after, count_at}
use Rattle.device_machine.specs.Attempt.{Attempt}
use Rattle.device_machine.specs.Sharing.{Sharing, Event, Collected, Ask, Count_with, Count_without, Allowed, after}
use Rattle.seize.specs.declared.kind.SeizeKind.{SeizeKind}
use Rattle.seize.specs.declared.kind.SeizeKind.TheVariants.{Vote, Plain}
use Rattle.cl_base.specs.Seizings.{SeizeResult}
use Rattle.cl_base.specs.declared.seizing.SeizeEnd.TheVariants.{Held, NotRegistered}
use Rattle.wire.specs.declared.message.Body.{Body}
use Rattle.wire.specs.declared.message.Body.TheVariants as body
use Rattle.wire.specs.declared.message.Install.{Install}
use Rattle.wire.specs.declared.message.Message.{Message}
use Rattle.cmm_attempt.specs.declared.attached.AttachedDevice.{AttachedDevice}
use Rattle.cmm_attempt.specs.declared.phase.Phase.{Phase}
use Rattle.cmm_attempt.specs.declared.phase.Phase.TheVariants.{Collecting, Choosing, SeizingVotes, SeizingOthers, Installing, Over}
use Rattle.cmm_attempt.specs.declared.plan.Plan.{Plan}
use Rattle.cmm_attempt.specs.declared.promised.Promised.{Promised}
use Rattle.cmm_attempt.specs.declared.seizing.Seizing.{Seizing}
use Rattle.cmm_attempt.specs.declared.step.Step.{Step}
use Rattle.cmm_attempt.specs.declared.step.Step.TheVariants.{Send, SeizeHere, NeedVotes, InstallHere, StartHere, Ended}
use Rattle.cl_base.specs.Numbers.{numbers_to}
use Rattle.cmm_attempt.specs.Calls.{Call, Take, With_votes, Own_seized, Own_ready, Tick, turn, May, installs_in}
use Rattle.attempt_laws.specs.Laws.{is_held_in}
use Rattle.attempt_laws.specs.Machine.{is_member}
use Rattle.cmm_attempt.specs.declared.counting.BothVotes.{BothVotes}
use Rattle.cmm_attempt.specs.Promises.{holds_valid}
use Rattle.cmm_attempt.specs.Seizings.{plain_new}
use Rattle.cmm_attempt.specs.Counts.{vote_new}
use Rattle.cmm_attempt.specs.Attempts.{AttemptState, Turn, beginning, IsPromiseOf}

-- What is told of the device.

-- The word of node n on how its seizing for attempt q ended: it did end, held or not registered where the word is that.
abbrev pub EndedSo : Sharing → ℕ → ℕ → SeizeResult → Type 0
EndedSo t q n (Held keys) = ((t.node n).past.ended q ≡ true) × ((t.node n).past.seized q ≡ true)
EndedSo t q n (NotRegistered keys) = ((t.node n).past.ended q ≡ true) × ((t.node n).past.unregistered q ≡ true)
EndedSo t q n _ = ((t.node n).past.ended q ≡ true) × Unit {0}

-- a Promise tells that its sender promised this epoch, a Seized of device d how its seizing there ended
abbrev pub TellsAt : Sharing → ℕ → ℕ → Body → Type 0
TellsAt t d n (body.Promise epoch installed members valid flagged committed pending) = epoch ≤ (t.node n).promised
TellsAt t d n (body.Seized epoch device outcome) = device ≡ d → EndedSo t epoch n outcome
TellsAt t d n _ = Unit {0}

abbrev pub IsToldAt : Sharing → AttemptState → ℕ → Call → Type 0
IsToldAt t s d (Take from m) = TellsAt t d from m.body
IsToldAt t s d (Own_seized device r) = device ≡ d → EndedSo t s.plan.epoch s.plan.coordinator r
IsToldAt t s d (With_votes both) = Unit {0}
IsToldAt t s d Own_ready = Unit {0}
IsToldAt t s d Tick = Unit {0}

-- What the device's machine has of the attempt.

-- nobody was asked
pub record IsUnasked (a : Attempt) : Type 0 where
  pub asking : a.asking ≡ false
  pub asked : (n : ℕ) → a.asked n ≡ false

-- all have promised, and the votes are not counted yet
pub record IsOpen (a : Attempt) (set : ℕ) : Type 0 where
  pub collected : a.collected ≡ true
  pub counted : a.counted ≡ false
  pub members : (n : ℕ) → a.members n ≡ is_member set n

-- nothing was done yet
pub record IsFresh (a : Attempt) : Type 0 where
  pub collected : a.collected ≡ false
  pub counted : a.counted ≡ false
  pub unasked : IsUnasked a

abbrev pub is_vote : SeizeKind → Bool
is_vote Vote = true
is_vote Plain = false

abbrev pub EndedAs : Sharing → ℕ → ℕ → Option SeizeResult → Type 0
EndedAs t q n None = Unit {0}
EndedAs t q n (Some r) = EndedSo t q n r

-- node n was asked last, and its answer, where there is one, was told by it
pub record IsAsked (t : Sharing) (q n : ℕ) (e : Seizing) : Type 0 where
  pub asking : (t.attempt q).asking ≡ true
  pub seizer : (t.attempt q).seizer ≡ n
  pub kind : (t.attempt q).quorum ≡ is_vote e.kind
  pub asked : (t.attempt q).asked n ≡ true
  pub before : (m : ℕ) → (t.attempt q).asked m ≡ true → has e.asked m ≡ true
  pub ended : EndedAs t q n e.result

abbrev pub AskedBy : Sharing → ℕ → Seizing → Option ℕ → Type 0
AskedBy t q e None = IsUnasked (t.attempt q) × (e.result ≡ Some (NotRegistered []))
AskedBy t q e (Some n) = IsAsked t q n e

abbrev pub HasEntry : Sharing → ℕ → Option Seizing → Type 0
HasEntry t q None = IsUnasked (t.attempt q)
HasEntry t q (Some e) = AskedBy t q e e.seizer

-- the seizing of device d
abbrev pub entry_of : List Seizing → ℕ → Option Seizing
entry_of devices d = find (λ e. e.attached.device == d) devices

-- the devices are apart: no two have one number
abbrev pub AreApart : List ℕ → Type 0
AreApart [] = Unit {0}
AreApart (d ∷ others) = (list_any (λ x. x == d) others ≡ false) × AreApart others

abbrev pub numbers_of : List AttachedDevice → List ℕ
numbers_of [] = []
numbers_of (a ∷ attached) = a.device ∷ numbers_of attached

abbrev pub HasIn : Sharing → Plan → List Promised → List Seizing → ℕ → Phase → Type 0
HasIn t plan promises devices d Collecting =
    IsFresh (t.attempt plan.epoch) × (0 < plan.epoch) × All (λ p. plan.epoch ≤ (t.node p.shown.summary.node).promised) promises
HasIn t plan promises devices d Choosing = IsOpen (t.attempt plan.epoch) plan.members × IsUnasked (t.attempt plan.epoch)
HasIn t plan promises devices d SeizingVotes = IsOpen (t.attempt plan.epoch) plan.members × HasEntry t plan.epoch (entry_of devices d)
HasIn t plan promises devices d SeizingOthers = IsOpen (t.attempt plan.epoch) plan.members × HasEntry t plan.epoch (entry_of devices d)
HasIn t plan promises devices d Installing =
    ((t.attempt plan.epoch).counted ≡ true) × ((t.attempt plan.epoch).holds ≡ is_held_in devices d)
HasIn t plan promises devices d Over = Unit {0}

abbrev pub entry_numbers : List Seizing → List ℕ
entry_numbers [] = []
entry_numbers (e ∷ devices) = e.attached.device ∷ entry_numbers devices

-- the machine of device d has this attempt, whose devices are apart
pub record HasAttempt (t : Sharing) (plan : Plan) (promises : List Promised) (devices : List Seizing) (d : ℕ) (phase : Phase) : Type 0 where
  pub nodes : plan.nodes ≡ numbers_to plan.members 32
  pub attached : AreApart (numbers_of plan.attached)
  pub apart : AreApart (entry_numbers devices)
  pub has : HasIn t plan promises devices d phase

abbrev pub DeviceHas : Sharing → AttemptState → ℕ → Type 0
DeviceHas t s d = HasAttempt t s.plan s.promises s.devices d s.phase

-- What a call does there.

-- the attempt goes on to seize, or asks a node
abbrev pub IsAsking : ℕ → (ℕ → Bool) → Event → Type 0
IsAsking q members (Collected p all) = (p ≡ q) × (all ≡ members)
IsAsking q members (Ask p n quorum) = p ≡ q
IsAsking q members _ = ⊥

-- it counts, where it installs, and until then it has asked as its entry of the device says
abbrev pub CountsAt : Sharing → AttemptState → ℕ → Option Install → Type 0
CountsAt t s d None = DeviceHas t s d
CountsAt t s d (Some i) =
    Allowed t (count_at (is_held_in s.devices d) s.plan.epoch) × DeviceHas (after t (count_at (is_held_in s.devices d) s.plan.epoch)) s d
    × HasEntry t s.plan.epoch (entry_of s.devices d)

-- the machine has node n as asked to seize the device, so
abbrev pub HasAsked : Sharing → ℕ → ℕ → SeizeKind → Type 0
HasAsked t q n kind = ((t.attempt q).asked n ≡ true) × ((t.attempt q).quorum ≡ is_vote kind)

-- A step that asks a node to seize device d asks one that the machine has as asked so.
abbrev pub AsksBy : Sharing → Plan → ℕ → ℕ → Body → Type 0
AsksBy t plan d n (body.SeizeQuorum p members x) = (p ≡ plan.epoch) × (members ≡ plan.members) × (x ≡ d → HasAsked t plan.epoch n Vote)
AsksBy t plan d n (body.SeizeData p members x) = (p ≡ plan.epoch) × (members ≡ plan.members) × (x ≡ d → HasAsked t plan.epoch n Plain)
AsksBy t plan d n _ = Unit {0}

abbrev pub AsksAt : Sharing → Plan → ℕ → Step → Type 0
AsksAt t plan d (SeizeHere x kind) = x ≡ d → HasAsked t plan.epoch plan.coordinator kind
AsksAt t plan d (Send n m) = AsksBy t plan d n m.body
AsksAt t plan d (NeedVotes n) = Unit {0}
AsksAt t plan d (InstallHere i) = Unit {0}
AsksAt t plan d StartHere = Unit {0}
AsksAt t plan d (Ended e) = Unit {0}

-- The machine allows these events of the attempt, and has the attempt after them, with all that its steps ask for.
pub record Moves (t : Sharing) (q : ℕ) (members : ℕ → Bool) (d : ℕ) (u : Turn) : Type 0 where
  pub events : List Event
  pub asking : All (IsAsking q members) events
  pub allowed : MayCome t events
  pub asked : All (AsksAt (all_after t events) u.after.plan d) u.steps
  pub counts : CountsAt (all_after t events) u.after d (installs_in u.steps)

-- The laws.

abbrev pub DevicesBegin : Type 0
DevicesBegin = (t : Sharing) (p members : ℕ) (all : ℕ → Bool) (own : Message) (attached : List AttachedDevice) (cluster d : ℕ)
    → IsPromiseOf p own → 0 < p → IsFresh (t.attempt p) → p ≤ (t.node own.sender).promised → ((n : ℕ) → all n ≡ is_member members n) → AreApart (numbers_of attached)
    → Moves t p all d (beginning p members own attached cluster)

abbrev pub CallsMove : Type 0
CallsMove = (t : Sharing) (all : ℕ → Bool) (s : AttemptState) (c : Call) (d : ℕ)
    → DeviceHas t s d → May s c → IsToldAt t s d c → ((n : ℕ) → all n ≡ is_member s.plan.members n) → Moves t s.plan.epoch all d (turn s c)

-- an event of another attempt, or of a node
abbrev pub IsOthers : ℕ → Event → Type 0
IsOthers q (Collected p members) = p ≢ q
IsOthers q (Ask p n quorum) = p ≢ q
IsOthers q (Count_with p) = p ≢ q
IsOthers q (Count_without p) = p ≢ q
IsOthers q _ = Unit {0}

-- what others do there leaves what the machine has of the attempt
abbrev pub OthersLeave : Type 0
OthersLeave = (t : Sharing) (e : Event) (s : AttemptState) (d : ℕ) → DeviceHas t s d → Allowed t e → IsOthers s.plan.epoch e → DeviceHas (after t e) s d

-- who is asked first

-- the least of the nodes of which the test is true
abbrev pub IsLeast : (ℕ → Bool) → List ℕ → Option ℕ → Type 0
IsLeast test [] None = Unit {0}
IsLeast test [] (Some n) = ⊥
IsLeast test (m ∷ nodes) o = ((test m ≡ true) × (o ≡ Some m)) ⊎ ((test m ≡ false) × IsLeast test nodes o)

-- a quorum device that is to be seized: the least attached member that holds it valid is asked, or it is not registered where there is none
abbrev pub QuorumAsksValid : Type 0
QuorumAsksValid = (plan : Plan) (promises : List Promised) (both : BothVotes) (a : AttachedDevice) (e : Seizing) → vote_new plan promises both a ≡ Some e
    → IsLeast (λ n. has a.nodes n && holds_valid promises a.device n) plan.nodes e.seizer × (e.kind ≡ Vote) × (e.attached ≡ a)

-- another device: the least attached member is asked
abbrev pub OthersAskAttached : Type 0
OthersAskAttached = (plan : Plan) (devices : List Seizing) (a : AttachedDevice) (e : Seizing) → plain_new plan devices a ≡ Some e
    → IsLeast (λ n. has a.nodes n) plan.nodes e.seizer × (e.kind ≡ Plain) × (e.attached ≡ a)
