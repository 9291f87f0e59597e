-- The messages among the steps of an attempt.
use Rattle.std.specs.List.{find}
use Rattle.std.specs.Prelude.{◌==◌, ℕ, false, ◌≡◌, ◌<◌, ◌^◌, ◌≤◌, ◌⊎◌, List, length, Option, Some, None, All, Contains}
use Rattle.cl_base.specs.Seizings.{SeizeResult}
use Rattle.cl_base.specs.declared.seizing.SeizeEnd.TheVariants.{Held}
use Rattle.wire.specs.declared.lists.Reading.{Reading}
use Rattle.seize.specs.declared.kind.SeizeKind.{SeizeKind}
use Rattle.seize.specs.declared.kind.SeizeKind.TheVariants.{Vote, Plain}
use Rattle.wire.specs.Spelling.{IsShort, IsShortResult}
use Rattle.wire.specs.declared.message.Body.{Body}
use Rattle.wire.specs.declared.message.Body.TheVariants as body
use Rattle.wire.specs.declared.message.Message.{Message}
use Rattle.cmm_attempt.specs.declared.attached.AttachedDevice.{AttachedDevice}
use Rattle.cmm_attempt.specs.declared.counting.BothVotes.{BothVotes}
use Rattle.cmm_attempt.specs.declared.phase.Phase.TheVariants.{SeizingVotes, SeizingOthers}
use Rattle.cmm_attempt.specs.declared.seizing.Seizing.{Seizing}
use Rattle.cmm_attempt.specs.declared.step.Step.{Step}
use Rattle.cmm_attempt.specs.declared.step.Step.TheVariants.{Send, SeizeHere, NeedVotes, InstallHere, StartHere, Ended}
use Rattle.cmm_attempt.specs.Attempts.{AttemptState, beginning, install_in}
use Rattle.cmm_attempt.specs.Counts.{is_quorum}
use Rattle.cmm_attempt.specs.Calls.{Call, Take, With_votes, Own_seized, Own_ready, Tick, turn, May, IsReached}

-- The message is one of the attempt t: a Collect or a request of its epoch and members, its Install, or its Start. None is a Promise or a Ready.
abbrev pub IsOwn : AttemptState → Body → Type 0
IsOwn t (body.Collect epoch members) = (epoch ≡ t.plan.epoch) × (members ≡ t.plan.members)
IsOwn t (body.SeizeQuorum epoch members device) = (epoch ≡ t.plan.epoch) × (members ≡ t.plan.members)
IsOwn t (body.SeizeData epoch members device) = (epoch ≡ t.plan.epoch) × (members ≡ t.plan.members)
IsOwn t (body.Install i) = i ≡ install_in t
IsOwn t (body.Start epoch) = epoch ≡ t.plan.epoch
IsOwn t _ = ⊥

abbrev pub IsOwnStep : AttemptState → Step → Type 0
IsOwnStep t (Send n m) = (m.sender ≡ t.plan.coordinator) × IsOwn t m.body
IsOwnStep t (InstallHere i) = i ≡ install_in t
IsOwnStep t (SeizeHere d kind) = Unit {0}
IsOwnStep t (NeedVotes n) = Unit {0}
IsOwnStep t StartHere = Unit {0}
IsOwnStep t (Ended e) = Unit {0}

-- Lengths.

abbrev pub IsShortMaybe : Option SeizeResult → Type 0
IsShortMaybe None = Unit {0}
IsShortMaybe (Some r) = IsShortResult r

-- what was taken is short: the Promises, and the keys that were read; there are few devices
abbrev pub HasShort : AttemptState → Type 0
HasShort s = All (λ p. IsShort p.message.body) s.promises × All (λ e. IsShortMaybe e.result) s.devices × (length s.plan.attached < 2 ^ 16)

abbrev pub TakesShort : Call → Type 0
TakesShort (Take from m) = IsShort m.body
TakesShort (Own_seized d r) = IsShortResult r
TakesShort (With_votes both) = Unit {0}
TakesShort Own_ready = Unit {0}
TakesShort Tick = Unit {0}

abbrev pub IsShortStep : Step → Type 0
IsShortStep (Send n m) = IsShort m.body
IsShortStep (InstallHere i) = IsShort (body.Install i)
IsShortStep (SeizeHere d kind) = Unit {0}
IsShortStep (NeedVotes n) = Unit {0}
IsShortStep StartHere = Unit {0}
IsShortStep (Ended e) = Unit {0}

-- Requests.

-- the attempt seizes device d so, this node is asked, and its answer is awaited
pub record AsksFor (t : AttemptState) (kind : SeizeKind) (n d : ℕ) : Type 0 where
  pub entry : Seizing
  pub listed : Contains t.devices entry
  pub device : entry.attached.device ≡ d
  pub as_kind : entry.kind ≡ kind
  pub seizer : entry.seizer ≡ Some n
  pub awaited : entry.result ≡ None
  pub seizing : (t.phase ≡ SeizingVotes) ⊎ (t.phase ≡ SeizingOthers)
  pub low : 1 ≤ d
  pub high : d ≤ 16

abbrev pub AsksIn : AttemptState → ℕ → Body → Type 0
AsksIn t n (body.SeizeQuorum epoch members d) = AsksFor t Vote n d
AsksIn t n (body.SeizeData epoch members d) = AsksFor t Plain n d
AsksIn t n _ = Unit {0}

abbrev pub AsksEntry : AttemptState → Step → Type 0
AsksEntry t (SeizeHere d kind) = AsksFor t kind t.plan.coordinator d
AsksEntry t (Send n m) = AsksIn t n m.body
AsksEntry t (InstallHere i) = Unit {0}
AsksEntry t (NeedVotes n) = Unit {0}
AsksEntry t StartHere = Unit {0}
AsksEntry t (Ended e) = Unit {0}

-- Readings.

-- what is read on a device that is held: by the node that was asked, with the keys that its result tells
pub record IsRead (t : AttemptState) (r : Reading) : Type 0 where
  pub entry : Seizing
  pub listed : Contains t.devices entry
  pub of_device : entry.attached.device ≡ r.device
  pub by_seizer : entry.seizer ≡ Some r.seizer
  pub held : entry.result ≡ Some (Held r.keys)

-- The laws.

abbrev pub SendsAreOwn : Type 0
SendsAreOwn = (s : AttemptState) (c : Call) → May s c → All (IsOwnStep (turn s c).after) (turn s c).steps

abbrev pub FirstSendsAreOwn : Type 0
FirstSendsAreOwn = (p members : ℕ) (own : Message) (attached : List AttachedDevice) (cluster : ℕ)
    → All (IsOwnStep (beginning p members own attached cluster).after) (beginning p members own attached cluster).steps

-- where all that was taken is short, so is every message
abbrev pub SendsAreShort : Type 0
SendsAreShort = (s : AttemptState) (c : Call) → May s c → HasShort s → TakesShort c → HasShort (turn s c).after × All IsShortStep (turn s c).steps

abbrev pub FirstSendsAreShort : Type 0
FirstSendsAreShort = (p members : ℕ) (own : Message) (attached : List AttachedDevice) (cluster : ℕ) → IsShort own.body → length attached < 2 ^ 16
    → HasShort (beginning p members own attached cluster).after × All IsShortStep (beginning p members own attached cluster).steps

-- each request is for the entry of a device, whose node is asked
abbrev pub AsksAreEntries : Type 0
AsksAreEntries = (s : AttemptState) (c : Call) → IsReached s → May s c → All (AsksEntry (turn s c).after) (turn s c).steps

-- a device that is seized as plain data is an enabled quorum device under neither of the votes that were given
abbrev pub PlainHasNoVotes : Type 0
PlainHasNoVotes = (s : AttemptState) (both : BothVotes) (e : Seizing) → IsReached s → s.votes ≡ Some both → Contains s.devices e → e.kind ≡ Plain
    → is_quorum both e.attached.device ≡ false

-- each reading that an install carries is of a device that is held
abbrev pub ReadingsAreHeld : Type 0
ReadingsAreHeld = (t : AttemptState) → All (IsRead t) (install_in t).readings

-- and each device of the plan that is held is among them, where its node and its result are those of its first entry
abbrev pub HeldIsRead : Type 0
HeldIsRead = (t : AttemptState) (a : AttachedDevice) (e : Seizing) (n : ℕ) (keys : List ℕ) → Contains t.plan.attached a
    → find (λ x. x.attached.device == a.device) t.devices ≡ Some e → e.seizer ≡ Some n → e.result ≡ Some (Held keys)
    → Contains (install_in t).readings (record { device = e.attached.device; seizer = n; keys = keys })
