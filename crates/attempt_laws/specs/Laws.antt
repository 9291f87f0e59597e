-- What every attempt keeps to: each end has its cause, and a membership starts only with every answer and enough votes.
use Rattle.std.specs.Prelude.{ℕ, ◌+◌, ◌≡◌, ◌<◌, ◌≤◌, ◌⊎◌, Bool, true, List, Option, Some, None, IsSome, ◌==◌, ◌&&◌, All, Contains}
use Rattle.std.specs.List.{find, list_any}
use Rattle.ccr_commit.specs.Newest.{IsNewer, IsAsNew}
use Rattle.quorum_votes.specs.Tables.{VoteTable}
use Rattle.quorum_votes.specs.Votes.{held_of, needed_of}
use Rattle.quorum_votes.specs.Quorum.{IsMajority}
use Rattle.cl_base.specs.declared.seizing.SeizeEnd.TheVariants as told
use Rattle.wire.specs.declared.message.Body.{Body}
use Rattle.wire.specs.declared.message.Body.TheVariants as body
use Rattle.wire.specs.declared.message.Message.{Message}
use Rattle.cmm_attempt.specs.declared.attached.AttachedDevice.{AttachedDevice}
use Rattle.cmm_attempt.specs.declared.promised.Promised.{Promised}
use Rattle.cmm_attempt.specs.declared.promised.Shown.{Shown}
use Rattle.cmm_attempt.specs.declared.counting.BothVotes.{BothVotes}
use Rattle.cmm_attempt.specs.declared.phase.Phase.TheVariants.{Choosing, Over}
use Rattle.cmm_attempt.specs.declared.step.AttemptEnd.{AttemptEnd}
use Rattle.cmm_attempt.specs.declared.step.AttemptEnd.TheVariants.{Votes, Superseded, Silent, Foreign, Excluded}
use Rattle.cmm_attempt.specs.Promises.{newest_shown, is_left_out}
use Rattle.cmm_attempt.specs.declared.seizing.Seizing.{Seizing}
use Rattle.cmm_attempt.specs.Seizings.{held_set, is_held_by, awaits}
use Rattle.cmm_attempt.specs.Calls.{Call, Take, With_votes, Own_seized, Own_ready, Tick, turn, May, Run, IsReached, end_in, starts_in, wish_in}
use Rattle.cmm_attempt.specs.Counts.{is_foreign, first_short, reached_set, votes_end}
use Rattle.cmm_attempt.specs.Attempts.{AttemptState, waits, all_promised, all_ready, is_missing, beginning}

-- A membership starts.

-- the members and these devices are a majority under the committed votes, and under the pending ones where there are such
abbrev pub IsMajorityPending : Option VoteTable → ℕ → ℕ → Type 0
IsMajorityPending None members devices = Unit {0}
IsMajorityPending (Some v) members devices = IsMajority v members devices

abbrev pub HasVotes : Option BothVotes → ℕ → ℕ → Type 0
HasVotes None members devices = ⊥
HasVotes (Some both) members devices = IsMajority both.committed members devices × IsMajorityPending both.pending members devices

-- the seizing of device d has ended held
abbrev pub is_held_in : List Seizing → ℕ → Bool
is_held_in devices d = list_any (λ e. (e.attached.device == d) && is_held_by e.result) devices

-- the device is among those that are to be seized
abbrev pub is_listed_in : List Seizing → ℕ → Bool
is_listed_in devices d = list_any (λ e. e.attached.device == d) devices

-- the devices that were counted are those that were held then, and each of them is still held
pub record CountsHeld (counted : ℕ) (devices : List Seizing) : Type 0 where
  pub before : List Seizing
  pub set : counted ≡ held_set before
  pub listed : (d : ℕ) → is_listed_in before d ≡ true → is_listed_in devices d ≡ true
  pub still : (d : ℕ) → is_held_in before d ≡ true → is_held_in devices d ≡ true

-- The coordinator's own part is done, each other member's Ready was taken, and the members with the devices that were counted
-- are a majority under each of the votes that were given.
pub record IsStarted (s : AttemptState) : Type 0 where
  pub own : s.own_ready ≡ true
  pub ready : all_ready s ≡ true
  pub votes : HasVotes s.votes s.plan.members s.counted
  pub devices : CountsHeld s.counted s.devices

-- An attempt ends.

-- the least member that is configured under neither of the votes that were given is n
pub record IsForeign (s : AttemptState) (n : ℕ) : Type 0 where
  pub both : BothVotes
  pub given : s.votes ≡ Some both
  pub least : find (is_foreign both) s.plan.nodes ≡ Some n

-- the least member that was left out by the newest record is n
pub record IsExcluded (s : AttemptState) (n : ℕ) : Type 0 where
  pub newest : Shown
  pub is_newest : newest_shown s.promises ≡ Some newest
  pub least : find (is_left_out newest s.promises) s.plan.nodes ≡ Some n

-- the votes v are the first of those given under which too few are held
pub record IsShort (s : AttemptState) (e : AttemptEnd) : Type 0 where
  pub both : BothVotes
  pub devices : ℕ
  pub v : VoteTable
  pub given : s.votes ≡ Some both
  pub of : (devices ≡ reached_set s.plan) ⊎ (devices ≡ held_set s.devices)
  pub short : first_short both s.plan.members devices ≡ Some v
  pub below : held_of v s.plan.members devices < needed_of v
  pub is : e ≡ votes_end s.plan s.devices devices v

-- the message says that its sender promised q
abbrev pub ShowsPromise : AttemptState → Call → ℕ → Type 0
ShowsPromise s (Take from m) q = m.body ≡ body.Nack s.plan.epoch q
ShowsPromise s (With_votes both) q = ⊥
ShowsPromise s (Own_seized d r) q = ⊥
ShowsPromise s Own_ready q = ⊥
ShowsPromise s Tick q = ⊥

-- it is the eighth tick of the phase or a later one, and the least member whose answer is missing is n
pub record IsSilent (s : AttemptState) (n : ℕ) : Type 0 where
  pub late : 8 ≤ s.ticks + 1
  pub least : find (is_missing s) s.plan.nodes ≡ Some n

abbrev pub FallsSilent : AttemptState → Call → ℕ → Type 0
FallsSilent s Tick n = IsSilent s n
FallsSilent s (Take from m) n = ⊥
FallsSilent s (With_votes both) n = ⊥
FallsSilent s (Own_seized d r) n = ⊥
FallsSilent s Own_ready n = ⊥

-- why a call ends an attempt so, s being the attempt before it and t after it
abbrev pub HasCause : AttemptState → Call → AttemptState → AttemptEnd → Type 0
HasCause s c t (Votes have need lacking) = IsShort t (Votes have need lacking)
HasCause s c t (Superseded q) = ShowsPromise s c q
HasCause s c t (Silent n) = FallsSilent s c n
HasCause s c t (Foreign n) = IsForeign t n
HasCause s c t (Excluded n) = IsExcluded t n

-- A device is held.

-- the answer of this node on device d was awaited
abbrev pub WasAsked : AttemptState → ℕ → ℕ → Type 0
WasAsked s d n = IsSome (find (awaits d n) s.devices)

-- a Seized of epoch p says that device d is held
abbrev pub SaysHeld : ℕ → ℕ → Body → Type 0
SaysHeld p d (body.Seized epoch device (told.Held keys)) = (epoch ≡ p) × (device ≡ d)
SaysHeld p d _ = ⊥

-- the call says that device d is held, and comes from the node that was asked to seize it
abbrev pub TellsHeld : AttemptState → Call → ℕ → Type 0
TellsHeld s (Take from m) d = SaysHeld s.plan.epoch d m.body × WasAsked s d from
TellsHeld s (Own_seized device r) d = (device ≡ d) × (is_held_by (Some r) ≡ true) × WasAsked s d s.plan.coordinator
TellsHeld s (With_votes both) d = ⊥
TellsHeld s Own_ready d = ⊥
TellsHeld s Tick d = ⊥

-- The newest record.

-- n is the node of a Promise that was taken, and none shows a newer record
pub record IsNewest (s : AttemptState) (n : ℕ) : Type 0 where
  pub best : Promised
  pub node : best.shown.summary.node ≡ n
  pub taken : Contains s.promises best
  pub none_newer : All (λ p. IsNewer best.shown.summary p.shown.summary ⊎ IsAsNew best.shown.summary p.shown.summary) s.promises

-- The laws.

abbrev pub EndsHaveCauses : Type 0
EndsHaveCauses = (s : AttemptState) (c : Call) (e : AttemptEnd) → end_in (turn s c).steps ≡ Some e → HasCause s c (turn s c).after e

-- where it ends so, all have promised
abbrev pub AllHavePromised : Type 0
AllHavePromised = (s : AttemptState) (c : Call) (n : ℕ) → IsReached s → May s c
    → (end_in (turn s c).steps ≡ Some (Foreign n)) ⊎ (end_in (turn s c).steps ≡ Some (Excluded n)) → all_promised (turn s c).after ≡ true

abbrev pub StartsAreCounted : Type 0
StartsAreCounted = (p members : ℕ) (own : Message) (attached : List AttachedDevice) (cluster : ℕ) (calls : List Call) (s : AttemptState) (c : Call)
    → Run (beginning p members own attached cluster).after calls s → May s c → starts_in (turn s c).steps ≡ true → IsStarted (turn s c).after

abbrev pub HeldIsTold : Type 0
HeldIsTold = (s : AttemptState) (c : Call) (d : ℕ) → is_held_in (turn s c).after.devices d ≡ true
    → (is_held_in s.devices d ≡ true) ⊎ TellsHeld s c d

abbrev pub WishesAreNewest : Type 0
WishesAreNewest = (s : AttemptState) (c : Call) (n : ℕ) → wish_in (turn s c).steps ≡ Some n → IsNewest (turn s c).after n

abbrev pub FirstWishIsNewest : Type 0
FirstWishIsNewest = (p members : ℕ) (own : Message) (attached : List AttachedDevice) (cluster n : ℕ)
    → wish_in (beginning p members own attached cluster).steps ≡ Some n → IsNewest (beginning p members own attached cluster).after n

-- after the wish for the votes they may be given
abbrev pub WishesWait : Type 0
WishesWait = (s : AttemptState) (c : Call) (n : ℕ) → wish_in (turn s c).steps ≡ Some n → (turn s c).after.phase ≡ Choosing

abbrev pub FirstWishWaits : Type 0
FirstWishWaits = (p members : ℕ) (own : Message) (attached : List AttachedDevice) (cluster n : ℕ)
    → wish_in (beginning p members own attached cluster).steps ≡ Some n → (beginning p members own attached cluster).after.phase ≡ Choosing

-- once it has ended or started, no call does anything
abbrev pub EndsOnce : Type 0
EndsOnce = (s : AttemptState) (c : Call) → s.phase ≡ Over → May s c → turn s c ≡ waits s

-- an end or a start is the last that an attempt gives
abbrev pub IsThenOver : Type 0
IsThenOver = (s : AttemptState) (c : Call) (e : AttemptEnd)
    → (end_in (turn s c).steps ≡ Some e) ⊎ (starts_in (turn s c).steps ≡ true) → (turn s c).after.phase ≡ Over
