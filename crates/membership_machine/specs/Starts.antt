-- The words of the laws: the start before an attempt, what it means to follow it, and where two attempts meet.
use Rattle.std.specs.Prelude.{ℕ, zero, suc, ◌+◌, ◌≡◌, ◌<◌, ◌≤◌, ◌⊎◌, true, List, length, take, if◌then◌else◌}
use Rattle.membership_machine.specs.Records.{Update}
use Rattle.membership_machine.specs.Votes.{Setting}
use Rattle.membership_machine.specs.State.{Epoch, Memberships}

-- the greatest epoch below q that started, or 0
abbrev pub last_start : Memberships → ℕ → ℕ
last_start w zero = zero
last_start w (suc q) = if (w.epoch q).started then q else last_start w q

-- The base of q is what start s had at its beginning and then the first of its proposals: all that were acknowledged, or one more.
-- (s is 0 where nothing started before q: then the base is empty.)
pub record Follows (w : Memberships) (q s : ℕ) : Type 0 where
  pub begins : (w.epoch q).base ≡ take (length (w.epoch q).base) (w.epoch s).log
  pub acknowledged : (w.epoch s).acked ≤ length (w.epoch q).base
  pub one_more : length (w.epoch q).base ≤ (w.epoch s).acked + 1
  pub proposed : length (w.epoch q).base ≤ length (w.epoch s).log

-- two lists have the same first v entries
pub record Alike (v : ℕ) (xs ys : List Update) : Type 0 where
  pub same : take v xs ≡ take v ys
  pub first_reaches : v ≤ length xs
  pub second_reaches : v ≤ length ys

-- device d has votes under the committed or the pending votes of attempt q
abbrev pub HasVotes : Setting → Epoch → ℕ → Type 0
HasVotes S e d = (0 < (S.config (take e.settled e.base)).of_device d) ⊎ (0 < (S.config e.base).of_device d)

-- A member of attempt q was a member of the smaller attempt e, or had installed a greater epoch than e when it promised q.
pub record Meeting (w : Memberships) (e q : ℕ) : Type 0 where
  pub node : ℕ
  pub later_member : (w.epoch q).members node ≡ true
  pub knows : ((w.epoch e).members node ≡ true) ⊎ (e < ((w.node node).showed q).installed)

-- Two attempts that counted and held one device with votes meet. Here it is a premise; it is what quorum devices are for.
abbrev pub DevicesMeet : Setting → Memberships → Type 0
DevicesMeet S w = (e q d : ℕ) → e < q → (w.epoch e).counted ≡ true → (w.epoch q).counted ≡ true
    → (w.epoch e).holds d ≡ true → (w.epoch q).holds d ≡ true → HasVotes S (w.epoch q) d → Meeting w e q
