-- The book: what the lines of a number tell, and what they tell of the machine of memberships.
use Rattle.std.specs.Prelude.{ℕ, ◌+◌, ◌≡◌, ◌≢◌, ◌≤◌, ◌⊎◌, ◌++◌, Bool, true, false, List, [], ◌∷◌, length}
use Rattle.history.specs.Deeds.{Deed, OfEach, acked_in, base_in, has_started, proposed_in, start_numbers}
use Rattle.history.specs.Lineage.{AllDiffer, Lineage}
use Rattle.history.specs.Placed.{Placed}
use Rattle.machine_base.specs.Epochs.{coordinator}
use Rattle.membership_machine.specs.Growth.{Grows}
use Rattle.membership_machine.specs.Invariant.{Holds}
use Rattle.membership_machine.specs.Starts.{DevicesMeet}
use Rattle.membership_machine.specs.State.{Epoch, Memberships}
use Rattle.membership_machine.specs.Votes.{Setting}

-- what the lines have of one number
pub record Story : Type 0 where
  pub started : Bool
  pub base : List (List ℕ)
  pub proposed : List (List ℕ)
  pub acked : List (List ℕ)

abbrev pub story : ℕ → List Deed → Story
story q ds = record { started = has_started q ds; base = base_in q ds; proposed = proposed_in q ds; acked = acked_in q ds }

-- The story t of number q, whose coordinator is in session s, as a member or not. A start whose save was lost has started in the machine, and has
-- no line; so an acknowledgement.
pub record Tells (e : Epoch) (q s : ℕ) (member : Bool) (t : Story) : Type 0 where
  pub log : e.log ≡ e.base ++ t.proposed
  -- what the lines have acknowledged is, and at most one more than that was proposed
  pub low : e.started ≡ true → length e.base + length t.acked ≤ e.acked
  pub one : e.started ≡ true → length e.log ≤ length e.base + length t.acked + 1
  pub silent : e.started ≡ false → (t.acked ≡ []) × (t.proposed ≡ [])
  -- a president that goes on has a line for each acknowledgement
  pub exact : member ≡ true → s ≡ q → e.acked ≡ length e.base + length t.acked
  -- a start without a line is that of no session: nothing is ever proposed in it
  pub lined : e.started ≡ true → (t.started ≡ true) ⊎ ((t.proposed ≡ []) × (s ≢ q))
  pub line : t.started ≡ true → (e.started ≡ true) × (t.base ≡ e.base)

abbrev pub TellsAt : Memberships → ℕ → Story → Type 0
TellsAt M q t = Tells (M.epoch q) q (M.node (coordinator q)).session (M.node (coordinator q)).member t

-- These deeds tell of the machine's state: no number starts twice, and each update has its place.
pub record Booked (M : Memberships) (ds : List Deed) : Type 0 where
  pub told : (q : ℕ) → TellsAt M q (story q ds)
  pub differ : AllDiffer (start_numbers ds)
  pub placed : Placed ds

-- .. and whenever a deed had come, the starts had Lineage, where devices meet in any later state.
pub record Ledger (S : Setting) (M : Memberships) (ds : List Deed) : Type 0 where
  pub booked : Booked M ds
  pub judged : (N : Memberships) → Holds S N → Grows M N → DevicesMeet S N → OfEach Lineage ds

-- one deed, or none
abbrev pub AtMostOne : List Deed → Type 0
AtMostOne [] = Unit {0}
AtMostOne (d ∷ []) = Unit {0}
AtMostOne (d ∷ e ∷ ds) = ⊥
