-- Places: updates are of memberships that started. They take their places right after the base, one after another; each is acknowledged
-- before the next is proposed, and with the words with which it was proposed.
use Rattle.std.specs.Prelude.{◌≡◌, ℕ, ◌+◌, true, List, [], ◌∷◌, length, slice_get, Some}
use Rattle.history.specs.Deeds.{Deed, Update, Started, Proposed, Acked, has_started, base_in, proposed_in, acked_in}

-- the place after the base of e and so many updates
abbrev pub place_after : ℕ → List (List ℕ) → List Deed → ℕ
place_after e updates before = length (base_in e before) + length updates + 1

pub record IsProposed (before : List Deed) (u : Update) : Type 0 where
  pub started : has_started u.epoch before ≡ true
  pub place : u.place ≡ place_after u.epoch (proposed_in u.epoch before) before
  pub none_pending : length (proposed_in u.epoch before) ≡ length (acked_in u.epoch before)

pub record IsAcked (before : List Deed) (u : Update) : Type 0 where
  pub started : has_started u.epoch before ≡ true
  pub place : u.place ≡ place_after u.epoch (acked_in u.epoch before) before
  pub words : slice_get (proposed_in u.epoch before) (length (acked_in u.epoch before)) ≡ Some u.words

abbrev pub IsPlaced : List Deed → Deed → Type 0
IsPlaced before (Started s updates) = Unit {0}
IsPlaced before (Proposed u) = IsProposed before u
IsPlaced before (Acked u) = IsAcked before u

-- each deed is judged by those before it
abbrev pub Placed : List Deed → Type 0
Placed [] = Unit {0}
Placed (d ∷ before) = IsPlaced before d × Placed before
