-- What the president of a membership has in hand.
use Rattle.std.specs.Prelude.{ℕ, ◌-◌, List, [], ◌∷◌, Option, None, Some, replicate, slice_index_or}
use Rattle.proposals.specs.declared.arrived.Arrived.{Arrived}
use Rattle.proposals.specs.declared.arrived.Kept.{Kept}
use Rattle.proposals.specs.declared.arrived.Proposed.{Proposed}

-- The requests in order of arrival, of which the first is the one that is handled; the update that is proposed for it, if one is; how
-- many ticks ago its Prepares were sent last; and the last answer to each node, node 1 first.
pub record State : Type 0 where
  pub arrived : List Arrived
  pub proposed : Option Proposed
  pub age : ℕ
  pub answers : List (Option Kept)

abbrev pub nothing_yet : State
nothing_yet = record { arrived = []; proposed = None; age = 0; answers = replicate 32 None }

abbrev pub kept_at : List (Option Kept) → ℕ → Option Kept
kept_at answers n = slice_index_or answers (n - 1) None

abbrev pub first_in : List Arrived → Option Arrived
first_in [] = None
first_in (a ∷ rest) = Some a
