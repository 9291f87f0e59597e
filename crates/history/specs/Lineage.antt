-- Lineage: each membership stands on the one before it, by number.
use Rattle.std.specs.Prelude.{◌≡◌, ◌⊎◌, ℕ, ◌+◌, ◌==◌, ◌&&◌, nat_lt, false, if◌then◌else◌, List, [], ◌∷◌, ◌++◌, length, take, Option, Some, None}
use Rattle.std.specs.List.{list_any, AllByRecursion}
use Rattle.history.specs.Deeds.{Deed, start_numbers, base_in, proposed_in, acked_in}

-- none of these numbers comes twice
abbrev pub AllDiffer : List ℕ → Type 0
AllDiffer [] = Unit {0}
AllDiffer (e ∷ others) = (list_any (λ f. f == e) others ≡ false) × AllDiffer others

abbrev pub greater_below : ℕ → ℕ → Option ℕ → Option ℕ
greater_below e f None = if nat_lt f e then Some f else None
greater_below e f (Some g) = if nat_lt f e && nat_lt g f then Some f else Some g

-- the greatest of these numbers that is smaller than e
abbrev pub last_below : ℕ → List ℕ → Option ℕ
last_below e [] = None
last_below e (f ∷ others) = greater_below e f (last_below e others)

-- A base is the one before it, and then the first updates that were proposed there: as many as are acknowledged, or one more.
abbrev pub Continues : List (List ℕ) → List (List ℕ) → ℕ → List (List ℕ) → Type 0
Continues old proposed acked new = (new ≡ old ++ take acked proposed) ⊎ (new ≡ old ++ take (acked + 1) proposed)

-- The first membership begins with no update. Each other stands on the one with the next smaller number.
abbrev pub StandsOn : List Deed → ℕ → Option ℕ → Type 0
StandsOn deeds e None = base_in e deeds ≡ []
StandsOn deeds e (Some f) = Continues (base_in f deeds) (proposed_in f deeds) (length (acked_in f deeds)) (base_in e deeds)

-- It is judged whenever a deed has come: a smaller number may start late, and then stands between two that started before.
pub record Lineage (deeds : List Deed) : Type 0 where
  -- no two starts have the same number
  pub once : AllDiffer (start_numbers deeds)
  pub stands : AllByRecursion (λ e. StandsOn deeds e (last_below e (start_numbers deeds))) (start_numbers deeds)
