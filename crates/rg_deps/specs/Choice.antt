-- What is known of the things while one after the other is chosen.
use Rattle.std.specs.Prelude.{◌≡◌, ℕ, ◌<◌, ◌==◌, ◌&&◌, not, Bool, true, List, length, Option, slice_index_or}
use Rattle.std.specs.BTreeSet as tree
use Rattle.std.specs.BTreeSet.{BTreeSet}
use Rattle.std.specs.List.{filter, list_any}
use Rattle.std.specs.Ordering.{nat_cmp, ordering_then}
use Rattle.std.specs.declared.cmp.Ordering.{Ordering}
use Rattle.std.specs.declared.cmp.Reverse.{Reverse}
use Rattle.rg_deps.specs.declared.graph.Edge.{Edge}
use Rattle.rg_deps.specs.Cycles.{edges_left}
use Rattle.rg_deps.specs.Flags.{flag}
use Rattle.rg_deps.specs.Order.{stands}
use Rattle.rg_deps.specs.Places.{is_priority}

-- the greatest priority first, then the first place
abbrev pub rank_cmp : Reverse ℕ × ℕ → Reverse ℕ × ℕ → Ordering
rank_cmp x y = ordering_then (nat_cmp y.0.0 x.0.0) (nat_cmp x.1 y.1)

-- whether a place of this priority is in the set
abbrev pub has_rank : BTreeSet (Reverse ℕ × ℕ) → ℕ → ℕ → Bool
has_rank ready n p = tree.contains rank_cmp ready (record { 0 = n }, p)

-- how often a place is there
abbrev pub times : List ℕ → ℕ → ℕ
times places p = length (filter (λ q. p == q) places)

abbrev pub is_among : List ℕ → ℕ → Bool
is_among places p = list_any (λ q. p == q) places

-- how many edges of a place have a target that does not stand
abbrev pub left_count : List Edge → List ℕ → ℕ → ℕ
left_count edges order p = length (edges_left edges (stands order) p)

-- that the flags, the counts and the set tell how far the choice has come
pub record IsAt (edges : List Edge) (count : ℕ) (priorities : List (Option ℕ)) (order : List ℕ) (standing : List Bool) (waiting : List ℕ) (ready : BTreeSet (Reverse ℕ × ℕ)) : Type 0 where
  pub flags : flag standing ≡ stands order
  pub size : length standing ≡ count
  pub len : length waiting ≡ count
  pub counts : (p : ℕ) → p < count → slice_index_or waiting p 0 ≡ left_count edges order p
  pub settled : (p : ℕ) → stands order p ≡ true → left_count edges order p ≡ 0
  pub ranks : (n p : ℕ) → has_rank ready n p ≡ (is_priority priorities n p && (not (stands order p) && (left_count edges order p == 0)))
