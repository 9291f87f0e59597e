-- The cycle that is found among things which no order reaches.
use Rattle.std.specs.Prelude.{ℕ, ◌+◌, zero, suc, nat_eq, min, ◌==◌, ◌&&◌, not, Bool, List, [], ◌∷◌, ◌++◌, length, drop, Option, None, Some, fold, Result, Ok, Err, if◌then◌else◌}
use Rattle.std.specs.List.{filter, position}
use Rattle.std.specs.Option.{unwrap_or}
use Rattle.rg_deps.specs.declared.graph.Thing.{Thing}
use Rattle.rg_deps.specs.declared.graph.Edge.{Edge}
use Rattle.rg_deps.specs.Order.{stands, ordered, first_left}

-- the edges from a place to targets that do not stand
abbrev pub edges_left : List Edge → (ℕ → Bool) → ℕ → List Edge
edges_left edges standing p = filter (λ e. (e.from == p) && not (standing e.to)) edges

abbrev pub earlier : Option ℕ → Edge → Option ℕ
earlier None e = Some e.to
earlier (Some first) e = Some (min first e.to)

-- the first created target of a place that does not stand
abbrev pub first_target : List Edge → (ℕ → Bool) → ℕ → Option ℕ
first_target edges standing p = fold earlier None (edges_left edges standing p)

-- a path from this place on
abbrev pub from_place : ℕ → List ℕ → List ℕ
from_place p path = drop (unwrap_or (position (nat_eq p) path) (length path)) path

-- From a place always on to its first target that is left, until one comes again: the path from that one on. Of the steps there are n at most.
abbrev pub walk : (ℕ → Option ℕ) → ℕ → List ℕ → Option ℕ → List ℕ
walk target zero path at = []
walk target (suc n) path None = []
walk target (suc n) path (Some p) = if stands path p then from_place p path else walk target n (path ++ p ∷ []) (target p)

-- the cycle: from the first thing that does not stand, with a step more than there are things
abbrev pub cycle : List Thing → List Edge → (ℕ → Bool) → List ℕ
cycle things edges standing = walk (first_target edges standing) (length things + 1) [] (first_left things standing)

abbrev pub arranged : List Thing → List Edge → List ℕ → Option ℕ → Result (List ℕ) (List ℕ)
arranged things edges order None = Ok order
arranged things edges order (Some p) = Err (cycle things edges (stands order))

-- the order where it reaches everything, else the cycle
abbrev pub arrangement : List Thing → List Edge → Result (List ℕ) (List ℕ)
arrangement things edges = arranged things edges (ordered things edges) (first_left things (stands (ordered things edges)))
