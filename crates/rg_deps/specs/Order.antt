-- Ordering things by repeated choice. Things are numbered in order of creation; an edge says that one comes after another, its target.
use Rattle.std.specs.Prelude.{ℕ, zero, suc, nat_eq, nat_lt, ◌==◌, ◌&&◌, not, Bool, List, [], ◌∷◌, ◌++◌, length, Option, None, Some, fold, if◌then◌else◌}
use Rattle.std.specs.List.{find, filter, list_any}
use Rattle.std.specs.Option.{option_map}
use Rattle.rg_deps.specs.declared.graph.Thing.{Thing}
use Rattle.rg_deps.specs.declared.graph.Edge.{Edge}

-- whether a place is in the order already
abbrev pub stands : List ℕ → ℕ → Bool
stands order p = list_any (nat_eq p) order

-- whether a place has a target that does not stand
abbrev pub waits : List Edge → (ℕ → Bool) → ℕ → Bool
waits edges standing p = list_any (λ e. (e.from == p) && not (standing e.to)) edges

-- what may come next: it does not stand, and all its targets do
abbrev pub may_come : List Edge → (ℕ → Bool) → Thing → Bool
may_come edges standing t = not (standing t.place) && not (waits edges standing t.place)

-- the one of the greatest priority, the first of these
abbrev pub preferred : Option Thing → Thing → Option Thing
preferred None t = Some t
preferred (Some best) t = if nat_lt best.priority t.priority then Some t else Some best

-- what comes next
abbrev pub next : List Thing → List Edge → (ℕ → Bool) → Option Thing
next things edges standing = fold preferred None (filter (may_come edges standing) things)

abbrev pub with_next : List ℕ → Option Thing → List ℕ
with_next order None = order
with_next order (Some t) = order ++ t.place ∷ []

-- the order after n choices
abbrev pub chosen : List Thing → List Edge → ℕ → List ℕ
chosen things edges zero = []
chosen things edges (suc n) = with_next (chosen things edges n) (next things edges (stands (chosen things edges n)))

-- the order after as many choices as there are things: then nothing may come next
abbrev pub ordered : List Thing → List Edge → List ℕ
ordered things edges = chosen things edges (length things)

-- the first created thing that does not stand
abbrev pub first_left : List Thing → (ℕ → Bool) → Option ℕ
first_left things standing = option_map (λ t. t.place) (find (λ t. not (standing t.place)) things)
