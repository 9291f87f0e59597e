-- What an order is, whatever the choice, and what is true of the one that is chosen.
use Rattle.std.specs.Prelude.{◌≡◌, ◌≢◌, ℕ, nat_eq, ◌&&◌, Bool, true, false, List, [], ◌∷◌, ◌++◌, None, Some}
use Rattle.std.specs.List.{list_any}
use Rattle.rg_deps.specs.declared.graph.Thing.{Thing}
use Rattle.rg_deps.specs.declared.graph.Edge.{Edge}
use Rattle.rg_deps.specs.Cycles.{cycle}
use Rattle.rg_deps.specs.Order.{stands, waits, ordered, first_left}

-- whether a place is one of the things'
abbrev pub is_thing : List Thing → ℕ → Bool
is_thing things p = list_any (λ t. nat_eq p t.place) things

-- Of these places, coming after those that are done, each comes where it does not stand yet and all its targets do.
abbrev pub Follow : List Edge → List ℕ → List ℕ → Type 0
Follow edges done [] = Unit {0}
Follow edges done (p ∷ ps) = (stands done p ≡ false) × (waits edges (stands done) p ≡ false) × Follow edges (done ++ p ∷ []) ps

-- an order of the things: it has each of them once, and each after its targets
pub record IsOrder (things : List Thing) (edges : List Edge) (order : List ℕ) : Type 0 where
  pub own : (p : ℕ) → stands order p ≡ true → is_thing things p ≡ true
  pub all : (p : ℕ) → is_thing things p ≡ true → stands order p ≡ true
  pub follow : Follow edges [] order

-- Where nothing is left, what was chosen is an order.
abbrev pub ChosenIsOrder : Type 0
ChosenIsOrder = (things : List Thing) (edges : List Edge) → first_left things (stands (ordered things edges)) ≡ None → IsOrder things edges (ordered things edges)

-- Where there is an order, nothing is left: a cycle is told exactly where there is none.
abbrev pub AnOrderIsFound : Type 0
AnOrderIsFound = (things : List Thing) (edges : List Edge) (order : List ℕ) → IsOrder things edges order → first_left things (stands (ordered things edges)) ≡ None

-- whether the first has the second as a target
abbrev pub has_target : List Edge → ℕ → ℕ → Bool
has_target edges p q = list_any (λ e. nat_eq p e.from && nat_eq q e.to) edges

-- each of these has the next as a target, and the last has q
abbrev pub Lead : List Edge → List ℕ → ℕ → Type 0
Lead edges [] q = Unit {0}
Lead edges (p ∷ []) q = has_target edges p q ≡ true
Lead edges (p ∷ r ∷ ps) q = (has_target edges p r ≡ true) × Lead edges (r ∷ ps) q

-- each has the next as a target, and the last the first
abbrev pub IsClosed : List Edge → List ℕ → Type 0
IsClosed edges [] = Unit {0}
IsClosed edges (p ∷ ps) = Lead edges (p ∷ ps) p

-- In what is told as a cycle each has the next as a target, and the last the first.
abbrev pub CycleIsClosed : Type 0
CycleIsClosed = (things : List Thing) (edges : List Edge) (standing : ℕ → Bool) → IsClosed edges (cycle things edges standing)

-- what a thing has as a target is a thing
abbrev pub HasThingsAsTargets : List Thing → List Edge → Type 0
HasThingsAsTargets things edges = (p q : ℕ) → is_thing things p ≡ true → has_target edges p q ≡ true → is_thing things q ≡ true

-- Where something is left, a cycle is told that is not empty.
abbrev pub CycleIsThere : Type 0
CycleIsThere =
    (things : List Thing) (edges : List Edge) → HasThingsAsTargets things edges → (p : ℕ) → first_left things (stands (ordered things edges)) ≡ Some p
    → cycle things edges (stands (ordered things edges)) ≢ []
