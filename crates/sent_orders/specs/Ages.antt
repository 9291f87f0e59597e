-- Orders that were sent and are not answered: for each node, node 1 first, how many ticks ago its order was sent last, or None.
use Rattle.std.specs.Prelude.{◌≡◌, ℕ, ◌-◌, ◌≤◌, ◌<◌, ◌==◌, List, Option, None, Some, replicate, slice_index_or, slice_set, if◌then◌else◌}

-- no node has one
abbrev pub nothing_sent : List (Option ℕ)
nothing_sent = replicate 32 None

-- the age of node n's order
abbrev pub age_of : List (Option ℕ) → ℕ → Option ℕ
age_of ages n = slice_index_or ages (n - 1) None

-- an order has just been sent to node n
abbrev pub with_sent : List (Option ℕ) → ℕ → List (Option ℕ)
with_sent ages n = slice_set ages (n - 1) (Some 0)

-- node n's order is answered
abbrev pub with_ended : List (Option ℕ) → ℕ → List (Option ℕ)
with_ended ages n = slice_set ages (n - 1) None

-- The ages afterwards: node n's order has this one, each other node's the one that it had.
abbrev pub AgesAfter : List (Option ℕ) → ℕ → Option ℕ → List (Option ℕ) → Type 0
AgesAfter old n found new = (m : ℕ) → 1 ≤ m → age_of new m ≡ (if n == m then found else age_of old m)

-- an order that was sent longer ago went again since
abbrev pub IsYoung : Option ℕ → Type 0
IsYoung None = Unit {0}
IsYoung (Some age) = age < 4
