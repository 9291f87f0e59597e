-- A tick of the president: which orders go again.
use Rattle.std.specs.Prelude.{ℕ, zero, suc, ◌+◌, nat_le, Bool, false, List, Option, None, Some, map, if◌then◌else◌}
use Rattle.cl_base.specs.Limits.{most_nodes}
use Rattle.cl_base.specs.Sets.{set_with}
use Rattle.sent_orders.specs.Ages.{age_of}

-- an order goes again at this tick after it was sent last
abbrev pub again_at : ℕ
again_at = 4

-- whether an order of this age goes again at the tick that comes
abbrev pub goes_again : Option ℕ → Bool
goes_again None = false
goes_again (Some age) = nat_le again_at (age + 1)

-- whether node n's order does
abbrev pub is_due : List (Option ℕ) → ℕ → Bool
is_due ages n = goes_again (age_of ages n)

-- the set, with node n if its order does
abbrev pub with_due : List (Option ℕ) → ℕ → ℕ → ℕ
with_due ages set n = if is_due ages n then set_with set n else set

-- of the nodes 1 to k, those whose orders do
abbrev pub due_to : List (Option ℕ) → ℕ → ℕ
due_to ages zero = 0
due_to ages (suc k) = with_due ages (due_to ages k) (suc k)

-- all such nodes
abbrev pub due : List (Option ℕ) → ℕ
due ages = due_to ages most_nodes

-- what goes again has just been sent; what does not is older by a tick
abbrev pub age_after : Option ℕ → Option ℕ
age_after None = None
age_after (Some age) = if nat_le again_at (age + 1) then Some 0 else Some (age + 1)

-- all ages after the tick
abbrev pub ticked : List (Option ℕ) → List (Option ℕ)
ticked ages = map age_after ages

-- after so many ticks
abbrev pub ticks : List (Option ℕ) → ℕ → List (Option ℕ)
ticks ages zero = ages
ticks ages (suc k) = ticked (ticks ages k)
