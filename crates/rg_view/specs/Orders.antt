-- Outstanding orders: for each node, from the first on, the one it is to carry out, if there is one.
use Rattle.std.specs.Prelude.{◌≡◌, ℕ, ◌-◌, ◌≤◌, ◌==◌, List, Option, None, Some, replicate, slice_index_or, slice_set, if◌then◌else◌}
use Rattle.rg_view.specs.declared.orders.Outstanding.{Outstanding}

-- no node has one
abbrev pub no_orders : List (Option Outstanding)
no_orders = replicate 32 None

-- the order of node n
abbrev pub order_of : List (Option Outstanding) → ℕ → Option Outstanding
order_of orders n = slice_index_or orders (n - 1) None

-- with this order for its node
abbrev pub orders_with : List (Option Outstanding) → Outstanding → List (Option Outstanding)
orders_with orders o = slice_set orders (o.node - 1) (Some o)

-- without that of node n
abbrev pub orders_without : List (Option Outstanding) → ℕ → List (Option Outstanding)
orders_without orders n = slice_set orders (n - 1) None

-- The orders afterwards: node n has this one, each other node what it had.
abbrev pub OrdersAfter : List (Option Outstanding) → ℕ → Option Outstanding → List (Option Outstanding) → Type 0
OrdersAfter old n found new = (m : ℕ) → 1 ≤ m → order_of new m ≡ (if n == m then found else order_of old m)
