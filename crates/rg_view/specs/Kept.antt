-- How orders are kept: each node's key leads to its order, and each order is one node's.
use Rattle.std.specs.Prelude.{◌≡◌, ℕ, ◌+◌, List, Option, None, Some, map, length, slice_index_or, count_by, is_some}
use Rattle.std.specs.Option.{option_and_then}
use Rattle.slab.specs.Slab.{Slab, get, slab_len}
use Rattle.rg_view.specs.declared.orders.Outstanding.{Outstanding}

-- the order of each node
abbrev pub kept : Slab Outstanding → List (Option ℕ) → List (Option Outstanding)
kept orders keys = map (λ key. option_and_then (get orders) key) keys

-- what a node's key leads to: an order of this node
pub record LeadsTo (orders : Slab Outstanding) (key node : ℕ) : Type 0 where
  pub order : Outstanding
  pub there : get orders key ≡ Some order
  pub own : order.node ≡ node

pub record IsKept (orders : Slab Outstanding) (keys : List (Option ℕ)) : Type 0 where
  pub nodes : length keys ≡ 32
  pub leads : (i key : ℕ) → slice_index_or keys i None ≡ Some key → LeadsTo orders key (i + 1)
  pub counted : slab_len orders ≡ count_by is_some (kept orders keys)
