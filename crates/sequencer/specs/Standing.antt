-- What counts as online and as up while orders are outstanding: a resource with an order counts neither as online nor as offline.
use Rattle.std.specs.Prelude.{ℕ, Bool, false, not, ◌&&◌, ◌||◌, List, Option, None, Some}
use Rattle.std.specs.List.{list_any}
use Rattle.std.specs.Str.{bytes_eq}
use Rattle.placement.specs.Resources.{has_enabled, is_enabled_in}
use Rattle.rg_props.specs.declared.group.Resource.{Resource}
use Rattle.rg_props.specs.Table.{GroupTable}
use Rattle.rg_view.specs.declared.orders.Outstanding.{Outstanding}
use Rattle.rg_view.specs.declared.states.ResourceAt.{ResourceAt}
use Rattle.rg_view.specs.declared.view.GroupView.{GroupView}
use Rattle.rg_view.specs.Orders.{order_of}
use Rattle.rg_view.specs.States.{state_of}

abbrev pub is_order_for : List ℕ → Option Outstanding → Bool
is_order_for r None = false
is_order_for r (Some o) = bytes_eq o.resource r

-- an order for the resource is outstanding on the node
unfoldable pub is_ordered : GroupView → List ℕ → ℕ → Bool
is_ordered v r n = is_order_for r (order_of v.outstanding n)

-- the resource runs on the node, and has no order there
unfoldable pub is_online : GroupView → List ℕ → ℕ → Bool
is_online v r n = (state_of v.resources r n).run && not (is_ordered v r n)

abbrev pub has_flag : ResourceAt → Bool
has_flag s = s.pre || s.run || s.mon

-- the resource has a flag on the node, or an order there
unfoldable pub is_up : GroupView → List ℕ → ℕ → Bool
is_up v r n = has_flag (state_of v.resources r n) || is_ordered v r n

abbrev pub is_up_in : GroupView → List ℕ → ℕ → List ℕ × Resource → Bool
is_up_in v group n e = bytes_eq e.1.group group && is_up v e.0 n

-- a resource of the group is up on the node
unfoldable pub is_group_up : GroupTable → GroupView → List ℕ → ℕ → Bool
is_group_up t v group n = list_any (is_up_in v group n) t.resources

abbrev pub is_missing_in : GroupView → List ℕ → ℕ → List ℕ × Resource → Bool
is_missing_in v group n e = is_enabled_in group e.1 && not (is_online v e.0 n)

unfoldable pub has_missing : GroupTable → GroupView → List ℕ → ℕ → Bool
has_missing t v group n = list_any (is_missing_in v group n) t.resources

-- the group has an enabled resource, and every enabled one is online on the node
unfoldable pub is_group_online : GroupTable → GroupView → List ℕ → ℕ → Bool
is_group_online t v group n = has_enabled t group && not (has_missing t v group n)
