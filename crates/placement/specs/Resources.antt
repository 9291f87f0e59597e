-- What is known of a group's resources on the nodes.
use Rattle.std.specs.Prelude.{ℕ, Bool, false, not, ◌&&◌, List, Option, None, Some}
use Rattle.std.specs.List.{list_any}
use Rattle.std.specs.Str.{bytes_eq}
use Rattle.cl_base.specs.Sets.{has}
use Rattle.rg_props.specs.declared.group.Resource.{Resource}
use Rattle.rg_props.specs.Lookups.{named}
use Rattle.rg_props.specs.Table.{GroupTable}
use Rattle.rg_view.specs.declared.states.ResourceAt.{ResourceAt}
use Rattle.rg_view.specs.declared.view.GroupView.{GroupView}
use Rattle.rg_view.specs.States.{state_of}

-- whether it is an enabled resource of the group
abbrev pub is_enabled_in : List ℕ → Resource → Bool
is_enabled_in group r = bytes_eq r.group group && r.enabled

unfoldable pub has_enabled : GroupTable → List ℕ → Bool
has_enabled t group = list_any (λ e. is_enabled_in group e.1) t.resources

-- whether it is an enabled resource of the group that does not run on the node
abbrev pub is_down_on : GroupView → List ℕ → ℕ → List ℕ × Resource → Bool
is_down_on v group n e = is_enabled_in group e.1 && not (state_of v.resources e.0 n).run

unfoldable pub has_down : GroupTable → GroupView → List ℕ → ℕ → Bool
has_down t v group n = list_any (is_down_on v group n) t.resources

-- The group is online on the node: it has an enabled resource, and every enabled one runs there.
abbrev pub is_online : GroupTable → GroupView → List ℕ → ℕ → Bool
is_online t v group n = has_enabled t group && not (has_down t v group n)

-- whether a resource which is there is of the group
abbrev pub is_of : List ℕ → Option Resource → Bool
is_of group None = false
is_of group (Some r) = bytes_eq r.group group

-- whether a resource of the group could not be stopped on a member
abbrev pub is_stop_mark : GroupTable → GroupView → List ℕ → ResourceAt → Bool
is_stop_mark t v group s = s.stop_failed && has v.members s.node && is_of group (named t.resources s.resource)

-- whether any could not, on any member
unfoldable pub is_stop_failed : GroupTable → GroupView → List ℕ → Bool
is_stop_failed t v group = list_any (is_stop_mark t v group) v.resources
