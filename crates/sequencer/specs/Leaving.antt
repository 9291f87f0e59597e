-- Why a resource must go down on a node. A place is a resource and a node; the places that are known to go down are those of targets, which stand before in the order.
use Rattle.std.specs.Prelude.{ℕ, Bool, false, not, ◌&&◌, ◌||◌, List, [], Option, None, Some, fold, if◌then◌else◌}
use Rattle.std.specs.List.{list_any}
use Rattle.std.specs.Str.{bytes_eq}
use Rattle.cl_base.specs.Sets.{has}
use Rattle.rg_props.specs.declared.affinity.Affine.{Affine}
use Rattle.rg_props.specs.declared.group.Group.{Group}
use Rattle.rg_props.specs.declared.group.Resource.{Resource}
use Rattle.rg_props.specs.Affinities.{is_close}
use Rattle.rg_props.specs.Lookups.{named}
use Rattle.rg_props.specs.Table.{GroupTable}
use Rattle.rg_view.specs.declared.name_at.NameAt.{NameAt}
use Rattle.rg_view.specs.declared.view.GroupView.{GroupView}
use Rattle.rg_view.specs.Goals.{goal_of}
use Rattle.rg_view.specs.Marks.{is_marked, marks_with}
use Rattle.rg_view.specs.States.{state_of}
use Rattle.sequencer.specs.declared.direction.Direction.{Direction}
use Rattle.sequencer.specs.declared.direction.Direction.TheVariants.{Down, Up}
use Rattle.sequencer.specs.Scopes.{any_in_scope}
use Rattle.sequencer.specs.Standing.{has_flag, is_online, is_ordered}

-- 1: the node is outside the group's goal
abbrev pub is_outside : GroupView → Resource → ℕ → Bool
is_outside v r n = not (has (goal_of v.goals r.group) n)

-- 4: a strong target has no place in scope that counts as online and stays. A place with an order counts as online where a down call is tested, and
-- is left out where an up call is.
abbrev pub counts_online : Direction → GroupView → List ℕ → ℕ → Bool
counts_online Down v target m = is_online v target m || is_ordered v target m
counts_online Up v target m = is_online v target m

abbrev pub stays : Direction → GroupView → List NameAt → List ℕ → ℕ → Bool
stays d v going target m = counts_online d v target m && not (is_marked going target m)

abbrev pub is_lost : Direction → GroupTable → GroupView → List ℕ → List NameAt → List ℕ → ℕ → List ℕ → Bool
is_lost d t v members going group n target = not (any_in_scope t members group n target (stays d v going target))

unfoldable pub has_lost : Direction → GroupTable → GroupView → List ℕ → List NameAt → Resource → ℕ → Bool
has_lost d t v members going r n =
    list_any (is_lost d t v members going r.group n) r.strong || list_any (is_lost d t v members going r.group n) r.offline_restart

-- 5: a place in scope of an offline-restart target must go down
abbrev pub is_shaken : GroupTable → List ℕ → List NameAt → List ℕ → ℕ → List ℕ → Bool
is_shaken t members going group n target = any_in_scope t members group n target (is_marked going target)

unfoldable pub has_shaken : GroupTable → List ℕ → List NameAt → Resource → ℕ → Bool
has_shaken t members going r n = list_any (is_shaken t members going r.group n) r.offline_restart

-- 6: the group is always where another is that has a resource which must go down on the node
abbrev pub goes_in : List NameAt → List ℕ → ℕ → List ℕ × Resource → Bool
goes_in going group n e = bytes_eq e.1.group group && is_marked going e.0 n

unfoldable pub has_going : GroupTable → List NameAt → List ℕ → ℕ → Bool
has_going t going group n = list_any (goes_in going group n) t.resources

abbrev pub is_drawn : GroupTable → List NameAt → ℕ → Affine → Bool
is_drawn t going n a = is_close a.affinity && has_going t going a.group n

abbrev pub draws : GroupTable → List NameAt → ℕ → Option Group → Bool
draws t going n None = false
draws t going n (Some g) = list_any (is_drawn t going n) g.affinities

unfoldable pub follows : GroupTable → List NameAt → Resource → ℕ → Bool
follows t going r n = draws t going n (named t.groups r.group)

-- One of the six holds: outside the goal, disabled, restarting, a strong target lost, an offline-restart target going, a group it follows going.
unfoldable pub has_reason : Direction → GroupTable → GroupView → List ℕ → List NameAt → List ℕ → Resource → ℕ → Bool
has_reason d t v members going name r n =
    is_outside v r n || not r.enabled || is_marked v.restarting name n
    || has_lost d t v members going r n || has_shaken t members going r n || follows t going r n

-- It must go down where it has a flag and one of the six holds.
abbrev pub must_go : Direction → GroupTable → GroupView → List ℕ → List NameAt → List ℕ → Resource → ℕ → Bool
must_go d t v members going name r n = has_flag (state_of v.resources name n) && has_reason d t v members going name r n

-- the places known so far and that on node n, where the resource must go down there
abbrev pub with_place : Direction → GroupTable → GroupView → List ℕ → List ℕ → Resource → List NameAt → ℕ → List NameAt
with_place d t v members name r going n = if must_go d t v members going name r n then marks_with going name n else going

-- those of a resource on each member
abbrev pub with_places : Direction → GroupTable → GroupView → List ℕ → List NameAt → List ℕ → Option Resource → List NameAt
with_places d t v members going name None = going
with_places d t v members going name (Some r) = fold (with_place d t v members name r) going members

abbrev pub with_resource : Direction → GroupTable → GroupView → List ℕ → List NameAt → List ℕ → List NameAt
with_resource d t v members going name = with_places d t v members going name (named t.resources name)

-- the places that must go down, resource by resource in the order of targets
unfoldable pub going_of : Direction → GroupTable → GroupView → List ℕ → List (List ℕ) → List NameAt
going_of d t v members order = fold (with_resource d t v members) [] order
