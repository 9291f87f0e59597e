-- What names something else: resources name their group, their type and other resources; groups name other groups and nodes;
-- addresses name groups.
use Rattle.std.specs.Prelude.{ℕ, ◌==◌, Bool, false, ◌&&◌, ◌||◌, List, Option, Some, None, find}
use Rattle.std.specs.List.{list_any}
use Rattle.std.specs.Option.{option_map, is_some}
use Rattle.std.specs.Str.{bytes_eq}
use Rattle.rt_types.specs.Fields.{TypeFields}
use Rattle.rt_types.specs.Types.{type_of}
use Rattle.rg_props.specs.declared.group.Group.{Group}
use Rattle.rg_props.specs.declared.group.Resource.{Resource}
use Rattle.rg_props.specs.Settings.{has_name}
use Rattle.rg_props.specs.Values.{or_else}
use Rattle.ccr_tables.specs.declared.address.Address.{Address}
use Rattle.ccr_tables.specs.declared.search.GroupTest.{GroupTest}
use Rattle.ccr_tables.specs.declared.search.GroupTest.TheVariants as group
use Rattle.ccr_tables.specs.declared.search.ResourceTest.{ResourceTest}
use Rattle.ccr_tables.specs.declared.search.ResourceTest.TheVariants as resource
use Rattle.ccr_tables.specs.State.{ConfigState}

-- the name of the first of these things, in order of creation, that passes the test
abbrev pub first_named : {X : Type 0} → (X → Bool) → List (List ℕ × X) → Option (List ℕ)
first_named test things = option_map (λ p. p.0) (find (λ p. test p.1) things)

abbrev pub is_of_type : List ℕ → Resource → Bool
is_of_type name r = bytes_eq r.resource_type name

abbrev pub is_in_group : List ℕ → Resource → Bool
is_in_group name r = bytes_eq r.group name

-- in any of its three lists
abbrev pub needs_resource : List ℕ → Resource → Bool
needs_resource name r = has_name name r.strong || has_name name r.weak || has_name name r.offline_restart

abbrev pub needs_group : List ℕ → Group → Bool
needs_group name g = has_name name g.dependencies

abbrev pub is_affine_to : List ℕ → Group → Bool
is_affine_to name g = list_any (λ a. bytes_eq a.group name) g.affinities

abbrev pub has_node : ℕ → List ℕ → Bool
has_node n nodes = list_any (λ m. m == n) nodes

abbrev pub lists_node : ℕ → Group → Bool
lists_node n g = has_node n g.nodelist

abbrev pub is_served_by : List ℕ → Address → Bool
is_served_by name a = bytes_eq a.group name

-- a type is used by its first resource
abbrev pub user_of_type : ConfigState → List ℕ → Option (List ℕ)
user_of_type s name = first_named (is_of_type name) s.groups.resources

-- a group is used by its first resource; else by the first group that depends on it; else by the first that declares an
-- affinity to it; else by the first address that it serves
abbrev pub user_of_group : ConfigState → List ℕ → Option (List ℕ)
user_of_group s name =
    or_else (first_named (is_in_group name) s.groups.resources)
    (or_else (first_named (needs_group name) s.groups.groups)
    (or_else (first_named (is_affine_to name) s.groups.groups)
    (first_named (is_served_by name) s.addresses)))

-- a resource is used by the first that depends on it
abbrev pub user_of_resource : ConfigState → List ℕ → Option (List ℕ)
user_of_resource s name = first_named (needs_resource name) s.groups.resources

-- a node is used by the first group that lists it
abbrev pub user_of_node : ConfigState → ℕ → Option (List ℕ)
user_of_node s n = first_named (lists_node n) s.groups.groups

abbrev pub is_failover : Option TypeFields → Bool
is_failover None = false
is_failover (Some t) = t.failover

abbrev pub is_failover_in : ConfigState → List ℕ → Resource → Bool
is_failover_in s name r = is_in_group name r && is_failover (type_of s.types r.resource_type)

-- whether the group has a resource of a failover type
abbrev pub has_failover : ConfigState → List ℕ → Bool
has_failover s name = is_some (first_named (is_failover_in s name) s.groups.resources)

-- what is asked of a resource, and of a group
abbrev pub resource_passes : ConfigState → ResourceTest → Resource → Bool
resource_passes s (resource.OfType name) r = is_of_type name r
resource_passes s (resource.InGroup name) r = is_in_group name r
resource_passes s (resource.FailoverIn name) r = is_failover_in s name r
resource_passes s (resource.Needs name) r = needs_resource name r

abbrev pub group_passes : GroupTest → Group → Bool
group_passes (group.Needs name) g = needs_group name g
group_passes (group.AffineTo name) g = is_affine_to name g
group_passes (group.Lists n) g = lists_node n g
