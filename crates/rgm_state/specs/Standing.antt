-- Which groups are up, and where.
use Rattle.std.specs.Prelude.{ℕ, Bool, ◌||◌, List, [], ◌∷◌, Option, None, Some, fold, map, if◌then◌else◌}
use Rattle.std.specs.List.{filter, list_any}
use Rattle.std.specs.Str.{bytes_eq}
use Rattle.cl_base.specs.Limits.{most_nodes}
use Rattle.cl_base.specs.Numbers.{numbers_to}
use Rattle.cl_base.specs.Sets.{set_with}
use Rattle.rg_props.specs.declared.group.Resource.{Resource}
use Rattle.rg_props.specs.Table.{GroupTable}
use Rattle.rg_view.specs.declared.states.ResourceAt.{ResourceAt}
use Rattle.rg_view.specs.States.{state_of}

abbrev pub has_flag : ResourceAt → Bool
has_flag s = s.pre || s.run || s.mon

-- the resources of a group, in order of creation
abbrev pub resources_of : GroupTable → List ℕ → List (List ℕ)
resources_of t group = map (λ e. e.0) (filter (λ e. bytes_eq e.1.group group) t.resources)

-- the name of one resource, where it is the group's
abbrev pub name_in_group : List ℕ → Option (List ℕ × Resource) → List (List ℕ)
name_in_group group None = []
name_in_group group (Some e) = if bytes_eq e.1.group group then e.0 ∷ [] else []

-- one of these resources has a flag on the node
abbrev pub have_flag : List ResourceAt → List (List ℕ) → ℕ → Bool
have_flag states resources n = list_any (λ r. has_flag (state_of states r n)) resources

-- the group is up on the node: one of its resources has a flag there
abbrev pub is_up : GroupTable → List ResourceAt → List ℕ → ℕ → Bool
is_up t states group n = have_flag states (resources_of t group) n

abbrev pub nodes_with_flag : List ResourceAt → List (List ℕ) → List ℕ → ℕ
nodes_with_flag states resources nodes = fold set_with 0 (filter (have_flag states resources) nodes)

-- the members on which it is up
abbrev pub nodes_up : GroupTable → List ResourceAt → ℕ → List ℕ → ℕ
nodes_up t states members group = nodes_with_flag states (resources_of t group) (numbers_to members most_nodes)
