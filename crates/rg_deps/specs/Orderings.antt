-- The orders of groups and of a group's resources, and the first cycle.
use Rattle.std.specs.Prelude.{ℕ, List, Option, None, Some, Result, Ok, Err}
use Rattle.rg_props.specs.Table.{GroupTable}
use Rattle.rg_deps.specs.declared.error.OrderError.{OrderError}
use Rattle.rg_deps.specs.declared.error.OrderError.TheVariants.{Cycle}
use Rattle.rg_deps.specs.Cycles.{arrangement}
use Rattle.rg_deps.specs.Edges.{group_edges, resource_edges, member_edges}
use Rattle.rg_deps.specs.Things.{group_things, resource_things, member_things, names_at}

-- the names of what was arranged
abbrev pub named_order : {X : Type 0} → List (List ℕ × X) → Result (List ℕ) (List ℕ) → Result (List (List ℕ)) OrderError
named_order things (Ok places) = Ok (names_at things places)
named_order things (Err places) = Err (Cycle (names_at things places))

-- the groups, each after its targets
abbrev pub group_ordering : GroupTable → Result (List (List ℕ)) OrderError
group_ordering t = named_order t.groups (arrangement (group_things t) (group_edges t))

-- the resources of one group, each after those of the group that it depends on
abbrev pub resource_ordering : GroupTable → List ℕ → Result (List (List ℕ)) OrderError
resource_ordering t group = named_order t.resources (arrangement (member_things t group) (member_edges t group))

abbrev pub cycle_in : {X : Type 0} → List (List ℕ × X) → Result (List ℕ) (List ℕ) → Option (List (List ℕ))
cycle_in things (Ok places) = None
cycle_in things (Err places) = Some (names_at things places)

abbrev pub or_else : {X : Type 0} → Option X → Option X → Option X
or_else (Some x) other = Some x
or_else None other = other

-- a cycle of the resources of all groups
abbrev pub resource_cycle : GroupTable → Option (List (List ℕ))
resource_cycle t = cycle_in t.resources (arrangement (resource_things t) (resource_edges t))

-- a cycle of groups, or else of resources
abbrev pub first_cycle : GroupTable → Option (List (List ℕ))
first_cycle t = or_else (cycle_in t.groups (arrangement (group_things t) (group_edges t))) (resource_cycle t)
