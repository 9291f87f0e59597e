-- What is true of the orders of every table of groups and resources.
use Rattle.std.specs.Prelude.{◌≡◌, ◌≢◌, ℕ, List, [], Some}
use Rattle.rg_props.specs.Table.{GroupTable}
use Rattle.rg_deps.specs.Edges.{group_edges, resource_edges}
use Rattle.rg_deps.specs.Laws.{HasThingsAsTargets}
use Rattle.rg_deps.specs.Orderings.{first_cycle}
use Rattle.rg_deps.specs.Things.{group_things, resource_things}

-- what groups come after are groups that are there, and so it is with resources
pub record TargetsAreThere (t : GroupTable) : Type 0 where
  pub groups : HasThingsAsTargets (group_things t) (group_edges t)
  pub resources : HasThingsAsTargets (resource_things t) (resource_edges t)

-- Whatever a group or a resource comes after is there.
abbrev pub GraphsHaveThingsAsTargets : Type 0
GraphsHaveThingsAsTargets = (t : GroupTable) → TargetsAreThere t

-- A cycle that is told has a name.
abbrev pub ToldCyclesHaveNames : Type 0
ToldCyclesHaveNames = (t : GroupTable) (names : List (List ℕ)) → first_cycle t ≡ Some names → names ≢ []
