-- In which order groups and resources are gone through: each comes after what it rests on.
use Rattle.std.specs.Prelude.{List, ℕ, [], Result, Ok, Err}
use Rattle.std.specs.List.{flat_map}
use Rattle.rg_deps.specs.declared.error.OrderError.{OrderError}
use Rattle.rg_deps.specs.Orderings.{group_ordering, resource_ordering}
use Rattle.rg_props.specs.Table.{GroupTable}

-- Where there is a cycle there is no order.
abbrev pub in_order : Result (List (List ℕ)) OrderError → List (List ℕ)
in_order (Ok names) = names
in_order (Err e) = []

unfoldable pub groups_in_order : GroupTable → List (List ℕ)
groups_in_order t = in_order (group_ordering t)

unfoldable pub members_in_order : GroupTable → List ℕ → List (List ℕ)
members_in_order t group = in_order (resource_ordering t group)

-- all resources: groups in their order, and each group's resources in theirs
abbrev pub resources_in_order : GroupTable → List (List ℕ) → List (List ℕ)
resources_in_order t groups = flat_map (members_in_order t) groups

abbrev pub sequence : GroupTable → List (List ℕ)
sequence t = resources_in_order t (groups_in_order t)
