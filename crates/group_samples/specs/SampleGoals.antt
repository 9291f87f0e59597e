-- Goals that pass a limit of a node.
use Rattle.std.specs.Prelude.{ℕ, List, [], ◌∷◌}
use Rattle.ccr_tables.specs.State.{ConfigState}
use Rattle.cl_base.specs.declared.history.FailoverMode.TheVariants as mode
use Rattle.load_limits.specs.declared.limits.Limit.{Limit}
use Rattle.rg_props.specs.declared.group.Group.{Group}
use Rattle.rg_view.specs.declared.view.GroupView.{GroupView}
use Rattle.group_history.specs.KnownMap.{nothing_known}
use Rattle.group_samples.specs.SampleAllowed.{h}
use Rattle.group_samples.specs.SampleConfigurations.{configured_on, g, group_on, single_node, table_on}

abbrev pub l : List ℕ
l = 108 ∷ []

abbrev pub limit : Limit
limit = record { node = 1; name = l; soft = 1; hard = 1 }

-- two groups, which bring so much to their nodes
abbrev pub loading : ℕ → Group
loading n = record (group_on (1 ∷ [])) { factors = (record { name = l; load = n }) ∷ [] }

abbrev pub limited : ℕ → ConfigState
limited n = record (configured_on single_node (1 ∷ []) (record (table_on (1 ∷ []) mode.None) { groups = (g, loading n) ∷ (h, loading n) ∷ [] })) { limits = limit ∷ [] }

-- goals on node 1
abbrev pub wanted : List (List ℕ × ℕ) → GroupView
wanted goals = record nothing_known { members = 1; goals = goals }

abbrev pub one_there : GroupView
one_there = wanted ((g, 1) ∷ (h, 0) ∷ [])

abbrev pub both_there : GroupView
both_there = wanted ((g, 1) ∷ (h, 1) ∷ [])
