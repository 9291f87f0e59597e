-- The goals of a decision, and the marks that end with them.
use Rattle.std.specs.Prelude.{ℕ, List, [], Option, None, Some, fold, if◌then◌else◌}
use Rattle.cl_base.specs.Limits.{most_nodes}
use Rattle.cl_base.specs.Numbers.{numbers_to}
use Rattle.cl_base.specs.Sets.{has}
use Rattle.load_limits.specs.declared.limits.Limit.{Limit}
use Rattle.placement.specs.Decisions.{decided, with_fixed, with_other}
use Rattle.rg_props.specs.declared.group.Resource.{Resource}
use Rattle.rg_props.specs.Lookups.{named}
use Rattle.rg_props.specs.Table.{GroupTable}
use Rattle.rg_view.specs.declared.states.ResourceAt.{ResourceAt}
use Rattle.rg_view.specs.declared.view.GroupView.{GroupView}
use Rattle.rg_view.specs.Goals.{goal_of, goals_with}
use Rattle.ccr_tables.specs.State.{ConfigState}
use Rattle.rgm_state.specs.Changes.{unfaulted}

-- The present second, and the previous goals of these groups, listed in their order.
abbrev pub with_previous : List (List ℕ × ℕ) → List (List ℕ × ℕ) → List ℕ → List (List ℕ × ℕ)
with_previous previous goals group = goals_with goals group (goal_of previous group)

abbrev pub listed : List (List ℕ × ℕ) → List (List ℕ) → List (List ℕ × ℕ)
listed previous groups = fold (with_previous previous) [] groups

unfoldable pub with_listed : List (List ℕ) → ℕ → GroupView → GroupView
with_listed groups now v = record v { now = now; goals = listed v.goals groups }

-- one goal anew: of a fixed group, and of one that is not
abbrev pub fixed_decided : GroupTable → List Limit → GroupView → List ℕ → GroupView
fixed_decided t limits v group = record v { goals = with_fixed t limits v v.goals group }

abbrev pub other_decided : GroupTable → List Limit → GroupView → List ℕ → GroupView
other_decided t limits v group = record v { goals = with_other t limits v v.goals group }

-- the goals anew, group by group
unfoldable pub with_decided : ConfigState → List (List ℕ) → GroupView → GroupView
with_decided c groups v = record v { goals = decided c.groups c.limits v groups }

-- A resource is not faulted on a node outside its group's goal.
abbrev pub ended_outside : List (List ℕ × ℕ) → List ℕ → List ℕ → List ResourceAt → ℕ → List ResourceAt
ended_outside goals group r states n = if has (goal_of goals group) n then states else unfaulted r states n

abbrev pub ended_of : List (List ℕ × ℕ) → List ℕ → List ℕ → List ResourceAt → Option Resource → List ResourceAt
ended_of goals members r states None = states
ended_of goals members r states (Some x) = fold (ended_outside goals x.group r) states members

abbrev pub ended_for : GroupTable → List (List ℕ × ℕ) → List ℕ → List ResourceAt → List ℕ → List ResourceAt
ended_for t goals members states r = ended_of goals members r states (named t.resources r)

unfoldable pub with_ended : GroupTable → List (List ℕ) → GroupView → GroupView
with_ended t resources v = record v { resources = fold (ended_for t v.goals (numbers_to v.members most_nodes)) v.resources resources }

-- What is known after the goals were decided at this second.
unfoldable pub with_goals : ConfigState → List (List ℕ) → List (List ℕ) → ℕ → GroupView → GroupView
with_goals c groups resources now v = with_ended c.groups resources (with_decided c groups (with_listed groups now v))
