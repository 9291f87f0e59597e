-- A decision: the goals of all groups, one after the other.
use Rattle.std.specs.Prelude.{◌≡◌, ◌⊎◌, ℕ, ◌≤◌, ◌<◌, ◌^◌, Bool, true, List, Option, Some, fold, if◌then◌else◌}
use Rattle.std.specs.List.{All, Contains, flat_map}
use Rattle.std.specs.Map.{keys_of}
use Rattle.cl_base.specs.Sets.{has}
use Rattle.load_limits.specs.declared.limits.Limit.{Limit}
use Rattle.load_limits.specs.Loads.{load}
use Rattle.rg_props.specs.Lookups.{named}
use Rattle.rg_props.specs.Table.{GroupTable}
use Rattle.rg_view.specs.declared.view.GroupView.{GroupView}
use Rattle.rg_view.specs.Goals.{goal_of, goals_with, GoalsAreApart}
use Rattle.placement.specs.Goals.{goal_by_rule}
use Rattle.placement.specs.Loads.{brought, factors_of, is_fixed}

-- the goals with the group's goal set in its place: by the rule, over the goals so far, of which its own is the previous one
abbrev pub with_goal : GroupTable → List Limit → GroupView → List (List ℕ × ℕ) → List ℕ → List (List ℕ × ℕ)
with_goal t limits v goals name = goals_with goals name (goal_by_rule t limits (record v { goals = goals }) name (goal_of goals name))

-- where the group is fixed
abbrev pub with_fixed : GroupTable → List Limit → GroupView → List (List ℕ × ℕ) → List ℕ → List (List ℕ × ℕ)
with_fixed t limits v goals name = if is_fixed t v name then with_goal t limits v goals name else goals

-- where it is not
abbrev pub with_other : GroupTable → List Limit → GroupView → List (List ℕ × ℕ) → List ℕ → List (List ℕ × ℕ)
with_other t limits v goals name = if is_fixed t v name then goals else with_goal t limits v goals name

-- the fixed groups first, then the others in their order
unfoldable pub decided : GroupTable → List Limit → GroupView → List (List ℕ) → List (List ℕ × ℕ)
decided t limits v order = fold (with_other t limits v) (fold (with_fixed t limits v) v.goals order) order

-- each group with its goal on the node and a load of this name is fixed
abbrev pub AreFixed : GroupTable → GroupView → ℕ → List ℕ → List (List ℕ × ℕ) → Type 0
AreFixed t v n limit goals = All (λ e. has e.1 n ≡ true → 0 < load limit (factors_of (named t.groups e.0)) → is_fixed t v e.0 ≡ true) goals

-- After a decision the groups whose goal has the limit's node bring it no more than the hard bound, or those with a load are all fixed.
abbrev pub PlacedWithinLimits : Type 0
PlacedWithinLimits =
    (t : GroupTable) (limits : List Limit) (v : GroupView) (order : List (List ℕ)) → v.members < 2 ^ 32 → GoalsAreApart v.goals → keys_of v.goals ≡ order
    → (l : Limit) → Contains limits l
    → (load l.name (flat_map (brought t l.node) (decided t limits v order)) ≤ l.hard) ⊎ AreFixed t v l.node l.name (decided t limits v order)
