-- The nodes that are a group's goal.
use Rattle.std.specs.Prelude.{ℕ, zero, suc, ◌-◌, Bool, not, ◌&&◌, ◌||◌, List, Option, None, Some, Result, fold, is_some, if◌then◌else◌}
use Rattle.std.specs.List.{filter}
use Rattle.std.specs.Result.{result_ok}
use Rattle.cl_base.specs.Limits.{most_nodes}
use Rattle.cl_base.specs.Sets.{has, set_with, count_to}
use Rattle.load_limits.specs.declared.limits.Limit.{Limit}
use Rattle.rg_props.specs.declared.group.Group.{Group}
use Rattle.rg_props.specs.Lookups.{named}
use Rattle.rg_props.specs.Table.{GroupTable}
use Rattle.rg_view.specs.declared.view.GroupView.{GroupView}
use Rattle.placement.specs.declared.placing.Candidate.{Candidate}
use Rattle.placement.specs.declared.score.Score.{Score}
use Rattle.placement.specs.Eligibility.{eligibility}
use Rattle.placement.specs.Resources.{is_stop_failed}
use Rattle.placement.specs.Scores.{is_better}

-- the set of the listed nodes that pass the test
abbrev pub set_of : (ℕ → Bool) → List ℕ → ℕ
set_of test nodes = fold set_with 0 (filter test nodes)

-- A node's score is there where the node is eligible.

-- the nodes of the previous goal that stay: the eligible ones of the Nodelist
unfoldable pub kept : (ℕ → Option Score) → List ℕ → ℕ → ℕ
kept score nodelist previous = set_of (λ n. has previous n && is_some (score n)) nodelist

-- of the best so far and a node behind it in the Nodelist: the node only where it is better
abbrev pub better_of : Option Candidate → ℕ → Option Score → Option Candidate
better_of best n None = best
better_of None n (Some score) = Some (record { node = n; score = score })
better_of (Some best) n (Some score) = if is_better score best.score then Some (record { node = n; score = score }) else Some best

-- a node that is in the set already is passed over
abbrev pub considered : (ℕ → Option Score) → ℕ → Option Candidate → ℕ → Option Candidate
considered score set best n = if has set n then best else better_of best n (score n)

-- the best of the eligible nodes outside the set
unfoldable pub best_of : (ℕ → Option Score) → List ℕ → ℕ → Option Candidate
best_of score nodelist set = fold (considered score set) None nodelist

-- the set and the node
abbrev pub joined_by : ℕ → Option Candidate → ℕ
joined_by set None = set
joined_by set (Some best) = set_with set best.node

-- the set and the best of the eligible nodes left, if there is one
abbrev pub with_best : (ℕ → Option Score) → List ℕ → ℕ → ℕ
with_best score nodelist set = joined_by set (best_of score nodelist set)

-- the set after the best of those left was added so often
abbrev pub added : (ℕ → Option Score) → List ℕ → ℕ → ℕ → ℕ
added score nodelist set zero = set
added score nodelist set (suc k) = with_best score nodelist (added score nodelist set k)

-- up to the number desired
abbrev pub filled : (ℕ → Option Score) → List ℕ → ℕ → ℕ → ℕ
filled score nodelist desired set = added score nodelist set (desired - count_to set most_nodes)

unfoldable pub placed : (ℕ → Option Score) → List ℕ → ℕ → ℕ → ℕ
placed score nodelist desired previous = filled score nodelist desired (kept score nodelist previous)

-- a suspended group stays on the members of the Nodelist where it was
abbrev pub staying : ℕ → List ℕ → ℕ → ℕ
staying members nodelist previous = set_of (λ n. has members n && has previous n) nodelist

abbrev pub goal_in : GroupTable → List Limit → GroupView → List ℕ → ℕ → Option Group → ℕ
goal_in t limits v name previous None = 0
goal_in t limits v name previous (Some g) =
    if not g.managed || not g.wanted then 0
    else if is_stop_failed t v name then previous
    else if g.suspended then staying v.members g.nodelist previous
    else placed (λ n. result_ok (eligibility t limits v name g n)) g.nodelist g.desired previous

-- the goal of the group of this name, where the previous one was this
unfoldable pub goal_by_rule : GroupTable → List Limit → GroupView → List ℕ → ℕ → ℕ
goal_by_rule t limits v name previous = goal_in t limits v name previous (named t.groups name)
