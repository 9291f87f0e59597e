-- What is known of groups as a membership starts.
use Rattle.std.specs.Prelude.{ℕ, not, ◌&&◌, List, [], fold, if◌then◌else◌}
use Rattle.rg_props.specs.declared.group.Group.{Group}
use Rattle.rg_props.specs.Table.{GroupTable}
use Rattle.rg_view.specs.declared.states.ResourceAt.{ResourceAt}
use Rattle.rg_view.specs.declared.view.GroupView.{GroupView}
use Rattle.rg_view.specs.Goals.{goals_with}
use Rattle.rg_view.specs.Orders.{no_orders}
use Rattle.ccr_tables.specs.State.{ConfigState}
use Rattle.wire.specs.declared.report.Report.{Report}
use Rattle.rgm_state.specs.Reports.{reported_histories, reported_states}
use Rattle.rgm_state.specs.Standing.{nodes_up}

-- A group's previous goal: the members where it is up, or none where it goes back to a preferred node and is not suspended.
abbrev pub first_goal : GroupTable → List ResourceAt → ℕ → List ℕ → Group → ℕ
first_goal t states members name g = if g.failback && not g.suspended then 0 else nodes_up t states members name

abbrev pub with_first_goal : GroupTable → List ResourceAt → ℕ → List (List ℕ × ℕ) → List ℕ × Group → List (List ℕ × ℕ)
with_first_goal t states members goals e = goals_with goals e.0 (first_goal t states members e.0 e.1)

-- that of each group
abbrev pub first_goals : GroupTable → List ResourceAt → ℕ → List (List ℕ × ℕ)
first_goals t states members = fold (with_first_goal t states members) [] t.groups

-- Flags, marks and histories are those reported; nothing is evacuated, leaves, restarts or is outstanding.
abbrev pub adopted : ConfigState → ℕ → List (ℕ × Report) → ℕ → GroupView
adopted c members reports now = record {
  members = members;
  now = now;
  resources = reported_states reports;
  groups = reported_histories reports;
  goals = first_goals c.groups (reported_states reports) members;
  evacuated = [];
  leaving = [];
  restarting = [];
  outstanding = no_orders;
}
