-- What an update does to what is known of groups.
use Rattle.std.specs.Prelude.{ℕ, ◌==◌, ◌&&◌, Bool, false, List, Option, None, Some, fold, if◌then◌else◌}
use Rattle.cl_base.specs.Limits.{most_nodes}
use Rattle.cl_base.specs.Numbers.{numbers_to}
use Rattle.cl_base.specs.Sets.{set_with}
use Rattle.rg_props.specs.declared.group.Group.{Group}
use Rattle.rg_props.specs.Lookups.{named}
use Rattle.rg_view.specs.declared.states.ResourceAt.{ResourceAt}
use Rattle.rg_view.specs.declared.view.GroupView.{GroupView}
use Rattle.rg_view.specs.Goals.{goal_of, goals_without}
use Rattle.rg_view.specs.Histories.{histories_of_others}
use Rattle.rg_view.specs.Marks.{marks_of_others}
use Rattle.rg_view.specs.States.{state_of, states_of_others, states_with}
use Rattle.ccr_tables.specs.declared.update.GroupChange.{GroupChange}
use Rattle.ccr_tables.specs.declared.update.GroupChange.TheVariants as group
use Rattle.ccr_tables.specs.declared.update.ResourceChange.{ResourceChange}
use Rattle.ccr_tables.specs.declared.update.ResourceChange.TheVariants as resource
use Rattle.ccr_tables.specs.declared.update.Update.{Update}
use Rattle.ccr_tables.specs.declared.update.Update.TheVariants.{RegisterType, UnregisterType, CreateGroup, DeleteGroup, SetGroup, ChangeGroup, SwitchGroup, CreateResource, DeleteResource, SetResource, ChangeResource, Device, NodeVote, AddNode, RemoveNode, CreateLimit, DeleteLimit, CreateAddress, DeleteAddress, SetWeights}
use Rattle.ccr_tables.specs.State.{ConfigState}
use Rattle.rgm_state.specs.Asks.{first_members, sent_to}

-- the set of these nodes
abbrev pub set_of : List ℕ → ℕ
set_of nodes = fold set_with 0 nodes

-- Wanted online: its evacuations end, and a suspended group with an empty previous goal gets its first members.
abbrev pub online_goal : ℕ → ℕ → Group → ℕ
online_goal members goal g = if g.suspended && (goal == 0) then first_members members g else goal

abbrev pub put_online : List ℕ → GroupView → Option Group → GroupView
put_online name v None = v
put_online name v (Some g) = sent_to name (online_goal v.members (goal_of v.goals name) g) v

abbrev pub group_changed : ConfigState → List ℕ → GroupView → GroupChange → GroupView
group_changed c name v group.Online = put_online name v (named c.groups.groups name)
group_changed c name v group.Manage = v
group_changed c name v group.Unmanage = v
group_changed c name v group.Offline = v
group_changed c name v group.Suspend = v
group_changed c name v group.Resume = v

-- The mark faulted of the resource ends on the node.
abbrev pub unfaulted : List ℕ → List ResourceAt → ℕ → List ResourceAt
unfaulted r states n = if (state_of states r n).faulted then states_with states (record (state_of states r n) { faulted = false }) else states

-- A disabled resource is faulted on no member.
abbrev pub resource_changed : List ℕ → GroupView → ResourceChange → GroupView
resource_changed r v resource.Disable = record v { resources = fold (unfaulted r) v.resources (numbers_to v.members most_nodes) }
resource_changed r v resource.Enable = v
resource_changed r v resource.Monitor = v
resource_changed r v resource.Unmonitor = v

-- nothing is known of a group that is deleted
abbrev pub group_forgotten : List ℕ → GroupView → GroupView
group_forgotten g v = record v {
  groups = histories_of_others v.groups g;
  goals = goals_without v.goals g;
  evacuated = marks_of_others v.evacuated g;
  leaving = marks_of_others v.leaving g;
}

-- nor of a resource
abbrev pub resource_forgotten : List ℕ → GroupView → GroupView
resource_forgotten r v = record v { resources = states_of_others v.resources r; restarting = marks_of_others v.restarting r }

-- What an update does, c being the configuration with it.
abbrev pub after_update : ConfigState → Update → GroupView → GroupView
after_update c (ChangeGroup name change) v = group_changed c name v change
after_update c (SwitchGroup name nodes) v = sent_to name (set_of nodes) v
after_update c (DeleteGroup name) v = group_forgotten name v
after_update c (ChangeResource name change) v = resource_changed name v change
after_update c (DeleteResource name) v = resource_forgotten name v
after_update c (RegisterType name agent methods single failover) v = v
after_update c (UnregisterType name) v = v
after_update c (CreateGroup name nodes) v = v
after_update c (SetGroup name property value) v = v
after_update c (CreateResource name of_group of_type) v = v
after_update c (SetResource name property value) v = v
after_update c (Device d change) v = v
after_update c (NodeVote n vote) v = v
after_update c (AddNode n) v = v
after_update c (RemoveNode n) v = v
after_update c (CreateLimit n limit soft hard) v = v
after_update c (DeleteLimit n limit) v = v
after_update c (CreateAddress name of_group policy) v = v
after_update c (DeleteAddress name) v = v
after_update c (SetWeights name weights) v = v
