-- How a group stands on a node, and why it is not online there.
use Rattle.std.specs.Prelude.{ℕ, nat_lt, Bool, true, false, not, ◌&&◌, ◌||◌, List, Option, None, Some, is_none, is_some, if◌then◌else◌}
use Rattle.std.specs.List.{find, list_any}
use Rattle.std.specs.Option.{option_map}
use Rattle.std.specs.Result.{result_err}
use Rattle.cl_base.specs.declared.reason.Reason.{Reason}
use Rattle.cl_base.specs.declared.reason.Reason.TheVariants as reason
use Rattle.cl_base.specs.declared.state.GroupState.{GroupState}
use Rattle.cl_base.specs.declared.state.GroupState.TheVariants.{Unmanaged, ErrorStopFailed, OnlineFaulted, Online, PendingOnline, PendingOnlineBlocked, PendingOffline, Offline}
use Rattle.cl_base.specs.Limits.{most_nodes}
use Rattle.cl_base.specs.Sets.{has, count_to}
use Rattle.placement.specs.Eligibility.{eligibility_of}
use Rattle.placement.specs.Resources.{is_of}
use Rattle.rg_props.specs.declared.group.Group.{Group}
use Rattle.rg_props.specs.declared.group.Resource.{Resource}
use Rattle.rg_props.specs.Lookups.{named}
use Rattle.rg_props.specs.Table.{GroupTable}
use Rattle.rg_props.specs.Values.{or_else}
use Rattle.rg_view.specs.declared.orders.Outstanding.{Outstanding}
use Rattle.rg_view.specs.declared.states.ResourceAt.{ResourceAt}
use Rattle.rg_view.specs.declared.view.GroupView.{GroupView}
use Rattle.rg_view.specs.Goals.{goal_of}
use Rattle.rg_view.specs.Orders.{order_of}
use Rattle.rg_view.specs.States.{state_of}
use Rattle.ccr_tables.specs.State.{ConfigState}
use Rattle.sequencer.specs.Allowed.{has_up_call}
use Rattle.rgm_state.specs.Standing.{have_flag, resources_of}
use Rattle.rgm_president.specs.Decisions.{outlook_over}
use Rattle.rgm_president.specs.Sequence.{sequence}

-- Of these resources, which are a group's in order of creation, on the node:

-- one is stop-failed
abbrev pub has_stop_failed : List ResourceAt → List (List ℕ) → ℕ → Bool
has_stop_failed states resources n = list_any (λ r. (state_of states r n).stop_failed) resources

abbrev pub is_faulted : List ResourceAt → ℕ → List ℕ → Bool
is_faulted states n r = (state_of states r n).faulted

-- the first that is faulted
abbrev pub first_faulted : List ResourceAt → List (List ℕ) → ℕ → Option (List ℕ)
first_faulted states resources n = find (is_faulted states n) resources

abbrev pub is_enabled : Option Resource → Bool
is_enabled None = false
is_enabled (Some x) = x.enabled

abbrev pub is_blocked : GroupTable → List ResourceAt → ℕ → List ℕ → Bool
is_blocked t states n r = is_enabled (named t.resources r) && not (state_of states r n).run

-- the first that is enabled and does not run
abbrev pub first_blocked : GroupTable → List ResourceAt → List (List ℕ) → ℕ → Option (List ℕ)
first_blocked t states resources n = find (is_blocked t states n) resources

-- one has an up call that is allowed
abbrev pub can_rise : ConfigState → GroupView → List (List ℕ) → ℕ → Bool
can_rise c v resources n =
    list_any (has_up_call c.groups c.types c.limits v (outlook_over c (sequence c.groups) v) n) resources

-- an order is outstanding for a resource of the group
abbrev pub is_order_of : GroupTable → List ℕ → Option Outstanding → Bool
is_order_of t group None = false
is_order_of t group (Some o) = is_of group (named t.resources o.resource)

-- The state of a group that is to be online on the node.
abbrev pub state_inside : Bool → Bool → Bool → GroupState
state_inside runs faulted moves =
    if runs then (if faulted then OnlineFaulted else Online)
    else if moves then PendingOnline
    else if faulted then OnlineFaulted
    else PendingOnlineBlocked

-- and of one that is not
abbrev pub state_outside : Bool → GroupState
state_outside up = if up then PendingOffline else Offline

abbrev pub state_of_managed : ConfigState → GroupView → List ℕ → List (List ℕ) → ℕ → GroupState
state_of_managed c v group resources n =
    if has_stop_failed v.resources resources n then ErrorStopFailed
    else if has (goal_of v.goals group) n
    then state_inside (is_none (first_blocked c.groups v.resources resources n)) (is_some (first_faulted v.resources resources n))
    (is_order_of c.groups group (order_of v.outstanding n) || can_rise c v resources n)
    else state_outside (have_flag v.resources resources n)

abbrev pub state_in : ConfigState → GroupView → List ℕ → ℕ → Option Group → GroupState
state_in c v group n None = Unmanaged
state_in c v group n (Some g) = if g.managed then state_of_managed c v group (resources_of c.groups group) n else Unmanaged

-- how the group of this name stands on the node
abbrev pub group_state : ConfigState → GroupView → List ℕ → ℕ → GroupState
group_state c v group n = state_in c v group n (named c.groups.groups group)

-- what hinders a group that is to be online there: the first faulted resource, or else the first that waits
abbrev pub hindrance : GroupTable → List ResourceAt → List (List ℕ) → ℕ → Option Reason
hindrance t states resources n =
    or_else (option_map reason.Faulted (first_faulted states resources n)) (option_map reason.Blocked (first_blocked t states resources n))

abbrev pub is_hindered : GroupState → Bool
is_hindered Unmanaged = false
is_hindered ErrorStopFailed = false
is_hindered OnlineFaulted = true
is_hindered Online = false
is_hindered PendingOnline = false
is_hindered PendingOnlineBlocked = true
is_hindered PendingOffline = false
is_hindered Offline = false

abbrev pub reason_inside : ConfigState → GroupView → List ℕ → ℕ → Option Reason
reason_inside c v group n =
    if is_hindered (group_state c v group n) then hindrance c.groups v.resources (resources_of c.groups group) n else None

-- the first reason against the node, where the goal has fewer nodes than desired
abbrev pub reason_outside : ConfigState → GroupView → List ℕ → ℕ → Option Group → Option Reason
reason_outside c v group n None = None
reason_outside c v group n (Some g) =
    if nat_lt (count_to (goal_of v.goals group) most_nodes) g.desired then result_err (eligibility_of c.groups c.limits v group n) else None

-- why the group of this name is not online on the node, as far as that is told
abbrev pub reason_for : ConfigState → GroupView → List ℕ → ℕ → Option Reason
reason_for c v group n =
    if has (goal_of v.goals group) n then reason_inside c v group n
    else reason_outside c v group n (named c.groups.groups group)
