-- What the outcome of an order leaves.
use Rattle.std.specs.Prelude.{ℕ, Bool, false, List, Option, None, Some, ◌==◌, if◌then◌else◌}
use Rattle.cl_base.specs.declared.method.Method.{Method}
use Rattle.cl_base.specs.declared.method.Outcome.{Outcome}
use Rattle.rg_props.specs.declared.group.Resource.{Resource}
use Rattle.rg_props.specs.Lookups.{named}
use Rattle.rg_props.specs.Table.{GroupTable}
use Rattle.rg_view.specs.declared.orders.Outstanding.{Outstanding}
use Rattle.rg_view.specs.declared.states.ResourceAt.{ResourceAt}
use Rattle.rg_view.specs.declared.view.GroupView.{GroupView}
use Rattle.rg_view.specs.Marks.{marks_without}
use Rattle.rg_view.specs.Orders.{order_of, orders_without}
use Rattle.rg_view.specs.States.{state_of, states_with}
use Rattle.ccr_tables.specs.State.{ConfigState}
use Rattle.rgm_member.specs.Outcomes.{is_start_failure, marks_after}
use Rattle.rgm_member.specs.Settings.{charged}
use Rattle.wire.specs.declared.report.Marks.{Marks}
use Rattle.rgm_state.specs.Histories.{with_failure}
use Rattle.rgm_state.specs.Reports.{state_from}
use Rattle.rgm_state.specs.Standing.{has_flag, is_up}

-- the flags and marks of a resource on a node, as its member keeps them
abbrev pub marks_in : ResourceAt → Marks
marks_in s = record { pre = s.pre; run = s.run; mon = s.mon; faulted = s.faulted; stop_failed = s.stop_failed; monitor_failed = s.monitor_failed }

-- A method leaves the flags and marks that it leaves on the member. A clear takes the stop-failed mark away.
abbrev pub state_after : ConfigState → Option Method → Outcome → List ℕ → ℕ → ResourceAt → ResourceAt
state_after c None outcome r n s = record s { stop_failed = false }
state_after c (Some method) outcome r n s = state_from r n (marks_after c r method outcome (marks_in s))

-- the state of the order's resource on its node, after the order ended so
abbrev pub with_outcome : ConfigState → Outstanding → Outcome → GroupView → GroupView
with_outcome c o outcome v =
    record v { resources = states_with v.resources (state_after c o.method outcome o.resource o.node (state_of v.resources o.resource o.node)) }

-- A resource restarts until it has no flag on the node.
abbrev pub without_restart : List ℕ → ℕ → GroupView → GroupView
without_restart r n v = if has_flag (state_of v.resources r n) then v else record v { restarting = marks_without v.restarting r n }

-- A group leaves the node until it is not up there.
abbrev pub without_leaving : GroupTable → List ℕ → ℕ → GroupView → GroupView
without_leaving t g n v = if is_up t v.resources g n then v else record v { leaving = marks_without v.leaving g n }

abbrev pub without_leaving_of : GroupTable → ℕ → GroupView → Option Resource → GroupView
without_leaving_of t n v None = v
without_leaving_of t n v (Some x) = without_leaving t x.group n v

-- what is over once the resource has no flag left on the node
abbrev pub settled : GroupTable → List ℕ → ℕ → GroupView → GroupView
settled t r n v = without_leaving_of t n (without_restart r n v) (named t.resources r)

-- the order was a method to start, and this is a start failure of the resource's group
abbrev pub fails_to_start : ConfigState → List ℕ → Option Method → Outcome → Bool
fails_to_start c r None outcome = false
fails_to_start c r (Some method) outcome = is_start_failure c r method outcome

-- a start failure is charged at this second
abbrev pub with_charge : ConfigState → Outstanding → Outcome → ℕ → GroupView → GroupView
with_charge c o outcome now v =
    if fails_to_start c o.resource o.method outcome then with_failure c.groups o.node now v (charged c o.resource) else v

-- an order ended so, and is outstanding no more
abbrev pub ended : ConfigState → Outstanding → Outcome → ℕ → GroupView → GroupView
ended c o outcome now v =
    with_charge c o outcome now (settled c.groups o.resource o.node (with_outcome c o outcome (record v { outstanding = orders_without v.outstanding o.node })))

-- whether it is the order of this number
abbrev pub is_numbered : ℕ → Option Outstanding → Bool
is_numbered number None = false
is_numbered number (Some o) = o.number == number

-- whether the order of this number is outstanding on the node
abbrev pub is_due : GroupView → ℕ → ℕ → Bool
is_due v n number = is_numbered number (order_of v.outstanding n)

abbrev pub ended_if : ConfigState → ℕ → Outcome → ℕ → GroupView → Option Outstanding → GroupView
ended_if c number outcome now v None = v
ended_if c number outcome now v (Some o) = if o.number == number then ended c o outcome now v else v

-- The node told that the order of this number ended so. Of an order that is not outstanding there nothing changes.
abbrev pub after_done : ConfigState → ℕ → ℕ → Outcome → ℕ → GroupView → GroupView
after_done c n number outcome now v = ended_if c number outcome now v (order_of v.outstanding n)
