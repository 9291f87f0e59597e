-- Which method of which resource may be called on a node.
use Rattle.std.specs.Prelude.{ℕ, Bool, false, not, ◌&&◌, ◌||◌, List, Option, None, Some}
use Rattle.cl_base.specs.declared.method.Method.{Method}
use Rattle.cl_base.specs.declared.method.Method.TheVariants.{PrenetStart, Start, MonitorStart, MonitorCheck, MonitorStop, Stop, PostnetStop, Validate, Init, Fini, Boot, Update}
use Rattle.cl_base.specs.Methods.{has_method}
use Rattle.cl_base.specs.Sets.{has}
use Rattle.load_limits.specs.declared.limits.Limit.{Limit}
use Rattle.placement.specs.Resources.{is_stop_failed}
use Rattle.rg_props.specs.declared.group.Resource.{Resource}
use Rattle.rg_props.specs.Lookups.{named}
use Rattle.rg_props.specs.Table.{GroupTable}
use Rattle.rg_view.specs.declared.states.ResourceAt.{ResourceAt}
use Rattle.rg_view.specs.declared.view.GroupView.{GroupView}
use Rattle.rg_view.specs.States.{state_of}
use Rattle.rt_types.specs.Fields.{TypeFields}
use Rattle.rt_types.specs.Types.{type_of}
use Rattle.sequencer.specs.Fields.{OutlookFields}
use Rattle.sequencer.specs.Starting.{may_start, may_start_monitor, may_start_net}
use Rattle.sequencer.specs.Stopping.{may_stop, may_stop_monitor, may_stop_net}

-- whether a type which is there has the method
abbrev pub offers : Option TypeFields → Method → Bool
offers None m = false
offers (Some t) m = has_method t.methods m

abbrev pub may_call : GroupTable → List Limit → GroupView → OutlookFields → List ℕ → Resource → ℕ → ResourceAt → Bool → Method → Bool
may_call t limits v o name r n s net MonitorStop = may_stop_monitor o name r n s
may_call t limits v o name r n s net Stop = may_stop t v o name r n s
may_call t limits v o name r n s net PostnetStop = may_stop_net o name n s
may_call t limits v o name r n s net PrenetStart = may_start_net t limits v o name r n s
may_call t limits v o name r n s net Start = may_start t limits v o name r n s net
may_call t limits v o name r n s net MonitorStart = may_start_monitor t v o name r n s
may_call t limits v o name r n s net MonitorCheck = false
may_call t limits v o name r n s net Validate = false
may_call t limits v o name r n s net Init = false
may_call t limits v o name r n s net Fini = false
may_call t limits v o name r n s net Boot = false
may_call t limits v o name r n s net Update = false

-- On a member, and of a group that is stop-failed nowhere; the type has the method.
unfoldable pub is_callable : GroupTable → List (List ℕ × TypeFields) → List Limit → GroupView → OutlookFields → ℕ → List ℕ → Resource → Method → Bool
is_callable t types limits v o n name r m =
    has v.members n && offers (type_of types r.resource_type) m && not (is_stop_failed t v r.group)
    && may_call t limits v o name r n (state_of v.resources name n) (offers (type_of types r.resource_type) PrenetStart) m

abbrev pub is_callable_in : GroupTable → List (List ℕ × TypeFields) → List Limit → GroupView → OutlookFields → ℕ → List ℕ → Method → Option Resource → Bool
is_callable_in t types limits v o n name m None = false
is_callable_in t types limits v o n name m (Some r) = is_callable t types limits v o n name r m

-- The method of the resource of this name may be called on the node.
unfoldable pub is_allowed : GroupTable → List (List ℕ × TypeFields) → List Limit → GroupView → OutlookFields → ℕ → List ℕ → Method → Bool
is_allowed t types limits v o n name m = is_callable_in t types limits v o n name m (named t.resources name)

-- some up call of the resource is allowed on the node
abbrev pub has_up_call : GroupTable → List (List ℕ × TypeFields) → List Limit → GroupView → OutlookFields → ℕ → List ℕ → Bool
has_up_call t types limits v o n name =
    is_allowed t types limits v o n name PrenetStart || is_allowed t types limits v o n name Start || is_allowed t types limits v o n name MonitorStart
