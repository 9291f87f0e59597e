-- Down calls: MONITOR_STOP, then STOP, then POSTNET_STOP.
use Rattle.std.specs.Prelude.{ℕ, ◌==◌, Bool, true, false, not, ◌&&◌, ◌||◌, List, Option, None, Some}
use Rattle.std.specs.List.{list_any}
use Rattle.std.specs.Str.{bytes_eq}
use Rattle.cl_base.specs.declared.method.Method.{Method}
use Rattle.cl_base.specs.declared.method.Method.TheVariants.{PrenetStart, Start, MonitorStart, MonitorCheck, MonitorStop, Stop, PostnetStop, Validate, Init, Fini, Boot, Update}
use Rattle.rg_props.specs.declared.group.Group.{Group}
use Rattle.rg_props.specs.declared.group.Resource.{Resource}
use Rattle.rg_props.specs.Affinities.{declares_close}
use Rattle.rg_props.specs.Lookups.{named}
use Rattle.rg_props.specs.Settings.{has_name}
use Rattle.rg_props.specs.Table.{GroupTable}
use Rattle.rg_view.specs.declared.orders.Outstanding.{Outstanding}
use Rattle.rg_view.specs.declared.states.ResourceAt.{ResourceAt}
use Rattle.rg_view.specs.declared.view.GroupView.{GroupView}
use Rattle.rg_view.specs.Marks.{is_marked}
use Rattle.rg_view.specs.Orders.{order_of}
use Rattle.sequencer.specs.Fields.{OutlookFields}
use Rattle.sequencer.specs.Scopes.{any_in_scope}
use Rattle.sequencer.specs.Standing.{is_group_online, is_group_up, is_online, is_up}

-- Dependents: one that is up in scope leaves the resource only where it is online on another node in the dependent's scope.

abbrev pub is_online_elsewhere : GroupView → List ℕ → ℕ → ℕ → Bool
is_online_elsewhere v name n m = not (m == n) && is_online v name m

abbrev pub needs : List ℕ → Resource → Bool
needs name dependent = has_name name dependent.strong || has_name name dependent.offline_restart

abbrev pub is_holding : GroupTable → GroupView → List ℕ → List ℕ → ℕ → List ℕ × Resource → Bool
is_holding t v members name n e =
    needs name e.1 && any_in_scope t members e.1.group n name (is_up v e.0)
    && not (any_in_scope t members e.1.group n name (is_online_elsewhere v name n))

unfoldable pub is_held : GroupTable → GroupView → List ℕ → List ℕ → ℕ → Bool
is_held t v members name n = list_any (is_holding t v members name n) t.resources

-- Groups that are always where this one is: none is up on the node.

abbrev pub follows_up : GroupTable → GroupView → List ℕ → ℕ → List ℕ × Group → Bool
follows_up t v group n e = declares_close e.1.affinities group && is_group_up t v e.0 n

unfoldable pub has_follower : GroupTable → GroupView → List ℕ → ℕ → Bool
has_follower t v group n = list_any (follows_up t v group n) t.groups

-- Starts on the way: while a group that depends on this one has a start outstanding, this one is online on another member.

abbrev pub is_start : Method → Bool
is_start PrenetStart = true
is_start Start = true
is_start MonitorStart = false
is_start MonitorCheck = false
is_start MonitorStop = false
is_start Stop = false
is_start PostnetStop = false
is_start Validate = false
is_start Init = false
is_start Fini = false
is_start Boot = false
is_start Update = false

abbrev pub is_start_order : Option Method → Bool
is_start_order None = false
is_start_order (Some m) = is_start m

abbrev pub depends_on : List ℕ → Option Group → Bool
depends_on group None = false
depends_on group (Some g) = has_name group g.dependencies

abbrev pub is_of_dependent : GroupTable → List ℕ → Option Resource → Bool
is_of_dependent t group None = false
is_of_dependent t group (Some r) = depends_on group (named t.groups r.group)

abbrev pub starts_dependent : GroupTable → List ℕ → Option Outstanding → Bool
starts_dependent t group None = false
starts_dependent t group (Some o) = is_start_order o.method && is_of_dependent t group (named t.resources o.resource)

abbrev pub has_start : GroupTable → GroupView → List ℕ → List ℕ → Bool
has_start t v members group = list_any (λ m. starts_dependent t group (order_of v.outstanding m)) members

abbrev pub is_group_elsewhere : GroupTable → GroupView → List ℕ → List ℕ → ℕ → Bool
is_group_elsewhere t v members group n = list_any (λ m. not (m == n) && is_group_online t v group m) members

unfoldable pub is_awaited : GroupTable → GroupView → List ℕ → List ℕ → ℕ → Bool
is_awaited t v members group n = has_start t v members group && not (is_group_elsewhere t v members group n)

-- MONITOR_STOP: its monitor runs, and it must go down or is not monitored.
abbrev pub may_stop_monitor : OutlookFields → List ℕ → Resource → ℕ → ResourceAt → Bool
may_stop_monitor o name r n s = s.mon && (is_marked o.for_down name n || not r.monitored)

-- STOP: it runs without a monitor and must go down, and nothing rests on it.
abbrev pub may_stop : GroupTable → GroupView → OutlookFields → List ℕ → Resource → ℕ → ResourceAt → Bool
may_stop t v o name r n s =
    s.run && not s.mon && is_marked o.for_down name n
    && not (is_held t v o.members name n) && not (has_follower t v r.group n) && not (is_awaited t v o.members r.group n)

-- POSTNET_STOP: it does not run, what came before START is to be undone, and it must go down.
abbrev pub may_stop_net : OutlookFields → List ℕ → ℕ → ResourceAt → Bool
may_stop_net o name n s = s.pre && not s.run && not s.mon && is_marked o.for_down name n
