-- Which call comes first on a node.
use Rattle.std.specs.Prelude.{ℕ, List, Option, None, Some, fold, if◌then◌else◌}
use Rattle.cl_base.specs.declared.method.Method.{Method}
use Rattle.cl_base.specs.declared.method.Method.TheVariants.{PrenetStart, Start, MonitorStart, MonitorStop, Stop, PostnetStop}
use Rattle.load_limits.specs.declared.limits.Limit.{Limit}
use Rattle.rg_props.specs.Table.{GroupTable}
use Rattle.rg_props.specs.Values.{or_else}
use Rattle.rg_view.specs.declared.view.GroupView.{GroupView}
use Rattle.rt_types.specs.Fields.{TypeFields}
use Rattle.sequencer.specs.Allowed.{is_allowed}
use Rattle.sequencer.specs.Fields.{OutlookFields}

-- the method of the resource, where it is allowed
abbrev pub call_of : GroupTable → List (List ℕ × TypeFields) → List Limit → GroupView → OutlookFields → ℕ → List ℕ → Method → Option (List ℕ × Method)
call_of t types limits v o n name m = if is_allowed t types limits v o n name m then Some (name, m) else None

abbrev pub down_call : GroupTable → List (List ℕ × TypeFields) → List Limit → GroupView → OutlookFields → ℕ → List ℕ → Option (List ℕ × Method)
down_call t types limits v o n name =
    or_else (call_of t types limits v o n name MonitorStop) (or_else (call_of t types limits v o n name Stop) (call_of t types limits v o n name PostnetStop))

abbrev pub up_call : GroupTable → List (List ℕ × TypeFields) → List Limit → GroupView → OutlookFields → ℕ → List ℕ → Option (List ℕ × Method)
up_call t types limits v o n name =
    or_else (call_of t types limits v o n name PrenetStart) (or_else (call_of t types limits v o n name Start) (call_of t types limits v o n name MonitorStart))

-- of a call found so far and one of the next resource: the later one for going down, the earlier one for coming up
abbrev pub with_down : GroupTable → List (List ℕ × TypeFields) → List Limit → GroupView → OutlookFields → ℕ → Option (List ℕ × Method) → List ℕ → Option (List ℕ × Method)
with_down t types limits v o n found name = or_else (down_call t types limits v o n name) found

abbrev pub with_up : GroupTable → List (List ℕ × TypeFields) → List Limit → GroupView → OutlookFields → ℕ → Option (List ℕ × Method) → List ℕ → Option (List ℕ × Method)
with_up t types limits v o n found name = or_else found (up_call t types limits v o n name)

abbrev pub last_down : GroupTable → List (List ℕ × TypeFields) → List Limit → GroupView → OutlookFields → List (List ℕ) → ℕ → Option (List ℕ × Method)
last_down t types limits v o order n = fold (with_down t types limits v o n) None order

abbrev pub first_up : GroupTable → List (List ℕ × TypeFields) → List Limit → GroupView → OutlookFields → List (List ℕ) → ℕ → Option (List ℕ × Method)
first_up t types limits v o order n = fold (with_up t types limits v o n) None order

-- The first call: down before up; the last resource goes down first, the first one comes up first.
unfoldable pub next_call_of : GroupTable → List (List ℕ × TypeFields) → List Limit → GroupView → OutlookFields → List (List ℕ) → ℕ → Option (List ℕ × Method)
next_call_of t types limits v o order n = or_else (last_down t types limits v o order n) (first_up t types limits v o order n)
