-- The law of allowed calls.
use Rattle.std.specs.Prelude.{◌≡◌, ℕ, true, List, None, Some}
use Rattle.cl_base.specs.declared.method.Method.{Method}
use Rattle.cl_base.specs.Sets.{has}
use Rattle.load_limits.specs.declared.limits.Limit.{Limit}
use Rattle.rg_props.specs.declared.group.Group.{Group}
use Rattle.rg_props.specs.Lookups.{named}
use Rattle.rg_props.specs.Table.{GroupTable}
use Rattle.rg_view.specs.declared.view.GroupView.{GroupView}
use Rattle.rg_view.specs.Goals.{goal_of}
use Rattle.rg_view.specs.Orders.{order_of}
use Rattle.rt_types.specs.Fields.{TypeFields}
use Rattle.sequencer.specs.Allowed.{is_allowed}
use Rattle.sequencer.specs.Outlooks.{outlook_of}
use Rattle.sequencer_laws.specs.AllowedCall.{IsAllowedCall}
use Rattle.sequencer_laws.specs.Flags.{FlagMap}
use Rattle.sequencer_laws.specs.Situations.{Situation}

-- the node has no outstanding order
abbrev pub IsIdle : GroupView → ℕ → Type 0
IsIdle v n = order_of v.outstanding n ≡ None

-- each group that is there with a node in its goal is managed
abbrev pub GoalsAreManaged : GroupTable → GroupView → Type 0
GoalsAreManaged t v = (name : List ℕ) (g : Group) (n : ℕ) → named t.groups name ≡ Some g → has (goal_of v.goals name) n ≡ true → g.managed ≡ true

-- the configuration, the members of the view, and this map of flags
abbrev pub situation : GroupTable → List (List ℕ × TypeFields) → List Limit → GroupView → FlagMap → Situation
situation t types limits v map = record { table = t; types = types; limits = limits; members = v.members; flags = map }

-- Where the premise holds of a configuration, a view, a node and a map of flags, each call that is allowed there is an allowed call over the map.
abbrev pub AreSafeWhere : (GroupTable → List (List ℕ × TypeFields) → GroupView → ℕ → FlagMap → Type 0) → Type 0
AreSafeWhere Premise = (t : GroupTable) (types : List (List ℕ × TypeFields)) (limits : List Limit) (v : GroupView) (order : List (List ℕ)) (n : ℕ) (name : List ℕ) (m : Method)
    (map : FlagMap) → Premise t types v n map → is_allowed t types limits v (outlook_of t types limits v order) n name m ≡ true
    → IsAllowedCall (situation t types limits v map) n name m
