-- Which maps of flags a president's view may stand for.
use Rattle.std.specs.Prelude.{◌≡◌, ◌⊎◌, ℕ, Bool, true, false, List, Option, None, Some, if◌then◌else◌}
use Rattle.std.specs.Str.{bytes_eq}
use Rattle.cl_base.specs.declared.method.Method.{Method}
use Rattle.cl_base.specs.declared.method.Method.TheVariants.{PostnetStop}
use Rattle.cl_base.specs.Sets.{has}
use Rattle.rg_props.specs.declared.group.Resource.{Resource}
use Rattle.rg_props.specs.Lookups.{named}
use Rattle.rg_props.specs.Table.{GroupTable}
use Rattle.rg_view.specs.declared.orders.Outstanding.{Outstanding}
use Rattle.rg_view.specs.declared.states.ResourceAt.{ResourceAt}
use Rattle.rg_view.specs.declared.view.GroupView.{GroupView}
use Rattle.rg_view.specs.Orders.{order_of}
use Rattle.rg_view.specs.States.{state_of}
use Rattle.rt_types.specs.Fields.{TypeFields}
use Rattle.sequencer_laws.specs.Flags.{FlagMap, Flags, after_success}
use Rattle.sequencer_laws.specs.Situations.{has_its}

abbrev pub flags_of : ResourceAt → Flags
flags_of s = record { pre = s.pre; run = s.run; mon = s.mon }

-- the flags that the view has
abbrev pub seen : GroupView → FlagMap
seen v name n = flags_of (state_of v.resources name n)

-- whether the type of a resource which is there has POSTNET_STOP
abbrev pub has_postnet : List (List ℕ × TypeFields) → Option Resource → Bool
has_postnet types None = false
has_postnet types (Some r) = has_its types r PostnetStop

-- what a method leaves; an order without one clears marks alone
abbrev pub left_by : Bool → Option Method → Flags → Flags
left_by postnet None f = f
left_by postnet (Some m) f = after_success postnet m f

-- what the order leaves of the flags of the resource of this name, where it is for that one and succeeds
abbrev pub after_order : GroupTable → List (List ℕ × TypeFields) → List ℕ → Option Outstanding → Flags → Flags
after_order t types name None f = f
after_order t types name (Some o) f = if bytes_eq o.resource name then left_by (has_postnet types (named t.resources name)) o.method f else f

-- the flags once each outstanding order has succeeded
abbrev pub then_seen : GroupTable → List (List ℕ × TypeFields) → GroupView → FlagMap
then_seen t types v name n = after_order t types name (order_of v.outstanding n) (seen v name n)

-- Of each resource on each member the map has the flags of the view, or those that its outstanding order leaves.
abbrev pub MayStandFor : GroupTable → List (List ℕ × TypeFields) → GroupView → FlagMap → Type 0
MayStandFor t types v map = (name : List ℕ) (n : ℕ) → has v.members n ≡ true → (map name n ≡ seen v name n) ⊎ (map name n ≡ then_seen t types v name n)
