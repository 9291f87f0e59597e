-- How an outlook is found and kept: where places may come up it is found for weak targets alone.
use Rattle.std.specs.Prelude.{List, ℕ, [], fold, if◌then◌else◌, Option, Some, None}
use Rattle.load_limits.specs.declared.limits.Limit.{Limit}
use Rattle.rg_props.specs.declared.group.Resource.{Resource}
use Rattle.rg_props.specs.Settings.{has_name}
use Rattle.rg_props.specs.Table.{GroupTable}
use Rattle.rg_view.specs.declared.view.GroupView.{GroupView}
use Rattle.rg_view.specs.Goals.{goal_of}
use Rattle.rt_types.specs.Fields.{TypeFields}
use Rattle.sequencer.specs.declared.direction.Direction.TheVariants.{Down, Up}
use Rattle.sequencer.specs.Fields.{OutlookFields}
use Rattle.sequencer.specs.Outlooks.{with_risings, without_risings}
use Rattle.sequencer.specs.Renewals.{renewed}
use Rattle.sequencer.specs.Shown.{awaited}

-- the goal of the group of the resource
abbrev pub goal_for : GroupView → Option Resource → ℕ
goal_for v None = 0
goal_for v (Some r) = goal_of v.goals r.group

-- those of a resource, where it is one of these
abbrev pub with_risings_of : GroupTable → List (List ℕ × TypeFields) → List Limit → GroupView → List (List ℕ) → OutlookFields → List ℕ → OutlookFields
with_risings_of t types limits v names o name = if has_name name names then with_risings t types limits v o name else o

abbrev pub risen : GroupTable → List (List ℕ × TypeFields) → List Limit → GroupView → List (List ℕ) → OutlookFields → OutlookFields
risen t types limits v order o = fold (with_risings_of t types limits v (awaited t)) o order

-- as it is found
abbrev pub kept_outlook : GroupTable → List (List ℕ × TypeFields) → List Limit → GroupView → List (List ℕ) → OutlookFields
kept_outlook t types limits v order = risen t types limits v order (without_risings t v order)

-- as it is brought up to date, after something changed of the resource of this name
abbrev pub with_going_renewed : GroupTable → GroupView → List (List ℕ) → List ℕ → OutlookFields → OutlookFields
with_going_renewed t v order name o = record {
  members = o.members;
  for_down = renewed Down t v o.members order name o.for_down;
  for_up = renewed Up t v o.members order name o.for_up;
  rising = [];
}

abbrev pub outlook_renewed : GroupTable → List (List ℕ × TypeFields) → List Limit → GroupView → List (List ℕ) → List ℕ → OutlookFields → OutlookFields
outlook_renewed t types limits v order name o = risen t types limits v order (with_going_renewed t v order name o)
