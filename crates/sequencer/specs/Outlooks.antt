-- What the calls of one decision rest on, found resource by resource in the order of targets.
use Rattle.std.specs.Prelude.{ℕ, List, [], fold, if◌then◌else◌}
use Rattle.cl_base.specs.Limits.{most_nodes}
use Rattle.cl_base.specs.Numbers.{numbers_to}
use Rattle.load_limits.specs.declared.limits.Limit.{Limit}
use Rattle.rg_props.specs.Table.{GroupTable}
use Rattle.rg_view.specs.declared.view.GroupView.{GroupView}
use Rattle.rg_view.specs.Marks.{marks_with}
use Rattle.rt_types.specs.Fields.{TypeFields}
use Rattle.sequencer.specs.declared.direction.Direction.TheVariants.{Down, Up}
use Rattle.sequencer.specs.Allowed.{has_up_call}
use Rattle.sequencer.specs.Fields.{OutlookFields}
use Rattle.sequencer.specs.Leaving.{going_of}

abbrev pub members_of : GroupView → List ℕ
members_of v = numbers_to v.members most_nodes

-- the place on node n, where an up call is allowed there
abbrev pub with_rising : GroupTable → List (List ℕ × TypeFields) → List Limit → GroupView → List ℕ → OutlookFields → ℕ → OutlookFields
with_rising t types limits v name o n = if has_up_call t types limits v o n name then record o { rising = marks_with o.rising name n } else o

abbrev pub with_risings : GroupTable → List (List ℕ × TypeFields) → List Limit → GroupView → OutlookFields → List ℕ → OutlookFields
with_risings t types limits v o name = fold (with_rising t types limits v name) o o.members

abbrev pub without_risings : GroupTable → GroupView → List (List ℕ) → OutlookFields
without_risings t v order = record {
  members = members_of v;
  for_down = going_of Down t v (members_of v) order;
  for_up = going_of Up t v (members_of v) order;
  rising = [];
}

unfoldable pub outlook_of : GroupTable → List (List ℕ × TypeFields) → List Limit → GroupView → List (List ℕ) → OutlookFields
outlook_of t types limits v order = fold (with_risings t types limits v) (without_risings t v order) order
