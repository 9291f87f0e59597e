-- What a query about resources is answered.
use Rattle.std.specs.Prelude.{ℕ, List, [], map, Option, None, Some, if◌then◌else◌}
use Rattle.std.specs.List.{flat_map}
use Rattle.cl_base.specs.declared.state.ResourceState.{ResourceState}
use Rattle.cl_base.specs.declared.state.ResourceState.TheVariants.{StopFailed, StartFailed, Online, Starting, Offline}
use Rattle.rg_props.specs.declared.group.Group.{Group}
use Rattle.rg_props.specs.declared.group.Resource.{Resource}
use Rattle.rg_props.specs.Lookups.{named}
use Rattle.rg_props.specs.Table.{GroupTable}
use Rattle.rg_view.specs.declared.states.ResourceAt.{ResourceAt}
use Rattle.rg_view.specs.declared.view.GroupView.{GroupView}
use Rattle.rg_view.specs.States.{state_of}
use Rattle.ccr_tables.specs.State.{ConfigState}
use Rattle.status_report.specs.declared.status_entry.StatusEntry.{StatusEntry}
use Rattle.status_report.specs.declared.status_entry.StatusEntry.TheVariants as entry

-- how a resource of these flags and marks stands: the first that fits
abbrev pub resource_state : ResourceAt → ResourceState
resource_state s =
    if s.stop_failed then StopFailed
    else if s.faulted then StartFailed
    else if s.run then Online
    else if s.pre then Starting
    else Offline

-- how the resource stands on the node
abbrev pub line_on : List ResourceAt → List ℕ → ℕ → StatusEntry
line_on states r n = entry.Resource r n (resource_state (state_of states r n))

-- each node of its group's Nodelist, in its order
abbrev pub lines_in : List ResourceAt → List ℕ → Option Group → List StatusEntry
lines_in states r None = []
lines_in states r (Some g) = map (line_on states r) g.nodelist

abbrev pub lines_of : GroupTable → List ResourceAt → List ℕ × Resource → List StatusEntry
lines_of t states r = lines_in states r.0 (named t.groups r.1.group)

-- each resource, in order of creation
abbrev pub resource_lines : ConfigState → GroupView → List StatusEntry
resource_lines c v = flat_map (lines_of c.groups v.resources) c.groups.resources
