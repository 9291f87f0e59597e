-- What a query about groups is answered.
use Rattle.std.specs.Prelude.{ℕ, List, [], ◌∷◌, Option, None, Some}
use Rattle.std.specs.List.{flat_map}
use Rattle.cl_base.specs.declared.reason.Reason.{Reason}
use Rattle.rg_props.specs.declared.group.Group.{Group}
use Rattle.rg_view.specs.declared.view.GroupView.{GroupView}
use Rattle.ccr_tables.specs.State.{ConfigState}
use Rattle.rgm_president.specs.Status.{group_state, reason_for}
use Rattle.status_report.specs.declared.status_entry.StatusEntry.{StatusEntry}
use Rattle.status_report.specs.declared.status_entry.StatusEntry.TheVariants as entry

-- the reason why a group is not online on a node, where one is told
abbrev pub why_line : List ℕ → ℕ → Option Reason → List StatusEntry
why_line group n None = []
why_line group n (Some reason) = entry.Why group n reason ∷ []

-- how the group stands on the node, and then why
abbrev pub lines_on : ConfigState → GroupView → List ℕ → ℕ → List StatusEntry
lines_on c v group n = entry.Group group n (group_state c v group n) ∷ why_line group n (reason_for c v group n)

-- a group: each node of its Nodelist, in its order
abbrev pub lines_of : ConfigState → GroupView → List ℕ × Group → List StatusEntry
lines_of c v g = flat_map (lines_on c v g.0) g.1.nodelist

-- each group, in order of creation
abbrev pub group_lines : ConfigState → GroupView → List StatusEntry
group_lines c v = flat_map (lines_of c v) c.groups.groups
