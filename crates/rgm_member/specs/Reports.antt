-- What a member reports.
use Rattle.std.specs.Prelude.{ℕ, Bool, true, false, ◌||◌, List, [], ◌∷◌, is_some, if◌then◌else◌}
use Rattle.std.specs.List.{flat_map}
use Rattle.wire.specs.declared.report.Marks.{Marks}
use Rattle.wire.specs.declared.report.LastFailures.{LastFailures}
use Rattle.wire.specs.declared.report.LastFailures.TheVariants.{Never, Once, Twice}
use Rattle.wire.specs.declared.report.ResourceReport.{ResourceReport}
use Rattle.wire.specs.declared.report.GroupReport.{GroupReport}
use Rattle.wire.specs.declared.report.Report.{Report}
use Rattle.rg_props.specs.declared.group.Group.{Group}
use Rattle.rg_props.specs.declared.group.Resource.{Resource}
use Rattle.ccr_tables.specs.State.{ConfigState}
use Rattle.rgm_member.specs.declared.past.Past.{Past}
use Rattle.rgm_member.specs.State.{WorkerState, marks_of, past_of}

abbrev pub has_mark : Marks → Bool
has_mark m = m.pre || m.run || m.mon || m.faulted || m.stop_failed || m.monitor_failed

abbrev pub has_failed : LastFailures → Bool
has_failed Never = false
has_failed (Once first) = true
has_failed (Twice first second) = true

abbrev pub has_past : Past → Bool
has_past p = has_failed p.failures || is_some p.moved

-- a resource is reported where it has a flag or a mark
abbrev pub resource_report : List ℕ → Marks → List ResourceReport
resource_report r m = if has_mark m then record { resource = r; marks = m } ∷ [] else []

-- a group is reported where it has a start failure or a move
abbrev pub group_report : List ℕ → Past → List GroupReport
group_report g p = if has_past p then record { group = g; failures = p.failures; moved = p.moved } ∷ [] else []

-- resources and groups of the configuration alone, each in order of creation
abbrev pub resource_reports : List (List ℕ × Marks) → List (List ℕ × Resource) → List ResourceReport
resource_reports resources things = flat_map (λ e. resource_report e.0 (marks_of resources e.0)) things

abbrev pub group_reports : List (List ℕ × Past) → List (List ℕ × Group) → List GroupReport
group_reports groups things = flat_map (λ e. group_report e.0 (past_of groups e.0)) things

abbrev pub report_of : WorkerState → ConfigState → Report
report_of w c = record {
  resources = resource_reports w.resources c.groups.resources;
  groups = group_reports w.groups c.groups.groups;
}
