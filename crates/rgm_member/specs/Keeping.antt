-- What a member goes on keeping under a configuration.
use Rattle.std.specs.Prelude.{ℕ, false, List, Option, None, Some, is_some, map, filter, if◌then◌else◌}
use Rattle.wire.specs.declared.report.Marks.{Marks}
use Rattle.rg_props.specs.Lookups.{named}
use Rattle.rg_props.specs.declared.group.Resource.{Resource}
use Rattle.ccr_tables.specs.State.{ConfigState}
use Rattle.rgm_member.specs.State.{WorkerState}

-- the entries of what the configuration still has
abbrev pub those_in : {X Y : Type 0} → List (List ℕ × Y) → List (List ℕ × X) → List (List ℕ × X)
those_in things kept = filter (λ e. is_some (named things e.0)) kept

-- a disabled resource is not faulted
abbrev pub marks_kept : Option Resource → Marks → Marks
marks_kept None m = m
marks_kept (Some x) m = if x.enabled then m else record m { faulted = false }

-- Of resources that are deleted nothing is kept, and disabled ones lose the mark faulted.
abbrev pub resources_kept : List (List ℕ × Resource) → List (List ℕ × Marks) → List (List ℕ × Marks)
resources_kept things resources = map (λ e. (e.0, marks_kept (named things e.0) e.1)) (those_in things resources)

abbrev pub kept_under : ConfigState → WorkerState → WorkerState
kept_under c w = record w {
  resources = resources_kept c.groups.resources w.resources;
  groups = those_in c.groups.groups w.groups;
  restarts = those_in c.groups.resources w.restarts;
}
