-- What a member keeps for the resource groups.
use Rattle.std.specs.Prelude.{ℕ, List, [], None, false}
use Rattle.std.specs.Option.{unwrap_or}
use Rattle.std.specs.Str.{bytes_eq}
use Rattle.indexmap.specs.IndexMap.{insert_entry}
use Rattle.cl_base.specs.declared.method.Outcome.{Outcome}
use Rattle.wire.specs.declared.report.Marks.{Marks}
use Rattle.wire.specs.declared.report.LastFailures.TheVariants.{Never}
use Rattle.rg_props.specs.Lookups.{named}
use Rattle.rgm_member.specs.declared.past.Past.{Past}

-- The node; the membership that it is of; the outcome of each order of this membership that was carried out, by its number; the flags
-- and marks of resources here; what is kept of the past of groups here; and the seconds of the restarts of resources here, the last
-- 1,000 of each. A resource that is not listed has no flag and no mark, and a group that is not listed no past.
pub record WorkerState : Type 0 where
  pub me : ℕ
  pub epoch : ℕ
  pub outcomes : List (ℕ × Outcome)
  pub resources : List (List ℕ × Marks)
  pub groups : List (List ℕ × Past)
  pub restarts : List (List ℕ × List ℕ)

-- a member of nothing, of which nothing is known
abbrev pub new_worker : ℕ → WorkerState
new_worker me = record { me = me; epoch = 0; outcomes = []; resources = []; groups = []; restarts = [] }

-- this in the place of what is listed for the name, or at the end
abbrev pub put : {X : Type 0} → List (List ℕ × X) → List ℕ → X → List (List ℕ × X)
put things name x = insert_entry bytes_eq things name x

abbrev pub no_marks : Marks
no_marks = record { pre = false; run = false; mon = false; faulted = false; stop_failed = false; monitor_failed = false }

-- the flags and marks of the resource
abbrev pub marks_of : List (List ℕ × Marks) → List ℕ → Marks
marks_of resources r = unwrap_or (named resources r) no_marks

abbrev pub no_past : Past
no_past = record { failures = Never; moved = None }

-- what is kept of the group's past
abbrev pub past_of : List (List ℕ × Past) → List ℕ → Past
past_of groups g = unwrap_or (named groups g) no_past

-- the seconds of the resource's restarts
abbrev pub restarts_of : List (List ℕ × List ℕ) → List ℕ → List ℕ
restarts_of restarts r = unwrap_or (named restarts r) []
