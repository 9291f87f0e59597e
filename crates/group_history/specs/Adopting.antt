-- The `adopt` lines of a start: after its base they tell what the president has of the maps of the members, and nothing else.
use Rattle.std.specs.Prelude.{◌≡◌, ℕ, suc, ◌||◌, Bool, if◌then◌else◌, List, [], ◌∷◌, Option, Some, None, slice_get}
use Rattle.std.specs.List.{flat_map}
use Rattle.std.specs.Option.{option_and_then}
use Rattle.status_report.specs.declared.start_entry.AdoptedFlags.{AdoptedFlags}
use Rattle.wire.specs.declared.report.Marks.{Marks}
use Rattle.wire.specs.declared.report.Report.{Report}
use Rattle.wire.specs.declared.report.ResourceReport.{ResourceReport}
use Rattle.history.specs.Moment.{Moment}
use Rattle.history.specs.Trace.{adopt}
use Rattle.history.specs.Order.{Always}
use Rattle.history.specs.Starts.{Start, completed}
use Rattle.group_history.specs.Setting.{Groups}
use Rattle.group_history.specs.Reports.{reports_of}

-- what an `adopt` line tells
pub record Adopted : Type 0 where
  pub epoch : ℕ
  pub node : ℕ
  pub resource : List ℕ
  pub flags : AdoptedFlags

-- the failure of a MONITOR_START has no letter
abbrev pub letters_of : Marks → AdoptedFlags
letters_of m = record { pre = m.pre; run = m.run; mon = m.mon; faulted = m.faulted; stop_failed = m.stop_failed }

abbrev pub has_letter : AdoptedFlags → Bool
has_letter f = f.pre || f.run || f.mon || f.faulted || f.stop_failed

-- no line where no letter is set
abbrev pub line_for : ℕ → ℕ → ResourceReport → List Adopted
line_for e n x = if has_letter (letters_of x.marks) then record { epoch = e; node = n; resource = x.resource; flags = letters_of x.marks } ∷ [] else []

abbrev pub lines_for : ℕ → ℕ × Report → List Adopted
lines_for e told = flat_map (line_for e told.0) told.1.resources

-- the lines of e in order: nodes ascending, and of each its resources in order of creation
abbrev pub adopt_lines : Groups → ℕ → List Moment → List Adopted
adopt_lines S e before = flat_map (lines_for e) (reports_of S e before)

-- ---- where they stand

abbrev pub adopt_line : Moment → Option Adopted
adopt_line (adopt e n r flags) = Some (record { epoch = e; node = n; resource = r; flags = flags })
adopt_line _ = None

-- how many `adopt` lines stand last, and what is before them
abbrev pub adopts_last : List Moment → ℕ
adopts_last (adopt e n r flags ∷ before) = suc (adopts_last before)
adopts_last _ = 0

abbrev pub before_adopts : List Moment → List Moment
before_adopts (adopt e n r flags ∷ before) = before_adopts before
before_adopts moments = moments

-- the line that is to come next
abbrev pub adopt_due : Groups → List Moment → Option Adopted
adopt_due S moments =
    option_and_then (λ (s : Start). slice_get (adopt_lines S s.epoch (before_adopts moments)) (adopts_last moments)) (completed (before_adopts moments))

abbrev pub AdoptLines : Groups → List Moment → Type 0
AdoptLines S moments = Always (λ before x. adopt_line x ≡ adopt_due S before) moments
