-- Reports: what a Ready tells of its sender's map, and what the president of a membership has of the maps of all members as it starts.
use Rattle.std.specs.Prelude.{◌≡◌, ℕ, ◌==◌, ◌&&◌, Bool, if◌then◌else◌, List, [], ◌∷◌, Option, Some, None}
use Rattle.std.specs.List.{flat_map}
use Rattle.wire.specs.declared.message.Body.{Body}
use Rattle.wire.specs.declared.message.Body.TheVariants as body
use Rattle.wire.specs.declared.report.Report.{Report}
use Rattle.history.specs.Moment.{Moment}
use Rattle.history.specs.Names as name
use Rattle.history.specs.Names.{Name, named}
use Rattle.history.specs.Trace.{sent}
use Rattle.history.specs.Order.{Always}
use Rattle.history.specs.Setting.{coordinator, nodes_of}
use Rattle.history.specs.Letters.{Letter, arriving, is_letter, says}
use Rattle.history.specs.Member.{session_of, members_of}
use Rattle.history.specs.Seizing.{is_attempt, is_number, or_else}
use Rattle.group_history.specs.Setting.{Groups}
use Rattle.group_history.specs.OwnMap.{report_of}

abbrev pub report_in : Option Body → Option Report
report_in (Some (body.Ready epoch joined report)) = Some report
report_in _ = None

-- ---- a Ready tells the own map of its sender

abbrev pub ShowsReport : Groups → List Moment → ℕ → List ℕ → Name → Type 0
ShowsReport S before n bytes name.Ready = report_in (says bytes) ≡ Some (report_of S n before)
ShowsReport S before n bytes _ = Unit {0}

abbrev pub IsReport : Groups → List Moment → Moment → Type 0
IsReport S before (sent p n b called bytes) = ShowsReport S before n bytes (named called)
IsReport S before _ = Unit {0}

abbrev pub ReportsTell : Groups → List Moment → Type 0
ReportsTell S moments = Always (IsReport S) moments

-- ---- what the president has

abbrev pub is_ready_of : ℕ → ℕ → Letter → Bool
is_ready_of e m l = is_letter name.Ready m (coordinator e) l && is_number e (session_of m l.before)

abbrev pub report_from : ℕ → ℕ → Option Letter → Option Report
report_from e m None = None
report_from e m (Some l) = if is_ready_of e m l then report_in (says l.bytes) else None

-- the report in the first Ready of e that came from m since the attempt
abbrev pub report_told : ℕ → ℕ → List Moment → Option Report
report_told e m [] = None
report_told e m (x ∷ before) = if is_attempt e x then None else or_else (report_told e m before) (report_from e m (arriving before x))

-- of itself the president has its own map
abbrev pub report_on : Groups → ℕ → List Moment → ℕ → Option Report
report_on S e before m = if m == coordinator e then Some (report_of S m before) else report_told e m before

abbrev pub with_node : ℕ → Option Report → List (ℕ × Report)
with_node m None = []
with_node m (Some report) = (m, report) ∷ []

-- the report of each member of e, ascending
abbrev pub reports_of : Groups → ℕ → List Moment → List (ℕ × Report)
reports_of S e before = flat_map (λ m. with_node m (report_on S e before m)) (nodes_of (members_of e before))
