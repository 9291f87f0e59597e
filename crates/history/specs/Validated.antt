-- Validated: whether the record of node n holds device d valid, as the trace shows it.
use Rattle.std.specs.Prelude.{ℕ, ◌==◌, ◌&&◌, ◌||◌, not, Bool, true, false, if◌then◌else◌, List, [], ◌∷◌, Option, Some, None}
use Rattle.std.specs.List.{list_any}
use Rattle.cl_base.specs.Sets.{has}
use Rattle.cl_base.specs.declared.header.Header.{Header}
use Rattle.pgr_device.specs.declared.command.PrCommand.TheVariants as command
use Rattle.pgr_device.specs.declared.command.PrAnswer.TheVariants as answer
use Rattle.status_report.specs.declared.device_entry.DeviceAnswer.TheVariants.{Given}
use Rattle.history.specs.Moment.{Moment}
use Rattle.history.specs.Trace.{device, installed, attempt, saved, stopped, disk_failed}
use Rattle.history.specs.Order.{since}
use Rattle.history.specs.Setting.{coordinator, key_of, paths_of, is_quorum, is_configured}
use Rattle.history.specs.Member.{last_installed, in_collect}
use Rattle.history.specs.Seizing.{Seizing, seizing_of, is_install}

pub data Validity : Type 0 where
  Valid : Validity
  Lapsed : Validity
  -- the node stopped in a save: either
  Open : Validity

abbrev pub is_valid : Validity → Bool
is_valid Valid = true
is_valid Lapsed = false
is_valid Open = false

-- a quorum device of the header is valid at first for each attached node that the header configures
abbrev pub at_first : Bool → Validity
at_first true = Valid
at_first false = Lapsed

-- since its last `installed` line n began an attempt, or promised a greater number: it saves no other promise
abbrev pub moved_on : ℕ → List Moment → Bool
moved_on n [] = false
moved_on n (installed m f ∷ before) = if m == n then false else moved_on n before
moved_on n (attempt f members ∷ before) = (coordinator f == n) || moved_on n before
moved_on n (saved m ∷ before) = ((m == n) && in_collect n before) || moved_on n before
moved_on n (_ ∷ before) = moved_on n before

abbrev pub registers : ℕ → ℕ → Moment → Bool
registers n d (device m x (command.Ignore key) (Given answer.Good)) = (m == n) && (x == d)
registers n d _ = false

-- By joining: a reading of word e validates where n registered by `ignore` after its `installed n e`, and did not move on since.
abbrev pub joins : ℕ → ℕ → ℕ → List Moment → Bool
joins n d e before = (last_installed n before == e) && list_any (registers n d) (since (is_install n e) before) && not (moved_on n before)

-- By an install: of a device that the attempt held, the seizer's own is valid; that of another member stays what it was where the seizer
-- saw the member's key, and lapses where it did not. Of a device that the attempt did not hold nothing changes.
abbrev pub at_install : Header → ℕ → Option Seizing → Validity → Validity
at_install h n None old = old
at_install h n (Some s) old = if s.seizer == n then Valid else (if list_any (λ key. key == key_of h n) s.keys then old else Lapsed)

abbrev pub validity : Header → ℕ → ℕ → List Moment → Validity
validity h n d [] = at_first (is_quorum h d && has (paths_of h d) n && is_configured h n)
validity h n d (device m x (command.Ignore key) reply ∷ before) = if (m == n) && (x == d) then Lapsed else validity h n d before
validity h n d (device m x command.Word (Given (answer.Word w)) ∷ before) =
    if (m == n) && (x == d) && joins n d w before then Valid else validity h n d before
validity h n d (installed m e ∷ before) = if m == n then at_install h n (seizing_of h e d before) (validity h n d before) else validity h n d before
validity h n d (stopped m ∷ before) = if m == n then Open else validity h n d before
validity h n d (disk_failed m ∷ before) = if m == n then Open else validity h n d before
validity h n d (_ ∷ before) = validity h n d before
