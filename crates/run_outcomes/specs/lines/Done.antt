-- Of the events of which the laws of lines, of writes and of clients say nothing: commands at devices, and writes of nodes that are down.
use Rattle.std.specs.Prelude.{ℕ, ◌≡◌, ◌⊎◌, Bool, true, false, List, [], ◌∷◌, length, Option, None, Some}
use Rattle.std.specs.List.{list_any}
use Rattle.history.specs.Lines.{commands_in, skip_due}
use Rattle.history.specs.Member.{is_up, member_of}
use Rattle.history.specs.Moment.{Moment, Part, Said}
use Rattle.history.specs.Queue.{due_of, queue_is_open, queued_of}
use Rattle.history.specs.Setting.{Setting}
use Rattle.history.specs.Trace.{skipped}
use Rattle.pgr_device.specs.declared.command.PrCommand.{PrCommand}
use Rattle.run_devices.specs.queues.Laws.{DoesDue, is_lost}
use Rattle.schedule_text.specs.declared.event.Event.TheVariants as event
use Rattle.schedule_text.specs.declared.line.Line.TheVariants as line
use Rattle.status_report.specs.declared.schedule_entry.SkipCause.{SkipCause}
use Rattle.status_report.specs.declared.schedule_entry.SkipCause.TheVariants as skip

-- as `DoesNext` of `history`, but for a record that fits no disk
abbrev pub DoesNextOrFails : Bool → ℕ → List (ℕ × PrCommand) → List Moment → Type 0
DoesNextOrFails true n due entries =
    (length (commands_in n entries) ≡ 1) ⊎ ((commands_in n entries ≡ []) × (list_any (is_lost n) entries ≡ true)) ⊎ (entries ≡ skipped skip.NoWork ∷ [])
DoesNextOrFails false n due entries = DoesDue n due entries

-- of a line that is skipped for this cause, or for none
abbrev pub IsDiskLineBy : Bool → ℕ → List (ℕ × PrCommand) → List Moment → Option SkipCause → Type 0
IsDiskLineBy untold n due entries (Some why) = entries ≡ skipped why ∷ []
IsDiskLineBy untold n due entries None = DoesNextOrFails untold n due entries

-- of the entries of a `disk` line
abbrev pub IsDiskLine : Setting → List Moment → ℕ → List Moment → Option SkipCause → Type 0
IsDiskLine S before n entries cause = IsDiskLineBy (queue_is_open S n before) n (due_of (queued_of S n before)) entries cause

-- A `disk` line at a node that is up does what is due, or is skipped; a node that is down is no member, so that its write is skipped. A part of a round is a
-- delivery, a command at a device that is not skipped, or a tick.
abbrev pub IsRest : Setting → List Moment → Moment → List Moment → Type 0
IsRest S before (Said (line.Event (event.Disk n))) entries = is_up n before ≡ true → IsDiskLine S before n entries (skip_due S before (event.Disk n))
IsRest S before (Said (line.Event (event.Write n d value))) entries = is_up n before ≡ false → member_of n before ≡ None
IsRest S before (Part (event.Disk n)) entries = (skip_due S before (event.Disk n) ≡ None) × IsDiskLine S before n entries None
IsRest S before (Part (event.Deliver p)) entries = Unit {0}
IsRest S before (Part (event.Tick n)) entries = Unit {0}
IsRest S before (Part _) entries = ⊥
IsRest S before _ entries = Unit {0}
