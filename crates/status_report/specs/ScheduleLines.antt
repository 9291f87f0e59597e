-- Lines of the schedule that no node answers.
use Rattle.std.specs.Prelude.{ℕ, List, codes, [], ◌∷◌}
use Rattle.std.specs.Fmt.{decimal}
use Rattle.status_report.specs.declared.schedule_entry.SkipCause.{SkipCause}
use Rattle.status_report.specs.declared.schedule_entry.SkipCause.TheVariants.{Up, Down, NoPacket, NoWork, NoMonitor, NoPresident, NoAddress}
use Rattle.status_report.specs.declared.schedule_entry.ScheduleEntry.{ScheduleEntry}
use Rattle.status_report.specs.declared.schedule_entry.ScheduleEntry.TheVariants.{Clock, Queued, Armed, RoundsDone, Skipped}
use Rattle.status_report.specs.Words.{spaced}

abbrev pub skip_text : SkipCause → List ℕ
skip_text Up = codes "up"
skip_text Down = codes "down"
skip_text NoPacket = codes "no-packet"
skip_text NoWork = codes "no-work"
skip_text NoMonitor = codes "no-monitor"
skip_text NoPresident = codes "no-president"
skip_text NoAddress = codes "no-address"

abbrev pub schedule_text : ScheduleEntry → List ℕ
schedule_text (Clock second) = spaced (codes "clock" ∷ decimal second ∷ [])
schedule_text Queued = codes "queued"
schedule_text Armed = codes "armed"
schedule_text RoundsDone = codes "rounds done"
schedule_text (Skipped cause) = spaced (codes "skipped" ∷ skip_text cause ∷ [])
