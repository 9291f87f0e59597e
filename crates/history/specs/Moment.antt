-- What happened, newest first: a list of moments. Each line of the schedule is a moment, and so is each entry of the trace; the
-- entries of a line stand after it. A round is made of parts, each of which is a delivery, a node's device command or a tick, and each
-- part is a moment too. A line or a part, with the entries that follow it, is an event. What was before a moment is the tail.
use Rattle.std.specs.Prelude.{List, [], ◌∷◌, Option, Some, None}
use Rattle.schedule_text.specs.declared.line.Line.{Line}
use Rattle.schedule_text.specs.declared.line.Line.TheVariants as line
use Rattle.schedule_text.specs.declared.event.Event.{Event}
use Rattle.status_report.specs.declared.entry.Entry.{Entry}

pub data Moment : Type 0 where
  -- a line of the schedule
  Said : (line : Line) → Moment
  -- a part of the round that is under way
  Part : (event : Event) → Moment
  -- an entry of the trace
  Told : (entry : Entry) → Moment

-- the lines of the schedule, newest first
abbrev pub lines_of : List Moment → List Line
lines_of [] = []
lines_of (Said line ∷ before) = line ∷ lines_of before
lines_of (Part event ∷ before) = lines_of before
lines_of (Told entry ∷ before) = lines_of before

-- the entries of the trace, newest first
abbrev pub entries_of : List Moment → List Entry
entries_of [] = []
entries_of (Said line ∷ before) = entries_of before
entries_of (Part event ∷ before) = entries_of before
entries_of (Told entry ∷ before) = entry ∷ entries_of before

-- what a line or a part does
abbrev pub event_of : Moment → Option Event
event_of (Said (line.Event event)) = Some event
event_of (Said _) = None
event_of (Part event) = Some event
event_of (Told entry) = None
