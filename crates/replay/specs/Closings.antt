-- What closing a run comes to.
use Rattle.std.specs.Prelude.{◌≡◌, ℕ, List, Option}
use Rattle.std.specs.Io.KnownBytes.{Appends}
use Rattle.cl_io.specs.Causes.{Rose}
use Rattle.replay.specs.declared.status.Status.{Status}
use Rattle.replay.specs.declared.status.Status.TheVariants as status
use Rattle.interpreter.specs.declared.stop.Stop.{Stop}
use Rattle.interpreter.specs.declared.stop.Stop.TheVariants as stop
use Rattle.interpreter.specs.declared.task.Task.{Task}
use Rattle.interpreter.specs.Outcomes.{Outcome, whole_text}
use Rattle.interpreter.specs.Readers.{Stops}
use Rattle.replay.specs.Runs.{Says, Writes}

-- the status of a run that stops so
abbrev pub status_of : Stop → Status
status_of stop.Ended = status.Done
status_of (stop.Refused kind) = status.Refused
status_of stop.TooLarge = status.TooLarge
status_of stop.NoMemory = status.NoMemory

-- the sink failed where the status says so, and else its count stays
abbrev pub SinkCaused : Status → ℕ → ℕ → Type 0
SinkCaused status.WriteFault writes writes' = Rose writes writes'
SinkCaused status.ReadFault writes writes' = ⊥
SinkCaused _ writes writes' = writes' ≡ writes

-- the status and the text that was written tell the outcome that the stop tells
pub record Closed (task : Task) (why : Stop) (lines : ℕ) (text : List ℕ) (result : Status) (held held' : Option (List ℕ)) (writes writes' : ℕ) : Type 0 where
  pub written : List ℕ
  pub appended : Appends held held' written
  pub says : (o : Outcome) → Stops why o lines text → Says result o.ending
  pub writes_text : (o : Outcome) → Stops why o lines text → Writes result (whole_text task o) written
  pub caused : SinkCaused result writes writes'
