-- How far the source was read, piece by piece.
use Rattle.std.specs.Prelude.{◌≡◌, ℕ, Bool, List, ◌++◌, Option}
use Rattle.std.specs.Io.KnownBytes.{Appends, Consumes}
use Rattle.agents.specs.Calls.{AgentState}
use Rattle.interpreter.specs.declared.reader.Reader as reader
use Rattle.interpreter.specs.declared.task.Task.{Task}
use Rattle.interpreter.specs.Outcomes.{outcome_of, after}
use Rattle.interpreter.specs.Readers.{with_more}

pub record ReadsOn (task : Task) (agents : List AgentState) (left left' held held' : Option (List ℕ)) (now : reader.Reader) : Type 0 where
  pub taken : List ℕ
  pub consumed : Consumes left left' taken
  pub written : List ℕ
  pub appended : Appends held held' written
  pub goes_on : (ended : Bool) (more : List ℕ) → outcome_of task agents ended (taken ++ more) ≡ after written (with_more task ended now more)
