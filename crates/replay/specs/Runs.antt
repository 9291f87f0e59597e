-- What a call of `run_words` tells of the source and the sink, by its status.
use Rattle.std.specs.Prelude.{◌≡◌, ℕ, ◌≤◌, Bool, true, false, List, ◌++◌, length, Option}
use Rattle.std.specs.Io.{StartsWith}
use Rattle.std.specs.Io.KnownBytes.{Appends, Consumes, IsAtEnd}
use Rattle.cl_io.specs.Causes.{Rose}
use Rattle.agents.specs.Calls.{AgentState}
use Rattle.replay.specs.declared.status.Status.{Status}
use Rattle.replay.specs.declared.status.Status.TheVariants as status
use Rattle.interpreter.specs.declared.task.Task.{Task}
use Rattle.interpreter.specs.declared.task.Task.TheVariants.{Run}
use Rattle.replay.specs.Histories.{TellsHistory}
use Rattle.interpreter.specs.Outcomes.{Ending, Open, Ended, Refused, TooLarge, outcome_of, whole_text}

-- what the status says of an ending
abbrev pub Says : Status → Ending → Type 0
Says status.Done (Ended read) = Unit {0}
Says status.Refused (Refused line kind) = Unit {0}
Says status.TooLarge (TooLarge line) = Unit {0}
Says status.ReadFault Open = Unit {0}
Says status.WriteFault ending = Unit {0}
Says status.NoMemory ending = Unit {0}
Says _ _ = ⊥

-- what the status says of the text written: all of it, or, where the sink failed or memory ran out, its
-- beginning
abbrev pub Writes : Status → List ℕ → List ℕ → Type 0
Writes status.WriteFault whole written = StartsWith whole written
Writes status.NoMemory whole written = StartsWith whole written
Writes _ whole written = written ≡ whole

-- a status of a fault comes only where the count of the source, or of the sink, rose; no other count changes
abbrev pub IsCaused : Status → ℕ → ℕ → ℕ → ℕ → Type 0
IsCaused status.ReadFault reads reads' writes writes' = Rose reads reads' × (writes' ≡ writes)
IsCaused status.WriteFault reads reads' writes writes' = (reads' ≡ reads) × Rose writes writes'
IsCaused _ reads reads' writes writes' = (reads' ≡ reads) × (writes' ≡ writes)

-- Nothing is read behind a line that ends the reading, but what came with it in a piece of at most 16,384 bytes: without
-- the last piece more was wanted.
pub record ReadsNoFurther (task : Task) (agents : List AgentState) (taken : List ℕ) : Type 0 where
  pub before : List ℕ
  pub last : List ℕ
  pub parts : taken ≡ before ++ last
  pub piece : length last ≤ 16384
  pub wanted : (outcome_of task agents false before).ending ≡ Open

-- The bytes taken from the source have an outcome, which the status and the bytes written tell; under `run` its text is a
-- history.
-- `agents` carry out the methods of resource types; `left` is what the source has, where that is known, and `held` what
-- the sink has.
pub record IsRun (task : Task) (agents : List AgentState) (left left' held held' : Option (List ℕ)) (reads reads' writes writes' : ℕ) (result : Status) : Type 0 where
  pub taken : List ℕ
  pub consumed : Consumes left left' taken
  pub no_further : ReadsNoFurther task agents taken
  pub ended : Bool  -- the source gave its end
  pub at_end : ended ≡ true → IsAtEnd left'
  pub says : Says result (outcome_of task agents ended taken).ending
  pub written : List ℕ
  pub appended : Appends held held' written
  pub writes_text : Writes result (whole_text task (outcome_of task agents ended taken)) written
  pub caused : IsCaused result reads reads' writes writes'
  pub history : task ≡ Run → TellsHistory taken agents (outcome_of task agents ended taken).text
