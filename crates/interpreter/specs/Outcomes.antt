-- What the bytes that were taken from the source come to: the text that their lines write, and how
-- the reading of them ends.
use Rattle.std.specs.Prelude.{ℕ, ◌+◌, ◌==◌, nat_lt, nat_le, Bool, ◌||◌, if◌then◌else◌, List, [], ◌∷◌, ◌++◌, length, Result, Ok, Err, codes}
use Rattle.std.specs.List.{slice_split}
use Rattle.std.specs.Fmt.{decimal}
use Rattle.agents.specs.Calls.{AgentState}
use Rattle.schedule_text.specs.declared.kind.Kind.{Kind}
use Rattle.schedule_text.specs.declared.kind.Kind.TheVariants as kind
use Rattle.schedule_text.specs.Headers.{head_of}
use Rattle.interpreter.specs.declared.session.State.{State}
use Rattle.interpreter.specs.declared.session.State.TheVariants.{Heading, Reading}
use Rattle.interpreter.specs.declared.session.Body.{Body}
use Rattle.interpreter.specs.declared.task.Task.{Task}
use Rattle.interpreter.specs.declared.task.Task.TheVariants.{Run, Check}
use Rattle.interpreter.specs.Sessions.{Step, Goes, Finishes, Refuses, step, start, body_of}

-- a newline (10) ends a line; the last piece is what no newline ends
abbrev pub pieces : List ℕ → List (List ℕ)
pieces bytes = slice_split (λ b. b == 10) bytes

-- more is wanted; the schedule ended, so many lines were read; a line is refused; a line is too long,
-- or one too many
pub data Ending : Type 0 where
  Open : Ending
  Ended : ℕ → Ending
  Refused : ℕ → Kind → Ending
  TooLarge : ℕ → Ending

pub record Outcome : Type 0 where
  pub text : List ℕ
  pub ending : Ending

abbrev pub silent : Ending → Outcome
silent ending = record { text = []; ending = ending }

-- the text stands before what follows
abbrev pub after : List ℕ → Outcome → Outcome
after text rest = record { text = text ++ rest.text; ending = rest.ending }

-- a line has at most 4,096 bytes, and a schedule at most 200,000 lines
abbrev pub is_too_large : ℕ → List ℕ → Bool
is_too_large read line = nat_le 200000 read || nat_lt 4096 (length line)

-- the input ends here: a header that the task can go on from was read, or the line that is missing is refused
abbrev pub at_end : Task → State → Result Body Kind
at_end task (Heading state agents) = body_of task agents (head_of state)
at_end task (Reading body) = Ok body

abbrev pub end_of : Result Body Kind → ℕ → Outcome
end_of (Ok body) read = silent (Ended read)
end_of (Err kind) read = silent (Refused (read + 1) kind)

-- a line is answered and what follows goes on from there; or it is the last
abbrev pub onward : Step → ℕ → (State → Outcome) → Outcome
onward (Goes state text) read rest = after text (rest state)
onward Finishes read rest = silent (Ended (read + 1))
onward (Refuses kind) read rest = silent (Refused (read + 1) kind)

-- what is left when no newline comes: nothing, a line where the input ended, or too much for a line
abbrev pub left_over : Task → Bool → State → ℕ → List ℕ → Outcome
left_over task ended state read rest =
    if length rest == 0 then (if ended then end_of (at_end task state) read else silent Open)
    else if is_too_large read rest then silent (TooLarge (read + 1))
    else if ended then onward (step task state rest) read (λ next. end_of (at_end task next) (read + 1))
    else silent Open

-- the outcome of these pieces, after so many lines that led to this state; `ended` tells whether the
-- input ends behind them
abbrev pub outcome : Task → Bool → List (List ℕ) → State → ℕ → Outcome
outcome task ended [] state read = silent Open
outcome task ended (line ∷ lines) state read =
    if length lines == 0 then left_over task ended state read line
    else if is_too_large read line then silent (TooLarge (read + 1))
    else onward (step task state line) read (λ next. outcome task ended lines next (read + 1))

-- the outcome of these bytes, from the beginning, with these agents
abbrev pub outcome_of : Task → List AgentState → Bool → List ℕ → Outcome
outcome_of task agents ended bytes = outcome task ended (pieces bytes) (start agents) 0

abbrev pub kind_text : Kind → List ℕ
kind_text kind.Header = codes "header"
kind_text kind.Line = codes "line"
kind_text kind.NotBuilt = codes "not-built"
kind_text kind.Number = codes "number"
kind_text kind.Unknown = codes "unknown"

-- `check` tells how many lines it read
abbrev pub read_text : Task → ℕ → List ℕ
read_text Run read = []
read_text Check read = codes "checked " ++ decimal read ++ codes "\n"

-- the closing line
abbrev pub closing : Task → Ending → List ℕ
closing task Open = []
closing task (Ended read) = read_text task read
closing task (Refused line kind) = codes "refused " ++ decimal line ++ codes " " ++ kind_text kind ++ codes "\n"
closing task (TooLarge line) = codes "too-large " ++ decimal line ++ codes "\n"

-- all that is written of an outcome
abbrev pub whole_text : Task → Outcome → List ℕ
whole_text task o = o.text ++ closing task o.ending
