-- What it means to take a line, or bytes, and what is told of the outcome then.
use Rattle.std.specs.Prelude.{◌≡◌, ◌≢◌, ℕ, ◌+◌, ◌-◌, ◌*◌, ◌<◌, ◌≤◌, Bool, true, false, List, [], ◌++◌, length, All, Result, Ok, Err, OnOk}
use Rattle.schedule_text.specs.declared.kind.Kind.{Kind}
use Rattle.interpreter.specs.declared.reader.Reader as reader
use Rattle.interpreter.specs.declared.session.Body.{Body}
use Rattle.interpreter.specs.declared.stop.Stop.{Stop}
use Rattle.interpreter.specs.declared.stop.Stop.TheVariants as stop
use Rattle.interpreter.specs.declared.task.Task.{Task}
use Rattle.interpreter.specs.Sessions.{Answers, step}
use Rattle.interpreter.specs.Outcomes.{Ending, Open, Ended, Refused, TooLarge, Outcome, outcome, pieces, after, is_too_large, at_end, end_of}

-- what is held has no newline, and no more than a line; there are not too many lines
abbrev pub IsReader : reader.Reader → Type 0
IsReader r = (r.lines ≤ 200000) × (length r.held.items ≤ 4096) × All (λ b. b ≢ 10) r.held.items × (0 < length r.held.items → r.lines < 200000)

-- how many bytes the reader can take before one is too many
abbrev pub room : reader.Reader → ℕ
room r = (200000 - r.lines) * 4097 + (4096 - length r.held.items)

-- the ending that a stop at this line is
abbrev pub ending_of : Stop → ℕ → Ending
ending_of stop.Ended lines = Ended lines
ending_of (stop.Refused kind) lines = Refused lines kind
ending_of stop.TooLarge lines = TooLarge lines
ending_of stop.NoMemory lines = Open

-- what a stop tells of the outcome: all, but where memory ran out
abbrev pub Stops : Stop → Outcome → ℕ → List ℕ → Type 0
Stops stop.Ended o lines text = o ≡ record { text = text; ending = Ended lines }
Stops (stop.Refused kind) o lines text = o ≡ record { text = text; ending = Refused lines kind }
Stops stop.TooLarge o lines text = o ≡ record { text = text; ending = TooLarge lines }
Stops stop.NoMemory o lines text = Unit {0}

-- the outcome of what the reader holds, when these bytes come
abbrev pub with_more : Task → Bool → reader.Reader → List ℕ → Outcome
with_more task ended r more = after r.text.items (outcome task ended (pieces (r.held.items ++ more)) r.state r.lines)

-- what becomes of a whole line
pub record TakesLine {A : Type 0} (task : Task) (old : reader.Reader) (line : List ℕ) (result : Result A Stop) (new : reader.Reader) : Type 0 where
  pub large : is_too_large old.lines line ≡ true → (result ≡ Err stop.TooLarge) × (new.text.items ≡ old.text.items)
  pub small : is_too_large old.lines line ≡ false → Answers result (step task old.state line) new.state old.text.items new.text.items
  pub lines : new.lines ≡ old.lines + 1
  pub held : OnOk result (new.held.items ≡ [])

-- what is told of an outcome
abbrev pub Tells : {A : Type 0} → Task → Bool → List ℕ → Result A Stop → Outcome → reader.Reader → Type 0
Tells task ended more (Ok done) o new = o ≡ with_more task ended new more
Tells task ended more (Err why) o new = Stops why o new.lines new.text.items

-- bytes were taken, whatever comes behind them
abbrev pub TakesBytes : {A : Type 0} → Task → reader.Reader → List ℕ → Result A Stop → reader.Reader → Type 0
TakesBytes task old bytes result new = (ended : Bool) (more : List ℕ) → Tells task ended more result (with_more task ended old (bytes ++ more)) new

-- what becomes of the last line, behind which the input ends
abbrev pub TakesLast : {A : Type 0} → Task → reader.Reader → Result A Stop → reader.Reader → Type 0
TakesLast task old (Ok done) new =
    (with_more task true old [] ≡ after new.text.items (end_of (at_end task new.state) new.lines)) × (new.lines ≤ 200000)
TakesLast task old (Err why) new = Stops why (with_more task true old []) new.lines new.text.items

-- the end of the input is one of the schedule, or a line is missing
abbrev pub EndsWith : {A : Type 0} → Result A Stop → Result Body Kind → Type 0
EndsWith (Ok done) (Ok body) = Unit {0}
EndsWith (Ok done) (Err kind) = ⊥
EndsWith (Err (stop.Refused kind)) is = is ≡ Err kind
EndsWith (Err stop.NoMemory) is = Unit {0}
EndsWith (Err stop.Ended) is = ⊥
EndsWith (Err stop.TooLarge) is = ⊥
