-- What is left at the end of the input, and before it.
use Rattle.std.proofs.Common.{◌≡◌, ℕ, ◌+◌, ◌==◌, Bool, true, false, List, [], ◌∷◌, ◌++◌, length, Result, Ok, Err, OnOk, refl, sym, ap, subst, ◌∙◌, append-nil}
use Rattle.std.proofs.lemmas.List.Splits.{slice_split_none}
use Rattle.schedule_text.specs.declared.kind.Kind.{Kind}
use Rattle.interpreter.specs.declared.stop.Stop.{Stop}
use Rattle.interpreter.specs.declared.stop.Stop.TheVariants as stop
use Rattle.interpreter.specs.declared.reader.Reader as reader
use Rattle.interpreter.specs.declared.session.Body.{Body}
use Rattle.interpreter.specs.declared.task.Task.{Task}
use Rattle.interpreter.specs.Sessions.{step}
use Rattle.interpreter.specs.Outcomes.{Open, Ended, Refused, Outcome, outcome, pieces, after, silent, onward, at_end, end_of, is_too_large}
use Rattle.interpreter.specs.Readers.{IsReader, TakesLine, TakesLast, EndsWith, Stops, with_more}
use Rattle.interpreter.proofs.Bytes.{after_silent, answered, stopped, plain_tests, not_large, some_bytes}

-- what is held is one piece
one_piece : (now : reader.Reader) → IsReader now → pieces (now.held.items ++ []) ≡ now.held.items ∷ []
one_piece now whole = ap (λ (xs : List ℕ). pieces xs) (append-nil now.held.items) ∙ slice_split_none (λ b. b == 10) now.held.items (plain_tests now.held.items whole.2)

-- and more is wanted behind it
waits : (task : Task) (now : reader.Reader) → IsReader now → (none : Bool) → (length now.held.items == 0) ≡ none → outcome task false (now.held.items ∷ []) now.state now.lines ≡ silent Open
waits task now whole true is = rw is refl
waits task now whole false is = rw (is, not_large now.lines now.held.items (whole.3 (some_bytes now.held.items is)) whole.1) refl

pub is_open : (task : Task) (now : reader.Reader) → IsReader now → with_more task false now [] ≡ record { text = now.text.items; ending = Open }
is_open task now whole =
    let is : outcome task false (pieces (now.held.items ++ [])) now.state now.lines ≡ silent Open =
    ap (λ (parts : List (List ℕ)). outcome task false parts now.state now.lines) (one_piece now whole) ∙ waits task now whole (length now.held.items == 0) refl in
    ap (λ (o : Outcome). after now.text.items o) is ∙ after_silent now.text.items Open

-- the end of the input behind a whole line
pub last_empty : (A : Type 0) (done : A) (task : Task) (now : reader.Reader) → IsReader now → (length now.held.items == 0) ≡ true → TakesLast {A = A} task now (Ok done) now
last_empty A done task now whole none =
    let is : outcome task true (pieces (now.held.items ++ [])) now.state now.lines ≡ end_of (at_end task now.state) now.lines =
    ap (λ (parts : List (List ℕ)). outcome task true parts now.state now.lines) (one_piece now whole) ∙ rw none refl in
    (ap (λ (o : Outcome). after now.text.items o) is, whole.0)

-- the last line, which no newline ends
last_line_is : (task : Task) (old : reader.Reader) → IsReader old → (length old.held.items == 0) ≡ false
    → with_more task true old [] ≡ after old.text.items (onward (step task old.state old.held.items) old.lines (λ next. end_of (at_end task next) (old.lines + 1)))
last_line_is task old whole some =
    let is : outcome task true (pieces (old.held.items ++ [])) old.state old.lines ≡ onward (step task old.state old.held.items) old.lines (λ next. end_of (at_end task next) (old.lines + 1)) =
    ap (λ (parts : List (List ℕ)). outcome task true parts old.state old.lines) (one_piece old whole)
    ∙ rw (some, not_large old.lines old.held.items (whole.3 (some_bytes old.held.items some)) whole.1) refl in
    ap (λ (o : Outcome). after old.text.items o) is

pub last_taken : (A : Type 0) (task : Task) (old new : reader.Reader) (result : Result A Stop) → IsReader old → (length old.held.items == 0) ≡ false
    → TakesLine task old (old.held.items ++ []) result new → OnOk result (IsReader new) → TakesLast task old result new
last_taken A task old new result whole some takes few = taken A task old new result whole some
    (subst (λ (line : List ℕ). TakesLine task old line result new) (append-nil old.held.items) takes) few
  where
    small : (old : reader.Reader) → IsReader old → (length old.held.items == 0) ≡ false → is_too_large old.lines old.held.items ≡ false
    small old whole some = not_large old.lines old.held.items (whole.3 (some_bytes old.held.items some)) whole.1

    taken : (A : Type 0) (task : Task) (old new : reader.Reader) (result : Result A Stop) → IsReader old → (length old.held.items == 0) ≡ false
        → TakesLine task old old.held.items result new → OnOk result (IsReader new) → TakesLast task old result new
    taken A task old new (Ok done) whole some takes few = (
      last_line_is task old whole some
          ∙ (answered A done (step task old.state old.held.items) (λ next. end_of (at_end task next) (old.lines + 1)) old.lines new.state old.text.items new.text.items (takes.small (small old whole some))
          ∙ ap (λ n. after new.text.items (end_of (at_end task new.state) n)) (sym takes.lines)),
      few.0,
    )
    taken A task old new (Err why) whole some takes few =
        subst (λ n. Stops why (with_more task true old []) n new.text.items) (sym takes.lines)
        (subst (λ (o : Outcome). Stops why o (old.lines + 1) new.text.items) (sym (last_line_is task old whole some))
        (stopped A why (step task old.state old.held.items) (λ next. end_of (at_end task next) (old.lines + 1)) old.lines new.state old.text.items new.text.items (takes.small (small old whole some))))

pub ends : (A : Type 0) (done : A) (is : Result Body Kind) (o : Outcome) (text : List ℕ) (lines : ℕ) → EndsWith {A = A} (Ok done) is → o ≡ after text (end_of is lines) → o ≡ record { text = text; ending = Ended lines }
ends A done (Ok body) o text lines h is = is ∙ after_silent text (Ended lines)
ends A done (Err kind) o text lines h is = absurd h

pub ends_missing : (A : Type 0) (why : Stop) (is : Result Body Kind) (o : Outcome) (text : List ℕ) (lines : ℕ) → EndsWith {A = A} (Err why) is → o ≡ after text (end_of is lines)
    → Stops why o (lines + 1) text
ends_missing A (stop.Refused kind) is o text lines h e =
    subst (λ (r : Result Body Kind). o ≡ after text (end_of r lines)) h e ∙ after_silent text (Refused (lines + 1) kind)
ends_missing A stop.NoMemory is o text lines h e = tt
ends_missing A stop.Ended is o text lines h e = absurd h
ends_missing A stop.TooLarge is o text lines h e = absurd h
