-- What lines and bytes come to, put one after another.
use Rattle.std.proofs.Common.{◌≡◌, ◌≢◌, ℕ, ◌+◌, ◌==◌, ◌<◌, ◌≤◌, Bool, true, false, if◌then◌else◌, List, [], ◌∷◌, ◌++◌, length, All, slice_index_or, ◌⊎◌, inl, inr, Result, Ok, Err, OnOk, refl, sym, ap, subst, ◌∙◌, arith, length-append, append_assoc, append-nil}
use Rattle.std.specs.List.{onto_first}
use Rattle.std.proofs.lemmas.List.Splits.{slice_split_at, length-slice_split, slice_split-cons_no}
use Rattle.std.proofs.lemmas.List.Elements.{All-tail, All-append}
use Rattle.std.proofs.lemmas.Bool.Decides.{nat_tests}
use Rattle.interpreter.specs.declared.stop.Stop.{Stop}
use Rattle.interpreter.specs.declared.stop.Stop.TheVariants as stop
use Rattle.interpreter.specs.declared.session.State.{State}
use Rattle.interpreter.specs.declared.reader.Reader as reader
use Rattle.interpreter.specs.declared.task.Task.{Task}
use Rattle.interpreter.specs.Sessions.{Step, Goes, Finishes, Refuses, Answers, step}
use Rattle.interpreter.specs.Outcomes.{Ending, TooLarge, Outcome, outcome, pieces, after, silent, onward, is_too_large}
use Rattle.interpreter.specs.Readers.{TakesLine, TakesBytes, Tells, Stops, with_more}

some_pieces : (bytes : List ℕ) → (length (pieces bytes) == 0) ≡ false
some_pieces bytes = rw (length-slice_split (λ b. b == 10) bytes) (grind (arith, nat_tests))

-- a line with its newline is the first piece
pub first_piece : (held line more : List ℕ) → All (λ b. (b == 10) ≡ false) (held ++ line)
    → pieces (held ++ ((line ++ (10 ∷ [])) ++ more)) ≡ (held ++ line) ∷ pieces more
first_piece held line more plain =
    let shape : held ++ ((line ++ (10 ∷ [])) ++ more) ≡ (held ++ line) ++ (10 ∷ more) = simp append_assoc in
    rw shape (slice_split_at (λ b. b == 10) (held ++ line) 10 more plain refl)

-- the outcome when the first line is whole
whole_line : (task : Task) (ended : Bool) (line more : List ℕ) (state : State) (read : ℕ) → outcome task ended (line ∷ pieces more) state read
    ≡ (if is_too_large read line then silent (TooLarge (read + 1)) else onward (step task state line) read (λ next. outcome task ended (pieces more) next (read + 1)))
whole_line task ended line more state read = rw (some_pieces more) refl

pub after_after : (a b : List ℕ) (o : Outcome) → after a (after b o) ≡ after (a ++ b) o
after_after a b o = ap (λ (t : List ℕ). record { text = t; ending = o.ending }) (sym (append_assoc a b o.text))

pub after_silent : (text : List ℕ) (e : Ending) → after text (silent e) ≡ record { text = text; ending = e }
after_silent text e = ap (λ (t : List ℕ). record { text = t; ending = e }) (append-nil text)

-- a line was answered, and what follows goes on from there
pub answered : (A : Type 0) (done : A) (s : Step) (rest : State → Outcome) (read : ℕ) (now : State) (old new : List ℕ) → Answers {A = A} (Ok done) s now old new
    → after old (onward s read rest) ≡ after new (rest now)
answered A done (Goes next text) rest read now old new h = rw (h.0, h.1) (after_after old text (rest next))
answered A done Finishes rest read now old new h = absurd h
answered A done (Refuses kind) rest read now old new h = absurd h

-- or it is the last
pub stopped : (A : Type 0) (why : Stop) (s : Step) (rest : State → Outcome) (read : ℕ) (now : State) (old new : List ℕ) → Answers {A = A} (Err why) s now old new
    → Stops why (after old (onward s read rest)) (read + 1) new
stopped A stop.Ended s rest read now old new h = rw (h.0, h.1) (after_silent old _)
stopped A (stop.Refused kind) s rest read now old new h = rw (h.0, h.1) (after_silent old _)
stopped A stop.TooLarge s rest read now old new h = absurd h
stopped A stop.NoMemory s rest read now old new h = tt

-- a line that is too long, or one too many
too_large_stops : (A : Type 0) (task : Task) (ended : Bool) (more : List ℕ) (result : Result A Stop) (read : ℕ) (old : List ℕ) (new : reader.Reader)
    → result ≡ Err stop.TooLarge → new.text.items ≡ old → new.lines ≡ read + 1 → Tells task ended more result (after old (silent (TooLarge (read + 1)))) new
too_large_stops A task ended more result read old new is text lines =
    subst (λ (r : Result A Stop). Tells task ended more r (after old (silent (TooLarge (read + 1)))) new) (sym is) (rw (text, lines) (after_silent old (TooLarge (read + 1))))

-- nothing is held behind a line that was answered
abbrev IsHeldEmpty : {A : Type 0} → Result A Stop → reader.Reader → Type 0
IsHeldEmpty result new = OnOk result (new.held.items ≡ [])

small_tells : (A : Type 0) (task : Task) (ended : Bool) (more : List ℕ) (old : reader.Reader) (s : Step) (result : Result A Stop) (new : reader.Reader)
    → Answers result s new.state old.text.items new.text.items → new.lines ≡ old.lines + 1 → IsHeldEmpty result new
    → Tells task ended more result (after old.text.items (onward s old.lines (λ next. outcome task ended (pieces more) next (old.lines + 1)))) new
small_tells A task ended more old s (Ok done) new h lines held =
    rw (lines, held) (answered A done s (λ next. outcome task ended (pieces more) next (old.lines + 1)) old.lines new.state old.text.items new.text.items h)
small_tells A task ended more old s (Err why) new h lines held =
    rw lines (stopped A why s (λ next. outcome task ended (pieces more) next (old.lines + 1)) old.lines new.state old.text.items new.text.items h)

line_tells : (A : Type 0) (task : Task) (ended : Bool) (more : List ℕ) (old : reader.Reader) (line : List ℕ) (result : Result A Stop) (new : reader.Reader) (large : Bool)
    → is_too_large old.lines line ≡ large → TakesLine task old line result new
    → Tells task ended more result (after old.text.items (if is_too_large old.lines line then silent (TooLarge (old.lines + 1)) else onward (step task old.state line) old.lines (λ next. outcome task ended (pieces more) next (old.lines + 1)))) new
line_tells A task ended more old line result new true is takes =
    rw is (too_large_stops A task ended more result old.lines old.text.items new (takes.large is).0 (takes.large is).1 takes.lines)
line_tells A task ended more old line result new false is takes =
    rw is (small_tells A task ended more old (step task old.state line) result new (takes.small is) takes.lines takes.held)

pub line_bytes : (A : Type 0) (task : Task) (old : reader.Reader) (line : List ℕ) (result : Result A Stop) (new : reader.Reader)
    → All (λ b. (b == 10) ≡ false) (old.held.items ++ line) → TakesLine task old (old.held.items ++ line) result new → TakesBytes task old (line ++ (10 ∷ [])) result new
line_bytes A task old line result new plain takes = λ ended more.
    rw (first_piece old.held.items line more plain, whole_line task ended (old.held.items ++ line) more old.state old.lines)
    (line_tells A task ended more old (old.held.items ++ line) result new (is_too_large old.lines (old.held.items ++ line)) refl takes)

-- bytes after bytes
pub bytes_then : (A B : Type 0) (done : B) (task : Task) (old mid new : reader.Reader) (xs ys : List ℕ) (result : Result A Stop)
    → TakesBytes {A = B} task old xs (Ok done) mid → TakesBytes task mid ys result new → TakesBytes task old (xs ++ ys) result new
bytes_then A B done task old mid new xs ys result h k = λ ended more.
    let shape : with_more task ended old ((xs ++ ys) ++ more) ≡ with_more task ended old (xs ++ (ys ++ more)) = ap (λ (bytes : List ℕ). with_more task ended old bytes) (append_assoc xs ys more) in
    let both : with_more task ended old ((xs ++ ys) ++ more) ≡ with_more task ended mid (ys ++ more) = shape ∙ h ended (ys ++ more) in
    subst (λ (o : Outcome). Tells task ended more result o new) (sym both) (k ended more)

-- a stop stands whatever comes
pub stop_more : (A : Type 0) (task : Task) (old new : reader.Reader) (bytes rest : List ℕ) (why : Stop) → TakesBytes {A = A} task old bytes (Err why) new → TakesBytes {A = A} task old (bytes ++ rest) (Err why) new
stop_more A task old new bytes rest why h = λ ended more.
    subst (λ (xs : List ℕ). Stops why (with_more task ended old xs) new.lines new.text.items) (sym (append_assoc bytes rest more)) (h ended (rest ++ more))

-- a line that is too long already, or one too many

plain_test : (b : ℕ) → b ≢ 10 → (b == 10) ≡ false
plain_test b other = grind (arith, nat_tests)

pub plain_tests : (xs : List ℕ) → All (λ b. b ≢ 10) xs → All (λ b. (b == 10) ≡ false) xs
plain_tests xs plain = λ k d lt. plain_test (slice_index_or xs k d) (plain k d lt)

-- bytes without a newline stand before the first piece
front_piece : (xs more line : List ℕ) (lines : List (List ℕ)) → All (λ b. (b == 10) ≡ false) xs → pieces more ≡ line ∷ lines → pieces (xs ++ more) ≡ (xs ++ line) ∷ lines
front_piece [] more line lines plain is = is
front_piece (x ∷ xs) more line lines plain is =
    let here : (x == 10) ≡ false = plain 0 0 (omega arith) in
    let behind : pieces (xs ++ more) ≡ (xs ++ line) ∷ lines = front_piece xs more line lines (All-tail (λ b. (b == 10) ≡ false) x xs plain) is in
    slice_split-cons_no (λ b. b == 10) x (xs ++ more) here ∙ ap (onto_first x) behind

too_large_more : (read : ℕ) (xs ys : List ℕ) → is_too_large read xs ≡ true → is_too_large read (xs ++ ys) ≡ true
too_large_more read xs ys h = let longer : length (xs ++ ys) ≡ length xs + length ys = length-append xs ys in grind (arith, nat_tests)

not_empty : (xs ys : List ℕ) → 0 < length xs → (length (xs ++ ys) == 0) ≡ false
not_empty xs ys h = let longer : length (xs ++ ys) ≡ length xs + length ys = length-append xs ys in grind (arith, nat_tests)

other_line : (other : List ℕ) (lines : List (List ℕ)) → (length (other ∷ lines) == 0) ≡ false
other_line other lines = grind (arith, nat_tests)

pub too_large_piece : (task : Task) (ended : Bool) (xs line : List ℕ) (lines : List (List ℕ)) (state : State) (read : ℕ) → 0 < length xs → is_too_large read xs ≡ true
    → outcome task ended ((xs ++ line) ∷ lines) state read ≡ silent (TooLarge (read + 1))
too_large_piece task ended xs line [] state read some large = rw (not_empty xs line some, too_large_more read xs line large) refl
too_large_piece task ended xs line (other ∷ lines) state read some large = rw (other_line other lines, too_large_more read xs line large) refl

too_large_parts : (task : Task) (ended : Bool) (xs more : List ℕ) (parts : List (List ℕ)) (state : State) (read : ℕ) → All (λ b. (b == 10) ≡ false) xs → 0 < length xs → is_too_large read xs ≡ true
    → pieces more ≡ parts → outcome task ended (pieces (xs ++ more)) state read ≡ silent (TooLarge (read + 1))
too_large_parts task ended xs more [] state read plain some large is =
    let none : length (pieces more) ≡ 0 = ap length is in
    absurd (omega (arith, length-slice_split (λ b. b == 10) more))
too_large_parts task ended xs more (line ∷ lines) state read plain some large is =
    rw (front_piece xs more line lines plain is) (too_large_piece task ended xs line lines state read some large)

pub too_large_held : (held beginning : List ℕ) (state : State) (read : ℕ) → All (λ b. b ≢ 10) held → All (λ b. b ≢ 10) beginning → 0 < length beginning
    → is_too_large read (held ++ beginning) ≡ true → (task : Task) (ended : Bool) (more : List ℕ)
    → outcome task ended (pieces (held ++ (beginning ++ more))) state read ≡ record { text = []; ending = TooLarge (read + 1) }
too_large_held held beginning state read plain plainer some large task ended more =
    let both = plain_tests (held ++ beginning) (All-append (λ b. b ≢ 10) held beginning plain plainer) in
    rw (← append_assoc held beginning more)
    (too_large_parts task ended (held ++ beginning) more (pieces more) state read both (omega (arith, length-append held beginning)) large refl)

pub is_large : (read : ℕ) (line : List ℕ) → (200000 ≤ read) ⊎ (4096 < length line) → is_too_large read line ≡ true
is_large read line (inl many) = grind (arith, nat_tests)
is_large read line (inr long) = grind (arith, nat_tests)

pub not_large : (read : ℕ) (line : List ℕ) → read < 200000 → length line ≤ 4096 → is_too_large read line ≡ false
not_large read line few short = grind (arith, nat_tests)

pub some_bytes : (xs : List ℕ) → (length xs == 0) ≡ false → 0 < length xs
some_bytes xs h = grind (arith, nat_tests)

-- and what the reader tells of it
pub held_stops : (held beginning text : List ℕ) (state : State) (read : ℕ) → All (λ b. b ≢ 10) held → All (λ b. b ≢ 10) beginning → 0 < length beginning
    → is_too_large read (held ++ beginning) ≡ true → (task : Task) (ended : Bool) (more : List ℕ)
    → after text (outcome task ended (pieces (held ++ (beginning ++ more))) state read) ≡ record { text = text; ending = TooLarge (read + 1) }
held_stops held beginning text state read plain plainer some large task ended more =
    ap (λ (o : Outcome). after text o) (too_large_held held beginning state read plain plainer some large task ended more) ∙ after_silent text (TooLarge (read + 1))
