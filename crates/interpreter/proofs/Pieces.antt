-- A piece of the input, line by line.
use Rattle.std.proofs.Common.{◌≡◌, ◌≢◌, ℕ, ◌+◌, ◌-◌, ◌<◌, List, [], ◌∷◌, ◌++◌, length, take, drop, slice_index, All, Result, Ok, Err, ap, subst, ◌∙◌, arith, length-drop}
use Rattle.std.proofs.Math.Seq.{take-add}
use Rattle.std.proofs.lemmas.List.{take_more, take_rest, take-append-drop, length-take-le}
use Rattle.std.proofs.lemmas.List.Elements.{All-append}
use Rattle.interpreter.specs.declared.stop.Stop.{Stop}
use Rattle.interpreter.specs.declared.reader.Reader as reader
use Rattle.interpreter.specs.declared.task.Task.{Task}
use Rattle.interpreter.specs.Readers.{TakesLine, TakesBytes}
use Rattle.interpreter.proofs.Bytes.{line_bytes, bytes_then, stop_more, plain_tests}

line_shape : (piece : List ℕ) (at n : ℕ) → n < length (drop at piece) → slice_index (drop at piece) n ≡ 10
    → take (at + (n + 1)) piece ≡ take at piece ++ (take n (drop at piece) ++ (10 ∷ []))
line_shape piece at n lt is =
    let more : take (n + 1) (drop at piece) ≡ take n (drop at piece) ++ (slice_index (drop at piece) n ∷ []) = take_more (drop at piece) n 0 lt in
    take-add at (n + 1) piece ∙ ap (λ (t : List ℕ). take at piece ++ t) (more ∙ ap (λ b. take n (drop at piece) ++ (b ∷ [])) is)

-- what the code finds in the rest of the piece, which it cuts off by numbers
pub record FindsLine (rest : List ℕ) (n : ℕ) : Type 0 where
  pub within : n < length rest
  pub plain : All (λ b. b ≢ 10) (take n rest)
  pub newline : slice_index rest n ≡ 10

-- the bytes so far, and a line behind them
pub line_read : (A B : Type 0) (done : B) (task : Task) (old mid new : reader.Reader) (piece : List ℕ) (at n : ℕ) (result : Result A Stop)
    → TakesBytes {A = B} task old (take at piece) (Ok done) mid → All (λ b. b ≢ 10) mid.held.items
    → FindsLine (take (length piece - at) (drop at piece)) n
    → TakesLine task mid (mid.held.items ++ take (at + n - at) (drop at piece)) result new
    → TakesBytes task old (take (at + (n + 1)) piece) result new
line_read A B done task old mid new piece at n result before plain finds taken =
    let found : FindsLine (drop at piece) n = subst (λ (rest : List ℕ). FindsLine rest n) (take_rest piece at) finds in
    let same : at + n - at ≡ n = omega arith in
    let takes : TakesLine task mid (mid.held.items ++ take n (drop at piece)) result new = subst (λ m. TakesLine task mid (mid.held.items ++ take m (drop at piece)) result new) same taken in
    let both = plain_tests (mid.held.items ++ take n (drop at piece)) (All-append (λ b. b ≢ 10) mid.held.items (take n (drop at piece)) plain found.plain) in
    rw (line_shape piece at n found.within found.newline)
    (bytes_then A B done task old mid new (take at piece) (take n (drop at piece) ++ (10 ∷ [])) result before (line_bytes A task mid (take n (drop at piece)) result new both takes))

-- a stop within the piece is a stop of the whole piece
pub stopped_whole : (A : Type 0) (task : Task) (old new : reader.Reader) (piece : List ℕ) (count : ℕ) (why : Stop)
    → TakesBytes {A = A} task old (take count piece) (Err why) new → TakesBytes {A = A} task old piece (Err why) new
stopped_whole A task old new piece count why taken =
    subst (λ (bytes : List ℕ). TakesBytes {A = A} task old bytes (Err why) new) (take-append-drop count piece) (stop_more A task old new (take count piece) (drop count piece) why taken)

-- the rest of the piece is held
pub rest_held : (A B : Type 0) (done : B) (task : Task) (old mid new : reader.Reader) (piece : List ℕ) (at : ℕ) (result : Result A Stop)
    → TakesBytes {A = B} task old (take at piece) (Ok done) mid → TakesBytes task mid (take (length piece - at) (drop at piece)) result new → TakesBytes task old piece result new
rest_held A B done task old mid new piece at result before rest =
    subst (λ (bytes : List ℕ). TakesBytes task old bytes result new) (take-append-drop at piece)
    (bytes_then A B done task old mid new (take at piece) (drop at piece) result before (subst (λ (bytes : List ℕ). TakesBytes task mid bytes result new) (take_rest piece at) rest))

pub cut_length : (piece : List ℕ) (at n : ℕ) → n < length piece - at → length (take (at + n - at) (drop at piece)) ≡ n
cut_length piece at n lt =
    let same : at + n - at ≡ n = omega arith in
    rw same (length-take-le n (drop at piece) (omega (arith, length-drop at piece)))
