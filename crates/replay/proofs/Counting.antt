-- The lines of a text, counted while it comes.
use Rattle.std.proofs.Common.{◌≡◌, ℕ, ◌+◌, ◌-◌, ◌^◌, ◌<◌, ◌==◌, min, Bool, true, false, cond, List, [], ◌∷◌, ◌++◌, All, refl, sym, ap, ◌∙◌, append-nil, append_assoc, arith}
use Rattle.std.specs.List.{count_by}
use Rattle.std.proofs.lemmas.List.Sums.{sum_by-cons}
use Rattle.std.proofs.lemmas.List.Splits.{slice_split_at, slice_split_none}
use Rattle.replay.specs.declared.counts.Counts.{Counts}
use Rattle.replay.specs.Gens.{counts_of, is_accepted, is_ack, is_call, is_refused, is_start}
use Rattle.interpreter.specs.Outcomes.{pieces}
use Rattle.replay.specs.Tallies.{more_of, one_more_if, with_line, with_lines}

-- one line more
one_more : (counted : Bool) (count more : ℕ) → min (count + (cond counted 1 0 + more)) (2 ^ 64 - 1) ≡ min (one_more_if counted count + more) (2 ^ 64 - 1)
one_more true count more = omega arith
one_more false count more = omega arith

more_line : (test : List ℕ → Bool) (count : ℕ) (line : List ℕ) (lines : List (List ℕ)) → more_of test count (line ∷ lines) ≡ more_of test (one_more_if (test line) count) lines
more_line test count line lines =
    ap (λ n. min (count + n) (2 ^ 64 - 1)) (sum_by-cons (λ (l : List ℕ). cond (test l) 1 0) line lines) ∙ one_more (test line) count (count_by test lines)

lines_more : (c : Counts) (line : List ℕ) (lines : List (List ℕ)) → with_lines c (line ∷ lines) ≡ with_lines (with_line c line) lines
lines_more c line lines =
    rw (
      more_line is_start c.starts line lines,
      more_line is_ack c.acks line lines,
      more_line is_accepted c.accepted line lines,
      more_line is_refused c.refused line lines,
      more_line is_call c.calls line lines,
    ) refl

-- a newline ends the line that is held
pub ends_line : (c after : Counts) (held line held_after more : List ℕ) (b : ℕ) → All (λ x. (x == 10) ≡ false) held → b ≡ 10 → after ≡ with_line c line → line ≡ held → held_after ≡ []
    → with_lines c (pieces (held ++ (b ∷ more))) ≡ with_lines after (pieces (held_after ++ more))
ends_line c after held line held_after more b plain newline counted line_is none =
    let cut : pieces (held ++ (10 ∷ more)) ≡ held ∷ pieces more = slice_split_at (λ x. x == 10) held 10 more plain refl in
    rw (newline, counted, line_is, none, cut) (lines_more c held (pieces more))

-- any other byte is held
pub holds_byte : (c : Counts) (held more : List ℕ) (b : ℕ) → with_lines c (pieces (held ++ (b ∷ more))) ≡ with_lines c (pieces ((held ++ (b ∷ [])) ++ more))
holds_byte c held more b = ap (λ (xs : List ℕ). with_lines c (pieces xs)) (sym (append_assoc held (b ∷ []) more))

-- where the text ends, the line that is held ends
least : (counted : Bool) (count : ℕ) → count < 2 ^ 64 → min (count + (0 + cond counted 1 0)) (2 ^ 64 - 1) ≡ one_more_if counted count
least true count fits = omega arith
least false count fits = omega arith

-- counts of 64 bits
pub record AreCounts (c : Counts) : Type 0 where
  pub starts : c.starts < 2 ^ 64
  pub acks : c.acks < 2 ^ 64
  pub accepted : c.accepted < 2 ^ 64
  pub refused : c.refused < 2 ^ 64
  pub calls : c.calls < 2 ^ 64

last_line : (c : Counts) (line : List ℕ) → AreCounts c → with_lines c (line ∷ []) ≡ with_line c line
last_line c line fits =
    rw (
      least (is_start line) c.starts fits.starts,
      least (is_ack line) c.acks fits.acks,
      least (is_accepted line) c.accepted fits.accepted,
      least (is_refused line) c.refused fits.refused,
      least (is_call line) c.calls fits.calls,
    ) refl

pub text_ends : (c : Counts) (held : List ℕ) → AreCounts c → All (λ x. (x == 10) ≡ false) held → with_line c held ≡ with_lines c (pieces (held ++ []))
text_ends c held fits plain =
    let one : pieces (held ++ []) ≡ held ∷ [] = ap (λ (xs : List ℕ). pieces xs) (append-nil held) ∙ slice_split_none (λ x. x == 10) held plain in
    sym (ap (λ (lines : List (List ℕ)). with_lines c lines) one ∙ last_line c held fits)

-- before the first byte
pub from_none : (text : List ℕ) → with_lines (record { starts = 0; acks = 0; accepted = 0; refused = 0; calls = 0 }) (pieces ([] ++ text)) ≡ counts_of text
from_none text =
    rw (none is_start (pieces text), none is_ack (pieces text), none is_accepted (pieces text), none is_refused (pieces text), none is_call (pieces text)) refl
  where
    none : (test : List ℕ → Bool) (lines : List (List ℕ)) → more_of test 0 lines ≡ min (count_by test lines) (2 ^ 64 - 1)
    none test lines = omega arith
