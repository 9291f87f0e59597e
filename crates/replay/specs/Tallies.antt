-- How the lines of a text are counted while it comes.
use Rattle.std.specs.Prelude.{◌≡◌, ℕ, ◌+◌, ◌-◌, ◌^◌, ◌==◌, min, Bool, true, false, List, ◌++◌, All, count_by}
use Rattle.replay.specs.declared.counts.Counts.{Counts}
use Rattle.replay.specs.declared.counts.Tally as tally
use Rattle.replay.specs.Gens.{is_accepted, is_ack, is_call, is_refused, is_start}
use Rattle.interpreter.specs.Outcomes.{pieces}

abbrev pub one_more_if : Bool → ℕ → ℕ
one_more_if true count = min (count + 1) (2 ^ 64 - 1)
one_more_if false count = count

-- the counts with one more line
abbrev pub with_line : Counts → List ℕ → Counts
with_line c line = record {
  starts = one_more_if (is_start line) c.starts;
  acks = one_more_if (is_ack line) c.acks;
  accepted = one_more_if (is_accepted line) c.accepted;
  refused = one_more_if (is_refused line) c.refused;
  calls = one_more_if (is_call line) c.calls;
}

-- a count with so many more lines
abbrev pub more_of : (List ℕ → Bool) → ℕ → List (List ℕ) → ℕ
more_of test count lines = min (count + count_by test lines) (2 ^ 64 - 1)

abbrev pub with_lines : Counts → List (List ℕ) → Counts
with_lines c lines = record {
  starts = more_of is_start c.starts lines;
  acks = more_of is_ack c.acks lines;
  accepted = more_of is_accepted c.accepted lines;
  refused = more_of is_refused c.refused lines;
  calls = more_of is_call c.calls lines;
}

-- the beginning of a line has no newline
abbrev pub IsTally : tally.Tally → Type 0
IsTally t = All (λ b. (b == 10) ≡ false) t.held.items

-- the counts of the whole text, when these bytes come
abbrev pub counts_from : tally.Tally → List ℕ → Counts
counts_from t more = with_lines t.counts (pieces (t.held.items ++ more))
