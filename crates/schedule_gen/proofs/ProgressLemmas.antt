-- A generator from line to line.
use Rattle.std.proofs.Common.{◌≡◌, ◌≢◌, ℕ, ◌+◌, ◌-◌, ◌≤◌, true, false, nat_lt, List, Some, refl, sym, ◌∙◌, ap, arith, lt-ltb, le-ltb}
use Rattle.schedule_gen.specs.Draws.{draw, drawn}
use Rattle.schedule_gen.specs.Lines.{line_at, event_line}
use Rattle.schedule_gen.specs.Progress.{IsGenerator, next_of}
use Rattle.schedule_gen.proofs.DrawLemmas.{drawn_none, drawn_more}

pub generator-new : (seed count : ℕ) → IsGenerator seed count 0 0 seed
generator-new seed count = record { opening = omega arith; opening_first = λ h. refl; within = omega arith; state_drawn = sym (drawn_none seed) }

pub generator-more : (seed count opened draws state : ℕ) → IsGenerator seed count opened draws state
    → 10 ≤ opened → draws ≢ count → IsGenerator seed count opened (draws + 1) (draw state)
generator-more seed count opened draws state h ten_open left = record {
  opening = h.opening;
  opening_first = λ few. absurd (omega (arith, few));
  within = let w : draws ≤ count = h.within in omega (arith, left);
  state_drawn = ap draw h.state_drawn ∙ sym (drawn_more seed draws);
}

pub line_at-event : (seed n : ℕ) → line_at seed (10 + n) ≡ event_line (drawn seed (n + 1)) n
line_at-event seed n =
    let late : nat_lt (10 + n) 10 ≡ false = le-ltb (10 + n) 10 (omega arith) in
    let index : (10 + n) - 10 ≡ n = omega arith in
    rw (late, index) refl

pub next_event : (seed count opened draws state : ℕ) (text : List ℕ) → IsGenerator seed count opened draws state
    → 10 ≤ opened → draws ≢ count → text ≡ event_line (draw state) draws
    → Some text ≡ next_of (record { seed = seed; count = count; given = opened + draws })
next_event seed count opened draws state text h ten_open left text_is =
    let ten : opened ≡ 10 = omega (arith, h.opening) in
    let more : nat_lt (10 + draws) (10 + count) ≡ true = lt-ltb (10 + draws) (10 + count) (omega (arith, h.within, left)) in
    rw (ten, more, line_at-event, drawn_more, ← h.state_drawn) (ap Some text_is)
