use Rattle.std.proofs.Common.{ℕ, ◌-◌, ◌<◌, ◌≤◌, length, get_or, map}
use Rattle.interconnect.proofs.by_number.place_from.Given as goal

abbrev pub invariant-loop-low : goal.invariant-loop-low
invariant-loop-low l = record {
  within : l.low ≤ l.high;
  top : l.high ≤ length l.places.items;
  below : (k : ℕ) → k < l.low → get_or (map (λ p. p.number) l.places.items) k 0 < l.number;
  from : (k : ℕ) → l.high ≤ k → k < length l.places.items → l.number ≤ get_or (map (λ p. p.number) l.places.items) k 0;
}

abbrev pub decreases-loop-low : goal.decreases-loop-low
decreases-loop-low l = l.high - l.low
