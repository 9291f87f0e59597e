use Rattle.std.proofs.Common.{◌≡◌, ℕ, ◌-◌, ◌<◌, ◌≤◌, length, drop, get_or, map}
use Rattle.interconnect.specs.Places.{live}
use Rattle.interconnect.proofs.FirstFrom.{from_on}
use Rattle.interconnect.proofs.by_number.first_in.Given as goal

abbrev pub invariant-loop-place : goal.invariant-loop-place
invariant-loop-place l = record {
  within : l.place ≤ length l.places.items;
  from : (k : ℕ) → l.place ≤ k → k < length l.places.items → l.number ≤ get_or (map (λ p. p.number) l.places.items) k 0;
  passed : from_on l.number (live l.places.items) ≡ from_on l.number (live (drop l.place l.places.items));
}

abbrev pub decreases-loop-place : goal.decreases-loop-place
decreases-loop-place l = length l.places.items - l.place
