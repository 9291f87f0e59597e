-- The states of the draws, one by one.
use Rattle.std.proofs.Common.{◌≡◌, ℕ, ◌+◌, refl, add-one}
use Rattle.schedule_gen.specs.Draws.{draw, drawn}

pub drawn_none : (seed : ℕ) → drawn seed 0 ≡ seed
unfolding drawn
drawn_none seed = refl

pub drawn_more : (seed n : ℕ) → drawn seed (n + 1) ≡ draw (drawn seed n)
unfolding drawn
drawn_more seed n = rw add-one refl
