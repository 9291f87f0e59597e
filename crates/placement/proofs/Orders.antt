-- The order of nodes by their scores.
use Rattle.std.proofs.Common.{◌≡◌, ◌≢◌, ◌⊎◌, inl, inr, ℕ, ◌<◌, ◌≤◌, ◌==◌, nat_lt, Bool, true, false, not, cond, refl, sym, ap, ◌∙◌, arith, ℤ}
use Rattle.std.specs.Prelude.{int_lt}
use Rattle.std.proofs.lemmas.Bool.Decides.{eqb_tells, nat_tests}
use Rattle.std.proofs.lemmas.Int.{ints}
use Rattle.placement.specs.declared.score.Score.{Score}
use Rattle.placement.specs.Scores.{is_better}

last_self : (z : ℤ) → int_lt z z ≡ false
last_self z = grind (arith, ints)

last_not : (a b c : ℤ) → int_lt b a ≡ true → int_lt b c ≡ false → int_lt a c ≡ false
last_not a b c h k = grind (arith, ints)

last_then : (a b c : ℤ) → int_lt b a ≡ true → int_lt b c ≡ false → int_lt c a ≡ true
last_then a b c h k = grind (arith, ints)

pub not_itself : (a : Score) → is_better a a ≡ false
not_itself a = grind (arith, nat_tests, last_self)

-- what is not better than one is not better than a better one, and that one is better than it
pub not_better : (a b c : Score) → is_better a b ≡ true → is_better c b ≡ false → is_better c a ≡ false
not_better a b c h k = grind (arith, nat_tests, last_not)

pub better_then : (a b c : Score) → is_better a b ≡ true → is_better c b ≡ false → is_better a c ≡ true
better_then a b c h k = grind (arith, nat_tests, last_then)
