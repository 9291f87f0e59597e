-- An order goes again at each fourth tick.
use Rattle.std.proofs.Common.{◌≡◌, ℕ, ◌+◌, ◌-◌, ◌*◌, ◌<◌, ◌≤◌, zero, suc, true, false, List, Option, Some, None, length, refl, ap, ◌∙◌, arith}
use Rattle.std.proofs.lemmas.List.{get_or-set_same}
use Rattle.sent_orders.specs.Ages.{age_of, with_sent}
use Rattle.sent_orders.specs.Ticks.{age_after, goes_again, is_due, ticks}
use Rattle.sent_orders.proofs.Due.{age_ticked}

-- the age of an order so many ticks after it was sent first
abbrev aged : ℕ → Option ℕ
aged zero = Some 0
aged (suc k) = age_after (aged k)

four_on : (r : ℕ) → r < 4 → age_after (age_after (age_after (age_after (Some r)))) ≡ Some r
four_on zero l = refl
four_on (suc zero) l = refl
four_on (suc (suc zero)) l = refl
four_on (suc (suc (suc zero))) l = refl
four_on (suc (suc (suc (suc r)))) l = absurd (omega (arith, l))

at_first : (r : ℕ) → r < 4 → aged r ≡ Some r
at_first zero l = refl
at_first (suc zero) l = refl
at_first (suc (suc zero)) l = refl
at_first (suc (suc (suc zero))) l = refl
at_first (suc (suc (suc (suc r)))) l = absurd (omega (arith, l))

aged_is : (k r : ℕ) → r < 4 → aged (4 * k + r) ≡ Some r
aged_is zero r l = ap aged less ∙ at_first r l
  where
    less : 4 * 0 + r ≡ r
    less = omega arith
aged_is (suc k) r l =
    ap aged more ∙ (ap (λ a. age_after (age_after (age_after (age_after a)))) (aged_is k r l) ∙ four_on r l)
  where
    more : 4 * suc k + r ≡ suc (suc (suc (suc (4 * k + r))))
    more = omega arith

module _ (ages : List (Option ℕ)) (n : ℕ) (low : 1 ≤ n) (high : n ≤ length ages) where
  age_is : (k : ℕ) → age_of (ticks (with_sent ages n) k) n ≡ aged k
  age_is zero = get_or-set_same ages (n - 1) (Some 0) None (omega (arith, low, high))
  age_is (suc k) = age_ticked (ticks (with_sent ages n) k) n ∙ ap age_after (age_is k)

  age_then : (k r : ℕ) → r < 4 → is_due (ticks (with_sent ages n) (4 * k + r)) n ≡ goes_again (Some r)
  age_then k r l = ap goes_again (age_is (4 * k + r) ∙ aged_is k r l)

  pub at_the_fourth : (k : ℕ) → is_due (ticks (with_sent ages n) (4 * k + 3)) n ≡ true
  at_the_fourth k = age_then k 3 (omega arith)

  pub at_no_other : (k r : ℕ) → r < 3 → is_due (ticks (with_sent ages n) (4 * k + r)) n ≡ false
  at_no_other k r l = age_then k r (omega (arith, l)) ∙ young r l
    where
      young : (r : ℕ) → r < 3 → goes_again (Some r) ≡ false
      young zero l = refl
      young (suc zero) l = refl
      young (suc (suc zero)) l = refl
      young (suc (suc (suc r))) l = absurd (omega (arith, l))
