-- The nodes whose orders go again, as a set, and the ages after a tick.
use Rattle.std.proofs.Common.{◌≡◌, ℕ, ◌-◌, ◌<◌, ◌≤◌, ◌==◌, ◌||◌, zero, suc, Bool, true, false, cond, List, Option, None, inl, inr, refl, ap, ◌∙◌, subst, arith}
use Rattle.std.proofs.Math.ListN.{get_or-map}
use Rattle.std.proofs.lemmas.Bool.{cases_lt}
use Rattle.std.proofs.lemmas.Bool.Decides.{nat_tests}
use Rattle.cl_base.specs.Limits.{most_nodes}
use Rattle.cl_base.specs.Sets.{has, set_with}
use Rattle.cl_base.proofs.SetLemmas.{has_with, or_bit_value, none_of_zero}
use Rattle.sent_orders.specs.Ages.{age_of}
use Rattle.sent_orders.specs.Ticks.{age_after, due, due_to, is_due, ticked}

has_set_with : (s n m : ℕ) → 1 ≤ n → n ≤ 32 → has (set_with s n) m ≡ ((m == n) || has s m)
has_set_with s n m low high = subst (λ z. has z m ≡ ((m == n) || has s m)) (or_bit_value s n high) (has_with s n low high m)

same_number : (m n : ℕ) → m ≡ n → (m == n) ≡ true
same_number m n e = grind (arith, nat_tests, e)

other_number : (m n : ℕ) → m < n → (m == n) ≡ false
other_number m n l = grind (arith, nat_tests, l)

module _ (ages : List (Option ℕ)) where
  none_above : (k m : ℕ) → k ≤ 32 → k < m → has (due_to ages k) m ≡ false
  none_above zero m le l = none_of_zero m
  none_above (suc k) m le l = by (is_due ages (suc k)) (none_above k m (omega (arith, le)) (omega (arith, l)))
    where
      other : (m == suc k) ≡ false
      other = grind (arith, nat_tests, l)

      by : (b : Bool) → has (due_to ages k) m ≡ false → has (cond b (set_with (due_to ages k) (suc k)) (due_to ages k)) m ≡ false
      by true below = has_set_with (due_to ages k) (suc k) m (omega arith) le ∙ (ap (λ t. t || has (due_to ages k) m) other ∙ below)
      by false below = below

  at_last : (k : ℕ) → suc k ≤ 32 → (b : Bool) → has (cond b (set_with (due_to ages k) (suc k)) (due_to ages k)) (suc k) ≡ b
  at_last k le true =
      has_set_with (due_to ages k) (suc k) (suc k) (omega arith) le ∙ ap (λ t. t || has (due_to ages k) (suc k)) (same_number (suc k) (suc k) refl)
  at_last k le false = none_above k (suc k) (omega (arith, le)) (omega arith)

  earlier : (k m : ℕ) → suc k ≤ 32 → m < suc k → (b : Bool) → has (cond b (set_with (due_to ages k) (suc k)) (due_to ages k)) m ≡ has (due_to ages k) m
  earlier k m le l true = has_set_with (due_to ages k) (suc k) m (omega arith) le ∙ ap (λ t. t || has (due_to ages k) m) (other_number m (suc k) l)
  earlier k m le l false = refl

  has_due_to : (k m : ℕ) → k ≤ 32 → 1 ≤ m → m ≤ k → has (due_to ages k) m ≡ is_due ages m
  has_due_to zero m le low high = absurd (omega (arith, low, high))
  has_due_to (suc k) m le low high = elim (cases_lt m (suc k)) as (λ _. has (due_to ages (suc k)) m ≡ is_due ages m) [
    | inl l ↦ earlier k m le l (is_due ages (suc k)) ∙ has_due_to k m (omega (arith, le)) low (omega (arith, l))
    | inr g ↦ subst (λ j. has (due_to ages (suc k)) j ≡ is_due ages j) (last g) (at_last k le (is_due ages (suc k)))
  ]
    where
      last : suc k ≤ m → suc k ≡ m
      last g = omega (arith, g, high)

  pub has_due : (m : ℕ) → 1 ≤ m → m ≤ most_nodes → has (due ages) m ≡ is_due ages m
  has_due m low high = has_due_to 32 m (omega arith) low high

  pub age_ticked : (m : ℕ) → age_of (ticked ages) m ≡ age_after (age_of ages m)
  age_ticked m = get_or-map age_after ages (m - 1) None
