-- A set of nodes is the set of its numbers.
use Rattle.std.specs.Prelude.{ℕ, zero, suc, ◌-◌, ◌^◌, ◌≡◌, ◌≤◌, ◌<◌, ◌==◌, ◌&&◌, ◌||◌, ◌++◌, nat_le, Bool, true, false, List, [], ◌∷◌, if◌then◌else◌}
use Rattle.std.specs.List.{AllByRecursion}
use Rattle.std.proofs.Common.{refl, sym, ap, subst, ◌∙◌, ◌⊎◌, inl, inr, arith}
use Rattle.std.proofs.Math.Pow.{pow-lt}
use Rattle.std.proofs.lemmas.Nat.{or_lt}
use Rattle.cl_base.proofs.SetLemmas.{has_not_above, has_not_zero, has_with, none_of_zero, or_bit_value, same_set}
use Rattle.cl_base.specs.Numbers.{numbers_to}
use Rattle.cl_base.specs.Sets.{has, set_with}
use Rattle.cmm_attempt.proofs.Basics.{same_number}
use Rattle.history.specs.Attempts.{set_of}
use Rattle.history.specs.Setting.{nodes_of}
use Rattle.run_history.proofs.Lists.{all_and}

IsNumber : ℕ → Type 0
IsNumber n = (1 ≤ n) × (n ≤ 32)

has_set_with : (s n m : ℕ) → IsNumber n → has (set_with s n) m ≡ ((m == n) || has s m)
unfolding IsNumber
has_set_with s n m is = ap (λ z. has z m) (sym (or_bit_value s n is.1)) ∙ has_with s n is.0 is.1 m

-- ---- one number more, at the end

has_last : (ns : List ℕ) (k d : ℕ) → AllByRecursion IsNumber ns → IsNumber k → has (set_of (ns ++ k ∷ [])) d ≡ ((d == k) || has (set_of ns) d)
has_last [] k d are is = has_set_with 0 k d is
has_last (n ∷ ns) k d are is =
    has_set_with (set_of (ns ++ k ∷ [])) n d are.0 ∙ (ap (λ b. (d == n) || b) (has_last ns k d are.1 is) ∙ (swap (d == n) (d == k) (has (set_of ns) d) ∙ ap (λ b. (d == k) || b) (sym (has_set_with (set_of ns) n d are.0))))
  where
    swap : (a b c : Bool) → (a || (b || c)) ≡ (b || (a || c))
    swap true true c = refl
    swap true false c = refl
    swap false true c = refl
    swap false false c = refl

numbers_are : (set k : ℕ) → k ≤ 32 → AllByRecursion IsNumber (numbers_to set k)
unfolding IsNumber
numbers_are set zero high = tt
numbers_are set (suc k) high = by_test (has set (suc k)) (numbers_are set k (omega (arith, high)))
  where
    by_test : (t : Bool) → AllByRecursion IsNumber (numbers_to set k) → AllByRecursion IsNumber (if t then numbers_to set k ++ suc k ∷ [] else numbers_to set k)
    by_test true h = all_and IsNumber (numbers_to set k) (suc k) h (omega arith, high)
    by_test false h = h

-- ---- the numbers up to k

none_above : (set d : ℕ) → (nat_le d 0 && has set d) ≡ false
none_above set zero = has_not_zero set
none_above set (suc d) = ap (λ b. b && has set (suc d)) (never d)
  where
    never : (d : ℕ) → nat_le (suc d) 0 ≡ false
    never d = grind arith

numbers_has : (set k d : ℕ) → k ≤ 32 → has (set_of (numbers_to set k)) d ≡ (nat_le d k && has set d)
unfolding IsNumber
numbers_has set zero d high = none_of_zero d ∙ sym (none_above set d)
numbers_has set (suc k) d high = by_test (has set (suc k)) refl (numbers_has set k d (omega (arith, high)))
  where
    same_or_less : (d k : ℕ) → (d == suc k) ≡ false → nat_le d k ≡ nat_le d (suc k)
    same_or_less d k h = grind arith

    at_last : (k : ℕ) → nat_le (suc k) (suc k) ≡ true
    at_last k = grind arith

    with_last : has set (suc k) ≡ true → (t : Bool) → (d == suc k) ≡ t → (t || (nat_le d k && has set d)) ≡ (nat_le d (suc k) && has set d)
    with_last is true e = subst (λ j. true ≡ (nat_le j (suc k) && has set j)) (sym (same_number d (suc k) e)) (sym (ap (λ b. b && has set (suc k)) (at_last k) ∙ is))
    with_last is false e = ap (λ b. b && has set d) (same_or_less d k e)

    without : has set (suc k) ≡ false → (t : Bool) → (d == suc k) ≡ t → (nat_le d k && has set d) ≡ (nat_le d (suc k) && has set d)
    without lacks true e = subst (λ j. (nat_le j k && has set j) ≡ (nat_le j (suc k) && has set j)) (sym (same_number d (suc k) e)) (ap (λ b. nat_le (suc k) k && b) lacks ∙ (none (nat_le (suc k) k) ∙ sym (ap (λ b. nat_le (suc k) (suc k) && b) lacks ∙ none (nat_le (suc k) (suc k)))))
      where
        none : (b : Bool) → (b && false) ≡ false
        none true = refl
        none false = refl
    without lacks false e = ap (λ b. b && has set d) (same_or_less d k e)

    by_test : (t : Bool) → has set (suc k) ≡ t → has (set_of (numbers_to set k)) d ≡ (nat_le d k && has set d)
        → has (set_of (if t then numbers_to set k ++ suc k ∷ [] else numbers_to set k)) d ≡ (nat_le d (suc k) && has set d)
    by_test true is before =
        has_last (numbers_to set k) (suc k) d (numbers_are set k (omega (arith, high))) (omega arith, high) ∙ (ap (λ b. (d == suc k) || b) before ∙ with_last is (d == suc k) refl)
    by_test false lacks before = before ∙ without lacks (d == suc k) refl

-- ---- the set

set_small : (ns : List ℕ) → AllByRecursion IsNumber ns → set_of ns < 2 ^ 32
unfolding IsNumber set_with
set_small [] are = omega arith
set_small (n ∷ ns) are = or_lt 32 (set_of ns) (2 ^ (n - 1)) (set_small ns are.1) (pow-lt {i = n - 1} {j = 32} (omega (arith, are.0.0, are.0.1)))

pub set_is : (set : ℕ) → set < 2 ^ 32 → set_of (nodes_of set) ≡ set
set_is set small = same_set (set_of (nodes_of set)) set (set_small (numbers_to set 32) (numbers_are set 32 (omega arith))) small (λ d. numbers_has set 32 d (omega arith) ∙ whole d (low_or_high d))
  where
    low_or_high : (d : ℕ) → (d ≤ 32) ⊎ (32 < d)
    low_or_high d = grind arith

    within : (d : ℕ) → d ≤ 32 → nat_le d 32 ≡ true
    within d h = grind arith

    without : (b : Bool) → (b && false) ≡ false
    without true = refl
    without false = refl

    whole : (d : ℕ) → (d ≤ 32) ⊎ (32 < d) → (nat_le d 32 && has set d) ≡ has set d
    whole d (inl low) = ap (λ b. b && has set d) (within d low)
    whole d (inr above) = ap (λ b. nat_le d 32 && b) (has_not_above set 32 d small above) ∙ (without (nat_le d 32) ∙ sym (has_not_above set 32 d small above))
