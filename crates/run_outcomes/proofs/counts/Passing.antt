-- The numbers that pass a test: the set of them, what is summed over them, and what is so of all.
use Rattle.std.specs.Prelude.{ℕ, ◌+◌, ◌≡◌, ◌≤◌, ◌==◌, ◌&&◌, ◌||◌, ◌++◌, nat_le, not, Bool, true, false, if◌then◌else◌, List, [], ◌∷◌, filter, suc, zero}
use Rattle.std.specs.List.{list_all, list_any}
use Rattle.std.proofs.Common.{refl, sym, ap, subst, ◌∙◌, arith}
use Rattle.cl_base.proofs.SetLemmas.{none_of_zero}
use Rattle.cl_base.specs.Sets.{has}
use Rattle.cmm_attempt.proofs.Basics.{false_true}
use Rattle.history.specs.Attempts.{set_of}
use Rattle.history.specs.Setting.{all_to}
use Rattle.quorum_votes.specs.Sums.{sum_to}
use Rattle.run_outcomes.proofs.counts.Places.{has_set_with}

-- ---- sets of the numbers that pass a test

or_first : (a b : Bool) → a ≡ true → (a || b) ≡ true
or_first true b h = refl
or_first false b h = absurd (false_true h)

any_last : (f test : ℕ → Bool) (xs : List ℕ) (n : ℕ) → list_any f (filter test (xs ++ n ∷ [])) ≡ (list_any f (filter test xs) || (test n && f n))
any_last f test [] n = by_test (test n)
  where
    by_test : (t : Bool) → list_any f (if t then n ∷ [] else []) ≡ (t && f n)
    by_test true = or_false (f n)
      where
        or_false : (b : Bool) → (b || false) ≡ b
        or_false true = refl
        or_false false = refl
    by_test false = refl
any_last f test (x ∷ xs) n = by_test (test x) (any_last f test xs n)
  where
    by_test : (t : Bool) → list_any f (filter test (xs ++ n ∷ [])) ≡ (list_any f (filter test xs) || (test n && f n))
        → list_any f (if t then x ∷ filter test (xs ++ n ∷ []) else filter test (xs ++ n ∷ [])) ≡ (list_any f (if t then x ∷ filter test xs else filter test xs) || (test n && f n))
    by_test true h = ap (λ b. f x || b) h ∙ sym (or_over (f x) (list_any f (filter test xs)) (test n && f n))
      where
        or_over : (a b c : Bool) → ((a || b) || c) ≡ (a || (b || c))
        or_over true b c = refl
        or_over false b c = refl
    by_test false h = h

any_to : (test : ℕ → Bool) (k d : ℕ) → 1 ≤ d → list_any (λ n. n == d) (filter test (all_to k)) ≡ (nat_le d k && test d)
any_to test zero d low = sym (none_to (nat_le d 0) (test d) (above d low))
  where
    above : (d : ℕ) → 1 ≤ d → nat_le d 0 ≡ false
    above d l = grind arith

    none_to : (a b : Bool) → a ≡ false → (a && b) ≡ false
    none_to true b h = absurd (false_true (sym h))
    none_to false b h = refl
any_to test (suc k) d low = any_last (λ n. n == d) test (all_to k) (suc k) ∙ (ap (λ b. b || (test (suc k) && (suc k == d))) (any_to test k d low) ∙ by_same (suc k == d) refl)
  where
    here : (t : Bool) → (suc k == d) ≡ t → t ≡ true → ((nat_le d k && test d) || (test (suc k) && true)) ≡ (nat_le d (suc k) && test d)
    here t e is =
        let at : suc k ≡ d = same_at (suc k) d (e ∙ is) in
        subst (λ j. ((nat_le j k && test j) || (test (suc k) && true)) ≡ (nat_le j (suc k) && test j)) at
        (bools (nat_le (suc k) k) (nat_le (suc k) (suc k)) (test (suc k)) (not_le k) (self_le (suc k)))
      where
        same_at : (a b : ℕ) → (a == b) ≡ true → a ≡ b
        same_at a b h = grind arith

        not_le : (k : ℕ) → nat_le (suc k) k ≡ false
        not_le k = grind arith

        self_le : (k : ℕ) → nat_le k k ≡ true
        self_le k = grind arith

        bools : (a b c : Bool) → a ≡ false → b ≡ true → ((a && c) || (c && true)) ≡ (b && c)
        bools true b c h i = absurd (false_true (sym h))
        bools false false c h i = absurd (false_true i)
        bools false true true h i = refl
        bools false true false h i = refl

    there : (suc k == d) ≡ false → ((nat_le d k && test d) || (test (suc k) && false)) ≡ (nat_le d (suc k) && test d)
    there other = bools (nat_le d k) (nat_le d (suc k)) (test d) (test (suc k)) (same_le k d other)
      where
        same_le : (k d : ℕ) → (suc k == d) ≡ false → nat_le d k ≡ nat_le d (suc k)
        same_le k d h = grind arith

        bools : (a b c e : Bool) → a ≡ b → ((a && c) || (e && false)) ≡ (b && c)
        bools true true true e h = refl
        bools true true false true h = refl
        bools true true false false h = refl
        bools false false c true h = refl
        bools false false c false h = refl
        bools true false c e h = absurd (false_true (sym h))
        bools false true c e h = absurd (false_true h)

    by_same : (t : Bool) → (suc k == d) ≡ t → ((nat_le d k && test d) || (test (suc k) && t)) ≡ (nat_le d (suc k) && test d)
    by_same true e = here true e refl
    by_same false e = there e

AreNumbers : List ℕ → Type 0
AreNumbers [] = Unit {0}
AreNumbers (n ∷ ns) = (1 ≤ n) × (n ≤ 32) × AreNumbers ns

set_has : (ns : List ℕ) (d : ℕ) → AreNumbers ns → has (set_of ns) d ≡ list_any (λ n. n == d) ns
unfolding AreNumbers
set_has [] d are = none_of_zero d
set_has (n ∷ ns) d are = has_set_with (set_of ns) n d are.0 are.1 ∙ (ap (λ b. b || has (set_of ns) d) (turned d n) ∙ ap (λ b. (n == d) || b) (set_has ns d are.2))
  where
    turned : (a b : ℕ) → (a == b) ≡ (b == a)
    turned a b = grind arith

numbers_last : (test : ℕ → Bool) (xs : List ℕ) (n : ℕ) → 1 ≤ n → n ≤ 32 → AreNumbers (filter test xs) → AreNumbers (filter test (xs ++ n ∷ []))
unfolding AreNumbers
numbers_last test [] n low high h = by_test (test n)
  where
    by_test : (t : Bool) → AreNumbers (if t then n ∷ [] else [])
    by_test true = (low, high, tt)
    by_test false = tt
numbers_last test (x ∷ xs) n low high h = by_test (test x) h (λ rest. numbers_last test xs n low high rest)
  where
    by_test : (t : Bool) → AreNumbers (if t then x ∷ filter test xs else filter test xs) → (AreNumbers (filter test xs) → AreNumbers (filter test (xs ++ n ∷ [])))
        → AreNumbers (if t then x ∷ filter test (xs ++ n ∷ []) else filter test (xs ++ n ∷ []))
    by_test true h next = (h.0, h.1, next h.2)
    by_test false h next = next h

are_numbers : (test : ℕ → Bool) (k : ℕ) → k ≤ 32 → AreNumbers (filter test (all_to k))
unfolding AreNumbers
are_numbers test zero high = tt
are_numbers test (suc k) high = numbers_last test (all_to k) (suc k) (low k) high (are_numbers test k (less k high))
  where
    low : (k : ℕ) → 1 ≤ suc k
    low k = omega arith

    less : (k : ℕ) → suc k ≤ 32 → k ≤ 32
    less k l = omega (arith, l)

-- the set of the devices that pass a test
pub set_passes : (test : ℕ → Bool) (d : ℕ) → 1 ≤ d → d ≤ 16 → has (set_of (filter test (all_to 16))) d ≡ test d
set_passes test d low high = set_has (filter test (all_to 16)) d (are_numbers test 16 (omega arith)) ∙ (any_to test 16 d low ∙ ap (λ b. b && test d) (within d high))
  where
    within : (d : ℕ) → d ≤ 16 → nat_le d 16 ≡ true
    within d l = grind arith

-- ---- sums

pub same_sum : (f g : ℕ → ℕ) (k : ℕ) → ((d : ℕ) → 1 ≤ d → d ≤ k → f d ≡ g d) → sum_to f k ≡ sum_to g k
unfolding sum_to
same_sum f g zero h = refl
same_sum f g (suc k) h = ap (λ z. z + f (suc k)) (same_sum f g k (λ d low high. h d low (more d k high))) ∙ ap (λ z. sum_to g k + z) (h (suc k) (least k) (omega arith))
  where
    more : (d k : ℕ) → d ≤ k → d ≤ suc k
    more d k l = omega (arith, l)

    least : (k : ℕ) → 1 ≤ suc k
    least k = omega arith

pub less_sum : (f g : ℕ → ℕ) (k : ℕ) → ((d : ℕ) → 1 ≤ d → d ≤ k → f d ≤ g d) → sum_to f k ≤ sum_to g k
unfolding sum_to
less_sum f g zero h = omega arith
less_sum f g (suc k) h = both_less (sum_to f k) (sum_to g k) (f (suc k)) (g (suc k)) (less_sum f g k (λ d low high. h d low (more d k high))) (h (suc k) (least k) (omega arith))
  where
    more : (d k : ℕ) → d ≤ k → d ≤ suc k
    more d k l = omega (arith, l)

    least : (k : ℕ) → 1 ≤ suc k
    least k = omega arith

    both_less : (a b c d : ℕ) → a ≤ b → c ≤ d → a + c ≤ b + d
    both_less a b c d l m = omega (arith, l, m)

-- ---- all that pass a test

pub and_both : (a b : Bool) → a ≡ true → b ≡ true → (a && b) ≡ true
and_both true b h k = k
and_both false b h k = absurd (false_true h)

pub and_parts : (a b : Bool) → (a && b) ≡ true → (a ≡ true) × (b ≡ true)
and_parts true b h = (refl, h)
and_parts false b h = absurd (false_true h)

pub not_parts : (b : Bool) → not b ≡ true → b ≡ false
not_parts true h = absurd (false_true h)
not_parts false h = refl

all_last : (f test : ℕ → Bool) (xs : List ℕ) (n : ℕ) → list_all f (filter test xs) ≡ true → (test n ≡ true → f n ≡ true) → list_all f (filter test (xs ++ n ∷ [])) ≡ true
all_last f test [] n h one = by_test (test n) one
  where
    by_test : (t : Bool) → (t ≡ true → f n ≡ true) → list_all f (if t then n ∷ [] else []) ≡ true
    by_test true k = and_both (f n) true (k refl) refl
    by_test false k = refl
all_last f test (x ∷ xs) n h one = by_test (test x) h (λ rest. all_last f test xs n rest one)
  where
    by_test : (t : Bool) → list_all f (if t then x ∷ filter test xs else filter test xs) ≡ true → (list_all f (filter test xs) ≡ true → list_all f (filter test (xs ++ n ∷ [])) ≡ true)
        → list_all f (if t then x ∷ filter test (xs ++ n ∷ []) else filter test (xs ++ n ∷ [])) ≡ true
    by_test true h next =
        let parts : (f x ≡ true) × (list_all f (filter test xs) ≡ true) = and_parts (f x) (list_all f (filter test xs)) h in
        and_both (f x) (list_all f (filter test (xs ++ n ∷ []))) parts.0 (next parts.1)
    by_test false h next = next h

pub all_pass : (f test : ℕ → Bool) (k : ℕ) → ((d : ℕ) → 1 ≤ d → d ≤ k → test d ≡ true → f d ≡ true) → list_all f (filter test (all_to k)) ≡ true
all_pass f test zero h = refl
all_pass f test (suc k) h = all_last f test (all_to k) (suc k) (all_pass f test k (λ d low high is. h d low (more d k high) is)) (λ is. h (suc k) (least k) (omega arith) is)
  where
    more : (d k : ℕ) → d ≤ k → d ≤ suc k
    more d k l = omega (arith, l)

    least : (k : ℕ) → 1 ≤ suc k
    least k = omega arith
