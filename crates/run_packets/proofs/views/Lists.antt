-- The list of a set, and the numbers that pass a test.
use Rattle.std.specs.Prelude.{ℕ, zero, suc, ◌≡◌, ◌≢◌, ◌≤◌, ◌⊎◌, ◌++◌, Bool, true, false, List, [], ◌∷◌}
use Rattle.std.specs.List.{AllByRecursion, filter}
use Rattle.std.proofs.Common.{refl, sym, ap, subst, ◌∙◌, inl, inr, arith}
use Rattle.std.proofs.lemmas.List.{append-nil}
use Rattle.std.proofs.lemmas.List.Elements.{filter-append}
use Rattle.attempt_laws.proofs.Walk.{if_with}
use Rattle.cl_base.specs.Numbers.{numbers_to}
use Rattle.cl_base.specs.Sets.{has}
use Rattle.history.specs.Setting.{all_to}
use Rattle.machine_base.proofs.Puts.{same_or_not}
use Rattle.run_attempts.proofs.Ages.{if_false, if_true}

passes : (P : ℕ → Bool) (k : ℕ) → P k ≡ true → filter P (k ∷ []) ≡ k ∷ []
passes P k is = if_true (P k) (k ∷ []) [] is

fails : (P : ℕ → Bool) (k : ℕ) → P k ≡ false → filter P (k ∷ []) ≡ []
fails P k is = if_false (P k) (k ∷ []) [] is

-- the next number is left out
without_next : (P : ℕ → Bool) (k : ℕ) → P (suc k) ≡ false → filter P (all_to (suc k)) ≡ filter P (all_to k)
without_next P k is =
    filter-append P (all_to k) (suc k ∷ []) ∙ (ap (λ (ns : List ℕ). filter P (all_to k) ++ ns) (fails P (suc k) is) ∙ append-nil (filter P (all_to k)))

with_next : (P : ℕ → Bool) (k : ℕ) → P (suc k) ≡ true → filter P (all_to (suc k)) ≡ filter P (all_to k) ++ suc k ∷ []
with_next P k is = filter-append P (all_to k) (suc k ∷ []) ∙ ap (λ (ns : List ℕ). filter P (all_to k) ++ ns) (passes P (suc k) is)

-- a set has the numbers that pass
pub listed_so : (set k : ℕ) (P : ℕ → Bool) → k ≤ 32 → ((m : ℕ) → 1 ≤ m → m ≤ 32 → has set m ≡ P m) → numbers_to set k ≡ filter P (all_to k)
listed_so set zero P few h = refl
listed_so set (suc k) P few h =
    let earlier : numbers_to set k ≡ filter P (all_to k) = listed_so set k P (omega (arith, few)) h in
    let same : has set (suc k) ≡ P (suc k) = h (suc k) (omega arith) few in
    if_with (λ (ns : List ℕ). ns ≡ filter P (all_to (suc k))) (has set (suc k)) (has set (suc k)) (numbers_to set k ++ suc k ∷ []) (numbers_to set k) refl
    (λ is. ap (λ (ns : List ℕ). ns ++ suc k ∷ []) earlier ∙ sym (with_next P k (sym same ∙ is)))
    (λ lacks. earlier ∙ sym (without_next P k (sym same ∙ lacks)))

last_of : (P : ℕ → Type 0) (ns : List ℕ) (k : ℕ) → AllByRecursion P (ns ++ k ∷ []) → P k
last_of P [] k h = h.0
last_of P (n ∷ ns) k h = last_of P ns k h.1

-- where none above n passes, the numbers up to n will do
pub cut_at : (P : ℕ → Bool) (n k : ℕ) → n ≤ k → AllByRecursion (λ m. m ≤ n) (filter P (all_to k)) → filter P (all_to k) ≡ filter P (all_to n)
cut_at P n zero few h = ap (λ j. filter P (all_to j)) (none n few)
  where
    none : (n : ℕ) → n ≤ 0 → 0 ≡ n
    none n few = omega (arith, few)
cut_at P n (suc k) few h = go (same_or_not n (suc k)) (λ less below. cut_at P n k less below)
  where
    too_many : (n k : ℕ) → n ≤ k → suc k ≤ n → ⊥
    too_many n k less most = omega (arith, less, most)

    by_test : n ≤ k → (t : Bool) → P (suc k) ≡ t → (n ≤ k → AllByRecursion (λ m. m ≤ n) (filter P (all_to k)) → filter P (all_to k) ≡ filter P (all_to n)) → filter P (all_to (suc k)) ≡ filter P (all_to n)
    by_test less true is earlier =
        absurd (too_many n k less (last_of (λ m. m ≤ n) (filter P (all_to k)) (suc k) (subst (AllByRecursion (λ m. m ≤ n)) (with_next P k is) h)))
    by_test less false is earlier =
        without_next P k is ∙ earlier less (subst (AllByRecursion (λ m. m ≤ n)) (without_next P k is) h)

    go : (n ≡ suc k) ⊎ (n ≢ suc k) → (n ≤ k → AllByRecursion (λ m. m ≤ n) (filter P (all_to k)) → filter P (all_to k) ≡ filter P (all_to n)) → filter P (all_to (suc k)) ≡ filter P (all_to n)
    go (inl e) earlier = ap (λ j. filter P (all_to j)) (sym e)
    go (inr ne) earlier = by_test (omega (arith, few, ne)) (P (suc k)) refl earlier
