-- Each device that an attempt has asked a member to seize is one of the header.
use Rattle.std.specs.Prelude.{ℕ, ◌+◌, ◌<◌, ◌≤◌, ◌==◌, ◌&&◌, ◌≡◌, ◌⊎◌, Bool, true, false, List, [], ◌∷◌, Some, length, if◌then◌else◌}
use Rattle.std.specs.List.{AllByRecursion, list_any}
use Rattle.std.proofs.Common.{arith, refl, subst, suc, zero, inl, inr}
use Rattle.attempt_laws.specs.Asking.{entry_of}
use Rattle.cl_base.specs.Sets.{has}
use Rattle.cl_base.specs.declared.header.HeaderDevice.{HeaderDevice}
use Rattle.cmm_attempt.proofs.Basics.{and_cases, false_true, none_some, or_cases, same_some}
use Rattle.cmm_attempt.specs.declared.seizing.Seizing.{Seizing}
use Rattle.history.specs.Setting.{all_to}
use Rattle.node_model.specs.Clusters.{has_path}
use Rattle.world_model.specs.First.{attached_from}
use Rattle.run_outcomes.proofs.phases.Gathering.{any_first, any_last}

pub of_entry : (P : Seizing → Type 0) (es : List Seizing) (d : ℕ) (e : Seizing) → AllByRecursion P es → entry_of es d ≡ Some e → P e
of_entry P [] d e all h = absurd (none_some e h)
of_entry P (x ∷ es) d e all h = by_test (x.attached.device == d) (λ k. of_entry P es d e all.1 k) h
  where
    by_test : (b : Bool) → (entry_of es d ≡ Some e → P e) → (if b then Some x else entry_of es d) ≡ Some e → P e
    by_test true rest k = subst P (same_some x e k) all.0
    by_test false rest k = rest k

-- the devices that are numbered from k on
in_from : (k : ℕ) (ds : List HeaderDevice) (n d : ℕ) → has_path (attached_from k ds) n d ≡ true → (k ≤ d) × (d < k + length ds)
in_from k [] n d h = absurd (false_true h)
in_from k (x ∷ ds) n d h = by_cases (λ there. in_from (k + 1) ds n d there) (or_cases ((k == d) && has x.attached n) (has_path (attached_from (k + 1) ds) n d) h)
  where
    first : (k d l : ℕ) → (k == d) ≡ true → (k ≤ d) × (d < k + suc l)
    first k d l is = (low k d is, high k d l is)
      where
        low : (k d : ℕ) → (k == d) ≡ true → k ≤ d
        low k d is = grind arith

        high : (k d l : ℕ) → (k == d) ≡ true → d < k + suc l
        high k d l is = grind arith

    later_low : (k d : ℕ) → k + 1 ≤ d → k ≤ d
    later_low k d q = omega (arith, q)

    later_high : (k d l : ℕ) → d < k + 1 + l → d < k + suc l
    later_high k d l q = omega (arith, q)

    by_cases : (has_path (attached_from (k + 1) ds) n d ≡ true → (k + 1 ≤ d) × (d < k + 1 + length ds)) → (((k == d) && has x.attached n) ≡ true) ⊎ (has_path (attached_from (k + 1) ds) n d ≡ true) → (k ≤ d) × (d < k + length (x ∷ ds))
    by_cases rest (inl here) = first k d (length ds) (and_cases (k == d) (has x.attached n) here).0
    by_cases rest (inr there) = (later_low k d (rest there).0, later_high k d (length ds) (rest there).1)

in_all : (n d : ℕ) → 1 ≤ d → d ≤ n → list_any (λ k. k == d) (all_to n) ≡ true
in_all zero d low high = absurd (none d low high)
  where
    none : (d : ℕ) → 1 ≤ d → d ≤ 0 → ⊥
    none d low high = omega (arith, low, high)
in_all (suc n) d low high = by_cases (λ less. in_all n d low less) (last n d high)
  where
    last : (n d : ℕ) → d ≤ suc n → (d ≤ n) ⊎ ((suc n == d) ≡ true)
    last n d q = by_test (suc n == d) refl
      where
        less : (n d : ℕ) → d ≤ suc n → (suc n == d) ≡ false → d ≤ n
        less n d q is = grind arith

        by_test : (b : Bool) → (suc n == d) ≡ b → (d ≤ n) ⊎ ((suc n == d) ≡ true)
        by_test true is = inr is
        by_test false is = inl (less n d q is)

    by_cases : (d ≤ n → list_any (λ k. k == d) (all_to n) ≡ true) → (d ≤ n) ⊎ ((suc n == d) ≡ true) → list_any (λ k. k == d) (all_to (suc n)) ≡ true
    by_cases rest (inl less) = any_first (λ k. k == d) (all_to n) (suc n ∷ []) (rest less)
    by_cases rest (inr is) = any_last (λ k. k == d) (all_to n) (suc n) is

pub listed : (ds : List HeaderDevice) (n d : ℕ) → has_path (attached_from 1 ds) n d ≡ true → list_any (λ k. k == d) (all_to (length ds)) ≡ true
listed ds n d h = let two : (1 ≤ d) × (d < 1 + length ds) = in_from 1 ds n d h in in_all (length ds) d two.0 (below d (length ds) two.1)
  where
    below : (d l : ℕ) → d < 1 + l → d ≤ l
    below d l q = omega (arith, q)
