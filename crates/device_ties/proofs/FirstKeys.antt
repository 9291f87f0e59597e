-- The keys that are registered at first are own keys, of the nodes of the set that have a path.
use Rattle.std.proofs.Common.{◌≡◌, ℕ, zero, suc, ◌≤◌, ◌==◌, nat_le, ◌⊎◌, inl, inr, Bool, true, false, ◌&&◌, ◌||◌, cond, refl, sym, ap, subst, ◌∙◌, arith, add-one}
use Rattle.std.proofs.lemmas.Bool.{cond_both, cases_Bool, cond-true, cond-false, and_left, and_right, lt-leb}
use Rattle.std.proofs.lemmas.Bool.Decides.{nat_tests}
use Rattle.cl_base.specs.Sets.{has}
use Rattle.cl_base.proofs.SetLemmas.{has_not_zero}
use Rattle.pgr_device.specs.Device as pgr
use Rattle.pgr_device.specs.Device.{first_keys}
use Rattle.pgr_device.specs.Registered.{is_registered}
use Rattle.pgr_device.proofs.FirstKeys.{first_keys_more}
use Rattle.device_ties.specs.Devices.{OwnKeys}
use Rattle.device_ties.specs.Tasks.{is_member}
use Rattle.device_ties.specs.Laws.{FirstKeysAreTied}
use Rattle.device_ties.proofs.Registrations.{added, added_has, added_own}
use Rattle.device_ties.proofs.Others.{first_tied}

one_more : (k n : ℕ) (x : Bool) → (suc k ≡ n → x ≡ true) → ((nat_le n k && x) || (suc k == n)) ≡ (nat_le n (suc k) && x)
one_more k n x h = grind (arith, nat_tests)

no_more : (k n : ℕ) (x : Bool) → (suc k ≡ n → x ≡ false) → (nat_le n k && x) ≡ (nat_le n (suc k) && x)
no_more k n x h = grind (arith, nat_tests)

module _ (paths nodes cluster : ℕ) where
  has_both : ℕ → Bool
  has_both n = has nodes n && has paths n

  more : (k : ℕ) → first_keys paths nodes cluster (suc k)
      ≡ cond (has nodes (suc k) && has paths (suc k)) (added cluster (suc k) (first_keys paths nodes cluster k)) (first_keys paths nodes cluster k)
  more k = rw add-one at (first_keys_more paths nodes cluster k)

  registered_below : (k n : ℕ) → is_registered (first_keys paths nodes cluster k) n ≡ (nat_le n k && (has nodes n && has paths n))
  registered_below zero zero = sym (and_right (nat_le 0 0) (has nodes 0 && has paths 0) (and_left (has nodes 0) (has paths 0) (has_not_zero nodes)))
  registered_below zero (suc n) = sym (and_left (nat_le (suc n) 0) (has nodes (suc n) && has paths (suc n)) (lt-leb (suc n) 0 (omega arith)))
  registered_below (suc k) n = go (cases_Bool (has nodes (suc k) && has paths (suc k))) (registered_below k n)
    where
      at : (b : Bool) → (has nodes (suc k) && has paths (suc k)) ≡ b → suc k ≡ n → (has nodes n && has paths n) ≡ b
      at b h e = subst (λ m. (has nodes m && has paths m) ≡ b) e h

      go : ((has nodes (suc k) && has paths (suc k)) ≡ true) ⊎ ((has nodes (suc k) && has paths (suc k)) ≡ false)
          → is_registered (first_keys paths nodes cluster k) n ≡ (nat_le n k && (has nodes n && has paths n))
          → is_registered (first_keys paths nodes cluster (suc k)) n ≡ (nat_le n (suc k) && (has nodes n && has paths n))
      go (inl h) before = ap (λ rs. is_registered rs n) (more k ∙ cond-true _ (added cluster (suc k) (first_keys paths nodes cluster k)) (first_keys paths nodes cluster k) h)
          ∙ added_has cluster (suc k) (first_keys paths nodes cluster k) n ∙ ap (λ b. b || (suc k == n)) before ∙ one_more k n (has nodes n && has paths n) (at true h)
      go (inr h) before = ap (λ rs. is_registered rs n) (more k ∙ cond-false _ (added cluster (suc k) (first_keys paths nodes cluster k)) (first_keys paths nodes cluster k) h)
          ∙ before ∙ no_more k n (has nodes n && has paths n) (at false h)

  own_below : (k : ℕ) → k ≤ 32 → OwnKeys cluster (first_keys paths nodes cluster k)
  own_below zero le = tt
  own_below (suc k) le = go (own_below k (omega arith))
    where
      none : is_registered (first_keys paths nodes cluster k) (suc k) ≡ false
      none = registered_below k (suc k) ∙ and_left (nat_le (suc k) k) (has nodes (suc k) && has paths (suc k)) (lt-leb (suc k) k (omega arith))

      go : OwnKeys cluster (first_keys paths nodes cluster k) → OwnKeys cluster (first_keys paths nodes cluster (suc k))
      go before = subst (OwnKeys cluster) (sym (more k)) (cond_both (has nodes (suc k) && has paths (suc k)) (added cluster (suc k) (first_keys paths nodes cluster k)) (first_keys paths nodes cluster k)
          (OwnKeys cluster) (λ _. added_own cluster (suc k) (first_keys paths nodes cluster k) (omega arith) le none before) (λ _. before))

and_last : (a b c : Bool) → (a && (b && c)) ≡ ((a && b) && c)
and_last true b c = refl
and_last false b c = refl

pub first_keys_tied : FirstKeysAreTied
first_keys_tied cluster paths nodes = first_tied cluster (pgr.with_keys paths nodes cluster) (λ n. is_member nodes n && has paths n) (own_below paths nodes cluster 32 (omega arith))
    (λ n. registered_below paths nodes cluster 32 n ∙ and_last (nat_le n 32) (has nodes n) (has paths n)) refl refl refl
