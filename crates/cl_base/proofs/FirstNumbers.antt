-- The set of the numbers 1 to k has these.
use Rattle.std.proofs.Common.{◌≡◌, ℕ, ◌+◌, ◌-◌, ◌*◌, ◌%◌, ◌^◌, ◌<◌, ◌≤◌, ◌==◌, ◌||◌, ◌&&◌, nat_le, zero, suc, refl, sym, ◌∙◌, subst, arith, bit_or}
use Rattle.std.proofs.lemmas.Bool.Decides.{nat_tests}
use Rattle.cl_base.specs.Sets.{has, set_with}
use Rattle.cl_base.specs.Numbers.{first_numbers}
use Rattle.cl_base.proofs.SetLemmas.{has_with, or_bit_value, none_of_zero}

has_set_with : (s n m : ℕ) → 1 ≤ n → n ≤ 32 → has (set_with s n) m ≡ ((m == n) || has s m)
has_set_with s n m low high = subst (λ z. has z m ≡ ((m == n) || has s m)) (or_bit_value s n high) (has_with s n low high m)

one_more : (k m : ℕ) → ((m == suc k) || (nat_le 1 m && nat_le m k)) ≡ (nat_le 1 m && nat_le m (suc k))
one_more k m = grind (arith, nat_tests)

none_to_zero : (m : ℕ) → (nat_le 1 m && nat_le m 0) ≡ Rattle.std.specs.Prelude.false
none_to_zero m = grind (arith, nat_tests)

pub has_first : (k m : ℕ) → k ≤ 32 → has (first_numbers k) m ≡ (nat_le 1 m && nat_le m k)
has_first zero m le = none_of_zero m ∙ sym (none_to_zero m)
has_first (suc k) m le =
    let below : has (first_numbers k) m ≡ (nat_le 1 m && nat_le m k) = has_first k m (omega arith) in
    has_set_with (first_numbers k) (suc k) m (omega arith) (omega arith) ∙ rw below (one_more k m)

pub first_done : (bits n m : ℕ) → bits ≡ first_numbers n → n ≤ 32 → has bits m ≡ (nat_le 1 m && nat_le m n)
first_done bits n m are le = subst (λ z. has z m ≡ (nat_le 1 m && nat_le m n)) (sym are) (has_first n m le)
