-- Which numbers a set has, read off its bits.
use Rattle.std.proofs.Common.{◌≡◌, ◌≢◌, ℕ, ◌+◌, ◌-◌, ◌*◌, ◌%◌, ◌^◌, ◌/◌, ◌<◌, ◌≤◌, ◌==◌, ◌||◌, ◌&&◌, ◌⊎◌, inl, inr, not, Bool, true, false, suc, zero, refl, sym, subst, ◌∙◌, arith, bit_and, bit_or, w32}
use Rattle.std.specs.Int.{bit_at}
use Rattle.std.proofs.lemmas.Nat.Bits.{shr_and_one, bit_at-zero, bit_at_above, bit_at_set_same, bit_at_set_other, bit_at_clear_same, bit_at_clear_other, same_from_bits_below, bit_at-lt, bit_at_and}
use Rattle.std.proofs.lemmas.Bool.{le-leb}
use Rattle.std.proofs.lemmas.Bool.Decides.{eqb_tells, leb_tells, nat_tests}
use Rattle.std.proofs.lemmas.Nat.{or_lt}
use Rattle.std.proofs.Math.Pow.{pow_mono, pow-lt}
use Rattle.std.proofs.Math.Nat.{mod-le}
use Rattle.std.specs.Int.Bits.{and_le_l}
use Rattle.cl_base.specs.Sets.{has, set_with, set_without}

-- number 0 is in no set
pub has_not_zero : (s : ℕ) → has s 0 ≡ false
unfolding has
has_not_zero s = refl

pub has_at : (s n : ℕ) → 1 ≤ n → has s n ≡ (bit_at s (n - 1) == 1)
unfolding has
has_at s n le = rw (le-leb 1 n le) refl

-- the number 0 is the empty set
pub none_of_zero : (n : ℕ) → has 0 n ≡ false
none_of_zero zero = has_not_zero 0
none_of_zero (suc n) = has_at 0 (suc n) (omega arith) ∙ rw (bit_at-zero (suc n - 1)) refl

-- nor is a number past the width
pub has_not_above : (s w n : ℕ) → s < 2 ^ w → w < n → has s n ≡ false
has_not_above s w n sm lt =
    let zero_there : bit_at s (n - 1) ≡ 0 = bit_at_above s w (n - 1) sm (omega arith) in
    has_at s n (omega arith) ∙ rw zero_there refl

or_bit : (s n m : ℕ) → 1 ≤ n → n ≤ 32 → 1 ≤ m → ((m == n) ≡ true) × (m ≡ n) ⊎ ((m == n) ≡ false) × (m ≢ n) → has (bit_or s (1 * 2 ^ (n - 1) % 4294967296)) m ≡ ((m == n) || has s m)
or_bit s n m low high lm (inl (test, same)) =
    let there : bit_at (bit_or s (1 * 2 ^ (n - 1) % 4294967296)) (m - 1) ≡ 1 = rw same (bit_at_set_same w32 s (n - 1) (omega arith)) in
    rw (has_at (bit_or s (1 * 2 ^ (n - 1) % 4294967296)) m lm, there, test) refl
or_bit s n m low high lm (inr (test, other)) =
    let there : bit_at (bit_or s (1 * 2 ^ (n - 1) % 4294967296)) (m - 1) ≡ bit_at s (m - 1) = bit_at_set_other w32 s (n - 1) (omega arith) (m - 1) (λ e. other (omega arith)) in
    rw (has_at (bit_or s (1 * 2 ^ (n - 1) % 4294967296)) m lm, there, test, has_at s m lm) refl

pub has_with : (s n : ℕ) → 1 ≤ n → n ≤ 32 → (m : ℕ) → has (bit_or s (1 * 2 ^ (n - 1) % 4294967296)) m ≡ ((m == n) || has s m)
has_with s n low high zero = rw (has_not_zero (bit_or s (1 * 2 ^ (n - 1) % 4294967296)), has_not_zero s) (grind (arith, nat_tests))
has_with s n low high (suc m) = or_bit s n (suc m) low high (omega arith) (eqb_tells (suc m) n)

clear_bit : (s n m : ℕ) → 1 ≤ n → n ≤ 32 → 1 ≤ m → s < 2 ^ 32 → ((m == n) ≡ true) × (m ≡ n) ⊎ ((m == n) ≡ false) × (m ≢ n) → m ≤ 32
    → has (bit_and s (4294967295 - 1 * 2 ^ (n - 1) % 4294967296)) m ≡ (not (m == n) && has s m)
clear_bit s n m low high lm sm (inl (test, same)) mh =
    let there : bit_at (bit_and s (4294967295 - 1 * 2 ^ (n - 1) % 4294967296)) (m - 1) ≡ 0 = rw same (bit_at_clear_same w32 s (n - 1) (omega arith)) in
    rw (has_at (bit_and s (4294967295 - 1 * 2 ^ (n - 1) % 4294967296)) m lm, there, test) refl
clear_bit s n m low high lm sm (inr (test, other)) mh =
    let there : bit_at (bit_and s (4294967295 - 1 * 2 ^ (n - 1) % 4294967296)) (m - 1) ≡ bit_at s (m - 1) = bit_at_clear_other w32 s (n - 1) (omega arith) (m - 1) (omega arith) (λ e. other (omega arith)) in
    rw (has_at (bit_and s (4294967295 - 1 * 2 ^ (n - 1) % 4294967296)) m lm, there, test, has_at s m lm) refl

clear_above : (s mask n m : ℕ) → 1 ≤ n → n ≤ 32 → s < 2 ^ 32 → 32 < m → has (bit_and s mask) m ≡ (not (m == n) && has s m)
clear_above s mask n m low high sm lt =
    let gone : bit_at s (m - 1) ≡ 0 = bit_at_above s 32 (m - 1) sm (omega arith) in
    let there : bit_at (bit_and s mask) (m - 1) ≡ 0 = bit_at_and s mask (m - 1) ∙ rw gone (grind arith) in
    let absent : has s m ≡ false = has_not_above s 32 m sm lt in
    rw (has_at (bit_and s mask) m (omega arith), there, absent) (grind (arith, nat_tests))

without_within : (s n m : ℕ) → 1 ≤ n → n ≤ 32 → 1 ≤ m → s < 2 ^ 32 → (m ≤ 32) ⊎ (32 < m)
    → has (bit_and s (4294967295 - 1 * 2 ^ (n - 1) % 4294967296)) m ≡ (not (m == n) && has s m)
without_within s n m low high lm sm (inl mh) = clear_bit s n m low high lm sm (eqb_tells m n) mh
without_within s n m low high lm sm (inr lt) = clear_above s (4294967295 - 1 * 2 ^ (n - 1) % 4294967296) n m low high sm lt

within_or_above : {m : ℕ} {t : Bool} → (t ≡ true) × (m ≤ 32) ⊎ (t ≡ false) × (32 < m) → (m ≤ 32) ⊎ (32 < m)
within_or_above (inl (_, le)) = inl le
within_or_above (inr (_, lt)) = inr lt

pub has_without : (s n : ℕ) → 1 ≤ n → n ≤ 32 → s < 2 ^ 32 → (m : ℕ) → has (bit_and s (4294967295 - 1 * 2 ^ (n - 1) % 4294967296)) m ≡ (not (m == n) && has s m)
has_without s n low high sm zero = rw (has_not_zero (bit_and s (4294967295 - 1 * 2 ^ (n - 1) % 4294967296)), has_not_zero s) (grind (arith, nat_tests))
has_without s n low high sm (suc m) = without_within s n (suc m) low high (omega arith) sm (within_or_above (leb_tells (suc m) 32))

pub tests_bit : (s n : ℕ) → 1 ≤ n → (bit_and (s / 2 ^ (n - 1)) 1 == 1) ≡ has s n
tests_bit s n low = rw (shr_and_one s (n - 1)) (sym (has_at s n low))

at_next : (s i : ℕ) → has s (i + 1) ≡ (bit_at s i == 1)
at_next s i =
    let same : i + 1 - 1 ≡ i = omega arith in
    subst (λ k. has s (i + 1) ≡ (bit_at s k == 1)) same (has_at s (i + 1) (omega arith))

same_bit : (a b i : ℕ) → has a (i + 1) ≡ has b (i + 1) → bit_at a i ≡ bit_at b i
same_bit a b i h =
    let tests : (bit_at a i == 1) ≡ (bit_at b i == 1) = sym (at_next a i) ∙ h ∙ at_next b i in
    let small_a : bit_at a i < 2 = bit_at-lt a i in
    let small_b : bit_at b i < 2 = bit_at-lt b i in
    grind (arith, nat_tests)

-- sets with the same numbers are the same
pub same_set : (a b : ℕ) → a < 2 ^ 32 → b < 2 ^ 32 → ((n : ℕ) → has a n ≡ has b n) → a ≡ b
same_set a b am bm same = same_from_bits_below 32 a b am bm (λ i lt. same_bit a b i (same (i + 1)))

none_or : (s : ℕ) → s < 2 ^ 32 → ((m : ℕ) → m < 33 → has s m ≡ false) → (m : ℕ) → {t : Bool} → (t ≡ true) × (m ≤ 32) ⊎ (t ≡ false) × (32 < m) → has s m ≡ false
none_or s sm none m (inl (_, le)) = none m (omega arith)
none_or s sm none m (inr (_, lt)) = has_not_above s 32 m sm lt

-- a set that has none of the numbers 1 to 32 has none
pub none_at_all : (s : ℕ) → s < 2 ^ 32 → ((m : ℕ) → m < 33 → has s m ≡ false) → (m : ℕ) → has s m ≡ false
none_at_all s sm none m = none_or s sm none m (leb_tells m 32)

-- the bit that the code sets is the one that is meant
pub or_bit_value : (s n : ℕ) → n ≤ 32 → bit_or s (1 * 2 ^ (n - 1) % 4294967296) ≡ set_with s n
unfolding set_with
or_bit_value s n high =
    let small : 2 ^ (n - 1) < 2 ^ 32 = pow-lt {i = n - 1} {j = 32} (omega arith) in
    let same : 1 * 2 ^ (n - 1) % 4294967296 ≡ 2 ^ (n - 1) = omega arith in
    rw same refl

pub and_bit_value : (s n : ℕ) → n ≤ 32 → bit_and s (4294967295 - 1 * 2 ^ (n - 1) % 4294967296) ≡ set_without s n
unfolding set_without
and_bit_value s n high =
    let small : 2 ^ (n - 1) < 2 ^ 32 = pow-lt {i = n - 1} {j = 32} (omega arith) in
    let same : 1 * 2 ^ (n - 1) % 4294967296 ≡ 2 ^ (n - 1) = omega arith in
    rw same refl

-- a set of numbers up to 16 stays one
power_narrow : (n : ℕ) → n ≤ 16 → 2 ^ (n - 1) ≤ 2 ^ 15
power_narrow n le = pow_mono {i = n - 1} {j = 15} (omega arith)

pub or_narrow : (s n : ℕ) → s < 2 ^ 16 → n ≤ 16 → bit_or s (1 * 2 ^ (n - 1) % 4294967296) < 2 ^ 16
or_narrow s n sm le =
    let p : 2 ^ (n - 1) ≤ 2 ^ 15 = power_narrow n le in
    or_lt 16 s (1 * 2 ^ (n - 1) % 4294967296) sm (omega (arith, mod-le (1 * 2 ^ (n - 1)) 4294967296))

pub and_narrow : (s mask : ℕ) → s < 2 ^ 16 → bit_and s mask < 2 ^ 16
and_narrow s mask sm = omega (arith, and_le_l s mask)

-- a number of such a set is at most 16
pub has_narrow : (s n : ℕ) → s < 2 ^ 16 → has s n ≡ true → n ≤ 16
has_narrow s n sm h = narrow_or s n sm h (leb_tells n 16)
  where
    narrow_or : (s n : ℕ) → s < 2 ^ 16 → has s n ≡ true → {t : Bool} → (t ≡ true) × (n ≤ 16) ⊎ (t ≡ false) × (16 < n) → n ≤ 16
    narrow_or s n sm h (inl (_, le)) = le
    narrow_or s n sm h (inr (_, lt)) = let no : has s n ≡ false = has_not_above s 16 n sm lt in absurd (cc)
