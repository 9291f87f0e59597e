-- A set whose numbers are all in another is within it.
use Rattle.std.specs.Prelude.{ℕ, zero, suc, ◌+◌, List, [], ◌∷◌, length, ◌-◌, ◌<◌, ◌==◌, ◌&&◌, ◌||◌, ◌≡◌, ◌≤◌, ◌^◌, bit_or, max, nat_le, Bool, true, false}
use Rattle.std.specs.Int.{bit_at}
use Rattle.std.specs.List.{AllByRecursion}
use Rattle.std.proofs.Common.{refl, sym, ◌∙◌, arith}
use Rattle.std.proofs.Math.Pow.{pow-lt}
use Rattle.std.proofs.lemmas.Bool.Decides.{nat_tests}
use Rattle.std.proofs.lemmas.Nat.{or_lt}
use Rattle.std.proofs.lemmas.Nat.Bits.{bit_at-lt, bit_at_or}
use Rattle.cl_base.proofs.FirstNumbers.{has_first}
use Rattle.cl_base.proofs.SetLemmas.{has_at, has_not_zero, same_set}
use Rattle.cl_base.specs.Numbers.{first_numbers}
use Rattle.cl_base.specs.Sets.{has, set_with}
use Rattle.cl_base.specs.declared.header.HeaderDevice.{HeaderDevice}
use Rattle.cmm_attempt.specs.declared.attached.AttachedDevice.{AttachedDevice}
use Rattle.node_model.specs.Clusters.{is_within}
use Rattle.world_model.specs.First.{attached_from}

two_bits : (x y : ℕ) → x < 2 → y < 2 → (max x y == 1) ≡ ((x == 1) || (y == 1))
two_bits x y low small = grind (arith, nat_tests)

or_at : (a b m : ℕ) → 1 ≤ m → has (bit_or a b) m ≡ (has a m || has b m)
or_at a b m low =
    let bits : bit_at (bit_or a b) (m - 1) ≡ max (bit_at a (m - 1)) (bit_at b (m - 1)) = bit_at_or a b (m - 1) in
    rw (has_at (bit_or a b) m low, bits, has_at a m low, has_at b m low) (two_bits (bit_at a (m - 1)) (bit_at b (m - 1)) (bit_at-lt a (m - 1)) (bit_at-lt b (m - 1)))

or_has : (a b m : ℕ) → has (bit_or a b) m ≡ (has a m || has b m)
or_has a b zero = rw (has_not_zero (bit_or a b), has_not_zero a, has_not_zero b) refl
or_has a b (suc m) = or_at a b (suc m) (omega arith)

or_within : (x y : Bool) → (x ≡ true → y ≡ true) → (x || y) ≡ y
or_within true y h = sym (h refl)
or_within false y h = refl

same_number : (a b : ℕ) → a ≡ b → (a == b) ≡ true
same_number a b e = grind (arith, nat_tests)

pub within : (set all : ℕ) → set < 2 ^ 32 → all < 2 ^ 32 → ((m : ℕ) → has set m ≡ true → has all m ≡ true) → is_within set all ≡ true
within set all small few are =
    same_number (bit_or set all) all
    (same_set (bit_or set all) all (or_lt 32 set all small few) few (λ m. or_has set all m ∙ or_within (has set m) (has all m) (are m)))

-- ---- the numbers 1 to k

pub first_small : (k : ℕ) → k ≤ 32 → first_numbers k < 2 ^ 32
unfolding set_with
first_small zero le = omega arith
first_small (suc k) le = or_lt 32 (first_numbers k) (2 ^ (suc k - 1)) (first_small k (omega (arith, le))) (pow-lt {i = suc k - 1} {j = 32} (omega (arith, le)))

pub first_has : (k m : ℕ) → k ≤ 32 → 1 ≤ m → m ≤ k → has (first_numbers k) m ≡ true
first_has k m le low high = has_first k m le ∙ tests m k low high
  where
    tests : (m k : ℕ) → 1 ≤ m → m ≤ k → (nat_le 1 m && nat_le m k) ≡ true
    tests m k low high = grind (arith, nat_tests)

-- ---- the devices that nodes have a path to

pub attached_known : (total number : ℕ) (ds : List HeaderDevice) → total ≤ 32 → 1 ≤ number → number + length ds ≤ total + 1
    → AllByRecursion (λ (a : AttachedDevice). has (first_numbers total) a.device ≡ true) (attached_from number ds)
attached_known total number [] le low high = tt
attached_known total number (d ∷ ds) le low high =
    (first_has total number le low (within_total number (length ds) total high), attached_known total (number + 1) ds le (more number) (same number (length ds) total high))
  where
    within_total : (a b t : ℕ) → a + suc b ≤ t + 1 → a ≤ t
    within_total a b t h = omega (arith, h)

    more : (a : ℕ) → 1 ≤ a + 1
    more a = omega arith

    same : (a b t : ℕ) → a + suc b ≤ t + 1 → (a + 1) + b ≤ t + 1
    same a b t h = omega (arith, h)
