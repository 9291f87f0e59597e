-- The members are few.
use Rattle.std.proofs.Common.{ℕ, zero, suc, ◌≤◌, Bool, true, false, cond, [], ◌∷◌, ◌++◌, length, length-append, arith}
use Rattle.cl_base.specs.Numbers.{numbers_to}
use Rattle.cl_base.specs.Sets.{has}

pub few_numbers : (set k : ℕ) → length (numbers_to set k) ≤ k
few_numbers set zero = omega arith
few_numbers set (suc k) = by (has set (suc k)) (few_numbers set k)
  where
    by : (b : Bool) → length (numbers_to set k) ≤ k → length (cond b (numbers_to set k ++ suc k ∷ []) (numbers_to set k)) ≤ suc k
    by true ih = omega (arith, ih, length-append (numbers_to set k) (suc k ∷ []))
    by false ih = omega (arith, ih)
