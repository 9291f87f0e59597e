-- Sums over the numbers from 1 on, one number at a time.
use Rattle.std.proofs.Common.{◌≡◌, ℕ, ◌+◌, ◌≤◌, ◌⊎◌, inl, inr, suc, zero, refl, arith, add-one}
use Rattle.quorum_votes.specs.Sums.{sum_to}

pub sum_to_none : (f : ℕ → ℕ) → sum_to f 0 ≡ 0
unfolding sum_to
sum_to_none f = refl

next : (f : ℕ → ℕ) (k : ℕ) → sum_to f (suc k) ≡ sum_to f k + f (suc k)
unfolding sum_to
next f k = refl

pub sum_to_more : (f : ℕ → ℕ) (k : ℕ) → sum_to f (k + 1) ≡ sum_to f k + f (k + 1)
sum_to_more f k = rw (add-one, next) refl

-- what is at most w at each number is so in all
pub sum_to_le : (f w : ℕ → ℕ) → ((n : ℕ) → f n ≤ w n) → (k : ℕ) → sum_to f k ≤ sum_to w k
sum_to_le f w le zero = omega (arith, sum_to_none f, sum_to_none w)
sum_to_le f w le (suc k) = omega (arith, next f k, next w k, le (suc k), sum_to_le f w le k)

-- Two shares of w at each number are together at most w, or one number is shared.
pub record SharedTo (S : ℕ → Type 0) (k : ℕ) : Type 0 where
  pub number : ℕ
  pub low : 1 ≤ number
  pub high : number ≤ k
  pub shared : S number

joined : (S : ℕ → Type 0) (f g w : ℕ → ℕ) (k : ℕ)
    → SharedTo S k ⊎ (sum_to f k + sum_to g k ≤ sum_to w k)
    → S (suc k) ⊎ (f (suc k) + g (suc k) ≤ w (suc k))
    → SharedTo S (suc k) ⊎ (sum_to f (suc k) + sum_to g (suc k) ≤ sum_to w (suc k))
joined S f g w k (inl s) here = inl (record { number = s.number; low = s.low; high = omega (arith, s.high); shared = s.shared })
joined S f g w k (inr le) (inl s) = inl (record { number = suc k; low = omega arith; high = omega arith; shared = s })
joined S f g w k (inr le) (inr more) = inr (omega (arith, next f k, next g k, next w k, le, more))

pub shared_or_within : (S : ℕ → Type 0) (f g w : ℕ → ℕ) → ((n : ℕ) → S n ⊎ (f n + g n ≤ w n)) → (k : ℕ)
    → SharedTo S k ⊎ (sum_to f k + sum_to g k ≤ sum_to w k)
shared_or_within S f g w each zero = inr (omega (arith, sum_to_none f, sum_to_none g, sum_to_none w))
shared_or_within S f g w each (suc k) = joined S f g w k (shared_or_within S f g w each k) (each (suc k))
