-- Sums over the numbers of nodes or of devices, which begin at 1.
use Rattle.std.specs.Prelude.{ℕ, ◌+◌, zero, suc}

-- f 1 + f 2 + .. + f k
unfoldable pub sum_to : (ℕ → ℕ) → ℕ → ℕ
sum_to f zero = 0
sum_to f (suc k) = sum_to f k + f (suc k)
