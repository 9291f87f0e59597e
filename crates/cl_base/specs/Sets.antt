-- A set of numbers from 1 on is kept as a number: its bit n - 1 tells whether n is in the set.
use Rattle.std.specs.Prelude.{ℕ, ◌+◌, ◌-◌, ◌^◌, ◌==◌, nat_le, ◌&&◌, Bool, suc, zero, if◌then◌else◌, bit_or, bit_and}
use Rattle.std.specs.Int.{bit_at}

-- whether the set has the number; clauses see a set through this alone
unfoldable pub has : ℕ → ℕ → Bool
has set n = nat_le 1 n && (bit_at set (n - 1) == 1)

-- how many of the numbers 1 to k the set has
abbrev pub count_to : ℕ → ℕ → ℕ
count_to set zero = 0
count_to set (suc k) = count_to set k + (if has set (k + 1) then 1 else 0)

-- the set and this number
unfoldable pub set_with : ℕ → ℕ → ℕ
set_with set n = bit_or set (2 ^ (n - 1))

-- the set less this number, which is at most 32
unfoldable pub set_without : ℕ → ℕ → ℕ
set_without set n = bit_and set (2 ^ 32 - 1 - 2 ^ (n - 1))
