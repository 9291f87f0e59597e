-- An epoch is a count times 64 plus the number of the node that coordinates it.
use Rattle.std.specs.Prelude.{ℕ, ◌%◌}

-- Proofs do not calculate with it: they only need that each epoch has one coordinator.
unfoldable pub coordinator : ℕ → ℕ
coordinator q = q % 64
