-- A state that is a function of a number (of a node, an epoch or a device), changed at one number.
use Rattle.std.specs.Prelude.{ℕ, nat_eq, if◌then◌else◌}

-- f, but x at n
abbrev pub put : {A : Type 0} → (ℕ → A) → ℕ → A → ℕ → A
put f n x k = if nat_eq k n then x else f k
