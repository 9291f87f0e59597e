-- A count of faults tells why a call failed: it never falls, and a call fails only where it rose.
use Rattle.std.specs.Prelude.{◌≡◌, ℕ, ◌+◌, ◌-◌, ◌^◌, ◌≤◌, min, List, Option, length, take, Result, OnErr}
use Rattle.std.specs.Io.KnownBytes.{Appends}

-- the count has risen, or stands at the end of its type
abbrev pub Rose : ℕ → ℕ → Type 0
Rose before now = min (before + 1) (2 ^ 64 - 1) ≤ now

-- the count did not fall, and an error came only where it rose
pub record HasCause {T E : Type 0} (before now : ℕ) (result : Result T E) : Type 0 where
  pub later : before ≤ now
  pub failed : OnErr result (Rose before now)

-- some of the bytes were taken, or there were none
abbrev pub IsTaken : ℕ → List ℕ → Type 0
IsTaken count bytes = count ≡ 0 → length bytes ≡ 0

-- known bytes grow by a front of these bytes
pub record AppendsFront (old new : Option (List ℕ)) (bytes : List ℕ) : Type 0 where
  pub count : ℕ
  pub appended : Appends old new (take count bytes)
