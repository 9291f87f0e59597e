-- How a short list of numbers is kept in place: the numbers, then zeros up to 32 places.
use Rattle.std.specs.Prelude.{◌≡◌, ℕ, ◌-◌, ◌≤◌, List, ◌++◌, length, take, drop, replicate}
use Rattle.std.proofs.Common.{arith}
use Rattle.std.proofs.lemmas.List.{length-take-le, take-append-drop}

pub record IsPadded (places : List ℕ) (used : ℕ) : Type 0 where
  pub whole : length places ≡ 32
  pub most : used ≤ 32
  pub zeros : drop used places ≡ replicate (32 - used) 0

-- the list gives the places back
pub length_front : (places : List ℕ) (used : ℕ) → IsPadded places used → length (take used places) ≡ used
length_front places used h = length-take-le used places (omega (arith, h.whole, h.most))

pub front_and_zeros : (places : List ℕ) (used : ℕ) → IsPadded places used → take used places ++ replicate (32 - used) 0 ≡ places
front_and_zeros places used h = rw (← h.zeros) (take-append-drop used places)
