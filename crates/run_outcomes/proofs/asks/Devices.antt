-- The devices of a header are apart.
use Rattle.std.specs.Prelude.{ℕ, ◌+◌, ◌==◌, ◌||◌, ◌≡◌, ◌<◌, Bool, true, false, List, [], ◌∷◌}
use Rattle.std.specs.List.{list_any}
use Rattle.std.proofs.Common.{arith, refl}
use Rattle.attempt_laws.specs.Asking.{AreApart, numbers_of}
use Rattle.cl_base.specs.declared.header.HeaderDevice.{HeaderDevice}
use Rattle.world_model.specs.First.{attached_from}

-- the numbers from one on are above those before
not_among : (d number : ℕ) (ds : List HeaderDevice) → d < number → list_any (λ x. x == d) (numbers_of (attached_from number ds)) ≡ false
not_among d number [] low = refl
not_among d number (e ∷ ds) low = both (number == d) (list_any (λ x. x == d) (numbers_of (attached_from (number + 1) ds))) (other d number low) (not_among d (number + 1) ds (above d number low))
  where
    other : (a b : ℕ) → a < b → (b == a) ≡ false
    other a b h = grind arith

    above : (a b : ℕ) → a < b → a < b + 1
    above a b h = omega (arith, h)

    both : (p q : Bool) → p ≡ false → q ≡ false → (p || q) ≡ false
    both false q e h = h
    both true q h k = h

pub are_apart : (number : ℕ) (ds : List HeaderDevice) → AreApart (numbers_of (attached_from number ds))
are_apart number [] = tt
are_apart number (d ∷ ds) = (not_among number (number + 1) ds (next number), are_apart (number + 1) ds)
  where
    next : (a : ℕ) → a < a + 1
    next a = omega arith
