-- The devices of a header stand in the order of their numbers.
use Rattle.std.specs.Prelude.{ℕ, ◌+◌, ◌≡◌, ◌<◌, ◌==◌, ◌||◌, Bool, true, false, List, [], ◌∷◌}
use Rattle.std.specs.List.{AllByRecursion, list_any}
use Rattle.std.proofs.Common.{refl, arith}
use Rattle.attempt_laws.specs.Asking.{AreApart, numbers_of}
use Rattle.cl_base.specs.declared.header.Header.{Header}
use Rattle.cl_base.specs.declared.header.HeaderDevice.{HeaderDevice}
use Rattle.world_model.specs.First.{attached_from, first_cluster}
use Rattle.run_devices.specs.readings.Readings.{AreInOrder}

both_off : (a b : Bool) → a ≡ false → b ≡ false → (a || b) ≡ false
both_off true b off k = off
both_off false b off k = k

none_above : (d : ℕ) (ds : List ℕ) → AllByRecursion (λ e. d < e) ds → list_any (λ x. x == d) ds ≡ false
none_above d [] above = refl
none_above d (e ∷ ds) above = both_off (e == d) (list_any (λ x. x == d) ds) (other d e above.0) (none_above d ds above.1)
  where
    other : (a b : ℕ) → a < b → (b == a) ≡ false
    other a b h = grind arith

pub apart_of : (ds : List ℕ) → AreInOrder ds → AreApart ds
apart_of [] order = tt
apart_of (d ∷ ds) order = (none_above d ds order.0, apart_of ds order.1)

all_above : (d number : ℕ) (ds : List HeaderDevice) → d < number → AllByRecursion (λ e. d < e) (numbers_of (attached_from number ds))
all_above d number [] low = tt
all_above d number (x ∷ ds) low = (low, all_above d (number + 1) ds (more d number low))
  where
    more : (a b : ℕ) → a < b → a < b + 1
    more a b h = omega (arith, h)

in_order : (number : ℕ) (ds : List HeaderDevice) → AreInOrder (numbers_of (attached_from number ds))
in_order number [] = tt
in_order number (x ∷ ds) = (all_above number (number + 1) ds (next number), in_order (number + 1) ds)
  where
    next : (a : ℕ) → a < a + 1
    next a = omega arith

pub header_order : (h : Header) → AreInOrder (numbers_of (first_cluster h).attached)
header_order h = in_order 1 h.devices
