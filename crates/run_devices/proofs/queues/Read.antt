-- What readings in order tell of a device.
use Rattle.std.specs.Prelude.{ℕ, ◌≡◌, ◌<◌, ◌≤◌, ◌==◌, ◌||◌, Bool, true, false, List, [], ◌∷◌, filter, map, Some, if◌then◌else◌}
use Rattle.std.specs.List.{AllByRecursion}
use Rattle.std.proofs.Common.{refl, sym, ap, subst, ◌∙◌, arith}
use Rattle.cmm_attempt.proofs.Basics.{same_number}
use Rattle.wire.specs.declared.lists.Reading.{Reading}
use Rattle.run_seizings.proofs.Progress.{if_not, if_so, no_truth, same_is}
use Rattle.run_devices.specs.installs.Shown.{ReadInOrder}
use Rattle.run_devices.specs.readings.Laws.{seizing_in, told_in}
use Rattle.run_devices.specs.readings.Readings.{AreInOrder}
use Rattle.run_devices.proofs.queues.Ascending.{contains}

apart : (a b : ℕ) → a < b → (a == b) ≡ false
apart a b l = grind arith

-- whether this is so of the first reading of the device
abbrev pub read_at : (Reading → Bool) → List Reading → ℕ → Bool
read_at Q [] d = false
read_at Q (r ∷ rs) d = if r.device == d then Q r else read_at Q rs d

none_read : (Q : Reading → Bool) (d : ℕ) (rs : List Reading) → AllByRecursion (λ (r : Reading). d < r.device) rs → contains d (map (λ (r : Reading). r.device) (filter Q rs)) ≡ false
none_read Q d [] above = refl
none_read Q d (r ∷ rs) above = by_test (Q r) (none_read Q d rs above.1)
  where
    other : (a b : ℕ) → a < b → (b == a) ≡ false
    other a b l = grind arith

    by_test : (b : Bool) → contains d (map (λ (z : Reading). z.device) (filter Q rs)) ≡ false
        → contains d (map (λ (z : Reading). z.device) (if b then r ∷ filter Q rs else filter Q rs)) ≡ false
    by_test true rest = ap (λ z. z || contains d (map (λ (z : Reading). z.device) (filter Q rs))) (other d r.device above.0) ∙ rest
    by_test false rest = rest

pub read_has : (Q : Reading → Bool) (d : ℕ) (rs : List Reading) → ReadInOrder rs → contains d (map (λ (r : Reading). r.device) (filter Q rs)) ≡ read_at Q rs d
read_has Q d [] order = refl
read_has Q d (r ∷ rs) order = by_test (Q r) (r.device == d) refl refl (read_has Q d rs order.1)
  where
    ds : List ℕ
    ds = map (λ (z : Reading). z.device) (filter Q rs)

    none : (r.device == d) ≡ true → contains d ds ≡ false
    none at = subst (λ z. contains z ds ≡ false) (same_number r.device d at) (none_read Q r.device rs order.0)

    by_test : (b e : Bool) → Q r ≡ b → (r.device == d) ≡ e → contains d ds ≡ read_at Q rs d
        → contains d (map (λ (z : Reading). z.device) (if b then r ∷ filter Q rs else filter Q rs)) ≡ (if e then Q r else read_at Q rs d)
    by_test true true is at rest = ap (λ z. z || contains d ds) at ∙ sym is
    by_test true false is at rest = ap (λ z. z || contains d ds) at ∙ rest
    by_test false true is at rest = none at ∙ sym is
    by_test false false is at rest = rest

read_above : (Q : Reading → Bool) (d : ℕ) (rs : List Reading) → AllByRecursion (λ (r : Reading). d < r.device) rs → AllByRecursion (λ e. d < e) (map (λ (r : Reading). r.device) (filter Q rs))
read_above Q d [] above = tt
read_above Q d (r ∷ rs) above = by_test (Q r) (read_above Q d rs above.1)
  where
    by_test : (b : Bool) → AllByRecursion (λ e. d < e) (map (λ (z : Reading). z.device) (filter Q rs))
        → AllByRecursion (λ e. d < e) (map (λ (z : Reading). z.device) (if b then r ∷ filter Q rs else filter Q rs))
    by_test true rest = (above.0, rest)
    by_test false rest = rest

pub read_order : (Q : Reading → Bool) (rs : List Reading) → ReadInOrder rs → AreInOrder (map (λ (r : Reading). r.device) (filter Q rs))
read_order Q [] order = tt
read_order Q (r ∷ rs) order = by_test (Q r) (read_order Q rs order.1)
  where
    by_test : (b : Bool) → AreInOrder (map (λ (z : Reading). z.device) (filter Q rs)) → AreInOrder (map (λ (z : Reading). z.device) (if b then r ∷ filter Q rs else filter Q rs))
    by_test true rest = (read_above Q r.device rs order.0, rest)
    by_test false rest = rest

-- each reading is the one that is told of its device
told_behind : (r : Reading) (rs all : List Reading) → AllByRecursion (λ (z : Reading). r.device < z.device) rs → AllByRecursion (λ (z : Reading). told_in all z.device ≡ Some (seizing_in z)) rs
    → AllByRecursion (λ (z : Reading). told_in (r ∷ all) z.device ≡ Some (seizing_in z)) rs
told_behind r [] all above k = tt
told_behind r (z ∷ rs) all above k =
    (if_not (r.device == z.device) (Some (seizing_in r)) (told_in all z.device) (apart r.device z.device above.0) ∙ k.0, told_behind r rs all above.1 k.1)

pub told_each : (rs : List Reading) → ReadInOrder rs → AllByRecursion (λ (z : Reading). told_in rs z.device ≡ Some (seizing_in z)) rs
told_each [] order = tt
told_each (r ∷ rs) order =
    (if_so (r.device == r.device) (Some (seizing_in r)) (told_in rs r.device) (same_is r.device), told_behind r rs rs order.0 (told_each rs order.1))

pub read_low : (Q : Reading → Bool) (d : ℕ) (rs : List Reading) → AllByRecursion (λ (r : Reading). 1 ≤ r.device) rs → read_at Q rs d ≡ true → 1 ≤ d
read_low Q d [] low is = absurd (no_truth is)
read_low Q d (r ∷ rs) low is = by_test (r.device == d) refl is (λ later. read_low Q d rs low.1 later)
  where
    by_test : (b : Bool) → (r.device == d) ≡ b → (if b then Q r else read_at Q rs d) ≡ true → (read_at Q rs d ≡ true → 1 ≤ d) → 1 ≤ d
    by_test true at k rest = subst (λ z. 1 ≤ z) (same_number r.device d at) low.0
    by_test false at k rest = rest k
