-- Lists of numbers in order are the same where they have the same numbers.
use Rattle.std.specs.Prelude.{ℕ, zero, suc, ◌≡◌, ◌<◌, ◌==◌, ◌&&◌, ◌||◌, ◌⊎◌, ◌++◌, Bool, true, false, List, [], ◌∷◌, filter, if◌then◌else◌}
use Rattle.std.specs.List.{AllByRecursion, list_any}
use Rattle.std.proofs.Common.{refl, sym, ap, subst, ◌∙◌, arith, inl, inr}
use Rattle.cmm_attempt.proofs.Basics.{or_cases, same_number}
use Rattle.history.specs.Setting.{all_to}
use Rattle.run_history.proofs.Lists.{both}
use Rattle.run_seizings.proofs.Progress.{no_truth, or_left, same_is}
use Rattle.run_devices.specs.readings.Readings.{AreInOrder}

abbrev pub contains : ℕ → List ℕ → Bool
contains d ds = list_any (λ x. x == d) ds

apart : (a b : ℕ) → a < b → (a == b) ≡ false
apart a b l = grind arith

apart_too : (a b : ℕ) → a < b → (b == a) ≡ false
apart_too a b l = grind arith

below : (a b : ℕ) → a < b → b < a → ⊥
below a b l m = omega (arith, l, m)

above_in : (d e : ℕ) (ds : List ℕ) → AllByRecursion (λ x. d < x) ds → contains e ds ≡ true → d < e
above_in d e [] above is = absurd (no_truth is)
above_in d e (x ∷ ds) above is = by_place (or_cases (x == e) (contains e ds) is) (λ there. above_in d e ds above.1 there)
  where
    by_place : ((x == e) ≡ true) ⊎ (contains e ds ≡ true) → (contains e ds ≡ true → d < e) → d < e
    by_place (inl here) rest = subst (λ z. d < z) (same_number x e here) above.0
    by_place (inr there) rest = rest there

none_below : (d : ℕ) (ds : List ℕ) → AllByRecursion (λ x. d < x) ds → contains d ds ≡ false
none_below d [] above = refl
none_below d (x ∷ ds) above = ap (λ b. b || contains d ds) (apart_too d x above.0) ∙ none_below d ds above.1

-- of two that begin lists with the same numbers neither is above the other
first_same : (x y : ℕ) (xs ys : List ℕ) → AllByRecursion (λ z. x < z) xs → AllByRecursion (λ z. y < z) ys → contains x (y ∷ ys) ≡ true → contains y (x ∷ xs) ≡ true → x ≡ y
first_same x y xs ys above_x above_y one other = by_place (or_cases (y == x) (contains x ys) one) (or_cases (x == y) (contains y xs) other)
  where
    by_place : ((y == x) ≡ true) ⊎ (contains x ys ≡ true) → ((x == y) ≡ true) ⊎ (contains y xs ≡ true) → x ≡ y
    by_place (inl here) k = sym (same_number y x here)
    by_place (inr there) (inl here) = same_number x y here
    by_place (inr there) (inr too) = absurd (below y x (above_in y x ys above_y there) (above_in x y xs above_x too))

rest_same : (x d : ℕ) (xs ys : List ℕ) → AllByRecursion (λ z. x < z) xs → AllByRecursion (λ z. x < z) ys → contains d (x ∷ xs) ≡ contains d (x ∷ ys) → contains d xs ≡ contains d ys
rest_same x d xs ys above_x above_y same = by_test (x == d) refl same
  where
    by_test : (b : Bool) → (x == d) ≡ b → (b || contains d xs) ≡ (b || contains d ys) → contains d xs ≡ contains d ys
    by_test false is k = k
    by_test true is k =
        let here : x ≡ d = same_number x d is in
        subst (λ z. contains z xs ≡ contains z ys) here (none_below x xs above_x ∙ sym (none_below x ys above_y))

pub same_lists : (xs ys : List ℕ) → AreInOrder xs → AreInOrder ys → ((d : ℕ) → contains d xs ≡ contains d ys) → xs ≡ ys
same_lists [] [] one other same = refl
same_lists [] (y ∷ ys) one other same = absurd (no_truth (same y ∙ or_left (y == y) (contains y ys) (same_is y)))
same_lists (x ∷ xs) [] one other same = absurd (no_truth (sym (same x) ∙ or_left (x == x) (contains x xs) (same_is x)))
same_lists (x ∷ xs) (y ∷ ys) one other same =
    let first : x ≡ y =
    first_same x y xs ys one.0 other.0 (sym (same x) ∙ or_left (x == x) (contains x xs) (same_is x)) (same y ∙ or_left (y == y) (contains y ys) (same_is y)) in
    let above : AllByRecursion (λ z. x < z) ys = subst (λ e. AllByRecursion (λ z. e < z) ys) (sym first) other.0 in
    let rest : xs ≡ ys =
    same_lists xs ys one.1 other.1 (λ d. rest_same x d xs ys one.0 above (same d ∙ ap (λ e. contains d (e ∷ ys)) (sym first))) in
    ap (λ e. e ∷ xs) first ∙ ap (λ zs. y ∷ zs) rest

-- ---- what is picked of such a list

picked_above : (P : ℕ → Bool) (d : ℕ) (xs : List ℕ) → AllByRecursion (λ x. d < x) xs → AllByRecursion (λ x. d < x) (filter P xs)
picked_above P d [] above = tt
picked_above P d (x ∷ xs) above = by_test (P x) (picked_above P d xs above.1)
  where
    by_test : (b : Bool) → AllByRecursion (λ z. d < z) (filter P xs) → AllByRecursion (λ z. d < z) (if b then x ∷ filter P xs else filter P xs)
    by_test true rest = (above.0, rest)
    by_test false rest = rest

pub picked_order : (P : ℕ → Bool) (xs : List ℕ) → AreInOrder xs → AreInOrder (filter P xs)
picked_order P [] order = tt
picked_order P (x ∷ xs) order = by_test (P x) (picked_order P xs order.1)
  where
    by_test : (b : Bool) → AreInOrder (filter P xs) → AreInOrder (if b then x ∷ filter P xs else filter P xs)
    by_test true rest = (picked_above P x xs order.0, rest)
    by_test false rest = rest

pub picked_has : (P : ℕ → Bool) (d : ℕ) (xs : List ℕ) → contains d (filter P xs) ≡ (P d && contains d xs)
picked_has P d [] = none (P d)
  where
    none : (b : Bool) → false ≡ (b && false)
    none true = refl
    none false = refl
picked_has P d (x ∷ xs) = by_test (P x) (x == d) refl refl (picked_has P d xs)
  where
    by_test : (b e : Bool) → P x ≡ b → (x == d) ≡ e → contains d (filter P xs) ≡ (P d && contains d xs)
        → contains d (if b then x ∷ filter P xs else filter P xs) ≡ (P d && (e || contains d xs))
    by_test true true is at rest = ap (λ z. z || contains d (filter P xs)) at ∙ sym (ap (λ z. z && true) (ap P (sym (same_number x d at)) ∙ is))
    by_test true false is at rest = ap (λ z. z || contains d (filter P xs)) at ∙ rest
    by_test false true is at rest = rest ∙ (ap (λ z. z && contains d xs) off ∙ sym (ap (λ z. z && true) off))
      where
        off : P d ≡ false
        off = ap P (sym (same_number x d at)) ∙ is
    by_test false false is at rest = rest

-- ---- the numbers from one on

all_low : (k b : ℕ) → k < b → AllByRecursion (λ x. x < b) (all_to k)
all_low zero b low = tt
all_low (suc k) b low = both (λ x. x < b) (all_to k) (suc k ∷ []) (all_low k b (less k b low)) (low, tt)
  where
    less : (a c : ℕ) → suc a < c → a < c
    less a c l = omega (arith, l)

order_more : (xs : List ℕ) (y : ℕ) → AreInOrder xs → AllByRecursion (λ x. x < y) xs → AreInOrder (xs ++ y ∷ [])
order_more [] y order low = (tt, tt)
order_more (x ∷ xs) y order low = (both (λ z. x < z) xs (y ∷ []) order.0 (low.0, tt), order_more xs y order.1 low.1)

pub numbers_order : (k : ℕ) → AreInOrder (all_to k)
numbers_order zero = tt
numbers_order (suc k) = order_more (all_to k) (suc k) (numbers_order k) (all_low k (suc k) (next k))
  where
    next : (a : ℕ) → a < suc a
    next a = omega arith
