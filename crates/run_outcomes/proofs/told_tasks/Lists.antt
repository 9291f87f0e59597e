-- Lists, and sets of numbers.
use Rattle.std.specs.Prelude.{ℕ, ◌≡◌, ◌≢◌, ◌≤◌, ◌==◌, ◌||◌, Bool, true, false, if◌then◌else◌, List, [], ◌∷◌, filter, Some, is_some}
use Rattle.std.specs.List.{find, list_any}
use Rattle.std.proofs.Common.{refl, sym, ap, subst, ◌∙◌, arith}
use Rattle.cl_base.proofs.SetLemmas.{has_with, or_bit_value}
use Rattle.cl_base.specs.Sets.{has, set_with}
use Rattle.cmm_attempt.proofs.Basics.{false_true, none_some, same_some}
use Rattle.cmm_attempt.specs.declared.attached.AttachedDevice.{AttachedDevice}
use Rattle.attempt_laws.specs.Asking.{AreApart, numbers_of}

-- ---- sets

pub has_more : (set n : ℕ) → 1 ≤ n → n ≤ 32 → has (set_with set n) n ≡ true
has_more set n low high = ap (λ s. has s n) (sym (or_bit_value set n high)) ∙ (has_with set n low high n ∙ (grind arith))

pub has_other : (set n m : ℕ) → 1 ≤ n → n ≤ 32 → m ≢ n → has (set_with set n) m ≡ has set m
has_other set n m low high ne = ap (λ s. has s m) (sym (or_bit_value set n high)) ∙ (has_with set n low high m ∙ ap (λ b. b || has set m) (differs m n ne))
  where
    differs : (a b : ℕ) → a ≢ b → (a == b) ≡ false
    differs a b k = grind arith

-- ---- what is found

pub find_any : {X : Type 0} (p : X → Bool) (xs : List X) → is_some (find p xs) ≡ list_any p xs
find_any p [] = refl
find_any p (x ∷ xs) = by_test (p x) (find_any p xs)
  where
    by_test : (b : Bool) → is_some (find p xs) ≡ list_any p xs → is_some (if b then Some x else find p xs) ≡ (b || list_any p xs)
    by_test true k = refl
    by_test false k = k

pub found_in : (p : ℕ → Bool) (ns : List ℕ) (n : ℕ) → find p ns ≡ Some n → (p n ≡ true) × (list_any (λ m. m == n) ns ≡ true)
found_in p [] n h = absurd (none_some n h)
found_in p (m ∷ ns) n h = by_test (p m) refl (λ k. found_in p ns n k) h
  where
    itself : (k : ℕ) (b : Bool) → ((k == k) || b) ≡ true
    itself k b = grind arith

    or_more : (a b : Bool) → b ≡ true → (a || b) ≡ true
    or_more true b k = refl
    or_more false b k = k

    by_test : (b : Bool) → p m ≡ b → (find p ns ≡ Some n → (p n ≡ true) × (list_any (λ k. k == n) ns ≡ true)) → (if b then Some m else find p ns) ≡ Some n
        → (p n ≡ true) × (list_any (λ k. k == n) (m ∷ ns) ≡ true)
    by_test true e rest k = subst (λ x. (p x ≡ true) × (list_any (λ j. j == x) (m ∷ ns) ≡ true)) (same_some m n k) (e, itself m (list_any (λ j. j == m) ns))
    by_test false e rest k = let two : (p n ≡ true) × (list_any (λ j. j == n) ns ≡ true) = rest k in (two.0, or_more (m == n) (list_any (λ j. j == n) ns) two.1)

-- ---- devices that are apart

picked_none : (P : AttachedDevice → Bool) (d : ℕ) (xs : List AttachedDevice) → list_any (λ x. x == d) (numbers_of xs) ≡ false → list_any (λ x. x == d) (numbers_of (filter P xs)) ≡ false
picked_none P d [] none = refl
picked_none P d (a ∷ xs) none = by_test (P a) (picked_none P d xs (neither (a.device == d) (list_any (λ x. x == d) (numbers_of xs)) none).1)
  where
    neither : (p q : Bool) → (p || q) ≡ false → (p ≡ false) × (q ≡ false)
    neither true q k = absurd (false_true (sym k))
    neither false q k = (refl, k)

    by_test : (b : Bool) → list_any (λ x. x == d) (numbers_of (filter P xs)) ≡ false → list_any (λ x. x == d) (numbers_of (if b then a ∷ filter P xs else filter P xs)) ≡ false
    by_test true rest = rw ((neither (a.device == d) (list_any (λ x. x == d) (numbers_of xs)) none).0) rest
    by_test false rest = rest

pub apart_filter : (P : AttachedDevice → Bool) (xs : List AttachedDevice) → AreApart (numbers_of xs) → AreApart (numbers_of (filter P xs))
apart_filter P [] apart = tt
apart_filter P (a ∷ xs) apart = by_test (P a) (apart_filter P xs apart.1)
  where
    by_test : (b : Bool) → AreApart (numbers_of (filter P xs)) → AreApart (numbers_of (if b then a ∷ filter P xs else filter P xs))
    by_test true rest = (picked_none P a.device xs apart.0, rest)
    by_test false rest = rest
