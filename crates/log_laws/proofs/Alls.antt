-- What is true of each element of a list.
use Rattle.std.proofs.Common.{◌≡◌, ℕ, zero, suc, add-one, ◌<◌, ◌≤◌, Bool, true, false, ◌⊎◌, inl, inr, Option, None, Some, IfSome, List, [], ◌∷◌, ◌++◌, refl, subst, arith, find, cond}
use Rattle.std.proofs.lemmas.Bool.{cases_lt, or_parts}
use Rattle.std.specs.List.{AllByRecursion, cons_option, filter_map, list_any, slice_get}
use Rattle.rg_deps.specs.Things.{collected}

module _ {X : Type 0} where
  pub both : (P : X → Type 0) (xs ys : List X) → AllByRecursion P xs → AllByRecursion P ys → AllByRecursion P (xs ++ ys)
  both P [] ys h k = k
  both P (x ∷ xs) ys h k = (h.0, both P xs ys h.1 k)

  pub parts : (P : X → Type 0) (xs ys : List X) → AllByRecursion P (xs ++ ys) → AllByRecursion P xs × AllByRecursion P ys
  parts P [] ys h = (tt, h)
  parts P (x ∷ xs) ys h = let r = parts P xs ys h.1 in ((h.0, r.0), r.1)

  pub each : (P Q : X → Type 0) → ((x : X) → P x → Q x) → (xs : List X) → AllByRecursion P xs → AllByRecursion Q xs
  each P Q f [] h = tt
  each P Q f (x ∷ xs) h = (f x h.0, each P Q f xs h.1)

  pub each_of_both : (P Q R : X → Type 0) → ((x : X) → P x → Q x → R x) → (xs : List X) → AllByRecursion P xs → AllByRecursion Q xs → AllByRecursion R xs
  each_of_both P Q R f [] h k = tt
  each_of_both P Q R f (x ∷ xs) h k = (f x h.0 k.0, each_of_both P Q R f xs h.1 k.1)

  pub each_of_three : (P Q R S : X → Type 0) → ((x : X) → P x → Q x → R x → S x) → (xs : List X) → AllByRecursion P xs → AllByRecursion Q xs → AllByRecursion R xs → AllByRecursion S xs
  each_of_three P Q R S f [] h k l = tt
  each_of_three P Q R S f (x ∷ xs) h k l = (f x h.0 k.0 l.0, each_of_three P Q R S f xs h.1 k.1 l.1)

  -- what a function gives of the places below n
  pub of_places : (P : X → Type 0) (f : ℕ → List X) (n : ℕ) → ((p : ℕ) → p < n → AllByRecursion P (f p)) → AllByRecursion P (collected f n)
  of_places P f zero h = tt
  of_places P f (suc n) h = both P (collected f n) (f n) (of_places P f n (λ p lt. h p (omega (arith, lt, add-one n)))) (h n (omega (arith, add-one n)))

  pub at_place : (P : X → Type 0) (f : ℕ → List X) (n : ℕ) → AllByRecursion P (collected f n) → (p : ℕ) → p < n → AllByRecursion P (f p)
  at_place P f zero h p lt = absurd (omega (arith, lt))
  at_place P f (suc n) h p lt = by (cases_lt p n) (at_place P f n (parts P (collected f n) (f n) h).0 p)
    where
      by : ((p < n) ⊎ (n ≤ p)) → (p < n → AllByRecursion P (f p)) → AllByRecursion P (f p)
      by (inl low) ih = ih low
      by (inr high) ih =
          let same : n ≡ p = omega (arith, lt, high, add-one n) in
          subst (λ (k : ℕ). AllByRecursion P (f k)) same (parts P (collected f n) (f n) h).1

  -- each element stands at a place
  pub element : (P : X → Type 0) (xs : List X) → AllByRecursion P xs → (p : ℕ) (x : X) → slice_get xs p ≡ Some x → P x
  element P [] h p x is = cc is
  element P (y ∷ ys) h zero x is = let same : y ≡ x = cc is in subst P same h.0
  element P (y ∷ ys) h (suc p) x is = element P ys h.1 p x is

  pub elements : (P : X → Type 0) (xs : List X) → ((p : ℕ) (x : X) → slice_get xs p ≡ Some x → P x) → AllByRecursion P xs
  elements P [] h = tt
  elements P (x ∷ xs) h = (h zero x refl, elements P xs (λ p y is. h (suc p) y is))

  -- where no element passes a test, each fails it
  pub all_fail : (test : X → Bool) (xs : List X) → list_any test xs ≡ false → AllByRecursion (λ x. test x ≡ false) xs
  all_fail test [] none = tt
  all_fail test (x ∷ xs) none = let r = or_parts (test x) (list_any test xs) none in (r.0, all_fail test xs r.1)

  pub none_found : (test : X → Bool) (xs : List X) → find test xs ≡ None → AllByRecursion (λ x. test x ≡ false) xs
  none_found test [] none = tt
  none_found test (x ∷ xs) none = by (test x) refl none (none_found test xs)
    where
      by : (b : Bool) → test x ≡ b → cond b (Some x) (find test xs) ≡ None → (find test xs ≡ None → AllByRecursion (λ y. test y ≡ false) xs) → (test x ≡ false) × AllByRecursion (λ y. test y ≡ false) xs
      by true is found ih = cc found
      by false is found ih = (is, ih found)

module _ {X Y : Type 0} (P : Y → Type 0) (f : X → Option Y) where
  -- what a function gives of some elements
  pub given : (xs : List X) → AllByRecursion (λ x. IfSome (f x) P) xs → AllByRecursion P (filter_map f xs)
  given [] h = tt
  given (x ∷ xs) h = by (f x) h.0 (given xs h.1)
    where
      by : (o : Option Y) → IfSome o P → AllByRecursion P (filter_map f xs) → AllByRecursion P (cons_option o (filter_map f xs))
      by None own ih = ih
      by (Some y) own ih = (own, ih)

  pub given_of : (xs : List X) → AllByRecursion P (filter_map f xs) → AllByRecursion (λ x. IfSome (f x) P) xs
  given_of [] h = tt
  given_of (x ∷ xs) h = by (f x) h (given_of xs)
    where
      by : (o : Option Y) → AllByRecursion P (cons_option o (filter_map f xs)) → (AllByRecursion P (filter_map f xs) → AllByRecursion (λ x. IfSome (f x) P) xs)
          → IfSome o P × AllByRecursion (λ x. IfSome (f x) P) xs
      by None h ih = (tt, ih h)
      by (Some y) h ih = (h.0, ih h.1)
