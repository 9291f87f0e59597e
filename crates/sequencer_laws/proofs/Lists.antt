-- What follows for a list where one test passes only with another.
use Rattle.std.proofs.Common.{◌≡◌, ℕ, zero, suc, ◌≤◌, ◌⊎◌, inl, inr, Bool, true, false, cond, ◌&&◌, List, [], ◌∷◌, ◌++◌, length, refl, sym, ◌∙◌, arith}
use Rattle.std.specs.List.{AllByRecursion, filter, list_all, list_any}
use Rattle.std.proofs.lemmas.Bool.{and_from, and_parts, or_cases, or_left, or_right, or_parts, false_from_ne_true}
use Rattle.cl_base.specs.Numbers.{numbers_to}
use Rattle.cl_base.specs.Sets.{has}

-- The parts of a test.

pub three : (a b c : Bool) → (a && b && c) ≡ true → (a ≡ true) × (b ≡ true) × (c ≡ true)
three a b c h =
    let last : _ = and_parts (a && b) c h in
    let rest : _ = and_parts a b last.0 in
    (rest.0, rest.1, last.1)

pub four : (a b c d : Bool) → (a && b && c && d) ≡ true → (a ≡ true) × (b ≡ true) × (c ≡ true) × (d ≡ true)
four a b c d h =
    let last : _ = and_parts (a && b && c) d h in
    let rest : _ = three a b c last.0 in
    (rest.0, rest.1, rest.2, last.1)

pub five : (a b c d e : Bool) → (a && b && c && d && e) ≡ true → (a ≡ true) × (b ≡ true) × (c ≡ true) × (d ≡ true) × (e ≡ true)
five a b c d e h =
    let last : _ = and_parts (a && b && c && d) e h in
    let rest : _ = four a b c d last.0 in
    (rest.0, rest.1, rest.2, rest.3, last.1)

pub six : (a b c d e f : Bool) → (a && b && c && d && e && f) ≡ true → (a ≡ true) × (b ≡ true) × (c ≡ true) × (d ≡ true) × (e ≡ true) × (f ≡ true)
six a b c d e f h =
    let last : _ = and_parts (a && b && c && d && e) f h in
    let rest : _ = five a b c d e last.0 in
    (rest.0, rest.1, rest.2, rest.3, rest.4, last.1)

pub seven : (a b c d e f g : Bool) → (a && b && c && d && e && f && g) ≡ true → (a ≡ true) × (b ≡ true) × (c ≡ true) × (d ≡ true) × (e ≡ true) × (f ≡ true) × (g ≡ true)
seven a b c d e f g h =
    let last : _ = and_parts (a && b && c && d && e && f) g h in
    let rest : _ = six a b c d e f last.0 in
    (rest.0, rest.1, rest.2, rest.3, rest.4, rest.5, last.1)

module _ {X : Type 0} (P : X → Type 0) (p q : X → Bool) (more : (x : X) → P x → p x ≡ true → q x ≡ true) where
  -- some element of which P holds passes the one, so some passes the other
  pub any_among : (xs : List X) → AllByRecursion P xs → list_any p xs ≡ true → list_any q xs ≡ true
  any_among [] all h = h
  any_among (x ∷ xs) all h = by (λ rest. any_among xs all.1 rest) (or_cases (p x) (list_any p xs) h)
    where
      by : (list_any p xs ≡ true → list_any q xs ≡ true) → (p x ≡ true) ⊎ (list_any p xs ≡ true) → list_any q (x ∷ xs) ≡ true
      by later (inl first) = or_left (q x) (list_any q xs) (more x all.0 first)
      by later (inr rest) = or_right (q x) (list_any q xs) (later rest)

  pub count_among : (xs : List X) → AllByRecursion P xs → length (filter p xs) ≤ length (filter q xs)
  count_among [] all = omega arith
  count_among (x ∷ xs) all = by (p x) (q x) (more x all.0) (count_among xs all.1)
    where
      by : (a b : Bool) → (a ≡ true → b ≡ true) → length (filter p xs) ≤ length (filter q xs)
          → length (cond a (x ∷ filter p xs) (filter p xs)) ≤ length (cond b (x ∷ filter q xs) (filter q xs))
      by true true same le = omega arith
      by true false same le = absurd (let bad : false ≡ true = same refl in cc)
      by false true same le = omega arith
      by false false same le = le

trivial : {X : Type 0} (xs : List X) → AllByRecursion (λ _. Unit {0}) xs
trivial [] = tt
trivial (x ∷ xs) = (tt, trivial xs)

module _ {X : Type 0} (p q : X → Bool) where
  pub any_more : (xs : List X) → ((x : X) → p x ≡ true → q x ≡ true) → list_any p xs ≡ true → list_any q xs ≡ true
  any_more xs more h = any_among (λ _. Unit {0}) p q (λ x _. more x) xs (trivial xs) h

  pub none_more : (xs : List X) → ((x : X) → p x ≡ true → q x ≡ true) → list_any q xs ≡ false → list_any p xs ≡ false
  none_more xs more h = false_from_ne_true (list_any p xs) (λ there. let bad : true ≡ false = sym (any_more xs more there) ∙ h in absurd cc)

  pub all_more : (xs : List X) → ((x : X) → p x ≡ true → q x ≡ true) → list_all p xs ≡ true → list_all q xs ≡ true
  all_more [] more h = h
  all_more (x ∷ xs) more h =
      let parts : _ = and_parts (p x) (list_all p xs) h in
      and_from (q x) (list_all q xs) (more x parts.0) (all_more xs more parts.1)

  -- none passes the one, so all pass the other
  pub all_but : (xs : List X) → ((x : X) → p x ≡ false → q x ≡ true) → list_any p xs ≡ false → list_all q xs ≡ true
  all_but [] more h = refl
  all_but (x ∷ xs) more h =
      let parts : _ = or_parts (p x) (list_any p xs) h in
      and_from (q x) (list_all q xs) (more x parts.0) (all_but xs more parts.1)

  -- all pass the one, so none passes the other
  pub none_but : (xs : List X) → ((x : X) → p x ≡ true → q x ≡ false) → list_all p xs ≡ true → list_any q xs ≡ false
  none_but [] more h = refl
  none_but (x ∷ xs) more h =
      let parts : _ = and_parts (p x) (list_all p xs) h in
      rw (more x parts.0) (none_but xs more parts.1)

one_more : {X : Type 0} (P : X → Type 0) (xs : List X) (x : X) → AllByRecursion P xs → P x → AllByRecursion P (xs ++ x ∷ [])
one_more P [] x all last = (last, tt)
one_more P (y ∷ ys) x all last = (all.0, one_more P ys x all.1 last)

-- the numbers of a set are in it
pub are_members : (set k : ℕ) → AllByRecursion (λ m. has set m ≡ true) (numbers_to set k)
are_members set zero = tt
are_members set (suc k) = by (has set (suc k)) refl (are_members set k)
  where
    by : (b : Bool) → b ≡ has set (suc k) → AllByRecursion (λ m. has set m ≡ true) (numbers_to set k)
        → AllByRecursion (λ m. has set m ≡ true) (cond b (numbers_to set k ++ suc k ∷ []) (numbers_to set k))
    by true is all = one_more (λ m. has set m ≡ true) (numbers_to set k) (suc k) all (sym is)
    by false is all = all
