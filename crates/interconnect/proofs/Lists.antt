use Rattle.std.proofs.Common.{◌≡◌, ℕ, suc, zero, ◌+◌, ◌<◌, ◌≤◌, cond, true, false, Bool, List, [], ◌∷◌, Option, Some, None, length, map, filter, get_or, remove, refl, sym, ap, ◌∙◌, arith}
use Rattle.std.specs.List.{find, count_by}
use Rattle.std.specs.Option.{option_map}
use Rattle.std.specs.Prelude.{slice_get}
use Rattle.std.proofs.lemmas.List.Sums.{sum_by-cons}

-- filters and searches, through a map

pub filter_mapped : {X Y : Type 0} (f : X → Y) (q : Y → Bool) (xs : List X) → filter q (map f xs) ≡ map f (filter (λ x. q (f x)) xs)
filter_mapped f q [] = refl
filter_mapped {X} {Y} f q (x ∷ rest) =
    elim (q (f x)) as (λ (b : Bool). cond b (f x ∷ filter q (map f rest)) (filter q (map f rest)) ≡ map f (cond b (x ∷ filter (λ x. q (f x)) rest) (filter (λ x. q (f x)) rest))) [
      | true ↦ ap (λ (l : List Y). f x ∷ l) (filter_mapped f q rest)
      | false ↦ filter_mapped f q rest
    ]

pub find_mapped : {X Y : Type 0} (f : X → Y) (q : Y → Bool) (xs : List X) → find q (map f xs) ≡ option_map f (find (λ x. q (f x)) xs)
find_mapped f q [] = refl
find_mapped f q (x ∷ rest) =
    elim (q (f x)) as (λ (b : Bool). cond b (Some (f x)) (find q (map f rest)) ≡ option_map f (cond b (Some x) (find (λ x. q (f x)) rest))) [
      | true ↦ refl
      | false ↦ find_mapped f q rest
    ]

-- the first that passes
pub first_filtered : {X : Type 0} (f : X → ℕ) (p : X → Bool) (xs : List X) → slice_get (map f (filter p xs)) 0 ≡ option_map f (find p xs)
first_filtered f p [] = refl
first_filtered f p (x ∷ rest) =
    elim (p x) as (λ (b : Bool). slice_get (map f (cond b (x ∷ filter p rest) (filter p rest))) 0 ≡ option_map f (cond b (Some x) (find p rest))) [
      | true ↦ refl
      | false ↦ first_filtered f p rest
    ]

-- an element that does not pass may as well be gone
pub filter_removed : {X : Type 0} (p : X → Bool) (xs : List X) (i : ℕ) (x : X) → i < length xs → x ≡ get_or xs i x → p x ≡ false
    → filter p (remove xs i) ≡ filter p xs
filter_removed p [] i x l e t = absurd (omega arith)
filter_removed p (y ∷ rest) zero x l e t =
    let s : p y ≡ false = ap p (sym e) ∙ t in rw s refl
filter_removed {X} p (y ∷ rest) (suc i) x l e t =
    let k = filter_removed p rest i x (omega arith) e t in
    elim (p y) as (λ (b : Bool). cond b (y ∷ filter p (remove rest i)) (filter p (remove rest i)) ≡ cond b (y ∷ filter p rest) (filter p rest)) [
      | true ↦ ap (λ (l : List X). y ∷ l) k
      | false ↦ k
    ]

filter_twice : {X : Type 0} (p q : X → Bool) (x : X) (b c : Bool) (ps qs : List X) (both : List X)
    → filter p qs ≡ both → filter q ps ≡ both → p x ≡ b → q x ≡ c
    → filter p (cond c (x ∷ qs) qs) ≡ filter q (cond b (x ∷ ps) ps)
filter_twice {X} p q x true true ps qs both e f s t = rw (s, t) (ap (λ (l : List X). x ∷ l) (e ∙ sym f))
filter_twice p q x true false ps qs both e f s t = rw t (e ∙ sym f)
filter_twice p q x false true ps qs both e f s t = rw s (e ∙ sym f)
filter_twice p q x false false ps qs both e f s t = e ∙ sym f

pub filter_comm : {X : Type 0} (p q : X → Bool) (xs : List X) → filter p (filter q xs) ≡ filter q (filter p xs)
filter_comm p q [] = refl
filter_comm p q (x ∷ rest) =
    filter_twice p q x (p x) (q x) (filter p rest) (filter q rest) (filter p (filter q rest)) refl (sym (filter_comm p q rest)) refl refl

-- counts

abbrev pub weight : Bool → ℕ
weight b = cond b 1 0

pub weight_yes : (b : Bool) → b ≡ true → weight b ≡ 1
weight_yes b e = rw e refl

pub weight_no : (b : Bool) → b ≡ false → weight b ≡ 0
weight_no b e = rw e refl

pub count_cons : {X : Type 0} (p : X → Bool) (x : X) (xs : List X) → count_by p (x ∷ xs) ≡ weight (p x) + count_by p xs
count_cons p x xs = sum_by-cons (λ y. cond (p y) 1 0) x xs

count_filter_at : {X : Type 0} (p : X → Bool) (x : X) (b : Bool) (kept rest : List X) → count_by p kept ≤ count_by p rest
    → count_by p (cond b (x ∷ kept) kept) ≤ count_by p (x ∷ rest)
count_filter_at p x true kept rest k = omega (arith, count_cons p x kept, count_cons p x rest)
count_filter_at p x false kept rest k = omega (arith, count_cons p x rest)

pub count_filter : {X : Type 0} (p q : X → Bool) (xs : List X) → count_by p (filter q xs) ≤ count_by p xs
count_filter p q [] = omega arith
count_filter p q (x ∷ rest) = count_filter_at p x (q x) (filter q rest) rest (count_filter p q rest)

found_first : {X : Type 0} (x y : X) → (let o : Option X = Some x in o ≡ Some y) → x ≡ y
found_first x y e = cc

count_less_at : {X : Type 0} (p q : X → Bool) (x y : X) (b c : Bool) (rest : List X) → p x ≡ b → q x ≡ c → cond b (Some x) (find p rest) ≡ Some y → q y ≡ false
    → (find p rest ≡ Some y → count_by p (filter q rest) + 1 ≤ count_by p rest)
    → count_by p (cond c (x ∷ filter q rest) (filter q rest)) + 1 ≤ count_by p (x ∷ rest)
count_less_at p q x y true c rest s t e fails k =
    let gone : q x ≡ false = ap q (found_first x y e) ∙ fails in
    let is : c ≡ false = sym t ∙ gone in
    let one : weight (p x) ≡ 1 = weight_yes (p x) s in
    rw is (omega (arith, count_cons p x rest, count_filter p q rest))
count_less_at p q x y false c rest s t e fails k =
    let less = k e in
    let none : weight (p x) ≡ 0 = weight_no (p x) s in
    elim c as (λ (d : Bool). count_by p (cond d (x ∷ filter q rest) (filter q rest)) + 1 ≤ count_by p (x ∷ rest)) [
      | true ↦ omega (arith, count_cons p x (filter q rest), count_cons p x rest)
      | false ↦ omega (arith, count_cons p x rest)
    ]

no_some : {X : Type 0} (y : X) → (let o : Option X = None in o ≡ Some y) → ⊥
no_some y e = cc

-- without the first that passes there is one less
pub count_less : {X : Type 0} (p q : X → Bool) (xs : List X) (y : X) → find p xs ≡ Some y → q y ≡ false → count_by p (filter q xs) + 1 ≤ count_by p xs
count_less p q [] y e fails = absurd (no_some y e)
count_less p q (x ∷ rest) y e fails = count_less_at p q x y (p x) (q x) rest refl refl e fails (λ f. count_less p q rest y f fails)

count_none_at : {X : Type 0} (p : X → Bool) (x : X) (b : Bool) (rest : List X) → p x ≡ b → cond b (Some x) (find p rest) ≡ None → (find p rest ≡ None → count_by p rest ≡ 0)
    → count_by p (x ∷ rest) ≡ 0
count_none_at p x true rest s e k = absurd (no_some x (sym e))
count_none_at p x false rest s e k =
    let none : weight (p x) ≡ 0 = weight_no (p x) s in
    omega (arith, count_cons p x rest, k e)

pub count_none : {X : Type 0} (p : X → Bool) (xs : List X) → find p xs ≡ None → count_by p xs ≡ 0
count_none p [] e = refl
count_none p (x ∷ rest) e = count_none_at p x (p x) rest refl e (count_none p rest)
