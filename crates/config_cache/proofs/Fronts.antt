-- Lists that begin with another.
use Rattle.std.proofs.Common.{◌≡◌, ℕ, zero, suc, ◌+◌, ◌<◌, ◌≤◌, List, [], ◌∷◌, ◌++◌, Some, None, length, take, append-nil, refl, ap, ap₂, arith, sym, ◌∙◌}
use Rattle.std.specs.Prelude.{slice_get}
use Rattle.std.proofs.lemmas.List.{take_all, take_more}
use Rattle.std.proofs.lemmas.Option.{get_or_from_slice_get, slice_get_within}

take_of_take : {X : Type 0} (xs : List X) (n m : ℕ) → n ≤ m → take n (take m xs) ≡ take n xs
take_of_take [] zero m low = refl
take_of_take [] (suc n) zero low = refl
take_of_take [] (suc n) (suc m) low = refl
take_of_take (x ∷ xs) zero m low = refl
take_of_take (x ∷ xs) (suc n) zero low = absurd (omega arith)
take_of_take (x ∷ xs) (suc n) (suc m) low = ap (λ t. x ∷ t) (take_of_take xs n m (omega arith))

get_of_take : {X : Type 0} (xs : List X) (n i : ℕ) → i < n → slice_get (take n xs) i ≡ slice_get xs i
get_of_take xs zero i low = absurd (omega arith)
get_of_take [] (suc n) i low = refl
get_of_take (x ∷ xs) (suc n) zero low = refl
get_of_take (x ∷ xs) (suc n) (suc i) low = get_of_take xs n i (omega arith)

-- one element farther, where the same stands in both
pub next_same : {X : Type 0} (xs ys : List X) (i : ℕ) → take i xs ≡ take i ys → slice_get xs i ≡ slice_get ys i
    → take (i + 1) xs ≡ take (i + 1) ys
next_same [] [] i so_far here = refl
next_same [] (y ∷ ys) zero so_far here = absurd (cc here)
next_same [] (y ∷ ys) (suc i) so_far here = absurd (cc so_far)
next_same (x ∷ xs) [] zero so_far here = absurd (cc here)
next_same (x ∷ xs) [] (suc i) so_far here = absurd (cc so_far)
next_same (x ∷ xs) (y ∷ ys) zero so_far here = cc here
next_same (x ∷ xs) (y ∷ ys) (suc i) so_far here =
    let first : x ≡ y = cc so_far in
    let rest : take (i + 1) xs ≡ take (i + 1) ys = next_same xs ys i (cc so_far) here in
    let farther : suc i + 1 ≡ suc (i + 1) = omega arith in
    rw farther (ap₂ ◌∷◌ first rest)

-- where another stands in it, the list does not begin so
pub not_same : {X : Type 0} (xs ys : List X) (i : ℕ) → i < length ys → (slice_get xs i ≡ slice_get ys i → ⊥)
    → take (length ys) xs ≡ ys → ⊥
not_same xs ys i low other same =
    other (sym (get_of_take xs (length ys) i low) ∙ ap (λ zs. slice_get zs i) same)

-- the same to the end
pub all_same : {X : Type 0} (xs ys : List X) (i : ℕ) → length ys ≤ i → take i xs ≡ take i ys → take (length ys) xs ≡ ys
all_same xs ys i past same =
    sym (take_of_take xs (length ys) i past) ∙ ap (λ zs. take (length ys) zs) same ∙ take_of_take ys (length ys) i past
    ∙ take_all (length ys) ys (omega arith)

pub whole_same : {X : Type 0} (xs ys : List X) (i : ℕ) → length xs ≡ length ys → length ys ≤ i → take i xs ≡ take i ys → xs ≡ ys
whole_same xs ys i equal past same = sym (take_all i xs (omega arith)) ∙ same ∙ take_all i ys past

-- a longer list is no front
pub too_long : {X : Type 0} (xs ys : List X) → length xs < length ys → take (length ys) xs ≡ ys → ⊥
too_long xs ys long same =
    let equal : length xs ≡ length ys = ap length (sym (take_all (length ys) xs (omega arith)) ∙ same) in
    absurd (omega arith)

-- the next element
pub one_more : {X : Type 0} (xs : List X) (i : ℕ) (x : X) → slice_get xs i ≡ Some x → take (i + 1) xs ≡ take i xs ++ x ∷ []
one_more xs i x here =
    take_more xs i x (slice_get_within xs i x here) ∙ ap (λ y. take i xs ++ y ∷ []) (get_or_from_slice_get xs i x x here)

-- inside the list there is one
pub none_beyond : {X : Type 0} (xs : List X) (i : ℕ) → slice_get xs i ≡ None → length xs ≤ i
none_beyond [] i here = omega arith
none_beyond (x ∷ xs) zero here = absurd (cc here)
none_beyond (x ∷ xs) (suc i) here = let most : length xs ≤ i = none_beyond xs i here in omega arith

pub take_whole : {X : Type 0} (xs : List X) (i : ℕ) → length xs ≤ i → take i xs ≡ xs
take_whole xs i past = take_all i xs past

-- nothing behind it
pub none_behind : {X : Type 0} (xs : List X) → xs ++ [] ≡ xs
none_behind xs = append-nil xs
