-- The weak targets that are listed resource by resource are those of all.
use Rattle.std.proofs.Common.{◌≡◌, ℕ, zero, suc, ◌+◌, List, [], ◌∷◌, ◌++◌, take, refl, sym, ap, ◌∙◌, add-one, append-nil, append_assoc}
use Rattle.std.specs.List.{flat_map, slice_get}
use Rattle.std.specs.Option.{option_map_or}

one_more : {A B : Type 0} (f : A → List B) (xs : List A) (i : ℕ) → flat_map f (take (suc i) xs) ≡ flat_map f (take i xs) ++ option_map_or f (slice_get xs i) []
one_more f [] zero = refl
one_more f [] (suc i) = refl
one_more f (x ∷ xs) zero = append-nil (f x)
one_more f (x ∷ xs) (suc i) =
    ap (λ (ys : _). f x ++ ys) (one_more f xs i) ∙ sym (append_assoc (f x) (flat_map f (take i xs)) (option_map_or f (slice_get xs i) []))

pub listed_more : {A B : Type 0} (f : A → List B) (xs : List A) (i : ℕ) (before more after : List B) → after ≡ before ++ more → before ≡ flat_map f (take i xs)
    → more ≡ option_map_or f (slice_get xs i) [] → after ≡ flat_map f (take (i + 1) xs)
listed_more f xs i before more after e so_far next = rw (add-one i) (e ∙ (λ j. so_far j ++ next j) ∙ sym (one_more f xs i))
