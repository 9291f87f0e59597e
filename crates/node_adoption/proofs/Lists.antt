-- What is made of each item of a list, one more at a time.
use Rattle.std.proofs.Common.{◌≡◌, ℕ, ◌+◌, ◌<◌, List, [], ◌∷◌, ◌++◌, Some, None, length, take, get_or, arith, refl, inl, inr, ap, sym, ◌∙◌, append_assoc}
use Rattle.std.specs.List.{flat_map, slice_get}
use Rattle.std.proofs.lemmas.List.{take_more, take_all, append-nil}
use Rattle.std.proofs.lemmas.Grind.{flat_map-append}
use Rattle.std.proofs.lemmas.Option.{slice_get_within, slice_get_cases, get_or_from_slice_get}

module _ {X Y : Type 0} (f : X → List Y) (xs : List X) (i : ℕ) where
  pub one_more : (x : X) → i < length xs → x ≡ get_or xs i x → flat_map f (take i xs) ++ f x ≡ flat_map f (take (i + 1) xs)
  one_more x low here = rw (take_more xs i x low, ← here, flat_map-append f (take i xs) (x ∷ []), append-nil (f x)) refl

  pub one_more_at : (x : X) → slice_get xs i ≡ Some x → flat_map f (take i xs) ++ f x ≡ flat_map f (take (i + 1) xs)
  one_more_at x is = one_more x (slice_get_within xs i x is) (sym (get_or_from_slice_get xs i x x is))

  pub no_more : slice_get xs i ≡ None → flat_map f (take i xs) ≡ flat_map f (take (i + 1) xs)
  no_more none = elim (slice_get_cases xs i).1 [
    | inl there ↦ cc (none, there.2)
    | inr past ↦ rw (take_all i xs past.0, take_all (i + 1) xs (omega (arith, past.0))) refl
  ]

  -- behind what was there before
  pub told_more : (before out new : List Y) (x : X) → i < length xs → x ≡ get_or xs i x → out ≡ before ++ flat_map f (take i xs) → new ≡ out ++ f x → new ≡ before ++ flat_map f (take (i + 1) xs)
  told_more before out new x low here so told =
      told ∙ ap (λ os. os ++ f x) so ∙ append_assoc before (flat_map f (take i xs)) (f x) ∙ ap (λ os. before ++ os) (one_more x low here)

  pub told_more_at : (before out new : List Y) (x : X) → slice_get xs i ≡ Some x → out ≡ before ++ flat_map f (take i xs) → new ≡ out ++ f x → new ≡ before ++ flat_map f (take (i + 1) xs)
  told_more_at before out new x is so told = told_more before out new x (slice_get_within xs i x is) (sym (get_or_from_slice_get xs i x x is)) so told
