-- A report, one more thing of the configuration at a time.
use Rattle.std.proofs.Common.{◌≡◌, ℕ, ◌+◌, List, [], ◌∷◌, ◌++◌, Some, None, take, arith, refl, inl, inr}
use Rattle.std.specs.List.{flat_map, slice_get}
use Rattle.std.proofs.lemmas.List.{take_more, take_all, append-nil}
use Rattle.std.proofs.lemmas.Grind.{flat_map-append}
use Rattle.std.proofs.lemmas.Option.{slice_get_within, slice_get_cases, get_or_from_slice_get}

module _ {X Y : Type 0} (f : X → List Y) (xs : List X) (i : ℕ) where
  pub one_more : (x : X) → slice_get xs i ≡ Some x → flat_map f (take i xs) ++ f x ≡ flat_map f (take (i + 1) xs)
  one_more x is = rw (take_more xs i x (slice_get_within xs i x is), get_or_from_slice_get xs i x x is, flat_map-append f (take i xs) (x ∷ []), append-nil (f x)) refl

  pub no_more : slice_get xs i ≡ None → flat_map f (take i xs) ≡ flat_map f (take (i + 1) xs)
  no_more none = elim (slice_get_cases xs i).1 [
    | inl there ↦ cc (none, there.2)
    | inr past ↦ rw (take_all i xs past.0, take_all (i + 1) xs (omega (arith, past.0))) refl
  ]
