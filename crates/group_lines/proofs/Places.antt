-- One more place of a list; and the name of the thing at a place is found.
use Rattle.std.proofs.Common.{◌≡◌, ℕ, ◌+◌, zero, suc, Bool, true, false, cond, List, [], ◌∷◌, ◌++◌, Option, None, Some, IsSome, take, slice_get, refl, sym, ap, ◌∙◌, add-one}
use Rattle.std.proofs.lemmas.List.{append-nil, append_assoc}
use Rattle.std.proofs.lemmas.List.Concat.{flat_map-cons}
use Rattle.std.proofs.lemmas.Cmp.{nat_list_eq_equiv}
use Rattle.std.specs.List.{flat_map}
use Rattle.std.specs.Str.{bytes_eq}
use Rattle.rg_props.specs.Lookups.{named}
use Rattle.group_lines.specs.Places.{made_of}

module _ {X Y : Type 0} (f : X → List Y) where
  more_at : (xs : List X) (i : ℕ) → flat_map f (take i xs) ++ made_of f (slice_get xs i) ≡ flat_map f (take (suc i) xs)
  more_at [] zero = refl
  more_at [] (suc i) = refl
  more_at (x ∷ xs) zero = sym (flat_map-cons f x (take 0 xs) ∙ append-nil (f x))
  more_at (x ∷ xs) (suc i) =
      ap (λ l. l ++ made_of f (slice_get xs i)) (flat_map-cons f x (take i xs))
      ∙ (append_assoc (f x) (flat_map f (take i xs)) (made_of f (slice_get xs i))
      ∙ (ap (λ l. f x ++ l) (more_at xs i) ∙ sym (flat_map-cons f x (take (suc i) xs))))

  pub one_more_place : (xs : List X) (i : ℕ) → flat_map f (take i xs) ++ made_of f (slice_get xs i) ≡ flat_map f (take (i + 1) xs)
  one_more_place xs i = more_at xs i ∙ ap (λ j. flat_map f (take j xs)) (sym (add-one i))

module _ {X : Type 0} where
  abbrev has_name : List ℕ → Option (List ℕ × X) → Bool
  has_name name None = false
  has_name name (Some e) = bytes_eq name e.0

  pub found_there : (xs : List (List ℕ × X)) (i : ℕ) (name : List ℕ) (x : X) → Some (name, x) ≡ slice_get xs i → IsSome (named xs name)
  found_there [] zero name x there = cc there
  found_there [] (suc i) name x there = cc there
  found_there (e ∷ xs) zero name x there = by (bytes_eq name e.0) (sym (ap (has_name name) there) ∙ nat_list_eq_equiv.refl name)
    where
      by : (b : Bool) → b ≡ true → IsSome (cond b (Some e.1) (named xs name))
      by true own = refl
      by false own = cc own
  found_there (e ∷ xs) (suc i) name x there = by (bytes_eq name e.0) (found_there xs i name x there)
    where
      by : (b : Bool) → IsSome (named xs name) → IsSome (cond b (Some e.1) (named xs name))
      by true below = refl
      by false below = below
