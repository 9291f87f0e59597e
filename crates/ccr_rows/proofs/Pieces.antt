-- The rows of things, as they are gone along.
use Rattle.std.proofs.Common.{◌≡◌, ℕ, ◌+◌, ◌≤◌, List, [], ◌∷◌, ◌++◌, Option, Some, None, take, length, get_or, map, arith, refl, ap, sym, inl, inr, ◌⊎◌, ◌∙◌, append_assoc}
use Rattle.std.specs.List.{flat_map, slice_get}
use Rattle.std.specs.Fmt.{decimal}
use Rattle.std.proofs.lemmas.List.{take_more, take_all, flat_map_more}
use Rattle.std.proofs.lemmas.List.Concat.{flat_map_single}
use Rattle.std.proofs.lemmas.Option.{slice_get_within, slice_get_cases, get_or_from_slice_get}
use Rattle.cl_base.specs.Numbers.{by_commas}
use Rattle.ccr_rows.specs.Texts.{with_commas}

-- numbers with commas between are written as other items are
pub numbers_same : (numbers : List ℕ) → with_commas decimal numbers ≡ by_commas numbers
numbers_same [] = refl
numbers_same (n ∷ numbers) = refl

-- rows before those of things that are gone along by their places
module _ {X Y : Type 0} (f : X → List Y) (things : List X) (i : ℕ) (old mid : List Y) (so_far : mid ≡ old ++ flat_map f (take i things)) where
  -- one more thing
  pub one_more : (x : X) (new : List Y) → new ≡ mid ++ f x → Some x ≡ slice_get things i → new ≡ old ++ flat_map f (take (i + 1) things)
  one_more x new pushed is =
      let step : (old ++ flat_map f (take i things)) ++ f x ≡ old ++ flat_map f (take (i + 1) things) =
      rw (take_more things i x (slice_get_within things i x (sym is)), get_or_from_slice_get things i x x (sym is)) (flat_map_more f old (take i things) x) in
      pushed ∙ ap (λ rows. rows ++ f x) so_far ∙ step

  -- no more things
  pub none_more : None ≡ slice_get things i → mid ≡ old ++ flat_map f (take (i + 1) things)
  none_more is = elim (slice_get_cases things i).1 [
    | inl there ↦ cc (is ∙ there.2)
    | inr past ↦
        let shorter = rw (take_all i things past.0) at so_far in
        rw (take_all (i + 1) things (omega (arith, past.0))) shorter
  ]

  -- all of them
  pub all_done : length things ≤ i → mid ≡ old ++ flat_map f things
  all_done past = rw (take_all i things past) at so_far

-- things of one row each
pub single_rows : {X Y : Type 0} (f : X → Y) (xs : List X) → flat_map (λ x. f x ∷ []) xs ≡ map f xs
single_rows f xs = flat_map_single f xs

-- rows joined to rows
pub joined : {Y : Type 0} (old mid new a b : List Y) → new ≡ mid ++ b → mid ≡ old ++ a → new ≡ old ++ (a ++ b)
joined old mid new a b last first = last ∙ ap (λ rows. rows ++ b) first ∙ append_assoc old a b
