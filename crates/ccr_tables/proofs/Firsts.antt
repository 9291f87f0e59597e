-- The first of named things that passes a test, as they are gone along.
use Rattle.std.proofs.Common.{◌≡◌, ℕ, ◌+◌, ◌≤◌, Bool, true, false, List, [], ◌∷◌, ◌++◌, Option, Some, None, take, drop, length, get_or, arith, refl, ap, sym, inl, inr, ◌⊎◌, ◌∙◌}
use Rattle.std.specs.List.{find, slice_get}
use Rattle.std.specs.Option.{option_map}
use Rattle.std.proofs.lemmas.List.{take_more, take_all, take-append-drop}
use Rattle.std.proofs.lemmas.List.Folds.{find-append}
use Rattle.std.proofs.lemmas.Option.{slice_get_within, slice_get_cases, get_or_from_slice_get}
use Rattle.ccr_tables.specs.Uses.{first_named}

module _ {X : Type 0} (test : X → Bool) (things : List (List ℕ × X)) (i : ℕ) where
  -- one more thing, which does not pass
  pub none_more : (p : List ℕ × X) → find (λ (q : List ℕ × X). test q.1) (take i things) ≡ None → Some p ≡ slice_get things i → false ≡ test p.1
      → find (λ (q : List ℕ × X). test q.1) (take (i + 1) things) ≡ None
  none_more p none is fails =
      rw (take_more things i p (slice_get_within things i p (sym is)), get_or_from_slice_get things i p p (sym is), find-append (λ (q : List ℕ × X). test q.1) (take i things) (p ∷ []), none, ← fails) refl

  -- no more things
  pub none_past : find (λ (q : List ℕ × X). test q.1) (take i things) ≡ None → None ≡ slice_get things i
      → find (λ (q : List ℕ × X). test q.1) (take (i + 1) things) ≡ None
  none_past none is = elim (slice_get_cases things i).1 [
    | inl there ↦ cc (is ∙ there.2)
    | inr past ↦
        let shorter = rw (take_all i things past.0) at none in
        rw (take_all (i + 1) things (omega (arith, past.0))) shorter
  ]

  -- none at all
  pub none_there : find (λ (q : List ℕ × X). test q.1) (take i things) ≡ None → length things ≤ i → None ≡ first_named test things
  none_there none past =
      let all = rw (take_all i things past) at none in
      rw all refl

  -- the first one that passes
  pub found_here : (p : List ℕ × X) → find (λ (q : List ℕ × X). test q.1) (take i things) ≡ None → Some p ≡ slice_get things i → true ≡ test p.1
      → Some p.0 ≡ first_named test things
  found_here p none is passes =
      let here : find (λ (q : List ℕ × X). test q.1) (take (i + 1) things) ≡ Some p =
      rw (take_more things i p (slice_get_within things i p (sym is)), get_or_from_slice_get things i p p (sym is), find-append (λ (q : List ℕ × X). test q.1) (take i things) (p ∷ []), none, ← passes) refl in
      let whole : find (λ (q : List ℕ × X). test q.1) (take (i + 1) things ++ drop (i + 1) things) ≡ Some p =
      rw (find-append (λ (q : List ℕ × X). test q.1) (take (i + 1) things) (drop (i + 1) things), here) refl in
      let all = rw (take-append-drop (i + 1) things) at whole in
      rw all refl
