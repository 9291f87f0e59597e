-- Whether one of several things passes a test, as they are gone along.
use Rattle.std.proofs.Common.{◌≡◌, ℕ, ◌+◌, ◌≤◌, Bool, true, false, ◌||◌, List, [], ◌∷◌, ◌++◌, Some, None, take, drop, length, arith, refl, sym, inl, inr, ◌∙◌}
use Rattle.std.specs.List.{list_any, slice_get}
use Rattle.std.proofs.lemmas.List.{take_more, take_all, take-append-drop}
use Rattle.std.proofs.lemmas.Option.{slice_get_within, slice_get_cases, get_or_from_slice_get}

module _ {X : Type 0} (test : X → Bool) where
  any_append : (xs ys : List X) → list_any test (xs ++ ys) ≡ (list_any test xs || list_any test ys)
  any_append [] ys = refl
  any_append (x ∷ xs) ys = by (test x) (any_append xs ys)
    where
      by : (b : Bool) → list_any test (xs ++ ys) ≡ (list_any test xs || list_any test ys) → (b || list_any test (xs ++ ys)) ≡ ((b || list_any test xs) || list_any test ys)
      by true ih = refl
      by false ih = ih

  module _ (xs : List X) (i : ℕ) where
    -- one more thing, which does not pass
    pub none_more : (x : X) → list_any test (take i xs) ≡ false → Some x ≡ slice_get xs i → false ≡ test x → list_any test (take (i + 1) xs) ≡ false
    none_more x none is fails =
        rw (take_more xs i x (slice_get_within xs i x (sym is)), get_or_from_slice_get xs i x x (sym is), any_append (take i xs) (x ∷ []), none, ← fails) refl

    -- no more things
    pub none_past : list_any test (take i xs) ≡ false → None ≡ slice_get xs i → list_any test (take (i + 1) xs) ≡ false
    none_past none is = elim (slice_get_cases xs i).1 [
      | inl there ↦ cc (is ∙ there.2)
      | inr past ↦
          let shorter = rw (take_all i xs past.0) at none in
          rw (take_all (i + 1) xs (omega (arith, past.0))) shorter
    ]

    -- none at all
    pub none_there : list_any test (take i xs) ≡ false → length xs ≤ i → false ≡ list_any test xs
    none_there none past =
        let all = rw (take_all i xs past) at none in
        rw all refl

    -- one that passes
    pub one_here : (x : X) → list_any test (take i xs) ≡ false → Some x ≡ slice_get xs i → true ≡ test x → true ≡ list_any test xs
    one_here x none is passes =
        let here : list_any test (take (i + 1) xs) ≡ true =
        rw (take_more xs i x (slice_get_within xs i x (sym is)), get_or_from_slice_get xs i x x (sym is), any_append (take i xs) (x ∷ []), none, ← passes) refl in
        let whole : list_any test (take (i + 1) xs ++ drop (i + 1) xs) ≡ true =
        rw (any_append (take (i + 1) xs) (drop (i + 1) xs), here) refl in
        let all = rw (take-append-drop (i + 1) xs) at whole in
        rw all refl
