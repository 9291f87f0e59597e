-- What `retain` leaves of a map whose values it changes.
use Rattle.std.proofs.Common.{◌≡◌, Bool, true, false, cond, filter, map, List, [], ◌∷◌, subst, refl, ◌∙◌}
use Rattle.std.specs.Map.Calls.{RetainsPairs}

module _ {K X F : Type 0} (T : F → K → X → Bool → X → F → Type 0) (test : K × X → Bool) (made : K × X → X) (f : F)
    (says : (k : K) (v : X) (b : Bool) (w : X) (g : F) → T f k v b w g → (b ≡ test (k, v)) × (w ≡ made (k, v)) × (g ≡ f)) where
  pub retained : (es kept : List (K × X)) → RetainsPairs T f es kept → kept ≡ map (λ e. (e.0, made e)) (filter test es)
  retained [] kept h = h
  retained (e ∷ es) kept h =
      let s = says e.0 e.1 h.0 h.1 h.2 h.4 in
      let rest = retained es h.3 (subst (λ g. RetainsPairs T g es h.3) s.2 h.5) in
      h.6 ∙ (λ j. cond {A = List (K × X)} (s.0 j) ((e.0, s.1 j) ∷ rest j) (rest j)) ∙ by (test e)
    where
      by : (t : Bool) → cond {A = List (K × X)} t ((e.0, made e) ∷ map (λ e. (e.0, made e)) (filter test es)) (map (λ e. (e.0, made e)) (filter test es)) ≡ map (λ e. (e.0, made e)) (cond t (e ∷ filter test es) (filter test es))
      by true = refl
      by false = refl
