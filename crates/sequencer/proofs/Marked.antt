-- Asking for a mark after one was set or taken away.
use Rattle.std.proofs.Common.{◌≡◌, ◌≢◌, ℕ, ◌==◌, ◌⊎◌, inl, inr, Bool, true, false, cond, not, ◌&&◌, ◌||◌, List, [], ◌∷◌, ◌++◌, refl, sym, ap, ◌∙◌}
use Rattle.std.proofs.Math.Bool.{or-false}
use Rattle.std.proofs.lemmas.Bool.{eq-eqb, eqb-true, ne_eqb}
use Rattle.std.proofs.lemmas.Bool.Decides.{eqb_tells}
use Rattle.std.proofs.lemmas.List.Folds.{list_any-append}
use Rattle.std.proofs.lemmas.Map.Views.{any-filter_same}
use Rattle.std.specs.Str.{bytes_eq}
use Rattle.cl_base.proofs.NameLemmas.{text_flips, texts_pass}
use Rattle.rg_view.specs.declared.name_at.NameAt.{NameAt}
use Rattle.rg_view.specs.Marks.{is_marked, marks_with, marks_without}
use Rattle.rg_view.specs.PlaceLaws.{one_place}
use Rattle.rg_view.specs.Places.{same_place, place}
use Rattle.sequencer.specs.Renewals.{Turning, put}

nodes_flip : (m n : ℕ) → (m == n) ≡ (n == m)
nodes_flip m n = by (eqb_tells m n)
  where
    by : ((m == n) ≡ true) × (m ≡ n) ⊎ ((m == n) ≡ false) × (m ≢ n) → (m == n) ≡ (n == m)
    by (inl (p, e)) = p ∙ sym (eq-eqb n m (sym e))
    by (inr (p, ne)) = p ∙ sym (ne_eqb n m (λ e. ne (sym e)))

-- one mark more at the end
at_end : (marks : List NameAt) (x : List ℕ) (n : ℕ) (y : List ℕ) (m : ℕ) → is_marked (marks ++ place x n ∷ []) y m ≡ (is_marked marks y m || (bytes_eq y x && (m == n)))
at_end marks x n y m =
    list_any-append (same_place (place y m)) marks (place x n ∷ []) ∙ ap (λ (b : Bool). is_marked marks y m || b) (or-false (bytes_eq y x && (m == n)))

module _ (marks : List NameAt) (x : List ℕ) (n : ℕ) where
  -- the marks of another name stay

  pub with_other : (y : List ℕ) (m : ℕ) → bytes_eq x y ≡ false → is_marked (marks_with marks x n) y m ≡ is_marked marks y m
  with_other y m out = by (is_marked marks x n)
    where
      by : (b : Bool) → is_marked (cond b marks (marks ++ place x n ∷ [])) y m ≡ is_marked marks y m
      by true = refl
      by false = at_end marks x n y m ∙ ap (λ (b : Bool). is_marked marks y m || (b && (m == n))) (text_flips y x ∙ out) ∙ or-false (is_marked marks y m)

  without_other : (y : List ℕ) (m : ℕ) → bytes_eq x y ≡ false → is_marked (marks_without marks x n) y m ≡ is_marked marks y m
  without_other y m out =
      any-filter_same (same_place (place y m)) (λ k. not (same_place (place x n) k)) true
      (λ k same. ap (λ (p : NameAt). not (same_place (place x n) p)) (sym (one_place (place y m) k same)) ∙ ap (λ (b : Bool). not (b && (n == m))) out) marks

  -- and those of the name at other nodes

  pub with_here : (m : ℕ) → is_marked (marks_with marks x n) x m ≡ (is_marked marks x m || (m == n))
  with_here m = by (is_marked marks x n) refl
    where
      there : is_marked marks x n ≡ true → (b : Bool) → b ≡ (m == n) → is_marked marks x m ≡ (is_marked marks x m || b)
      there is true e = let at : m ≡ n = eqb-true m n (sym e) in
          let marked : is_marked marks x m ≡ true = ap (is_marked marks x) at ∙ is in
          marked ∙ ap (λ (c : Bool). c || true) (sym marked)
      there is false e = sym (or-false (is_marked marks x m))

      by : (b : Bool) → b ≡ is_marked marks x n → is_marked (cond b marks (marks ++ place x n ∷ [])) x m ≡ (is_marked marks x m || (m == n))
      by true is = there (sym is) (m == n) refl
      by false is = at_end marks x n x m ∙ ap (λ (b : Bool). is_marked marks x m || (b && (m == n))) (texts_pass x x refl)

  without_here : (m : ℕ) → is_marked (marks_without marks x n) x m ≡ (not (m == n) && is_marked marks x m)
  without_here m =
      any-filter_same (same_place (place x m)) (λ k. not (same_place (place x n) k)) (not (m == n))
      (λ k same.
      ap (λ (p : NameAt). not (same_place (place x n) p)) (sym (one_place (place x m) k same))
      ∙ ap (λ (b : Bool). not (b && (n == m))) (texts_pass x x refl) ∙ ap not (nodes_flip n m)) marks

-- A place that is put as it is to be.
module _ (s : Turning) (x : List ℕ) (n : ℕ) where
  pub put_other : (was goes : Bool) (y : List ℕ) (m : ℕ) → bytes_eq x y ≡ false → is_marked (put s x n was goes).going y m ≡ is_marked s.going y m
  put_other true true y m out = refl
  put_other false false y m out = refl
  put_other false true y m out = with_other s.going x n y m out
  put_other true false y m out = without_other s.going x n y m out

  pub put_here : (was goes : Bool) → was ≡ is_marked s.going x n → (m : ℕ) → is_marked (put s x n was goes).going x m ≡ cond (m == n) goes (is_marked s.going x m)
  put_here true true is m = by (m == n) refl
    where
      by : (b : Bool) → b ≡ (m == n) → is_marked s.going x m ≡ cond b true (is_marked s.going x m)
      by true e = ap (is_marked s.going x) (eqb-true m n (sym e)) ∙ sym is
      by false e = refl
  put_here false false is m = by (m == n) refl
    where
      by : (b : Bool) → b ≡ (m == n) → is_marked s.going x m ≡ cond b false (is_marked s.going x m)
      by true e = ap (is_marked s.going x) (eqb-true m n (sym e)) ∙ sym is
      by false e = refl
  put_here false true is m = with_here s.going x n m ∙ by (m == n) (is_marked s.going x m)
    where
      by : (b c : Bool) → (c || b) ≡ cond b true c
      by true true = refl
      by true false = refl
      by false true = refl
      by false false = refl
  put_here true false is m = without_here s.going x n m ∙ by (m == n) (is_marked s.going x m)
    where
      by : (b c : Bool) → (not b && c) ≡ cond b false c
      by true c = refl
      by false c = refl

  -- where nothing turned, all is as it was
  pub put_unturned : (was goes : Bool) → (put s x n was goes).turned ≡ false → put s x n was goes ≡ s
  put_unturned true true none = refl
  put_unturned false false none = refl
  put_unturned false true none = absurd (let bad : true ≡ false = none in cc)
  put_unturned true false none = absurd (let bad : true ≡ false = none in cc)
