-- Taking out what a test finds: where keys are apart, the first that passes is the only one.
use Rattle.std.proofs.Common.{◌≡◌, Bool, true, false, cond, not, filter, Option, None, Some, List, [], ◌∷◌, refl, sym, ap, ◌∙◌}
use Rattle.std.specs.Cmp.{IsEquivalence}
use Rattle.std.specs.List.{find, AllByRecursion, IsDistinct}
use Rattle.std.specs.Map.{keys_of, remove_entry}
use Rattle.std.specs.Set.{remove_key}

lost : {X : Type 0} (c : Bool) (x y : Option X) → c ≡ false → cond c x None ≡ cond c y None
lost true x y h = cc h
lost false x y h = refl

module _ {X : Type 0} (test p : X → Bool) (b : Bool) (same : (x : X) → test x ≡ true → p x ≡ b) where
  -- what a filter keeps or loses as a whole is found as before, or not at all
  pub find_filter : (xs : List X) → find test (filter p xs) ≡ cond b (find test xs) None
  find_filter [] = nothing b
    where
      nothing : (c : Bool) → find test [] ≡ cond c (find test []) None
      nothing true = refl
      nothing false = refl
  find_filter (x ∷ xs) = by (test x) (p x) refl refl (find_filter xs)
    where
      by : (t c : Bool) → test x ≡ t → p x ≡ c → find test (filter p xs) ≡ cond b (find test xs) None → find test (filter p (x ∷ xs)) ≡ cond b (find test (x ∷ xs)) None
      by true true et ec ih = let eb : b ≡ true = sym (same x et) ∙ ec in rw (ec, eb, et) refl
      by true false et ec ih = let eb : b ≡ false = sym (same x et) ∙ ec in rw ec (ih ∙ lost b (find test xs) (find test (x ∷ xs)) eb)
      by false true et ec ih = rw (ec, et) ih
      by false false et ec ih = rw (ec, et) ih

module _ {K : Type 0} {eq : K → K → Bool} (laws : IsEquivalence eq) where
  none_more : (k x : K) → eq k x ≡ true → (ks : List K) → AllByRecursion (λ y. eq x y ≡ false) ks → filter (λ y. not (eq k y)) ks ≡ ks
  none_more k x e [] d = refl
  none_more k x e (y ∷ ys) d = rw (laws.congr k x y e ∙ d.0) (ap (λ (l : List K). y ∷ l) (none_more k x e ys d.1))

  pub remove_key_filter : (k : K) (ks : List K) → IsDistinct eq ks → remove_key (eq k) ks ≡ filter (λ x. not (eq k x)) ks
  unfolding IsDistinct
  remove_key_filter k [] d = refl
  remove_key_filter k (x ∷ ks) d = by (eq k x) refl (remove_key_filter k ks d.1)
    where
      by : (b : Bool) → eq k x ≡ b → remove_key (eq k) ks ≡ filter (λ y. not (eq k y)) ks → remove_key (eq k) (x ∷ ks) ≡ filter (λ y. not (eq k y)) (x ∷ ks)
      by true e ih = rw e (sym (none_more k x e ks d.0))
      by false e ih = rw e (ap (λ (l : List K). x ∷ l) ih)

  module _ {X : Type 0} where
    no_entry_more : (k x : K) → eq k x ≡ true → (es : List (K × X)) → AllByRecursion (λ y. eq x y ≡ false) (keys_of es) → filter (λ e. not (eq k e.0)) es ≡ es
    no_entry_more k x e [] d = refl
    no_entry_more k x e (y ∷ ys) d = rw (laws.congr k x y.0 e ∙ d.0) (ap (λ (l : List (K × X)). y ∷ l) (no_entry_more k x e ys d.1))

    pub remove_entry_filter : (k : K) (es : List (K × X)) → IsDistinct eq (keys_of es) → remove_entry (eq k) es ≡ filter (λ e. not (eq k e.0)) es
    unfolding IsDistinct
    remove_entry_filter k [] d = refl
    remove_entry_filter k (x ∷ es) d = by (eq k x.0) refl (remove_entry_filter k es d.1)
      where
        by : (b : Bool) → eq k x.0 ≡ b → remove_entry (eq k) es ≡ filter (λ e. not (eq k e.0)) es → remove_entry (eq k) (x ∷ es) ≡ filter (λ e. not (eq k e.0)) (x ∷ es)
        by true e ih = rw e (sym (no_entry_more k x.0 e es d.0))
        by false e ih = rw e (ap (λ (l : List (K × X)). x ∷ l) ih)
