-- Named things stay apart and fit: one more, one less, one changed.
use Rattle.std.proofs.Common.{◌≡◌, ◌≢◌, ℕ, List, [], ◌∷◌, ◌++◌, Bool, true, false, cond, refl, ap, subst, sym, ◌∙◌}
use Rattle.std.specs.Prelude.{Option, Some, None}
use Rattle.std.specs.List.{AllByRecursion}
use Rattle.std.specs.Str.{bytes_eq}
use Rattle.std.specs.Cmp.Lexicographic.{same_text, other_text}
use Rattle.cl_base.specs.Names.{IsName}
use Rattle.rg_props.specs.Lookups.{named, without, with_named}
use Rattle.row_laws.proofs.Keys.{AreThings, each_append}

module _ {X : Type 0} (Fit : X → Type 0) (name : List ℕ) where
  -- ---- one more

  none_named_if : (p : List ℕ × X) (rest : Option X) (t : Bool) → t ≡ bytes_eq name p.0 → cond t (Some p.1) rest ≡ None → (p.0 ≢ name) × (rest ≡ None)
  none_named_if p rest true is none = absurd (cc)
  none_named_if p rest false is none = (λ e. other_text name p.0 is (sym e), none)

  each_other : (ps : List (List ℕ × X)) → named ps name ≡ None → AllByRecursion (λ p. p.0 ≢ name) ps
  each_other [] none = tt
  each_other (p ∷ ps) none =
      let parts = none_named_if p (named ps name) (bytes_eq name p.0) refl none in
      (parts.0, each_other ps parts.1)

  things_end : (x : X) (ps : List (List ℕ × X)) → AreThings Fit ps → AllByRecursion (λ p. p.0 ≢ name) ps → IsName name → Fit x → AreThings Fit (ps ++ (name, x) ∷ [])
  things_end x [] good other h fit = (h, fit, tt, tt)
  things_end x (p ∷ ps) good other h fit =
      (good.0, good.1, each_append (λ (q : List ℕ × X). p.0 ≢ q.0) ps ((name, x) ∷ []) good.2 (other.0, tt), things_end x ps good.3 other.1 h fit)

  pub things_more : (x : X) (ps : List (List ℕ × X)) → AreThings Fit ps → named ps name ≡ None → IsName name → Fit x → AreThings Fit (ps ++ (name, x) ∷ [])
  things_more x ps good none h fit = things_end x ps good (each_other ps none) h fit

  -- ---- one less

  each_less_if : (Q : List ℕ × X → Type 0) (p : List ℕ × X) (ps less : List (List ℕ × X)) (t : Bool) → Q p → AllByRecursion Q ps → AllByRecursion Q less → AllByRecursion Q (cond t ps (p ∷ less))
  each_less_if Q p ps less true q all rest = all
  each_less_if Q p ps less false q all rest = (q, rest)

  each_less : (Q : List ℕ × X → Type 0) (ps : List (List ℕ × X)) → AllByRecursion Q ps → AllByRecursion Q (without ps name)
  each_less Q [] all = tt
  each_less Q (p ∷ ps) all = each_less_if Q p ps (without ps name) (bytes_eq name p.0) all.0 all.1 (each_less Q ps all.1)

  less_if : (p : List ℕ × X) (ps less : List (List ℕ × X)) (t : Bool) → AreThings Fit (p ∷ ps) → AllByRecursion (λ q. p.0 ≢ q.0) less → AreThings Fit less → AreThings Fit (cond t ps (p ∷ less))
  less_if p ps less true good other rest = good.3
  less_if p ps less false good other rest = (good.0, good.1, other, rest)

  pub things_less : (ps : List (List ℕ × X)) → AreThings Fit ps → AreThings Fit (without ps name)
  things_less [] good = tt
  things_less (p ∷ ps) good = less_if p ps (without ps name) (bytes_eq name p.0) good (each_less (λ q. p.0 ≢ q.0) ps good.2) (things_less ps good.3)

  -- ---- one changed

  other_changed_if : (n : List ℕ) (x : X) (p : List ℕ × X) (ps more : List (List ℕ × X)) (t : Bool) → n ≢ p.0 → AllByRecursion (λ q. n ≢ q.0) ps → AllByRecursion (λ q. n ≢ q.0) more
      → AllByRecursion (λ q. n ≢ q.0) (cond t ((p.0, x) ∷ ps) (p ∷ more))
  other_changed_if n x p ps more true q all rest = (q, all)
  other_changed_if n x p ps more false q all rest = (q, rest)

  other_changed : (n : List ℕ) (x : X) (ps : List (List ℕ × X)) → AllByRecursion (λ q. n ≢ q.0) ps → AllByRecursion (λ q. n ≢ q.0) (with_named ps name x)
  other_changed n x [] all = tt
  other_changed n x (p ∷ ps) all = other_changed_if n x p ps (with_named ps name x) (bytes_eq name p.0) all.0 all.1 (other_changed n x ps all.1)

  changed_if : (x : X) (p : List ℕ × X) (ps more : List (List ℕ × X)) (t : Bool) → Fit x → AreThings Fit (p ∷ ps) → AllByRecursion (λ q. p.0 ≢ q.0) more → AreThings Fit more
      → AreThings Fit (cond t ((p.0, x) ∷ ps) (p ∷ more))
  changed_if x p ps more true fit good other rest = (good.0, fit, good.2, good.3)
  changed_if x p ps more false fit good other rest = (good.0, good.1, other, rest)

  pub things_changed : (x : X) (ps : List (List ℕ × X)) → AreThings Fit ps → Fit x → AreThings Fit (with_named ps name x)
  things_changed x [] good fit = tt
  things_changed x (p ∷ ps) good fit =
      changed_if x p ps (with_named ps name x) (bytes_eq name p.0) fit good (other_changed p.0 x ps good.2) (things_changed x ps good.3 fit)

  -- ---- what is found

  found_if : (p : List ℕ × X) (x : X) (rest : Option X) (t : Bool) → cond t (Some p.1) rest ≡ Some x → Fit p.1 → (rest ≡ Some x → Fit x) → Fit x
  found_if p x rest true is fit later = let same : p.1 ≡ x = cc in subst Fit same fit
  found_if p x rest false is fit later = later is

  pub found_fits : (x : X) (ps : List (List ℕ × X)) → AreThings Fit ps → named ps name ≡ Some x → Fit x
  found_fits x [] good is = absurd (cc)
  found_fits x (p ∷ ps) good is = found_if p x (named ps name) (bytes_eq name p.0) is good.1 (found_fits x ps good.3)
