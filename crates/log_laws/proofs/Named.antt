-- Things that are looked up by their names, and where one more comes, one goes or one is changed.
use Rattle.std.proofs.Common.{◌≡◌, ℕ, ◌<◌, nat_lt, Bool, true, false, cond, inl, inr, Option, None, Some, IsSome, is_some, List, [], ◌∷◌, ◌++◌, length, get_or, refl, sym, ap, subst, ◌∙◌, arith, slice_get}
use Rattle.std.proofs.lemmas.Bool.{lt-ltb}
use Rattle.std.proofs.lemmas.List.{get_or-map}
use Rattle.std.proofs.lemmas.List.Quantifiers.{position-Some}
use Rattle.std.proofs.lemmas.List.Sums.{position_or_len_is}
use Rattle.std.proofs.lemmas.Map.{keys-set_value}
use Rattle.std.proofs.lemmas.Map.Entries.{length-keys_of, lookup_from_place, place_from_lookup}
use Rattle.std.proofs.lemmas.Map.Keys.{apart_from_distinct, IsDistinct-cons, IsDistinct-head, IsDistinct-push, IsDistinct-tail}
use Rattle.std.proofs.lemmas.Map.Made.{is_some-lookup}
use Rattle.std.proofs.lemmas.Option.{get_or_from_slice_get, slice_get_cases}
use Rattle.std.specs.Cmp.Lexicographic.{nat_list_eq_equiv, same_text}
use Rattle.std.specs.List.{AllByRecursion, IsDistinct, list_any, position_or_len}
use Rattle.std.specs.Map.{keys_of}
use Rattle.std.specs.Str.{bytes_eq}
use Rattle.rg_props.specs.Lookups.{named, place_of, with_named, without}
use Rattle.log_laws.specs.Laws.{IsThere}

module _ {X : Type 0} where
  -- what stands at a place
  pub record StandsAt (things : List (List ℕ × X)) (name : List ℕ) (q : ℕ) : Type 0 where
    pub value : X
    pub place : slice_get things q ≡ Some (name, value)

  pub stands_at : (things : List (List ℕ × X)) (name : List ℕ) (q : ℕ) → place_of things name ≡ Some q → StandsAt things name q
  stands_at things name q is = let h = position-Some (bytes_eq name) (keys_of things) q [] is in elim (slice_get_cases things q).1 [
    | inl there ↦
        let e : List ℕ × X = there.0 in
        let key : get_or (keys_of things) q [] ≡ e.0 = get_or-map (λ (p : List ℕ × X). p.0) things q e [] there.1 ∙ ap (λ (p : List ℕ × X). p.0) there.3 in
        let same : name ≡ e.0 = same_text name e.0 (sym (ap (bytes_eq name) (sym key) ∙ h.1)) in
        record { value = e.1; place = there.2 ∙ ap (λ (n : List ℕ). Some (n, e.1)) (sym same) }
    | inr past ↦ absurd (omega (arith, past.0, h.0, length-keys_of things))
  ]

  module _ (things : List (List ℕ × X)) (once : IsDistinct bytes_eq (keys_of things)) where
    pub place_is : (name : List ℕ) (value : X) (q : ℕ) → slice_get things q ≡ Some (name, value) → place_of things name ≡ Some q
    place_is name value q at = elim (slice_get_cases things q).1 [
      | inl there ↦
          let low : q < length (keys_of things) = omega (arith, there.1, length-keys_of things) in
          let key : get_or (keys_of things) q [] ≡ name = get_or-map (λ (p : List ℕ × X). p.0) things q (name, value) [] there.1 ∙ ap (λ (p : List ℕ × X). p.0) (get_or_from_slice_get things q (name, value) (name, value) at) in
          let is : position_or_len (bytes_eq name) (keys_of things) ≡ q =
          position_or_len_is (bytes_eq name) (keys_of things) q [] (omega (arith, low))
          (λ k lt. nat_list_eq_equiv.symm name (get_or (keys_of things) k []) ∙ ap (bytes_eq (get_or (keys_of things) k [])) (sym key) ∙ apart_from_distinct bytes_eq (keys_of things) k q [] once lt low)
          (λ lt. ap (bytes_eq name) key ∙ nat_list_eq_equiv.refl name) in
          ap (λ (n : ℕ). cond (nat_lt n (length (keys_of things))) (Some n) None) is ∙ ap (λ (b : Bool). cond b (Some q) None) (lt-ltb q (length (keys_of things)) low)
      | inr past ↦ cc (sym at ∙ past.1)
    ]

    pub named_is : (name : List ℕ) (value : X) (q : ℕ) → slice_get things q ≡ Some (name, value) → named things name ≡ Some value
    named_is name value q at = lookup_from_place nat_list_eq_equiv things q name value once at

  -- what a name finds stands at a place
  pub record Found (things : List (List ℕ × X)) (name : List ℕ) (value : X) : Type 0 where
    pub at : ℕ
    pub place : slice_get things at ≡ Some (name, value)

  pub found : (things : List (List ℕ × X)) (name : List ℕ) (value : X) → named things name ≡ Some value → Found things name value
  found things name value is =
      let p = place_from_lookup (bytes_eq name) things value is in
      record { at = p.0; place = p.2 ∙ ap (λ (n : List ℕ). Some (n, value)) (sym (same_text name p.1 (sym p.3))) }

  -- one more at the end
  pub named_more : (things more : List (List ℕ × X)) (name : List ℕ) → IsThere things name → named (things ++ more) name ≡ named things name
  named_more [] more name there = cc there
  named_more (e ∷ es) more name there = by (bytes_eq name e.0) there (named_more es more name)
    where
      by : (b : Bool) → IsSome (cond b (Some e.1) (named es name)) → (IsSome (named es name) → named (es ++ more) name ≡ named es name)
          → cond b (Some e.1) (named (es ++ more) name) ≡ cond b (Some e.1) (named es name)
      by true there ih = refl
      by false there ih = ih there

  -- one less, of another name
  pub named_without : (things : List (List ℕ × X)) (gone name : List ℕ) → bytes_eq name gone ≡ false → named (without things gone) name ≡ named things name
  named_without [] gone name other = refl
  named_without (e ∷ es) gone name other = by (bytes_eq gone e.0) (bytes_eq name e.0) refl refl (named_without es gone name other)
    where
      by : (b c : Bool) → bytes_eq gone e.0 ≡ b → bytes_eq name e.0 ≡ c → named (without es gone) name ≡ named es name
          → named (cond b es (e ∷ without es gone)) name ≡ cond c (Some e.1) (named es name)
      by true true here own ih =
          let same : gone ≡ name = same_text gone e.0 (sym here) ∙ sym (same_text name e.0 (sym own)) in
          let no : true ≡ false = sym (ap (bytes_eq name) same ∙ nat_list_eq_equiv.refl name) ∙ other in
          cc no
      by true false here own ih = refl
      by false c here own ih = ap (λ (b : Bool). cond b (Some e.1) (named (without es gone) name)) own ∙ ap (λ (o : Option X). cond c (Some e.1) o) ih

  -- each of what is left was there
  pub all_left : (P : List ℕ × X → Type 0) (things : List (List ℕ × X)) (gone : List ℕ) → AllByRecursion P things → AllByRecursion P (without things gone)
  all_left P [] gone h = tt
  all_left P (e ∷ es) gone h = by (bytes_eq gone e.0) (all_left P es gone h.1)
    where
      by : (b : Bool) → AllByRecursion P (without es gone) → AllByRecursion P (cond b es (e ∷ without es gone))
      by true ih = h.1
      by false ih = (h.0, ih)

  -- one is changed, in its place
  pub all_with : (P : List ℕ × X → Type 0) (things : List (List ℕ × X)) (name : List ℕ) (old new : X) → named things name ≡ Some old
      → ((own : List ℕ) → P (own, old) → P (own, new)) → AllByRecursion P things → AllByRecursion P (with_named things name new)
  all_with P [] name old new is change h = tt
  all_with P (e ∷ es) name old new is change h = by (bytes_eq name e.0) is (λ is. all_with P es name old new is change h.1)
    where
      by : (b : Bool) → cond b (Some e.1) (named es name) ≡ Some old → (named es name ≡ Some old → AllByRecursion P (with_named es name new))
          → AllByRecursion P (cond b ((e.0, new) ∷ es) (e ∷ with_named es name new))
      by true is ih = let same : e.1 ≡ old = cc is in (change e.0 (subst (λ (x : X). P (e.0, x)) same h.0), h.1)
      by false is ih = (h.0, ih is)

  pub is_there_with : (things : List (List ℕ × X)) (name : List ℕ) (new : X) (other : List ℕ) → IsThere things other → IsThere (with_named things name new) other
  is_there_with things name new other there =
      is_some-lookup (bytes_eq other) (with_named things name new)
      ∙ ap (list_any (bytes_eq other)) (keys-set_value (bytes_eq name) things new) ∙ sym (is_some-lookup (bytes_eq other) things) ∙ there

  pub once_with : (things : List (List ℕ × X)) (name : List ℕ) (new : X) → IsDistinct bytes_eq (keys_of things) → IsDistinct bytes_eq (keys_of (with_named things name new))
  once_with things name new once = subst (λ (ks : List (List ℕ)). IsDistinct bytes_eq ks) (sym (keys-set_value (bytes_eq name) things new)) once

  keys_more : (things more : List (List ℕ × X)) → keys_of (things ++ more) ≡ keys_of things ++ keys_of more
  keys_more [] more = refl
  keys_more (e ∷ es) more = ap (λ (ks : List (List ℕ)). e.0 ∷ ks) (keys_more es more)

  pub once_more : (things : List (List ℕ × X)) (name : List ℕ) (new : X) → IsDistinct bytes_eq (keys_of things) → is_some (named things name) ≡ false
      → IsDistinct bytes_eq (keys_of (things ++ (name, new) ∷ []))
  once_more things name new once none =
      subst (λ (ks : List (List ℕ)). IsDistinct bytes_eq ks) (sym (keys_more things ((name, new) ∷ [])))
      (IsDistinct-push nat_list_eq_equiv (keys_of things) name once (sym (is_some-lookup (bytes_eq name) things) ∙ none))

  apart_left : (k : List ℕ) (things : List (List ℕ × X)) (gone : List ℕ) → AllByRecursion (λ y. bytes_eq k y ≡ false) (keys_of things) → AllByRecursion (λ y. bytes_eq k y ≡ false) (keys_of (without things gone))
  apart_left k [] gone h = tt
  apart_left k (e ∷ es) gone h = by (bytes_eq gone e.0) (apart_left k es gone h.1)
    where
      by : (b : Bool) → AllByRecursion (λ y. bytes_eq k y ≡ false) (keys_of (without es gone)) → AllByRecursion (λ y. bytes_eq k y ≡ false) (keys_of (cond b es (e ∷ without es gone)))
      by true ih = h.1
      by false ih = (h.0, ih)

  pub once_left : (things : List (List ℕ × X)) (gone : List ℕ) → IsDistinct bytes_eq (keys_of things) → IsDistinct bytes_eq (keys_of (without things gone))
  once_left [] gone once = once
  once_left (e ∷ es) gone once = by (bytes_eq gone e.0) (once_left es gone rest)
    where
      rest : IsDistinct bytes_eq (keys_of es)
      rest = IsDistinct-tail bytes_eq e.0 (keys_of es) once

      by : (b : Bool) → IsDistinct bytes_eq (keys_of (without es gone)) → IsDistinct bytes_eq (keys_of (cond b es (e ∷ without es gone)))
      by true ih = rest
      by false ih = IsDistinct-cons bytes_eq e.0 (keys_of (without es gone)) (apart_left e.0 es gone (IsDistinct-head bytes_eq e.0 (keys_of es) once)) ih
