-- Entries that are kept under the place that they tell: what calls of the map leave, as lists of the values.
use Rattle.std.proofs.Common.{◌≡◌, ℕ, Bool, true, false, cond, not, ◌==◌, ◌&&◌, filter, map, Option, None, Some, List, [], ◌∷◌, refl, sym, ap, subst, ◌∙◌}
use Rattle.std.proofs.lemmas.Bool.{false≢true, and_parts}
use Rattle.std.specs.Cmp.Lexicographic.{same_text}
use Rattle.std.specs.List.{find, IsDistinct}
use Rattle.std.specs.Map.{keys_of, values_of, lookup, remove_entry}
use Rattle.std.specs.Str.{bytes_eq}
use Rattle.indexmap.specs.IndexMap.{insert_entry}
use Rattle.rg_view.specs.declared.name_at.NameAt.{NameAt}
use Rattle.rg_view.specs.PlaceLaws.{same_place_equiv, one_place}
use Rattle.rg_view.specs.Places.{same_place, place}
use Rattle.rg_view.specs.Tables.{replaced, IsKeyed, FindsAt, LosesAt}
use Rattle.rg_view.proofs.Filters.{find_filter, remove_entry_filter}

turned : {A : Type 0} (c : Bool) (x y : A) → cond (not c) x y ≡ cond c y x
turned true x y = refl
turned false x y = refl

module _ {X : Type 0} (place_of : X → NameAt) where
  -- whether the value is the one of the place
  abbrev is_of : NameAt → X → Bool
  is_of k x = same_place k (place_of x)

  pub found : (k : NameAt) (es : List (NameAt × X)) → IsKeyed place_of es → lookup (same_place k) es ≡ find (is_of k) (values_of es)
  found k [] h = refl
  found k (e ∷ es) h = λ i. cond (same_place k (h.0 i)) (Some e.1) (found k es h.1 i)

  pub keys : (es : List (NameAt × X)) → IsKeyed place_of es → keys_of es ≡ map place_of (values_of es)
  keys [] h = refl
  keys (e ∷ es) h = λ i. h.0 i ∷ keys es h.1 i

  pub put : (x : X) (es : List (NameAt × X)) → IsKeyed place_of es → values_of (insert_entry same_place es (place_of x) x) ≡ replaced (is_of (place_of x)) x (values_of es)
  put x [] h = refl
  put x (e ∷ es) h = by (same_place (place_of x) e.0) refl (put x es h.1)
    where
      by : (b : Bool) → same_place (place_of x) e.0 ≡ b → values_of (insert_entry same_place es (place_of x) x) ≡ replaced (is_of (place_of x)) x (values_of es) → values_of (insert_entry same_place (e ∷ es) (place_of x) x) ≡ replaced (is_of (place_of x)) x (values_of (e ∷ es))
      by true p ih = rw (p, ← h.0, p) refl
      by false p ih = rw (p, ← h.0, p) (ap (λ (l : List X). e.1 ∷ l) ih)

  pub put_keyed : (x : X) (es : List (NameAt × X)) → IsKeyed place_of es → IsKeyed place_of (insert_entry same_place es (place_of x) x)
  put_keyed x [] h = (refl, tt)
  put_keyed x (e ∷ es) h = by (same_place (place_of x) e.0) refl (put_keyed x es h.1)
    where
      by : (b : Bool) → same_place (place_of x) e.0 ≡ b → IsKeyed place_of (insert_entry same_place es (place_of x) x) → IsKeyed place_of (insert_entry same_place (e ∷ es) (place_of x) x)
      by true p ih = rw p (sym (one_place (place_of x) e.0 p), h.1)
      by false p ih = rw p (h.0, ih)

  pub filter_keyed : (p : NameAt × X → Bool) (es : List (NameAt × X)) → IsKeyed place_of es → IsKeyed place_of (filter p es)
  filter_keyed p [] h = tt
  filter_keyed p (e ∷ es) h = by (p e) (filter_keyed p es h.1)
    where
      by : (b : Bool) → IsKeyed place_of (filter p es) → IsKeyed place_of (cond b (e ∷ filter p es) (filter p es))
      by true ih = (h.0, ih)
      by false ih = ih

  pub values_filter : (p : NameAt × X → Bool) (q : X → Bool) → ((x : X) → p (place_of x, x) ≡ q x) → (es : List (NameAt × X)) → IsKeyed place_of es → values_of (filter p es) ≡ filter q (values_of es)
  values_filter p q same [] h = refl
  values_filter p q same (e ∷ es) h = by (q e.1) refl (values_filter p q same es h.1)
    where
      there : p e ≡ q e.1
      there = ap (λ (k : NameAt). p (k, e.1)) h.0 ∙ same e.1

      by : (b : Bool) → q e.1 ≡ b → values_of (filter p es) ≡ filter q (values_of es) → values_of (filter p (e ∷ es)) ≡ filter q (values_of (e ∷ es))
      by true t ih = rw (there, t) (ap (λ (l : List X). e.1 ∷ l) ih)
      by false t ih = rw (there, t) ih

  pub taken : (k : NameAt) (es : List (NameAt × X)) → IsDistinct same_place (keys_of es) → IsKeyed place_of es → values_of (remove_entry (same_place k) es) ≡ filter (λ x. not (is_of k x)) (values_of es)
  taken k es d h = ap values_of (remove_entry_filter same_place_equiv k es d) ∙ values_filter (λ e. not (same_place k e.0)) (λ x. not (is_of k x)) (λ x. refl) es h

  pub taken_keyed : (k : NameAt) (es : List (NameAt × X)) → IsDistinct same_place (keys_of es) → IsKeyed place_of es → IsKeyed place_of (remove_entry (same_place k) es)
  taken_keyed k es d h = subst (IsKeyed place_of) (sym (remove_entry_filter same_place_equiv k es d)) (filter_keyed (λ e. not (same_place k e.0)) es h)

  -- looking up afterwards
  abbrev at : List X → List ℕ → ℕ → Option X
  at xs name n = find (is_of (place name n)) xs

  put_there : (x : X) (xs : List X) → find (is_of (place_of x)) (replaced (is_of (place_of x)) x xs) ≡ Some x
  put_there x [] = rw (same_place_equiv.refl (place_of x)) refl
  put_there x (y ∷ ys) = by (is_of (place_of x) y) refl (put_there x ys)
    where
      by : (b : Bool) → is_of (place_of x) y ≡ b → find (is_of (place_of x)) (replaced (is_of (place_of x)) x ys) ≡ Some x → find (is_of (place_of x)) (replaced (is_of (place_of x)) x (y ∷ ys)) ≡ Some x
      by true p ih = rw (p, same_place_equiv.refl (place_of x)) refl
      by false p ih = rw (p, p) ih

  put_elsewhere : (x : X) (k : NameAt) → same_place (place_of x) k ≡ false → (xs : List X) → find (is_of k) (replaced (is_of (place_of x)) x xs) ≡ find (is_of k) xs
  put_elsewhere x k other [] = rw (same_place_equiv.symm k (place_of x) ∙ other) refl
  put_elsewhere x k other (y ∷ ys) = by (is_of (place_of x) y) refl (put_elsewhere x k other ys)
    where
      own : is_of k x ≡ false
      own = same_place_equiv.symm k (place_of x) ∙ other

      by : (b : Bool) → is_of (place_of x) y ≡ b → find (is_of k) (replaced (is_of (place_of x)) x ys) ≡ find (is_of k) ys → find (is_of k) (replaced (is_of (place_of x)) x (y ∷ ys)) ≡ find (is_of k) (y ∷ ys)
      by true p ih = rw (p, own, ap (same_place k) (sym (one_place (place_of x) (place_of y) p)) ∙ own) refl
      by false p ih = rw p (λ i. cond (is_of k y) (Some y) (ih i))

  pub put_finds : (x : X) (xs : List X) → FindsAt at xs (place_of x).name (place_of x).node (Some x) (replaced (is_of (place_of x)) x xs)
  put_finds x xs other m = by (same_place (place_of x) (place other m)) refl
    where
      by : (b : Bool) → same_place (place_of x) (place other m) ≡ b → at (replaced (is_of (place_of x)) x xs) other m ≡ cond (same_place (place_of x) (place other m)) (Some x) (at xs other m)
      by true p = rw p (ap (λ (q : NameAt). find (is_of q) (replaced (is_of (place_of x)) x xs)) (sym (one_place (place_of x) (place other m) p)) ∙ put_there x xs)
      by false p = rw p (put_elsewhere x (place other m) p xs)

  pub taken_finds : (name : List ℕ) (n : ℕ) (xs : List X) → FindsAt at xs name n None (filter (λ x. not (is_of (place name n) x)) xs)
  taken_finds name n xs other m =
      find_filter (is_of (place other m)) (λ x. not (is_of (place name n) x)) (not (same_place (place name n) (place other m)))
      (λ x t. ap (λ (k : NameAt). not (same_place (place name n) k)) (sym (one_place (place other m) (place_of x) t))) xs
      ∙ turned (same_place (place name n) (place other m)) (at xs other m) None

  pub lost_finds : (name : List ℕ) (xs : List X) → LosesAt at xs name (filter (λ x. not (bytes_eq name (place_of x).name)) xs)
  lost_finds name xs other m =
      find_filter (is_of (place other m)) (λ x. not (bytes_eq name (place_of x).name)) (not (bytes_eq name other))
      (λ x t. ap (λ (k : NameAt). not (bytes_eq name k.name)) (sym (one_place (place other m) (place_of x) t))) xs
      ∙ turned (bytes_eq name other) (at xs other m) None
