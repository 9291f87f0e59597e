-- Words that are names, and things looked up by their names.
use Rattle.std.proofs.Common.{◌≡◌, nat_le, ℕ, ◌≤◌, ◌&&◌, Bool, true, false, List, ◌∷◌, length, slice_index, Option, Some, None, Result, Ok, Err, MatchResult, position, refl, sym, ap, ◌∙◌}
use Rattle.std.specs.List.{list_all}
use Rattle.std.specs.Map.{keys_of, set_value}
use Rattle.std.specs.Result.{result_ok}
use Rattle.std.specs.Str.{bytes_eq}
use Rattle.std.proofs.lemmas.List.Sums.{AllPass-from_list_all, list_all-from_AllPass}
use Rattle.std.proofs.lemmas.Bool.{le-leb, leb-true}
use Rattle.cl_base.specs.Names.{IsName, is_letter, is_name_byte}
use Rattle.cl_base.specs.contracts.name.NamePartialEq.TheImpl.{eq-value}
use Rattle.cl_base.proofs.NameLemmas.{same_names}
use Rattle.rg_props.specs.Words.{is_name, name_in}

left : (a b : Bool) → (a && b) ≡ true → a ≡ true
left true b h = refl
left false b h = h

right : (a b : Bool) → (a && b) ≡ true → b ≡ true
right true b h = h
right false b h = absurd (cc)

name_holds : (w : List ℕ) → IsName w → is_name w ≡ true
name_holds w h = rw (le-leb 1 (length w) h.0, le-leb (length w) 32 h.1, h.2, list_all-from_AllPass is_name_byte w h.3) refl

holds_name : (w : List ℕ) → is_name w ≡ true → IsName w
holds_name w h =
    let three = left (nat_le 1 (length w) && nat_le (length w) 32 && is_letter (slice_index w 0)) (list_all is_name_byte w) h in
    let two = left (nat_le 1 (length w) && nat_le (length w) 32) (is_letter (slice_index w 0)) three in (
      leb-true 1 (length w) (left (nat_le 1 (length w)) (nat_le (length w) 32) two),
      leb-true (length w) 32 (right (nat_le 1 (length w)) (nat_le (length w) 32) two),
      right (nat_le 1 (length w) && nat_le (length w) 32) (is_letter (slice_index w 0)) three,
      AllPass-from_list_all is_name_byte w (right (nat_le 1 (length w) && nat_le (length w) 32 && is_letter (slice_index w 0)) (list_all is_name_byte w) h),
    )

no_name : (w : List ℕ) (t : Bool) → is_name w ≡ t → (IsName w → ⊥) → t ≡ false
no_name w true is never = absurd (never (holds_name w is))
no_name w false is never = refl

pub name_read : {E : Type 0} (w : List ℕ) (r : Result (List ℕ) E) → MatchResult r (λ name. (name ≡ w) × IsName w) (λ _. IsName w → ⊥) → result_ok r ≡ name_in w
unfolding name_in
name_read w (Ok name) h = ap Some h.0 ∙ rw (name_holds w h.1) refl
name_read w (Err e) never = rw (no_name w (is_name w) refl never) refl

module _ {X : Type 0} (name : List ℕ) (es : List (List ℕ × X)) where
  pub name_placed : position (eq-value.it name) (keys_of es) ≡ position (bytes_eq name) (keys_of es)
  name_placed = ap (λ (test : List ℕ → Bool). position test (keys_of es)) (λ i k. same_names name k i)

  pub name_set : (x : X) → set_value (eq-value.it name) es x ≡ set_value (bytes_eq name) es x
  name_set x = ap (λ (test : List ℕ → Bool). set_value test es x) (λ i k. same_names name k i)
