-- A named thing that is put behind the copies of those before it.
use Rattle.std.proofs.Common.{◌≡◌, ℕ, Bool, List, [], ◌∷◌, ◌++◌, None, sym, ap, subst, ◌∙◌}
use Rattle.std.proofs.lemmas.Cmp.{nat_list_eq_equiv}
use Rattle.std.proofs.lemmas.List.{append_assoc}
use Rattle.std.specs.Cmp.{IsEquivalence}
use Rattle.std.specs.List.{IsDistinct}
use Rattle.std.specs.Map.{keys_of, lookup}
use Rattle.indexmap.proofs.CallerLemmas.{insert_entry-new}
use Rattle.indexmap.proofs.MapLemmas.{absent_before}
use Rattle.indexmap.specs.IndexMap.{IndexMap, insert_entry}
use Rattle.cl_base.specs.contracts.name.NamePartialEq.TheImpl.{eq-value}
use Rattle.cl_base.proofs.NameLemmas.{same_names}

name_equiv : IsEquivalence eq-value.it
name_equiv = subst (λ (e : List ℕ → List ℕ → Bool). IsEquivalence e) (sym (λ i a b. same_names a b i)) nat_list_eq_equiv

-- names of a map are distinct, so the next one is new among those before it
pub one_copied : {X S : Type 0} (m : IndexMap (List ℕ) X S) (all rest next es : List (List ℕ × X)) (name : List ℕ) (x copy : X) → IsDistinct eq-value.it (keys_of all)
    → m.entries ++ rest ≡ all → rest ≡ (name, x) ∷ next → copy ≡ x → es ≡ insert_entry eq-value.it m.entries name copy → es ++ next ≡ all
one_copied {X} m all rest next es name x copy distinct was is same put =
    let whole : m.entries ++ (name, x) ∷ next ≡ all = ap (λ (r : List (List ℕ × X)). m.entries ++ r) (sym is) ∙ was in
    let free : lookup (eq-value.it name) m.entries ≡ None = absent_before name_equiv m.entries next (name, x) (subst (λ (l : List (List ℕ × X)). IsDistinct eq-value.it (keys_of l)) (sym whole) distinct) in
    ap (λ (l : List (List ℕ × X)). l ++ next) (put ∙ insert_entry-new eq-value.it m name copy free)
    ∙ append_assoc m.entries ((name, copy) ∷ []) next
    ∙ ap (λ (y : X). m.entries ++ (name, y) ∷ next) same
    ∙ whole
