-- Places are one exactly where their names and nodes are.
use Rattle.std.specs.Prelude.{◌≡◌, ℕ, ◌==◌, ◌&&◌, Bool, true, false, List, IsTrue, ◌∷◌, refl, nat_eq}
use Rattle.std.proofs.Common.{ap, sym, ◌∙◌}
use Rattle.std.proofs.lemmas.Bool.{eqb-true}
use Rattle.std.specs.Str.{bytes_eq}
use Rattle.std.specs.Cmp.{IsEquivalence, IsPartialEquivalence, partial_equiv_from_equiv, and_equiv, on_equiv, nat_eq_equiv}
use Rattle.std.proofs.lemmas.Cmp.{nat_list_eq_equiv}
use Rattle.std.specs.Cmp.Lexicographic.{same_text}
use Rattle.std.specs.Hash.{u64 as words}
use Rattle.rg_view.specs.declared.name_at.NameAt.{NameAt}
use Rattle.rg_view.specs.Places.{same_place}

pub same_place_equiv : IsEquivalence same_place
same_place_equiv = and_equiv (on_equiv (λ p. p.name) nat_list_eq_equiv) (on_equiv (λ p. p.node) nat_eq_equiv)

pub same_place_laws : IsPartialEquivalence same_place
same_place_laws = partial_equiv_from_equiv same_place_equiv

first_of_both : (p q : Bool) → (p && q) ≡ true → p ≡ true
first_of_both true q h = refl
first_of_both false q h = h

second_of_both : (p q : Bool) → (p && q) ≡ true → q ≡ true
second_of_both true q h = h
second_of_both false q h = cc h

-- places that compare as one are one
pub one_place : (a b : NameAt) → same_place a b ≡ true → a ≡ b
one_place a b h =
    let name : a.name ≡ b.name = same_text a.name b.name (sym (first_of_both _ _ h)) in
    let node : a.node ≡ b.node = eqb-true a.node b.node (second_of_both _ _ h) in
    λ i. record { name = name i; node = node i }

pub place_is : (a b : NameAt) → IsTrue (same_place a b) → (a.name ∷ words a.node) ≡ (b.name ∷ words b.node)
place_is a b h = ap (λ (p : NameAt). p.name ∷ words p.node) (one_place a b h)
