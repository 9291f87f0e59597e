-- States that are gone through one by one, and lists without an element.
use Rattle.std.proofs.Common.{◌≡◌, ◌≤◌, ℕ, zero, suc, ◌+◌, Bool, true, false, ◌||◌, List, [], ◌∷◌, length, take, refl, sym, ap, ◌∙◌, arith}
use Rattle.std.specs.Prelude.{slice_get}
use Rattle.std.proofs.lemmas.List.{nil_from_length, take_all}
use Rattle.rg_view.specs.declared.histories.GroupAt.{GroupAt}
use Rattle.rg_view.specs.declared.states.ResourceAt.{ResourceAt}
use Rattle.rgm_president.specs.Steady.{is_any_faulted, is_faulted_in}

either : (p q : Bool) → p ≡ false → q ≡ false → (p || q) ≡ false
either true q first rest = absurd (cc first)
either false q first rest = rest

first_of : (p q : Bool) → (p || q) ≡ false → p ≡ false
first_of true q none = none
first_of false q none = refl

rest_of : (p q : Bool) → (p || q) ≡ false → q ≡ false
rest_of true q none = absurd (cc none)
rest_of false q none = none

-- one more that is not faulted
pub one_clear : (states : List ResourceAt) (i : ℕ) → is_any_faulted (take i states) ≡ false → is_faulted_in (slice_get states i) ≡ false
    → is_any_faulted (take (i + 1) states) ≡ false
one_clear [] i before here =
    let farther : i + 1 ≡ suc i = omega arith in
    rw farther refl
one_clear (s ∷ ss) zero before here = either s.faulted false here refl
one_clear (s ∷ ss) (suc i) before here =
    let farther : suc i + 1 ≡ suc (i + 1) = omega arith in
    rw farther (either s.faulted (is_any_faulted (take (i + 1) ss)) (first_of s.faulted (is_any_faulted (take i ss)) before)
    (one_clear ss i (rest_of s.faulted (is_any_faulted (take i ss)) before) here))

-- none is
pub all_clear : (states : List ResourceAt) (i : ℕ) → length states ≤ i → is_any_faulted (take i states) ≡ false → is_any_faulted states ≡ false
all_clear states i past clear = ap is_any_faulted (sym (take_all i states past)) ∙ clear

-- nothing is remembered
pub none_remembered : (histories : List GroupAt) → length histories ≡ 0 → histories ≡ []
none_remembered histories none = nil_from_length histories none
