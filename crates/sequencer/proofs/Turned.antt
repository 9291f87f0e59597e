-- The places of one resource: as the rule gives them, and as they are brought up to date.
use Rattle.std.proofs.Common.{◌≡◌, ℕ, ◌==◌, Bool, true, false, cond, ◌&&◌, ◌||◌, List, [], ◌∷◌, fold, refl, sym, ap, ◌∙◌}
use Rattle.std.proofs.Math.Bool.{and-false, and-true, or-false}
use Rattle.std.proofs.lemmas.Bool.{eqb-true}
use Rattle.std.specs.List.{list_any}
use Rattle.std.specs.Cmp.Lexicographic.{same_text}
use Rattle.std.specs.Str.{bytes_eq}
use Rattle.rg_props.specs.declared.group.Resource.{Resource}
use Rattle.rg_props.specs.Settings.{has_name}
use Rattle.rg_props.specs.Table.{GroupTable}
use Rattle.rg_view.specs.declared.name_at.NameAt.{NameAt}
use Rattle.rg_view.specs.declared.view.GroupView.{GroupView}
use Rattle.rg_view.specs.Marks.{is_marked, marks_with}
use Rattle.sequencer.specs.declared.direction.Direction.{Direction}
use Rattle.sequencer.specs.Leaving.{must_go, with_place}
use Rattle.sequencer.specs.Renewals.{Turning, with_place_anew}
use Rattle.sequencer.specs.Resting.{rests_on}
use Rattle.sequencer.proofs.Marked.{put_here, put_other, put_unturned, with_here, with_other}
use Rattle.sequencer.proofs.Staying.{places_stay}

abbrev pub is_in : List ℕ → ℕ → Bool
is_in nodes m = list_any (λ n. m == n) nodes

module _ (d : Direction) (t : GroupTable) (v : GroupView) (members : List ℕ) (x : List ℕ) (r : Resource) where
  -- of other names nothing changes

  pub place_other : (g : List NameAt) (n : ℕ) (y : List ℕ) (m : ℕ) → bytes_eq x y ≡ false → is_marked (with_place d t v members x r g n) y m ≡ is_marked g y m
  place_other g n y m out = by (must_go d t v members g x r n)
    where
      by : (b : Bool) → is_marked (cond b (marks_with g x n) g) y m ≡ is_marked g y m
      by true = with_other g x n y m out
      by false = refl

  pub places_other : (g : List NameAt) (nodes : List ℕ) (y : List ℕ) (m : ℕ) → bytes_eq x y ≡ false → is_marked (fold (with_place d t v members x r) g nodes) y m ≡ is_marked g y m
  places_other g [] y m out = refl
  places_other g (n ∷ nodes) y m out = places_other (with_place d t v members x r g n) nodes y m out ∙ place_other g n y m out

  pub anew_other : (s : Turning) (n : ℕ) (y : List ℕ) (m : ℕ) → bytes_eq x y ≡ false → is_marked (with_place_anew d t v members x r s n).going y m ≡ is_marked s.going y m
  anew_other s n y m out = put_other s x n (is_marked s.going x n) (must_go d t v members s.going x r n) y m out

  pub turning_other : (s : Turning) (nodes : List ℕ) (y : List ℕ) (m : ℕ) → bytes_eq x y ≡ false
      → is_marked (fold (with_place_anew d t v members x r) s nodes).going y m ≡ is_marked s.going y m
  turning_other s [] y m out = refl
  turning_other s (n ∷ nodes) y m out = turning_other (with_place_anew d t v members x r s n) nodes y m out ∙ anew_other s n y m out

  -- where nothing turned, all is as it was
  pub unturned : (s : Turning) (nodes : List ℕ) → (fold (with_place_anew d t v members x r) s nodes).turned ≡ false → fold (with_place_anew d t v members x r) s nodes ≡ s
  unturned s [] none = refl
  unturned s (n ∷ nodes) none =
      let rest : fold (with_place_anew d t v members x r) (with_place_anew d t v members x r s n) nodes ≡ with_place_anew d t v members x r s n =
      unturned (with_place_anew d t v members x r s n) nodes none in
      rest ∙ put_unturned s x n (is_marked s.going x n) (must_go d t v members s.going x r n) (ap (λ (u : Turning). u.turned) (sym rest) ∙ none)

  -- The resource rests on none of the names that are still to come, its own among them; so its places go by those of the other names.
  module _ (later : List (List ℕ)) (base : List NameAt) (own : has_name x later ≡ true) (out : rests_on t later r ≡ false) where
    abbrev Agrees : List NameAt → Type 0
    Agrees g = (y : List ℕ) (m : ℕ) → has_name y later ≡ false → is_marked g y m ≡ is_marked base y m

    abbrev goes : ℕ → Bool
    goes n = must_go d t v members base x r n

    as_base : (g : List NameAt) → Agrees g → (n : ℕ) → must_go d t v members g x r n ≡ goes n
    as_base g agrees n = places_stay d t v v.outstanding members later g base (λ y m o. refl) agrees x r n out

    apart : (y : List ℕ) → has_name y later ≡ false → bytes_eq x y ≡ false
    apart y off = by (bytes_eq x y) refl
      where
        by : (b : Bool) → b ≡ bytes_eq x y → b ≡ false
        by true is = absurd (let same : has_name x later ≡ has_name y later = ap (λ z. has_name z later) (same_text x y is) in
            let bad : true ≡ false = sym own ∙ same ∙ off in cc)
        by false is = refl

    place_agrees : (g : List NameAt) (n : ℕ) → Agrees g → Agrees (with_place d t v members x r g n)
    place_agrees g n agrees y m off = place_other g n y m (apart y off) ∙ agrees y m off

    anew_agrees : (s : Turning) (n : ℕ) → Agrees s.going → Agrees (with_place_anew d t v members x r s n).going
    anew_agrees s n agrees y m off = anew_other s n y m (apart y off) ∙ agrees y m off

    place_here : (g : List NameAt) (n : ℕ) → Agrees g → (m : ℕ) → is_marked (with_place d t v members x r g n) x m ≡ (is_marked g x m || ((m == n) && goes m))
    place_here g n agrees m =
        by (must_go d t v members g x r n) ∙ ap (λ (b : Bool). is_marked g x m || ((m == n) && b)) (as_base g agrees n) ∙ at (m == n) refl
      where
        by : (b : Bool) → is_marked (cond b (marks_with g x n) g) x m ≡ (is_marked g x m || ((m == n) && b))
        by true = with_here g x n m ∙ ap (λ (b : Bool). is_marked g x m || b) (sym (and-true (m == n)))
        by false = sym (ap (λ (b : Bool). is_marked g x m || b) (and-false (m == n)) ∙ or-false (is_marked g x m))

        at : (b : Bool) → b ≡ (m == n) → (is_marked g x m || (b && goes n)) ≡ (is_marked g x m || (b && goes m))
        at true is = ap (λ k. is_marked g x m || goes k) (sym (eqb-true m n (sym is)))
        at false is = refl

    -- what the rule gives
    pub places_here : (g : List NameAt) (nodes : List ℕ) → Agrees g → (m : ℕ)
        → is_marked (fold (with_place d t v members x r) g nodes) x m ≡ (is_marked g x m || (is_in nodes m && goes m))
    places_here g [] agrees m = sym (or-false (is_marked g x m))
    places_here g (n ∷ nodes) agrees m =
        places_here (with_place d t v members x r g n) nodes (place_agrees g n agrees) m
        ∙ ap (λ (b : Bool). b || (is_in nodes m && goes m)) (place_here g n agrees m)
        ∙ by (is_marked g x m) (m == n) (is_in nodes m) (goes m)
      where
        by : (a b c e : Bool) → ((a || (b && e)) || (c && e)) ≡ (a || ((b || c) && e))
        by true b c e = refl
        by false true c true = refl
        by false true true false = refl
        by false true false false = refl
        by false false c e = refl

    anew_here : (s : Turning) (n : ℕ) → Agrees s.going → (m : ℕ) → is_marked (with_place_anew d t v members x r s n).going x m ≡ cond (m == n) (goes m) (is_marked s.going x m)
    anew_here s n agrees m =
        put_here s x n (is_marked s.going x n) (must_go d t v members s.going x r n) refl m
        ∙ ap (λ (b : Bool). cond (m == n) b (is_marked s.going x m)) (as_base s.going agrees n) ∙ at (m == n) refl
      where
        at : (b : Bool) → b ≡ (m == n) → cond b (goes n) (is_marked s.going x m) ≡ cond b (goes m) (is_marked s.going x m)
        at true is = ap goes (sym (eqb-true m n (sym is)))
        at false is = refl

    -- and what they are brought to
    pub turning_here : (s : Turning) (nodes : List ℕ) → Agrees s.going → (m : ℕ)
        → is_marked (fold (with_place_anew d t v members x r) s nodes).going x m ≡ cond (is_in nodes m) (goes m) (is_marked s.going x m)
    turning_here s [] agrees m = refl
    turning_here s (n ∷ nodes) agrees m =
        turning_here (with_place_anew d t v members x r s n) nodes (anew_agrees s n agrees) m
        ∙ ap (λ (b : Bool). cond (is_in nodes m) (goes m) b) (anew_here s n agrees m)
        ∙ by (m == n) (is_in nodes m)
      where
        by : (b c : Bool) → cond c (goes m) (cond b (goes m) (is_marked s.going x m)) ≡ cond (b || c) (goes m) (is_marked s.going x m)
        by true true = refl
        by true false = refl
        by false true = refl
        by false false = refl
