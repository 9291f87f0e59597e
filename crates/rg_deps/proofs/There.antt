-- A walk among what is left comes to an end: its places are things, and each is another.
use Rattle.std.proofs.Common.{◌≡◌, ◌≢◌, ℕ, zero, suc, add-one, ◌+◌, ◌==◌, nat_eq, Bool, true, false, not, ◌&&◌, ◌||◌, inl, inr, fold, filter, Option, None, Some, List, [], ◌∷◌, ◌++◌, length, map, drop, get_or, refl, sym, ap, subst, ◌∙◌, arith, IfSome, length-append, true≢false}
use Rattle.std.proofs.lemmas.Bool.{and_parts, or_cases, or_left, or_right, not-true, eqb-true, eq-eqb}
use Rattle.std.proofs.lemmas.List.{length-map}
use Rattle.std.proofs.lemmas.List.Folds.{list_any-append}
use Rattle.std.proofs.lemmas.Map.Keys.{IsDistinct-push}
use Rattle.std.proofs.lemmas.Map.Made.{length-le_from_is_member}
use Rattle.std.specs.Cmp.{nat_eq_equiv}
use Rattle.std.specs.List.{IsDistinct, list_any, position_or_len}
use Rattle.rg_deps.specs.declared.graph.Thing.{Thing}
use Rattle.rg_deps.specs.declared.graph.Edge.{Edge}
use Rattle.rg_deps.specs.Cycles.{earlier, first_target, walk}
use Rattle.rg_deps.specs.Laws.{has_target, is_thing, HasThingsAsTargets, CycleIsThere}
use Rattle.rg_deps.specs.Order.{stands, waits, ordered, first_left}
use Rattle.rg_deps.proofs.Chosen.{places_stand, reached, thing_reached}
use Rattle.rg_deps.proofs.Closed.{first_is, targets_are, unwrapped}

module _ (test : Edge → Bool) where
  some_first : (edges : List Edge) (p : ℕ) → fold earlier (Some p) (filter test edges) ≡ None → ⊥
  some_first [] p e = cc e
  some_first (x ∷ xs) p e = by (test x) refl (λ p e. some_first xs p e)
    where
      by : (c : Bool) → test x ≡ c → ((p : ℕ) → fold earlier (Some p) (filter test xs) ≡ None → ⊥) → ⊥
      by true q ih = ih _ (rw q at e)
      by false q ih = ih p (rw q at e)

  none_first : (edges : List Edge) → fold earlier None (filter test edges) ≡ None → list_any test edges ≡ false
  none_first [] e = refl
  none_first (x ∷ xs) e = by (test x) refl (λ e. none_first xs e)
    where
      by : (c : Bool) → test x ≡ c → (fold earlier None (filter test xs) ≡ None → list_any test xs ≡ false) → (test x || list_any test xs) ≡ false
      by true q ih = absurd (some_first xs x.to (rw q at e))
      by false q ih = rw q (ih (rw q at e))

not_empty : (p : ℕ) (path : List ℕ) → stands path p ≡ true → drop (position_or_len (nat_eq p) path) path ≢ []
not_empty p [] s e = cc s
not_empty p (x ∷ xs) s e = by (nat_eq p x) refl (λ s e. not_empty p xs s e)
  where
    by : (b : Bool) → nat_eq p x ≡ b → (stands xs p ≡ true → drop (position_or_len (nat_eq p) xs) xs ≢ []) → ⊥
    by true q ih = let no : x ∷ xs ≡ [] = rw q at e in cc no
    by false q ih =
        let n : ℕ = position_or_len (nat_eq p) xs in
        let one : 1 + n ≡ suc n = omega (arith, add-one n) in
        let f : drop (1 + n) (x ∷ xs) ≡ [] = rw q at e in
        ih (rw q at s) (ap (λ (k : ℕ). drop k (x ∷ xs)) (sym one) ∙ f)

module _ (things : List Thing) (edges : List Edge) (among : HasThingsAsTargets things edges) where
  record Left (q : ℕ) : Type 0 where
    own : is_thing things q ≡ true
    off : reached things edges q ≡ false

  record Target (p q : ℕ) : Type 0 where
    of : has_target edges p q ≡ true
    off : reached things edges q ≡ false

  target_of : (p : ℕ) → IfSome (first_target edges (reached things edges) p) (Target p)
  target_of p = first_is (Target p) (λ e. (e.from == p) && not (reached things edges e.to)) edges
      (λ k d lt h. record { of = targets_are edges (reached things edges) p k d lt h; off = not-true _ (and_parts ((get_or edges k d).from == p) (not (reached things edges (get_or edges k d).to)) h).1 }) None tt

  -- what is left has a target that is left
  onward : (p : ℕ) → Left p → (o : Option ℕ) → first_target edges (reached things edges) p ≡ o → IfSome o (Target p) → (o ≢ None) × IfSome o Left
  onward p l None e h = absurd (by (waits edges (reached things edges) p) refl)
    where
      none : waits edges (reached things edges) p ≡ false
      none = none_first (λ e. (e.from == p) && not (reached things edges e.to)) edges e

      by : (b : Bool) → waits edges (reached things edges) p ≡ b → ⊥
      by b q = true≢false (sym (thing_reached things edges p l.own none) ∙ l.off)
  onward p l (Some q) e h = (λ n. cc n, record { own = among p q l.own h.of; off = h.off })

  record OnPath (path : List ℕ) : Type 0 where
    once : IsDistinct nat_eq path
    own : (q : ℕ) → stands path q ≡ true → is_thing things q ≡ true

  there : (n : ℕ) (path : List ℕ) → OnPath path → length path + n ≡ length things + 1 → (at : Option ℕ) → (at ≢ None) × IfSome at Left → walk (first_target edges (reached things edges)) n path at ≢ []
  there zero path h len at a e =
      let few = length-le_from_is_member nat_eq_equiv path (map (λ t. t.place) things) h.once (λ q s. places_stand things q (h.own q s)) in
      omega (arith, few, length-map things (λ t. t.place), len)
  there (suc n) path h len None a e = a.0 refl
  there (suc n) path h len (Some p) a e = by (stands path p) refl
      (λ new. there n (path ++ p ∷ []) (more new) (omega (arith, len, add-one n, length-append path (p ∷ []))) (first_target edges (reached things edges) p) (onward p a.1 (first_target edges (reached things edges) p) refl (target_of p)))
    where
      more : stands path p ≡ false → OnPath (path ++ p ∷ [])
      more new = record {
        once = IsDistinct-push nat_eq_equiv path p h.once new;
        own = λ q s. elim (or_cases (stands path q) (nat_eq q p || false) (sym (list_any-append (nat_eq q) path (p ∷ [])) ∙ s)) [
          | inl old ↦ h.own q old
          | inr same ↦ elim (or_cases (nat_eq q p) false same) [
            | inl is ↦ subst (λ (x : ℕ). is_thing things x ≡ true) (sym (eqb-true q p is)) a.1.own
            | inr never ↦ cc never
          ]
        ];
      }

      by : (b : Bool) → stands path p ≡ b → (stands path p ≡ false → walk (first_target edges (reached things edges)) n (path ++ p ∷ []) (first_target edges (reached things edges) p) ≢ []) → ⊥
      by true s ih = not_empty p path s (ap (λ (k : ℕ). drop k path) (sym (unwrapped p path)) ∙ (rw s at e))
      by false s ih = ih s (rw s at e)

first_is_left : (things : List Thing) (standing : ℕ → Bool) (p : ℕ) → first_left things standing ≡ Some p → (is_thing things p ≡ true) × (standing p ≡ false)
first_is_left [] standing p e = cc e
first_is_left (t ∷ ts) standing p e = by (standing t.place) refl (λ e. first_is_left ts standing p e)
  where
    by : (b : Bool) → standing t.place ≡ b → (first_left ts standing ≡ Some p → (is_thing ts p ≡ true) × (standing p ≡ false)) → (is_thing (t ∷ ts) p ≡ true) × (standing p ≡ false)
    by true s ih = let r = ih (rw s at e) in (or_right (nat_eq p t.place) (is_thing ts p) r.0, r.1)
    by false s ih =
        let is : Some t.place ≡ Some p = rw s at e in
        let one : t.place ≡ p = cc is in
        (or_left (nat_eq p t.place) (is_thing ts p) (eq-eqb p t.place (sym one)), ap standing (sym one) ∙ s)

pub cycle_is_there : CycleIsThere
unfolding IsDistinct
cycle_is_there things edges among p e none =
    let l = first_is_left things (stands (ordered things edges)) p e in
    there things edges among (length things + 1) [] (record { once = tt; own = λ q s. cc s }) (omega arith) (Some p)
    (λ n. cc n, record { own = l.0; off = l.1 })
    (ap (λ (o : Option ℕ). walk (first_target edges (stands (ordered things edges))) (length things + 1) [] o) (sym e) ∙ none)
