-- There is no cycle exactly where places have ranks of which each is above those of its targets.
use Rattle.std.proofs.Common.{◌≡◌, ℕ, suc, add-one, ◌<◌, nat_eq, Bool, true, false, cond, not, ◌&&◌, ◌||◌, ◌⊎◌, inl, inr, Option, None, Some, List, [], ◌∷◌, ◌++◌, refl, sym, ap, subst, ◌∙◌, arith}
use Rattle.std.proofs.lemmas.Bool.{and_from, and_parts, eqb-true, eq-eqb, or_cases, or_left, or_parts, or_right}
use Rattle.std.proofs.lemmas.List.Folds.{list_any-append}
use Rattle.std.specs.List.{AllByRecursion}
use Rattle.rg_deps.specs.declared.graph.Edge.{Edge}
use Rattle.rg_deps.specs.declared.graph.Thing.{Thing}
use Rattle.rg_deps.specs.Cycles.{arrangement, arranged, cycle}
use Rattle.rg_deps.specs.Laws.{has_target, is_thing, ChosenIsOrder, CycleIsClosed, CycleIsThere, Follow, HasThingsAsTargets, IsClosed, Lead}
use Rattle.rg_deps.specs.Order.{first_left, ordered, stands, waits}
use Rattle.rg_deps.specs.Orderings.{cycle_in}

-- each edge leads down
abbrev pub Falls : (ℕ → ℕ) → List Edge → Type 0
Falls rank edges = AllByRecursion (λ e. rank e.to < rank e.from) edges

-- each edge from a thing leads down
abbrev pub ThingsFall : List Thing → (ℕ → ℕ) → List Edge → Type 0
ThingsFall things rank edges = AllByRecursion (λ e. is_thing things e.from ≡ true → rank e.to < rank e.from) edges

module _ (rank : ℕ → ℕ) where
  lower : (edges : List Edge) → Falls rank edges → (p q : ℕ) → has_target edges p q ≡ true → rank q < rank p
  lower [] h p q is = cc is
  lower (e ∷ es) h p q is = elim (or_cases (nat_eq p e.from && nat_eq q e.to) (has_target es p q) is) [
    | inl here ↦
        let b = and_parts (nat_eq p e.from) (nat_eq q e.to) here in
        omega (arith, h.0, ap rank (eqb-true p e.from b.0), ap rank (eqb-true q e.to b.1))
    | inr later ↦ lower es h.1 p q later
  ]

  module _ (edges : List Edge) (h : Falls rank edges) where
    path_falls : (p : ℕ) (ps : List ℕ) (q : ℕ) → Lead edges (p ∷ ps) q → rank q < rank p
    path_falls p [] q lead = lower edges h p q lead
    path_falls p (r ∷ ps) q lead = omega (arith, lower edges h p r lead.0, path_falls r ps q lead.1)

    none_closed : (places : List ℕ) → IsClosed edges places → places ≡ []
    none_closed [] closed = refl
    none_closed (p ∷ ps) closed = absurd (omega (arith, path_falls p ps p closed))

-- where each edge leads down, nothing is left
module _ (are_there : CycleIsThere) (are_closed : CycleIsClosed) (things : List Thing) (edges : List Edge) (among : HasThingsAsTargets things edges) where
  nothing_left : (rank : ℕ → ℕ) → Falls rank edges → first_left things (stands (ordered things edges)) ≡ None
  nothing_left rank h = by (first_left things (stands (ordered things edges))) refl
    where
      by : (o : Option ℕ) → first_left things (stands (ordered things edges)) ≡ o → o ≡ None
      by None is = refl
      by (Some p) is = absurd (are_there things edges among p is
          (none_closed rank edges h (cycle things edges (stands (ordered things edges))) (are_closed things edges (stands (ordered things edges)))))

  pub no_cycle : {X : Type 0} (own : List (List ℕ × X)) (rank : ℕ → ℕ) → Falls rank edges → cycle_in own (arrangement things edges) ≡ None
  no_cycle own rank h = ap (λ (o : Option ℕ). cycle_in own (arranged things edges (ordered things edges) o)) (nothing_left rank h)

-- how many come before a place in an order
abbrev before : List ℕ → ℕ → ℕ
before [] p = 0
before (q ∷ qs) p = cond (nat_eq p q) 0 (suc (before qs p))

-- a place that does not wait has no target that does not stand
met : (edges : List Edge) (standing : ℕ → Bool) (p q : ℕ) → waits edges standing p ≡ false → has_target edges p q ≡ true → standing q ≡ true
met [] standing p q free is = cc is
met (e ∷ es) standing p q free is =
    let f = or_parts (nat_eq e.from p && not (standing e.to)) (waits es standing p) free in
    elim (or_cases (nat_eq p e.from && nat_eq q e.to) (has_target es p q) is) [
      | inl here ↦
          let b = and_parts (nat_eq p e.from) (nat_eq q e.to) here in
          at (standing q) (nat_eq e.from p) refl (eq-eqb e.from p (sym (eqb-true p e.from b.0))) (ap (λ (x : ℕ). nat_eq e.from p && not (standing x)) (eqb-true q e.to b.1) ∙ f.0)
      | inr later ↦ met es standing p q f.1 later
    ]
  where
    at : (b c : Bool) → standing q ≡ b → c ≡ true → (c && not (standing q)) ≡ false → standing q ≡ true
    at true c is one free = is
    at false true is one free = let never : true ≡ false = sym (ap not is) ∙ free in cc never
    at false false is one free = cc one

module _ (edges : List Edge) where
  -- what comes in an order comes after its targets
  later : (done ps : List ℕ) → Follow edges done ps → (p q : ℕ) → has_target edges p q ≡ true → stands ps p ≡ true → (stands done q ≡ true) ⊎ (before ps q < before ps p)
  later done [] h p q is there = cc there
  later done (x ∷ xs) h p q is there = by (nat_eq p x) refl there (later (done ++ x ∷ []) xs h.2 p q is)
    where
      past : (b : Bool) → nat_eq q x ≡ b → ((stands (done ++ x ∷ []) q ≡ true) ⊎ (before xs q < before xs p)) → (stands done q ≡ true) ⊎ (cond b 0 (suc (before xs q)) < suc (before xs p))
      past true same r = inr (omega (arith, add-one (before xs p)))
      past false other (inl old) = elim (or_cases (stands done q) (nat_eq q x || false) (sym (list_any-append (nat_eq q) done (x ∷ [])) ∙ old)) [
        | inl done ↦ inl done
        | inr new ↦ elim (or_cases (nat_eq q x) false new) [
          | inl same ↦ let no : true ≡ false = sym same ∙ other in cc no
          | inr never ↦ cc never
        ]
      ]
      past false other (inr low) = inr (omega (arith, low, add-one (before xs p), add-one (before xs q)))

      by : (b : Bool) → nat_eq p x ≡ b → (b || stands xs p) ≡ true → (stands xs p ≡ true → (stands (done ++ x ∷ []) q ≡ true) ⊎ (before xs q < before xs p))
          → (stands done q ≡ true) ⊎ (before (x ∷ xs) q < cond b 0 (suc (before xs p)))
      by true own there ih =
          inl (met edges (stands done) x q h.1 (subst (λ (r : ℕ). has_target edges r q ≡ true) (eqb-true p x own) is))
      by false other there ih = past (nat_eq q x) refl (ih there)

module _ (things : List Thing) (edges : List Edge) where
  order_falls : (order : List ℕ) → Follow edges [] order → ((p : ℕ) → is_thing things p ≡ true → stands order p ≡ true)
      → (p q : ℕ) → is_thing things p ≡ true → has_target edges p q ≡ true → before order q < before order p
  order_falls order follow all p q own is = elim (later edges [] order follow p q is (all p own)) [
    | inl never ↦ cc never
    | inr low ↦ low
  ]

  on_edges : (rank : ℕ → ℕ) (es : List Edge) → ((p q : ℕ) → is_thing things p ≡ true → has_target es p q ≡ true → rank q < rank p) → ThingsFall things rank es
  on_edges rank [] h = tt
  on_edges rank (e ∷ es) h = (
    λ own. h e.from e.to own (or_left _ _ (and_from (nat_eq e.from e.from) (nat_eq e.to e.to) (eq-eqb e.from e.from refl) (eq-eqb e.to e.to refl))),
    on_edges rank es (λ p q own is. h p q own (or_right (nat_eq p e.from && nat_eq q e.to) (has_target es p q) is)),
  )

  -- where no cycle is told, each edge from a thing leads down, by this rank
  pub chosen_rank : ℕ → ℕ
  chosen_rank p = before (ordered things edges) p

  pub things_fall : {X : Type 0} (own : List (List ℕ × X)) → ChosenIsOrder → cycle_in own (arrangement things edges) ≡ None → ThingsFall things chosen_rank edges
  unfolding chosen_rank
  things_fall own is_order none =
      let o = is_order things edges (by (first_left things (stands (ordered things edges))) none) in
      on_edges chosen_rank edges (order_falls (ordered things edges) o.follow o.all)
    where
      by : (o : Option ℕ) → cycle_in own (arranged things edges (ordered things edges) o) ≡ None → o ≡ None
      by None none = refl
      by (Some p) none = cc none
