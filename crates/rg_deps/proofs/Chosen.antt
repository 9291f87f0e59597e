-- What is chosen is an order, and an order that there is is found.
use Rattle.std.proofs.Common.{◌≡◌, ℕ, zero, suc, add-one, ◌+◌, ◌<◌, ◌≤◌, ◌==◌, nat_eq, nat_lt, Bool, true, false, cond, not, ◌&&◌, ◌||◌, ◌⊎◌, inl, inr, fold, filter, Option, None, Some, List, [], ◌∷◌, ◌++◌, length, map, get_or, refl, sym, ap, subst, ◌∙◌, append-nil, append_assoc, arith, IfSome, true≢false, length-append}
use Rattle.std.proofs.lemmas.Bool.{and_parts, and_from, or_from, or_parts, or_left, or_right, or_cases, not-true, not_from_false, not_from_true, eqb-true, eq-eqb}
use Rattle.std.proofs.lemmas.List.{length-map}
use Rattle.std.proofs.lemmas.List.Folds.{list_any-append}
use Rattle.std.proofs.lemmas.Map.Made.{length-le_from_is_member}
use Rattle.std.specs.Cmp.{nat_eq_equiv}
use Rattle.std.specs.List.{All, AllByRecursion, IsDistinct}
use Rattle.rg_deps.specs.declared.graph.Thing.{Thing}
use Rattle.rg_deps.specs.declared.graph.Edge.{Edge}
use Rattle.rg_deps.specs.Laws.{is_thing, Follow, ChosenIsOrder, AnOrderIsFound}
use Rattle.rg_deps.specs.Order.{stands, waits, may_come, preferred, next, with_next, chosen, ordered, first_left}

or_false : (b : Bool) → (b || false) ≡ b
or_false true = refl
or_false false = refl

pub stands_more : (order : List ℕ) (q p : ℕ) → stands (order ++ q ∷ []) p ≡ (stands order p || nat_eq p q)
stands_more order q p = list_any-append (nat_eq p) order (q ∷ []) ∙ ap (λ (b : Bool). stands order p || b) (or_false (nat_eq p q))

-- one more that may come
follow_more : (edges : List Edge) (done ps : List ℕ) (p : ℕ) → Follow edges done ps → stands (done ++ ps) p ≡ false → waits edges (stands (done ++ ps)) p ≡ false → Follow edges done (ps ++ p ∷ [])
follow_more edges done [] p h s w =
    let e : done ++ [] ≡ done = append-nil done in
    (ap (λ (d : List ℕ). stands d p) (sym e) ∙ s, ap (λ (d : List ℕ). waits edges (stands d) p) (sym e) ∙ w, tt)
follow_more edges done (x ∷ xs) p h s w =
    let e : (done ++ x ∷ []) ++ xs ≡ done ++ x ∷ xs = append_assoc done (x ∷ []) xs in
    (h.0, h.1, follow_more edges (done ++ x ∷ []) xs p h.2 (ap (λ (d : List ℕ). stands d p) e ∙ s) (ap (λ (d : List ℕ). waits edges (stands d) p) e ∙ w))

-- what comes next may come, and is a thing
module _ (P : Thing → Type 0) (p : Thing → Bool) where
  pub next_is : (things : List Thing) → All (λ t. p t ≡ true → P t) things → (best : Option Thing) → IfSome best P → IfSome (fold preferred best (filter p things)) P
  next_is [] h best b = b
  next_is (t ∷ ts) h best b = by (p t) refl (next_is ts (λ k d lt. h (suc k) d (omega (arith, lt, add-one k))))
    where
      kept : P t → (best : Option Thing) → IfSome best P → IfSome (preferred best t) P
      kept own None b = own
      kept own (Some s) b = at (nat_lt s.priority t.priority)
        where
          at : (c : Bool) → IfSome (cond c (Some t) (Some s)) P
          at true = own
          at false = b

      by : (c : Bool) → p t ≡ c → ((best : Option Thing) → IfSome best P → IfSome (fold preferred best (filter p ts)) P) → IfSome (fold preferred best (filter p (t ∷ ts))) P
      by true e ih = rw e (ih (preferred best t) (kept (h 0 t (omega arith) e) best b))
      by false e ih = rw e (ih best b)

  pub some_best : (things : List Thing) (s : Thing) → fold preferred (Some s) (filter p things) ≡ None → ⊥
  some_best [] s e = cc e
  some_best (t ∷ ts) s e = by (p t) refl (λ s e. some_best ts s e)
    where
      better : (c : Bool) → ((s : Thing) → fold preferred (Some s) (filter p ts) ≡ None → ⊥) → fold preferred (cond c (Some t) (Some s)) (filter p ts) ≡ None → ⊥
      better true ih e = ih t e
      better false ih e = ih s e

      by : (c : Bool) → p t ≡ c → ((s : Thing) → fold preferred (Some s) (filter p ts) ≡ None → ⊥) → ⊥
      by true q ih = better (nat_lt s.priority t.priority) ih (rw q at e)
      by false q ih = ih s (rw q at e)

  -- where nothing comes next, nothing may
  none_may : (things : List Thing) → fold preferred None (filter p things) ≡ None → (k : ℕ) (d : Thing) → k < length things → p (get_or things k d) ≡ false
  none_may [] e k d lt = absurd (omega (arith, lt))
  none_may (t ∷ ts) e zero d lt = by (p t) refl
    where
      by : (c : Bool) → p t ≡ c → p t ≡ false
      by true q = absurd (some_best ts t (rw q at e))
      by false q = q
  none_may (t ∷ ts) e (suc k) d lt = by (p t) refl (λ e. none_may ts e k d (omega (arith, lt, add-one k)))
    where
      by : (c : Bool) → p t ≡ c → (fold preferred None (filter p ts) ≡ None → p (get_or ts k d) ≡ false) → p (get_or ts k d) ≡ false
      by true q ih = absurd (some_best ts t (rw q at e))
      by false q ih = ih (rw q at e)

thing_at : (things : List Thing) (k : ℕ) (d : Thing) → k < length things → is_thing things (get_or things k d).place ≡ true
thing_at [] k d lt = absurd (omega (arith, lt))
thing_at (t ∷ ts) zero d lt = or_left (nat_eq t.place t.place) (is_thing ts t.place) (eq-eqb t.place t.place refl)
thing_at (t ∷ ts) (suc k) d lt = or_right (nat_eq (get_or ts k d).place t.place) (is_thing ts (get_or ts k d).place) (thing_at ts k d (omega (arith, lt, add-one k)))

record Comes (things : List Thing) (edges : List Edge) (order : List ℕ) (t : Thing) : Type 0 where
  may : may_come edges (stands order) t ≡ true
  own : is_thing things t.place ≡ true

comes : (things : List Thing) (edges : List Edge) (order : List ℕ) → IfSome (next things edges (stands order)) (Comes things edges order)
comes things edges order = next_is (Comes things edges order) (may_come edges (stands order)) things (λ k d lt m. record { may = m; own = thing_at things k d lt }) None tt

-- what is known of the order so far
record SoFar (things : List Thing) (edges : List Edge) (order : List ℕ) : Type 0 where
  own : (p : ℕ) → stands order p ≡ true → is_thing things p ≡ true
  follow : Follow edges [] order

so_far_more : (things : List Thing) (edges : List Edge) (order : List ℕ) → SoFar things edges order → (o : Option Thing) → IfSome o (Comes things edges order) → SoFar things edges (with_next order o)
so_far_more things edges order h None c = h
so_far_more things edges order h (Some t) c =
    let m = and_parts (not (stands order t.place)) (not (waits edges (stands order) t.place)) c.may in
    record {
      own = λ p s. elim (or_cases (stands order p) (nat_eq p t.place) (sym (stands_more order t.place p) ∙ s)) [
        | inl old ↦ h.own p old
        | inr new ↦ subst (λ (q : ℕ). is_thing things q ≡ true) (sym (eqb-true p t.place new)) c.own
      ];
      follow = follow_more edges [] order t.place h.follow (not-true (stands order t.place) m.0) (not-true (waits edges (stands order) t.place) m.1);
    }

so_far : (things : List Thing) (edges : List Edge) (n : ℕ) → SoFar things edges (chosen things edges n)
so_far things edges zero = record { own = λ p s. cc s; follow = tt }
so_far things edges (suc n) = so_far_more things edges (chosen things edges n) (so_far things edges n) (next things edges (stands (chosen things edges n))) (comes things edges (chosen things edges n))

-- where nothing is left, all stand
all_stand : (things : List Thing) (standing : ℕ → Bool) → first_left things standing ≡ None → (p : ℕ) → is_thing things p ≡ true → standing p ≡ true
all_stand [] standing e p h = cc h
all_stand (t ∷ ts) standing e p h = by (standing t.place) refl (λ e r. all_stand ts standing e p r)
  where
    by : (b : Bool) → standing t.place ≡ b → (first_left ts standing ≡ None → is_thing ts p ≡ true → standing p ≡ true) → standing p ≡ true
    by true s ih = elim (or_cases (nat_eq p t.place) (is_thing ts p) h) [
      | inl own ↦ subst (λ (q : ℕ). standing q ≡ true) (sym (eqb-true p t.place own)) s
      | inr rest ↦ ih (rw s at e) rest
    ]
    by false s ih = let no : Some t.place ≡ None = rw s at e in cc no

pub chosen_is_order : ChosenIsOrder
chosen_is_order things edges e =
    let s = so_far things edges (length things) in
    record { own = s.own; all = all_stand things (stands (ordered things edges)) e; follow = s.follow }

-- each comes once
module _ (edges : List Edge) where
  apart : (done ps : List ℕ) → Follow edges done ps → IsDistinct nat_eq ps × AllByRecursion (λ q. stands done q ≡ false) ps
  unfolding IsDistinct
  apart done [] h = (tt, tt)
  apart done (p ∷ ps) h =
      let r = apart (done ++ p ∷ []) ps h.2 in
      ((others ps r.1, r.0), (h.0, before ps r.1))
    where
      others : (qs : List ℕ) → AllByRecursion (λ q. stands (done ++ p ∷ []) q ≡ false) qs → AllByRecursion (λ q. nat_eq p q ≡ false) qs
      others [] h = tt
      others (q ∷ qs) h = (nat_eq_equiv.symm p q ∙ (or_parts (stands done q) (nat_eq q p) (sym (stands_more done p q) ∙ h.0)).1, others qs h.1)

      before : (qs : List ℕ) → AllByRecursion (λ q. stands (done ++ p ∷ []) q ≡ false) qs → AllByRecursion (λ q. stands done q ≡ false) qs
      before [] h = tt
      before (q ∷ qs) h = ((or_parts (stands done q) (nat_eq q p) (sym (stands_more done p q) ∙ h.0)).0, before qs h.1)

pub places_stand : (things : List Thing) (p : ℕ) → is_thing things p ≡ true → stands (map (λ t. t.place) things) p ≡ true
places_stand [] p h = h
places_stand (t ∷ ts) p h = elim (or_cases (nat_eq p t.place) (is_thing ts p) h) [
  | inl own ↦ or_left (nat_eq p t.place) (stands (map (λ t. t.place) ts) p) own
  | inr rest ↦ or_right (nat_eq p t.place) (stands (map (λ t. t.place) ts) p) (places_stand ts p rest)
]

short : (things : List Thing) (edges : List Edge) (n : ℕ) → length (chosen things edges n) ≤ length things
short things edges n =
    let s = so_far things edges n in
    let few = length-le_from_is_member nat_eq_equiv (chosen things edges n) (map (λ t. t.place) things) (apart edges [] (chosen things edges n) s.follow).0 (λ p h. places_stand things p (s.own p h)) in
    omega (arith, few, length-map things (λ t. t.place))

-- after so many choices nothing comes next, or each choice was one
Stuck : (things : List Thing) (edges : List Edge) (n : ℕ) → Type 0
Stuck things edges n = (next things edges (stands (chosen things edges n)) ≡ None) ⊎ (length (chosen things edges n) ≡ n)

stuck_or_more : (things : List Thing) (edges : List Edge) (n : ℕ) → Stuck things edges n
unfolding Stuck
stuck_or_more things edges zero = inr refl
stuck_or_more things edges (suc n) = by (next things edges (stands (chosen things edges n))) refl (stuck_or_more things edges n)
  where
    order : List ℕ
    order = chosen things edges n

    by : (o : Option Thing) → next things edges (stands order) ≡ o → Stuck things edges n → Stuck things edges (suc n)
    by None e h = inl (ap (λ (x : Option Thing). next things edges (stands (with_next order x))) e ∙ e)
    by (Some t) e (inl none) = let no : None ≡ Some t = sym none ∙ e in cc no
    by (Some t) e (inr len) = inr (ap (λ (x : Option Thing). length (with_next order x)) e ∙ length-append order (t.place ∷ []) ∙ ap (λ (k : ℕ). k + 1) len ∙ add-one n)

exhausted : (things : List Thing) (edges : List Edge) → next things edges (stands (ordered things edges)) ≡ None
unfolding Stuck
exhausted things edges = by (next things edges (stands (ordered things edges))) refl (stuck_or_more things edges (length things))
  where
    by : (o : Option Thing) → next things edges (stands (ordered things edges)) ≡ o → Stuck things edges (length things) → next things edges (stands (ordered things edges)) ≡ None
    by None e h = e
    by (Some t) e (inl none) = none
    by (Some t) e (inr len) =
        let more : length (chosen things edges (suc (length things))) ≡ length things + 1 =
        ap (λ (x : Option Thing). length (with_next (ordered things edges) x)) e ∙ length-append (ordered things edges) (t.place ∷ []) ∙ ap (λ (k : ℕ). k + 1) len in
        absurd (omega (arith, more, short things edges (suc (length things))))

-- what waits for none among fewer waits for none among more
fewer_wait : (edges : List Edge) (few many : ℕ → Bool) → ((p : ℕ) → few p ≡ true → many p ≡ true) → (p : ℕ) → waits edges few p ≡ false → waits edges many p ≡ false
fewer_wait [] few many more p h = refl
fewer_wait (e ∷ es) few many more p h =
    let parts = or_parts ((e.from == p) && not (few e.to)) (waits es few p) h in
    or_from ((e.from == p) && not (many e.to)) (waits es many p) (by (e.from == p) (few e.to) refl parts.0) (fewer_wait es few many more p parts.1)
  where
    by : (a b : Bool) → few e.to ≡ b → (a && not b) ≡ false → (a && not (many e.to)) ≡ false
    by false b s q = refl
    by true true s q = not_from_true (many e.to) (more e.to s)
    by true false s q = cc q

find_thing : (things : List Thing) (p : ℕ) → is_thing things p ≡ true → (k : ℕ) × (k < length things) × ((d : Thing) → (get_or things k d).place ≡ p)
find_thing [] p h = cc h
find_thing (t ∷ ts) p h = elim (or_cases (nat_eq p t.place) (is_thing ts p) h) [
  | inl own ↦ (0, omega arith, λ d. sym (eqb-true p t.place own))
  | inr rest ↦ let r = find_thing ts p rest in (suc r.0, omega (arith, r.1, add-one r.0), r.2)
]

module _ (things : List Thing) (edges : List Edge) where
  abbrev pub reached : ℕ → Bool
  reached = stands (ordered things edges)

  -- a thing all of whose targets are reached is reached
  pub thing_reached : (p : ℕ) → is_thing things p ≡ true → waits edges reached p ≡ false → reached p ≡ true
  thing_reached p own w = by (reached p) refl
    where
      r : (k : ℕ) × (k < length things) × ((d : Thing) → (get_or things k d).place ≡ p)
      r = find_thing things p own

      by : (b : Bool) → reached p ≡ b → reached p ≡ true
      by true e = e
      by false e =
          let d : Thing = record { place = p; priority = 0 } in
          let no = none_may (λ t. Unit {0}) (may_come edges reached) things (exhausted things edges) r.0 d r.1 in
          let yes : may_come edges reached (get_or things r.0 d) ≡ true =
          ap (λ (q : ℕ). not (reached q) && not (waits edges reached q)) (r.2 d) ∙ and_from (not (reached p)) (not (waits edges reached p)) (not_from_false (reached p) e) (not_from_false (waits edges reached p) w) in
          absurd (true≢false (sym yes ∙ no))

  all_reached : (done ps : List ℕ) → Follow edges done ps → ((p : ℕ) → stands ps p ≡ true → is_thing things p ≡ true) → ((p : ℕ) → stands done p ≡ true → reached p ≡ true)
      → (p : ℕ) → stands (done ++ ps) p ≡ true → reached p ≡ true
  all_reached done [] h own old p s = old p (ap (λ (d : List ℕ). stands d p) (sym (append-nil done)) ∙ s)
  all_reached done (q ∷ qs) h own old p s =
      all_reached (done ++ q ∷ []) qs h.2 (λ p s. own p (or_right (nat_eq p q) (stands qs p) s))
      (λ p s. elim (or_cases (stands done p) (nat_eq p q) (sym (stands_more done q p) ∙ s)) [
        | inl before ↦ old p before
        | inr same ↦ subst (λ (x : ℕ). reached x ≡ true) (sym (eqb-true p q same))
            (thing_reached q (own q (or_left (nat_eq q q) (stands qs q) (eq-eqb q q refl))) (fewer_wait edges (stands done) reached old q h.1))
      ])
      p (ap (λ (d : List ℕ). stands d p) (append_assoc done (q ∷ []) qs) ∙ s)

none_left : (things : List Thing) (standing : ℕ → Bool) → ((p : ℕ) → is_thing things p ≡ true → standing p ≡ true) → first_left things standing ≡ None
none_left [] standing h = refl
none_left (t ∷ ts) standing h =
    rw (h t.place (or_left (nat_eq t.place t.place) (is_thing ts t.place) (eq-eqb t.place t.place refl)))
    (none_left ts standing (λ p s. h p (or_right (nat_eq p t.place) (is_thing ts p) s)))

pub order_is_found : AnOrderIsFound
order_is_found things edges order is =
    none_left things (stands (ordered things edges))
    (λ p own. all_reached things edges [] order is.follow is.own (λ q s. cc s) p (is.all p own))
