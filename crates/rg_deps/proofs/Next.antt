-- The first rank is that of the thing that comes next.
use Rattle.std.proofs.Common.{◌≡◌, ℕ, zero, suc, add-one, ◌<◌, ◌≤◌, ◌==◌, nat_lt, Bool, true, false, cond, not, ◌&&◌, inl, inr, fold, filter, Option, None, Some, List, [], ◌∷◌, ◌++◌, length, get_or, refl, sym, ap, subst, ◌∙◌, arith, IfSome, true≢false}
use Rattle.std.proofs.lemmas.Bool.{and_parts, and_from, or_cases, or_left, or_right, ltb-true, ltb-false, eqb-true, eq-eqb}
use Rattle.std.specs.List.{AllByRecursion}
use Rattle.rg_deps.specs.declared.graph.Thing.{Thing}
use Rattle.rg_deps.specs.declared.graph.Edge.{Edge}
use Rattle.rg_deps.specs.Choice.{left_count}
use Rattle.rg_deps.specs.Order.{stands, waits, may_come, preferred, next, with_next}
use Rattle.rg_deps.specs.Places.{IsAscending, is_thing_of}
use Rattle.rg_deps.proofs.Chosen.{next_is, some_best}
use Rattle.rg_deps.proofs.Counts.{any_counted}

-- r comes no later than the place x of priority n
record NoLater (r : Thing) (n x : ℕ) : Type 0 where
  more : n ≤ r.priority
  first : r.priority ≤ n → r.place ≤ x

no_later_at : (r t : Thing) (n x : ℕ) → NoLater r t.priority t.place → ((x == t.place) && (n == t.priority)) ≡ true → NoLater r n x
no_later_at r t n x h own =
    let parts = and_parts (x == t.place) (n == t.priority) own in
    let place = eqb-true x t.place parts.0 in
    let priority = eqb-true n t.priority parts.1 in
    record { more = omega (arith, h.more, priority); first = λ le. omega (arith, h.first (omega (arith, le, priority)), place) }

module _ (g : ℕ → Bool) where
  record Best (r : Thing) (things : List Thing) (s : Thing) : Type 0 where
    start : NoLater r s.priority s.place
    rest : (n x : ℕ) → is_thing_of things n x ≡ true → g x ≡ true → NoLater r n x

  not_it : (t : Thing) (n x : ℕ) → g t.place ≡ false → ((x == t.place) && (n == t.priority)) ≡ true → g x ≡ true → ⊥
  not_it t n x q own gx = true≢false (sym gx ∙ ap g (eqb-true x t.place (and_parts (x == t.place) (n == t.priority) own).0) ∙ q)

  best_some : (things : List Thing) (s r : Thing) → IsAscending things → AllByRecursion (λ u. s.place < u.place) things
      → fold preferred (Some s) (filter (λ t. g t.place) things) ≡ Some r → Best r things s
  best_some [] s r asc low e =
      let same : s ≡ r = cc e in
      subst (λ (x : Thing). Best x [] s) same (record { start = record { more = omega arith; first = λ le. omega arith }; rest = λ n x h gx. cc h })
  best_some (t ∷ ts) s r asc low e = by (g t.place) refl (λ x low e. best_some ts x r asc.1 low e)
    where
      later : List Thing
      later = filter (λ t. g t.place) ts

      by : (c : Bool) → g t.place ≡ c → ((x : Thing) → AllByRecursion (λ u. x.place < u.place) ts → fold preferred (Some x) later ≡ Some r → Best r ts x) → Best r (t ∷ ts) s
      by true q more = at (nat_lt s.priority t.priority) refl
        where
          e1 : fold preferred (preferred (Some s) t) later ≡ Some r
          e1 = ap (λ (c : Bool). fold preferred (Some s) (cond c (t ∷ later) later)) (sym q) ∙ e

          at : (b : Bool) → nat_lt s.priority t.priority ≡ b → Best r (t ∷ ts) s
          at true lt =
              let e2 : fold preferred (Some t) later ≡ Some r = ap (λ (c : Bool). fold preferred (cond c (Some t) (Some s)) later) (sym lt) ∙ e1 in
              let ih = more t asc.0 e2 in
              let less = ltb-true s.priority t.priority lt in
              record {
                start = record { more = omega (arith, ih.start.more, less); first = λ le. absurd (omega (arith, ih.start.more, less, le)) };
                rest = λ n x h gx. elim (or_cases ((x == t.place) && (n == t.priority)) (is_thing_of ts n x) h) [
                  | inl own ↦ no_later_at r t n x ih.start own
                  | inr others ↦ ih.rest n x others gx
                ];
              }
          at false le =
              let e2 : fold preferred (Some s) later ≡ Some r = ap (λ (c : Bool). fold preferred (cond c (Some t) (Some s)) later) (sym le) ∙ e1 in
              let ih = more s low.1 e2 in
              let no_more = ltb-false s.priority t.priority le in
              let own_rank : NoLater r t.priority t.place = record {
                more = omega (arith, ih.start.more, no_more);
                first = λ below. omega (arith, ih.start.first (omega (arith, below, no_more)), low.0);
              } in
              record {
                start = ih.start;
                rest = λ n x h gx. elim (or_cases ((x == t.place) && (n == t.priority)) (is_thing_of ts n x) h) [
                  | inl own ↦ no_later_at r t n x own_rank own
                  | inr others ↦ ih.rest n x others gx
                ];
              }
      by false q more =
          let e1 : fold preferred (Some s) later ≡ Some r = ap (λ (c : Bool). fold preferred (Some s) (cond c (t ∷ later) later)) (sym q) ∙ e in
          let ih = more s low.1 e1 in
          record {
            start = ih.start;
            rest = λ n x h gx. elim (or_cases ((x == t.place) && (n == t.priority)) (is_thing_of ts n x) h) [
              | inl own ↦ absurd (not_it t n x q own gx)
              | inr others ↦ ih.rest n x others gx
            ];
          }

  best : (things : List Thing) (r : Thing) → IsAscending things → fold preferred None (filter (λ t. g t.place) things) ≡ Some r
      → (n x : ℕ) → is_thing_of things n x ≡ true → g x ≡ true → NoLater r n x
  best [] r asc e n x h gx = cc h
  best (t ∷ ts) r asc e n x h gx = by (g t.place) refl (λ e others. best ts r asc.1 e n x others gx)
    where
      later : List Thing
      later = filter (λ t. g t.place) ts

      by : (c : Bool) → g t.place ≡ c → (fold preferred None later ≡ Some r → is_thing_of ts n x ≡ true → NoLater r n x) → NoLater r n x
      by true q more =
          let e1 : fold preferred (Some t) later ≡ Some r = ap (λ (c : Bool). fold preferred None (cond c (t ∷ later) later)) (sym q) ∙ e in
          let b = best_some ts t r asc.1 asc.0 e1 in
          elim (or_cases ((x == t.place) && (n == t.priority)) (is_thing_of ts n x) h) [
            | inl own ↦ no_later_at r t n x b.start own
            | inr others ↦ b.rest n x others gx
          ]
      by false q more =
          let e1 : fold preferred None later ≡ Some r = ap (λ (c : Bool). fold preferred None (cond c (t ∷ later) later)) (sym q) ∙ e in
          elim (or_cases ((x == t.place) && (n == t.priority)) (is_thing_of ts n x) h) [
            | inl own ↦ absurd (not_it t n x q own gx)
            | inr others ↦ more e1 others
          ]

  no_best : (things : List Thing) → fold preferred None (filter (λ t. g t.place) things) ≡ None → (n x : ℕ) → is_thing_of things n x ≡ true → g x ≡ true → ⊥
  no_best [] e n x h gx = cc h
  no_best (t ∷ ts) e n x h gx = by (g t.place) refl (λ e others. no_best ts e n x others gx)
    where
      later : List Thing
      later = filter (λ t. g t.place) ts

      by : (c : Bool) → g t.place ≡ c → (fold preferred None later ≡ None → is_thing_of ts n x ≡ true → ⊥) → ⊥
      by true q more = some_best (λ t. Unit {0}) (λ t. g t.place) ts t (ap (λ (c : Bool). fold preferred None (cond c (t ∷ later) later)) (sym q) ∙ e)
      by false q more =
          let e1 : fold preferred None later ≡ None = ap (λ (c : Bool). fold preferred None (cond c (t ∷ later) later)) (sym q) ∙ e in
          elim (or_cases ((x == t.place) && (n == t.priority)) (is_thing_of ts n x) h) [
            | inl own ↦ not_it t n x q own gx
            | inr others ↦ more e1 others
          ]

  own_rank : (things : List Thing) (k : ℕ) (d : Thing) → k < length things → is_thing_of things (get_or things k d).priority (get_or things k d).place ≡ true
  own_rank [] k d lt = absurd (omega (arith, lt))
  own_rank (t ∷ ts) zero d lt =
      or_left ((t.place == t.place) && (t.priority == t.priority)) (is_thing_of ts t.priority t.place)
      (and_from (t.place == t.place) (t.priority == t.priority) (eq-eqb t.place t.place refl) (eq-eqb t.priority t.priority refl))
  own_rank (t ∷ ts) (suc k) d lt =
      let u : Thing = get_or ts k d in
      or_right ((u.place == t.place) && (u.priority == t.priority)) (is_thing_of ts u.priority u.place) (own_rank ts k d (omega (arith, lt, add-one k)))

-- what is known of the ranks that are ready
module _ (things : List Thing) (edges : List Edge) (order : List ℕ) (has : ℕ → ℕ → Bool)
    (is : (n p : ℕ) → has n p ≡ (is_thing_of things n p && (not (stands order p) && (left_count edges order p == 0)))) where
  free : ℕ → Bool
  free p = not (stands order p) && not (waits edges (stands order) p)

  twice : (b : Bool) → not (not b) ≡ b
  twice true = refl
  twice false = refl

  same_free : (p : ℕ) → free p ≡ (not (stands order p) && (left_count edges order p == 0))
  unfolding free
  same_free p = ap (λ (b : Bool). not (stands order p) && b) (ap not (any_counted (λ e. (e.from == p) && not (stands order e.to)) edges) ∙ twice (left_count edges order p == 0))

  has_from : (n p : ℕ) → is_thing_of things n p ≡ true → free p ≡ true → has n p ≡ true
  has_from n p t f = is n p ∙ and_from (is_thing_of things n p) (not (stands order p) && (left_count edges order p == 0)) t (sym (same_free p) ∙ f)

  ready_next : IfSome (next things edges (stands order)) (λ t. has t.priority t.place ≡ true)
  unfolding free
  ready_next = next_is (λ t. has t.priority t.place ≡ true) (may_come edges (stands order)) things
      (λ k d lt m. has_from (get_or things k d).priority (get_or things k d).place (own_rank (λ x. true) things k d lt) m) None tt

  -- where none is ready nothing comes next
  pub none_ready : ((n p : ℕ) → has n p ≡ false) → order ≡ with_next order (next things edges (stands order))
  none_ready empty = by (next things edges (stands order)) ready_next
    where
      by : (o : Option Thing) → IfSome o (λ t. has t.priority t.place ≡ true) → order ≡ with_next order o
      by None h = refl
      by (Some t) h = absurd (true≢false (sym h ∙ empty t.priority t.place))

  -- the first that is ready comes next
  pub first_ready : IsAscending things → (n q : ℕ) → has n q ≡ true → ((s x : ℕ) → has s x ≡ true → (s ≤ n) × (s ≡ n → q ≤ x)) → order ++ q ∷ [] ≡ with_next order (next things edges (stands order))
  unfolding free
  first_ready asc n q h least = by (next things edges (stands order)) refl ready_next
    where
      parts : (is_thing_of things n q ≡ true) × ((not (stands order q) && (left_count edges order q == 0)) ≡ true)
      parts = and_parts (is_thing_of things n q) (not (stands order q) && (left_count edges order q == 0)) (sym (is n q) ∙ h)

      own_free : free q ≡ true
      own_free = same_free q ∙ parts.1

      by : (o : Option Thing) → next things edges (stands order) ≡ o → IfSome o (λ t. has t.priority t.place ≡ true) → order ++ q ∷ [] ≡ with_next order o
      by None e r = absurd (no_best free things e n q parts.0 own_free)
      by (Some t) e r =
          let b = best free things t asc e n q parts.0 own_free in
          let l = least t.priority t.place r in
          let one : t.priority ≡ n = omega (arith, b.more, l.0) in
          let same : q ≡ t.place = omega (arith, b.first (omega (arith, one)), l.1 one) in
          ap (λ (x : ℕ). order ++ x ∷ []) same
