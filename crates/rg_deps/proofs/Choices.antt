-- What is known while things are chosen stays so.
use Rattle.std.proofs.Common.{◌≡◌, ◌≢◌, ℕ, ◌+◌, ◌-◌, ◌<◌, ◌≤◌, ◌==◌, nat_eq, Bool, true, false, cond, not, ◌&&◌, ◌||◌, ◌⊎◌, inl, inr, Option, None, Some, List, [], ◌∷◌, ◌++◌, length, set, get_or, replicate, refl, sym, ap, subst, ◌∙◌, arith, true≢false}
use Rattle.std.proofs.lemmas.Bool.{and_parts, or_cases, cases_eq, cases_lt, eqb-true, eqb-false, eq-eqb, ne_eqb, not-true}
use Rattle.std.proofs.lemmas.List.{length-set, length-replicate, get_or-replicate, get_or_past, get_or-set_same, get_or-set_other}
use Rattle.std.specs.BTreeMap.{is_at}
use Rattle.std.specs.BTreeSet.{BTreeSet}
use Rattle.std.specs.List.{list_any}
use Rattle.std.specs.declared.cmp.Reverse.{Reverse}
use Rattle.rg_deps.specs.declared.graph.Thing.{Thing}
use Rattle.rg_deps.specs.declared.graph.Edge.{Edge}
use Rattle.rg_deps.specs.Choice.{has_rank, rank_cmp, is_among, times, left_count, IsAt}
use Rattle.rg_deps.specs.Flags.{flag}
use Rattle.rg_deps.specs.Order.{stands}
use Rattle.rg_deps.specs.Places.{behind, edge_count, is_thing_of, is_some_of, is_priority}
use Rattle.rg_deps.proofs.Chosen.{stands_more}
use Rattle.rg_deps.proofs.Counts.{all_left, any_counted, fewer_left}

-- sets of the same keys
pub same_set : (r s : BTreeSet (Reverse ℕ × ℕ)) → r.keys ≡ s.keys → r ≡ s
same_set r s e i = record { keys = e i }

pub none_in : (r : BTreeSet (Reverse ℕ × ℕ)) → length r.keys ≡ 0 → (n p : ℕ) → has_rank r n p ≡ false
none_in r e n p = by r.keys e
  where
    by : (ks : List (Reverse ℕ × ℕ)) → length ks ≡ 0 → list_any (is_at (rank_cmp (record { 0 = n }, p))) ks ≡ false
    by [] e = refl
    by (k ∷ ks) e = absurd (omega (arith, e))

one_priority : (o : Option ℕ) (n m : ℕ) → is_some_of o n ≡ true → is_some_of o m ≡ true → n ≡ m
one_priority None n m h k = cc h
one_priority (Some x) n m h k = eqb-true n x h ∙ sym (eqb-true m x k)

flags_with : (standing : List Bool) (order : List ℕ) (place : ℕ) → place < length standing → flag standing ≡ stands order → flag (set standing place true) ≡ stands (order ++ place ∷ [])
flags_with standing order place lt h i p = at (cases_eq p place) i
  where
    true_last : (b : Bool) → true ≡ (b || true)
    true_last true = refl
    true_last false = refl

    false_last : (b : Bool) → b ≡ (b || false)
    false_last true = refl
    false_last false = refl

    at : ((p ≡ place) ⊎ (p ≢ place)) → flag (set standing place true) p ≡ stands (order ++ place ∷ []) p
    at (inl own) = ap (λ (q : ℕ). flag (set standing place true) q) own ∙ get_or-set_same standing place true false lt
        ∙ true_last (stands order p) ∙ ap (λ (b : Bool). stands order p || b) (sym (eq-eqb p place own)) ∙ sym (stands_more order place p)
    at (inr off) = get_or-set_other standing place p true false off ∙ (λ j. h j p)
        ∙ false_last (stands order p) ∙ ap (λ (b : Bool). stands order p || b) (sym (ne_eqb p place off)) ∙ sym (stands_more order place p)

zero_parts : (a x y : ℕ) (g : Bool) → a ≡ x + y → g ≡ not (y == 0) → (a == 0) ≡ ((x == 0) && not g)
zero_parts a x y g e h = by (x == 0) (y == 0) refl refl
  where
    by : (b c : Bool) → (x == 0) ≡ b → (y == 0) ≡ c → (a == 0) ≡ ((x == 0) && not g)
    by true true p q = eq-eqb a 0 (omega (arith, e, eqb-true x 0 p, eqb-true y 0 q)) ∙ sym (λ i. p i && not ((h ∙ ap not q) i))
    by true false p q = ne_eqb a 0 (λ z. eqb-false y 0 q (omega (arith, e, z))) ∙ sym (λ i. p i && not ((h ∙ ap not q) i))
    by false c p q = ne_eqb a 0 (λ z. eqb-false x 0 p (omega (arith, e, z))) ∙ sym (ap (λ (b : Bool). b && not g) p)

still : (s r l g : Bool) → (s ≡ true → (l && not g) ≡ true) → (r ≡ true → (l && not g) ≡ true) → (cond r false (not s && (l && not g)) || (g && l)) ≡ (not (s || r) && l)
still true true true true hs hr = cc (hr refl)
still false true true true hs hr = cc (hr refl)
still true true true false hs hr = refl
still false true true false hs hr = refl
still true true false g hs hr = cc (hr refl)
still false true false g hs hr = cc (hr refl)
still true false true true hs hr = cc (hs refl)
still true false true false hs hr = refl
still true false false g hs hr = cc (hs refl)
still false false true true hs hr = refl
still false false true false hs hr = refl
still false false false true hs hr = refl
still false false false false hs hr = refl

-- who is ready after a choice
stays : (e s r l g k v : Bool) → (e ≡ true → v ≡ l) → (s ≡ true → (l && not g) ≡ true) → (r ≡ true → (l && not g) ≡ true) → (e ≡ true → k ≡ r)
    → (cond k false (e && (not s && (l && not g))) || (g && (e && v))) ≡ (e && (not (s || r) && l))
stays true s r l g k v hv hs hr hk = (λ i. cond (hk refl i) false (not s && (l && not g)) || (g && hv refl i)) ∙ still s r l g hs hr
stays false s r l true true v hv hs hr hk = refl
stays false s r l true false v hv hs hr hk = refl
stays false s r l false true v hv hs hr hk = refl
stays false s r l false false v hv hs hr hk = refl

module _ (edges : List Edge) (count : ℕ) (priorities : List (Option ℕ)) (sized : length priorities ≡ count) where
  none_past : (n p : ℕ) → count ≤ p → is_priority priorities n p ≡ false
  none_past n p high = ap (λ (o : Option ℕ). is_some_of o n) (get_or_past priorities p None (omega (arith, high, sized)))

  pub priority_below : (n p : ℕ) → is_priority priorities n p ≡ true → p < count
  priority_below n p h = elim (cases_lt p count) [
    | inl lt ↦ lt
    | inr high ↦ absurd (true≢false (sym h ∙ none_past n p high))
  ]

  pub at_same : (o o' : List ℕ) (s s' : List Bool) (w w' : List ℕ) (r r' : BTreeSet (Reverse ℕ × ℕ)) → o ≡ o' → s ≡ s' → w ≡ w' → r ≡ r'
      → IsAt edges count priorities o s w r → IsAt edges count priorities o' s' w' r'
  at_same o o' s s' w w' r r' eo es ew er h =
      subst (λ (x : BTreeSet (Reverse ℕ × ℕ)). IsAt edges count priorities o' s' w' x) er
      (subst (λ (x : List ℕ). IsAt edges count priorities o' s' x r) ew
      (subst (λ (x : List Bool). IsAt edges count priorities o' x w r) es
      (subst (λ (x : List ℕ). IsAt edges count priorities x s w r) eo h)))

  -- at the start
  pub started : (things : List Thing) (standing : List Bool) (waiting : List ℕ) (ready : BTreeSet (Reverse ℕ × ℕ)) → standing ≡ replicate count false → length waiting ≡ count
      → ((p : ℕ) → p < count → get_or waiting p 0 ≡ edge_count edges p)
      → ((n p : ℕ) → has_rank ready n p ≡ (is_thing_of things n p && (get_or waiting p 0 == 0)))
      → ((n p : ℕ) → is_priority priorities n p ≡ is_thing_of things n p) → IsAt edges count priorities [] standing waiting ready
  started things standing waiting ready blank len counts ranks tells = record {
    flags = λ i p. none p i;
    size = ap length blank ∙ length-replicate count false;
    len = len;
    counts = λ p lt. counts p lt ∙ all_left edges p;
    settled = λ p s. cc s;
    ranks = λ n p. ranks n p ∙ ap (λ (b : Bool). b && (get_or waiting p 0 == 0)) (sym (tells n p)) ∙ at n p (cases_lt p count);
  }
    where
      none : (p : ℕ) → flag standing p ≡ false
      none p = ap (λ (l : List Bool). get_or l p false) blank ∙ elim (cases_lt p count) [
        | inl low ↦ get_or-replicate count p false false low
        | inr high ↦ get_or_past (replicate count false) p false (omega (arith, high, length-replicate count false))
      ]

      at : (n p : ℕ) → ((p < count) ⊎ (count ≤ p)) → (is_priority priorities n p && (get_or waiting p 0 == 0)) ≡ (is_priority priorities n p && (true && (left_count edges [] p == 0)))
      at n p (inl lt) = ap (λ (k : ℕ). is_priority priorities n p && (k == 0)) (counts p lt ∙ all_left edges p)
      at n p (inr high) = ap (λ (b : Bool). b && (get_or waiting p 0 == 0)) (none_past n p high) ∙ sym (ap (λ (b : Bool). b && (true && (left_count edges [] p == 0))) (none_past n p high))

  module _ (order : List ℕ) (standing : List Bool) (waiting : List ℕ) (ready : BTreeSet (Reverse ℕ × ℕ)) (at : IsAt edges count priorities order standing waiting ready)
      (m q : ℕ) (own : has_rank ready m q ≡ true) where
    parts : (is_priority priorities m q ≡ true) × ((not (stands order q) && (left_count edges order q == 0)) ≡ true)
    parts = and_parts (is_priority priorities m q) (not (stands order q) && (left_count edges order q == 0)) (sym (at.ranks m q) ∙ own)

    free : (not (stands order q) ≡ true) × ((left_count edges order q == 0) ≡ true)
    free = and_parts (not (stands order q)) (left_count edges order q == 0) parts.1

    pub place_below : q < count
    place_below = priority_below m q parts.0

    none_left : left_count edges order q ≡ 0
    none_left = eqb-true (left_count edges order q) 0 free.1

    abbrev after : List ℕ
    after = order ++ q ∷ []

    fewer : (p : ℕ) → left_count edges order p ≡ left_count edges after p + times (behind edges q) p
    fewer p = fewer_left edges (stands order) (stands after) q (not-true (stands order q) free.0) (λ p. stands_more order q p) p

    left_parts : (p : ℕ) → (left_count edges order p == 0) ≡ ((left_count edges after p == 0) && not (is_among (behind edges q) p))
    left_parts p = zero_parts (left_count edges order p) (left_count edges after p) (times (behind edges q) p) (is_among (behind edges q) p) (fewer p) (any_counted (λ x. p == x) (behind edges q))

    -- after a choice
    pub moved : (mid ready' : BTreeSet (Reverse ℕ × ℕ)) (waiting' : List ℕ) → ((n p : ℕ) → has_rank mid n p ≡ cond ((p == q) && (n == m)) false (has_rank ready n p))
        → length waiting' ≡ length waiting → ((p : ℕ) → get_or waiting' p 0 ≡ get_or waiting p 0 - times (behind edges q) p)
        → ((n p : ℕ) → has_rank ready' n p ≡ (has_rank mid n p || (is_among (behind edges q) p && (is_priority priorities n p && (get_or waiting' p 0 == 0)))))
        → IsAt edges count priorities after (set standing q true) waiting' ready'
    moved mid ready' waiting' taken len counts ranks = record {
      flags = flags_with standing order q (omega (arith, place_below, at.size)) at.flags;
      size = length-set standing q true ∙ at.size;
      len = len ∙ at.len;
      counts = left;
      settled = λ p s. elim (or_cases (stands order p) (nat_eq p q) (sym (stands_more order q p) ∙ s)) [
        | inl old ↦ omega (arith, at.settled p old, fewer p)
        | inr same ↦ omega (arith, ap (λ (x : ℕ). left_count edges order x) (eqb-true p q same) ∙ none_left, fewer p)
      ];
      ranks = λ n p.
          ranks n p
          ∙ ap (λ (b : Bool). b || (is_among (behind edges q) p && (is_priority priorities n p && (get_or waiting' p 0 == 0))))
          (taken n p ∙ ap (λ (b : Bool). cond ((p == q) && (n == m)) false b)
          (at.ranks n p ∙ ap (λ (b : Bool). is_priority priorities n p && (not (stands order p) && b)) (left_parts p)))
          ∙ stays (is_priority priorities n p) (stands order p) (p == q) (left_count edges after p == 0) (is_among (behind edges q) p) ((p == q) && (n == m)) (get_or waiting' p 0 == 0)
          (λ t. ap (λ (k : ℕ). k == 0) (left p (priority_below n p t)))
          (λ t. sym (left_parts p) ∙ eq-eqb (left_count edges order p) 0 (at.settled p t))
          (λ t. sym (left_parts p) ∙ eq-eqb (left_count edges order p) 0 (ap (λ (x : ℕ). left_count edges order x) (eqb-true p q t) ∙ none_left))
          (λ t. same n p t (p == q) refl)
          ∙ ap (λ (b : Bool). is_priority priorities n p && (not b && (left_count edges after p == 0))) (sym (stands_more order q p));
    }
      where
        left : (p : ℕ) → p < count → get_or waiting' p 0 ≡ left_count edges after p
        left p lt = omega (arith, counts p, at.counts p lt, fewer p)

        same : (n p : ℕ) → is_priority priorities n p ≡ true → (b : Bool) → (p == q) ≡ b → (b && (n == m)) ≡ b
        same n p t true u = eq-eqb n m (one_priority (get_or priorities q None) n m (subst (λ (x : ℕ). is_priority priorities n x ≡ true) (eqb-true p q u) t) parts.0)
        same n p t false u = refl
