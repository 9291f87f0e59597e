-- The table of priorities tells the things.
use Rattle.std.proofs.Common.{◌≡◌, ◌≢◌, ℕ, suc, add-one, ◌<◌, ◌==◌, Bool, true, false, ◌&&◌, ◌||◌, ◌⊎◌, inl, inr, fold, Option, None, Some, List, [], ◌∷◌, length, get_or, replicate, refl, sym, ap, ◌∙◌, arith}
use Rattle.std.proofs.lemmas.Bool.{cases_eq, cases_lt, eq-eqb, ne_eqb}
use Rattle.std.proofs.lemmas.List.{length-set, length-replicate, get_or-replicate, get_or_past, get_or-set_same, get_or-set_other}
use Rattle.std.specs.List.{All, AllByRecursion}
use Rattle.rg_deps.specs.declared.graph.Thing.{Thing}
use Rattle.rg_deps.specs.Places.{IsAscending, is_thing_of, is_some_of, is_priority, with_priority}

joined : (a b c : Bool) → ((a || b) || c) ≡ (a || (b || c))
joined true b c = refl
joined false b c = refl

or_none : (b : Bool) → b ≡ (b || false)
or_none true = refl
or_none false = refl

pub by_recursion : {A : Type 0} (P : A → Type 0) (xs : List A) → All P xs → AllByRecursion P xs
by_recursion P [] h = tt
by_recursion P (x ∷ xs) h = (h 0 x (omega arith), by_recursion P xs (λ k d lt. h (suc k) d (omega (arith, lt, add-one k))))

filled : (things : List Thing) (table : List (Option ℕ)) → IsAscending things → AllByRecursion (λ t. t.place < length table) things → AllByRecursion (λ t. get_or table t.place None ≡ None) things
    → (n p : ℕ) → is_priority (fold with_priority table things) n p ≡ (is_priority table n p || is_thing_of things n p)
filled [] table asc low blank n p = or_none (is_priority table n p)
filled (t ∷ ts) table asc low blank n p =
    filled ts (with_priority table t) asc.1 (lows ts low.1) (blanks ts asc.0 blank.1) n p
    ∙ ap (λ (b : Bool). b || is_thing_of ts n p) (one (cases_eq p t.place))
    ∙ joined (is_priority table n p) ((p == t.place) && (n == t.priority)) (is_thing_of ts n p)
  where
    lows : (xs : List Thing) → AllByRecursion (λ u. u.place < length table) xs → AllByRecursion (λ u. u.place < length (with_priority table t)) xs
    lows [] h = tt
    lows (u ∷ us) h = (omega (arith, h.0, length-set table t.place (Some t.priority)), lows us h.1)

    blanks : (xs : List Thing) → AllByRecursion (λ u. t.place < u.place) xs → AllByRecursion (λ u. get_or table u.place None ≡ None) xs
        → AllByRecursion (λ u. get_or (with_priority table t) u.place None ≡ None) xs
    blanks [] above h = tt
    blanks (u ∷ us) above h =
        (get_or-set_other table t.place u.place (Some t.priority) None (λ s. omega (arith, above.0, s)) ∙ h.0, blanks us above.1 h.1)

    whole : (b : Bool) → b ≡ (true && b)
    whole true = refl
    whole false = refl

    one : ((p ≡ t.place) ⊎ (p ≢ t.place)) → is_priority (with_priority table t) n p ≡ (is_priority table n p || ((p == t.place) && (n == t.priority)))
    one (inl own) =
        ap (λ (q : ℕ). is_priority (with_priority table t) n q) own ∙ ap (λ (o : Option ℕ). is_some_of o n) (get_or-set_same table t.place (Some t.priority) None low.0)
        ∙ whole (n == t.priority) ∙ ap (λ (b : Bool). b && (n == t.priority)) (sym (eq-eqb p t.place own))
        ∙ ap (λ (o : Option ℕ). is_some_of o n || ((p == t.place) && (n == t.priority))) (sym (ap (λ (q : ℕ). get_or table q None) own ∙ blank.0))
    one (inr off) =
        ap (λ (o : Option ℕ). is_some_of o n) (get_or-set_other table t.place p (Some t.priority) None off) ∙ or_none (is_priority table n p)
        ∙ ap (λ (b : Bool). is_priority table n p || (b && (n == t.priority))) (sym (ne_eqb p t.place off))

pub table_tells : (things : List Thing) (count : ℕ) → IsAscending things → All (λ t. t.place < count) things
    → (n p : ℕ) → is_priority (fold with_priority (replicate count None) things) n p ≡ is_thing_of things n p
table_tells things count asc below n p =
    filled things (replicate count None) asc (lows things low) (blanks things low) n p ∙ ap (λ (o : Option ℕ). is_some_of o n || is_thing_of things n p) (blank p)
  where
    low : AllByRecursion (λ t. t.place < count) things
    low = by_recursion (λ t. t.place < count) things below

    blank : (q : ℕ) → get_or (replicate {A = Option ℕ} count None) q None ≡ None
    blank q = elim (cases_lt q count) [
      | inl lt ↦ get_or-replicate count q None None lt
      | inr high ↦ get_or_past (replicate count None) q None (omega (arith, high, length-replicate {A = Option ℕ} count None))
    ]

    lows : (xs : List Thing) → AllByRecursion (λ u. u.place < count) xs → AllByRecursion (λ u. u.place < length (replicate {A = Option ℕ} count None)) xs
    lows [] h = tt
    lows (u ∷ us) h = (omega (arith, h.0, length-replicate {A = Option ℕ} count None), lows us h.1)

    blanks : (xs : List Thing) → AllByRecursion (λ u. u.place < count) xs → AllByRecursion (λ u. get_or (replicate {A = Option ℕ} count None) u.place None ≡ None) xs
    blanks [] h = tt
    blanks (u ∷ us) h = (blank u.place, blanks us h.1)
