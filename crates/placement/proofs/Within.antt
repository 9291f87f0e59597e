-- Group by group, no hard limit is passed but by fixed groups.
use Rattle.std.proofs.Common.{◌≡◌, ◌⊎◌, inl, inr, ℕ, zero, suc, ◌+◌, ◌-◌, ◌^◌, ◌≤◌, ◌<◌, ◌==◌, nat_lt, min, Bool, true, false, cond, not, ◌&&◌, ◌||◌, Option, None, Some, List, [], ◌∷◌, ◌++◌, length, take, drop, get_or, fold, map, refl, sym, ap, subst, ◌∙◌, append_assoc, add-one, arith}
use Rattle.std.proofs.Math.Seq.{take-append_seam}
use Rattle.std.specs.List.{All, AllByRecursion, Contains, IsDistinct, after_first, before_first, find, flat_map, position_or_len, prefix_len, sum_by}
use Rattle.std.specs.Map.{keys_of}
use Rattle.std.specs.Option.{option_map}
use Rattle.std.specs.Str.{bytes_eq}
use Rattle.std.proofs.lemmas.Bool.Decides.{leb_tells, nat_tests}
use Rattle.std.proofs.lemmas.Bool.{ltb-true}
use Rattle.std.proofs.lemmas.Grind.{flat_map-append}
use Rattle.std.proofs.lemmas.List.{append-nil}
use Rattle.std.proofs.lemmas.List.Elements.{All-push, All-nil}
use Rattle.std.proofs.lemmas.List.Sums.{sum_by-append}
use Rattle.cl_base.specs.Sets.{has}
use Rattle.cl_base.proofs.SetLemmas.{none_of_zero}
use Rattle.cl_base.proofs.NameLemmas.{text_flips, texts_pass}
use Rattle.load_limits.specs.declared.limits.Factor.{Factor}
use Rattle.load_limits.specs.declared.limits.Limit.{Limit}
use Rattle.load_limits.specs.Loads.{brings_over, first_over_of, is_over, load, load_with, share}
use Rattle.rg_props.specs.declared.group.Group.{Group}
use Rattle.rg_props.specs.Lookups.{named}
use Rattle.rg_props.specs.Table.{GroupTable}
use Rattle.rg_view.specs.declared.view.GroupView.{GroupView}
use Rattle.rg_view.specs.Goals.{GoalsAreApart, goal_of, goals_with}
use Rattle.rg_view.specs.Tables.{replaced}
use Rattle.placement.specs.declared.score.Score.{Score}
use Rattle.placement.specs.Best.{IsBest, IsCandidate, scores_of}
use Rattle.placement.specs.Decisions.{AreFixed, PlacedWithinLimits, decided, with_fixed, with_goal, with_other}
use Rattle.placement.specs.Goals.{goal_by_rule, goal_in}
use Rattle.placement.specs.Loads.{brought, brought_fixed, counted, factors_of, is_entry_of, is_fixed, is_suspended, passed_limit}
use Rattle.placement.specs.Resources.{is_stop_failed}
use Rattle.placement.proofs.Best.{placed_is_best}
use Rattle.placement.proofs.Reasons.{goal_is_placed, is_member, node_of, passes_no_limit}

-- Lists of goals with no group twice.

Absent : List ℕ → List (List ℕ × ℕ) → Type 0
Absent name [] = Unit {0}
Absent name (x ∷ xs) = (bytes_eq x.0 name ≡ false) × Absent name xs

other_there : (name : List ℕ) (done : List (List ℕ × ℕ)) (e : List ℕ × ℕ) (rest : List (List ℕ × ℕ)) → AllByRecursion (λ y. bytes_eq name y ≡ false) (keys_of (done ++ e ∷ rest))
    → bytes_eq name e.0 ≡ false
other_there name [] e rest h = h.0
other_there name (x ∷ done) e rest h = other_there name done e rest h.1

absent : (done : List (List ℕ × ℕ)) (e : List ℕ × ℕ) (rest : List (List ℕ × ℕ)) → IsDistinct bytes_eq (keys_of (done ++ e ∷ rest)) → Absent e.0 done
unfolding IsDistinct Absent
absent [] e rest h = tt
absent (x ∷ done) e rest h = (other_there x.0 done e rest h.0, absent done e rest h.1)

module _ (name : List ℕ) where
  placed_behind : (done : List (List ℕ × ℕ)) (e : List ℕ × ℕ) (rest : List (List ℕ × ℕ)) → Absent name done → bytes_eq e.0 name ≡ true
      → position_or_len (is_entry_of name) (done ++ e ∷ rest) ≡ length done
  unfolding Absent
  placed_behind [] e rest h is = rw is refl
  placed_behind (x ∷ done) e rest h is =
      let more : 1 + length done ≡ suc (length done) = omega (arith, add-one (length done)) in
      rw h.0 (ap (λ (k : ℕ). 1 + k) (placed_behind done e rest h.1 is) ∙ more)

  drop_behind : (done : List (List ℕ × ℕ)) (e : List ℕ × ℕ) (rest : List (List ℕ × ℕ)) → drop (length done + 1) (done ++ e ∷ rest) ≡ rest
  drop_behind [] e rest = refl
  drop_behind (x ∷ done) e rest =
      let more : suc (length done) + 1 ≡ suc (length done + 1) = omega arith in
      ap (λ (k : ℕ). drop k (x ∷ (done ++ e ∷ rest))) more ∙ drop_behind done e rest

  written : (done : List (List ℕ × ℕ)) (e : List ℕ × ℕ) (rest : List (List ℕ × ℕ)) (set : ℕ) → Absent name done → bytes_eq name e.0 ≡ true
      → goals_with (done ++ e ∷ rest) name set ≡ done ++ (name, set) ∷ rest
  unfolding Absent
  written [] e rest set h is = rw is refl
  written (x ∷ done) e rest set h is =
      let other : bytes_eq name x.0 ≡ false = text_flips name x.0 ∙ h.0 in
      rw other (ap (λ (l : List (List ℕ × ℕ)). x ∷ l) (written done e rest set h.1 is))

keys_after : (done : List (List ℕ × ℕ)) (e : List ℕ × ℕ) (rest : List (List ℕ × ℕ)) (set : ℕ) → keys_of (done ++ (e.0, set) ∷ rest) ≡ keys_of (done ++ e ∷ rest)
keys_after [] e rest set = refl
keys_after (x ∷ done) e rest set = ap (λ (l : List (List ℕ)). x.0 ∷ l) (keys_after done e rest set)

-- Limits.

none_found : {X : Type 0} (p : X → Bool) (xs : List X) (k : ℕ) (d : X) → find p xs ≡ None → k < length xs → p (get_or xs k d) ≡ false
none_found p [] k d h lt = absurd (omega arith)
none_found {X} p (x ∷ xs) k d h lt = by (p x) refl k lt h (λ j lt_j rest. none_found p xs j d rest lt_j)
  where
    by : (b : Bool) → b ≡ p x → (k : ℕ) → k < suc (length xs) → cond b (Some x) (find p xs) ≡ None → ((j : ℕ) → j < length xs → find p xs ≡ None → p (get_or xs j d) ≡ false)
        → p (get_or (x ∷ xs) k d) ≡ false
    by true e k lt h rest = absurd (cc)
    by false e zero lt h rest = sym e
    by false e (suc k) lt h rest = rest k (omega arith) h

map_none : {A B : Type 0} (f : A → B) (a : Option A) → option_map f a ≡ None → a ≡ None
map_none f None h = refl
map_none f (Some x) h = absurd (cc)

second_false : (a b : Bool) → a ≡ true → (a && b) ≡ false → b ≡ false
second_false true b e h = h
second_false false b e h = absurd (cc)

itself : (n : ℕ) → (n == n) ≡ true
itself n = grind (arith, nat_tests)

-- either no load, or within the bound
within : (name : List ℕ) (others own : List Factor) (bound : ℕ) → bound < 2 ^ 63 - 1 → brings_over others own name bound ≡ false
    → (sum_by (share name) own ≡ 0) ⊎ (sum_by (share name) own + sum_by (share name) others ≤ bound)
unfolding load
within name others own bound most h = by (nat_lt 0 (load name own)) refl
  where
    by : (b : Bool) → b ≡ nat_lt 0 (load name own) → (sum_by (share name) own ≡ 0) ⊎ (sum_by (share name) own + sum_by (share name) others ≤ bound)
    by false e =
        let none : min (sum_by (share name) own) (2 ^ 63 - 1) ≡ 0 = grind (arith, nat_tests) in
        inl (omega arith)
    by true e =
        let low : nat_lt bound (load_with name others own) ≡ false = second_false (nat_lt 0 (load name own)) (nat_lt bound (load_with name others own)) (sym e) h in
        let le : min (min (sum_by (share name) own) (2 ^ 63 - 1) + min (sum_by (share name) others) (2 ^ 63 - 1)) (2 ^ 63 - 1) ≤ bound = grind (arith, nat_tests) in
        inr (omega arith)

module _ (t : GroupTable) (limits : List Limit) (v : GroupView) (small : v.members < 2 ^ 32) where
  abbrev at : List (List ℕ × ℕ) → GroupView
  at goals = record v { goals = goals }

  -- whether a group is fixed does not hang on goals
  fixed_same : (goals : List (List ℕ × ℕ)) (name : List ℕ) → is_fixed t (at goals) name ≡ is_fixed t v name
  unfolding is_fixed is_stop_failed
  fixed_same goals name = refl

  free : (name : List ℕ) → is_fixed t v name ≡ false → (is_suspended (named t.groups name) ≡ false) × (is_stop_failed t v name ≡ false)
  unfolding is_fixed
  free name h = by (is_suspended (named t.groups name)) (is_stop_failed t v name) h
    where
      by : (a b : Bool) → (a || b) ≡ false → (a ≡ false) × (b ≡ false)
      by false false h = (refl, refl)
      by false true h = absurd (cc)
      by true b h = absurd (cc)

  -- the goal of a group that is not fixed has only nodes where no limit is passed
  passes : (goals : List (List ℕ × ℕ)) (name : List ℕ) (previous n : ℕ) → is_fixed t v name ≡ false → has (goal_by_rule t limits (at goals) name previous) n ≡ true
      → (g : Group) → named t.groups name ≡ Some g → passed_limit t limits (at goals) name g n ≡ None
  unfolding goal_by_rule is_stop_failed
  passes goals name previous n not_fixed there g is =
      by g.managed refl g.wanted refl (sym (ap (λ (o : Option Group). has (goal_in t limits (at goals) name previous o) n) is) ∙ there)
    where
      run : is_stop_failed t (at goals) name ≡ false
      run = (free name not_fixed).1

      on : g.suspended ≡ false
      on = sym (ap is_suspended is) ∙ (free name not_fixed).0

      nowhere : (set : ℕ) → set ≡ goal_in t limits (at goals) name previous (Some g) → set ≡ 0 → has (goal_in t limits (at goals) name previous (Some g)) n ≡ true → passed_limit t limits (at goals) name g n ≡ None
      nowhere set e empty there =
          let none : has (goal_in t limits (at goals) name previous (Some g)) n ≡ false = ap (λ (s : ℕ). has s n) (sym e ∙ empty) ∙ none_of_zero n in
          absurd (cc)

      by : (a : Bool) → a ≡ g.managed → (b : Bool) → b ≡ g.wanted → has (goal_in t limits (at goals) name previous (Some g)) n ≡ true → passed_limit t limits (at goals) name g n ≡ None
      by false managed b wanted there = nowhere (goal_in t limits (at goals) name previous (Some g)) refl (rw (sym managed) refl) there
      by true managed false wanted there = nowhere (goal_in t limits (at goals) name previous (Some g)) refl (rw (sym managed, sym wanted) refl) there
      by true managed true wanted there =
          let best = placed_is_best (scores_of t limits (at goals) name g) g.nodelist (λ m s scored. node_of v.members m small (is_member t limits (at goals) name g m s scored)) g.desired previous in
          let goal : goal_by_rule t limits (at goals) name previous ≡ goal_in t limits (at goals) name previous (Some g) = ap (goal_in t limits (at goals) name previous) is in
          let placed = goal_is_placed t limits (at goals) name g previous is (sym managed) (sym wanted) run on in
          let own = best.own n (ap (λ (s : ℕ). has s n) (sym placed ∙ goal) ∙ there) in
          passes_no_limit t limits (at goals) name g n own.0 own.1.scored

  module _ (l : Limit) (among : Contains limits l) (most : l.hard < 2 ^ 63 - 1) where
    weight : List Factor → ℕ
    weight factors = sum_by (share l.name) factors

    no_load : (factors : List Factor) → weight factors ≡ 0 → 0 < load l.name factors → ⊥
    unfolding weight load
    no_load factors none lt = absurd (omega arith)

    weightless : weight [] ≡ 0
    unfolding weight
    weightless = refl

    weighed : (others own : List Factor) → brings_over others own l.name l.hard ≡ false → (weight own ≡ 0) ⊎ (weight own + weight others ≤ l.hard)
    unfolding weight
    weighed others own h = within l.name others own l.hard most h

    early : List (List ℕ × ℕ) → List Factor
    early goals = flat_map (brought t l.node) goals

    late : List (List ℕ × ℕ) → List Factor
    late goals = flat_map (brought_fixed t v l.node) goals

    -- what counts once these are decided
    sum : List (List ℕ × ℕ) → List (List ℕ × ℕ) → ℕ
    sum done rest = weight (early done) + weight (late rest)

    Within : List (List ℕ × ℕ) → List (List ℕ × ℕ) → Type 0
    Within done rest = (sum done rest ≤ l.hard) ⊎ AreFixed t v l.node l.name done

    early_push : (done : List (List ℕ × ℕ)) (e : List ℕ × ℕ) → weight (early (done ++ e ∷ [])) ≡ weight (early done) + weight (brought t l.node e)
    unfolding weight early
    early_push done e =
        ap (sum_by (share l.name)) (flat_map-append (brought t l.node) done (e ∷ []) ∙ ap (λ (xs : List Factor). early done ++ xs) (append-nil (brought t l.node e)))
        ∙ sum_by-append (share l.name) (early done) (brought t l.node e)

    late_first : (e : List ℕ × ℕ) (rest : List (List ℕ × ℕ)) → weight (late (e ∷ rest)) ≡ weight (brought_fixed t v l.node e) + weight (late rest)
    unfolding weight late
    late_first e rest = sum_by-append (share l.name) (brought_fixed t v l.node e) (late rest)

    fixed_brings : (e : List ℕ × ℕ) → is_fixed t v e.0 ≡ true → brought_fixed t v l.node e ≡ brought t l.node e
    fixed_brings e is = rw is (by (has e.1 l.node))
      where
        by : (b : Bool) → cond (b && true) (factors_of (named t.groups e.0)) [] ≡ cond b (factors_of (named t.groups e.0)) []
        by true = refl
        by false = refl

    other_brings : (e : List ℕ × ℕ) → is_fixed t v e.0 ≡ false → brought_fixed t v l.node e ≡ []
    other_brings e is = rw is (by (has e.1 l.node))
      where
        by : (b : Bool) → cond (b && false) (factors_of (named t.groups e.0)) [] ≡ []
        by true = refl
        by false = refl

    -- the step of a fixed group
    fixed_step : (done : List (List ℕ × ℕ)) (e : List ℕ × ℕ) (rest : List (List ℕ × ℕ)) → is_fixed t v e.0 ≡ true → Within done (e ∷ rest) → Within (done ++ e ∷ []) rest
    unfolding Within sum
    fixed_step done e rest is (inl le) =
        let same : weight (brought_fixed t v l.node e) ≡ weight (brought t l.node e) = ap weight (fixed_brings e is) in
        inl (omega (arith, early_push done e, late_first e rest))
    fixed_step done e rest is (inr all) = inr (All-push (λ x. has x.1 l.node ≡ true → 0 < load l.name (factors_of (named t.groups x.0)) → is_fixed t v x.0 ≡ true) done e all (λ _ _. is))

    -- what counts for a group that stands behind these
    counts : (done : List (List ℕ × ℕ)) (e : List ℕ × ℕ) (rest : List (List ℕ × ℕ)) → Absent e.0 done
        → weight (counted t (at (done ++ e ∷ rest)) e.0 l.node) ≡ weight (early done) + weight (late rest)
    unfolding counted weight early late
    counts done e rest absent_e =
        let itself_e : bytes_eq e.0 e.0 ≡ true = texts_pass e.0 e.0 refl in
        let place : position_or_len (is_entry_of e.0) (done ++ e ∷ rest) ≡ length done = placed_behind e.0 done e rest absent_e itself_e in
        let before : before_first (is_entry_of e.0) (done ++ e ∷ rest) ≡ done = ap (λ (k : ℕ). take k (done ++ e ∷ rest)) place ∙ take-append_seam done (e ∷ rest) in
        let behind : after_first (is_entry_of e.0) (done ++ e ∷ rest) ≡ rest = ap (λ (k : ℕ). drop (k + 1) (done ++ e ∷ rest)) place ∙ drop_behind e.0 done e rest in
        (λ i. sum_by (share l.name) (flat_map (brought t l.node) (before i) ++ flat_map (λ x. cond (has x.1 l.node && fixed_same (done ++ e ∷ rest) x.0 i) (factors_of (named t.groups x.0)) []) (behind i)))
        ∙ sum_by-append (share l.name) (flat_map (brought t l.node) done) (flat_map (brought_fixed t v l.node) rest)

    no_limit : (view : GroupView) (name : List ℕ) (g : Group) → passed_limit t limits view name g l.node ≡ None → brings_over (counted t view name l.node) g.factors l.name l.hard ≡ false
    unfolding passed_limit
    no_limit view name g none =
        let nothing : first_over_of limits l.node (counted t view name l.node) g.factors ≡ None = map_none (λ x. x.name) (first_over_of limits l.node (counted t view name l.node) g.factors) none in
        let over : is_over l.node (counted t view name l.node) g.factors (get_or limits among.0 l) ≡ false =
        none_found (is_over l.node (counted t view name l.node) g.factors) limits among.0 l nothing among.1 in
        let here : is_over l.node (counted t view name l.node) g.factors l ≡ false = sym (ap (is_over l.node (counted t view name l.node) g.factors) among.2) ∙ over in
        second_false (l.node == l.node) (brings_over (counted t view name l.node) g.factors l.name l.hard) (itself l.node) here

    -- the step of a group that is not fixed
    other_step : (done : List (List ℕ × ℕ)) (e : List ℕ × ℕ) (rest : List (List ℕ × ℕ)) (set : ℕ) → Absent e.0 done → is_fixed t v e.0 ≡ false
        → ((g : Group) → has set l.node ≡ true → named t.groups e.0 ≡ Some g → passed_limit t limits (at (done ++ e ∷ rest)) e.0 g l.node ≡ None)
        → Within done (e ∷ rest) → Within (done ++ (e.0, set) ∷ []) rest
    unfolding Within sum
    other_step done e rest set absent_e not_fixed passes_none h = by (has set l.node) refl (named t.groups e.0) refl h
      where
        lighter : weight (late (e ∷ rest)) ≡ weight (late rest)
        lighter = let gone : weight (brought_fixed t v l.node e) ≡ weight [] = ap weight (other_brings e not_fixed) in omega (arith, late_first e rest, weightless)

        nothing : weight (brought t l.node (e.0, set)) ≡ 0 → Within done (e ∷ rest)
            → (has set l.node ≡ true → 0 < load l.name (factors_of (named t.groups e.0)) → is_fixed t v e.0 ≡ true) → Within (done ++ (e.0, set) ∷ []) rest
        nothing empty (inl le) vacuous = inl (omega (arith, early_push done (e.0, set), lighter))
        nothing empty (inr all) vacuous =
            inr (All-push (λ x. has x.1 l.node ≡ true → 0 < load l.name (factors_of (named t.groups x.0)) → is_fixed t v x.0 ≡ true) done (e.0, set) all vacuous)

        either : (g : Group) → weight (factors_of (named t.groups e.0)) ≡ weight g.factors → weight (brought t l.node (e.0, set)) ≡ weight (factors_of (named t.groups e.0))
            → (weight g.factors ≡ 0) ⊎ (weight g.factors + weight (counted t (at (done ++ e ∷ rest)) e.0 l.node) ≤ l.hard) → Within done (e ∷ rest) → Within (done ++ (e.0, set) ∷ []) rest
        either g brings comes (inl none) h = nothing (comes ∙ brings ∙ none) h (λ _ lt. absurd (no_load (factors_of (named t.groups e.0)) (brings ∙ none) lt))
        either g brings comes (inr le) h = inl (omega (arith, le, brings, comes, early_push done (e.0, set), counts done e rest absent_e))

        by : (b : Bool) → b ≡ has set l.node → (o : Option Group) → o ≡ named t.groups e.0 → Within done (e ∷ rest) → Within (done ++ (e.0, set) ∷ []) rest
        by false out o is h = nothing (ap (λ (b : Bool). weight (cond b (factors_of (named t.groups e.0)) [])) (sym out) ∙ weightless) h (λ there lt. absurd (let bad : true ≡ false = sym there ∙ sym out in cc))
        by true there None is h =
            let empty : weight (factors_of (named t.groups e.0)) ≡ 0 = ap (λ (o : Option Group). weight (factors_of o)) (sym is) ∙ weightless in
            nothing (ap (λ (b : Bool). weight (cond b (factors_of (named t.groups e.0)) [])) (sym there) ∙ empty) h
            (λ _ lt. absurd (no_load (factors_of (named t.groups e.0)) empty lt))
        by true there (Some g) is h =
            let brings : weight (factors_of (named t.groups e.0)) ≡ weight g.factors = ap (λ (o : Option Group). weight (factors_of o)) (sym is) in
            let comes : weight (brought t l.node (e.0, set)) ≡ weight (factors_of (named t.groups e.0)) = ap (λ (b : Bool). weight (cond b (factors_of (named t.groups e.0)) [])) (sym there) in
            either g brings comes (weighed (counted t (at (done ++ e ∷ rest)) e.0 l.node) g.factors (no_limit (at (done ++ e ∷ rest)) e.0 g (passes_none g (sym there) (sym is)))) h

    -- the others, one after the other
    others : (done rest : List (List ℕ × ℕ)) → IsDistinct bytes_eq (keys_of (done ++ rest)) → Within done rest → Within (fold (with_other t limits v) (done ++ rest) (keys_of rest)) []
    others done [] apart h = subst (λ (goals : List (List ℕ × ℕ)). Within goals []) (sym (append-nil done)) h
    others done (e ∷ rest) apart h = by (is_fixed t v e.0) refl (λ more apart_more h_more. others more rest apart_more h_more)
      where
        set : ℕ
        set = goal_by_rule t limits (at (done ++ e ∷ rest)) e.0 (goal_of (done ++ e ∷ rest) e.0)

        next : done ++ (e.0, set) ∷ rest ≡ goals_with (done ++ e ∷ rest) e.0 set
        next = sym (written e.0 done e rest set (absent done e rest apart) (texts_pass e.0 e.0 refl))

        by : (b : Bool) → b ≡ is_fixed t v e.0
            → ((more : List (List ℕ × ℕ)) → IsDistinct bytes_eq (keys_of (more ++ rest)) → Within more rest → Within (fold (with_other t limits v) (more ++ rest) (keys_of rest)) [])
            → Within (fold (with_other t limits v) (cond b (done ++ e ∷ rest) (goals_with (done ++ e ∷ rest) e.0 set)) (keys_of rest)) []
        by true is go =
            let joined : (done ++ e ∷ []) ++ rest ≡ done ++ e ∷ rest = append_assoc done (e ∷ []) rest in
            subst (λ (goals : List (List ℕ × ℕ)). Within (fold (with_other t limits v) goals (keys_of rest)) []) joined
            (go (done ++ e ∷ []) (subst (λ (goals : List (List ℕ × ℕ)). IsDistinct bytes_eq (keys_of goals)) (sym joined) apart) (fixed_step done e rest (sym is) h))
        by false is go =
            let joined : (done ++ (e.0, set) ∷ []) ++ rest ≡ done ++ (e.0, set) ∷ rest = append_assoc done ((e.0, set) ∷ []) rest in
            let keys : keys_of (done ++ e ∷ rest) ≡ keys_of ((done ++ (e.0, set) ∷ []) ++ rest) = sym (keys_after done e rest set) ∙ ap keys_of (sym joined) in
            subst (λ (goals : List (List ℕ × ℕ)). Within (fold (with_other t limits v) goals (keys_of rest)) []) (joined ∙ next)
            (go (done ++ (e.0, set) ∷ []) (subst (IsDistinct bytes_eq) keys apart)
            (other_step done e rest set (absent done e rest apart) (sym is)
            (λ g there named_g. passes (done ++ e ∷ rest) e.0 (goal_of (done ++ e ∷ rest) e.0) l.node (sym is) there g named_g) h))

    done_within : (goals : List (List ℕ × ℕ)) → Within goals [] → (load l.name (flat_map (brought t l.node) goals) ≤ l.hard) ⊎ AreFixed t v l.node l.name goals
    unfolding Within sum early weight load
    done_within goals (inl le) = inl (omega arith)
    done_within goals (inr all) = inr all

  -- the fixed groups: the list keeps its groups
  firsts : (done rest : List (List ℕ × ℕ)) → IsDistinct bytes_eq (keys_of (done ++ rest)) → keys_of (fold (with_fixed t limits v) (done ++ rest) (keys_of rest)) ≡ keys_of (done ++ rest)
  firsts done [] apart = refl
  firsts done (e ∷ rest) apart = by (is_fixed t v e.0) (λ more apart_more. firsts more rest apart_more)
    where
      set : ℕ
      set = goal_by_rule t limits (at (done ++ e ∷ rest)) e.0 (goal_of (done ++ e ∷ rest) e.0)

      next : done ++ (e.0, set) ∷ rest ≡ goals_with (done ++ e ∷ rest) e.0 set
      next = sym (written e.0 done e rest set (absent done e rest apart) (texts_pass e.0 e.0 refl))

      by : (b : Bool) → ((more : List (List ℕ × ℕ)) → IsDistinct bytes_eq (keys_of (more ++ rest)) → keys_of (fold (with_fixed t limits v) (more ++ rest) (keys_of rest)) ≡ keys_of (more ++ rest))
          → keys_of (fold (with_fixed t limits v) (cond b (goals_with (done ++ e ∷ rest) e.0 set) (done ++ e ∷ rest)) (keys_of rest)) ≡ keys_of (done ++ e ∷ rest)
      by false go =
          let joined : (done ++ e ∷ []) ++ rest ≡ done ++ e ∷ rest = append_assoc done (e ∷ []) rest in
          subst (λ (goals : List (List ℕ × ℕ)). keys_of (fold (with_fixed t limits v) goals (keys_of rest)) ≡ keys_of goals) joined
          (go (done ++ e ∷ []) (subst (λ (goals : List (List ℕ × ℕ)). IsDistinct bytes_eq (keys_of goals)) (sym joined) apart))
      by true go =
          let joined : (done ++ (e.0, set) ∷ []) ++ rest ≡ done ++ (e.0, set) ∷ rest = append_assoc done ((e.0, set) ∷ []) rest in
          let keys : keys_of (done ++ e ∷ rest) ≡ keys_of ((done ++ (e.0, set) ∷ []) ++ rest) = sym (keys_after done e rest set) ∙ ap keys_of (sym joined) in
          subst (λ (goals : List (List ℕ × ℕ)). keys_of (fold (with_fixed t limits v) goals (keys_of rest)) ≡ keys_of ((done ++ (e.0, set) ∷ []) ++ rest)) (joined ∙ next)
          (go (done ++ (e.0, set) ∷ []) (subst (IsDistinct bytes_eq) keys apart)) ∙ sym keys

within_keys : (t : GroupTable) (limits : List Limit) (v : GroupView) → v.members < 2 ^ 32 → GoalsAreApart v.goals → (l : Limit) → Contains limits l → l.hard < 2 ^ 63 - 1
    → (load l.name (flat_map (brought t l.node) (decided t limits v (keys_of v.goals))) ≤ l.hard) ⊎ AreFixed t v l.node l.name (decided t limits v (keys_of v.goals))
unfolding decided Within
within_keys t limits v small apart l among most =
    let first : List (List ℕ × ℕ) = fold (with_fixed t limits v) v.goals (keys_of v.goals) in
    let keys : keys_of first ≡ keys_of v.goals = firsts t limits v small [] v.goals apart in
    let start : Within t limits v small l among most [] first = inr (All-nil (λ x. has x.1 l.node ≡ true → 0 < load l.name (factors_of (named t.groups x.0)) → is_fixed t v x.0 ≡ true)) in
    let end : Within t limits v small l among most (fold (with_other t limits v) first (keys_of v.goals)) [] =
    subst (λ (order : List (List ℕ)). Within t limits v small l among most (fold (with_other t limits v) first order) []) keys
    (others t limits v small l among most [] first (subst (IsDistinct bytes_eq) (sym keys) apart) start) in
    done_within t limits v small l among most (fold (with_other t limits v) first (keys_of v.goals)) end

-- no load passes a bound that no sum reaches
never_passed : (name : List ℕ) (factors : List Factor) (bound : ℕ) → 2 ^ 63 - 1 ≤ bound → load name factors ≤ bound
unfolding load
never_passed name factors bound le = omega arith

pub within_limits : PlacedWithinLimits
within_limits t limits v order small apart is l among =
    subst (λ (names : List (List ℕ)). (load l.name (flat_map (brought t l.node) (decided t limits v names)) ≤ l.hard) ⊎ AreFixed t v l.node l.name (decided t limits v names)) is
    (by (leb_tells (2 ^ 63 - 1) l.hard))
  where
    by : {b : Bool} → (b ≡ true) × (2 ^ 63 - 1 ≤ l.hard) ⊎ (b ≡ false) × (l.hard < 2 ^ 63 - 1)
        → (load l.name (flat_map (brought t l.node) (decided t limits v (keys_of v.goals))) ≤ l.hard) ⊎ AreFixed t v l.node l.name (decided t limits v (keys_of v.goals))
    by (inl (_, le)) = inl (never_passed l.name (flat_map (brought t l.node) (decided t limits v (keys_of v.goals))) l.hard le)
    by (inr (_, lt)) = within_keys t limits v small apart l among lt
