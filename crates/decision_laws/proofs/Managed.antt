-- A decision leaves no goal node to a group that is not managed.
use Rattle.std.proofs.Common.{◌≡◌, ℕ, Bool, true, false, cond, ◌||◌, List, [], ◌∷◌, Option, None, Some, fold, refl, sym, ap, subst, ◌∙◌}
use Rattle.std.specs.Cmp.Lexicographic.{same_text}
use Rattle.std.specs.List.{list_any}
use Rattle.std.specs.Str.{bytes_eq}
use Rattle.cl_base.proofs.SetLemmas.{none_of_zero}
use Rattle.cl_base.specs.Sets.{has}
use Rattle.load_limits.specs.declared.limits.Limit.{Limit}
use Rattle.rg_props.specs.declared.group.Group.{Group}
use Rattle.rg_props.specs.Lookups.{named}
use Rattle.rg_props.specs.Table.{GroupTable}
use Rattle.rg_view.specs.declared.view.GroupView.{GroupView}
use Rattle.rg_view.specs.Goals.{goal_of, goals_with}
use Rattle.placement.specs.Decisions.{decided, with_fixed, with_goal, with_other}
use Rattle.placement.specs.Goals.{goal_by_rule, goal_in}
use Rattle.placement.specs.Loads.{is_fixed}
use Rattle.ccr_tables.specs.State.{ConfigState}
use Rattle.sequencer_laws.specs.Laws.{GoalsAreManaged}
use Rattle.rgm_president.specs.Decisions.{goals_set, with_goals_of}
use Rattle.rgm_president.specs.Goals.{with_decided, with_ended, with_goals, with_listed}
use Rattle.rgm_president.specs.Sequence.{groups_in_order}
use Rattle.rgm_president.specs.State.{PresidentState}
use Rattle.president_laws.proofs.Goals.{goal_other, goal_same}

abbrev among : List (List ℕ) → List ℕ → Bool
among names name = list_any (λ x. bytes_eq x name) names

-- whether a group is there and managed
abbrev pub is_managed : Option Group → Bool
is_managed None = false
is_managed (Some g) = g.managed

module _ (t : GroupTable) (limits : List Limit) where
  -- a node of this goal is of a managed group
  abbrev Fits : ℕ → List ℕ → Type 0
  Fits goal name = (n : ℕ) → has goal n ≡ true → is_managed (named t.groups name) ≡ true

  nothing_fits : (name : List ℕ) (goal : ℕ) → goal ≡ 0 → Fits goal name
  nothing_fits name goal none n h = let no : has goal n ≡ false = ap (λ (s : ℕ). has s n) none ∙ none_of_zero n in absurd (let bad : true ≡ false = sym h ∙ no in cc)

  rule_fits : (v : GroupView) (name : List ℕ) (previous : ℕ) → Fits (goal_by_rule t limits v name previous) name
  unfolding goal_by_rule
  rule_fits v name previous n h = by (named t.groups name) h
    where
      nowhere : (goal : ℕ) → goal ≡ 0 → has goal n ≡ true → ⊥
      nowhere goal none h = let bad : true ≡ false = sym h ∙ ap (λ (s : ℕ). has s n) none ∙ none_of_zero n in cc

      within : (g : Group) → has (goal_in t limits v name previous (Some g)) n ≡ true → (b : Bool) → g.managed ≡ b → b ≡ true
      within g h true is = refl
      within g h false is = absurd (nowhere (goal_in t limits v name previous (Some g)) (rw is refl) h)

      by : (o : Option Group) → has (goal_in t limits v name previous o) n ≡ true → is_managed o ≡ true
      by None h = absurd (nowhere 0 refl h)
      by (Some g) h = within g h g.managed refl

  -- what is set fits, and a goal that fits is kept
  set_fits : (v : GroupView) (goals : List (List ℕ × ℕ)) (x name : List ℕ) → (bytes_eq x name ≡ false → Fits (goal_of goals name) name)
      → Fits (goal_of (with_goal t limits v goals x) name) name
  set_fits v goals x name before = by (bytes_eq x name) refl
    where
      set : ℕ
      set = goal_by_rule t limits (record v { goals = goals }) x (goal_of goals x)

      by : (b : Bool) → bytes_eq x name ≡ b → Fits (goal_of (goals_with goals x set) name) name
      by true is =
          subst (λ (y : List ℕ). Fits (goal_of (goals_with goals x set) y) y) (same_text x name (sym is))
          (subst (λ (s : ℕ). Fits s x) (sym (goal_same goals x set)) (rule_fits (record v { goals = goals }) x (goal_of goals x)))
      by false is = subst (λ (s : ℕ). Fits s name) (sym (goal_other goals x set name is)) (before is)

  module _ (v : GroupView) (name : List ℕ) where
    fixed_keep : (names : List (List ℕ)) (goals : List (List ℕ × ℕ)) → Fits (goal_of goals name) name → Fits (goal_of (fold (with_fixed t limits v) goals names) name) name
    fixed_keep [] goals fits = fits
    fixed_keep (x ∷ xs) goals fits = fixed_keep xs (with_fixed t limits v goals x) (by (is_fixed t v x))
      where
        by : (b : Bool) → Fits (goal_of (cond b (with_goal t limits v goals x) goals) name) name
        by true = set_fits v goals x name (λ _. fits)
        by false = fits

    other_keep : (names : List (List ℕ)) (goals : List (List ℕ × ℕ)) → Fits (goal_of goals name) name → Fits (goal_of (fold (with_other t limits v) goals names) name) name
    other_keep [] goals fits = fits
    other_keep (x ∷ xs) goals fits = other_keep xs (with_other t limits v goals x) (by (is_fixed t v x))
      where
        by : (b : Bool) → Fits (goal_of (cond b goals (with_goal t limits v goals x)) name) name
        by true = fits
        by false = set_fits v goals x name (λ _. fits)

    -- of the names, those that are fixed fit after the first turn, and the others after the second
    fixed_fit : (names : List (List ℕ)) (goals : List (List ℕ × ℕ)) → is_fixed t v name ≡ true → among names name ≡ true
        → Fits (goal_of (fold (with_fixed t limits v) goals names) name) name
    fixed_fit [] goals fixed h = cc h
    fixed_fit (x ∷ xs) goals fixed h = by (bytes_eq x name) refl h (λ among_rest. fixed_fit xs (with_fixed t limits v goals x) fixed among_rest)
      where
        own : bytes_eq x name ≡ true → (b : Bool) → is_fixed t v x ≡ b → Fits (goal_of (cond b (with_goal t limits v goals x) goals) name) name
        own is true e = set_fits v goals x name (λ other. let bad : true ≡ false = sym is ∙ other in absurd (cc))
        own is false e =
            let too : is_fixed t v x ≡ true = subst (λ (y : List ℕ). is_fixed t v y ≡ true) (sym (same_text x name (sym is))) fixed in
            absurd (let bad : true ≡ false = sym too ∙ e in cc)

        by : (b : Bool) → bytes_eq x name ≡ b → (b || list_any (λ y. bytes_eq y name) xs) ≡ true → (among xs name ≡ true → Fits (goal_of (fold (with_fixed t limits v) (with_fixed t limits v goals x) xs) name) name)
            → Fits (goal_of (fold (with_fixed t limits v) (with_fixed t limits v goals x) xs) name) name
        by true is h rest = fixed_keep xs (with_fixed t limits v goals x) (own is (is_fixed t v x) refl)
        by false is h rest = rest h

    other_fit : (names : List (List ℕ)) (goals : List (List ℕ × ℕ)) → is_fixed t v name ≡ false → among names name ≡ true
        → Fits (goal_of (fold (with_other t limits v) goals names) name) name
    other_fit [] goals free h = cc h
    other_fit (x ∷ xs) goals free h = by (bytes_eq x name) refl h (λ among_rest. other_fit xs (with_other t limits v goals x) free among_rest)
      where
        own : bytes_eq x name ≡ true → (b : Bool) → is_fixed t v x ≡ b → Fits (goal_of (cond b goals (with_goal t limits v goals x)) name) name
        own is false e = set_fits v goals x name (λ other. let bad : true ≡ false = sym is ∙ other in absurd (cc))
        own is true e =
            let too : is_fixed t v x ≡ false = subst (λ (y : List ℕ). is_fixed t v y ≡ false) (sym (same_text x name (sym is))) free in
            absurd (let bad : true ≡ false = sym e ∙ too in cc)

        by : (b : Bool) → bytes_eq x name ≡ b → (b || list_any (λ y. bytes_eq y name) xs) ≡ true → (among xs name ≡ true → Fits (goal_of (fold (with_other t limits v) (with_other t limits v goals x) xs) name) name)
            → Fits (goal_of (fold (with_other t limits v) (with_other t limits v goals x) xs) name) name
        by true is h rest = other_keep xs (with_other t limits v goals x) (own is (is_fixed t v x) refl)
        by false is h rest = rest h

    decided_fits : (order : List (List ℕ)) → (among order name ≡ false → goal_of v.goals name ≡ 0) → Fits (goal_of (decided t limits v order) name) name
    unfolding decided
    decided_fits order none = by (among order name) refl (is_fixed t v name) refl
      where
        by : (b : Bool) → among order name ≡ b → (fixed : Bool) → is_fixed t v name ≡ fixed
            → Fits (goal_of (fold (with_other t limits v) (fold (with_fixed t limits v) v.goals order) order) name) name
        by false is fixed e = other_keep order _ (fixed_keep order v.goals (nothing_fits name (goal_of v.goals name) (none is)))
        by true is true e = other_keep order _ (fixed_fit order v.goals e is)
        by true is false e = other_fit order _ e is

-- of a name that is not among the groups nothing is listed
unlisted : (previous goals : List (List ℕ × ℕ)) (name : List ℕ) (names : List (List ℕ)) → among names name ≡ false
    → goal_of (fold (λ gs group. goals_with gs group (goal_of previous group)) goals names) name ≡ goal_of goals name
unlisted previous goals name [] h = refl
unlisted previous goals name (x ∷ xs) h = by (bytes_eq x name) refl h (λ out. unlisted previous (goals_with goals x (goal_of previous x)) name xs out)
  where
    further : List (List ℕ × ℕ)
    further = goals_with goals x (goal_of previous x)

    by : (b : Bool) → bytes_eq x name ≡ b → (b || list_any (λ y. bytes_eq y name) xs) ≡ false
        → (among xs name ≡ false → goal_of (fold (λ gs group. goals_with gs group (goal_of previous group)) further xs) name ≡ goal_of further name)
        → goal_of (fold (λ gs group. goals_with gs group (goal_of previous group)) further xs) name ≡ goal_of goals name
    by true is h rest = cc h
    by false is h rest = rest h ∙ goal_other goals x (goal_of previous x) name is

-- each goal node is of a group that is there and managed
pub goals_fit : (c : ConfigState) (now : ℕ) (p : PresidentState) (name : List ℕ) (n : ℕ) → has (goal_of (with_goals_of c now p).view.goals name) n ≡ true
    → is_managed (named c.groups.groups name) ≡ true
unfolding goals_set with_goals with_ended with_decided with_listed
goals_fit c now p name n =
    decided_fits c.groups c.limits (with_listed (groups_in_order c.groups) now p.view) name (groups_in_order c.groups)
    (λ out. unlisted p.view.goals [] name (groups_in_order c.groups) out) n

pub goals_are_managed : (c : ConfigState) (now : ℕ) (p : PresidentState) → GoalsAreManaged c.groups (with_goals_of c now p).view
goals_are_managed c now p name g n there h = ap is_managed (sym there) ∙ goals_fit c now p name n h
