-- Goals, group by group.
use Rattle.std.proofs.Common.{◌≡◌, ℕ, Bool, true, false, cond, not, ◌&&◌, ◌||◌, List, [], ◌∷◌, ◌++◌, Option, None, Some, fold, refl, sym, ap, subst, ◌∙◌}
use Rattle.std.proofs.lemmas.List.Sums.{fold-append}
use Rattle.std.specs.Cmp.Lexicographic.{same_text}
use Rattle.std.specs.List.{AllByRecursion, IsDistinct, list_any}
use Rattle.std.specs.Map.{keys_of, lookup}
use Rattle.std.specs.Option.{unwrap_or}
use Rattle.std.specs.Str.{bytes_eq}
use Rattle.cl_base.proofs.NameLemmas.{text_flips, texts_pass}
use Rattle.cl_base.specs.Sets.{has}
use Rattle.load_limits.specs.declared.limits.Limit.{Limit}
use Rattle.rg_props.specs.declared.group.Group.{Group}
use Rattle.rg_props.specs.Lookups.{named}
use Rattle.rg_props.specs.Table.{GroupTable}
use Rattle.rg_view.specs.declared.states.ResourceAt.{ResourceAt}
use Rattle.rg_view.specs.declared.view.GroupView.{GroupView}
use Rattle.rg_view.specs.Goals.{goal_of, goals_with}
use Rattle.placement.specs.declared.placing.Candidate.{Candidate}
use Rattle.placement.specs.Best.{IsCandidate, IsPlaced, scores_of}
use Rattle.placement.specs.Decisions.{decided, with_fixed, with_other}
use Rattle.placement.specs.Goals.{goal_by_rule, goal_in}
use Rattle.placement.specs.Loads.{is_fixed, is_suspended}
use Rattle.placement.specs.Resources.{is_stop_failed, is_stop_mark}
use Rattle.placement.proofs.Reasons.{goal_best}
use Rattle.rgm_state.specs.Adopting.{adopted, first_goal, first_goals, with_first_goal}
use Rattle.president_laws.specs.Laws.{GoalsFollowTheRule, GoalsStay, GroupsBegin, Lacks, seen}

-- A goal that is set is the group's, and no other group's changes.

pub goal_same : (goals : List (List ℕ × ℕ)) (name : List ℕ) (set : ℕ) → goal_of (goals_with goals name set) name ≡ set
goal_same [] name set = rw (texts_pass name name refl) refl
goal_same (e ∷ es) name set = by (bytes_eq name e.0) refl (goal_same es name set)
  where
    by : (b : Bool) → bytes_eq name e.0 ≡ b → goal_of (goals_with es name set) name ≡ set → goal_of (goals_with (e ∷ es) name set) name ≡ set
    by true is ih = rw (is, texts_pass name name refl) refl
    by false is ih = rw (is, is) ih

pub goal_other : (goals : List (List ℕ × ℕ)) (name : List ℕ) (set : ℕ) (other : List ℕ) → bytes_eq name other ≡ false → goal_of (goals_with goals name set) other ≡ goal_of goals other
goal_other [] name set other apart = rw (text_flips other name ∙ apart) refl
goal_other (e ∷ es) name set other apart = by (bytes_eq name e.0) refl (goal_other es name set other apart)
  where
    chosen : (b : Bool) (x : Option ℕ) (xs ys : Option ℕ) → unwrap_or xs 0 ≡ unwrap_or ys 0 → unwrap_or (cond b x xs) 0 ≡ unwrap_or (cond b x ys) 0
    chosen true x xs ys h = refl
    chosen false x xs ys h = h

    by : (b : Bool) → bytes_eq name e.0 ≡ b → goal_of (goals_with es name set) other ≡ goal_of es other → goal_of (goals_with (e ∷ es) name set) other ≡ goal_of (e ∷ es) other
    by true is ih =
        let not_e : bytes_eq other e.0 ≡ false = text_flips other e.0 ∙ subst (λ (x : List ℕ). bytes_eq x other ≡ false) (same_text name e.0 (sym is)) apart in
        rw (is, text_flips other name ∙ apart, not_e) refl
    by false is ih = rw is (chosen (bytes_eq other e.0) (Some e.1) (lookup (bytes_eq other) (goals_with es name set)) (lookup (bytes_eq other) es) ih)

module _ (t : GroupTable) (limits : List Limit) (v : GroupView) where
  pub others_keep : (names : List (List ℕ)) (name : List ℕ) (goals : List (List ℕ × ℕ)) → Lacks names name → goal_of (fold (with_other t limits v) goals names) name ≡ goal_of goals name
  others_keep [] name goals apart = refl
  others_keep (x ∷ xs) name goals apart = others_keep xs name (with_other t limits v goals x) apart.1 ∙ by (is_fixed t v x)
    where
      set : ℕ
      set = goal_by_rule t limits (record v { goals = goals }) x (goal_of goals x)

      by : (b : Bool) → goal_of (cond b goals (goals_with goals x set)) name ≡ goal_of goals name
      by true = refl
      by false = goal_other goals x set name apart.0

  fixed_keep : (names : List (List ℕ)) (name : List ℕ) (goals : List (List ℕ × ℕ)) → is_fixed t v name ≡ false → goal_of (fold (with_fixed t limits v) goals names) name ≡ goal_of goals name
  fixed_keep [] name goals free = refl
  fixed_keep (x ∷ xs) name goals free = fixed_keep xs name (with_fixed t limits v goals x) free ∙ by (is_fixed t v x) refl (bytes_eq x name) refl
    where
      set : ℕ
      set = goal_by_rule t limits (record v { goals = goals }) x (goal_of goals x)

      by : (b : Bool) → is_fixed t v x ≡ b → (same : Bool) → bytes_eq x name ≡ same → goal_of (cond b (goals_with goals x set) goals) name ≡ goal_of goals name
      by false is same e = refl
      by true is false e = goal_other goals x set name e
      by true is true e = let not_fixed : is_fixed t v x ≡ false = subst (λ (y : List ℕ). is_fixed t v y ≡ false) (sym (same_text x name (sym e))) free in absurd (cc)

  -- of a fixed group the others' turn changes nothing
  others_pass : (names : List (List ℕ)) (name : List ℕ) (goals : List (List ℕ × ℕ)) → is_fixed t v name ≡ true → goal_of (fold (with_other t limits v) goals names) name ≡ goal_of goals name
  others_pass [] name goals fixed = refl
  others_pass (x ∷ xs) name goals fixed = others_pass xs name (with_other t limits v goals x) fixed ∙ by (is_fixed t v x) refl (bytes_eq x name) refl
    where
      set : ℕ
      set = goal_by_rule t limits (record v { goals = goals }) x (goal_of goals x)

      by : (b : Bool) → is_fixed t v x ≡ b → (same : Bool) → bytes_eq x name ≡ same → goal_of (cond b goals (goals_with goals x set)) name ≡ goal_of goals name
      by true is same e = refl
      by false is false e = goal_other goals x set name e
      by false is true e = let is_fixed_too : is_fixed t v x ≡ true = subst (λ (y : List ℕ). is_fixed t v y ≡ true) (sym (same_text x name (sym e))) fixed in absurd (cc)

  fixed_pass : (names : List (List ℕ)) (name : List ℕ) (goals : List (List ℕ × ℕ)) → Lacks names name → goal_of (fold (with_fixed t limits v) goals names) name ≡ goal_of goals name
  fixed_pass [] name goals apart = refl
  fixed_pass (x ∷ xs) name goals apart = fixed_pass xs name (with_fixed t limits v goals x) apart.1 ∙ by (is_fixed t v x)
    where
      set : ℕ
      set = goal_by_rule t limits (record v { goals = goals }) x (goal_of goals x)

      by : (b : Bool) → goal_of (cond b (goals_with goals x set) goals) name ≡ goal_of goals name
      by true = goal_other goals x set name apart.0
      by false = refl

  -- the goal of a fixed group rests on no other goal
  rests_on_none : (a b : List (List ℕ × ℕ)) (name : List ℕ) (previous : ℕ) → is_fixed t v name ≡ true
      → goal_by_rule t limits (record v { goals = a }) name previous ≡ goal_by_rule t limits (record v { goals = b }) name previous
  unfolding goal_by_rule is_fixed is_stop_failed
  rests_on_none a b name previous fixed = by (named t.groups name) fixed
    where
      failed : Bool
      failed = list_any (is_stop_mark t v name) v.resources

      same : (down failed suspended : Bool) (stays placed other : ℕ) → (suspended || failed) ≡ true
          → cond down 0 (cond failed previous (cond suspended stays placed)) ≡ cond down 0 (cond failed previous (cond suspended stays other))
      same true failed suspended stays placed other h = refl
      same false true suspended stays placed other h = refl
      same false false true stays placed other h = refl
      same false false false stays placed other h = cc h

      by : (o : Option Group) → (is_suspended o || failed) ≡ true
          → goal_in t limits (record v { goals = a }) name previous o ≡ goal_in t limits (record v { goals = b }) name previous o
      by None h = refl
      by (Some g) h = same (not g.managed || not g.wanted) failed g.suspended _ _ _ h

module _ (t : GroupTable) (limits : List Limit) (v : GroupView) (before : List (List ℕ)) (name : List ℕ) (behind : List (List ℕ)) (lacks_before : Lacks before name) (lacks_behind : Lacks behind name) where
  abbrev first : List (List ℕ × ℕ)
  first = fold (with_fixed t limits v) v.goals (before ++ name ∷ behind)

  abbrev so_far : List (List ℕ × ℕ)
  so_far = fold (with_other t limits v) first before

  -- a group that is not fixed has its turn behind those before it
  free_rule : is_fixed t v name ≡ false → goal_of (fold (with_other t limits v) first (before ++ name ∷ behind)) name ≡ goal_by_rule t limits (record v { goals = so_far }) name (goal_of v.goals name)
  free_rule free =
      ap (λ (l : List (List ℕ × ℕ)). goal_of l name) (fold-append (with_other t limits v) first before (name ∷ behind))
      ∙ others_keep t limits v behind name (with_other t limits v so_far name) lacks_behind
      ∙ here (is_fixed t v name) free
      ∙ ap (goal_by_rule t limits (record v { goals = so_far }) name) (others_keep t limits v before name first lacks_before ∙ fixed_keep t limits v (before ++ name ∷ behind) name v.goals free)
    where
      set : ℕ
      set = goal_by_rule t limits (record v { goals = so_far }) name (goal_of so_far name)

      here : (b : Bool) → b ≡ false → goal_of (cond b so_far (goals_with so_far name set)) name ≡ set
      here false is = goal_same so_far name set
      here true is = cc is

  -- a fixed one comes before, and sees no other
  fixed_rule : is_fixed t v name ≡ true → goal_of (fold (with_other t limits v) first (before ++ name ∷ behind)) name ≡ goal_by_rule t limits (record v { goals = so_far }) name (goal_of v.goals name)
  fixed_rule fixed =
      others_pass t limits v (before ++ name ∷ behind) name first fixed
      ∙ ap (λ (l : List (List ℕ × ℕ)). goal_of l name) (fold-append (with_fixed t limits v) v.goals before (name ∷ behind))
      ∙ fixed_pass t limits v behind name (with_fixed t limits v earlier name) lacks_behind
      ∙ here (is_fixed t v name) fixed
      ∙ ap (goal_by_rule t limits (record v { goals = earlier }) name) (fixed_pass t limits v before name v.goals lacks_before)
      ∙ rests_on_none t limits v earlier so_far name (goal_of v.goals name) fixed
    where
      earlier : List (List ℕ × ℕ)
      earlier = fold (with_fixed t limits v) v.goals before

      set : ℕ
      set = goal_by_rule t limits (record v { goals = earlier }) name (goal_of earlier name)

      here : (b : Bool) → b ≡ true → goal_of (cond b (goals_with earlier name set) earlier) name ≡ set
      here true is = goal_same earlier name set
      here false is = cc is

  by_rule : (b : Bool) → is_fixed t v name ≡ b → goal_of (fold (with_other t limits v) first (before ++ name ∷ behind)) name ≡ goal_by_rule t limits (record v { goals = so_far }) name (goal_of v.goals name)
  by_rule true is = fixed_rule is
  by_rule false is = free_rule is

pub goals_follow_the_rule : GoalsFollowTheRule
unfolding decided
goals_follow_the_rule t limits v before name behind lacks_before lacks_behind = by_rule t limits v before name behind lacks_before lacks_behind (is_fixed t v name) refl

-- a group is placed by scores, whatever the goals are
placed_still : (t : GroupTable) (v : GroupView) (goals : List (List ℕ × ℕ)) (name : List ℕ) (g : Group) → IsPlaced t v name g → IsPlaced t (record v { goals = goals }) name g
unfolding is_stop_failed
placed_still t v goals name g h = record { there = h.there; managed = h.managed; wanted = h.wanted; running = h.running; free = h.free; members = h.members }

pub goals_stay : GoalsStay
goals_stay t limits v before name behind g c lacks_before lacks_behind placed is was =
    let best = goal_best t limits (seen t limits v (before ++ name ∷ behind) before) name g (goal_of v.goals name)
    (placed_still t v (fold (with_other t limits v) (fold (with_fixed t limits v) v.goals (before ++ name ∷ behind)) before) name g placed) in
    ap (λ (s : ℕ). has s c.node) (goals_follow_the_rule t limits v before name behind lacks_before lacks_behind) ∙ best.kept c is was

-- As a membership begins.

module _ (t : GroupTable) (states : List ResourceAt) (members : ℕ) where
  first_kept : (es : List (List ℕ × Group)) (name : List ℕ) (goals : List (List ℕ × ℕ)) → AllByRecursion (λ y. bytes_eq name y ≡ false) (keys_of es)
      → goal_of (fold (with_first_goal t states members) goals es) name ≡ goal_of goals name
  first_kept [] name goals apart = refl
  first_kept (e ∷ es) name goals apart =
      first_kept es name (with_first_goal t states members goals e) apart.1
      ∙ goal_other goals e.0 (first_goal t states members e.0 e.1) name (text_flips e.0 name ∙ apart.0)

  first_is : (es : List (List ℕ × Group)) (name : List ℕ) (g : Group) (goals : List (List ℕ × ℕ)) → IsDistinct bytes_eq (keys_of es) → named es name ≡ Some g
      → goal_of (fold (with_first_goal t states members) goals es) name ≡ first_goal t states members name g
  unfolding IsDistinct
  first_is [] name g goals apart there = cc there
  first_is (e ∷ es) name g goals apart there = by (bytes_eq name e.0) refl there (λ h. first_is es name g (with_first_goal t states members goals e) apart.1 h)
    where
      own : (e_name : List ℕ) → name ≡ e_name → AllByRecursion (λ y. bytes_eq e_name y ≡ false) (keys_of es)
          → goal_of (fold (with_first_goal t states members) (goals_with goals e_name (first_goal t states members e_name e.1)) es) name ≡ first_goal t states members name e.1
      own e_name is lacks = subst (λ (x : List ℕ). AllByRecursion (λ y. bytes_eq x y ≡ false) (keys_of es)
          → goal_of (fold (with_first_goal t states members) (goals_with goals x (first_goal t states members x e.1)) es) name ≡ first_goal t states members name e.1) is
          (λ l. first_kept es name (goals_with goals name (first_goal t states members name e.1)) l ∙ goal_same goals name (first_goal t states members name e.1)) lacks

      by : (b : Bool) → bytes_eq name e.0 ≡ b → cond b (Some e.1) (named es name) ≡ Some g
          → (named es name ≡ Some g → goal_of (fold (with_first_goal t states members) (with_first_goal t states members goals e) es) name ≡ first_goal t states members name g)
          → goal_of (fold (with_first_goal t states members) goals (e ∷ es)) name ≡ first_goal t states members name g
      by true is found rest = own e.0 (same_text name e.0 (sym is)) apart.0 ∙ ap (λ (o : Group). first_goal t states members name o) (inside found)
        where
          inside : Some e.1 ≡ Some g → e.1 ≡ g
          inside h = cc h
      by false is found rest = rest found

pub groups_begin : GroupsBegin
groups_begin c members reports now name g apart there =
    first_is c.groups (adopted c members reports now).resources members c.groups.groups name g [] apart there
