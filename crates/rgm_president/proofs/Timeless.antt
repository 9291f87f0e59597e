-- Where no start failure and no move is remembered, goals do not depend on the second.
use Rattle.std.proofs.Common.{◌≡◌, ℕ, Bool, true, false, if◌then◌else◌, List, [], ◌∷◌, fold, refl, ap, ◌∙◌}
use Rattle.load_limits.specs.declared.limits.Limit.{Limit}
use Rattle.placement.specs.Decisions.{decided, with_fixed, with_goal, with_other}
use Rattle.placement.specs.Eligibility.{node_reason, online_targets, reason_of, score_of, target_reason}
use Rattle.placement.specs.Goals.{goal_by_rule}
use Rattle.placement.specs.Loads.{counted, is_fixed, passed_limit, soft_passed}
use Rattle.placement.specs.Resources.{has_down, is_stop_failed}
use Rattle.placement.specs.Targets.{forbidding, lacking, without_goal}
use Rattle.rg_props.specs.Table.{GroupTable}
use Rattle.rg_view.specs.declared.view.GroupView.{GroupView}
use Rattle.rg_view.specs.Goals.{goal_of, goals_with}

-- the view with nothing remembered, at this second and with these goals
abbrev pub still : GroupView → ℕ → List (List ℕ × ℕ) → GroupView
still v now goals = record v { groups = []; now = now; goals = goals }

module _ (t : GroupTable) (limits : List Limit) (v : GroupView) (a b : ℕ) where
  goal_same : (goals : List (List ℕ × ℕ)) (name : List ℕ) (previous : ℕ)
      → goal_by_rule t limits (still v a goals) name previous ≡ goal_by_rule t limits (still v b goals) name previous
  unfolding goal_by_rule node_reason online_targets reason_of score_of target_reason counted is_fixed passed_limit soft_passed has_down is_stop_failed forbidding lacking without_goal
  goal_same goals name previous = refl

  fixed_same : (goals goals' : List (List ℕ × ℕ)) (name : List ℕ)
      → with_fixed t limits (still v a goals) goals' name ≡ with_fixed t limits (still v b goals) goals' name
  unfolding is_fixed is_stop_failed
  fixed_same goals goals' name = by (is_fixed t (still v b goals) name)
    where
      by : (so : Bool) → (if so then with_goal t limits (still v a goals) goals' name else goals') ≡ (if so then with_goal t limits (still v b goals) goals' name else goals')
      by true = ap (λ nodes. goals_with goals' name nodes) (goal_same goals' name (goal_of goals' name))
      by false = refl

  other_same : (goals goals' : List (List ℕ × ℕ)) (name : List ℕ)
      → with_other t limits (still v a goals) goals' name ≡ with_other t limits (still v b goals) goals' name
  unfolding is_fixed is_stop_failed
  other_same goals goals' name = by (is_fixed t (still v b goals) name)
    where
      by : (so : Bool) → (if so then goals' else with_goal t limits (still v a goals) goals' name) ≡ (if so then goals' else with_goal t limits (still v b goals) goals' name)
      by true = refl
      by false = ap (λ nodes. goals_with goals' name nodes) (goal_same goals' name (goal_of goals' name))

-- what is done for each element is the same, so the whole is
pub fold_same : {X Y : Type 0} (f g : Y → X → Y) (same : (y : Y) (x : X) → f y x ≡ g y x) (y : Y) (xs : List X) → fold f y xs ≡ fold g y xs
fold_same f g same y [] = refl
fold_same f g same y (x ∷ xs) = ap (λ z. fold f z xs) (same y x) ∙ fold_same f g same (g y x) xs

-- the goals of a decision
pub decided_same : (t : GroupTable) (limits : List Limit) (v : GroupView) (a b : ℕ) (goals : List (List ℕ × ℕ)) (order : List (List ℕ))
    → decided t limits (still v a goals) order ≡ decided t limits (still v b goals) order
unfolding decided
decided_same t limits v a b goals order =
    ap (λ gs. fold (with_other t limits (still v a goals)) gs order)
    (fold_same (with_fixed t limits (still v a goals)) (with_fixed t limits (still v b goals)) (fixed_same t limits v a b goals) goals order)
    ∙ fold_same (with_other t limits (still v a goals)) (with_other t limits (still v b goals)) (other_same t limits v a b goals)
    (fold (with_fixed t limits (still v b goals)) goals order) order
