-- The goals that are decided one by one, whatever else is known, are those of a decision.
use Rattle.std.proofs.Common.{◌≡◌, ℕ, List, [], ◌∷◌, fold, refl, ap, ◌∙◌}
use Rattle.load_limits.specs.declared.limits.Limit.{Limit}
use Rattle.placement.specs.Decisions.{decided, with_fixed, with_other}
use Rattle.placement.specs.Loads.{is_fixed}
use Rattle.placement.specs.Resources.{is_stop_failed}
use Rattle.rg_props.specs.Table.{GroupTable}
use Rattle.rg_view.specs.declared.view.GroupView.{GroupView}
use Rattle.rgm_president.specs.Goals.{fixed_decided, other_decided}

module _ (t : GroupTable) (limits : List Limit) (v : GroupView) where
  fixed_steps : (goals : List (List ℕ × ℕ)) (groups : List (List ℕ))
      → fold (fixed_decided t limits) (record v { goals = goals }) groups ≡ record v { goals = fold (with_fixed t limits v) goals groups }
  unfolding is_fixed is_stop_failed
  fixed_steps goals [] = refl
  fixed_steps goals (g ∷ gs) = fixed_steps (with_fixed t limits v goals g) gs

  other_steps : (goals : List (List ℕ × ℕ)) (groups : List (List ℕ))
      → fold (other_decided t limits) (record v { goals = goals }) groups ≡ record v { goals = fold (with_other t limits v) goals groups }
  unfolding is_fixed is_stop_failed
  other_steps goals [] = refl
  other_steps goals (g ∷ gs) = other_steps (with_other t limits v goals g) gs

  pub both_steps : (groups : List (List ℕ)) → fold (other_decided t limits) (fold (fixed_decided t limits) v groups) groups ≡ record v { goals = decided t limits v groups }
  unfolding decided
  both_steps groups =
      ap (λ (w : GroupView). fold (other_decided t limits) w groups) (fixed_steps v.goals groups) ∙ other_steps (fold (with_fixed t limits v) v.goals groups) groups
