use Rattle.std.proofs.Common.{ℕ, List, ◌==◌, ◌∙◌, rules, tests}
use Rattle.std.proofs.lemmas.Iterator.{YieldsList-from_slice}
use Rattle.std.proofs.lemmas.Iterator.Search.{find_from_yields_List}
use Rattle.rg_view.specs.Goals.{goal_of}
use Rattle.placement.specs.Targets.{without_goal}
use Rattle.placement.proofs.dependencies.without_goal.Goals as goal

pub returns : goal.returns
unfolding without_goal
returns c =
    c.copied.ensures ∙ find_from_yields_List (λ (d : List ℕ). goal_of c.args.view.now.goals d == 0) _ _ c.find.result c.find.ensures.ran
    (YieldsList-from_slice c.args.own.now.dependencies cc) (λ x b q k. search (rules, tests))
