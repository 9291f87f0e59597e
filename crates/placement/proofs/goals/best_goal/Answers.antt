use Rattle.std.proofs.Common.{ℕ, List, ◌∙◌, ap}
use Rattle.std.specs.Result.{result_ok}
use Rattle.placement.specs.Eligibility.{eligibility}
use Rattle.placement.specs.Goals.{placed}
use Rattle.placement.specs.Scores.{score_at}
use Rattle.placement.proofs.Picks.{same_placed}
use Rattle.placement.proofs.goals.best_goal.Goals as goal

pub returns : goal.returns
returns c = c.placed.ensures ∙ ap (λ (nodes : List ℕ). placed (score_at c.scores-scores.result) nodes c.args.own.now.desired c.args.previous) c.items.ensures.value
    ∙ same_placed (score_at c.scores-scores.result) (λ n. result_ok (eligibility c.args.g.now c.args.limits.now c.args.view.now c.args.name.now c.args.own.now n))
    c.args.own.now.nodelist c.args.own.now.desired c.args.previous c.scores-scores.ensures
