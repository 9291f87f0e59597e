use Rattle.rgm_president.proofs.Kept.{goals_so}
use Rattle.rgm_president.proofs.goals.set_goals.Goals as goal

pub returns-clause-same : goal.returns-clause-same
returns-clause-same c = goals_so c.args.c.now c.args.groups.now c.args.resources.now c.args.now c.args.view.now c.choose_goals.new.view
    c.in_ok-same.same c.in_ok-same.ensures.value c.in_ok-same.ensures.same
