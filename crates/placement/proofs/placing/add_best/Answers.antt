use Rattle.std.proofs.Common.{◌∙◌, sym, ap, arith}
use Rattle.placement.specs.Scores.{score_at}
use Rattle.placement.proofs.Picks.{added_over, added_next}
use Rattle.placement.proofs.placing.add_best.Goals as goal

pub returns-in-None : goal.returns-in-None
returns-in-None c = added_over (score_at c.args.scores.now) c.args.nodelist.now c.args.kept c.loop.counter c.args.missing c.loop.nodes (omega arith)
    c.loop.invariant (sym c.best.ensures ∙ c.in-None.is)

pub loop-preserved : goal.loop-preserved
loop-preserved c = c.with-nodes.ensures.value
    ∙ added_next (score_at c.args.scores.now) c.args.nodelist.now c.args.kept c.loop.counter c.loop.nodes c.in-Some.best c.loop.invariant (sym c.best.ensures ∙ c.in-Some.is)
