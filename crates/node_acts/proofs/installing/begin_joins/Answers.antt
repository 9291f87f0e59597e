use Rattle.std.proofs.Common.{ap, sym, ◌∙◌}
use Rattle.node_model.specs.Attempts.{joining_with}
use Rattle.node_acts.proofs.JoinLemmas.{joining-more}
use Rattle.node_acts.proofs.installing.begin_joins.Goals as goal

pub loop-reading-preserved : goal.loop-reading-preserved
loop-reading-preserved c =
    c.in_ok-begin_join.ensures
    ∙ ap (λ tasks. joining_with c.args.cluster.now c.args.me c.args.epoch c.args.joined tasks c.reading-item.result) c.loop-reading.invariant
    ∙ sym (joining-more c.args.cluster.now c.args.me c.args.epoch c.args.joined c.args.tasks.now c.args.readings.now c.loop-reading.reading-index c.reading-item.result c.loop-reading-test.true c.reading-item.is)
