use Rattle.std.proofs.Common.{◌++◌, ◌∷◌, [], length}
use Rattle.status_report.specs.declared.entry.Entry.TheVariants as trace
use Rattle.node_model.specs.declared.output.Output.TheVariants.{Tells}
use Rattle.node_model.specs.Attempts.{started_entry}
use Rattle.node_attempts.proofs.BaseLines.{told_more}
use Rattle.node_attempts.proofs.starting.tell_start.Goals as goal

pub loop-index-preserved : goal.loop-index-preserved
loop-index-preserved c =
    let e = c.args.attempt.now.plan.epoch in
    let head = c.args.out.now.items ++ Tells (trace.Start (started_entry c.args.attempt.now (length c.args.committed.now))) ∷ [] in
    told_more e head _ _ c.args.committed.now c.loop-index.index c.index-committed-index.result c.loop-index-test.true c.index-committed-index.is c.loop-index.invariant
    (rw (← c.epoch-epoch.ensures.value) c.in_ok-tell_base.ensures.told)
