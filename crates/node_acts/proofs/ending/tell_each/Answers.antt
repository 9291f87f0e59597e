use Rattle.node_acts.proofs.UnknownLines.{told_more}
use Rattle.node_acts.proofs.ending.tell_each.Goals as goal

pub loop-request-preserved : goal.loop-request-preserved
loop-request-preserved c =
    told_more c.args.me c.args.out.now.items c.loop-request.out.items c.tell_unknown.new.out.items c.args.waiting.now c.loop-request.request-index c.request-item.result
    c.loop-request-test.true c.request-item.is c.loop-request.invariant c.in_ok-tell_unknown.ensures.told
