use Rattle.std.proofs.Common.{ap, ◌∙◌, ◌||◌, Bool, arith}
use Rattle.cl_base.specs.Sets.{has}
use Rattle.sequencer.specs.Counted.{is_up_among, is_up_at}
use Rattle.sequencer.proofs.Counting.{goes_on, at_end, at_item}
use Rattle.sequencer.proofs.counted.with_nodes.Goals as goal

pub loop-n-preserved : goal.loop-n-preserved
loop-n-preserved c m =
    goes_on (is_up_at c.args.view.now c.args.name.now m) c.args.members.now c.loop-n.n-index (has c.loop-n.all m) (has c.with_node-all.result m)
    (has c.args.up m || is_up_among c.args.view.now c.args.members.now c.args.name.now m) (c.loop-n.invariant m)
    (c.with_node-all.ensures m
    ∙ ap (λ (b : Bool). has c.loop-n.all m || b)
    (at_item (is_up_at c.args.view.now c.args.name.now m) c.args.members.now c.loop-n.n-index c.n-item.result c.loop-n-test.true c.n-item.is))

pub returns : goal.returns
returns c m =
    at_end (is_up_at c.args.view.now c.args.name.now m) c.args.members.now c.loop-n.n-index (has c.loop-n.all m)
    (has c.args.up m || is_up_among c.args.view.now c.args.members.now c.args.name.now m) (c.loop-n.invariant m) (omega arith)
