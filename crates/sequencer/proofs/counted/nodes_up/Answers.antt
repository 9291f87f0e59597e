use Rattle.std.proofs.Common.{ap, sym, ◌∙◌, arith}
use Rattle.std.specs.List.{list_any}
use Rattle.cl_base.specs.Sets.{has}
use Rattle.sequencer.specs.Counted.{is_up_by}
use Rattle.sequencer.proofs.Counting.{goes_on, at_end}
use Rattle.sequencer.proofs.counted.nodes_up.Goals as goal

pub loop-place-preserved : goal.loop-place-preserved
loop-place-preserved c m =
    goes_on (is_up_by c.args.view.now c.args.members.now c.args.group.now m) c.args.g.now.resources c.loop-place.place (has c.loop-place.up m)
    (has c.with_place-up.result m) (list_any (is_up_by c.args.view.now c.args.members.now c.args.group.now m) c.args.g.now.resources) (c.loop-place.invariant m) (c.with_place-up.ensures m)

pub returns : goal.returns
returns c m =
    at_end (is_up_by c.args.view.now c.args.members.now c.args.group.now m) c.args.g.now.resources c.loop-place.place (has c.loop-place.up m)
    (list_any (is_up_by c.args.view.now c.args.members.now c.args.group.now m) c.args.g.now.resources) (c.loop-place.invariant m) (omega arith)
