use Rattle.std.proofs.Common.{◌∙◌}
use Rattle.sequencer.proofs.Counting.{same_count}
use Rattle.sequencer.proofs.starting.others_up.Goals as goal

pub returns : goal.returns
returns c =
    c.count_others.ensures
    ∙ same_count c.args.g.now c.args.view.now c.args.members.now c.args.group.now c.args.n c.nodes_up-up.result c.nodes_up-up.ensures
