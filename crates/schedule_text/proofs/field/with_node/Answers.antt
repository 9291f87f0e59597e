use Rattle.std.proofs.Common.{sym, ◌∙◌}
use Rattle.schedule_text.proofs.NodeLemmas.{more_nodes}
use Rattle.schedule_text.proofs.field.with_node.Goals as goal

pub returns-clause-allowed : goal.returns-clause-allowed
returns-clause-allowed c = more_nodes c.args.nodes c.node.result c.in_ok-nodes.nodes c.in_ok-nodes.node c.with.result _ c.args.header.now.nodes
    (sym c.both.ensures ∙ c.in_ok-nodes.was) c.requires c.node.ensures.allowed c.with.ensures.members
