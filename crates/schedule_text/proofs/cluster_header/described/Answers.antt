use Rattle.std.proofs.Common.{sym, ◌∙◌}
use Rattle.schedule_text.proofs.HeaderLemmas.{numbered_behind}
use Rattle.schedule_text.proofs.cluster_header.described.Goals as goal

pub returns-clause-value : goal.returns-clause-value
returns-clause-value c = c.numbered.ensures.value ∙ sym (numbered_behind c.args.header.now c.args.number c.args.kind c.args.nodes.now)
