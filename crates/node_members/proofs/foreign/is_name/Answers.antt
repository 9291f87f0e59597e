use Rattle.std.proofs.Common.{◌∙◌}
use Rattle.node_members.proofs.Names.{name_test}
use Rattle.node_members.proofs.foreign.is_name.Goals as goal

pub returns : goal.returns
returns c = c.is_ok.ensures.value ∙ name_test c.args.text.now c.new.result c.new.ensures.answer
