use Rattle.std.proofs.Common.{◌∙◌}
use Rattle.rg_props.proofs.NameLemmas.{name_read}
use Rattle.rgm_member.proofs.names.name_of.Goals as goal

pub returns-clause-value : goal.returns-clause-value
returns-clause-value c = c.ok.ensures.value ∙ name_read c.args.text.now c.new.result c.new.ensures.answer
