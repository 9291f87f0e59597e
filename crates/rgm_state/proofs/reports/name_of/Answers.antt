use Rattle.std.proofs.Common.{◌∙◌}
use Rattle.rg_props.proofs.NameLemmas.{name_read}
use Rattle.rgm_state.proofs.reports.name_of.Goals as goal

pub returns : goal.returns
returns c = c.ok.ensures.value ∙ name_read c.args.text.now c.new.result c.new.ensures.answer
