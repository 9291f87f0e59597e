use Rattle.std.proofs.Common.{◌∙◌}
use Rattle.rg_props.proofs.NameLemmas.{name_read}
use Rattle.rg_props.proofs.word.name.Goals as goal

pub returns-clause-value : goal.returns-clause-value
returns-clause-value c = c.ok.ensures.value ∙ name_read c.args.word.now c.new.result c.new.ensures.answer
