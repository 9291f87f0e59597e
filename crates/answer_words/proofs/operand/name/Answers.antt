use Rattle.std.proofs.Common.{◌∙◌}
use Rattle.rg_props.proofs.NameLemmas.{name_read}
use Rattle.answer_words.proofs.operand.name.Goals as goal

pub returns : goal.returns
returns c = c.ok.ensures.value ∙ name_read c.args.word.now c.new.result c.new.ensures.answer
