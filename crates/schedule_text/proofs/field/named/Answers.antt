use Rattle.std.proofs.Common.{sym}
use Rattle.schedule_text.proofs.WordLemmas.{named_is, named_is_none}
use Rattle.schedule_text.proofs.field.named.Goals as goal

pub returns-in-Ok-clause-value : goal.returns-in-Ok-clause-value
returns-in-Ok-clause-value c = sym (named_is c.args.word.now c.in-Ok.name c.in-Ok.ensures.answer.0 c.in-Ok.ensures.answer.1)

pub returns-in-Err-clause-value : goal.returns-in-Err-clause-value
returns-in-Err-clause-value c = sym (named_is_none c.args.word.now c.in-Err.ensures.answer)
