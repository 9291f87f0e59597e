use Rattle.std.proofs.Common.{inl, inr}
use Rattle.ccr_text.proofs.OneAnswer.{one_answer, table_of_answer}
use Rattle.ccr_text.proofs.read.read_table.Goals as goal

pub returns-clause-only : goal.returns-clause-only
returns-clause-only c = λ other h.
    elim c.answer.ensures [ inl none ↦ inl none | inr is ↦ inr (one_answer c.args.text.now c.answer.result other is h) ]

pub returns-clause-ok : goal.returns-clause-ok
returns-clause-ok c = table_of_answer c.args.text.now c.answer.result c.answer.ensures
