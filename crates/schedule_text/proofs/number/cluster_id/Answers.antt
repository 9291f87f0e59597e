use Rattle.std.proofs.Common.{sym, ◌∙◌}
use Rattle.schedule_text.proofs.NumberLemmas.{cluster_known}
use Rattle.schedule_text.proofs.number.cluster_id.Goals as goal

pub returns : goal.returns
returns c = c.ok.ensures.value ∙ cluster_known c.args.word.now c.in_ok-id.id c.try_from.result c.if-word-gt8.false (sym c.key.ensures ∙ c.in_ok-id.was) c.if-id-eq0.false c.try_from.ensures
