use Rattle.std.proofs.Common.{sym, ap, Some, ◌∙◌}
use Rattle.admin_words.proofs.MethodLemmas.{complete_kept}
use Rattle.admin_words.proofs.methods.complete_set.Goals as goal

pub returns-then-are_complete : goal.returns-then-are_complete
returns-then-are_complete c =
    ap Some c.in_order.ensures ∙ complete_kept c.set_of-set.result c.args.methods.now c.set_of-set.ensures (sym c.are_complete.ensures ∙ c.if-are_complete.true)
