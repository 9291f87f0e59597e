use Rattle.std.proofs.Common.{ap, sym, ◌∙◌}
use Rattle.ccr_commit.specs.Entries.{with_next}
use Rattle.cmm_member.proofs.EntryLemmas.{all_next-more}
use Rattle.cmm_member.proofs.entry_list.append_texts.Goals as goal

pub loop-text-preserved : goal.loop-text-preserved
loop-text-preserved c =
    c.in_ok-append.ensures
    ∙ ap (with_next c.loop-text.entries) c.items.ensures.value
    ∙ ap (λ e. with_next e c.text-item.result) c.loop-text.invariant
    ∙ sym (all_next-more c.args.entries.now c.args.texts.now c.loop-text.text-index c.text-item.result c.loop-text-test.true c.text-item.is)
