use Rattle.std.proofs.Common.{ap, sym, ◌∙◌}
use Rattle.ccr_commit.specs.Entries.{with_next}
use Rattle.cmm_member.proofs.EntryLemmas.{all_rows-more}
use Rattle.cmm_member.proofs.entry_list.append_rows.Goals as goal

pub loop-row-preserved : goal.loop-row-preserved
loop-row-preserved c =
    c.in_ok-append.ensures
    ∙ ap (with_next c.loop-row.entries) c.items.ensures.value
    ∙ ap (λ e. with_next e c.row-item.result.value) c.loop-row.invariant
    ∙ sym (all_rows-more c.args.entries.now c.args.rows.now c.loop-row.row-index c.row-item.result c.loop-row-test.true c.row-item.is)
