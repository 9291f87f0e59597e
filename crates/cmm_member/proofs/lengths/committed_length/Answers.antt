use Rattle.std.proofs.Common.{◌≡◌, ◌+◌, length, take, ap, sym, ◌∙◌}
use Rattle.std.specs.Fmt.{decimal}
use Rattle.ccr_text.specs.Lengths.{rows_length}
use Rattle.cmm_member.specs.Records.{update_rows}
use Rattle.cmm_member.proofs.TextLemmas.{capped, capped_sum, updates_more}
use Rattle.cmm_member.proofs.lengths.committed_length.Goals as goal

pub loop-index-preserved : goal.loop-index-preserved
loop-index-preserved c =
    let text = c.index-texts-index.result in
    let i = c.loop-index.index in
    let added = c.update_length.ensures ∙ ap (λ t. capped (9 + length (decimal (i + 1)) + length t)) c.items.ensures.value in
    c.saturating_add-total.ensures
    ∙ capped_sum (rows_length (update_rows 0 (take i c.args.texts.now))) (9 + length (decimal (i + 1)) + length text) c.loop-index.total c.update_length.result c.loop-index.invariant added
    ∙ ap capped (sym (updates_more c.args.texts.now i text c.loop-index-test.true c.index-texts-index.is))
