use Rattle.std.proofs.Common.{◌++◌, ◌∷◌, [], ◌+◌, ap, sym, ◌∙◌, append_assoc, take}
use Rattle.std.specs.Prelude.{codes}
use Rattle.std.specs.Fmt.{decimal}
use Rattle.cmm_member.specs.Records.{row, update_rows}
use Rattle.cmm_member.proofs.EntryLemmas.{update_rows-more}
use Rattle.cmm_member.proofs.rows.push_updates.Goals as goal

pub loop-index-preserved : goal.loop-index-preserved
loop-index-preserved c =
    let next = row (codes "update." ++ decimal (c.loop-index.index + 1)) c.index-texts-index.result in
    c.in_ok-push_update.ensures
    ∙ ap (λ rows. rows ++ next ∷ []) c.loop-index.invariant
    ∙ append_assoc c.args.rows.now.items (update_rows 0 (take c.loop-index.index c.args.texts.now)) (next ∷ [])
    ∙ ap (λ rows. c.args.rows.now.items ++ rows) (sym (update_rows-more c.args.texts.now c.loop-index.index c.index-texts-index.result c.loop-index-test.true c.index-texts-index.is))
