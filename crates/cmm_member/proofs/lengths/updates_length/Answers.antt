use Rattle.std.proofs.Common.{◌+◌, length, ap, ◌∙◌}
use Rattle.cmm_member.proofs.TextLemmas.{capped, one_row, total_none, total_some}
use Rattle.cmm_member.proofs.lengths.updates_length.Goals as goal

pub returns-in-None : goal.returns-in-None
returns-in-None c =
    total_none c.args.entries.now c.committed-committed.result.now c.committed_length-length.result c.in-None.ensures.value c.committed-committed.ensures.value c.committed_length-length.ensures

pub returns-in-Some : goal.returns-in-Some
returns-in-Some c =
    let xs = c.committed-committed.result.now in
    let added = c.update_length.ensures ∙ ap (λ t. capped (one_row (length xs + 1) t)) c.items.ensures.value in
    total_some c.args.entries.now c.in-Some.text.now xs c.committed_length-length.result c.update_length.result c.saturating_add.result
    c.in-Some.ensures.value c.committed-committed.ensures.value c.committed_length-length.ensures added c.saturating_add.ensures
