use Rattle.std.proofs.Common.{◌≡◌, take}
use Rattle.ccr_text.specs.Lengths.{rows_length}
use Rattle.cmm_member.specs.Records.{update_rows}
use Rattle.cmm_member.proofs.TextLemmas.{capped}
use Rattle.cmm_member.proofs.lengths.committed_length.Given as goal

abbrev pub invariant-loop-index : goal.invariant-loop-index
invariant-loop-index l = l.total ≡ capped (rows_length (update_rows 0 (take l.index l.texts)))
