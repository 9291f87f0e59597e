use Rattle.std.proofs.Common.{◌≡◌, ◌++◌, take}
use Rattle.cmm_member.specs.Records.{update_rows}
use Rattle.cmm_member.proofs.rows.push_updates.Given as goal

abbrev pub invariant-loop-index : goal.invariant-loop-index
invariant-loop-index l = l.rows.items ≡ l.fn.rows.items ++ update_rows 0 (take l.index l.texts)
