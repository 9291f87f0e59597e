use Rattle.std.proofs.Common.{◌≡◌, take}
use Rattle.cmm_member.specs.Views.{all_next}
use Rattle.cmm_member.proofs.EntryLemmas.{values}
use Rattle.cmm_member.proofs.entry_list.append_rows.Given as goal

abbrev pub invariant-loop-row : goal.invariant-loop-row
invariant-loop-row l = l.entries ≡ all_next l.fn.entries (values (take l.row-index l.rows))
