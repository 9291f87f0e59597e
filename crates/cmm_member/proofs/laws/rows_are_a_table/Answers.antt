use Rattle.cmm_member.proofs.RowLemmas.{are_rows, record_table}
use Rattle.cmm_member.proofs.laws.rows_are_a_table.Goals as goal

pub returns : goal.returns
returns c = record { table = are_rows; text = record_table }
