use Rattle.std.proofs.Common.{arith}
use Rattle.cmm_member.specs.Views.{kept}
use Rattle.cmm_member.proofs.RowLemmas.{table_from}
use Rattle.cmm_member.proofs.member.MemberNode.record_rows.Goals as goal

pub returns-clause-table : goal.returns-clause-table
returns-clause-table c = rw (← c.self.view_is) (table_from (kept c.self.inside.running.durable) c.in_ok-rows.rows c.in_ok-rows.ensures.rows (omega (arith, c.self.invariant.installed)) c.in_ok-rows.ensures.widths)
