use Rattle.cmm_member.specs.Views.{kept}
use Rattle.cmm_member.proofs.RowLemmas.{table_from}
use Rattle.cmm_member.proofs.forming.FormingNode.record_rows.Goals as goal

pub returns-clause-table : goal.returns-clause-table
returns-clause-table c = rw (← c.self.view_is) (table_from (kept c.self.inside.running.durable) c.in_ok-rows.rows c.in_ok-rows.ensures.rows c.self.invariant.order c.in_ok-rows.ensures.widths)
