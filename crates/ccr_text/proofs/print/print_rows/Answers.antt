use Rattle.std.proofs.Common.{◌++◌, ap, sym, ◌∙◌}
use Rattle.ccr_text.specs.TableText.{row_line}
use Rattle.ccr_text.proofs.RowLemmas.{row_lines-next}
use Rattle.ccr_text.proofs.print.print_rows.Goals as goal

pub loop-row-preserved : goal.loop-row-preserved
loop-row-preserved c =
    c.in_ok-print_row.ensures
    ∙ ap (λ t. t ++ row_line c.row-item.result) c.loop-row.invariant
    ∙ sym (row_lines-next c.args.rows.now c.loop-row.row-index c.row-item.result c.loop-row-test.true c.row-item.is)
