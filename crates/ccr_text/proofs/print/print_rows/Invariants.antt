use Rattle.std.proofs.Common.{◌≡◌, take}
use Rattle.ccr_text.specs.TableText.{row_lines}
use Rattle.ccr_text.proofs.print.print_rows.Given as goal

abbrev pub invariant-loop-row : goal.invariant-loop-row
invariant-loop-row l = l.body.items ≡ row_lines (take l.row-index l.rows)
