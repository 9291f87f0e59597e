use Rattle.std.proofs.Common.{◌≡◌, rules, None, true}
use Rattle.ccr_text.proofs.RowLemmas.{no_row_line, no_row_tab, other_row}
use Rattle.ccr_text.proofs.lines.next_row.Goals as goal

pub returns-in_err-line : goal.returns-in_err-line
returns-in_err-line c =
    let none : c.from_residual.result ≡ None = search rules in
    rw none (no_row_line c.args.text.now c.in_err-line.ensures)

pub returns-in_err-key : goal.returns-in_err-key
returns-in_err-key c =
    let none : c.from_residual-in_err-key.result ≡ None = search rules in
    rw none (no_row_tab c.args.text.now c.in_ok-line.line.now c.in_ok-line.rest.now c.in_ok-line.ensures.0 c.in_ok-line.ensures.1 c.in_err-key.ensures)

pub returns-else-is_row : goal.returns-else-is_row
returns-else-is_row c =
    other_row c.args.text.now c.in_ok-line.line.now c.in_ok-line.rest.now c.in_ok-key.key.now c.in_ok-key.value.now c.in_ok-line.ensures.0 c.in_ok-line.ensures.1 c.in_ok-key.ensures.0 c.in_ok-key.ensures.1
    (λ h. let yes : c.is_row.result ≡ true = c.is_row.ensures.1 h in absurd (cc (yes, c.if-is_row.false)))
