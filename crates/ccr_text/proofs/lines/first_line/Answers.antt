use Rattle.std.proofs.Common.{◌≡◌, rules, None}
use Rattle.ccr_text.proofs.CutLemmas.{no_gennum, other_gennum}
use Rattle.ccr_text.proofs.lines.first_line.Goals as goal

pub returns-in_err-digits : goal.returns-in_err-digits
returns-in_err-digits c =
    let none : c.from_residual.result ≡ None = search rules in
    rw none (no_gennum c.args.text.now c.in_err-digits.ensures)

pub returns-in_err-number_of : goal.returns-in_err-number_of
returns-in_err-number_of c =
    let none : c.from_residual-in_err-number_of.result ≡ None = search rules in
    rw none (other_gennum c.args.text.now c.in_ok-digits.digits.now c.in_ok-digits.rest.now c.in_ok-digits.ensures.0 c.in_ok-digits.ensures.1 c.in_err-number_of.ensures)
