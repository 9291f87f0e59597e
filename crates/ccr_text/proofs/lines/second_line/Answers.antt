use Rattle.std.proofs.Common.{◌≡◌, rules, None}
use Rattle.ccr_text.proofs.CutLemmas.{no_checksum, other_checksum}
use Rattle.ccr_text.proofs.lines.second_line.Goals as goal

pub returns-in_err-digits : goal.returns-in_err-digits
returns-in_err-digits c =
    let none : c.from_residual.result ≡ None = search rules in
    rw none (no_checksum c.args.text.now c.in_err-digits.ensures)

pub returns-in_err-digest_of : goal.returns-in_err-digest_of
returns-in_err-digest_of c =
    let none : c.from_residual-in_err-digest_of.result ≡ None = search rules in
    rw none (other_checksum c.args.text.now c.in_ok-digits.digits.now c.in_ok-digits.rest.now c.in_ok-digits.ensures.0 c.in_ok-digits.ensures.1 c.in_err-digest_of.ensures)
