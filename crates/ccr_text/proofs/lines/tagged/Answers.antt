use Rattle.std.proofs.Common.{◌≡◌, ◌++◌, rules, None}
use Rattle.ccr_text.proofs.CutLemmas.{no_front, front_is, tagged_from}
use Rattle.ccr_text.proofs.lines.tagged.Goals as goal

pub returns-in_err-strip_prefix : goal.returns-in_err-strip_prefix
returns-in_err-strip_prefix c =
    let none : c.from_residual.result ≡ None = search rules in
    rw none (no_front c.args.tag.now c.args.text.now c.in_err-strip_prefix.ensures.cases)

pub returns : goal.returns
returns c =
    let h = c.in_ok-strip_prefix.ensures.cases in
    let is : c.args.text.now ≡ c.args.tag.now ++ c.in_ok-strip_prefix.field-0.now = front_is c.args.tag.now c.args.text.now c.in_ok-strip_prefix.field-0.now h.0 h.1 in
    tagged_from c.args.tag.now c.args.text.now c.in_ok-strip_prefix.field-0.now is c.cut_at.result c.cut_at.ensures
