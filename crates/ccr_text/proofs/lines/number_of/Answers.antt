use Rattle.std.proofs.Common.{arith, rules, ◌≡◌, ap, sym, subst, ◌∙◌}
use Rattle.std.specs.Str.{IsUtf8}
use Rattle.std.proofs.lemmas.Str.{IsUtf8-from_ascii}
use Rattle.std.proofs.lemmas.Fmt.{parse-decimal, IsAscii-decimal}
use Rattle.std.specs.Fmt.{decimal}
use Rattle.std.specs.Cmp.Lexicographic.{bytes_decides}
use Rattle.ccr_text.proofs.lines.number_of.Goals as goal

pub returns-in_default : goal.returns-in_default
returns-in_default c = λ n fits e.
    c.in_default.ensures.cases.0 (subst IsUtf8 (sym e) (IsUtf8-from_ascii _ (IsAscii-decimal n fits)))

pub returns-in_default-parse : goal.returns-in_default-parse
returns-in_default-parse c = λ n fits e.
    absurd (cc (parse-decimal 64 n _ _ fits fits (c.in-Ok.ensures.cases.0 ∙ e) c.parse.ensures.value.0))

pub returns-else-eq : goal.returns-else-eq
returns-else-eq c = λ n fits e.
    let same : c.in-Ok-parse.number ≡ n = cc (parse-decimal 64 n _ _ fits fits (c.in-Ok.ensures.cases.0 ∙ e) c.parse.ensures.value.0) in
    let text : c.format.result.now ≡ c.in-Ok.text.now = c.format.ensures.text ∙ ap decimal same ∙ sym e ∙ sym c.in-Ok.ensures.cases.0 in
    let yes = (bytes_decides c.format.result.now c.in-Ok.text.now).1 text in
    absurd (cc (yes, c.if-eq.false, c.eq.ensures))

pub returns-then-eq : goal.returns-then-eq
returns-then-eq c = (omega (arith, c.in-Ok-parse.ensures.value.0), search rules)
