use Rattle.std.proofs.Common.{◌≡◌, ap, sym, subst, ◌∙◌}
use Rattle.std.specs.Prelude.{Some}
use Rattle.std.specs.Str.{IsUtf8}
use Rattle.std.proofs.lemmas.Str.{IsUtf8-from_ascii}
use Rattle.std.proofs.lemmas.Fmt.{parse-decimal, IsAscii-decimal}
use Rattle.cmm_member.proofs.numbers.number_of.Goals as goal

pub returns-in_default : goal.returns-in_default
returns-in_default c = λ n fits e.
    absurd (c.in_default.ensures.cases.0 (subst IsUtf8 (sym e) (IsUtf8-from_ascii _ (IsAscii-decimal n fits))))

pub returns-in-Ok-parse : goal.returns-in-Ok-parse
returns-in-Ok-parse c = λ n fits e.
    let same : c.in-Ok-parse.number ≡ n = cc (parse-decimal 64 n _ _ fits fits (c.in-Ok.ensures.cases.0 ∙ e) c.parse.ensures.value.0) in
    ap Some same

pub returns-in-Err : goal.returns-in-Err
returns-in-Err c = λ n fits e.
    absurd (cc (parse-decimal 64 n _ _ fits fits (c.in-Ok.ensures.cases.0 ∙ e) c.parse.ensures.value.0))
