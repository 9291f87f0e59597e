use Rattle.std.proofs.Common.{sym, ◌∙◌}
use Rattle.schedule_text.proofs.NumberLemmas.{utf8_of_key, unread_key}
use Rattle.schedule_text.proofs.number.key.Goals as goal

pub returns-in_default : goal.returns-in_default
returns-in_default c =
    let cases = c.in_default.ensures.cases in
    absurd (cases.0 (utf8_of_key c.args.word.now (sym c.is_key.ensures ∙ c.if-not-is_key.false)))

pub returns-in-Err : goal.returns-in-Err
returns-in-Err c =
    let cases = c.in-Ok.ensures.cases in
    let parsed = c.in-Err.ensures.value in
    absurd (unread_key c.in-Ok.text.now c.args.word.now c.in-Err.field-0 cases.0 (sym c.is_key.ensures ∙ c.if-not-is_key.false) parsed)
