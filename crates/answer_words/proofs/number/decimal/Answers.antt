use Rattle.std.proofs.Common.{sym, ◌∙◌}
use Rattle.rg_props.proofs.NumberLemmas.{utf8_of_decimal, unread_decimal}
use Rattle.answer_words.proofs.number.decimal.Goals as goal

pub returns-in_default : goal.returns-in_default
returns-in_default c =
    let cases = c.in_default.ensures.cases in
    absurd (cases.0 (utf8_of_decimal c.args.word.now (sym c.is_decimal.ensures ∙ c.if-not-is_decimal.false)))

pub returns-in-Err : goal.returns-in-Err
returns-in-Err c =
    let cases = c.in-Ok.ensures.cases in
    let parsed = c.in-Err.ensures.value.0 in
    sym (unread_decimal c.in-Ok.text.now c.args.word.now c.in-Err.field-0 cases.0 (sym c.is_decimal.ensures ∙ c.if-not-is_decimal.false) parsed)
