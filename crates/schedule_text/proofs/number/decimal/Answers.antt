use Rattle.std.proofs.Common.{sym, ◌∙◌, arith}
use Rattle.schedule_text.proofs.NumberLemmas.{decimal_read, overflows}
use Rattle.schedule_text.proofs.number.decimal.Goals as goal

pub returns-in-Beyond : goal.returns-in-Beyond
returns-in-Beyond c = c.beyond.ensures ∙ overflows c.loop-place.number c.args.word.now c.loop-place.place c.loop-place-test.true
    (sym c.is_ascii_digit.ensures.value ∙ c.if-not-is_ascii_digit.false) (sym c.followed_by.ensures ∙ c.in-Beyond.is) c.loop-place.invariant
    (sym c.is_empty.ensures ∙ c.if-is_empty.false) (sym c.has_no_leading_zero.ensures ∙ c.if-not-has_no_leading_zero.false)

pub returns : goal.returns
returns c = decimal_read c.loop-place.number c.args.word.now c.loop-place.place (omega (arith, c.loop-place-test.false)) c.loop-place.invariant
    (sym c.is_empty.ensures ∙ c.if-is_empty.false) (sym c.has_no_leading_zero.ensures ∙ c.if-not-has_no_leading_zero.false)
