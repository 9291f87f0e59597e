use Rattle.std.proofs.Common.{◌≡◌, ◌<◌, ◌^◌, false, ⊎_elim, sym, subst, arith}
use Rattle.cl_base.specs.Sets.{has}
use Rattle.cl_base.proofs.SetLemmas.{has_not_zero, has_not_above, tests_bit}
use Rattle.seize.proofs.key.has_number.Goals as goal

pub returns-then-number-eq0 : goal.returns-then-number-eq0
returns-then-number-eq0 c =
    let fits : c.args.members < 2 ^ 32 = omega (arith, c.bits-bits.ensures.value, c.bits-bits.type_inv) in
    ⊎_elim (λ zero. sym (subst (λ n. has c.args.members n ≡ false) (sym zero) (has_not_zero c.args.members)))
    (λ above. sym (has_not_above c.args.members 32 c.args.number fits above.1)) c.then-number-eq0.either

pub returns : goal.returns
returns c =
    rw c.bits-bits.ensures.value (tests_bit c.args.members c.args.number (omega (arith, c.if-number-eq0.false)))
