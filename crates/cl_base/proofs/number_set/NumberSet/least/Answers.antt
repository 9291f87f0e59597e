use Rattle.std.proofs.Common.{◌≡◌, ◌<◌, false, ℕ, zero, suc, ◌∙◌, arith, sym}
use Rattle.cl_base.specs.Sets.{has}
use Rattle.cl_base.proofs.SetLemmas.{has_not_zero, none_at_all, has_narrow}
use Rattle.cl_base.proofs.number_set.NumberSet.least.Goals as goal

below_one : (s m : ℕ) → m < 1 → has s m ≡ false
below_one s zero lt = has_not_zero s
below_one s (suc m) lt = absurd (omega arith)

pub loop-n-init : goal.loop-n-init
loop-n-init c = below_one c.args.self

pub returns-clause-least : goal.returns-clause-least
returns-clause-least c = none_at_all c.args.self (rw (← c.self.view_is) c.self.invariant) (λ m lt. c.loop-n.invariant m (omega arith))

pub returns-then-has-clause-narrow : goal.returns-then-has-clause-narrow
returns-then-has-clause-narrow c = λ sm. has_narrow c.args.self c.loop-n.n sm (sym c.has.ensures ∙ c.if-has.true)
