use Rattle.cl_base.proofs.SetLemmas.{has_without, and_narrow, and_bit_value}
use Rattle.cl_base.proofs.number_set.NumberSet.without.Goals as goal

pub returns-clause-members : goal.returns-clause-members
returns-clause-members c = rw (← c.self.view_is) (has_without c.self.inside.bits c.args.n c.requires.low c.requires.high c.self.invariant)

pub returns-clause-narrow : goal.returns-clause-narrow
returns-clause-narrow c = rw (← c.self.view_is) (and_narrow c.self.inside.bits _)

pub returns-clause-value : goal.returns-clause-value
returns-clause-value c = rw (← c.self.view_is) (and_bit_value c.self.inside.bits c.args.n c.requires.high)
