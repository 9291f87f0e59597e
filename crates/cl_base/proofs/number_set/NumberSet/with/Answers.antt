use Rattle.cl_base.proofs.SetLemmas.{has_with, or_narrow, or_bit_value}
use Rattle.cl_base.proofs.number_set.NumberSet.with.Goals as goal

pub returns-clause-members : goal.returns-clause-members
returns-clause-members c = rw (← c.self.view_is) (has_with c.self.inside.bits c.args.n c.requires.low c.requires.high)

pub returns-clause-narrow : goal.returns-clause-narrow
returns-clause-narrow c = rw (← c.self.view_is) (or_narrow c.self.inside.bits c.args.n)

pub returns-clause-value : goal.returns-clause-value
returns-clause-value c = rw (← c.self.view_is) (or_bit_value c.self.inside.bits c.args.n c.requires.high)
