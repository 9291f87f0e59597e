use Rattle.cl_base.proofs.SetLemmas.{tests_bit}
use Rattle.cl_base.proofs.number_set.NumberSet.has.Goals as goal

pub returns : goal.returns
returns c = rw (← c.self.view_is) (tests_bit c.self.inside.bits c.args.n c.requires.low)
