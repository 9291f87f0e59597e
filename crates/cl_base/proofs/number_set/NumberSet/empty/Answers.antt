use Rattle.cl_base.proofs.SetLemmas.{none_of_zero}
use Rattle.cl_base.proofs.number_set.NumberSet.empty.Goals as goal

pub returns-clause-members : goal.returns-clause-members
returns-clause-members c = none_of_zero
