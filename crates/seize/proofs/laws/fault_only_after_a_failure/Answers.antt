use Rattle.cl_base.specs.declared.seizing.SeizeEnd.TheVariants.{Fault}
use Rattle.seize.proofs.Past.{ending}
use Rattle.seize.proofs.laws.fault_only_after_a_failure.Goals as goal

pub returns-clause-only : goal.returns-clause-only
returns-clause-only c = λ s answers. ending s answers Fault
