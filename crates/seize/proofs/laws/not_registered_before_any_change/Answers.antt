use Rattle.cl_base.specs.declared.seizing.SeizeEnd.TheVariants.{NotRegistered}
use Rattle.seize.proofs.Past.{ending}
use Rattle.seize.proofs.laws.not_registered_before_any_change.Goals as goal

pub returns-clause-only : goal.returns-clause-only
returns-clause-only c = λ s answers keys. ending s answers (NotRegistered keys)
