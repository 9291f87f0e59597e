use Rattle.cl_base.specs.declared.seizing.SeizeEnd.TheVariants.{Expelled}
use Rattle.seize.proofs.Past.{ending}
use Rattle.seize.proofs.laws.expelled_without_own_key.Goals as goal

pub returns : goal.returns
returns c = λ s answers. ending s answers Expelled
