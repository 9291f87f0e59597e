use Rattle.cl_base.specs.declared.seizing.SeizeEnd.TheVariants.{Greater}
use Rattle.seize.proofs.Past.{ending}
use Rattle.seize.proofs.laws.greater_is_not_the_epoch.Goals as goal

pub returns : goal.returns
returns c = λ s answers word. ending s answers (Greater word)
