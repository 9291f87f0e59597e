use Rattle.cl_base.specs.declared.seizing.SeizeEnd.TheVariants.{Held}
use Rattle.seize.proofs.Past.{ending}
use Rattle.seize.proofs.laws.held_after_members_alone.Goals as goal

pub returns : goal.returns
returns c = λ s answers keys. ending s answers (Held keys)
