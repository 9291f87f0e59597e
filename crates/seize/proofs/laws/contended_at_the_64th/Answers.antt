use Rattle.cl_base.specs.declared.seizing.SeizeEnd.TheVariants.{Contended}
use Rattle.seize.proofs.Past.{ending, contends}
use Rattle.seize.proofs.laws.contended_at_the_64th.Goals as goal

pub returns-clause-only : goal.returns-clause-only
returns-clause-only c = λ s answers key. ending s answers (Contended key)

pub returns-clause-whenever : goal.returns-clause-whenever
returns-clause-whenever c = contends
