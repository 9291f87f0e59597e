use Rattle.seize.proofs.Knowing.{tells, join_tells}
use Rattle.seize.proofs.laws.each_answer_tells.Goals as goal

pub returns-clause-seizing : goal.returns-clause-seizing
returns-clause-seizing c = tells

pub returns-clause-joining : goal.returns-clause-joining
returns-clause-joining c = join_tells
