use Rattle.seize.specs.declared.kind.JoinResult.TheVariants.{Joined, Late, Fault}
use Rattle.seize.proofs.JoinPast.{join_ending}
use Rattle.seize.proofs.laws.joined_after_own_key.Goals as goal

pub returns-clause-joined : goal.returns-clause-joined
returns-clause-joined c = λ epoch me cluster answers. join_ending epoch me cluster answers Joined

pub returns-clause-late : goal.returns-clause-late
returns-clause-late c = λ epoch me cluster answers word. join_ending epoch me cluster answers (Late word)

pub returns-clause-fault : goal.returns-clause-fault
returns-clause-fault c = λ epoch me cluster answers. join_ending epoch me cluster answers Fault
