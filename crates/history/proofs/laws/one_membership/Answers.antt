use Rattle.history.proofs.Reading.{same_membership}
use Rattle.history.specs.Member.{member_of}
use Rattle.history.proofs.laws.one_membership.Goals as goal

pub returns : goal.returns
returns c = λ moments n e f a b. same_membership e f (member_of n moments) a b
