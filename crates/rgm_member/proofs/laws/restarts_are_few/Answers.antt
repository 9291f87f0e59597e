use Rattle.rgm_member.proofs.OrderLaws.{restarts_are_few}
use Rattle.rgm_member.proofs.laws.restarts_are_few.Goals as goal

pub returns : goal.returns
returns c = restarts_are_few
