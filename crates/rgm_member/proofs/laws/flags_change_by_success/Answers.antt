use Rattle.rgm_member.proofs.OrderLaws.{others_stay, success_alone}
use Rattle.rgm_member.proofs.laws.flags_change_by_success.Goals as goal

pub returns-clause-success : goal.returns-clause-success
returns-clause-success c = success_alone

pub returns-clause-others : goal.returns-clause-others
returns-clause-others c = others_stay
