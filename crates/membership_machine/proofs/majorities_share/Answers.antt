use Rattle.membership_machine.proofs.Lineages.{majorities}
use Rattle.membership_machine.proofs.majorities_share.Goals as goal

pub returns : goal.returns
returns c = majorities
