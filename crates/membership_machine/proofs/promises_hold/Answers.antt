use Rattle.membership_machine.proofs.Preserved.{holds_of}
use Rattle.membership_machine.proofs.Lineages.{promises}
use Rattle.membership_machine.proofs.promises_hold.Goals as goal

pub returns : goal.returns
returns c = λ S es w r. promises S w (holds_of S es w r)
