use Rattle.membership_machine.proofs.Preserved.{holds_of}
use Rattle.membership_machine.proofs.Lineages.{records}
use Rattle.membership_machine.proofs.records_agree.Goals as goal

pub returns : goal.returns
returns c = λ S es w r meet. records S w (holds_of S es w r) meet
