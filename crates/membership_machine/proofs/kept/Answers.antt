use Rattle.membership_machine.proofs.Preserved.{holds_of}
use Rattle.membership_machine.proofs.Lineages.{acknowledged_kept}
use Rattle.membership_machine.proofs.kept.Goals as goal

pub returns : goal.returns
returns c = λ S es w e q r meet st l k. acknowledged_kept S w (holds_of S es w r) meet e q st l k
