use Rattle.membership_machine.proofs.Preserved.{holds_of}
use Rattle.membership_machine.proofs.Lineages.{attempts}
use Rattle.membership_machine.proofs.attempts_differ.Goals as goal

pub returns : goal.returns
returns c = λ S es w r. attempts S w (holds_of S es w r)
