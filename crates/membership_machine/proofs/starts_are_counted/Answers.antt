use Rattle.membership_machine.proofs.Preserved.{holds_of}
use Rattle.membership_machine.proofs.Lineages.{starts}
use Rattle.membership_machine.proofs.starts_are_counted.Goals as goal

pub returns : goal.returns
returns c = λ S es w r. starts S w (holds_of S es w r)
