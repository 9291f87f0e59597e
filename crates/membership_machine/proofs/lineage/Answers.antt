use Rattle.membership_machine.proofs.Preserved.{holds_of}
use Rattle.membership_machine.proofs.Lineages.{follows}
use Rattle.membership_machine.proofs.lineage.Goals as goal

pub returns : goal.returns
returns c = λ S es w q r meet k. follows S w (holds_of S es w r) meet q k
