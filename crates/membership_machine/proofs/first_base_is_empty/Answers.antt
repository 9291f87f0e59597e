use Rattle.membership_machine.proofs.Preserved.{holds_of}
use Rattle.membership_machine.proofs.Lineages.{first_empty}
use Rattle.membership_machine.proofs.first_base_is_empty.Goals as goal

pub returns : goal.returns
returns c = λ S es w q r meet k z. first_empty S w (holds_of S es w r) meet q k z
