use Rattle.cluster_machine.proofs.Whole.{in_order}
use Rattle.cluster_machine.proofs.Safety.{first_empty}
use Rattle.cluster_machine.proofs.first_base_is_empty.Goals as goal

pub returns : goal.returns
returns c = λ S registered es w q r k z. first_empty S w (in_order S registered es w r) q k z
