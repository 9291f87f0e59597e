use Rattle.cluster_machine.proofs.Whole.{in_order}
use Rattle.cluster_machine.proofs.Safety.{valid_nodes}
use Rattle.cluster_machine.proofs.valid_nodes_hold.Goals as goal

pub returns : goal.returns
returns c = λ S registered es w r. valid_nodes S w (in_order S registered es w r)
