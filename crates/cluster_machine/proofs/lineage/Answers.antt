use Rattle.cluster_machine.proofs.Whole.{in_order}
use Rattle.cluster_machine.proofs.Safety.{follows}
use Rattle.cluster_machine.proofs.lineage.Goals as goal

pub returns : goal.returns
returns c = λ S registered es w q r k. follows S w (in_order S registered es w r) q k
