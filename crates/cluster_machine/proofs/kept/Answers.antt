use Rattle.cluster_machine.proofs.Whole.{in_order}
use Rattle.cluster_machine.proofs.Safety.{acknowledged_kept}
use Rattle.cluster_machine.proofs.kept.Goals as goal

pub returns : goal.returns
returns c = λ S registered es w e q r s l k. acknowledged_kept S w (in_order S registered es w r) e q s l k
