use Rattle.cluster_machine.proofs.Whole.{in_order}
use Rattle.cluster_machine.proofs.Safety.{promises}
use Rattle.cluster_machine.proofs.promises_hold.Goals as goal

pub returns : goal.returns
returns c = λ S registered es w r. promises S w (in_order S registered es w r)
