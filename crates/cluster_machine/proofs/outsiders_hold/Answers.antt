use Rattle.cluster_machine.proofs.Whole.{in_order}
use Rattle.cluster_machine.proofs.Safety.{outsiders}
use Rattle.cluster_machine.proofs.outsiders_hold.Goals as goal

pub returns : goal.returns
returns c = λ S registered es w r. outsiders S w (in_order S registered es w r)
