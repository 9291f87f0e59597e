use Rattle.cluster_machine.proofs.Whole.{in_order}
use Rattle.cluster_machine.proofs.Safety.{reservations}
use Rattle.cluster_machine.proofs.reservations_hold.Goals as goal

pub returns : goal.returns
returns c = λ S registered es w r. reservations S w (in_order S registered es w r)
