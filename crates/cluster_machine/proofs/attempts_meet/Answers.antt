use Rattle.cluster_machine.proofs.Whole.{in_order}
use Rattle.cluster_machine.proofs.Safety.{meetings}
use Rattle.cluster_machine.proofs.attempts_meet.Goals as goal

pub returns : goal.returns
returns c = λ S registered es w r. meetings S w (in_order S registered es w r)
