use Rattle.cluster_machine.proofs.Whole.{in_order}
use Rattle.cluster_machine.proofs.Safety.{tasks}
use Rattle.cluster_machine.proofs.tasks_hold.Goals as goal

pub returns : goal.returns
returns c = λ S registered es w r. tasks S w (in_order S registered es w r)
