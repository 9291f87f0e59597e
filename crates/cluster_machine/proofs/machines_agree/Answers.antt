use Rattle.cluster_machine.proofs.Whole.{in_order}
use Rattle.cluster_machine.proofs.machines_agree.Goals as goal

pub returns : goal.returns
returns c = λ S registered es w d r. (in_order S registered es w r).agrees d
