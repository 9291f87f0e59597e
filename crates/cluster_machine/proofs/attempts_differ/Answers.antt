use Rattle.cluster_machine.proofs.Whole.{in_order}
use Rattle.cluster_machine.proofs.Safety.{attempts}
use Rattle.cluster_machine.proofs.attempts_differ.Goals as goal

pub returns : goal.returns
returns c = λ S registered es w r. attempts S w (in_order S registered es w r)
