use Rattle.cluster_machine.proofs.Whole.{in_order}
use Rattle.cluster_machine.proofs.Safety.{records}
use Rattle.cluster_machine.proofs.records_agree.Goals as goal

pub returns : goal.returns
returns c = λ S registered es w r. records S w (in_order S registered es w r)
