use Rattle.cluster_machine.proofs.Whole.{in_order}
use Rattle.cluster_machine.proofs.Safety.{words}
use Rattle.cluster_machine.proofs.words_hold.Goals as goal

pub returns : goal.returns
returns c = λ S registered es w r. words S w (in_order S registered es w r)
