use Rattle.device_machine.proofs.Laws as laws
use Rattle.cluster_machine.proofs.Whole.{in_order}
use Rattle.cluster_machine.proofs.no_seizing_at_install.Goals as goal

pub returns : goal.returns
returns c = λ S registered es w d n r m b. laws.at_install (w.device d) ((in_order S registered es w r).device d) n m b
