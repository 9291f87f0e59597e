use Rattle.cluster_machine.proofs.Machines.{joined_member}
use Rattle.cluster_machine.proofs.Whole.{in_order}
use Rattle.cluster_machine.proofs.joined_is_member.Goals as goal

pub returns : goal.returns
returns c = λ S registered es w d n r j. joined_member S w d n (in_order S registered es w r) j
