use Rattle.membership_machine.proofs.Lineages.{starts}
use Rattle.cluster_machine.proofs.Whole.{in_order}
use Rattle.cluster_machine.proofs.starts_are_counted.Goals as goal

pub returns : goal.returns
returns c = λ S registered es w r. starts S w.memberships (in_order S registered es w r).memberships
