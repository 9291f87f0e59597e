use Rattle.membership_machine.proofs.Promises.{tried_of}
use Rattle.cluster_machine.specs.Cluster.{first_cluster}
use Rattle.cluster_machine.specs.Machines.{run_of_memberships}
use Rattle.cluster_machine.proofs.Machines.{memberships_run}
use Rattle.cluster_machine.proofs.promises_are_tried.Goals as goal

pub returns : goal.returns
returns c = λ S registered es w r. tried_of S (run_of_memberships es) w.memberships (memberships_run S (first_cluster registered) es w r)
