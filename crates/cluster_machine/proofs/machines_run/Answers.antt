use Rattle.cluster_machine.proofs.Machines.{device_runs, memberships_run}
use Rattle.cluster_machine.proofs.machines_run.Goals as goal

pub returns-clause-memberships : goal.returns-clause-memberships
returns-clause-memberships c = λ S es w v r. memberships_run S w es v r

pub returns-clause-device : goal.returns-clause-device
returns-clause-device c = λ S es w v d r. device_runs S w es v d r
