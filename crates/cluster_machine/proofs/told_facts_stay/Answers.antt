use Rattle.device_machine.proofs.Grown.{run_grows}
use Rattle.cluster_machine.specs.Machines.{run_at}
use Rattle.cluster_machine.proofs.Machines.{device_runs}
use Rattle.cluster_machine.proofs.Whole.{in_order, run_goes}
use Rattle.cluster_machine.proofs.told_facts_stay.Goals as goal

pub returns-clause-memberships : goal.returns-clause-memberships
returns-clause-memberships c = λ S registered es ls w v r l. (run_goes S w ls v (in_order S registered es w r) l).memberships

pub returns-clause-devices : goal.returns-clause-devices
returns-clause-devices c = λ S registered es ls w v d r l. (run_goes S w ls v (in_order S registered es w r) l).device d

pub returns-clause-seizings : goal.returns-clause-seizings
returns-clause-seizings c = λ S registered es ls w v d r l. run_grows (w.device d) (v.device d) (run_at w ls d) ((in_order S registered es w r).device d) (device_runs S w ls v d l)
