use Rattle.cluster_machine.proofs.Whole.{in_order}
use Rattle.cluster_machine.proofs.Safety.{write_is_safe, joined_session}
use Rattle.cluster_machine.proofs.disk_rule.Goals as goal

pub returns-clause-write : goal.returns-clause-write
returns-clause-write c = λ S registered es w d n x r a. write_is_safe S w (in_order S registered es w r) d n x a

pub returns-clause-joined : goal.returns-clause-joined
returns-clause-joined c = λ S registered es w d n f r a k h. joined_session S w (in_order S registered es w r) d n f a k h
