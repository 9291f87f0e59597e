use Rattle.device_machine.proofs.Reached.{reached}
use Rattle.device_machine.proofs.Laws
use Rattle.device_machine.proofs.outsiders.Goals as goal

pub returns-clause-valid : goal.returns-clause-valid
returns-clause-valid c = λ registered events s n r h out key. (Laws.outsider s (reached registered events s r) n h out key).0

pub returns-clause-joined : goal.returns-clause-joined
returns-clause-joined c = λ registered events s n r h out key. (Laws.outsider s (reached registered events s r) n h out key).1
