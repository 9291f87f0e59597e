use Rattle.device_machine.proofs.Reached.{reached}
use Rattle.device_machine.proofs.Laws
use Rattle.device_machine.proofs.quorum_device_meets.Goals as goal

pub returns-clause-member : goal.returns-clause-member
returns-clause-member c = λ registered events s e q r h. Laws.seizer_member s (reached registered events s r) q h

pub returns-clause-meets : goal.returns-clause-meets
returns-clause-meets c = λ registered events s e q r h h' kind lt. (Laws.meets s (reached registered events s r) e q h h' kind lt).1
