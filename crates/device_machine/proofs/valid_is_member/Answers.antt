use Rattle.device_machine.proofs.Reached.{reached}
use Rattle.device_machine.proofs.Laws
use Rattle.device_machine.proofs.valid_is_member.Goals as goal

pub returns-clause-member : goal.returns-clause-member
returns-clause-member c = λ registered events s n r c key h. (Laws.valid_member s (reached registered events s r) n c key h).0

pub returns-clause-promised : goal.returns-clause-promised
returns-clause-promised c = λ registered events s n r c key h. (Laws.valid_member s (reached registered events s r) n c key h).1

pub returns-clause-above : goal.returns-clause-above
returns-clause-above c = λ registered events s n e r c key h. Laws.valid_above s (reached registered events s r) n e c key h
