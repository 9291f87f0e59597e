use Rattle.device_machine.proofs.Reached.{reached}
use Rattle.device_machine.proofs.Laws
use Rattle.device_machine.proofs.joined_is_member.Goals as goal

pub returns : goal.returns
returns c = λ registered events s n r j. Laws.joined s (reached registered events s r) n j
