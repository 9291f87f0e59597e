use Rattle.device_machine.proofs.Reached.{reached}
use Rattle.device_machine.proofs.Laws
use Rattle.device_machine.proofs.word_is_an_attempt.Goals as goal

pub returns : goal.returns
returns c = λ registered events s r. Laws.word_of_attempt s (reached registered events s r)
