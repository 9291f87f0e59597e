use Rattle.device_machine.proofs.Reached.{reached}
use Rattle.device_machine.proofs.Laws
use Rattle.device_machine.proofs.one_writer_of_the_word.Goals as goal

pub returns : goal.returns
returns c = λ registered events s q n m r a b. Laws.one_writer s (reached registered events s r) q n m a b
