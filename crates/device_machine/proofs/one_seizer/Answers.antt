use Rattle.std.proofs.Common.{sym, ◌∙◌}
use Rattle.device_machine.proofs.Reached.{reached}
use Rattle.device_machine.proofs.Laws
use Rattle.device_machine.proofs.one_seizer.Goals as goal

pub returns : goal.returns
returns c = λ registered events s q n m r a b. Laws.one_seizer s (reached registered events s r) q n a ∙ sym (Laws.one_seizer s (reached registered events s r) q m b)
