use Rattle.device_machine.proofs.Reached.{reached}
use Rattle.device_machine.proofs.held_is_reserved.Goals as goal

pub returns : goal.returns
returns c = λ registered events s q r h. (reached registered events s r).device.reserved q h
