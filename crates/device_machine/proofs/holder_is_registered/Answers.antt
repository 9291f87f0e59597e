use Rattle.device_machine.proofs.Reached.{reached}
use Rattle.device_machine.proofs.holder_is_registered.Goals as goal

pub returns : goal.returns
returns c = λ registered events s r h. (reached registered events s r).device.holder h
