use Rattle.device_machine.proofs.Reached.{never_back}
use Rattle.device_machine.proofs.nothing_goes_back.Goals as goal

pub returns : goal.returns
returns c = λ registered before later s t r x. (never_back registered before later s t r x)
