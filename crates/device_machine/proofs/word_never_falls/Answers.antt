use Rattle.device_machine.proofs.Reached.{never_back}
use Rattle.device_machine.proofs.word_never_falls.Goals as goal

pub returns : goal.returns
returns c = λ registered before later s t r x. (never_back registered before later s t r x).word
