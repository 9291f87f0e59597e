use Rattle.device_machine.proofs.Reached.{never_back}
use Rattle.device_machine.proofs.reservation_stays.Goals as goal

pub returns : goal.returns
returns c = λ registered before later s t r x h. (never_back registered before later s t r x).reserved h
