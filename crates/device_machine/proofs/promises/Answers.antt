use Rattle.device_machine.proofs.Reached.{reached, never_back}
use Rattle.device_machine.proofs.Laws
use Rattle.device_machine.proofs.promises.Goals as goal

pub returns-clause-never_falls : goal.returns-clause-never_falls
returns-clause-never_falls c = λ registered before later s t n r x. (never_back registered before later s t r x).promised n

pub returns-clause-session : goal.returns-clause-session
returns-clause-session c = λ registered events s n r. Laws.session_of s (reached registered events s r) n

pub returns-clause-installed : goal.returns-clause-installed
returns-clause-installed c = λ registered events s n r. ((reached registered events s r).node n).installed
