use Rattle.device_machine.proofs.Kept.{step_grows}
use Rattle.device_machine.proofs.Grown.{run_grows}
use Rattle.device_machine.proofs.Reached.{reached}
use Rattle.device_machine.proofs.told_facts_stay.Goals as goal

pub returns-clause-event : goal.returns-clause-event
returns-clause-event c = λ registered events s e r a. step_grows s e (reached registered events s r) a

pub returns-clause-run : goal.returns-clause-run
returns-clause-run c = λ registered before later s t r x. run_grows s t later (reached registered before s r) x
