use Rattle.device_machine.proofs.Reached.{reached, never_back}
use Rattle.device_machine.proofs.Laws
use Rattle.device_machine.proofs.greatest_held.Goals as goal

pub returns-clause-is_held : goal.returns-clause-is_held
returns-clause-is_held c = λ registered events s r h. (reached registered events s r).device.top_held h

pub returns-clause-greatest : goal.returns-clause-greatest
returns-clause-greatest c = λ registered events s q r h. Laws.below_top s (reached registered events s r) q h

pub returns-clause-never_falls : goal.returns-clause-never_falls
returns-clause-never_falls c = λ registered before later s t r x. (never_back registered before later s t r x).top

pub returns-clause-word : goal.returns-clause-word
returns-clause-word c = λ registered events s r. (reached registered events s r).device.top_word

pub returns-clause-counted : goal.returns-clause-counted
returns-clause-counted c = λ registered events s q r h. Laws.held s (reached registered events s r) q h
