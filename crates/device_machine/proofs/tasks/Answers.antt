use Rattle.device_machine.proofs.Reached.{reached}
use Rattle.device_machine.proofs.Laws
use Rattle.device_machine.proofs.tasks.Goals as goal

pub returns-clause-seizings : goal.returns-clause-seizings
returns-clause-seizings c = λ registered events s n q r. ((reached registered events s r).past n).seizings q

pub returns-clause-joinings : goal.returns-clause-joinings
returns-clause-joinings c = λ registered events s n q r. ((reached registered events s r).past n).joinings q

pub returns-clause-at_install : goal.returns-clause-at_install
returns-clause-at_install c = λ registered events s n r g b. Laws.at_install s (reached registered events s r) n g b

pub returns-clause-joined : goal.returns-clause-joined
returns-clause-joined c = λ registered events s n r j. Laws.over_when_joined s (reached registered events s r) n j
