use Rattle.device_machine.proofs.Reached.{reached}
use Rattle.device_machine.proofs.Laws
use Rattle.device_machine.proofs.session_is_at_most_the_word.Goals as goal

pub returns-clause-seizing : goal.returns-clause-seizing
returns-clause-seizing c = λ registered events s n r p. ((reached registered events s r).on n).word p.0 p.1

pub returns-clause-joining : goal.returns-clause-joining
returns-clause-joining c = λ registered events s n r p. Laws.joining_word s (reached registered events s r) n p

pub returns-clause-joined : goal.returns-clause-joined
returns-clause-joined c = λ registered events s n r j. Laws.joined_word s (reached registered events s r) n j
