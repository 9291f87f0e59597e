use Rattle.membership_machine.proofs.Promises.{tried_of}
use Rattle.membership_machine.proofs.promises_are_tried.Goals as goal

pub returns : goal.returns
returns c = λ S es w r. tried_of S es w r
