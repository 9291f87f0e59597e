use Rattle.membership_machine.proofs.Preserved.{holds_of, run_goes}
use Rattle.membership_machine.proofs.told_facts_stay.Goals as goal

pub returns : goal.returns
returns c = λ S es ls w v r l. (run_goes S w ls v (holds_of S es w r) l).grows
