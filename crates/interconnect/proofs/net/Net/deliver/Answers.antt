use Rattle.interconnect.proofs.Crowds.{removing_uncrowded}
use Rattle.interconnect.proofs.net.Net.deliver.Goals as goal

pub invariant_of-self : goal.invariant_of-self
invariant_of-self c =
    let k = c.self.invariant in
    (k.0, rw c.lose.ensures.after (removing_uncrowded c.self.inside.flight c.args.number k.1))
