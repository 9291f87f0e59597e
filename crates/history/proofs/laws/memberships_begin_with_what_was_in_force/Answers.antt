use Rattle.history.proofs.Keeping.{begins}
use Rattle.history.proofs.laws.memberships_begin_with_what_was_in_force.Goals as goal

pub returns : goal.returns
returns c = begins
