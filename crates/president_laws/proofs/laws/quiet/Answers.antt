use Rattle.president_laws.proofs.Decisions.{quiet}
use Rattle.president_laws.proofs.laws.quiet.Goals as goal

pub returns : goal.returns
returns c = quiet
