use Rattle.history.proofs.Keeping.{kept}
use Rattle.history.proofs.laws.kept_follows.Goals as goal

pub returns : goal.returns
returns c = kept
