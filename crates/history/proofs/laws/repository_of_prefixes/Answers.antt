use Rattle.history.proofs.Prefixes.{of_prefixes}
use Rattle.history.proofs.laws.repository_of_prefixes.Goals as goal

pub returns : goal.returns
returns c = of_prefixes
