use Rattle.std.proofs.Common.{rules}
use Rattle.shared_address.proofs.TurnLemmas.{same_targets}
use Rattle.shared_address.proofs.turns.Turns.see.Goals as goal

pub returns-else-ne-clause-targets : goal.returns-else-ne-clause-targets
returns-else-ne-clause-targets c = same_targets _ _ (search rules)
