use Rattle.word_laws.proofs.Updates.{update_spelled}
use Rattle.word_laws.proofs.laws.updates_are_spelled.Goals as goal

pub returns : goal.returns
returns c = update_spelled
