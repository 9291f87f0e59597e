use Rattle.wire.proofs.Messages.{apart}
use Rattle.wire.proofs.laws.spellings_are_apart.Goals as goal

pub returns : goal.returns
returns c = record { apart = apart }
