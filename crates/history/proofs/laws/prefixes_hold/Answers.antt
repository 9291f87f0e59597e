use Rattle.history.proofs.Prefixes.{holds_before}
use Rattle.history.proofs.laws.prefixes_hold.Goals as goal

pub returns : goal.returns
returns c = holds_before
