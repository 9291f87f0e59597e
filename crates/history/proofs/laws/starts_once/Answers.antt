use Rattle.history.proofs.Reading.{starts_once}
use Rattle.history.proofs.laws.starts_once.Goals as goal

pub returns : goal.returns
returns c = starts_once
