use Rattle.history.proofs.Reading.{nothing_taken}
use Rattle.history.proofs.laws.left_out_writes_nothing.Goals as goal

pub returns : goal.returns
returns c = nothing_taken
