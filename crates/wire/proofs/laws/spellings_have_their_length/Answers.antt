use Rattle.wire.proofs.Lengths.{spellings}
use Rattle.wire.proofs.laws.spellings_have_their_length.Goals as goal

pub returns : goal.returns
returns c = record { length = spellings }
