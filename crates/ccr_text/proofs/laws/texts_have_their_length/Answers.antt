use Rattle.ccr_text.proofs.TextLengths.{texts}
use Rattle.ccr_text.proofs.laws.texts_have_their_length.Goals as goal

pub returns : goal.returns
returns c = record { length = texts }
