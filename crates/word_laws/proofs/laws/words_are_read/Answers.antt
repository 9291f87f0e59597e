use Rattle.word_laws.proofs.Commands.{update_read}
use Rattle.word_laws.proofs.laws.words_are_read.Goals as goal

pub returns : goal.returns
returns c = update_read
