use Rattle.word_laws.proofs.Commands.{update_told}
use Rattle.word_laws.proofs.laws.same_words_same_update.Goals as goal

pub returns : goal.returns
returns c = update_told
