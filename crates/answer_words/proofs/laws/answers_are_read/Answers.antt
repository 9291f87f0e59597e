use Rattle.answer_words.proofs.Replies.{answer_read}
use Rattle.answer_words.proofs.laws.answers_are_read.Goals as goal

pub returns : goal.returns
returns c = record { read = answer_read }
