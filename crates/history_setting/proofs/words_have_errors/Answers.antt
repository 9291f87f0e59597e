use Rattle.history_setting.proofs.Telling as proof
use Rattle.history_setting.proofs.words_have_errors.Goals as goal

pub returns : goal.returns
returns c = proof.words_have_errors
