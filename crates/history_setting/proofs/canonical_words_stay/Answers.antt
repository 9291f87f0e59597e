use Rattle.history_setting.proofs.Canonical as proof
use Rattle.history_setting.proofs.canonical_words_stay.Goals as goal

pub returns : goal.returns
returns c = proof.canonical_words_stay
