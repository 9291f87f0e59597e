use Rattle.history_setting.proofs.Telling as proof
use Rattle.history_setting.proofs.setting_reads_words.Goals as goal

pub returns : goal.returns
returns c = proof.setting_reads_words
