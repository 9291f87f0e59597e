use Rattle.history_setting.proofs.Telling as proof
use Rattle.history_setting.proofs.refusals_are_read.Goals as goal

pub returns : goal.returns
returns c = proof.refusals_are_read
