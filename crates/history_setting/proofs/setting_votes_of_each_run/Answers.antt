use Rattle.history_setting.proofs.Votes as proof
use Rattle.history_setting.proofs.setting_votes_of_each_run.Goals as goal

pub returns : goal.returns
returns c = proof.setting_votes_of_each_run
