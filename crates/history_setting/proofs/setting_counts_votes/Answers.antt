use Rattle.history_setting.proofs.Votes as proof
use Rattle.history_setting.proofs.setting_counts_votes.Goals as goal

pub returns : goal.returns
returns c = proof.setting_counts_votes
