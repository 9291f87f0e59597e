use Rattle.history_setting.proofs.Telling as proof
use Rattle.history_setting.proofs.no_update_is_a_query.Goals as goal

pub returns : goal.returns
returns c = proof.no_update_is_a_query
