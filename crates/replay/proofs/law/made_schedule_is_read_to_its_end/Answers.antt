use Rattle.replay.proofs.MadeOutcomes.{made_outcome}
use Rattle.replay.proofs.law.made_schedule_is_read_to_its_end.Goals as goal

pub returns : goal.returns
returns c = made_outcome
