use Rattle.group_samples.proofs.FailoverHistory.{history}
use Rattle.group_samples.proofs.samples.the_failover_is_a_history.Goals as goal

pub returns : goal.returns
returns c = record { history = history }
