use Rattle.group_samples.proofs.Failover.{holds, answers, whole}
use Rattle.group_samples.proofs.samples.a_failover.Goals as goal

pub returns : goal.returns
returns c = record { holds = holds; answers = answers; whole = whole }
