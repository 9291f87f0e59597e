use Rattle.group_samples.proofs.Fault.{holds, answers, whole}
use Rattle.group_samples.proofs.samples.a_fault.Goals as goal

pub returns : goal.returns
returns c = record { holds = holds; answers = answers; whole = whole }
