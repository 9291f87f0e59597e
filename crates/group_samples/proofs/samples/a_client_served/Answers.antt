use Rattle.group_samples.proofs.Serving.{holds, answers, whole}
use Rattle.group_samples.proofs.samples.a_client_served.Goals as goal

pub returns : goal.returns
returns c = record { holds = holds; answers = answers; whole = whole }
