use Rattle.history_samples.proofs.TwoNodes.{history}
use Rattle.history_samples.proofs.samples.two_nodes_form.Goals as goal

pub returns : goal.returns
returns c = record { history = history }
