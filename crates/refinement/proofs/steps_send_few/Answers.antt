use Rattle.refinement.proofs.node_bounds.Handlers.{steps_send_few, steps_stay_bounded}
use Rattle.refinement.proofs.steps_send_few.Goals as goal

pub returns-clause-few : goal.returns-clause-few
returns-clause-few c = steps_send_few

pub returns-clause-bounded : goal.returns-clause-bounded
returns-clause-bounded c = steps_stay_bounded
