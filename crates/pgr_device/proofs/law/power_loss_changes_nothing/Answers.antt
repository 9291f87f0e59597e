use Rattle.pgr_device.proofs.Laws.{loss_after, loss_answers}
use Rattle.pgr_device.proofs.law.power_loss_changes_nothing.Goals as goal

pub returns-clause-after : goal.returns-clause-after
returns-clause-after c = loss_after

pub returns-clause-answers : goal.returns-clause-answers
returns-clause-answers c = loss_answers
