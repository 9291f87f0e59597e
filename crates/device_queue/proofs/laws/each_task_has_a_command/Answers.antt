use Rattle.device_queue.proofs.Ordered.{queue_has_command}
use Rattle.device_queue.proofs.laws.each_task_has_a_command.Goals as goal

pub returns-clause-queue : goal.returns-clause-queue
returns-clause-queue c = queue_has_command
