use Rattle.device_queue.proofs.Ordered.{ended_has_no_join, ended_has_no_task}
use Rattle.device_queue.proofs.laws.joined_has_no_task.Goals as goal

pub returns-clause-joining : goal.returns-clause-joining
returns-clause-joining c = ended_has_no_join

pub returns-clause-task : goal.returns-clause-task
returns-clause-task c = ended_has_no_task
