use Rattle.device_queue.proofs.Begun.{one_seizing, one_joining}
use Rattle.device_queue.proofs.laws.one_seizing_and_one_joining.Goals as goal

pub returns-clause-seizing : goal.returns-clause-seizing
returns-clause-seizing c = one_seizing

pub returns-clause-joining : goal.returns-clause-joining
returns-clause-joining c = one_joining
