use Rattle.seize.proofs.DeviceAnswers.{device_gives}
use Rattle.seize.proofs.laws.a_device_gives_no_fault.Goals as goal

pub returns-clause-answers : goal.returns-clause-answers
returns-clause-answers c = device_gives
