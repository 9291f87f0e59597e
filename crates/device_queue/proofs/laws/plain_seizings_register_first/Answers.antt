use Rattle.device_queue.proofs.Plain.{none_registers_later}
use Rattle.device_queue.proofs.laws.plain_seizings_register_first.Goals as goal

pub returns-clause-later : goal.returns-clause-later
returns-clause-later c = none_registers_later
