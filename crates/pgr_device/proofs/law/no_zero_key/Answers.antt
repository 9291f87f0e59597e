use Rattle.pgr_device.proofs.Laws.{no_zero, no_zero_keyed}
use Rattle.pgr_device.proofs.law.no_zero_key.Goals as goal

pub returns-clause-without_keys : goal.returns-clause-without_keys
returns-clause-without_keys c = no_zero

pub returns-clause-with_keys : goal.returns-clause-with_keys
returns-clause-with_keys c = no_zero_keyed
