use Rattle.pgr_device.proofs.Laws.{holder, holder_keyed}
use Rattle.pgr_device.proofs.law.holder_is_registered.Goals as goal

pub returns-clause-without_keys : goal.returns-clause-without_keys
returns-clause-without_keys c = holder

pub returns-clause-with_keys : goal.returns-clause-with_keys
returns-clause-with_keys c = holder_keyed
