use Rattle.pgr_device.proofs.Laws.{once, once_keyed, path, path_keyed}
use Rattle.pgr_device.proofs.law.registered_once.Goals as goal

pub returns-clause-once : goal.returns-clause-once
returns-clause-once c = once

pub returns-clause-once_with_keys : goal.returns-clause-once_with_keys
returns-clause-once_with_keys c = once_keyed

pub returns-clause-path : goal.returns-clause-path
returns-clause-path c = path

pub returns-clause-path_with_keys : goal.returns-clause-path_with_keys
returns-clause-path_with_keys c = path_keyed
