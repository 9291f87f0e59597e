use Rattle.cluster_ties.proofs.Safe as proof
use Rattle.cluster_ties.proofs.reached_states_are_safe.Goals as goal

pub returns-clause-reached : goal.returns-clause-reached
returns-clause-reached c = proof.reached_is_safe

pub returns-clause-writes : goal.returns-clause-writes
returns-clause-writes c = proof.writes_are_safe
