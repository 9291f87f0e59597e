use Rattle.run_history.proofs.Obeys as proof
use Rattle.run_history.proofs.disk_rule_by_writes.Goals as goal

pub returns : goal.returns
returns c = proof.disk_rule_by_writes
