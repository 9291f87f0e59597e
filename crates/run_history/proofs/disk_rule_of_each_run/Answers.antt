use Rattle.run_history.proofs.DiskEachRun as proof
use Rattle.run_history.proofs.disk_rule_of_each_run.Goals as goal

pub returns : goal.returns
returns c = proof.disk_rule_of_each_run
