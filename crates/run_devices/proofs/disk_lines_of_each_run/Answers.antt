use Rattle.run_devices.proofs.queues.Disks as proof
use Rattle.run_devices.proofs.disk_lines_of_each_run.Goals as goal

pub returns : goal.returns
returns c = proof.disk_lines_of_each_run
