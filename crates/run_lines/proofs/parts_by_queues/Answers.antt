use Rattle.run_lines.proofs.rounds.Runs as proof
use Rattle.run_lines.proofs.parts_by_queues.Goals as goal

pub returns : goal.returns
returns c = proof.parts_by_queues
