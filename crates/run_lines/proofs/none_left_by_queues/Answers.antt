use Rattle.run_lines.proofs.rounds.Runs as proof
use Rattle.run_lines.proofs.none_left_by_queues.Goals as goal

pub returns : goal.returns
returns c = proof.none_left_by_queues
