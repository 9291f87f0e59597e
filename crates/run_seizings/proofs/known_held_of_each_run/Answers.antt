use Rattle.run_seizings.proofs.Runs as proof
use Rattle.run_seizings.proofs.known_held_of_each_run.Goals as goal

pub returns : goal.returns
returns c = proof.known_held_of_each_run
