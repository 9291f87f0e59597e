use Rattle.run_lines.proofs.rounds.Agree as proof
use Rattle.run_lines.proofs.parts_are_rounds.Goals as goal

pub returns : goal.returns
returns c = proof.parts_are_rounds
