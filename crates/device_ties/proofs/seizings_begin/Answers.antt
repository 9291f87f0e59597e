use Rattle.device_ties.proofs.Others as others
use Rattle.device_ties.proofs.seizings_begin.Goals as goal

pub returns : goal.returns
returns c = others.seizings_begin
