use Rattle.president_laws.proofs.Goals.{groups_begin}
use Rattle.president_laws.proofs.laws.groups_begin.Goals as goal

pub returns : goal.returns
returns c = groups_begin
