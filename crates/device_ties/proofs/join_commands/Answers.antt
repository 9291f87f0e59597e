use Rattle.device_ties.proofs.Joinings.{carried}
use Rattle.device_ties.proofs.join_commands.Goals as goal

pub returns : goal.returns
returns c = λ cluster n s validated has_joined j p f c low high tied at due. carried cluster n low high s validated has_joined j p tied at f c due
