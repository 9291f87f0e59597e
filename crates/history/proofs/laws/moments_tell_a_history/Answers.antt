use Rattle.std.proofs.Common.{refl}
use Rattle.history.proofs.laws.moments_tell_a_history.Goals as goal

pub returns : goal.returns
returns c = λ S moments h. record { moments = moments; said = refl; told = refl; history = h }
