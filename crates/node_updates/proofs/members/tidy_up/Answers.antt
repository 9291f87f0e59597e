use Rattle.node_updates.specs.Keeping.{kept_tidy}
use Rattle.node_updates.proofs.members.tidy_up.Goals as goal

pub returns : goal.returns
unfolding kept_tidy
returns c = record { after = c.tidy.ensures.after }
