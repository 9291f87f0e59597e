use Rattle.command_laws.proofs.Counting.{counting}
use Rattle.command_laws.proofs.laws.updates_are_counted.Goals as goal

pub returns : goal.returns
returns c = record { count = counting }
