use Rattle.command_laws.proofs.Accepting.{accepting}
use Rattle.command_laws.proofs.laws.accepted_updates_hold.Goals as goal

pub returns : goal.returns
returns c = record { hold = accepting }
