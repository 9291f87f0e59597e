use Rattle.president_laws.proofs.Decisions.{orders_are_allowed}
use Rattle.president_laws.proofs.laws.orders_are_allowed.Goals as goal

pub returns : goal.returns
returns c = orders_are_allowed
