use Rattle.history.proofs.Keeping.{places_differ}
use Rattle.history.proofs.laws.places_are_taken_once.Goals as goal

pub returns : goal.returns
returns c = places_differ
