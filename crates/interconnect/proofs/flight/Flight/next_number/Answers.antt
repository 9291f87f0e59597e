use Rattle.interconnect.specs.Links.{Links, NumbersRise}
use Rattle.std.proofs.Common.{subst}
use Rattle.interconnect.specs.Stored.{all_stored}
use Rattle.interconnect.proofs.FirstFrom.{rising_shown}
use Rattle.interconnect.proofs.flight.Flight.next_number.Goals as goal

pub returns-clause-rising : goal.returns-clause-rising
returns-clause-rising c =
    subst (λ (l : Links). NumbersRise 1 l.packets l.next) c.self.view_is
    (rising_shown c.self.inside.pool 1 c.self.inside.numbers.next (all_stored c.self.inside.packets c.self.inside.numbers.held) c.self.invariant.sound.rising)
