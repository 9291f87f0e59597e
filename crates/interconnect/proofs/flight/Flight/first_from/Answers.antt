use Rattle.std.proofs.Common.{◌∙◌, sym, ap}
use Rattle.interconnect.specs.Links.{Links, first_from_of}
use Rattle.interconnect.proofs.FirstFrom.{first_shown}
use Rattle.interconnect.proofs.flight.Flight.first_from.Goals as goal

pub returns : goal.returns
returns c =
    c.first_from.ensures ∙ sym (first_shown c.self.inside.pool c.self.inside.packets c.self.inside.numbers.held c.args.number)
    ∙ ap (λ (l : Links). first_from_of l.packets c.args.number) c.self.view_is
