use Rattle.std.proofs.Common.{◌∙◌, ℕ, List, ap, sym, length}
use Rattle.interconnect.specs.Links.{Links, count_on}
use Rattle.interconnect.specs.Stored.{all_stored}
use Rattle.interconnect.proofs.Indexes.{count_shown}
use Rattle.interconnect.proofs.flight.Flight.in_flight.Goals as goal

pub returns : goal.returns
returns c =
    c.count.ensures.value
    ∙ ap (λ (l : List ℕ). length l) (c.self.invariant.index c.args.from c.args.to c.count.ensures.nodes)
    ∙ sym (count_shown c.self.inside.pool (all_stored c.self.inside.packets c.self.inside.numbers.held) c.args.from c.args.to)
    ∙ ap (λ (l : Links). count_on l.packets c.args.from c.args.to) c.self.view_is
