use Rattle.std.proofs.Common.{arith, ◌≡◌, ◌<◌, sym, ap, unwrap_or}
use Rattle.interconnect.specs.Links.{first_from_of}
use Rattle.world_model.specs.Worlds.{WorldState}
use Rattle.world.proofs.Brings.{none_between}
use Rattle.world.proofs.world.World.next_in_flight.Goals as goal

pub returns-clause-between : goal.returns-clause-between
returns-clause-between c = λ k from lt.
    let e : c.self.inside.links ≡ c.args.self.now.links = ap (λ (w : WorldState). w.links) c.self.view_is in
    let l : k < c.unwrap_or.result = omega arith in
    let u : c.unwrap_or.result ≡ unwrap_or (first_from_of c.self.inside.links.packets c.args.number) c.next_number-next.result = cc in
    let s = rw u at l in
    rw (sym e) (none_between c.self.inside.links.packets 1 c.self.inside.links.next c.next_number-next.result c.args.number k c.next_number-next.ensures.rising from s)
