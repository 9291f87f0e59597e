use Rattle.std.proofs.Common.{◌≡◌, ◌∙◌, ◌==◌, Some, None, List, refl, sym, ap}
use Rattle.interconnect.specs.Links.{Links, packet_of}
use Rattle.interconnect.specs.Stored.{Stored, all_stored}
use Rattle.interconnect.specs.Flights.{shown}
use Rattle.interconnect.proofs.Shown.{named}
use Rattle.interconnect.proofs.Slots.{in_use, found_under, not_found, key_named, with_its_key}
use Rattle.interconnect.proofs.Finds.{view_of}
use Rattle.interconnect.proofs.flight.Flight.route.Goals as goal

pub returns-in_err-key : goal.returns-in_err-key
returns-in_err-key c =
    let held : List Stored = all_stored c.self.inside.packets c.self.inside.numbers.held in
    let gone : named c.args.number held ≡ None = not_found (named c.args.number held) (c.in_err-key.ensures ∙ key_named c.self.inside.packets c.self.inside.numbers.held c.args.number) in
    let none : packet_of c.args.self.now.packets c.args.number ≡ None =
    view_of c.self.inside.pool held c.args.number None c.args.self.now (ap (λ (l : Links). l.packets) c.self.view_is) (sym gone) in
    rw (c.from_residual.ensures, none) refl

pub index-held-requires : goal.index-held-requires
index-held-requires c =
    in_use (λ s. s.number == c.args.number) c.self.inside.packets c.self.inside.numbers.held c.in_ok-key.key c.self.invariant.holding.agrees
    (c.in_ok-key.ensures ∙ key_named c.self.inside.packets c.self.inside.numbers.held c.args.number)

pub returns : goal.returns
returns c =
    let held : List Stored = all_stored c.self.inside.packets c.self.inside.numbers.held in
    let is : named c.args.number held ≡ Some (with_its_key c.in_ok-key.key c.index-held.result.now) =
    found_under (λ s. s.number == c.args.number) c.self.inside.packets c.self.inside.numbers.held c.in_ok-key.key c.index-held.result.now c.self.invariant.holding.agrees c.index-held.ensures
    (c.in_ok-key.ensures ∙ key_named c.self.inside.packets c.self.inside.numbers.held c.args.number) in
    let seen : packet_of c.args.self.now.packets c.args.number ≡ Some (shown c.self.inside.pool (with_its_key c.in_ok-key.key c.index-held.result.now)) =
    view_of c.self.inside.pool held c.args.number (Some (with_its_key c.in_ok-key.key c.index-held.result.now)) c.args.self.now (ap (λ (l : Links). l.packets) c.self.view_is) (sym is) in
    rw seen refl
