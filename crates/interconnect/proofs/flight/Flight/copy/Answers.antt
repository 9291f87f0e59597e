use Rattle.std.proofs.Common.{◌≡◌, ◌∙◌, ◌==◌, List, sym, ap, ℕ, Option, Some, None, refl, arith}
use Rattle.interconnect.specs.declared.packet.Delivery.{Delivery}
use Rattle.interconnect.specs.Links.{Packet, Links, packet_of, copied, delivery_of}
use Rattle.interconnect.specs.Stored.{Stored, all_stored}
use Rattle.interconnect.specs.Flights.{shown}
use Rattle.interconnect.proofs.Shown.{named, has_place, own_at}
use Rattle.interconnect.proofs.Slots.{in_use, found_under, not_found, key_named, with_its_key}
use Rattle.interconnect.proofs.Finds.{view_of, copy_answer}
use Rattle.interconnect.proofs.flight.Flight.copy.Goals as goal

pub returns-in_default-clause-answer : goal.returns-in_default-clause-answer
returns-in_default-clause-answer c =
    let held : List Stored = all_stored c.self.inside.packets c.self.inside.numbers.held in
    let gone : named c.args.number held ≡ None = not_found (named c.args.number held) (c.in_default.ensures ∙ key_named c.self.inside.packets c.self.inside.numbers.held c.args.number) in
    let none : packet_of c.args.self.now.packets c.args.number ≡ None =
    view_of c.self.inside.pool held c.args.number None c.args.self.now (ap (λ (l : Links). l.packets) c.self.view_is) (sym gone) in
    rw none refl

pub returns-in_default-clause-bytes : goal.returns-in_default-clause-bytes
returns-in_default-clause-bytes c =
    let held : List Stored = all_stored c.self.inside.packets c.self.inside.numbers.held in
    let gone : named c.args.number held ≡ None = not_found (named c.args.number held) (c.in_default.ensures ∙ key_named c.self.inside.packets c.self.inside.numbers.held c.args.number) in
    let none : packet_of c.args.self.now.packets c.args.number ≡ None =
    view_of c.self.inside.pool held c.args.number None c.args.self.now (ap (λ (l : Links). l.packets) c.self.view_is) (sym gone) in
    ap (λ (o : Option Packet). copied o c.args.out.now) (sym none)

pub index-held-requires : goal.index-held-requires
index-held-requires c =
    in_use (λ s. s.number == c.args.number) c.self.inside.packets c.self.inside.numbers.held c.in-Some.key c.self.invariant.holding.agrees
    (c.in-Some.ensures ∙ key_named c.self.inside.packets c.self.inside.numbers.held c.args.number)

pub read-length-requires-clause-in_use : goal.read-length-requires-clause-in_use
read-length-requires-clause-in_use c =
    let held : List Stored = all_stored c.self.inside.packets c.self.inside.numbers.held in
    let is : named c.args.number held ≡ Some (with_its_key c.in-Some.key c.index-held.result.now) =
    found_under (λ s. s.number == c.args.number) c.self.inside.packets c.self.inside.numbers.held c.in-Some.key c.index-held.result.now c.self.invariant.holding.agrees c.index-held.ensures
    (c.in-Some.ensures ∙ key_named c.self.inside.packets c.self.inside.numbers.held c.args.number) in
    let k = has_place held c.args.number (with_its_key c.in-Some.key c.index-held.result.now) is in
    let own = own_at c.self.inside.pool held k.place (with_its_key c.in-Some.key c.index-held.result.now) c.self.invariant.sound.apart k.low k.is in
    own.in_use

pub read-length-requires-clause-room : goal.read-length-requires-clause-room
read-length-requires-clause-room c =
    let held : List Stored = all_stored c.self.inside.packets c.self.inside.numbers.held in
    let is : named c.args.number held ≡ Some (with_its_key c.in-Some.key c.index-held.result.now) =
    found_under (λ s. s.number == c.args.number) c.self.inside.packets c.self.inside.numbers.held c.in-Some.key c.index-held.result.now c.self.invariant.holding.agrees c.index-held.ensures
    (c.in-Some.ensures ∙ key_named c.self.inside.packets c.self.inside.numbers.held c.args.number) in
    let k = has_place held c.args.number (with_its_key c.in-Some.key c.index-held.result.now) is in
    let own = own_at c.self.inside.pool held k.place (with_its_key c.in-Some.key c.index-held.result.now) c.self.invariant.sound.apart k.low k.is in
    let size = own.size in omega arith

pub returns-clause-answer : goal.returns-clause-answer
returns-clause-answer c =
    let held : List Stored = all_stored c.self.inside.packets c.self.inside.numbers.held in
    let is : named c.args.number held ≡ Some (with_its_key c.in-Some.key c.index-held.result.now) =
    found_under (λ s. s.number == c.args.number) c.self.inside.packets c.self.inside.numbers.held c.in-Some.key c.index-held.result.now c.self.invariant.holding.agrees c.index-held.ensures
    (c.in-Some.ensures ∙ key_named c.self.inside.packets c.self.inside.numbers.held c.args.number) in
    let seen : packet_of c.args.self.now.packets c.args.number ≡ Some (shown c.self.inside.pool (with_its_key c.in-Some.key c.index-held.result.now)) =
    view_of c.self.inside.pool held c.args.number (Some (with_its_key c.in-Some.key c.index-held.result.now)) c.args.self.now (ap (λ (l : Links). l.packets) c.self.view_is) (sym is) in
    let d : Delivery = record { from = c.index-held.result.now.from; to = c.index-held.result.now.to; length = c.read-length.result } in
    let same : d ≡ delivery_of (shown c.self.inside.pool (with_its_key c.in-Some.key c.index-held.result.now)) =
    ap (λ (n : ℕ). let e : Delivery = record { from = c.index-held.result.now.from; to = c.index-held.result.now.to; length = n } in e) c.read-length.ensures.length in
    copy_answer (packet_of c.args.self.now.packets c.args.number) (shown c.self.inside.pool (with_its_key c.in-Some.key c.index-held.result.now)) d _ seen same

pub returns-clause-bytes : goal.returns-clause-bytes
returns-clause-bytes c =
    let held : List Stored = all_stored c.self.inside.packets c.self.inside.numbers.held in
    let is : named c.args.number held ≡ Some (with_its_key c.in-Some.key c.index-held.result.now) =
    found_under (λ s. s.number == c.args.number) c.self.inside.packets c.self.inside.numbers.held c.in-Some.key c.index-held.result.now c.self.invariant.holding.agrees c.index-held.ensures
    (c.in-Some.ensures ∙ key_named c.self.inside.packets c.self.inside.numbers.held c.args.number) in
    let seen : packet_of c.args.self.now.packets c.args.number ≡ Some (shown c.self.inside.pool (with_its_key c.in-Some.key c.index-held.result.now)) =
    view_of c.self.inside.pool held c.args.number (Some (with_its_key c.in-Some.key c.index-held.result.now)) c.args.self.now (ap (λ (l : Links). l.packets) c.self.view_is) (sym is) in
    c.read-length.ensures.bytes ∙ ap (λ (o : Option Packet). copied o c.args.out.now) (sym seen)
