use Rattle.std.proofs.Common.{◌≡◌, ◌∙◌, ◌==◌, List, sym, ap, Some, None, refl}
use Rattle.interconnect.specs.Links.{Links, packet_of}
use Rattle.interconnect.specs.Stored.{Stored, all_stored}
use Rattle.interconnect.specs.Flights.{shown}
use Rattle.interconnect.proofs.Shown.{named, others, has_place, others_none, own_at}
use Rattle.interconnect.proofs.Slots.{in_use, found_under, not_found, key_named, with_its_key, keyless_is, stored_without, holding_without, none_gone}
use Rattle.interconnect.proofs.Finds.{view_of, sound_without, removed_links, kept_links}
use Rattle.interconnect.proofs.Indexes.{index_remove}
use Rattle.interconnect.proofs.flight.Flight.lose.Goals as goal

pub invariant_of-self : goal.invariant_of-self
invariant_of-self c =
    rw (c.remove.ensures.after, none_gone c.self.inside.numbers.held c.args.number c.in_default.ensures.found) c.self.invariant

pub returns-in_default-clause-answer : goal.returns-in_default-clause-answer
returns-in_default-clause-answer c =
    let held : List Stored = all_stored c.self.inside.packets c.self.inside.numbers.held in
    let gone : named c.args.number held ≡ None = not_found (named c.args.number held) (c.in_default.ensures.found ∙ key_named c.self.inside.packets c.self.inside.numbers.held c.args.number) in
    let none : packet_of c.args.self.now.packets c.args.number ≡ None =
    view_of c.self.inside.pool held c.args.number None c.args.self.now (ap (λ (l : Links). l.packets) c.self.view_is) (sym gone) in
    rw none refl

pub remove-held-requires : goal.remove-held-requires
remove-held-requires c =
    in_use (λ s. s.number == c.args.number) c.self.inside.packets c.self.inside.numbers.held c.in-Some.key c.self.invariant.holding.agrees
    (c.in-Some.ensures.found ∙ key_named c.self.inside.packets c.self.inside.numbers.held c.args.number)

pub give_back-requires : goal.give_back-requires
give_back-requires c =
    let held : List Stored = all_stored c.self.inside.packets c.self.inside.numbers.held in
    let is : named c.args.number held ≡ Some (with_its_key c.in-Some.key c.remove-held.result) =
    found_under (λ s. s.number == c.args.number) c.self.inside.packets c.self.inside.numbers.held c.in-Some.key c.remove-held.result c.self.invariant.holding.agrees c.remove-held.ensures.value
    (c.in-Some.ensures.found ∙ key_named c.self.inside.packets c.self.inside.numbers.held c.args.number) in
    let k = has_place held c.args.number (with_its_key c.in-Some.key c.remove-held.result) is in
    let own = own_at c.self.inside.pool held k.place (with_its_key c.in-Some.key c.remove-held.result) c.self.invariant.sound.apart k.low k.is in
    own.in_use

pub invariant_of-self-2 : goal.invariant_of-self-2
invariant_of-self-2 c =
    let held : List Stored = all_stored c.self.inside.packets c.self.inside.numbers.held in
    let is : named c.args.number held ≡ Some (with_its_key c.in-Some.key c.remove-held.result) =
    found_under (λ s. s.number == c.args.number) c.self.inside.packets c.self.inside.numbers.held c.in-Some.key c.remove-held.result c.self.invariant.holding.agrees c.remove-held.ensures.value
    (c.in-Some.ensures.found ∙ key_named c.self.inside.packets c.self.inside.numbers.held c.args.number) in
    let k = has_place held c.args.number (with_its_key c.in-Some.key c.remove-held.result) is in
    let without = stored_without c.self.inside.packets c.remove-held.new.self c.self.inside.numbers.held c.in-Some.key c.args.number c.remove-held.result c.self.invariant.holding.agrees
    c.remove-held.ensures.value k.at c.remove-held.ensures.updates in
    rw c.remove.ensures.after (record {
      holding = holding_without c.self.inside.packets c.remove-held.new.self c.self.inside.numbers c.in-Some.key c.args.number c.remove-held.result c.self.invariant.holding
          c.remove-held.ensures.value c.self.invariant.sound.rising k c.remove-held.ensures.updates c.remove-held.ensures.len c.remove-held.ensures.capacity;
      sound = rw without (sound_without c.self.inside.pool c.give_back.new.self held c.args.number (with_its_key c.in-Some.key c.remove-held.result) c.self.inside.numbers.most c.self.inside.numbers.next c.self.invariant.sound k c.give_back.ensures);
      index = rw without (index_remove c.self.inside.links c.remove-2.new.self held (with_its_key c.in-Some.key c.remove-held.result) c.args.number c.self.inside.numbers.next c.self.invariant.index c.self.invariant.sound.rising k
          (keyless_is c.self.inside.packets c.self.inside.numbers.held c.in-Some.key c.args.number c.self.inside.numbers.next c.remove-held.result c.self.invariant.sound.rising c.self.invariant.holding.agrees c.remove-held.ensures.value k)
          c.remove-2.ensures.own c.remove-2.ensures.others);
    })

pub returns-clause-answer : goal.returns-clause-answer
returns-clause-answer c =
    let held : List Stored = all_stored c.self.inside.packets c.self.inside.numbers.held in
    let is : named c.args.number held ≡ Some (with_its_key c.in-Some.key c.remove-held.result) =
    found_under (λ s. s.number == c.args.number) c.self.inside.packets c.self.inside.numbers.held c.in-Some.key c.remove-held.result c.self.invariant.holding.agrees c.remove-held.ensures.value
    (c.in-Some.ensures.found ∙ key_named c.self.inside.packets c.self.inside.numbers.held c.args.number) in
    let seen : packet_of c.args.self.now.packets c.args.number ≡ Some (shown c.self.inside.pool (with_its_key c.in-Some.key c.remove-held.result)) =
    view_of c.self.inside.pool held c.args.number (Some (with_its_key c.in-Some.key c.remove-held.result)) c.args.self.now (ap (λ (l : Links). l.packets) c.self.view_is) (sym is) in
    rw seen refl

pub returns-clause-after : goal.returns-clause-after
returns-clause-after c =
    let held : List Stored = all_stored c.self.inside.packets c.self.inside.numbers.held in
    let is : named c.args.number held ≡ Some (with_its_key c.in-Some.key c.remove-held.result) =
    found_under (λ s. s.number == c.args.number) c.self.inside.packets c.self.inside.numbers.held c.in-Some.key c.remove-held.result c.self.invariant.holding.agrees c.remove-held.ensures.value
    (c.in-Some.ensures.found ∙ key_named c.self.inside.packets c.self.inside.numbers.held c.args.number) in
    let k = has_place held c.args.number (with_its_key c.in-Some.key c.remove-held.result) is in
    let without = stored_without c.self.inside.packets c.remove-held.new.self c.self.inside.numbers.held c.in-Some.key c.args.number c.remove-held.result c.self.invariant.holding.agrees
    c.remove-held.ensures.value k.at c.remove-held.ensures.updates in
    rw (c.remove.ensures.after, without)
    (removed_links c.self.inside.pool c.give_back.new.self held c.args.number (with_its_key c.in-Some.key c.remove-held.result) c.self.inside.numbers.most c.self.inside.numbers.next c.args.self.now c.self.invariant.sound k c.give_back.ensures
    c.self.view_is)

pub returns-in_default-clause-after : goal.returns-in_default-clause-after
returns-in_default-clause-after c =
    let gone = none_gone c.self.inside.numbers.held c.args.number c.in_default.ensures.found in
    let held : List Stored = all_stored c.self.inside.packets c.self.inside.numbers.held in
    let none : others c.args.number held ≡ held = others_none held c.args.number
    (not_found (named c.args.number held) (c.in_default.ensures.found ∙ key_named c.self.inside.packets c.self.inside.numbers.held c.args.number)) in
    rw (c.remove.ensures.after, gone)
    (kept_links c.self.inside.pool held c.args.number c.self.inside.numbers.next c.args.self.now none c.self.view_is)
