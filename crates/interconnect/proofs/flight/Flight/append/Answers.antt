use Rattle.std.proofs.Common.{◌≡◌, ◌∙◌, ◌+◌, ◌++◌, ℕ, Some, subst, List, [], ◌∷◌, refl, sym, ap, arith, length}
use Rattle.std.proofs.lemmas.List.{length-map}
use Rattle.slab.specs.Slab.{Updates}
use Rattle.interconnect.specs.declared.flight.Held.{Held}
use Rattle.interconnect.specs.Links.{Links, count_on}
use Rattle.interconnect.specs.Keys.{keys_on}
use Rattle.interconnect.specs.Stored.{Stored, stored, all_stored}
use Rattle.interconnect.proofs.Steps.{sound_refused, sound_appended}
use Rattle.interconnect.proofs.Finds.{room_left, appended_links}
use Rattle.interconnect.proofs.Slots.{with_its_key, stored_push, holding_push, holding_next}
use Rattle.interconnect.proofs.Indexes.{count_shown, index_push}
use Rattle.interconnect.proofs.flight.Flight.append.Goals as goal

pub invariant_of-self : goal.invariant_of-self
invariant_of-self c =
    let k = c.self.invariant in
    rw (c.in_default.ensures.unchanged, c.skip.ensures)
    (record { holding = holding_next c.self.inside.packets c.self.inside.numbers (c.self.inside.numbers.next + 1) k.holding; sound = sound_refused _ _ _ _ k.sound; index = k.index })

pub insert_reserved-key-requires : goal.insert_reserved-key-requires
insert_reserved-key-requires c =
    let k = c.self.invariant.holding in
    let all = k.all in let enough = k.enough in
    let left = room_left _ _ _ _ (length c.args.bytes.now) c.self.invariant.sound c.in-Some.ensures.exactly in
    omega (arith, length-map c.self.inside.numbers.held (stored c.self.inside.packets))

pub push-requires-clause-room : goal.push-requires-clause-room
push-requires-clause-room c =
    let left = room_left _ _ _ _ (length c.args.bytes.now) c.self.invariant.sound c.in-Some.ensures.exactly in
    omega (arith, length-map c.self.inside.numbers.held (stored c.self.inside.packets))

pub push-requires-2 : goal.push-requires-2
push-requires-2 c nodes =
    let held : List Stored = all_stored c.self.inside.packets c.self.inside.numbers.held in
    let k : length (keys_on c.self.inside.links c.args.from c.args.to) ≡ count_on c.args.self.now.packets c.args.from c.args.to =
    ap (λ (l : List ℕ). length l) (c.self.invariant.index c.args.from c.args.to nodes)
    ∙ sym (count_shown c.self.inside.pool held c.args.from c.args.to)
    ∙ ap (λ (l : Links). count_on l.packets c.args.from c.args.to) c.self.view_is in
    let room = c.requires.room in
    omega arith

pub invariant_of-self-2 : goal.invariant_of-self-2
invariant_of-self-2 c =
    let k = c.self.invariant in
    let h : Held = record { number = c.self.inside.numbers.next; from = c.args.from; to = c.args.to; chain = c.in-Some.chain } in
    let s : Stored = with_its_key c.insert_reserved-key.result h in
    let held : List Stored = all_stored c.self.inside.packets c.self.inside.numbers.held in
    let updates : Updates c.self.inside.packets c.insert_reserved-key.new.self c.insert_reserved-key.result (Some h) =
    subst (λ (n : ℕ). Updates c.self.inside.packets c.insert_reserved-key.new.self c.insert_reserved-key.result (Some (let g : Held = record { number = n; from = c.args.from; to = c.args.to; chain = c.in-Some.chain } in g)))
    c.next-number.ensures c.insert_reserved-key.ensures.updates in
    let pushed = stored_push c.self.inside.packets c.insert_reserved-key.new.self c.self.inside.numbers.held c.insert_reserved-key.result h c.self.invariant.holding.agrees
    c.insert_reserved-key.ensures.was_vacant updates in
    rw c.push.ensures (record {
      holding = holding_push c.self.inside.packets c.insert_reserved-key.new.self c.self.inside.numbers c.insert_reserved-key.result (c.self.inside.numbers.next + 1) h k.holding
          c.insert_reserved-key.ensures.was_vacant updates c.insert_reserved-key.ensures.len c.insert_reserved-key.ensures.capacity;
      sound = rw pushed (sound_appended c.self.inside.pool c.put.new.self held s c.self.inside.numbers.most c.self.inside.numbers.most c.self.inside.numbers.next
          c.args.bytes.now k.sound refl c.in-Some.ensures.fresh.0 c.in-Some.ensures.fresh.1 c.in-Some.ensures.put c.requires.size (omega arith));
      index = rw pushed (index_push c.self.inside.links c.push-2.new.self held s k.index c.push-2.ensures.own c.push-2.ensures.others);
    })

pub returns-clause-after : goal.returns-clause-after
returns-clause-after c =
    let h : Held = record { number = c.self.inside.numbers.next; from = c.args.from; to = c.args.to; chain = c.in-Some.chain } in
    let s : Stored = with_its_key c.insert_reserved-key.result h in
    let held : List Stored = all_stored c.self.inside.packets c.self.inside.numbers.held in
    let updates : Updates c.self.inside.packets c.insert_reserved-key.new.self c.insert_reserved-key.result (Some h) =
    subst (λ (n : ℕ). Updates c.self.inside.packets c.insert_reserved-key.new.self c.insert_reserved-key.result (Some (let g : Held = record { number = n; from = c.args.from; to = c.args.to; chain = c.in-Some.chain } in g)))
    c.next-number.ensures c.insert_reserved-key.ensures.updates in
    let pushed = stored_push c.self.inside.packets c.insert_reserved-key.new.self c.self.inside.numbers.held c.insert_reserved-key.result h c.self.invariant.holding.agrees
    c.insert_reserved-key.ensures.was_vacant updates in
    rw (c.push.ensures, pushed) (appended_links c.self.inside.pool c.put.new.self held (held ++ s ∷ []) s c.self.inside.numbers.most
    c.self.inside.numbers.next c.args.bytes.now c.args.self.now c.self.invariant.sound refl c.in-Some.ensures.fresh.0 c.in-Some.ensures.fresh.1 c.in-Some.ensures.put refl
    c.self.view_is)
