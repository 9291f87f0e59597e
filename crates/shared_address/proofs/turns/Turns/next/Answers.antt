use Rattle.std.proofs.Common.{◌<◌, length, arith}
use Rattle.shared_address.proofs.TurnLemmas.{has_place, has_turns, is_among, is_next, is_small, place_goes_on, place_within, round_begins, turn_goes_on, turn_within}
use Rattle.shared_address.proofs.turns.Turns.next.Goals as goal

pub overflow_add-self-inside : goal.overflow_add-self-inside
overflow_add-self-inside c =
    let some : 0 < length c.self.inside.targets.items = rw (← c.self.view_is) at c.requires in
    let left = has_turns c.self.inside.targets.items c.self.inside.place c.self.inside.served c.index-target.result.now c.self.invariant some c.index-target.ensures in
    let most = is_small c.self.inside.targets.items c.self.inside.place c.self.inside.served c.index-target.result.now c.self.invariant some c.index-target.ensures in
    omega arith

pub invariant_of-self : goal.invariant_of-self
invariant_of-self c =
    let some : 0 < length c.self.inside.targets.items = rw (← c.self.view_is) at c.requires in
    turn_within c.self.inside.targets.items c.self.inside.place c.self.inside.served c.index-target.result.now c.self.invariant some c.index-target.ensures (omega arith)

pub overflow_add-self-inside-else-self-target : goal.overflow_add-self-inside-else-self-target
overflow_add-self-inside-else-self-target c =
    let some : 0 < length c.self.inside.targets.items = rw (← c.self.view_is) at c.requires in
    let place = has_place c.self.inside.targets.items c.self.inside.place c.self.inside.served c.index-target.result.now c.self.invariant some c.index-target.ensures in omega arith

pub invariant_of-self-then-self-len : goal.invariant_of-self-then-self-len
invariant_of-self-then-self-len c =
    let some : 0 < length c.self.inside.targets.items = rw (← c.self.view_is) at c.requires in
    place_within c.self.inside.targets.items c.self.inside.place c.self.inside.served c.index-target.result.now c.self.invariant some c.index-target.ensures (omega arith)

pub returns-then-self-target-clause-node : goal.returns-then-self-target-clause-node
returns-then-self-target-clause-node c =
    let some : 0 < length c.self.inside.targets.items = rw (← c.self.view_is) at c.requires in
    rw (← c.self.view_is) (is_next c.self.inside.targets.items c.self.inside.place c.self.inside.served c.index-target.result.now c.self.invariant some c.index-target.ensures)

pub returns-then-self-target-clause-target : goal.returns-then-self-target-clause-target
returns-then-self-target-clause-target c =
    let some : 0 < length c.self.inside.targets.items = rw (← c.self.view_is) at c.requires in
    rw (← c.self.view_is) (is_among c.self.inside.targets.items c.self.inside.place c.self.inside.served c.index-target.result.now c.self.invariant some c.index-target.ensures)

pub returns-then-self-target-clause-after : goal.returns-then-self-target-clause-after
returns-then-self-target-clause-after c =
    let some : 0 < length c.self.inside.targets.items = rw (← c.self.view_is) at c.requires in
    rw (← c.self.view_is) (turn_goes_on c.self.inside.targets.items c.self.inside.place c.self.inside.served c.index-target.result.now c.self.invariant some c.index-target.ensures (omega arith))

pub returns-then-self-len-clause-node : goal.returns-then-self-len-clause-node
returns-then-self-len-clause-node c =
    let some : 0 < length c.self.inside.targets.items = rw (← c.self.view_is) at c.requires in
    rw (← c.self.view_is) (is_next c.self.inside.targets.items c.self.inside.place c.self.inside.served c.index-target.result.now c.self.invariant some c.index-target.ensures)

pub returns-then-self-len-clause-target : goal.returns-then-self-len-clause-target
returns-then-self-len-clause-target c =
    let some : 0 < length c.self.inside.targets.items = rw (← c.self.view_is) at c.requires in
    rw (← c.self.view_is) (is_among c.self.inside.targets.items c.self.inside.place c.self.inside.served c.index-target.result.now c.self.invariant some c.index-target.ensures)

pub returns-then-self-len-clause-after : goal.returns-then-self-len-clause-after
returns-then-self-len-clause-after c =
    let some : 0 < length c.self.inside.targets.items = rw (← c.self.view_is) at c.requires in
    rw (← c.self.view_is) (place_goes_on c.self.inside.targets.items c.self.inside.place c.self.inside.served c.index-target.result.now c.self.invariant some c.index-target.ensures (omega arith) (omega arith))

pub returns-else-self-len-clause-node : goal.returns-else-self-len-clause-node
returns-else-self-len-clause-node c =
    let some : 0 < length c.self.inside.targets.items = rw (← c.self.view_is) at c.requires in
    rw (← c.self.view_is) (is_next c.self.inside.targets.items c.self.inside.place c.self.inside.served c.index-target.result.now c.self.invariant some c.index-target.ensures)

pub returns-else-self-len-clause-target : goal.returns-else-self-len-clause-target
returns-else-self-len-clause-target c =
    let some : 0 < length c.self.inside.targets.items = rw (← c.self.view_is) at c.requires in
    rw (← c.self.view_is) (is_among c.self.inside.targets.items c.self.inside.place c.self.inside.served c.index-target.result.now c.self.invariant some c.index-target.ensures)

pub returns-else-self-len-clause-after : goal.returns-else-self-len-clause-after
returns-else-self-len-clause-after c =
    let some : 0 < length c.self.inside.targets.items = rw (← c.self.view_is) at c.requires in
    rw (← c.self.view_is) (round_begins c.self.inside.targets.items c.self.inside.place c.self.inside.served c.index-target.result.now c.self.invariant some c.index-target.ensures (omega arith) (omega arith))
