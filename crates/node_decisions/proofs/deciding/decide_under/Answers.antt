use Rattle.node_model.specs.Seats.{state_of}
use Rattle.node_decisions.proofs.Decided.{turn_left, turn_told}
use Rattle.node_decisions.proofs.deciding.decide_under.Goals as goal

pub returns-in-Ok-clause-after : goal.returns-in-Ok-clause-after
returns-in-Ok-clause-after c = turn_left c.args.me c.args.now c.args.presidency.now c.send_orders.result c.get.result.now c.args.cluster.now.header
    c.entries.result.now (state_of c.args.seat.now).saved.entries c.is_held_up-held_up.result c.decide_in_force.new.self c.send_orders.new.sent
    c.in-Ok.orders.items c.requires.number c.get.ensures.value c.entries.ensures.value c.is_held_up-held_up.ensures
    c.in-Ok.ensures.orders c.in-Ok.ensures.after c.send_orders.ensures.ages

pub returns-in-Ok-clause-told : goal.returns-in-Ok-clause-told
returns-in-Ok-clause-told c = turn_told c.args.me c.args.now c.args.presidency.now c.send_orders.result c.get.result.now c.args.cluster.now.header
    c.entries.result.now (state_of c.args.seat.now).saved.entries c.is_held_up-held_up.result c.in-Ok.orders.items c.args.out.now.items
    c.send_orders.new.out.items c.requires.number c.get.ensures.value c.entries.ensures.value c.is_held_up-held_up.ensures
    c.in-Ok.ensures.orders c.send_orders.ensures.told
