use Rattle.std.proofs.Common.{sym, ◌∙◌}
use Rattle.node_model.specs.Seats.{state_of}
use Rattle.node_decisions.proofs.Decided.{none_after, none_told}
use Rattle.node_decisions.proofs.deciding.decide_in.Goals as goal

pub returns-then-not-may_order-clause-after : goal.returns-then-not-may_order-clause-after
returns-then-not-may_order-clause-after c = none_after c.args.me c.args.now c.args.presidency.now c.args.cluster.now.header
    (state_of c.args.seat.now).saved.entries.committed (sym c.may_order.ensures.value ∙ c.if-not-may_order.true)

pub returns-then-not-may_order-clause-told : goal.returns-then-not-may_order-clause-told
returns-then-not-may_order-clause-told c = none_told c.args.me c.args.now c.args.presidency.now c.args.cluster.now.header
    (state_of c.args.seat.now).saved.entries.committed c.args.out.now.items (sym c.may_order.ensures.value ∙ c.if-not-may_order.true)
