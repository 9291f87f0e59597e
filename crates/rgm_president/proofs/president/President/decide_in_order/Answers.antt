use Rattle.std.proofs.Common.{◌∙◌, sym}
use Rattle.rgm_president.proofs.Rests.{rests}
use Rattle.rgm_president.proofs.president.President.decide_in_order.Goals as goal

pub returns-clause-settled : goal.returns-clause-settled
returns-clause-settled c = λ so. rests c.args.c.now c.args.now c.args.self.now c.set_goals.new.self c.give_unless.new.self c.in_ok-orders.orders.items
    c.args.groups.now c.args.resources.now c.in_ok-same.same c.args.held_up c.requires.groups c.requires.resources
    c.in_ok-same.ensures.after c.in_ok-same.ensures.same c.in_ok-orders.ensures.orders c.in_ok-orders.ensures.after
    (c.is_settled-settled.ensures.same so) (c.is_settled-settled.ensures.free so)
    (sym c.deref.ensures.value ∙ c.is_settled-settled.ensures.none so) (c.is_settled-settled.ensures.nothing so)
