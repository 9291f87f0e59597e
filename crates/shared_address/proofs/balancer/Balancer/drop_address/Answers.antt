use Rattle.std.proofs.Common.{◌∙◌, refl}
use Rattle.shared_address.specs.States.{fresh}
use Rattle.shared_address.proofs.StateLemmas.{name_removed, others_stay, puts_fresh, state_is, stands_dropped}
use Rattle.shared_address.proofs.balancer.Balancer.drop_address.Goals as goal

pub returns-clause-after : goal.returns-clause-after
returns-clause-after c = rw (← c.self.view_is) (c.shift_remove.ensures.entries ∙ name_removed c.args.a.now c.self.inside.addresses.entries)

pub returns-clause-state : goal.returns-clause-state
returns-clause-state c =
    state_is c.self.inside.addresses.entries c.shift_remove.new.self.entries c.args.a.now fresh
    (puts_fresh c.self.inside.addresses.entries c.shift_remove.new.self.entries c.args.a.now c.shift_remove.ensures.updates.0)

pub returns-clause-others : goal.returns-clause-others
returns-clause-others c =
    rw (← c.self.view_is) (others_stay c.self.inside.addresses.entries c.shift_remove.new.self.entries c.args.a.now fresh
    (puts_fresh c.self.inside.addresses.entries c.shift_remove.new.self.entries c.args.a.now c.shift_remove.ensures.updates.0))

pub returns-clause-goes_on : goal.returns-clause-goes_on
returns-clause-goes_on c =
    rw (← c.self.view_is) (stands_dropped c.self.inside.addresses.entries c.shift_remove.new.self.entries c.args.a.now fresh
    (puts_fresh c.self.inside.addresses.entries c.shift_remove.new.self.entries c.args.a.now c.shift_remove.ensures.updates.0) refl)
