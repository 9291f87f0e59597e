use Rattle.std.proofs.Common.{Some}
use Rattle.rgm_president.proofs.Following.{holds_after}
use Rattle.rgm_president.proofs.president.President.give_call.Goals as goal

pub returns-clause-holds : goal.returns-clause-holds
returns-clause-holds c = holds_after c.args.c.now c.args.resources.now c.args.self.now c.order.new.self c.args.n c.args.r (Some c.args.method) c.args.outlook
    c.requires.room c.requires.known c.in_ok-order.ensures.after c.outlook_after.result c.outlook_after.ensures
