use Rattle.std.proofs.Common.{rules}
use Rattle.node.proofs.Hearing.{heard_is}
use Rattle.node.proofs.stepping.move_on.Goals as goal

pub returns-then-branch : goal.returns-then-branch
returns-then-branch g c =
    heard_is _ c.args.cluster.now c.args.me c.args.outcome c.args.node.now c.hears.new.node c.args.input.now c.in-Packet.from c.in-Packet.message c.in_ok-hears-in-Packet.field-0 c.args.out.now.items c.hears.new.out.items c.args.disk.now
    (search rules) (search rules) (search rules) (search rules)
