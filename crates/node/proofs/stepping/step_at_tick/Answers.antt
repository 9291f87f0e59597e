use Rattle.std.proofs.Common.{rules}
use Rattle.node.proofs.Ticking.{all_done}
use Rattle.node.proofs.stepping.step_at_tick.Goals as goal

pub returns-in-Attempt-Nothing : goal.returns-in-Attempt-Nothing
returns-in-Attempt-Nothing g c =
    all_done _ c.args.cluster.now c.args.me c.args.outcome c.in-Up.up c.tick.new.up c.args.node.now c.in_ok-due.due c.args.out.now.items c.tick.new.out.items c.args.disk.now
    (search rules) (search rules) (search rules) (c.in_ok-due.ensures.rest c.args.outcome) (search rules)
