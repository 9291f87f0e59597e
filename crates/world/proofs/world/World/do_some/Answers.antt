use Rattle.std.proofs.Common.{arith}
use Rattle.world.proofs.Commands.{none_done, one_done, done_early}
use Rattle.world.proofs.world.World.do_some.Goals as goal

pub loop-init : goal.loop-init
loop-init c = none_done _ _

pub returns-then-is_none : goal.returns-then-is_none
returns-then-is_none c = done_early c.args.n c.loop.counter c.args.most _ _ c.due.result c.loop.invariant c.due.ensures.value c.if-is_none.ensures (omega arith)

pub loop-preserved : goal.loop-preserved
loop-preserved c = one_done c.args.n c.loop.counter _ _ _ c.due.result c.loop.invariant c.due.ensures.value c.if-is_none.ensures c.in_ok-do_command.ensures
