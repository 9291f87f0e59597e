use Rattle.std.proofs.Common.{rules}
use Rattle.node.proofs.Left.{governs_rest}
use Rattle.node.proofs.tick.tick.Goals as goal

pub returns-then-is_some-clause-rest : goal.returns-then-is_some-clause-rest
returns-then-is_some-clause-rest c = λ outcome.
    governs_rest c.args.cluster.now c.args.me outcome c.args.up.now c.tick_requests.new.up c.in_ok-configured.configured c.tick.new.self c.in_ok-again.again
    (search rules) (search rules) (search rules) (search rules) (search rules) (search rules)
