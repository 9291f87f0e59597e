use Rattle.std.proofs.Common.{rules, ◌≡◌, Some}
use Rattle.node_presidents.proofs.TakenUp.{takes_up}
use Rattle.node_presidents.proofs.taking.take_up.Goals as goal

pub returns-clause-after : goal.returns-clause-after
returns-clause-after c =
    let is : c.args.up.now.presidency ≡ Some c.in-Some.presidency = search rules in
    takes_up c.args.cluster.now c.args.up.now c.args.text.now c.in-Some.presidency c.take_under.new.presidency c.in_ok-config.config.now is c.in_ok-config.ensures.value c.in_ok-take_under.ensures.after
