use Rattle.std.proofs.Common.{rules, None}
use Rattle.node_updates.proofs.Ticking.{prepares_at_tick}
use Rattle.node_updates.proofs.again.tick_requests.Goals as goal

pub returns-clause-prepares : goal.returns-clause-prepares
returns-clause-prepares c =
    prepares_at_tick c.args.up.now c.tick-request_is_due.new.self None c.in-Some.presidency c.tick_presidency-prepares_are_due.result.prepares_are_due c.tick_presidency-prepares_are_due.result.proposed c.in_ok-prepares.prepares.items
    (search rules) (search rules) (search rules) c.in_ok-prepares.ensures.value
