use Rattle.std.proofs.Common.{rules, ◌≡◌, Some}
use Rattle.node_addresses.proofs.Clients.{served}
use Rattle.node_addresses.proofs.serving.on_client.Goals as goal

pub returns-clause-plan : goal.returns-clause-plan
returns-clause-plan c =
    let is : c.args.up.now.presidency ≡ Some c.in-Some.presidency = search rules in
    served c.args.cluster.now c.args.up.now c.in-Some.presidency c.serve_under.new.presidency c.in_ok-config.config.now c.args.address.now c.args.client c.args.port
    c.args.out.now.items c.serve_under.new.out.items is c.in_ok-config.ensures.value c.in_ok-serve_under.ensures.after c.in_ok-serve_under.ensures.told
