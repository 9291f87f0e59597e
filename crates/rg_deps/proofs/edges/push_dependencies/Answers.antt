use Rattle.std.proofs.Common.{◌≡◌, ap, ◌∙◌, get_or}
use Rattle.rg_deps.specs.Edges.{edge, edge_to_group}
use Rattle.rg_deps.proofs.Steps.{pushed}
use Rattle.rg_deps.proofs.edges.push_dependencies.Goals as goal

pub loop-name-preserved : goal.loop-name-preserved
loop-name-preserved c =
    let f = edge_to_group c.args.g.now c.args.place in
    let e : edge c.args.place c.group_place.result ≡ f (get_or c.args.names.now c.loop-name.name-index c.name-item.result) = ap (edge c.args.place) c.group_place.ensures.value ∙ ap f c.name-item.is in
    pushed f c.args.names.now c.loop-name.name-index c.args.edges.now.items c.loop-name.edges.items c.push.new.edges.items c.name-item.result (edge c.args.place c.group_place.result)
    c.loop-name-test.true c.loop-name.invariant c.in_ok-push.ensures e
