use Rattle.std.proofs.Common.{◌≡◌, ap, ◌∙◌, get_or}
use Rattle.rg_deps.specs.Edges.{edge, edge_of_affinity}
use Rattle.rg_deps.proofs.Steps.{pushed}
use Rattle.rg_deps.proofs.edges.push_affinities.Goals as goal

pub loop-a-preserved : goal.loop-a-preserved
loop-a-preserved c =
    let f = edge_of_affinity c.args.g.now c.args.place in
    let e : edge c.args.place c.strong_target.result ≡ f (get_or c.args.affinities.now c.loop-a.a-index c.a-item.result) = ap (edge c.args.place) c.strong_target.ensures ∙ ap f c.a-item.is in
    pushed f c.args.affinities.now c.loop-a.a-index c.args.edges.now.items c.loop-a.edges.items c.push.new.edges.items c.a-item.result (edge c.args.place c.strong_target.result)
    c.loop-a-test.true c.loop-a.invariant c.in_ok-push.ensures e
