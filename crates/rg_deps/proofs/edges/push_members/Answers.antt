use Rattle.std.proofs.Common.{◌≡◌, ℕ, List, Option, ap, ◌∙◌, get_or}
use Rattle.rg_deps.specs.declared.graph.Edge.{Edge}
use Rattle.rg_deps.specs.Edges.{edge, member_place}
use Rattle.rg_deps.proofs.Steps.{pushed}
use Rattle.rg_deps.proofs.edges.push_members.Goals as goal

pub loop-name-preserved : goal.loop-name-preserved
loop-name-preserved c =
    let f : List ℕ → Option Edge = λ name. edge c.args.place (member_place c.args.g.now c.args.group.now name) in
    let e : edge c.args.place c.member_place.result ≡ f (get_or c.args.names.now c.loop-name.name-index c.name-item.result) = ap (edge c.args.place) c.member_place.ensures ∙ ap f c.name-item.is in
    pushed f c.args.names.now c.loop-name.name-index c.args.edges.now.items c.loop-name.edges.items c.push.new.edges.items c.name-item.result (edge c.args.place c.member_place.result)
    c.loop-name-test.true c.loop-name.invariant c.in_ok-push.ensures e
