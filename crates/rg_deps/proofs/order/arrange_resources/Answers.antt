use Rattle.std.proofs.Common.{◌≡◌, ◌∙◌, List, Result, ℕ, IfOk, subst, sym}
use Rattle.rg_deps.specs.Cycles.{arrangement}
use Rattle.rg_deps.specs.Edges.{resource_edges}
use Rattle.rg_deps.specs.Things.{resource_things}
use Rattle.rg_deps.specs.Places.{IsAscending}
use Rattle.rg_deps.proofs.Ascending.{resources_ascend}
use Rattle.rg_deps.proofs.order.arrange_resources.Goals as goal

pub returns : goal.returns
returns c =
    let things : c.deref.result.now ≡ resource_things c.args.g.now = c.deref.ensures.value ∙ c.in_ok-things.ensures.things in
    let edges : c.deref-2.result.now ≡ resource_edges c.args.g.now = c.deref-2.ensures.value ∙ c.in_ok-edges.ensures in
    subst (λ (a : Result (List ℕ) (List ℕ)). IfOk c.arrange.result (λ r. r ≡ a)) (λ i. arrangement (things i) (edges i)) c.arrange.ensures

pub arrange-requires-clause-ascending : goal.arrange-requires-clause-ascending
arrange-requires-clause-ascending c = subst IsAscending (sym (c.deref.ensures.value ∙ c.in_ok-things.ensures.things)) (resources_ascend c.args.g.now)
