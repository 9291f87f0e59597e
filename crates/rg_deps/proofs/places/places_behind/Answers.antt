use Rattle.std.proofs.Common.{◌∙◌, ◌<◌, ◌++◌, ℕ, List, length, get_or, ap, sym, arith}
use Rattle.rg_deps.specs.declared.graph.Edge.{Edge}
use Rattle.rg_deps.specs.Places.{behind_by}
use Rattle.rg_deps.proofs.Counts.{behind_more}
use Rattle.rg_deps.proofs.places.places_behind.Goals as goal

pub loop-e-preserved : goal.loop-e-preserved
loop-e-preserved c =
    let pushed = c.in_ok-push_behind.ensures in
    let e : Edge = get_or c.args.edges.now c.loop-e.e-index (record { from = 0; to = 0 }) in
    record {
      len = pushed.len ∙ c.loop-e.invariant.len;
      behind = λ q d lt.
          let low : q < length c.loop-e.lists.items = omega (arith, lt, pushed.len) in
          pushed.behind q d low ∙ ap (λ (l : List ℕ). l ++ behind_by e q) (c.loop-e.invariant.behind q d low)
          ∙ sym (behind_more c.args.edges.now c.loop-e.e-index (record { from = 0; to = 0 }) q c.loop-e-test.true);
    }
