use Rattle.std.proofs.Common.{rules, ◌<◌, ◌≤◌, ℕ, take, get_or, ap, arith, inl, inr}
use Rattle.std.proofs.lemmas.Bool.{cases_lt}
use Rattle.std.proofs.lemmas.List.{get_or_past, length-take}
use Rattle.rg_deps.specs.declared.graph.Edge.{Edge}
use Rattle.rg_deps.specs.Places.{edge_count}
use Rattle.rg_deps.proofs.Counts.{count_most}
use Rattle.rg_deps.proofs.places.edge_counts.Goals as goal

pub add_one-requires : goal.add_one-requires
add_one-requires c =
    let i : ℕ = c.loop-e.e-index in
    let e : Edge = get_or c.args.edges.now i (record { from = 0; to = 0 }) in
    let small : i < 18446744073709551615 = search rules in
    let most : edge_count (take i c.args.edges.now) e.from ≤ i = omega (arith, count_most (take i c.args.edges.now) e.from, length-take i c.args.edges.now) in
    let value = c.deref_mut.ensures.value in
    elim (cases_lt e.from c.args.count) [
      | inl lt ↦ omega (arith, small, most, ap (λ l. get_or l e.from 0) value, c.loop-e.invariant.counts e.from lt)
      | inr high ↦ omega (arith, ap (λ l. get_or l e.from 0) value, get_or_past c.loop-e.counts.items e.from 0 (omega (arith, high, c.loop-e.invariant.len)))
    ]
