use Rattle.std.proofs.Common.{ℕ, List, Option, [], slice_get}
use Rattle.std.specs.Option.{option_map}
use Rattle.rg_deps.proofs.Steps.{pushed}
use Rattle.rg_deps.proofs.things.resource_names.Goals as goal

pub loop-place-preserved : goal.loop-place-preserved
loop-place-preserved c =
    let f : ℕ → Option (List ℕ) = λ p. option_map (λ e. e.0) (slice_get c.args.g.now.resources p) in
    pushed f c.args.places.now c.loop-place.place-index [] c.loop-place.names.items c.push_name.new.names.items _ c.resource_name.result
    c.loop-place-test.true c.loop-place.invariant c.in_ok-push_name.ensures c.resource_name.ensures
