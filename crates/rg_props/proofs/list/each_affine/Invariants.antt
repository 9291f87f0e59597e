use Rattle.std.proofs.Common.{◌≡◌, [], map, drop}
use Rattle.rg_props.specs.Values.{items_from}
use Rattle.rg_props.specs.Values.{affine_in}
use Rattle.rg_props.proofs.list.each_affine.Given as goal

abbrev pub invariant-loop-part : goal.invariant-loop-part
invariant-loop-part l = items_from affine_in [] (map (λ p. p.now) l.parts) ≡ items_from affine_in l.affinities.items (map (λ p. p.now) (drop l.part-index l.parts))
