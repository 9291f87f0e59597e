use Rattle.std.proofs.Common.{◌≡◌, [], map, drop}
use Rattle.rg_props.specs.Values.{items_from}
use Rattle.rg_props.specs.Words.{number_in}
use Rattle.rg_props.proofs.list.each_node.Given as goal

abbrev pub invariant-loop-part : goal.invariant-loop-part
invariant-loop-part l = items_from (number_in 1 l.most) [] (map (λ p. p.now) l.parts) ≡ items_from (number_in 1 l.most) l.nodes.items (map (λ p. p.now) (drop l.part-index l.parts))
