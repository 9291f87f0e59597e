use Rattle.std.proofs.Common.{◌≡◌, [], map, drop}
use Rattle.rg_props.specs.Values.{items_from}
use Rattle.admin_words.specs.Operands.{weight_in}
use Rattle.admin_words.proofs.weights.each_weight.Given as goal

abbrev pub invariant-loop-part : goal.invariant-loop-part
invariant-loop-part l = items_from (weight_in l.version) [] (map (λ p. p.now) l.parts) ≡ items_from (weight_in l.version) l.weights.items (map (λ p. p.now) (drop l.part-index l.parts))
