use Rattle.std.proofs.Common.{◌≡◌, [], map, drop}
use Rattle.rg_props.specs.Values.{items_from}
use Rattle.admin_words.specs.Methods.{method_in}
use Rattle.admin_words.proofs.methods.each_method.Given as goal

abbrev pub invariant-loop-part : goal.invariant-loop-part
invariant-loop-part l = items_from method_in [] (map (λ p. p.now) l.parts) ≡ items_from method_in l.methods.items (map (λ p. p.now) (drop l.part-index l.parts))
