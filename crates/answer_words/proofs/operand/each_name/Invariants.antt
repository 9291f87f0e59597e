use Rattle.std.proofs.Common.{◌≡◌, [], map, drop}
use Rattle.rg_props.specs.Values.{items_from}
use Rattle.rg_props.specs.Words.{name_in}
use Rattle.answer_words.proofs.operand.each_name.Given as goal

abbrev pub invariant-loop-part : goal.invariant-loop-part
invariant-loop-part l = items_from name_in [] (map (λ p. p.now) l.parts) ≡ items_from name_in l.names.items (map (λ p. p.now) (drop l.part-index l.parts))
