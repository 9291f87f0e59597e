use Rattle.std.proofs.Common.{◌≡◌, ◌++◌, ◌∷◌, take}
use Rattle.std.specs.List.{flat_map}
use Rattle.update_words.specs.Methods.{method_text}
use Rattle.update_words.proofs.method.push_list.Given as goal

abbrev pub invariant-loop-method : goal.invariant-loop-method
invariant-loop-method l = l.text.items ≡ l.initial.text.items ++ flat_map (λ m. 44 ∷ method_text m) (take l.method-index l.rest)
