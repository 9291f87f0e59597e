use Rattle.std.proofs.Common.{◌≡◌, ◌++◌, ◌∷◌, take}
use Rattle.std.specs.List.{flat_map}
use Rattle.update_words.specs.Words.{weight_text}
use Rattle.update_words.proofs.lists.push_weights.Given as goal

abbrev pub invariant-loop-weight : goal.invariant-loop-weight
invariant-loop-weight l = l.text.items ≡ l.initial.text.items ++ flat_map (λ w. 44 ∷ weight_text w) (take l.weight-index l.rest)
