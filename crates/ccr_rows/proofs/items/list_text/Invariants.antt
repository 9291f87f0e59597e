use Rattle.std.proofs.Common.{◌≡◌, ◌++◌, ◌∷◌, take}
use Rattle.std.specs.List.{flat_map}
use Rattle.ccr_rows.proofs.items.list_text.Given as goal

abbrev pub invariant-loop-item : goal.invariant-loop-item
invariant-loop-item g l = l.text.items ≡ l.initial.text.items ++ flat_map (λ y. 44 ∷ g.T.Item.written y) (take l.item-index l.rest)
