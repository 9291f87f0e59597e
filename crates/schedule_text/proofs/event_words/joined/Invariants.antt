use Rattle.std.proofs.Common.{◌≡◌, ◌∷◌, map, take}
use Rattle.std.specs.List.{join_with_byte}
use Rattle.schedule_text.proofs.event_words.joined.Given as goal

abbrev pub invariant-loop-word : goal.invariant-loop-word
invariant-loop-word l = l.text.items ≡ join_with_byte 32 (l.fn.first ∷ map (λ w. w.now) (take l.word-index l.words))
