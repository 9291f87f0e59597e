use Rattle.std.proofs.Common.{◌≡◌, ◌++◌, ◌∷◌, take}
use Rattle.std.specs.List.{flat_map}
use Rattle.std.specs.String.{string_bytes}
use Rattle.status_report.specs.AttemptLines.{lack_text}
use Rattle.status_report.proofs.attempt_text.push_lacks.Given as goal

abbrev pub invariant-loop-lack : goal.invariant-loop-lack
invariant-loop-lack l = string_bytes l.text ≡ string_bytes l.fn.text ++ flat_map (λ lack. 32 ∷ lack_text lack) (take l.lack-index l.lacks)
