use Rattle.std.proofs.Common.{◌≡◌, ◌++◌, codes, take}
use Rattle.std.specs.List.{flat_map}
use Rattle.std.specs.String.{string_bytes}
use Rattle.status_report.specs.Words.{hex}
use Rattle.status_report.proofs.pr_text.push_keys.Given as goal

abbrev pub invariant-loop-key : goal.invariant-loop-key
invariant-loop-key l = string_bytes l.text ≡ string_bytes l.fn.text ++ (codes "keys" ++ flat_map (λ k. codes " " ++ hex k) (take l.key-index l.keys))
