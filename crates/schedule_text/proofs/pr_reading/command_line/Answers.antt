use Rattle.std.proofs.Common.{◌≡◌, ◌<◌, ℕ, List, [], ◌∷◌, length, map, Err, refl, arith, Bor}
use Rattle.std.proofs.lemmas.List.{length-map}
use Rattle.schedule_text.specs.declared.kind.Kind.TheVariants as kind
use Rattle.schedule_text.specs.Lines.{words_line}
use Rattle.schedule_text.proofs.pr_reading.command_line.Goals as goal

short_line : (words : List (List ℕ)) → length words < 2 → Err kind.Line ≡ words_line words
short_line [] short = refl
short_line (word ∷ []) short = refl
short_line (word ∷ other ∷ words) short = absurd (omega arith)

pub returns-in_default-clause-reading : goal.returns-in_default-clause-reading
returns-in_default-clause-reading c = short_line (map (λ w. w.now) c.args.words.now) (omega (arith, length-map c.args.words.now (λ (w : Bor (List ℕ)). w.now), c.in_default.len_below))
