-- The lines of a base with one more update.
use Rattle.std.proofs.Common.{◌≡◌, ℕ, ◌+◌, ◌<◌, List, [], ◌∷◌, ◌++◌, length, take, get_or, ap, sym, ◌∙◌, append_assoc, arith}
use Rattle.std.proofs.lemmas.List.{take_more, length-take-le}
use Rattle.status_report.specs.declared.entry.Entry.TheVariants as trace
use Rattle.status_report.specs.declared.start_entry.StartEntry.TheVariants as start
use Rattle.node_model.specs.declared.output.Output.{Output}
use Rattle.node_model.specs.declared.output.Output.TheVariants.{Tells}
use Rattle.node_model.specs.Attempts.{base_lines}

abbrev one_line : ℕ → ℕ → List ℕ → List Output
one_line e place text = Tells (trace.Start (start.Base e place text)) ∷ []

lines-push : (e before : ℕ) (texts : List (List ℕ)) (text : List ℕ) → base_lines e before (texts ++ text ∷ []) ≡ base_lines e before texts ++ one_line e (before + length texts + 1) text
lines-push e before [] text = ap (λ n. one_line e n text) (omega arith)
lines-push e before (first ∷ texts) text =
    ap (λ rest. Tells (trace.Start (start.Base e (before + 1) first)) ∷ rest) (lines-push e (before + 1) texts text
    ∙ ap (λ n. base_lines e (before + 1) texts ++ one_line e n text) (omega arith))

lines-more : (e : ℕ) (texts : List (List ℕ)) (i : ℕ) (text : List ℕ) → i < length texts → text ≡ get_or texts i text → base_lines e 0 (take (i + 1) texts) ≡ base_lines e 0 (take i texts) ++ one_line e (i + 1) text
lines-more e texts i text low here =
    rw (take_more texts i text low, ← here) (lines-push e 0 (take i texts) text ∙ ap (λ n. base_lines e 0 (take i texts) ++ one_line e n text) (omega (arith, length-take-le i texts (omega arith))))

pub told_more : (e : ℕ) (head out new : List Output) (texts : List (List ℕ)) (i : ℕ) (text : List ℕ) → i < length texts → text ≡ get_or texts i text → out ≡ head ++ base_lines e 0 (take i texts) → new ≡ out ++ one_line e (i + 1) text → new ≡ head ++ base_lines e 0 (take (i + 1) texts)
told_more e head out new texts i text low here before told =
    told ∙ ap (λ os. os ++ one_line e (i + 1) text) before ∙ append_assoc head (base_lines e 0 (take i texts)) (one_line e (i + 1) text) ∙ ap (λ os. head ++ os) (sym (lines-more e texts i text low here))
