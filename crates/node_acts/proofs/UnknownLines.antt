-- The lines of one more command that nobody knows of.
use Rattle.std.proofs.Common.{◌≡◌, ℕ, ◌+◌, ◌<◌, List, [], ◌∷◌, ◌++◌, length, take, get_or, refl, ap, sym, ◌∙◌, append_assoc}
use Rattle.std.proofs.lemmas.List.{take_more}
use Rattle.request_queue.specs.declared.request.Request.{Request}
use Rattle.node_model.specs.declared.output.Output.{Output}
use Rattle.node_model.specs.Entries.{unknown_line, unknown_lines}

at_end : (os : List Output) → os ++ [] ≡ os
at_end [] = refl
at_end (o ∷ os) = ap (λ rest. o ∷ rest) (at_end os)

lines_push : (me : ℕ) (rs : List Request) (r : Request) → unknown_lines me (rs ++ r ∷ []) ≡ unknown_lines me rs ++ unknown_line me r
lines_push me [] r = at_end (unknown_line me r)
lines_push me (first ∷ rs) r = ap (λ rest. unknown_line me first ++ rest) (lines_push me rs r) ∙ sym (append_assoc (unknown_line me first) (unknown_lines me rs) (unknown_line me r))

lines_more : (me : ℕ) (rs : List Request) (i : ℕ) (r : Request) → i < length rs → r ≡ get_or rs i r → unknown_lines me (take (i + 1) rs) ≡ unknown_lines me (take i rs) ++ unknown_line me r
lines_more me rs i r low here = rw (take_more rs i r low, ← here) (lines_push me (take i rs) r)

pub told_more : (me : ℕ) (before out new : List Output) (rs : List Request) (i : ℕ) (r : Request) → i < length rs → r ≡ get_or rs i r
    → out ≡ before ++ unknown_lines me (take i rs) → new ≡ out ++ unknown_line me r → new ≡ before ++ unknown_lines me (take (i + 1) rs)
told_more me before out new rs i r low here so told =
    told ∙ ap (λ os. os ++ unknown_line me r) so ∙ append_assoc before (unknown_lines me (take i rs)) (unknown_line me r) ∙ ap (λ os. before ++ os) (sym (lines_more me rs i r low here))
