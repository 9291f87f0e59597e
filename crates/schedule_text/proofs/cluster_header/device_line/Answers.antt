use Rattle.std.proofs.Common.{◌≡◌, ◌<◌, ℕ, List, [], ◌∷◌, length, map, Ok, None, refl, arith, Bor}
use Rattle.std.proofs.lemmas.List.{length-map}
use Rattle.cl_base.specs.declared.header.Header.{Header}
use Rattle.schedule_text.specs.Headers.{device_line}
use Rattle.schedule_text.proofs.cluster_header.device_line.Goals as goal

short : (h : Header) (words : List (List ℕ)) → length words < 3 → Ok None ≡ device_line h words
short h [] lt = refl
short h (a ∷ []) lt = refl
short h (a ∷ b ∷ []) lt = refl
short h (a ∷ b ∷ c ∷ words) lt = absurd (omega arith)

pub returns-in_default-clause-value : goal.returns-in_default-clause-value
returns-in_default-clause-value c =
    short c.args.header.now (map (λ w. w.now) c.args.words.now) (omega (arith, length-map c.args.words.now (λ (w : Bor (List ℕ)). w.now), c.in_default.len_below))
