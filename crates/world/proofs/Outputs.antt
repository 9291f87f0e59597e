-- What a node gives is passed on, one after the other.
use Rattle.std.proofs.Common.{◌≡◌, ℕ, ◌+◌, ◌<◌, ◌++◌, List, [], ◌∷◌, length, take, get_or, refl, sym, ap, ◌∙◌}
use Rattle.std.proofs.lemmas.List.{take_more}
use Rattle.node_model.specs.declared.output.Output.{Output}
use Rattle.world_model.specs.Sends.{passing, passing_one}
use Rattle.world_model.specs.Worlds.{Play}

passed_then : (me : ℕ) (xs ys : List Output) (p : Play) → passing me (xs ++ ys) p ≡ passing me ys (passing me xs p)
passed_then me [] ys p = refl
passed_then me (x ∷ xs) ys p = passed_then me xs ys (passing_one me x p)

-- and one more
pub one_passed : (me : ℕ) (xs : List Output) (i : ℕ) (x : Output) (p q r : Play) → passing me (take i xs) p ≡ q → passing_one me x q ≡ r
    → x ≡ get_or xs i x → i < length xs → passing me (take (i + 1) xs) p ≡ r
one_passed me xs i x p q r e f is l =
    ap (λ (ys : List Output). passing me ys p) (take_more xs i x l)
    ∙ passed_then me (take i xs) (get_or xs i x ∷ []) p
    ∙ ap (λ (s : Play). passing_one me (get_or xs i x) s) e
    ∙ ap (λ (y : Output). passing_one me y q) (sym is)
    ∙ f
