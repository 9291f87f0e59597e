-- Something is done for each of a list.
use Rattle.std.proofs.Common.{◌≡◌, ℕ, ◌+◌, ◌<◌, ◌++◌, List, [], ◌∷◌, length, take, get_or, refl, sym, ap, ◌∙◌}
use Rattle.std.proofs.lemmas.List.{take_more}
use Rattle.world_model.specs.Worlds.{Play}
use Rattle.world_model.specs.Rounds.{for_each}

each_then : (act : ℕ → Play → Play) (xs ys : List ℕ) (p : Play) → for_each act (xs ++ ys) p ≡ for_each act ys (for_each act xs p)
each_then act [] ys p = refl
each_then act (x ∷ xs) ys p = each_then act xs ys (act x p)

-- and for one more
pub each_more : (act : ℕ → Play → Play) (xs : List ℕ) (i x : ℕ) (p q r : Play) → for_each act (take i xs) p ≡ q → act x q ≡ r
    → x ≡ get_or xs i x → i < length xs → for_each act (take (i + 1) xs) p ≡ r
each_more act xs i x p q r e f is l =
    ap (λ (ys : List ℕ). for_each act ys p) (take_more xs i x l)
    ∙ each_then act (take i xs) (get_or xs i x ∷ []) p
    ∙ ap (λ (s : Play). act (get_or xs i x) s) e
    ∙ ap (λ (y : ℕ). act y q) (sym is)
    ∙ f
