-- Parts of a value that are lent.
use Rattle.std.proofs.Common.{◌≡◌, ℕ, List, [], ◌∷◌, length, map, Bor, refl}

pub length_lent : (ws : List (Bor (List ℕ))) → length (map (λ w. w.now) ws) ≡ length ws
length_lent [] = refl
length_lent (w ∷ ws) = rw (length_lent ws) refl
