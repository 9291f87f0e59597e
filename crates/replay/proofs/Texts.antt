-- Texts that begin with others.
use Rattle.std.proofs.Common.{◌≡◌, ℕ, List, [], ◌∷◌, ◌++◌, length, take, zero, suc, refl, ap}
use Rattle.std.specs.Io.{StartsWith}

pub starts_with_front : (text : List ℕ) (count : ℕ) → StartsWith text (take count text)
starts_with_front [] zero = refl
starts_with_front [] (suc count) = refl
starts_with_front (x ∷ text) zero = refl
starts_with_front (x ∷ text) (suc count) = ap (λ (t : List ℕ). x ∷ t) (starts_with_front text count)

pub starts_with_nothing : (text : List ℕ) → StartsWith text []
starts_with_nothing text = refl

pub starts_with_behind : (front text written : List ℕ) → StartsWith text written → StartsWith (front ++ text) (front ++ written)
starts_with_behind [] text written h = h
starts_with_behind (x ∷ front) text written h = ap (λ (t : List ℕ). x ∷ t) (starts_with_behind front text written h)

-- what begins a text begins it with more behind it
pub starts_with_more : (text more written : List ℕ) → StartsWith text written → StartsWith (text ++ more) written
starts_with_more text more [] h = refl
starts_with_more [] more (w ∷ written) h = absurd (cc)
starts_with_more (x ∷ text) more (w ∷ written) h =
    let tail : take (length written) text ≡ written = cc in
    let head : x ≡ w = cc in
    rw (starts_with_more text more written tail, head) refl
