-- Steps of a walk.
use Rattle.std.proofs.Common.{◌≡◌, ℕ, zero, suc, ◌+◌, ◌-◌, ◌<◌, true, false, Option, None, Some, List, [], ◌∷◌, ◌++◌, refl, ap, ◌∙◌, add-one, arith}
use Rattle.rg_deps.specs.Cycles.{walk, from_place}
use Rattle.rg_deps.specs.Order.{stands}

pub walk_more : (target : ℕ → Option ℕ) (n i : ℕ) (path : List ℕ) (p : ℕ) → i < n → stands path p ≡ false
    → walk target (n - i) path (Some p) ≡ walk target (n - (i + 1)) (path ++ p ∷ []) (target p)
walk_more target n i path p lt new =
    let e : n - i ≡ suc (n - (i + 1)) = omega (arith, lt, add-one (n - (i + 1))) in
    ap (λ (k : ℕ). walk target k path (Some p)) e ∙ rw new refl

pub walk_done : (target : ℕ → Option ℕ) (n i : ℕ) (path : List ℕ) (p : ℕ) → i < n → stands path p ≡ true
    → walk target (n - i) path (Some p) ≡ from_place p path
walk_done target n i path p lt old =
    let e : n - i ≡ suc (n - (i + 1)) = omega (arith, lt, add-one (n - (i + 1))) in
    ap (λ (k : ℕ). walk target k path (Some p)) e ∙ rw old refl

pub walk_none : (target : ℕ → Option ℕ) (n : ℕ) (path : List ℕ) → walk target n path None ≡ []
walk_none target zero path = refl
walk_none target (suc n) path = refl

pub walk_over : (target : ℕ → Option ℕ) (n i : ℕ) (path : List ℕ) (at : Option ℕ) → n - i ≡ 0 → walk target (n - i) path at ≡ []
walk_over target n i path at e = ap (λ (k : ℕ). walk target k path at) e
