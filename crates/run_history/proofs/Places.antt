-- Places of devices, and of faults, which stand node by node.
use Rattle.std.specs.Prelude.{ℕ, zero, suc, ◌+◌, ◌-◌, ◌*◌, ◌==◌, ◌&&◌, ◌≡◌, ◌≢◌, ◌≤◌, ◌<◌, ◌⊎◌, Bool, true, false, List, [], ◌∷◌, Option, None, Some, replicate, slice_get, slice_index_or, slice_set, if◌then◌else◌}
use Rattle.std.proofs.Common.{refl, sym, ap, ◌∙◌, inl, inr, arith}
use Rattle.std.proofs.lemmas.Nat.{row_fits, same_from_place}
use Rattle.cmm_attempt.proofs.Basics.{and_cases, none_some, same_number}

pub if_true : {X : Type 0} (b : Bool) (x y : X) → b ≡ true → (if b then x else y) ≡ x
if_true true x y e = refl
if_true false x y e = cc

pub if_false : {X : Type 0} (b : Bool) (x y : X) → b ≡ false → (if b then x else y) ≡ y
if_false true x y e = cc
if_false false x y e = refl

true_false : true ≡ false → ⊥
true_false h = cc

pub is_same : (a b : ℕ) → a ≡ b → (a == b) ≡ true
is_same a b e = grind arith

pub is_other : (a b : ℕ) → a ≢ b → (a == b) ≡ false
is_other a b ne = grind arith

both_same : (m n x d : ℕ) → m ≡ n → x ≡ d → ((m == n) && (x == d)) ≡ true
both_same m n x d e f = grind arith

-- whether two numbers are those of one node and one device
pub record Differ (m n x d : ℕ) : Type 0 where
  pub test : ((m == n) && (x == d)) ≡ false
  pub apart : m ≡ n → x ≡ d → ⊥

pub record Agree (m n x d : ℕ) : Type 0 where
  pub test : ((m == n) && (x == d)) ≡ true
  pub node : m ≡ n
  pub device : x ≡ d

pub one_or_other : (m n x d : ℕ) → Agree m n x d ⊎ Differ m n x d
one_or_other m n x d = by_test ((m == n) && (x == d)) refl
  where
    by_test : (b : Bool) → ((m == n) && (x == d)) ≡ b → Agree m n x d ⊎ Differ m n x d
    by_test true e =
        let two : ((m == n) ≡ true) × ((x == d) ≡ true) = and_cases (m == n) (x == d) e in
        inl (record { test = e; node = same_number m n two.0; device = same_number x d two.1 })
    by_test false e = inr (record { test = e; apart = λ p q. true_false (sym (both_same m n x d p q) ∙ e) })

less_one : (d l : ℕ) → 1 ≤ d → d ≤ l → d - 1 < l
less_one d l h k = omega (arith, h, k)

up_one : (m n : ℕ) → 1 ≤ m → 1 ≤ n → m - 1 ≡ n - 1 → m ≡ n
up_one m n h k e = omega (arith, h, k, e)

-- faults of different nodes or devices have different places
pub places_differ : (m n x d l : ℕ) → 1 ≤ m → 1 ≤ n → 1 ≤ x → x ≤ l → 1 ≤ d → d ≤ l → (m ≡ n → x ≡ d → ⊥) → (m - 1) * l + (x - 1) ≡ (n - 1) * l + (d - 1) → ⊥
places_differ m n x d l m1 n1 x1 xl d1 dl apart e =
    let two : (m - 1 ≡ n - 1) × (x - 1 ≡ d - 1) = same_from_place (m - 1) (x - 1) (n - 1) (d - 1) l (less_one x l x1 xl) (less_one d l d1 dl) e in
    apart (up_one m n m1 n1 two.0) (up_one x d x1 d1 two.1)

below_all : (p d l k : ℕ) → p + l ≤ k → 1 ≤ d → d ≤ l → p + (d - 1) < k
below_all p d l k h one most = omega (arith, h, one, most)

-- .. and there is a place for each
pub place_within : (n d nodes l : ℕ) → 1 ≤ n → n ≤ nodes → 1 ≤ d → d ≤ l → (n - 1) * l + (d - 1) < nodes * l
place_within n d nodes l n1 most d1 dl = below_all ((n - 1) * l) d l (nodes * l) (row_fits (n - 1) l nodes l (less_one n nodes n1 most) (same_le l)) d1 dl
  where
    same_le : (k : ℕ) → k ≤ k
    same_le k = omega arith

-- Lists.

pub cleared : {X : Type 0} (xs : List (Option X)) (i : ℕ) → slice_index_or (slice_set xs i None) i None ≡ None
cleared [] i = refl
cleared (x ∷ xs) zero = refl
cleared (x ∷ xs) (suc i) = cleared xs i

-- no fault is armed at first
pub none_first : (k i : ℕ) → (let xs : List (Option Bool) = replicate k None in slice_index_or xs i None ≡ None)
none_first zero i = refl
none_first (suc k) zero = refl
none_first (suc k) (suc i) = none_first k i

pub set_here : {X : Type 0} (xs : List X) (i : ℕ) (old new : X) → slice_get xs i ≡ Some old → slice_get (slice_set xs i new) i ≡ Some new
set_here [] i old new e = absurd (none_some old e)
set_here (x ∷ xs) zero old new e = refl
set_here (x ∷ xs) (suc i) old new e = set_here xs i old new e

pub set_there : {X : Type 0} (xs : List X) (i j : ℕ) (new : X) → (j ≡ i → ⊥) → slice_get (slice_set xs i new) j ≡ slice_get xs j
set_there [] i j new ne = refl
set_there (x ∷ xs) zero zero new ne = absurd (ne refl)
set_there (x ∷ xs) zero (suc j) new ne = refl
set_there (x ∷ xs) (suc i) zero new ne = refl
set_there (x ∷ xs) (suc i) (suc j) new ne = set_there xs i j new (λ e. ne (ap suc e))
