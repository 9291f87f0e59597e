-- The order of ranks.
use Rattle.std.proofs.Common.{◌≡◌, ℕ, ◌≤◌, ◌==◌, nat_lt, Bool, true, false, cond, ◌&&◌, refl, sym, ap, ◌∙◌, arith}
use Rattle.std.proofs.lemmas.Bool.{ltb-true, eqb-true, ne_eqb}
use Rattle.std.specs.Cmp.{nat_eq_equiv}
use Rattle.std.specs.Ordering.{nat_cmp, ordering_then, is_eq, is_gt}
use Rattle.std.specs.declared.cmp.Ordering.{Ordering}
use Rattle.std.specs.declared.cmp.Ordering.TheVariants.{Less, Equal, Greater}

pub eq_cmp : (n m : ℕ) → is_eq (nat_cmp n m) ≡ (n == m)
eq_cmp n m = by (nat_lt n m) refl
  where
    at : (c : Bool) → is_eq (cond c Equal Greater) ≡ c
    at true = refl
    at false = refl

    by : (b : Bool) → nat_lt n m ≡ b → is_eq (cond b Less (cond (n == m) Equal Greater)) ≡ (n == m)
    by true e = sym (ne_eqb n m (λ s. omega (arith, ltb-true n m e, s)))
    by false e = at (n == m)

then_eq : (a b : Ordering) → is_eq (ordering_then a b) ≡ (is_eq a && is_eq b)
then_eq Less b = refl
then_eq Equal b = refl
then_eq Greater b = refl

pub other_way : (a b : Bool) → (a && b) ≡ (b && a)
other_way true true = refl
other_way true false = refl
other_way false true = refl
other_way false false = refl

-- which rank is equal to a rank
pub same_rank : (m x n p : ℕ) → is_eq (ordering_then (nat_cmp n m) (nat_cmp x p)) ≡ ((p == x) && (n == m))
same_rank m x n p =
    then_eq (nat_cmp n m) (nat_cmp x p) ∙ (λ i. eq_cmp n m i && eq_cmp x p i) ∙ other_way (n == m) (x == p)
    ∙ ap (λ (b : Bool). b && (n == m)) (nat_eq_equiv.symm x p)

not_greater : (q x : ℕ) → is_gt (nat_cmp q x) ≡ false → q ≤ x
not_greater q x h = by (nat_lt q x) (q == x) refl refl h
  where
    by : (b c : Bool) → nat_lt q x ≡ b → (q == x) ≡ c → is_gt (cond b Less (cond c Equal Greater)) ≡ false → q ≤ x
    by true c e f h = omega (arith, ltb-true q x e)
    by false true e f h = omega (arith, eqb-true q x f)
    by false false e f h = cc h

-- what a rank that comes no later than another says of the two
pub no_later : (s n q x : ℕ) → is_gt (ordering_then (nat_cmp s n) (nat_cmp q x)) ≡ false → (s ≤ n) × (s ≡ n → q ≤ x)
no_later s n q x h = by (nat_lt s n) (s == n) refl refl h
  where
    by : (b c : Bool) → nat_lt s n ≡ b → (s == n) ≡ c → is_gt (ordering_then (cond b Less (cond c Equal Greater)) (nat_cmp q x)) ≡ false → (s ≤ n) × (s ≡ n → q ≤ x)
    by true c e f h = let lt = ltb-true s n e in (omega (arith, lt), λ same. absurd (omega (arith, lt, same)))
    by false true e f h = let same = eqb-true s n f in (omega (arith, same), λ _. not_greater q x h)
    by false false e f h = cc h
