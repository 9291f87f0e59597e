-- How many pass a test.
use Rattle.std.specs.Prelude.{ℕ, ◌+◌, ◌≡◌, ◌≤◌, Bool, true, false, cond, List, [], ◌∷◌, ◌++◌, map}
use Rattle.std.specs.List.{count_by}
use Rattle.std.proofs.Common.{refl, ap, ◌∙◌, arith}
use Rattle.std.proofs.lemmas.List.Sums.{sum_by-cons}
use Rattle.run_commands.specs.acknowledged.Askings.{tally}

pub le_same : (k : ℕ) → k ≤ k
le_same k = omega arith

pub le_is : (a b : ℕ) → a ≡ b → a ≤ b
le_is a b h = omega (arith, h)

pub le_then : (a b c : ℕ) → a ≤ b → b ≤ c → a ≤ c
le_then a b c h k = omega (arith, h, k)

pub tally_counts : {X : Type 0} (p : X → Bool) (xs : List X) → count_by p xs ≡ tally p xs
tally_counts p [] = refl
tally_counts p (x ∷ xs) = sum_by-cons (λ y. cond (p y) 1 0) x xs ∙ ap (λ k. cond (p x) 1 0 + k) (tally_counts p xs)

more_le : (b : Bool) (a c : ℕ) → a ≤ c → a ≤ cond b 1 0 + c
more_le true a c h = omega (arith, h)
more_le false a c h = omega (arith, h)

both_le : (b : Bool) (a c : ℕ) → a ≤ c → cond b 1 0 + a ≤ cond b 1 0 + c
both_le true a c h = omega (arith, h)
both_le false a c h = omega (arith, h)

least : (a : ℕ) → 0 ≤ a
least a = omega arith

pub tally_more : {X : Type 0} (p : X → Bool) (xs ys : List X) → tally p xs ≤ tally p (xs ++ ys)
tally_more p [] ys = least (tally p ys)
tally_more p (x ∷ xs) ys = both_le (p x) (tally p xs) (tally p (xs ++ ys)) (tally_more p xs ys)

pub tally_cons : {X : Type 0} (p : X → Bool) (x : X) (xs : List X) → tally p xs ≤ tally p (x ∷ xs)
tally_cons p x xs = more_le (p x) (tally p xs) (tally p xs) (le_same (tally p xs))

pub tally_map : {X : Type 0} (p : X → Bool) (f : X → X) (xs : List X) → ((x : X) → p (f x) ≡ p x) → tally p (map f xs) ≡ tally p xs
tally_map p f [] h = refl
tally_map p f (x ∷ xs) h = ap (λ b. cond b 1 0 + tally p (map f xs)) (h x) ∙ ap (λ k. cond (p x) 1 0 + k) (tally_map p f xs h)

-- what passes the one passes the other
sum_le : (b d : Bool) (a c : ℕ) → (b ≡ true → d ≡ true) → a ≤ c → cond b 1 0 + a ≤ cond d 1 0 + c
sum_le true true a c h k = omega (arith, k)
sum_le true false a c h k = absurd (no (h refl))
  where
    no : false ≡ true → ⊥
    no e = cc
sum_le false true a c h k = omega (arith, k)
sum_le false false a c h k = omega (arith, k)

pub tally_wider : {X : Type 0} (p q : X → Bool) (xs : List X) → ((x : X) → p x ≡ true → q x ≡ true) → tally p xs ≤ tally q xs
tally_wider p q [] h = le_same 0
tally_wider p q (x ∷ xs) h = sum_le (p x) (q x) (tally p xs) (tally q xs) (h x) (tally_wider p q xs h)

-- what passes either passes the third, and none passes both
add_le : (b d f : Bool) (a c k : ℕ) → (b ≡ true → f ≡ true) → (d ≡ true → f ≡ true) → (d ≡ true → b ≡ false) → a + c ≤ k → (cond b 1 0 + a) + (cond d 1 0 + c) ≤ cond f 1 0 + k
add_le true true f a c k h j n m = absurd (no (n refl))
  where
    no : true ≡ false → ⊥
    no e = cc
add_le true false true a c k h j n m = omega (arith, m)
add_le true false false a c k h j n m = absurd (no (h refl))
  where
    no : false ≡ true → ⊥
    no e = cc
add_le false true true a c k h j n m = omega (arith, m)
add_le false true false a c k h j n m = absurd (no (j refl))
  where
    no : false ≡ true → ⊥
    no e = cc
add_le false false true a c k h j n m = omega (arith, m)
add_le false false false a c k h j n m = omega (arith, m)

pub tally_both : {X : Type 0} (p d q : X → Bool) (xs : List X) → ((x : X) → p x ≡ true → q x ≡ true) → ((x : X) → d x ≡ true → q x ≡ true) → ((x : X) → d x ≡ true → p x ≡ false)
    → tally p xs + tally d xs ≤ tally q xs
tally_both p d q [] h j n = le_same 0
tally_both p d q (x ∷ xs) h j n = add_le (p x) (d x) (q x) (tally p xs) (tally d xs) (tally q xs) (h x) (j x) (n x) (tally_both p d q xs h j n)

-- one at least
pub one_here : (b : Bool) (k : ℕ) → b ≡ true → 1 ≤ cond b 1 0 + k
one_here true k h = omega arith
one_here false k h = cc

pub one_there : (b : Bool) (k : ℕ) → 1 ≤ k → 1 ≤ cond b 1 0 + k
one_there b k h = more_le b 1 k h
