-- What a state that was changed at one number is there, and elsewhere.
use Rattle.std.proofs.Common.{◌≡◌, ◌≢◌, ℕ, ◌⊎◌, inl, inr, Bool, true, false, refl, sym, subst, rules, arith}
use Rattle.machine_base.specs.Put.{put}

pub put_here : {A : Type 0} → (f : ℕ → A) (n : ℕ) (x : A) → put f n x n ≡ x
put_here f n x = search rules

pub put_there : {A : Type 0} → (f : ℕ → A) (n : ℕ) (x : A) (k : ℕ) → k ≢ n → put f n x k ≡ f k
put_there f n x k ne = search rules

-- two numbers are equal or not
pub same_or_not : (k n : ℕ) → (k ≡ n) ⊎ (k ≢ n)
same_or_not k n = grind arith

-- a truth value is the one or the other
pub true_or_false : (b : Bool) → (b ≡ true) ⊎ (b ≡ false)
true_or_false true = inl refl
true_or_false false = inr refl

-- what holds at n of x, and elsewhere of f, holds of f changed at n
pub put_cases : {A : Type 0} → (P : ℕ → A → Type 0) (f : ℕ → A) (n : ℕ) (x : A) → P n x → ((k : ℕ) → k ≢ n → P k (f k)) → (k : ℕ) → P k (put f n x k)
put_cases {A} P f n x here there k = go (same_or_not k n)
  where
    go : (k ≡ n) ⊎ (k ≢ n) → P k (put f n x k)
    go (inl e) = subst (λ j. P j (put f n x j)) (sym e) (subst (λ y. P n y) (sym (put_here f n x)) here)
    go (inr ne) = subst (λ y. P k y) (sym (put_there f n x k ne)) (there k ne)

-- a mark that stands in a set to which n was added is n's, or stood before
pub put_true : (f : ℕ → Bool) (n k : ℕ) → put f n true k ≡ true → (k ≡ n) ⊎ ((k ≢ n) × (f k ≡ true))
put_true f n k h = grind (arith, put_here f n true, put_there f n true k)

-- marks stay where one is added
pub put_true_stays : (f : ℕ → Bool) (n k : ℕ) → f k ≡ true → put f n true k ≡ true
put_true_stays f n k h = grind (arith, put_here f n true, put_there f n true k)

-- the same change made twice is the last one
pub put_again : {A : Type 0} → (f : ℕ → A) (n : ℕ) (x y : A) (k : ℕ) → put (put f n x) n y k ≡ put f n y k
put_again f n x y k = grind (arith, put_here f n y, put_here (put f n x) n y, put_there f n x k, put_there f n y k, put_there (put f n x) n y k)
