-- Laws of the last start below a number.
use Rattle.std.proofs.Common.{ℕ, zero, suc, ◌<◌, ◌≤◌, ◌≡◌, ◌⊎◌, inl, inr, refl, sym, ap, subst, Bool, true, false, arith, eq-or-lt_of_le}
use Rattle.membership_machine.specs.State.{Memberships}
use Rattle.membership_machine.specs.Starts.{last_start}

abbrev starts : Memberships → ℕ → Bool
starts w q = (w.epoch q).started

-- the last start below the next number is that number or the last one below it
pub last_here : (w : Memberships) (q : ℕ) → starts w q ≡ true → last_start w (suc q) ≡ q
last_here w q h = rw h refl

pub last_on : (w : Memberships) (q : ℕ) → starts w q ≡ false → last_start w (suc q) ≡ last_start w q
last_on w q h = rw h refl

pub last_within : (w : Memberships) (q : ℕ) → last_start w q ≤ q
last_within w zero = omega arith
last_within w (suc q) = go (starts w q) refl (last_within w q)
  where
    go : (b : Bool) → starts w q ≡ b → last_start w q ≤ q → last_start w (suc q) ≤ suc q
    go true e h = rw (last_here w q e) (omega arith)
    go false e h = rw (last_on w q e) (omega arith)

pub last_below : (w : Memberships) (q : ℕ) → 0 < q → last_start w q < q
last_below w zero h = absurd (omega arith)
last_below w (suc q) h = go (starts w q) refl (last_within w q)
  where
    go : (b : Bool) → starts w q ≡ b → last_start w q ≤ q → last_start w (suc q) < suc q
    go true e k = rw (last_here w q e) (omega arith)
    go false e k = rw (last_on w q e) (omega arith)

-- it did start
pub last_started : (w : Memberships) (q : ℕ) → 0 < last_start w q → starts w (last_start w q) ≡ true
last_started w zero h = absurd (omega arith)
last_started w (suc q) h = go (starts w q) refl (last_started w q)
  where
    go : (b : Bool) → starts w q ≡ b → (0 < last_start w q → starts w (last_start w q) ≡ true) → starts w (last_start w (suc q)) ≡ true
    go true e k = subst (λ t. starts w t ≡ true) (sym (last_here w q e)) e
    go false e k = subst (λ t. starts w t ≡ true) (sym (last_on w q e)) (k (subst (λ t. 0 < t) (last_on w q e) h))

-- nothing started between it and the number
pub none_between : (w : Memberships) (q t : ℕ) → last_start w q < t → t < q → starts w t ≡ false
none_between w zero t h k = absurd (omega arith)
none_between w (suc q) t h k = go (starts w q) refl (none_between w q t) (eq-or-lt_of_le (le_of t q k))
  where
    le_of : (t q : ℕ) → t < suc q → t ≤ q
    le_of t q k = omega arith

    go : (b : Bool) → starts w q ≡ b → (last_start w q < t → t < q → starts w t ≡ false) → (t ≡ q) ⊎ (t < q) → starts w t ≡ false
    go true e ih c = absurd (omega (arith, last_here w q e))
    go false e ih (inl s) = subst (λ i. starts w i ≡ false) (sym s) e
    go false e ih (inr s) = ih (subst (λ i. i < t) (last_on w q e) h) s

-- a start below the number is at most the last one
pub last_greatest : (w : Memberships) (q t : ℕ) → starts w t ≡ true → t < q → t ≤ last_start w q
last_greatest w zero t h k = absurd (omega arith)
last_greatest w (suc q) t h k = go (starts w q) refl (last_greatest w q t h) (eq-or-lt_of_le (le_of t q k))
  where
    le_of : (t q : ℕ) → t < suc q → t ≤ q
    le_of t q k = omega arith

    go : (b : Bool) → starts w q ≡ b → (t < q → t ≤ last_start w q) → (t ≡ q) ⊎ (t < q) → t ≤ last_start w (suc q)
    go true e ih c = rw (last_here w q e) (omega arith)
    go false e ih (inl s) = let f : starts w q ≡ true = subst (λ i. starts w i ≡ true) s h in absurd (cc)
    go false e ih (inr s) = rw (last_on w q e) (ih s)

-- between the last start and the number it is the last start of every number
pub last_of_between : (w : Memberships) (q g : ℕ) → last_start w q < g → g ≤ q → last_start w g ≡ last_start w q
last_of_between w zero g h k = absurd (omega arith)
last_of_between w (suc q) g h k = go (starts w q) refl (last_of_between w q g) (eq-or-lt_of_le k)
  where
    go : (b : Bool) → starts w q ≡ b → (last_start w q < g → g ≤ q → last_start w g ≡ last_start w q) → (g ≡ suc q) ⊎ (g < suc q) → last_start w g ≡ last_start w (suc q)
    go b e ih (inl s) = ap (last_start w) s
    go true e ih (inr s) = absurd (omega (arith, last_here w q e))
    go false e ih (inr s) = rw (last_on w q e) (ih (subst (λ i. i < g) (last_on w q e) h) (omega arith))

-- Where something started between g and q, there is a start t that is the first after g.
pub record FirstAfter (w : Memberships) (g q : ℕ) : Type 0 where
  pub start : ℕ
  pub above : g < start
  pub below : start < q
  pub started : starts w start ≡ true
  pub first : last_start w start ≤ g

pub first_after : (w : Memberships) (g q : ℕ) → g < last_start w q → FirstAfter w g q
first_after w g zero h = absurd (omega arith)
first_after w g (suc q) h = go (starts w q) refl (first_after w g q)
  where
    on : FirstAfter w g q → FirstAfter w g (suc q)
    on f = record { start = f.start; above = f.above; below = omega (arith, f.below); started = f.started; first = f.first }

    split : starts w q ≡ true → (g < last_start w q → FirstAfter w g q) → (last_start w q ≤ g) ⊎ (g < last_start w q) → FirstAfter w g (suc q)
    split e ih (inl k) = record { start = q; above = subst (λ i. g < i) (last_here w q e) h; below = omega arith; started = e; first = k }
    split e ih (inr k) = on (ih k)

    go : (b : Bool) → starts w q ≡ b → (g < last_start w q → FirstAfter w g q) → FirstAfter w g (suc q)
    go true e ih = split e ih (grind arith)
    go false e ih = on (ih (subst (λ i. g < i) (last_on w q e) h))
