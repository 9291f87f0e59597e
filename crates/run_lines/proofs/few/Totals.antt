-- Sums over devices.
use Rattle.std.specs.Prelude.{ℕ, zero, suc, ◌+◌, ◌*◌, ◌≡◌, ◌≢◌, ◌≤◌, ◌<◌, ◌⊎◌}
use Rattle.std.proofs.Common.{refl, sym, ap, subst, inl, inr, arith}
use Rattle.run_lines.specs.few.Counts.{total}

step_at_most : (a b k m : ℕ) → a ≤ m → b ≤ k * m → a + b ≤ (suc k) * m
step_at_most a b k m h l = omega (arith, h, l)

pub total_at_most : (k m : ℕ) (f : ℕ → ℕ) → ((d : ℕ) → f d ≤ m) → total k f ≤ k * m
unfolding total
total_at_most zero m f h = omega arith
total_at_most (suc k) m f h = step_at_most (f (suc k)) (total k f) k m (h (suc k)) (total_at_most k m f h)

both_most : (a b x y : ℕ) → a ≤ x → b ≤ y → a + b ≤ x + y
both_most a b x y h l = omega (arith, h, l)

pub total_less : (k : ℕ) (f g : ℕ → ℕ) → ((d : ℕ) → g d ≤ f d) → total k g ≤ total k f
unfolding total
total_less zero f g h = omega arith
total_less (suc k) f g h = both_most (g (suc k)) (total k g) (f (suc k)) (total k f) (h (suc k)) (total_less k f g h)

same_number : (a b : ℕ) → (a ≡ b) ⊎ (a ≢ b)
same_number zero zero = inl refl
same_number zero (suc b) = inr (λ e. omega (arith, e))
same_number (suc a) zero = inr (λ e. omega (arith, e))
same_number (suc a) (suc b) = next (same_number a b)
  where
    next : (a ≡ b) ⊎ (a ≢ b) → (suc a ≡ suc b) ⊎ (suc a ≢ suc b)
    next (inl is) = inl (ap (λ z. suc z) is)
    next (inr other) = inr (λ e. other (omega (arith, e)))

both_same : (a b x y : ℕ) → a ≡ x → b ≡ y → a + b ≡ x + y
both_same a b x y h l = omega (arith, h, l)

total_same : (k d : ℕ) (f g : ℕ → ℕ) → k < d → ((e : ℕ) → e ≢ d → g e ≡ f e) → total k g ≡ total k f
unfolding total
total_same zero d f g low h = refl
total_same (suc k) d f g low h =
    both_same (g (suc k)) (total k g) (f (suc k)) (total k f) (h (suc k) (λ e. omega (arith, low, e))) (total_same k d f g (omega (arith, low)) h)

-- where it is another at one of them, by this
pub total_moves : (k d x y : ℕ) (f g : ℕ → ℕ) → 1 ≤ d → d ≤ k → ((e : ℕ) → e ≢ d → g e ≡ f e) → g d + x ≡ f d + y → total k g + x ≡ total k f + y
unfolding total
total_moves zero d x y f g low high h here = absurd (none low high)
  where
    none : 1 ≤ d → d ≤ 0 → ⊥
    none a b = omega (arith, a, b)
total_moves (suc k) d x y f g low high h here = by_number (same_number (suc k) d) (λ below. total_moves k d x y f g low below h here)
  where
    at : (a b c z : ℕ) → a + x ≡ c + y → b ≡ z → (a + b) + x ≡ (c + z) + y
    at a b c z p q = omega (arith, p, q)

    past : (a b c z : ℕ) → a ≡ c → b + x ≡ z + y → (a + b) + x ≡ (c + z) + y
    past a b c z p q = omega (arith, p, q)

    lower : (k d : ℕ) → d ≤ suc k → suc k ≢ d → d ≤ k
    lower k d h other = grind (arith, h, other)

    by_number : (suc k ≡ d) ⊎ (suc k ≢ d) → (d ≤ k → total k g + x ≡ total k f + y) → (g (suc k) + total k g) + x ≡ (f (suc k) + total k f) + y
    by_number (inl is) more = at (g (suc k)) (total k g) (f (suc k)) (total k f) (subst (λ e. g e + x ≡ f e + y) (sym is) here) (total_same k d f g (omega (arith, is)) h)
    by_number (inr other) more = past (g (suc k)) (total k g) (f (suc k)) (total k f) (h (suc k) other) (more (lower k d high other))
