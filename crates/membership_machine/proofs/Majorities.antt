-- Two majorities of the same votes share a node, or a quorum device with votes.
use Rattle.std.proofs.Common.{ℕ, zero, suc, ◌+◌, ◌<◌, ◌≤◌, ◌≡◌, ◌⊎◌, inl, inr, refl, Bool, true, false, arith, eq-zero-or-pos}
use Rattle.membership_machine.specs.Votes.{Votes, Setting, weight, IsMajority}

-- one of those in both sets, who has votes
pub record Common (v : ℕ → ℕ) (a b : ℕ → Bool) : Type 0 where
  pub one : ℕ
  pub first : a one ≡ true
  pub second : b one ≡ true
  pub votes : 0 < v one

abbrev NoneCommon : (ℕ → ℕ) → (ℕ → Bool) → (ℕ → Bool) → ℕ → Type 0
NoneCommon v a b n = weight v a n + weight v b n ≤ weight v (λ _. true) n

both : (v : ℕ → ℕ) (a b : ℕ → Bool) (n : ℕ) → a n ≡ true → b n ≡ true → (v n ≡ 0) ⊎ (0 < v n) → NoneCommon v a b n → Common v a b ⊎ NoneCommon v a b (suc n)
both v a b n p q (inl z) h = inr (rw (p, q, z) (omega arith))
both v a b n p q (inr z) h = inl (record { one = n; first = p; second = q; votes = z })

grown : (v : ℕ → ℕ) (a b : ℕ → Bool) (n : ℕ) (x : Bool) → a n ≡ x → (y : Bool) → b n ≡ y → NoneCommon v a b n → Common v a b ⊎ NoneCommon v a b (suc n)
grown v a b n true p true q h = both v a b n p q (eq-zero-or-pos (v n)) h
grown v a b n true p false q h = inr (rw (p, q) (omega arith))
grown v a b n false p true q h = inr (rw (p, q) (omega arith))
grown v a b n false p false q h = inr (rw (p, q) (omega arith))

pub common : (v : ℕ → ℕ) (a b : ℕ → Bool) (n : ℕ) → Common v a b ⊎ NoneCommon v a b n
common v a b zero = inr (omega arith)
common v a b (suc n) = go (common v a b n)
  where
    go : Common v a b ⊎ NoneCommon v a b n → Common v a b ⊎ NoneCommon v a b (suc n)
    go (inl c) = inl c
    go (inr h) = grown v a b n (a n) refl (b n) refl h

too_many : (S : Setting) (v : Votes) (a b x y : ℕ → Bool) → IsMajority S v a x → IsMajority S v b y → NoneCommon v.of_node a b S.nodes → NoneCommon v.of_device x y S.devices → ⊥
too_many S v a b x y p q h k = omega (arith, p.more_than_half, q.more_than_half)

pub majorities_share : (S : Setting) (v : Votes) (a b x y : ℕ → Bool) → IsMajority S v a x → IsMajority S v b y → Common v.of_node a b ⊎ Common v.of_device x y
majorities_share S v a b x y p q = go (common v.of_node a b S.nodes) (common v.of_device x y S.devices)
  where
    go : Common v.of_node a b ⊎ NoneCommon v.of_node a b S.nodes → Common v.of_device x y ⊎ NoneCommon v.of_device x y S.devices → Common v.of_node a b ⊎ Common v.of_device x y
    go (inl c) _ = inl c
    go (inr _) (inl c) = inr c
    go (inr h) (inr k) = absurd (too_many S v a b x y p q h k)
