-- The least number of a set.
use Rattle.std.proofs.Common.{◌≡◌, ◌≢◌, ℕ, ◌-◌, ◌<◌, ◌≤◌, ◌==◌, ◌||◌, ◌&&◌, ◌⊎◌, inl, inr, Bool, true, false, suc, zero, refl, sym, subst, arith}
use Rattle.std.proofs.lemmas.Bool.Decides.{eqb_tells, leb_tells}
use Rattle.cl_base.specs.Sets.{has}
use Rattle.cl_base.proofs.SetLemmas.{has_not_zero}
use Rattle.heartbeats.specs.Due.{some_to, is_least}

none_below : (set k n : ℕ) → ((m : ℕ) → m < n → has set m ≡ false) → k < n → some_to (has set) k ≡ false
none_below set zero n none lt = refl
none_below set (suc k) n none lt = rw (none_below set k n none (omega arith), none (suc k) lt) refl

some_at : (set k n : ℕ) → 1 ≤ n → n ≤ k → has set n ≡ true → some_to (has set) k ≡ true
some_at set zero n low high there = absurd (omega arith)
some_at set (suc k) n low high there = next (leb_tells n k) (λ le. some_at set k n low le there)
  where
    last : n ≡ suc k → has set (suc k) ≡ true
    last e = subst (λ z. has set z ≡ true) e there

    either : (b : Bool) → (b || true) ≡ true
    either true = refl
    either false = refl

    next : {t : Bool} → (t ≡ true) × (n ≤ k) ⊎ (t ≡ false) × (k < n) → (n ≤ k → some_to (has set) k ≡ true) → (some_to (has set) k || has set (suc k)) ≡ true
    next (inl (_, le)) earlier = rw (earlier le) refl
    next (inr (_, lt)) earlier = rw (last (omega arith)) (either (some_to (has set) k))

positive : (set n : ℕ) → has set n ≡ true → 1 ≤ n
positive set zero there = let no : has set 0 ≡ false = has_not_zero set in absurd (cc)
positive set (suc n) there = omega arith

same_case : (set n me : ℕ) → has set n ≡ true → ((m : ℕ) → m < n → has set m ≡ false) → {t : Bool} → (t ≡ true) × (n ≡ me) ⊎ (t ≡ false) × (n ≢ me) → t ≡ is_least set me
same_case set n me there none (inl (is, e)) =
    let at_me : has set me ≡ true = subst (λ z. has set z ≡ true) e there in
    let below : some_to (has set) (me - 1) ≡ false = none_below set (me - 1) n none (omega (arith, positive set n there)) in
    rw (is, at_me, below) refl
same_case set n me there none {t = t} (inr (un, ne)) = other (leb_tells me n)
  where
    and_false : (b : Bool) → (b && false) ≡ false
    and_false true = refl
    and_false false = refl

    other : {u : Bool} → (u ≡ true) × (me ≤ n) ⊎ (u ≡ false) × (n < me) → t ≡ is_least set me
    other (inl (_, le)) = let gone : has set me ≡ false = none me (omega arith) in rw (un, gone) refl
    other (inr (_, lt)) = let some : some_to (has set) (me - 1) ≡ true = some_at set (me - 1) n (positive set n there) (omega arith) there in rw (un, some) (sym (and_false (has set me)))

pub least_tells : (set n me : ℕ) → has set n ≡ true → ((m : ℕ) → m < n → has set m ≡ false) → (n == me) ≡ is_least set me
least_tells set n me there none = same_case set n me there none (eqb_tells n me)

pub none_tells : (set me : ℕ) → ((m : ℕ) → has set m ≡ false) → false ≡ is_least set me
none_tells set me none = rw (none me) refl
