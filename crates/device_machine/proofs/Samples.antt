-- What the sample runs use.
use Rattle.std.proofs.Common.{◌≡◌, ℕ, ◌⊎◌, inl, inr, true, false, sym, subst, List, [], ◌∷◌, ◌++◌, arith}
use Rattle.device_machine.specs.Device.{Device, LetsWrite}
use Rattle.device_machine.specs.Sharing.{Sharing, Event, after, Run}
use Rattle.device_machine.specs.Sample.{just, pair, three}

-- two runs, one after the other
pub run_on : (s t u : Sharing) (es fs : List Event) → Run s es t → Run t fs u → Run s (es ++ fs) u
run_on s t u [] fs r x = subst (λ w. Run w fs u) r x
run_on s t u (e ∷ es) fs r x = (r.0, run_on (after s e) t u es fs r.1 x)

-- a reservation stands and the key is absent
pub refused : (d : Device) (n : ℕ) → d.reserved ≡ true → d.keys n ≡ false → LetsWrite d n → ⊥
refused d n r k (inl h) = let x = r in absurd (cc)
refused d n r k (inr h) = let x = k in absurd (cc)

-- what holds of each node of a set
pub for_just : (P : ℕ → Type 0) (a m : ℕ) → P a → just a m ≡ true → P m
for_just P a m x h = let e : m ≡ a = grind arith in subst P (sym e) x

one_of_pair : (a b m : ℕ) → pair a b m ≡ true → (m ≡ a) ⊎ (m ≡ b)
one_of_pair a b m h = grind arith

pub for_pair : (P : ℕ → Type 0) (a b m : ℕ) → P a → P b → pair a b m ≡ true → P m
for_pair P a b m x y h = go (one_of_pair a b m h)
  where
    go : ((m ≡ a) ⊎ (m ≡ b)) → P m
    go (inl e) = subst P (sym e) x
    go (inr e) = subst P (sym e) y

one_of_three : (a b c m : ℕ) → three a b c m ≡ true → (m ≡ a) ⊎ ((m ≡ b) ⊎ (m ≡ c))
one_of_three a b c m h = grind arith

pub for_three : (P : ℕ → Type 0) (a b c m : ℕ) → P a → P b → P c → three a b c m ≡ true → P m
for_three P a b c m x y z h = go (one_of_three a b c m h)
  where
    go : ((m ≡ a) ⊎ ((m ≡ b) ⊎ (m ≡ c))) → P m
    go (inl e) = subst P (sym e) x
    go (inr (inl e)) = subst P (sym e) y
    go (inr (inr e)) = subst P (sym e) z
