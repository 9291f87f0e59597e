-- A round brings the packets of the numbers one after another, and passes over those that are not in flight.
use Rattle.std.proofs.Common.{◌≡◌, ◌≢◌, ◌⊎◌, ℕ, suc, zero, ◌+◌, ◌<◌, ◌≤◌, ◌==◌, nat_le, true, false, List, [], ◌∷◌, inl, inr, None, unwrap_or, refl, ap, ◌∙◌, subst, arith}
use Rattle.std.proofs.lemmas.Bool.{cases_lt}
use Rattle.std.proofs.lemmas.Bool.Decides.{nat_tests}
use Rattle.interconnect.specs.Links.{Packet, NumbersRise, first_from_of, packet_of}
use Rattle.world_model.specs.Worlds.{Play}
use Rattle.world_model.specs.Rounds.{bringing, bringing_below}

test_other : (a b : ℕ) → a ≢ b → (a == b) ≡ false
test_other a b e = grind (arith, nat_tests)

test_from : (n m : ℕ) → n ≤ m → nat_le n m ≡ true
test_from n m le = grind (arith, nat_tests)

test_below : (n m : ℕ) → m < n → nat_le n m ≡ false
test_below n m lt = grind (arith, nat_tests)

-- a packet of another number is none of this
other : (p : Packet) (ps : List Packet) (k : ℕ) → p.number ≢ k → packet_of ps k ≡ None → packet_of (p ∷ ps) k ≡ None
other p ps k ne e = let t : (p.number == k) ≡ false = test_other p.number k ne in rw t e

-- no packet has a number below those that rise
none_below : (ps : List Packet) (low top k : ℕ) → NumbersRise low ps top → k < low → packet_of ps k ≡ None
none_below [] low top k r lt = refl
none_below (p ∷ ps) low top k r lt =
    let m = r.0 in
    other p ps k (λ e. absurd (omega arith)) (none_below ps (p.number + 1) top k r.1 (omega arith))

first_of : (p : Packet) (ps : List Packet) (n d k top : ℕ) → NumbersRise (p.number + 1) ps top → n ≤ k → k < unwrap_or (first_from_of (p ∷ ps) n) d
    → (k < unwrap_or (first_from_of ps n) d → packet_of ps k ≡ None) → packet_of (p ∷ ps) k ≡ None
first_of p ps n d k top r from lt later = split (cases_lt p.number n)
  where
    split : (p.number < n) ⊎ (n ≤ p.number) → packet_of (p ∷ ps) k ≡ None
    split (inl less) =
        let t : nat_le n p.number ≡ false = test_below n p.number less in
        other p ps k (λ e. absurd (omega arith)) (later (rw t at lt))
    split (inr more) =
        let t : nat_le n p.number ≡ true = test_from n p.number more in
        let s : k < p.number = rw t at lt in
        other p ps k (λ e. absurd (omega arith)) (none_below ps (p.number + 1) top k r (omega arith))

-- none is between a number and the first from it
pub none_between : (ps : List Packet) (low top d n k : ℕ) → NumbersRise low ps top → n ≤ k → k < unwrap_or (first_from_of ps n) d → packet_of ps k ≡ None
none_between [] low top d n k r from lt = refl
none_between (p ∷ ps) low top d n k r from lt =
    first_of p ps n d k top r.1 from lt (λ less. none_between ps (p.number + 1) top d n k r.1 from less)

brings_none : (nodes n : ℕ) (q : Play) → packet_of q.world.links.packets n ≡ None → bringing nodes n q ≡ q
brings_none nodes n q e = rw e refl

one_over : (nodes n next : ℕ) (p q : Play) → bringing_below nodes n p ≡ q → n ≤ suc next
    → ((k : ℕ) → n ≤ k → k < suc next → packet_of q.world.links.packets k ≡ None)
    → (n ≤ next → bringing_below nodes next p ≡ q) → bringing_below nodes (suc next) p ≡ q
one_over nodes n next p q e le none before = split (cases_lt next n)
  where
    split : (next < n) ⊎ (n ≤ next) → bringing_below nodes (suc next) p ≡ q
    split (inl less) = let z : n ≡ suc next = omega arith in subst (λ (m : ℕ). bringing_below nodes m p ≡ q) z e
    split (inr more) = ap (λ (s : Play). bringing nodes next s) (before more) ∙ brings_none nodes next q (none next more (omega arith))

-- numbers of which none is in flight bring nothing
pub passed_over : (nodes n next : ℕ) (p q : Play) → bringing_below nodes n p ≡ q → n ≤ next
    → ((k : ℕ) → n ≤ k → k < next → packet_of q.world.links.packets k ≡ None) → bringing_below nodes next p ≡ q
passed_over nodes n zero p q e le none = let z : n ≡ zero = omega arith in subst (λ (m : ℕ). bringing_below nodes m p ≡ q) z e
passed_over nodes n (suc next) p q e le none =
    one_over nodes n next p q e le none (λ more. passed_over nodes n next p q e more (λ k from lt. none k from (omega arith)))

-- one more is brought, and those up to the next are passed over
pub one_brought : (nodes n next : ℕ) (p q r : Play) → bringing_below nodes n p ≡ q → bringing nodes n q ≡ r → n < next
    → ((k : ℕ) → n + 1 ≤ k → k < next → packet_of r.world.links.packets k ≡ None) → bringing_below nodes next p ≡ r
one_brought nodes n next p q r e f lt none =
    passed_over nodes (suc n) next p r (ap (λ (s : Play). bringing nodes n s) e ∙ f) (omega arith) (λ k from less. none k (omega arith) less)
