use Rattle.std.proofs.Common.{◌≡◌, ℕ, ◌+◌, ◌≤◌, ◌++◌, ◌==◌, ◌&&◌, not, nat_lt, cond, if◌then◌else◌, true, false, Bool, List, [], ◌∷◌, Option, Some, None, length, refl, ap, subst, arith}
use Rattle.std.specs.List.{find}
use Rattle.std.specs.Option.{option_map}
use Rattle.std.proofs.lemmas.List.Sums.{sum_by_push}
use Rattle.std.proofs.lemmas.Bool.Decides.{nat_tests}
use Rattle.cell_pool.specs.Cells.{cells_for}
use Rattle.interconnect.specs.Links.{Packet, Links, is_on, count_on, oldest_on, free_cells_of, refusing, dropping, crowding, appending, removing, sending}
use Rattle.interconnect.specs.Flights.{IsUncrowded}
use Rattle.interconnect.proofs.Places.{test_same}
use Rattle.interconnect.proofs.Lists.{weight, weight_no, count_filter, count_less, count_none}

both : (a b c d : ℕ) → ((a == b) && (c == d)) ≡ true → (a ≡ b) × (c ≡ d)
both a b c d t = grind (arith, nat_tests)

pub removing_uncrowded : (net : Links) (n : ℕ) → IsUncrowded net.packets → IsUncrowded (removing net n).packets
removing_uncrowded net n u from to =
    let k = u from to in omega (arith, count_filter (is_on from to) (λ (p : Packet). not (p.number == n)) net.packets)

-- one link has one packet too many at most
record IsFull (packets : List Packet) (from to : ℕ) : Type 0 where
  pub own : count_on packets from to ≤ 65
  pub others : (f t : ℕ) → ((from == f) && (to == t)) ≡ false → count_on packets f t ≤ 64

count_push : (packets : List Packet) (p : Packet) (f t : ℕ) → count_on (packets ++ p ∷ []) f t ≡ count_on packets f t + weight (is_on f t p)
count_push packets p f t = sum_by_push (λ q. cond (is_on f t q) 1 0) packets p

at_most_one : (b : Bool) → weight b ≤ 1
at_most_one true = omega arith
at_most_one false = omega arith

full_push : (packets : List Packet) (p : Packet) → IsUncrowded packets → IsFull (packets ++ p ∷ []) p.from p.to
full_push packets p u = record {
  own = let k = u p.from p.to in omega (arith, count_push packets p p.from p.to, at_most_one (is_on p.from p.to p));
  others = λ f t s.
      let k = u f t in
      let none : weight (is_on f t p) ≡ 0 = weight_no (is_on f t p) s in
      omega (arith, count_push packets p f t);
}

-- each link has at most 64 if that of these two nodes has
all_fit : (packets : List Packet) (from to : ℕ) → count_on packets from to ≤ 64 → ((f t : ℕ) → ((from == f) && (to == t)) ≡ false → count_on packets f t ≤ 64)
    → (f t : ℕ) (b : Bool) → ((from == f) && (to == t)) ≡ b → count_on packets f t ≤ 64
all_fit packets from to own others f t true s =
    let is : (from ≡ f) × (to ≡ t) = both from f to t s in
    subst (λ (m : ℕ). count_on packets f m ≤ 64) is.1 (subst (λ (m : ℕ). count_on packets m to ≤ 64) is.0 own)
all_fit packets from to own others f t false s = others f t s

dropping_uncrowded : (net : Links) (number from to : ℕ) (o : Option Packet) → IsFull net.packets from to → find (is_on from to) net.packets ≡ o
    → IsUncrowded (dropping net number (option_map (λ p. p.number) o)).after.packets
dropping_uncrowded net number from to None full e f t =
    all_fit net.packets from to (omega (arith, count_none (is_on from to) net.packets e)) full.others f t ((from == f) && (to == t)) refl
dropping_uncrowded net number from to (Some p) full e f t =
    let gone : not (p.number == p.number) ≡ false = ap (λ (b : Bool). not b) (test_same p.number p.number refl) in
    let own = full.own in
    all_fit (removing net p.number).packets from to
    (omega (arith, count_less (is_on from to) (λ (q : Packet). not (q.number == p.number)) net.packets p e gone))
    (λ f t s. let k = full.others f t s in omega (arith, count_filter (is_on f t) (λ (q : Packet). not (q.number == p.number)) net.packets))
    f t ((from == f) && (to == t)) refl

low_enough : (n : ℕ) → nat_lt 64 n ≡ false → n ≤ 64
low_enough n t = grind (arith, nat_tests)

crowding_at : (net : Links) (number from to : ℕ) (b : Bool) → nat_lt 64 (count_on net.packets from to) ≡ b → IsFull net.packets from to
    → IsUncrowded (if b then dropping net number (oldest_on net.packets from to) else record { after = net; sent = record { number = Some number; dropped = None } }).after.packets
crowding_at net number from to true s full = dropping_uncrowded net number from to (find (is_on from to) net.packets) full refl
crowding_at net number from to false s full = λ f t.
    all_fit net.packets from to (low_enough (count_on net.packets from to) s) full.others f t ((from == f) && (to == t)) refl

-- a link never has more than 64 packets
pub sending_uncrowded : (net : Links) (from to : ℕ) (bytes : List ℕ) → IsUncrowded net.packets → IsUncrowded (sending net from to bytes).after.packets
sending_uncrowded net from to bytes u =
    let p : Packet = record { number = net.next; from = from; to = to; bytes = bytes } in
    elim (nat_lt (free_cells_of net) (cells_for (length bytes))) as (λ (b : Bool). IsUncrowded (if b then refusing net
    else crowding (appending net from to bytes) net.next from to).after.packets) [
      | true ↦ u
      | false ↦ crowding_at (appending net from to bytes) net.next from to (nat_lt 64 (count_on (appending net from to bytes).packets from to)) refl (full_push net.packets p u)
    ]
