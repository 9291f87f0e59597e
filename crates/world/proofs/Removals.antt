-- A packet that is not in flight.
use Rattle.std.proofs.Common.{◌≡◌, ℕ, ◌==◌, not, cond, Bool, true, false, List, [], ◌∷◌, Option, None, Some, filter, refl, sym, ap}
use Rattle.cmm_attempt.proofs.Basics.{none_some}
use Rattle.interconnect.specs.Links.{Links, Packet, packet_of, removing}

kept_by : (b : Bool) (x : Packet) (xs kept : List Packet) (found : Option Packet) → cond b (Some x) found ≡ None → (found ≡ None → kept ≡ xs) → cond (not b) (x ∷ kept) kept ≡ x ∷ xs
kept_by true x xs kept found none more = absurd (none_some x (sym none))
kept_by false x xs kept found none more = ap (λ (ys : List Packet). x ∷ ys) (more none)

all_kept : (xs : List Packet) (number : ℕ) → packet_of xs number ≡ None → filter (λ x. not (x.number == number)) xs ≡ xs
all_kept [] number none = refl
all_kept (x ∷ xs) number none =
    kept_by (x.number == number) x xs (filter (λ y. not (y.number == number)) xs) (packet_of xs number) none (all_kept xs number)

-- nothing is removed where there is none of the number
pub none_removed : (links : Links) (number : ℕ) → packet_of links.packets number ≡ None → removing links number ≡ links
none_removed links number none = ap (λ (xs : List Packet). let l : Links = record { packets = xs; next = links.next; cells = links.cells } in l) (all_kept links.packets number none)
