-- The first packet from a number on: the places below the number are passed over, then the empty ones.
use Rattle.std.proofs.Common.{◌≡◌, ◌≢◌, ℕ, suc, zero, ◌+◌, ◌<◌, ◌≤◌, ◌++◌, nat_le, true, false, List, [], ◌∷◌, inl, inr, Option, Some, None, IsSome, length, drop, get_or, refl, sym, ap, ◌∙◌, subst, arith, add-one}
use Rattle.std.specs.List.{find}
use Rattle.std.specs.Option.{option_map, option_or}
use Rattle.std.proofs.lemmas.Bool.{cases_lt}
use Rattle.std.proofs.lemmas.Bool.Decides.{nat_tests}
use Rattle.std.proofs.lemmas.List.{get_or-map}
use Rattle.std.proofs.lemmas.List.Folds.{find-append}
use Rattle.interconnect.specs.declared.by_number.Place.{Place}
use Rattle.interconnect.specs.Links.{Packet, NumbersRise, first_from_of}
use Rattle.interconnect.specs.Stored.{Stored, stored, all_stored}
use Rattle.interconnect.specs.declared.flight.Held.{Held}
use Rattle.slab.specs.Slab.{Slab}
use Rattle.interconnect.specs.Flights.{shown, all_shown, IsRising}
use Rattle.interconnect.specs.Places.{Keyed, with_key, live, IsAscending, first_held_from}
use Rattle.interconnect.proofs.Lists.{find_mapped}
use Rattle.interconnect.proofs.Places.{Pairs, Misses, numbers_of, live_append}

test_from : (n m : ℕ) → n ≤ m → nat_le n m ≡ true
test_from n m le = grind (arith, nat_tests)

test_below : (n m : ℕ) → m < n → nat_le n m ≡ false
test_below n m lt = grind (arith, nat_tests)

abbrev pub from_on : ℕ → List Keyed → Option Keyed
from_on n held = find (λ h. nat_le n h.number) held

-- a place below the number
over : (o : Option ℕ) (k n : ℕ) (held : List Keyed) → k < n → from_on n (with_key k o held) ≡ from_on n held
over None k n held lt = refl
over (Some key) k n held lt =
    let t : nat_le n k ≡ false = test_below n k lt in rw t refl

pub passed : (low next : ℕ) (ps : List Place) (n k : ℕ) → IsAscending low ps next → k ≤ length ps → ((j : ℕ) → j < k → get_or (numbers_of ps) j 0 < n)
    → from_on n (live ps) ≡ from_on n (live (drop k ps))
passed low next [] n zero a le below = refl
passed low next [] n (suc k) a le below = refl
passed low next (p ∷ rest) n zero a le below = refl
passed low next (p ∷ rest) n (suc k) a le below =
    over p.key p.number n (live rest) (below 0 (omega arith))
    ∙ passed (p.number + 1) next rest n k a.1 (omega arith) (λ j l. below (suc j) (omega arith))

-- an empty place
emptied : (p : Place) (held : List Keyed) → p.key ≡ None → with_key p.number p.key held ≡ held
emptied p held e = rw e refl

empty_at : (ps : List Place) (i : ℕ) (p : Place) → i < length ps → p ≡ get_or ps i p → p.key ≡ None → live (drop i ps) ≡ live (drop (suc i) ps)
empty_at [] i p l e none = absurd (omega arith)
empty_at (x ∷ rest) zero p l e none = emptied x (live rest) (ap (λ (v : Place). v.key) (sym e) ∙ none)
empty_at (x ∷ rest) (suc i) p l e none = empty_at rest i p (omega arith) e none

pub passed_empty : (ps : List Place) (n i : ℕ) (p : Place) → i < length ps → p ≡ get_or ps i p → p.key ≡ None
    → from_on n (live ps) ≡ from_on n (live (drop i ps)) → from_on n (live ps) ≡ from_on n (live (drop (i + 1) ps))
passed_empty ps n i p l e none so =
    so ∙ ap (λ (held : List Keyed). from_on n held) (empty_at ps i p l e none) ∙ ap (λ (k : ℕ). from_on n (live (drop k ps))) (sym (add-one i))

-- a place with a packet
live_at : (ps : List Place) (i : ℕ) (p : Place) → i < length ps → p ≡ get_or ps i p → live (drop i ps) ≡ with_key p.number p.key (live (drop (suc i) ps))
live_at [] i p l e = absurd (omega arith)
live_at (x ∷ rest) zero p l e = ap (λ (v : Place). with_key v.number v.key (live rest)) (sym e)
live_at (x ∷ rest) (suc i) p l e = live_at rest i p (omega arith) e

no_some : IsSome (let o : Option ℕ = None in o) → ⊥
no_some s = cc

first_here : (o : Option ℕ) (k n : ℕ) (held : List Keyed) → n ≤ k → IsSome o → Some k ≡ option_map (λ h. h.number) (from_on n (with_key k o held))
first_here None k n held le s = absurd (no_some s)
first_here (Some key) k n held le s =
    let t : nat_le n k ≡ true = test_from n k le in rw t refl

pub first_at : (low next : ℕ) (ps : List Place) (n i : ℕ) (p : Place) → IsAscending low ps next → i < length ps → p ≡ get_or ps i p → n ≤ get_or (numbers_of ps) i 0 → IsSome p.key
    → from_on n (live ps) ≡ from_on n (live (drop i ps)) → Some p.number ≡ first_held_from (live ps) n
first_at low next ps n i p a l e le s so =
    let here : get_or (numbers_of ps) i 0 ≡ p.number = get_or-map (λ (v : Place). v.number) ps i p 0 l ∙ ap (λ (v : Place). v.number) (sym e) in
    first_here p.key p.number n (live (drop (suc i) ps)) (omega (arith, le, here)) s
    ∙ ap (λ (held : List Keyed). option_map (λ h. h.number) (from_on n held)) (sym (live_at ps i p l e))
    ∙ ap (λ (o : Option Keyed). option_map (λ h. h.number) o) (sym so)

-- no place of the number
pub missed : (ps : List Place) (n m : ℕ) → Pairs ps → ((k : ℕ) → k < m → get_or (numbers_of ps) k 0 < n) → ((k : ℕ) → m ≤ k → k < length ps → n ≤ get_or (numbers_of ps) k 0)
    → (m < length ps → get_or (numbers_of ps) m 0 ≢ n) → Misses ps n
missed ps n m pairs below from other k l s = elim (cases_lt k m) [
  | inl lower ↦ (let q = below k lower in omega arith)
  | inr upper ↦ elim (cases_lt m k) [
    | inl later ↦ (let q = pairs m k later l in let r = from m (omega arith) (omega arith) in omega arith)
    | inr same ↦ (let e : k ≡ m = omega arith in other (omega arith) (subst (λ (j : ℕ). get_or (numbers_of ps) j 0 ≡ n) e s))
  ]
]

-- in two lists, one behind the other
none_is : {k : ℕ} → (let o : Option ℕ = None in o ≡ Some k) → ⊥
none_is e = cc

some_is : (k : ℕ) → (let o : Option ℕ = Some k in o ≡ None) → ⊥
some_is k e = cc

front : (a b : Option Keyed) (k : ℕ) → option_map (λ h. h.number) a ≡ Some k → option_map (λ h. h.number) (option_or a b) ≡ Some k
front None b k e = absurd (none_is e)
front (Some h) b k e = e

behind : (a b : Option Keyed) → option_map (λ h. h.number) a ≡ None → option_map (λ h. h.number) (option_or a b) ≡ option_map (λ h. h.number) b
behind None b e = refl
behind (Some h) b e = absurd (some_is h.number e)

pub first_in_front : (xs ys : List Place) (n k : ℕ) → first_held_from (live xs) n ≡ Some k → first_held_from (live (xs ++ ys)) n ≡ Some k
first_in_front xs ys n k e =
    ap (λ (held : List Keyed). first_held_from held n) (live_append xs ys)
    ∙ ap (λ (o : Option Keyed). option_map (λ h. h.number) o) (find-append (λ (h : Keyed). nat_le n h.number) (live xs) (live ys))
    ∙ front (from_on n (live xs)) (from_on n (live ys)) k e

pub first_behind : (xs ys : List Place) (n : ℕ) → first_held_from (live xs) n ≡ None → first_held_from (live (xs ++ ys)) n ≡ first_held_from (live ys) n
first_behind xs ys n e =
    ap (λ (held : List Keyed). first_held_from held n) (live_append xs ys)
    ∙ ap (λ (o : Option Keyed). option_map (λ h. h.number) o) (find-append (λ (h : Keyed). nat_le n h.number) (live xs) (live ys))
    ∙ behind (from_on n (live xs)) (from_on n (live ys)) e

-- as the links show it
number_of : (pool : List (Option (List ℕ))) (o : Option Stored) → option_map (λ p. p.number) (option_map (shown pool) o) ≡ option_map (λ h. h.number) o
number_of pool None = refl
number_of pool (Some h) = refl

number_stored : (packets : Slab Held) (o : Option Keyed) → option_map (λ s. s.number) (option_map (stored packets) o) ≡ option_map (λ h. h.number) o
number_stored packets None = refl
number_stored packets (Some h) = refl

pub first_shown : (pool : List (Option (List ℕ))) (packets : Slab Held) (held : List Keyed) (n : ℕ)
    → first_from_of (all_shown pool (all_stored packets held)) n ≡ first_held_from held n
first_shown pool packets held n =
    ap (λ (o : Option Packet). option_map (λ p. p.number) o) (find_mapped (shown pool) (λ (p : Packet). nat_le n p.number) (all_stored packets held))
    ∙ number_of pool (find (λ s. nat_le n s.number) (all_stored packets held))
    ∙ ap (λ (o : Option Stored). option_map (λ s. s.number) o) (find_mapped (stored packets) (λ (s : Stored). nat_le n s.number) held)
    ∙ number_stored packets (from_on n held)

pub rising_shown : (pool : List (Option (List ℕ))) (low next : ℕ) (held : List Stored) → IsRising low held next → NumbersRise low (all_shown pool held) next
rising_shown pool low next [] r = r
rising_shown pool low next (h ∷ rest) r = (r.0, rising_shown pool (h.number + 1) next rest r.1)
