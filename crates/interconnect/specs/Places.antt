-- How the packets stand in places: two lists of places, one after the other, in the order of the
-- numbers. A place whose packet has left stays empty until it is swept.
use Rattle.std.specs.Prelude.{ℕ, ◌+◌, ◌*◌, ◌≤◌, List, [], ◌∷◌, ◌++◌, Option, Some, None, length, nat_le, find}
use Rattle.std.specs.Option.{option_map}
use Rattle.interconnect.specs.declared.by_number.Place.{Place}

-- a packet in flight: its number, and the key under which it is found
pub record Keyed : Type 0 where
  pub number : ℕ
  pub key : ℕ

-- the packets, the number of the next one, and the most packets for which there is room
pub record Numbered : Type 0 where
  pub held : List Keyed
  pub next : ℕ
  pub most : ℕ

-- the packet of a place, if it is there, before others
abbrev pub with_key : ℕ → Option ℕ → List Keyed → List Keyed
with_key number None rest = rest
with_key number (Some key) rest = record { number = number; key = key } ∷ rest

-- the packets that stand in places
abbrev pub live : List Place → List Keyed
live [] = []
live (p ∷ rest) = with_key p.number p.key (live rest)

-- the numbers of the places rise, from low on, and stay below the next
abbrev pub IsAscending : ℕ → List Place → ℕ → Type 0
IsAscending low [] next = low ≤ next
IsAscending low (p ∷ rest) next = (low ≤ p.number) × IsAscending (p.number + 1) rest next

-- the places are in the order of the numbers
pub record IsOrdered (ps : List Place) : Type 0 where
  pub next : ℕ
  pub rises : IsAscending 1 ps next

-- the first packet of this number or a greater one, by its number
abbrev pub first_held_from : List Keyed → ℕ → Option ℕ
first_held_from held number = option_map (λ h. h.number) (find (λ h. nat_le number h.number) held)

-- two lists of places
pub record Lists : Type 0 where
  pub swept : List Place
  pub unswept : List Place

-- a place goes over to the swept ones, unless it is empty
abbrev pub kept : Option ℕ → Place → List Place → List Place
kept None p swept = swept
kept (Some key) p swept = swept ++ p ∷ []

-- the first place that is not swept is swept; where all are, sweeping begins anew
abbrev pub sweeping : List Place → List Place → Lists
sweeping swept [] = record { swept = []; unswept = swept }
sweeping swept (p ∷ rest) = record { swept = kept p.key p swept; unswept = rest }

-- how far the lists are from full: each packet that comes adds four, each step of sweeping takes one away
pub record IsRoomy (swept unswept : List Place) (most slack wait : ℕ) : Type 0 where
  pub few : length (live (swept ++ unswept)) ≤ most
  pub spread : 2 * (3 * length swept + 3 * length (live unswept) + length unswept) ≤ 9 * most + 2 * slack
  pub waiting : 2 * length unswept ≤ 3 * most + 2 * wait

-- the places are in order, and in lists that have room
pub record IsKept (swept unswept : List Place) (swept_room unswept_room most next : ℕ) : Type 0 where
  pub ascending : IsAscending 1 (swept ++ unswept) next
  pub roomy : IsRoomy swept unswept most 0 1
  pub room : 3 * most + 4 ≤ 2 * swept_room
  pub room_behind : 3 * most + 4 ≤ 2 * unswept_room
