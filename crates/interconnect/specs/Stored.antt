-- How the packets in flight stand in the slab: each under a key, by which it is found.
use Rattle.std.specs.Prelude.{ℕ, ◌≡◌, List, [], ◌∷◌, Some, unwrap_or, map}
use Rattle.std.specs.Option.{option_map}
use Rattle.slab.specs.Slab.{Slab, get}
use Rattle.interconnect.specs.declared.flight.Held.{Held}
use Rattle.interconnect.specs.Places.{Keyed}

-- a packet in flight, with its key
pub record Stored : Type 0 where
  pub number : ℕ
  pub key : ℕ
  pub from : ℕ
  pub to : ℕ
  pub chain : ℕ

-- what the slab holds under a key
abbrev pub held_at : Slab Held → ℕ → Held
held_at packets key = unwrap_or (get packets key) (record { number = 0; from = 0; to = 0; chain = 0 })

-- the packet of a number and key
abbrev pub stored : Slab Held → Keyed → Stored
stored packets k = record {
  number = k.number;
  key = k.key;
  from = (held_at packets k.key).from;
  to = (held_at packets k.key).to;
  chain = (held_at packets k.key).chain;
}

-- the packets of these numbers and keys
abbrev pub all_stored : Slab Held → List Keyed → List Stored
all_stored packets held = map (stored packets) held

-- under each key the slab holds the packet of its number
abbrev pub Agrees : Slab Held → List Keyed → Type 0
Agrees packets [] = Unit {0}
Agrees packets (k ∷ rest) = (option_map (λ h. h.number) (get packets k.key) ≡ Some k.number) × Agrees packets rest
