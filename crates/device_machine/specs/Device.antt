-- The shared device as its commands see it: SPC-3 persistent reservations of type 5h (Write Exclusive - Registrants Only),
-- and beside the data an epoch word. Nodes use no other type, and never release, clear or unregister.
-- All of it is kept through a loss of power, so that is no step.
use Rattle.std.specs.Prelude.{ℕ, Bool, true, false, ◌≡◌, ◌⊎◌, ◌&&◌, not, if◌then◌else◌, nat_eq}
use Rattle.machine_base.specs.Put.{put}

pub record Device : Type 0 where
  -- whose registrations stand; a node has one key
  pub keys : ℕ → Bool
  -- a reservation of type 5h stands ..
  pub reserved : Bool
  -- .. which this node made, or took over
  pub holder : ℕ
  -- the epoch word
  pub word : ℕ
  -- what is written to it
  pub content : ℕ

-- A write or a swap is refused (RESERVATION CONFLICT) where a reservation stands and the sender is not registered.
abbrev pub LetsWrite : Device → ℕ → Type 0
LetsWrite d n = (d.reserved ≡ false) ⊎ (d.keys n ≡ true)

-- REGISTER AND IGNORE EXISTING KEY by n, with its own key: n is registered.
abbrev pub registering : Device → ℕ → Device
registering d n = record d { keys = put d.keys n true }

-- A swap that finds the word that it expects.
abbrev pub wording : Device → ℕ → Device
wording d w = record d { word = w }

-- RESERVE by n: a registered sender gets the reservation where there is none. Else nothing changes, be the answer good or conflict.
abbrev pub reserving : Device → ℕ → Device
reserving d n = if (d.keys n) && not d.reserved then record d { reserved = true; holder = n } else d

-- PREEMPT of k's key by n: where both are registered, k's registration goes, and with it goes a reservation of k to n.
-- Else the answer is conflict and nothing changes.
abbrev pub preempting : Device → ℕ → ℕ → Device
preempting d n k =
    if (d.keys n) && (d.keys k) then record d { keys = put d.keys k false; holder = if nat_eq k d.holder then n else d.holder } else d

-- A write that is taken.
abbrev pub storing : Device → ℕ → Device
storing d x = record d { content = x }

-- The first state: word 0, no reservation, and the keys of the nodes that are attached to it where it has votes.
abbrev pub first_device : (ℕ → Bool) → Device
first_device registered = record { keys = registered; reserved = false; holder = 0; word = 0; content = 0 }
