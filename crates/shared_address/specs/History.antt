-- What has come to a balancer, and what each of its addresses is by that.
use Rattle.std.specs.Prelude.{ℕ, ◌≡◌, List, [], ◌∷◌, ◌++◌, if◌then◌else◌, unwrap_or}
use Rattle.std.specs.Map.{lookup, remove_entry}
use Rattle.std.specs.Str.{bytes_eq}
use Rattle.indexmap.specs.IndexMap.{insert_entry}
use Rattle.shared_address.specs.States.{AddressState, fresh}
use Rattle.shared_address.specs.Choosing.{Request, Outcome, chosen}

-- Addresses by their names.

-- what is known of the address of this name: of one that nothing came for, what is so before the first request
abbrev pub state_of : List (List ℕ × AddressState) → List ℕ → AddressState
state_of addresses name = unwrap_or (lookup (bytes_eq name) addresses) fresh

-- with this for the address of the name; one that is not there yet goes last
abbrev pub with_state : List (List ℕ × AddressState) → List ℕ → AddressState → List (List ℕ × AddressState)
with_state addresses name s = insert_entry bytes_eq addresses name s

-- the others, in their order
abbrev pub without_address : List (List ℕ × AddressState) → List ℕ → List (List ℕ × AddressState)
without_address addresses name = remove_entry (bytes_eq name) addresses

-- Histories, newest first.

-- a request for the address of this name came, or the address was dropped
pub data Event : Type 0 where
  Asked : (name : List ℕ) (r : Request) → Event
  Dropped : (name : List ℕ) → Event

-- the requests for the address since it was dropped last
abbrev pub requests_for : List ℕ → List Event → List Request
requests_for name [] = []
requests_for name (Asked other r ∷ before) = if bytes_eq other name then r ∷ requests_for name before else requests_for name before
requests_for name (Dropped other ∷ before) = if bytes_eq other name then [] else requests_for name before

-- what these requests leave of an address
abbrev pub state_after : List Request → AddressState
state_after [] = fresh
state_after (r ∷ before) = (chosen (state_after before) r).after

-- what comes of a request after these
abbrev pub outcome_after : List Request → Request → Outcome
outcome_after before r = chosen (state_after before) r

-- what comes of each of these requests, which follow on those before
abbrev pub outcomes : List Request → List Request → List Outcome
outcomes [] before = []
outcomes (r ∷ later) before = outcome_after (later ++ before) r ∷ outcomes later before

-- A balancer stands for a history where each of its addresses is as the requests for it since its last drop leave it.
abbrev pub StandsFor : List (List ℕ × AddressState) → List Event → Type 0
StandsFor addresses events = (name : List ℕ) → state_of addresses name ≡ state_after (requests_for name events)
