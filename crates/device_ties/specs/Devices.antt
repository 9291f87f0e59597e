-- When a device, as its commands see it, and a device of the abstract machine are one and the same. The first has registrations in order,
-- each by a key, and a reservation of some type; the machine has the set of nodes that are registered, and the holder, if type 5h stands.
use Rattle.std.specs.Prelude.{ℕ, ◌≡◌, ◌≤◌, Bool, true, false, List, [], ◌∷◌, Option, Some, None}
use Rattle.pgr_device.specs.declared.kind.PrKind.TheVariants.{WriteExclusiveRegistrantsOnly}
use Rattle.pgr_device.specs.declared.registration.Registration.{Registration}
use Rattle.pgr_device.specs.declared.registration.Reservation.{Reservation}
use Rattle.pgr_device.specs.Device as pgr
use Rattle.pgr_device.specs.Registered.{is_registered}
use Rattle.cl_base.specs.Keys.{key_of}
use Rattle.device_machine.specs.Device.{Device}

-- Each registration is of a node of the cluster, by that node's own key, and no node has two.
abbrev pub OwnKeys : ℕ → List Registration → Type 0
OwnKeys cluster [] = Unit {0}
OwnKeys cluster (r ∷ rs) = (1 ≤ r.node) × (r.node ≤ 32) × (r.key ≡ key_of cluster r.node) × (is_registered rs r.node ≡ false) × OwnKeys cluster rs

-- no reservation stands, or one of type 5h by the same holder
abbrev pub HeldTied : Option Reservation → Bool → ℕ → Type 0
HeldTied None reserved holder = reserved ≡ false
HeldTied (Some held) reserved holder = (reserved ≡ true) × (holder ≡ held.holder) × (held.kind ≡ WriteExclusiveRegistrantsOnly)

pub record DeviceTied (cluster : ℕ) (p : pgr.Device) (d : Device) : Type 0 where
  pub own : OwnKeys cluster p.registrations
  pub keys : (n : ℕ) → is_registered p.registrations n ≡ d.keys n
  pub held : HeldTied p.reservation d.reserved d.holder
  pub word : p.word ≡ d.word
  pub content : p.value ≡ d.content
