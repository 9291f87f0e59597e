-- What holds of a device in every state that commands lead to.
use Rattle.std.specs.Prelude.{◌≡◌, ◌≢◌, ℕ, ◌≤◌, true, false, List, [], ◌∷◌, Option, Some, None}
use Rattle.cl_base.specs.Sets.{has}
use Rattle.pgr_device.specs.declared.registration.Registration.{Registration}
use Rattle.pgr_device.specs.declared.registration.Reservation.{Reservation}
use Rattle.pgr_device.specs.Device.{Device}
use Rattle.pgr_device.specs.Registered.{is_registered}

-- each node is registered once at most, has a path and a number from 1 to 32, and its key is not zero
abbrev pub IsApart : ℕ → List Registration → Type 0
IsApart paths [] = Unit {0}
IsApart paths (r ∷ rs) =
    (1 ≤ r.node) × (r.node ≤ 32) × (has paths r.node ≡ true) × (r.key ≢ 0) × (is_registered rs r.node ≡ false) × IsApart paths rs

-- the holder of the reservation is registered
abbrev pub IsHeld : List Registration → Option Reservation → Type 0
IsHeld registrations None = Unit {0}
IsHeld registrations (Some held) = is_registered registrations held.holder ≡ true

pub record IsDevice (d : Device) : Type 0 where
  pub apart : IsApart d.paths d.registrations
  pub held : IsHeld d.registrations d.reservation
