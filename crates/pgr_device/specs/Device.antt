-- What a device is in: which nodes reach it, who is registered by which key, in order of
-- registration, who holds the reservation and of which type, the word and the data (`value`).
use Rattle.std.specs.Prelude.{ℕ, List, [], Option, None, map, filter}
use Rattle.cl_base.specs.Keys.{key_of}
use Rattle.cl_base.specs.Limits.{most_nodes}
use Rattle.cl_base.specs.Numbers.{numbers_to}
use Rattle.cl_base.specs.Sets.{has}
use Rattle.pgr_device.specs.declared.registration.Registration.{Registration}
use Rattle.pgr_device.specs.declared.registration.Reservation.{Reservation}

pub record Device : Type 0 where
  pub paths : ℕ
  pub registrations : List Registration
  pub reservation : Option Reservation
  pub word : ℕ
  pub value : ℕ

-- a device that no command has come to yet
abbrev pub fresh : ℕ → Device
fresh paths = record { paths = paths; registrations = []; reservation = None; word = 0; value = 0 }

-- a node registered by the key that it has in its cluster
abbrev pub own_key : ℕ → ℕ → Registration
own_key cluster node = record { node = node; key = key_of cluster node }

-- those of the nodes 1 to k in the set that have a path, in ascending order
abbrev pub first_keys : ℕ → ℕ → ℕ → ℕ → List Registration
first_keys paths nodes cluster k = map (own_key cluster) (filter (has paths) (numbers_to nodes k))

-- the same device, but that the nodes of the set that have a path are registered
abbrev pub with_keys : ℕ → ℕ → ℕ → Device
with_keys paths nodes cluster = record (fresh paths) { registrations = first_keys paths nodes cluster most_nodes }
