-- What each command leaves the nodes, and leaves true of the device.
use Rattle.std.proofs.Common.{◌≡◌, ◌≢◌, ℕ, ◌≤◌, true, arith}
use Rattle.device_machine.specs.Device.{Device, registering, wording, reserving, preempting, storing}
use Rattle.device_machine.specs.Attempt.{Attempt}
use Rattle.device_machine.proofs.Invariant.{DeviceOk}
use Rattle.device_machine.proofs.Growth.{Leaves}

pub registering_leaves : (d : Device) (n k : ℕ) → k ≢ n → Leaves d (registering d n) k
registering_leaves d n k ne = record { keys = grind arith; word = grind arith; reserved = λ h. h }

pub wording_leaves : (d : Device) (w k : ℕ) → d.word ≤ w → Leaves d (wording d w) k
wording_leaves d w k h = record { keys = λ h. h; word = h; reserved = λ h. h }

pub reserving_leaves : (d : Device) (n k : ℕ) → Leaves d (reserving d n) k
reserving_leaves d n k = record { keys = grind arith; word = grind arith; reserved = grind arith }

pub preempting_leaves : (d : Device) (n t k : ℕ) → Leaves d (preempting d n t) k
preempting_leaves d n t k = record { keys = grind arith; word = grind arith; reserved = grind arith }

pub storing_leaves : (d : Device) (x k : ℕ) → Leaves d (storing d x) k
storing_leaves d x k = record { keys = λ h. h; word = grind arith; reserved = λ h. h }

-- who is registered and reserves sees a reservation
pub reserving_own : (d : Device) (n : ℕ) → (reserving d n).keys n ≡ true → (reserving d n).reserved ≡ true
reserving_own d n = grind arith

pub registering_device : (A : ℕ → Attempt) (d : Device) (top n : ℕ) → DeviceOk A d top → DeviceOk A (registering d n) top
registering_device A d top n i = record { held_top = i.held_top; top_held = i.top_held; top_word = i.top_word; word = i.word; reserved = i.reserved; holder = grind arith }

pub wording_device : (A : ℕ → Attempt) (d : Device) (top w : ℕ) → d.word ≤ w → (A w).collected ≡ true → DeviceOk A d top → DeviceOk A (wording d w) top
wording_device A d top w h c i = record { held_top = i.held_top; top_held = i.top_held; top_word = grind arith; word = λ p. c; reserved = i.reserved; holder = i.holder }

pub reserving_device : (A : ℕ → Attempt) (d : Device) (top n : ℕ) → DeviceOk A d top → DeviceOk A (reserving d n) top
reserving_device A d top n i =
    record { held_top = i.held_top; top_held = i.top_held; top_word = grind arith; word = grind arith; reserved = λ e h. grind (arith, i.reserved e h); holder = grind arith }

-- the key that goes is not the sender's own
pub preempting_device : (A : ℕ → Attempt) (d : Device) (top n t : ℕ) → n ≢ t → DeviceOk A d top → DeviceOk A (preempting d n t) top
preempting_device A d top n t ne i =
    record { held_top = i.held_top; top_held = i.top_held; top_word = grind arith; word = grind arith; reserved = λ e h. grind (arith, i.reserved e h); holder = grind arith }

pub storing_device : (A : ℕ → Attempt) (d : Device) (top x : ℕ) → DeviceOk A d top → DeviceOk A (storing d x) top
storing_device A d top x i = record { held_top = i.held_top; top_held = i.top_held; top_word = i.top_word; word = i.word; reserved = i.reserved; holder = i.holder }
