-- What the laws say of every run of a device, which begins as a function of its paths has it.
use Rattle.std.specs.Prelude.{◌≡◌, ◌≤◌, ◌==◌, ℕ, true, false, List, count_by, IfSome}
use Rattle.cl_base.specs.Sets.{has}
use Rattle.pgr_device.specs.declared.run.Step.{Step}
use Rattle.pgr_device.specs.Device.{Device}
use Rattle.pgr_device.specs.Registered.{is_registered, has_key}
use Rattle.pgr_device.specs.Runs.{run, IsRun}

-- a node is registered once at most
abbrev pub RegisteredOnce : (ℕ → Device) → Type 0
RegisteredOnce first = (paths node : ℕ) (steps : List Step) → IsRun steps → count_by (λ r. r.node == node) (run (first paths) steps).registrations ≤ 1

-- only a node that has a path is registered
abbrev pub RegisteredWithPath : (ℕ → Device) → Type 0
RegisteredWithPath first = (paths node : ℕ) (steps : List Step) → IsRun steps → is_registered (run (first paths) steps).registrations node ≡ true → has (first paths).paths node ≡ true

-- the key zero is never registered
abbrev pub NoZeroKey : (ℕ → Device) → Type 0
NoZeroKey first = (paths : ℕ) (steps : List Step) → IsRun steps → has_key (run (first paths) steps).registrations 0 ≡ false

-- the holder of a reservation is registered
abbrev pub HolderIsRegistered : (ℕ → Device) → Type 0
HolderIsRegistered first = (paths : ℕ) (steps : List Step) → IsRun steps
    → IfSome (run (first paths) steps).reservation (λ held. is_registered (run (first paths) steps).registrations held.holder ≡ true)
