-- Device: the device lines of a trace are a run of the device from its first state. A command of node n to device d is answered as the
-- device answers it, unless a `fault` line for n and d is armed: then its line ends `failed`, and it was done or not, as that line says.
use Rattle.std.specs.Prelude.{◌≡◌, ℕ, ◌+◌, ◌==◌, ◌&&◌, zero, suc, Bool, true, false, if◌then◌else◌, List, [], ◌∷◌, ◌++◌, Option, Some, None}
use Rattle.cl_base.specs.Sets.{has}
use Rattle.cl_base.specs.declared.header.Header.{Header}
use Rattle.pgr_device.specs.Device.{Device}
use Rattle.pgr_device.specs.Spc.{step}
use Rattle.pgr_device.specs.declared.command.PrCommand.{PrCommand}
use Rattle.pgr_device.specs.declared.registration.Registration.{Registration}
use Rattle.status_report.specs.declared.device_entry.DeviceAnswer.{DeviceAnswer}
use Rattle.status_report.specs.declared.device_entry.DeviceAnswer.TheVariants.{Given, Failed}
use Rattle.history.specs.Moment.{Moment}
use Rattle.history.specs.Trace.{device, fault}
use Rattle.history.specs.Order.{Always}
use Rattle.history.specs.Setting.{key_of, paths_of, is_quorum, is_configured}

-- the attached nodes up to k that the header configures, with their keys, ascending
abbrev pub keys_to : ℕ → Header → ℕ → List Registration
keys_to zero h attached = []
keys_to (suc k) h attached =
    keys_to k h attached ++ (if has attached (k + 1) && is_configured h (k + 1) then record { node = k + 1; key = key_of h (k + 1) } ∷ [] else [])

-- At first word and data are 0 and there is no reservation; a quorum device has the keys of its attached nodes that are configured at
-- first, a data device none.
abbrev pub first_state : Header → ℕ → Device
first_state h d = record {
  paths = paths_of h d;
  registrations = if is_quorum h d then keys_to 32 h (paths_of h d) else [];
  reservation = None;
  word = 0;
  value = 0;
}

-- The fault that is armed for the next command of node n to device d, if one is: whether that command is done. A later `fault` line
-- stands in the place of one before it, and the next command disarms it.
abbrev pub armed_fault : ℕ → ℕ → List Moment → Option Bool
armed_fault n d [] = None
armed_fault n d (fault m x done ∷ before) = if (m == n) && (x == d) then Some done else armed_fault n d before
armed_fault n d (device m x command answer ∷ before) = if (m == n) && (x == d) then None else armed_fault n d before
armed_fault n d (_ ∷ before) = armed_fault n d before

-- a command under the fault that is armed for it
abbrev pub commanded : Option Bool → Device → ℕ → PrCommand → Device
commanded None s n command = (step s n command).after
commanded (Some true) s n command = (step s n command).after
commanded (Some false) s n command = s

-- the state of device d; nothing but a command to it changes it
abbrev pub state_of : Header → ℕ → List Moment → Device
state_of h d [] = first_state h d
state_of h d (device n x command answer ∷ before) =
    if x == d then commanded (armed_fault n d before) (state_of h d before) n command else state_of h d before
state_of h d (_ ∷ before) = state_of h d before

-- what stands as its answer
abbrev pub answer_of : Option Bool → Device → ℕ → PrCommand → DeviceAnswer
answer_of None s n command = Given (step s n command).answer
answer_of (Some done) s n command = Failed

abbrev pub IsDeviceLine : Header → List Moment → Moment → Type 0
IsDeviceLine h before (device n d command answer) = answer ≡ answer_of (armed_fault n d before) (state_of h d before) n command
IsDeviceLine h before _ = Unit {0}

abbrev pub DeviceRun : Header → List Moment → Type 0
DeviceRun h moments = Always (IsDeviceLine h) moments
