-- What the `start` lines of each run of the world tell of the machine of memberships.
use Rattle.std.specs.Prelude.{ℕ, ◌≡◌, ◌≤◌, true, List, length}
use Rattle.std.specs.List.{AllByRecursion}
use Rattle.attempt_laws.specs.Machine.{is_member}
use Rattle.cl_base.specs.Limits.{most_devices}
use Rattle.cl_base.specs.Sets.{has}
use Rattle.cl_base.specs.declared.header.Header.{Header}
use Rattle.history.specs.Starts.{Start, starts}
use Rattle.membership_machine.specs.State.{Memberships}
use Rattle.run_history.specs.Runs.{ComesTo, CutsOf, IsRun, moments_of}
use Rattle.run_history.specs.Happenings.{Happening}

-- The attempt of this number was begun, was counted, and has started; it is among these members, and held these devices.
pub record StartTold (M : Memberships) (s : Start) : Type 0 where
  pub tried : (M.epoch s.epoch).tried ≡ true
  pub counted : (M.epoch s.epoch).counted ≡ true
  pub started : (M.epoch s.epoch).started ≡ true
  pub members : (k : ℕ) → (M.epoch s.epoch).members k ≡ is_member s.members k
  pub held : (d : ℕ) → (M.epoch s.epoch).holds d ≡ has s.held d

-- however the steps of the run are cut
abbrev pub StartsOfEachRun : Type 0
StartsOfEachRun = (h : Header) (cells : ℕ) (hs : List Happening) (cuts : CutsOf h cells hs) (M : Memberships) → length h.devices ≤ most_devices
    → IsRun h cells hs → ComesTo h cells hs cuts M → AllByRecursion (StartTold M) (starts (moments_of h cells hs))
