-- Disk rule: where a device takes a write of node n, n is a member of a membership that started and holds the device, and each greater
-- membership that started before and holds it has n among its members. A write is taken where the device answers good, be this answer
-- shown, or lost by a fault.
use Rattle.std.specs.Prelude.{◌≡◌, ◌<◌, ℕ, Bool, true, false, List, Option, Some, None, MatchOption}
use Rattle.std.specs.List.{AllByRecursion}
use Rattle.cl_base.specs.Sets.{has}
use Rattle.cl_base.specs.declared.header.Header.{Header}
use Rattle.pgr_device.specs.Spc.{step}
use Rattle.pgr_device.specs.declared.command.PrCommand.TheVariants.{Write}
use Rattle.pgr_device.specs.declared.command.PrAnswer.{PrAnswer}
use Rattle.pgr_device.specs.declared.command.PrAnswer.TheVariants.{Good}
use Rattle.history.specs.Moment.{Moment}
use Rattle.history.specs.Trace.{device}
use Rattle.history.specs.Order.{Always}
use Rattle.history.specs.DeviceRun.{armed_fault, state_of}
use Rattle.history.specs.Member.{last_member}
use Rattle.history.specs.Starts.{Start, starts, start_of}

abbrev pub is_good : PrAnswer → Bool
is_good Good = true
is_good _ = false

-- a command under a fault that says so is not done
abbrev pub is_taken : Option Bool → PrAnswer → Bool
is_taken None answer = is_good answer
is_taken (Some true) answer = is_good answer
is_taken (Some false) answer = false

-- whether device d takes this write of n
abbrev pub takes : Header → List Moment → ℕ → ℕ → ℕ → Bool
takes h before n d value = is_taken (armed_fault n d before) (step (state_of h d before) n (Write value)).answer

-- s is the start of the membership of which n is a member: it has n among its members, and holds d; and each earlier start with a greater
-- number that holds d has n among its members
pub record IsMembersWrite (before : List Moment) (n d : ℕ) (s : Start) : Type 0 where
  pub member : has s.members n ≡ true
  pub held : has s.held d ≡ true
  pub left_out_by_none : AllByRecursion (λ (other : Start). s.epoch < other.epoch → has other.held d ≡ true → has other.members n ≡ true) (starts before)

-- n has a `member` line since it went up, and the membership that the last of them names has started
abbrev pub IsMembersOwn : List Moment → ℕ → ℕ → Type 0
IsMembersOwn before n d = MatchOption (last_member n before) ⊥ (λ e. MatchOption (start_of e before) ⊥ (IsMembersWrite before n d))

abbrev pub IsSafe : Header → List Moment → Moment → Type 0
IsSafe h before (device n d (Write value) answer) = takes h before n d value ≡ true → IsMembersOwn before n d
IsSafe h before _ = Unit {0}

abbrev pub DiskRule : Header → List Moment → Type 0
DiskRule h moments = Always (IsSafe h) moments
