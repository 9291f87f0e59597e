-- What each moment keeps to, and what is so in a tick.
use Rattle.std.specs.Prelude.{ℕ, ◌≡◌, ◌≤◌, Bool, List, Option, None, Some, IfSome}
use Rattle.cl_base.specs.Sets.{has}
use Rattle.heartbeats.specs.declared.due.Membership.{Membership}
use Rattle.history.specs.Attempts.{before_tick, configured_for, last_heartbeat}
use Rattle.history.specs.Letters.{arrived}
use Rattle.history.specs.Member.{member_of, members_of}
use Rattle.history.specs.Moment.{Moment}
use Rattle.history.specs.Order.{Always, under_way}
use Rattle.history.specs.Setting.{Setting}
use Rattle.schedule_text.specs.declared.event.Event.TheVariants.{Tick}
use Rattle.run_attempts.specs.Laws.{BeatIsDue, BeatsInTick, Begins}

pub record Judged (S : Setting) (before : List Moment) (x : Moment) : Type 0 where
  pub in_tick : BeatsInTick before x
  pub due : BeatIsDue S before x
  pub begins_so : Begins S before x

abbrev pub AllJudged : Setting → List Moment → Type 0
AllJudged S moments = Always (Judged S) moments

-- the set has the numbers of which the test is true
abbrev pub IsSetOf : ℕ → (ℕ → Bool) → Type 0
IsSetOf set test = (m : ℕ) → 1 ≤ m → m ≤ 32 → has set m ≡ test m

-- the lines tell this membership of node n, with its members
abbrev pub SeatTold : List Moment → ℕ → Option Membership → Type 0
SeatTold moments n None = member_of n moments ≡ None
SeatTold moments n (Some m) = (member_of n moments ≡ Some m.epoch) × (members_of m.epoch moments ≡ m.members)

-- In a tick of node n, which began with these nodes configured, as far as the lines tell, and with this membership.
pub record InTick (S : Setting) (n configured : ℕ) (member : Option Membership) (moments : List Moment) : Type 0 where
  pub way : under_way moments ≡ Some (Tick n)
  pub none : arrived moments ≡ None
  pub known : IfSome (configured_for S n (before_tick n moments)) (IsSetOf configured)
  pub seat : SeatTold (before_tick n moments) n member
  pub beats : (m : ℕ) → last_heartbeat n m moments ≡ last_heartbeat n m (before_tick n moments)
