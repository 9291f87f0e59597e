-- What a node has of messages: that they came.
use Rattle.std.specs.Prelude.{ℕ, ◌≡◌, ◌≢◌, ◌<◌, ◌==◌, ◌||◌, Bool, true, false, All, List, Option, None, Some}
use Rattle.std.specs.List.{list_any}
use Rattle.attempt_laws.specs.Machine.{is_member}
use Rattle.cl_base.specs.Sets.{has}
use Rattle.cmm_attempt.specs.Attempts.{AttemptState}
use Rattle.history.specs.Contact.{AttemptsDiffer, Installed, Prepared, Ready, ToldMembers, came, has_answered, is_proposal}
use Rattle.history.specs.Member.{attempt_of, members_of}
use Rattle.history.specs.Moment.{Moment}
use Rattle.history.specs.Names as name
use Rattle.history.specs.Seizing.{is_attempt}
use Rattle.history.specs.Setting.{coordinator}
use Rattle.history.specs.Starts.{is_started, members_in, start_of}
use Rattle.membership_machine.specs.State.{Memberships}
use Rattle.node_model.specs.Seats as seats
use Rattle.node_model.specs.Seats.{record_of, session_of}
use Rattle.node_model.specs.declared.node.Node.{Node}
use Rattle.node_model.specs.declared.node.Node.TheVariants.{Down, Up}
use Rattle.node_model.specs.declared.node.UpNode.{UpNode}
use Rattle.node_model.specs.declared.presidency.Presidency.{Presidency}
use Rattle.proposals.specs.declared.arrived.Proposed.{Proposed}
use Rattle.refinement.specs.Doings.{Site}

-- the Install of what is installed came, unless the node coordinated it
abbrev pub InstallNoted : List Moment → ℕ → ℕ → Type 0
InstallNoted moments n installed = 0 < installed → n ≢ coordinator installed → came installed name.Install n moments ≡ true

-- k is n itself, or its Ready came, which was sent after the Install of p came to it
abbrev pub is_ready_in : List Moment → ℕ → ℕ → ℕ → Bool
is_ready_in moments n p k = (k == n) || has_answered p name.Install name.Ready k moments

-- the attempt has its line, with its members, and is the last of its node; the Readies that it has came
pub record AttemptNoted (moments : List Moment) (n : ℕ) (a : AttemptState) : Type 0 where
  pub begun : list_any (is_attempt a.plan.epoch) moments ≡ true
  pub members : members_of a.plan.epoch moments ≡ a.plan.members
  pub last : attempt_of n moments ≡ Some a.plan.epoch
  pub readies : All (λ r. is_ready_in moments n a.plan.epoch r.node ≡ true) a.readies

abbrev pub AttemptIn : List Moment → ℕ → Option AttemptState → Type 0
AttemptIn moments n None = Unit {0}
AttemptIn moments n (Some a) = AttemptNoted moments n a

-- the session, where the node coordinates it, is its last attempt
abbrev pub SessionNoted : List Moment → ℕ → ℕ → Type 0
SessionNoted moments n q = 0 < q → coordinator q ≡ n → attempt_of n moments ≡ Some q

-- what is proposed has its line, and each other member that is not missing has answered its Prepare
abbrev pub ProposedNoted : List Moment → ℕ → ℕ → ℕ → Option Proposed → Type 0
ProposedNoted moments n q members None = Unit {0}
ProposedNoted moments n q members (Some p) =
    (list_any (is_proposal q p.place) moments ≡ true)
    × ((k : ℕ) → is_member members k ≡ true → k ≢ n → has p.missing k ≡ false → has_answered q (name.Prepare p.place) (name.Prepared p.place) k moments ≡ true)

-- the start line of a president has its members
pub record PresidentNoted (moments : List Moment) (n q members : ℕ) (o : Option Proposed) : Type 0 where
  pub start : members_in (start_of q moments) ≡ members
  pub proposed : ProposedNoted moments n q members o

-- a member's session has its start line
pub record UpNoted (moments : List Moment) (n : ℕ) (x : UpNode) : Type 0 where
  pub attempt : AttemptIn moments n x.attempt
  pub session : SessionNoted moments n (session_of x)
  pub member : seats.is_member x.seat ≡ true → is_started (session_of x) moments ≡ true
  pub president : (p : Presidency) → x.presidency ≡ Some p → seats.is_member x.seat ≡ true → PresidentNoted moments n (session_of x) (record_of x).members p.proposals.proposed

abbrev pub NodeIn : List Moment → ℕ → Node → Type 0
NodeIn moments n Down = Unit {0}
NodeIn moments n (Up x) = UpNoted moments n x

pub record Notes (moments : List Moment) (n : ℕ) (x : Site) : Type 0 where
  pub installed : InstallNoted moments n x.disk.installed
  pub up : NodeIn moments n x.node

-- each attempt that has a line was tried in the machine
abbrev pub LinesTried : Memberships → List Moment → Type 0
LinesTried M moments = (e : ℕ) → list_any (is_attempt e) moments ≡ true → (M.epoch e).tried ≡ true

-- .. and each membership that has a start line started there
abbrev pub LinesStarted : Memberships → List Moment → Type 0
LinesStarted M moments = (e : ℕ) → is_started e moments ≡ true → (M.epoch e).started ≡ true

-- what is proved of all moments so far
pub record Laws (moments : List Moment) : Type 0 where
  pub once : AttemptsDiffer moments
  pub ready : Ready moments
  pub installed : Installed moments
  pub told : ToldMembers moments
  pub prepared : Prepared moments
