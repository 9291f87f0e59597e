-- What a node's steps suppose of its state. The tie with the machine gives it.
use Rattle.std.specs.Prelude.{◌≡◌, ◌≤◌, ◌<◌, Bool, true, List, length, Option, None, Some}
use Rattle.std.specs.List.{list_any}
use Rattle.ccr_commit.specs.Entries.{texts_of}
use Rattle.device_queue.specs.declared.task.Task.{Task}
use Rattle.device_queue.specs.Tasks.{is_joining}
use Rattle.cmm_attempt.specs.declared.phase.Phase.TheVariants.{Installing}
use Rattle.cmm_attempt.specs.Attempts.{AttemptState}
use Rattle.cmm_attempt.specs.Calls.{IsReached}
use Rattle.cmm_member.specs.Nodes.{NodeState}
use Rattle.attempt_laws.specs.Staying.{IsBefore}
use Rattle.proposals.specs.declared.arrived.Proposed.{Proposed}
use Rattle.node_model.specs.declared.node.Node.{Node}
use Rattle.node_model.specs.declared.node.Node.TheVariants.{Down, Up}
use Rattle.node_model.specs.declared.node.UpNode.{UpNode}
use Rattle.node_model.specs.declared.presidency.Presidency.{Presidency}
use Rattle.node_model.specs.declared.seat.Seat.{Seat}
use Rattle.node_model.specs.declared.seat.Seat.TheVariants.{Forming, Member}
use Rattle.node_model.specs.Seats.{installed_of, promised_of, session_of}

-- an attempt of the node is of its session, and is installed here once it installs
pub record AttemptFacts (s : NodeState) (a : AttemptState) : Type 0 where
  pub epoch : a.plan.epoch ≡ s.session
  pub some : 0 < a.plan.epoch
  pub reached : IsReached a
  pub before : IsBefore a.phase → s.saved.installed < a.plan.epoch
  pub installed : a.phase ≡ Installing → s.saved.installed ≡ a.plan.epoch

abbrev pub OfSeat : Option AttemptState → Seat → Type 0
OfSeat None seat = Unit {0}
OfSeat (Some a) (Forming s) = AttemptFacts s a
OfSeat (Some a) (Member s) = ⊥

-- a member has installed its session
abbrev pub OfMember : Seat → Type 0
OfMember (Forming s) = Unit {0}
OfMember (Member s) = (0 < s.session) × (s.session ≡ s.saved.installed)

-- where a president has proposed an update, it is the last of its updates; where it has not, all are committed
abbrev pub OfProposed : NodeState → Option Proposed → Type 0
OfProposed s None = s.saved.entries.pending ≡ None
OfProposed s (Some p) = p.place ≡ length (texts_of s.saved.entries)

-- a president is a member
abbrev pub OfPresident : Option Presidency → Seat → Type 0
OfPresident None seat = Unit {0}
OfPresident (Some p) (Forming s) = ⊥
OfPresident (Some p) (Member s) = OfProposed s p.proposals.proposed

abbrev pub has_join : List Task → Bool
has_join tasks = list_any (λ t. is_joining t.work) tasks

-- a node has devices to join, or had, only in a session that it has installed
abbrev pub JoinsFit : UpNode → Type 0
JoinsFit x = has_join x.tasks ≡ true → (0 < session_of x) × (session_of x ≡ installed_of x)

pub record Facts (x : UpNode) : Type 0 where
  pub attempt : OfSeat x.attempt x.seat
  pub member : OfMember x.seat
  pub order : installed_of x ≤ promised_of x
  pub joins : JoinsFit x
  pub president : OfPresident x.presidency x.seat

abbrev pub JoinsIn : Node → Type 0
JoinsIn Down = Unit {0}
JoinsIn (Up x) = JoinsFit x
