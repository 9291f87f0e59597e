-- What carries the proofs, of the courses of a node: what its attempt changes, and where it leads.
use Rattle.cmm_attempt.specs.Attempts.{AttemptState}
use Rattle.cmm_member.specs.Nodes.{NodeState}
use Rattle.node_model.specs.Seats.{is_in}
use Rattle.node_model.specs.declared.cluster.Cluster.{Cluster}
use Rattle.node_model.specs.declared.node.UpNode.{UpNode}
use Rattle.node_model.specs.declared.seat.Seat.TheVariants.{Forming}
use Rattle.refinement.specs.Courses.Course.{Acts, Falls, Keeps, Stops}
use Rattle.refinement.specs.Courses.{Course}
use Rattle.refinement.specs.Doings.Act.{Goes_on, Makes}
use Rattle.refinement.specs.Doings.Change.{Counts, Leads, Starts}
use Rattle.refinement.specs.Doings.{Act, Change, acted, changed}
use Rattle.std.specs.Prelude.{Some, false, is_some, true, ℕ, ◌==◌, ◌≡◌}
use Rattle.wire.specs.declared.message.Body.TheVariants as body
use Rattle.wire.specs.declared.message.Body.{Body}
use Rattle.wire.specs.declared.message.Install.{Install}

-- its attempt installs here, or starts
abbrev pub IsTried : Change → Type 0
IsTried (Counts a k s i) = Unit {0}
IsTried (Starts a k s) = Unit {0}
IsTried _ = ⊥

-- the node that a course leaves, where it is up, is so
abbrev pub LeadsTo : Cluster → ℕ → (UpNode → Type 0) → UpNode → Course → Type 0
LeadsTo c me P x Stops = P x
LeadsTo c me P x (Acts a rest) = LeadsTo c me P (acted c me x a) rest
LeadsTo c me P x (Keeps change rest) = LeadsTo c me P (changed c me x change) rest
LeadsTo c me P x (Falls why) = Unit {0}

-- neither begins an attempt, nor takes a call with it
abbrev pub LeavesChange : Change → Type 0
LeavesChange (Counts a k s i) = ⊥
LeavesChange (Leads p members) = ⊥
LeavesChange _ = Unit {0}

abbrev pub LeavesAct : Act → Type 0
LeavesAct (Goes_on a k) = ⊥
LeavesAct (Makes change) = LeavesChange change
LeavesAct _ = Unit {0}

-- a course that leaves the attempt as it is, or ends it
abbrev pub Leaves : Course → Type 0
Leaves Stops = Unit {0}
Leaves (Acts a rest) = LeavesAct a × Leaves rest
Leaves (Keeps change rest) = LeavesChange change × Leaves rest
Leaves (Falls why) = Unit {0}

-- the node starts its membership here, and has an update pending
pub record StartsPending (x : UpNode) : Type 0 where
  pub attempt : AttemptState
  pub has : x.attempt ≡ Some attempt
  pub state : NodeState
  pub seat : x.seat ≡ Forming state
  pub pending : is_some state.saved.entries.pending ≡ true

-- the node is in the session of the Install, and has not installed it
pub record InstallsNow (x : UpNode) (i : Install) : Type 0 where
  pub state : NodeState
  pub seat : x.seat ≡ Forming state
  pub session : is_in x i.epoch ≡ true
  pub fresh : (state.saved.installed == i.epoch) ≡ false

-- .. at a message that is an Install
abbrev pub InstallsAt : UpNode → Body → Type 0
InstallsAt x (body.Install i) = InstallsNow x i
InstallsAt x _ = ⊥
