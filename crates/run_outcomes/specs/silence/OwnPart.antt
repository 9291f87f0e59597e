-- A coordinator's own part, while its attempt installs: it is done exactly where no joining is queued.
use Rattle.std.specs.Prelude.{ℕ, ◌==◌, ◌≡◌, not, true, false, List, Some}
use Rattle.attempt_laws.specs.Staying.{IsBefore}
use Rattle.cmm_attempt.specs.Attempts.{AttemptState}
use Rattle.cmm_attempt.specs.declared.phase.Phase.TheVariants.{Installing}
use Rattle.cmm_member.specs.Nodes.{NodeState}
use Rattle.device_queue.specs.Queue.{joins}
use Rattle.device_queue.specs.declared.task.Task.{Task}
use Rattle.node_model.specs.Seats.{coordinator_of, is_in}
use Rattle.node_model.specs.declared.node.UpNode.{UpNode}
use Rattle.node_model.specs.declared.seat.Seat.TheVariants.{Forming}
use Rattle.run_outcomes.specs.phases.Kept.{In}

-- with these tasks of its node; before that it is not done
pub record PartSo (ts : List Task) (a : AttemptState) : Type 0 where
  pub early : IsBefore a.phase → a.own_ready ≡ false
  pub ready : a.phase ≡ Installing → a.own_ready ≡ not (joins ts)

abbrev pub Parted : UpNode → Type 0
Parted x = In (PartSo x.tasks) x.attempt

-- not yet
pub record Undone (a : AttemptState) : Type 0 where
  pub early : IsBefore a.phase → a.own_ready ≡ false
  pub ready : a.phase ≡ Installing → a.own_ready ≡ false

-- the coordinator is in the session of its attempt; while the attempt installs it has installed that
pub record Sits (me : ℕ) (x : UpNode) (a : AttemptState) : Type 0 where
  pub leads : coordinator_of x ≡ Some me
  pub installed : a.phase ≡ Installing → (s : NodeState) → x.seat ≡ Forming s → (i : ℕ) → is_in x i ≡ true → (s.saved.installed == i) ≡ true

abbrev pub Seated : ℕ → UpNode → Type 0
Seated me x = In (Sits me x) x.attempt
