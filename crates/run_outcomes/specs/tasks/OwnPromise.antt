-- What each thing that happens keeps of the own Promise of a coordinator, against its record.
use Rattle.std.specs.Prelude.{ℕ, ◌≡◌, true, false, List, None, Some}
use Rattle.attempt_laws.specs.Staying.{IsBefore}
use Rattle.cl_base.specs.Sets.{has}
use Rattle.cmm_attempt.specs.Attempts.{AttemptState}
use Rattle.cmm_attempt.specs.Promises.{has_promised, holds_valid}
use Rattle.cmm_attempt.specs.declared.promised.Promised.{Promised}
use Rattle.cmm_attempt.specs.declared.step.Step.TheVariants.{SeizeHere}
use Rattle.device_queue.specs.declared.task.Task.{Task}
use Rattle.node_model.specs.Seats.{record_of}
use Rattle.node_model.specs.declared.node.UpNode.{UpNode}
use Rattle.run_history.specs.Guards.{Hand, IsStep}
use Rattle.seize.specs.declared.kind.SeizeKind.TheVariants.{Plain}
use Rattle.run_outcomes.specs.phases.Kept.{In}
use Rattle.run_outcomes.specs.tasks.Laws.{seizes_plainly}
use Rattle.run_outcomes.specs.tasks.Shown.{InRange, IsPlainTo, TasksFit}

-- Among these Promises is one of node n, and of the devices of which this holds it shows as valid those in the set.
pub record ShowsOwn (n valid : ℕ) (of : ℕ → Type 0) (promises : List Promised) : Type 0 where
  pub promised : has_promised promises n ≡ true
  pub shown : (d : ℕ) → of d → holds_valid promises d n ≡ has valid d

-- a device that none of these tasks seizes as one without votes
abbrev pub IsSpared : List Task → ℕ → Type 0
IsSpared tasks d = InRange d × (seizes_plainly d tasks ≡ false)

-- Before its attempt installs, a node seizes as devices without votes only such as have none, and joins none; and but for those that it seizes so its own Promise shows as
-- valid what its record has as valid.
pub record KeepsOwn (n valid : ℕ) (tasks : List Task) (a : AttemptState) : Type 0 where
  pub plain : (d : ℕ) → seizes_plainly d tasks ≡ true → IsPlainTo a d
  pub fit : TasksFit tasks
  pub own : ShowsOwn n valid (IsSpared tasks) a.promises

abbrev pub OwnPromise : ℕ → UpNode → Type 0
OwnPromise n x = In (λ a. IsBefore a.phase → KeepsOwn n (record_of x).valid x.tasks a) x.attempt

-- the steps in hand ask the coordinator to seize as devices without votes only such as have none
abbrev pub AsksPlainly : Hand → Type 0
AsksPlainly None = Unit {0}
AsksPlainly (Some u) = (d : ℕ) → IsStep (SeizeHere d Plain) u.steps → IsPlainTo u.after d
