-- What a node gives along its courses, while an attempt of its own seizes devices: lines that change none of its tasks, and what its attempt asks it for.
use Rattle.std.specs.Prelude.{ℕ, ◌≡◌, ◌⊎◌, ◌++◌, true, false, List}
use Rattle.std.specs.List.{AllByRecursion}
use Rattle.cl_base.specs.Sets.{has}
use Rattle.cmm_attempt.specs.Attempts.{AttemptState}
use Rattle.cmm_attempt.specs.Calls.{Call, With_votes, turn}
use Rattle.cmm_attempt.specs.declared.step.Step.TheVariants.{SeizeHere}
use Rattle.device_queue.specs.declared.task.Task.{Task}
use Rattle.device_queue.specs.declared.task.Work.TheVariants.{Seizing as Seizing_of}
use Rattle.node_model.specs.Attempts.{is_choosing, votes_in}
use Rattle.node_model.specs.declared.cluster.Cluster.{Cluster}
use Rattle.node_model.specs.declared.node.UpNode.{UpNode}
use Rattle.node_model.specs.declared.output.Output.{Output}
use Rattle.node_model.specs.declared.output.Output.TheVariants.{Sends, Tells}
use Rattle.refinement.specs.Courses.{Course}
use Rattle.refinement.specs.Courses.Course.{Acts, Falls, Keeps, Stops}
use Rattle.refinement.specs.Doings.{acted, changed, first_lines, said, saved_lines}
use Rattle.run_history.specs.Guards.{IsStep}
use Rattle.run_history.specs.Marks.{ActSo}
use Rattle.seize.specs.Seizing as seizing
use Rattle.seize.specs.declared.kind.SeizeKind.{SeizeKind}
use Rattle.status_report.specs.declared.entry.Entry.{Entry}
use Rattle.status_report.specs.declared.entry.Entry.TheVariants as entry
use Rattle.status_report.specs.declared.node_entry.NodeEntry.{NodeEntry}
use Rattle.status_report.specs.declared.node_entry.NodeEntry.TheVariants as note
use Rattle.run_outcomes.specs.phases.Kept.{In}
use Rattle.run_outcomes.specs.phases.Laws.{is_seizing}
use Rattle.run_outcomes.specs.tasks.Quiet.{QuietAttempt, QuietDevice}

-- ---- lines that change no task of the node that tells them, where no Collect came

abbrev pub StillNode : NodeEntry → Type 0
StillNode (note.Member e) = Unit {0}
StillNode note.Ticked = Unit {0}
StillNode note.Saved = Unit {0}
StillNode _ = ⊥

abbrev pub StillEntry : ℕ → Entry → Type 0
StillEntry n (entry.Node m e) = StillNode e
StillEntry n (entry.Device e) = QuietDevice n e
StillEntry n (entry.Attempt e) = QuietAttempt n e
StillEntry n (entry.Packet e) = ⊥
StillEntry n _ = Unit {0}

abbrev pub IsStill : ℕ → Output → Type 0
IsStill n (Tells e) = StillEntry n e
IsStill n (Sends to b) = Unit {0}

abbrev pub AreStill : ℕ → List Output → Type 0
AreStill n os = AllByRecursion (IsStill n) os

-- ---- along a course

-- where the node is up at the end of the course, this holds of it, and of all that was given by then
abbrev pub GoesOut : Cluster → ℕ → (UpNode → List Output → Type 0) → UpNode → List Output → Course → Type 0
GoesOut c me J x os Stops = J x os
GoesOut c me J x os (Acts a rest) = ActSo a → GoesOut c me J (acted c me x a) (os ++ said c me x a) rest
GoesOut c me J x os (Keeps change rest) = GoesOut c me J (changed c me x change) (os ++ (first_lines me change ++ saved_lines c me x change)) rest
GoesOut c me J x os (Falls why) = Unit {0}

-- R of an attempt that seizes devices, and of the tasks; and nothing that was given changes these
abbrev pub OnwardOf : ℕ → (AttemptState → List Task → Type 0) → List Task → List Output → AttemptState → Type 0
OnwardOf n R ts os b = is_seizing b.phase ≡ true → AreStill n os × R b ts

abbrev pub Onward : ℕ → (AttemptState → List Task → Type 0) → UpNode → List Output → Type 0
Onward n R x os = In (OnwardOf n R x.tasks os) x.attempt

-- ---- what a call makes of the attempt and the tasks

-- the attempt asks for this task in the turn; the record of the node has these devices as valid
pub record IsBegun (c : Cluster) (n valid : ℕ) (a : AttemptState) (k : Call) (t : Task) : Type 0 where
  pub kind : SeizeKind
  pub step : IsStep (SeizeHere t.device kind) (turn a k).steps
  pub work : t.work ≡ Seizing_of (seizing.begun kind (turn a k).after.plan.epoch (turn a k).after.plan.members n c.id (has valid t.device))

-- the call has led to the attempt, and these tasks were put behind the others
pub record ByTurn (c : Cluster) (n valid : ℕ) (a : AttemptState) (k : Call) (old : List Task) (b : AttemptState) (ts : List Task) : Type 0 where
  pub is : b ≡ (turn a k).after
  pub new : List Task
  pub tasks : ts ≡ old ++ new
  pub begun : AllByRecursion (IsBegun c n valid a k) new

-- .. or the votes that were given at once
abbrev pub ByEither : Cluster → ℕ → ℕ → AttemptState → Call → List Task → AttemptState → List Task → Type 0
ByEither c n valid a k old b ts =
    ((is_choosing (turn a k).after.phase ≡ false) × ByTurn c n valid a k old b ts)
    ⊎ ((is_choosing (turn a k).after.phase ≡ true) × ByTurn c n valid (turn a k).after (With_votes (votes_in c (turn a k).after)) old b ts)
