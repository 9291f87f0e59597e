-- How a coordinator whose attempt seizes devices has come to its tasks, by what happened last.
use Rattle.std.specs.Prelude.{ℕ, ◌≡◌, ◌≢◌, ◌⊎◌, ◌++◌, Bool, true, false, if◌then◌else◌, List, [], ◌∷◌, None, Some}
use Rattle.std.specs.List.{AllByRecursion}
use Rattle.std.proofs.Common.{refl, sym, ap, subst, ◌∙◌}
use Rattle.cl_base.specs.Seizings.{SeizeResult}
use Rattle.cmm_attempt.specs.Attempts.{AttemptState}
use Rattle.cmm_attempt.specs.Calls.{Call, With_votes, turn}
use Rattle.cmm_attempt.specs.Counts.{is_quorum}
use Rattle.cmm_attempt.specs.declared.counting.BothVotes.{BothVotes}
use Rattle.attempt_laws.proofs.Walk.{TellsResult}
use Rattle.device_queue.specs.declared.task.Task.{Task}
use Rattle.device_queue.specs.declared.task.Work.TheVariants.{Seizing as Seizing_of}
use Rattle.history.specs.Member.{members_of}
use Rattle.history.specs.Moment.{Moment}
use Rattle.history.specs.Queue as told
use Rattle.history.specs.Records.{NodeRecord}
use Rattle.history.specs.Setting.{Setting}
use Rattle.node_model.specs.declared.node.UpNode.{UpNode}
use Rattle.run_devices.specs.queues.Laws.{Same, SameTask, SameWork}
use Rattle.seize.specs.Seizing as seizing
use Rattle.seize.specs.declared.kind.SeizeKind.{SeizeKind}
use Rattle.seize.specs.declared.kind.SeizeKind.TheVariants.{Plain, Vote}
use Rattle.seize.specs.declared.step.SeizeStep.TheVariants.{Check, Register}
use Rattle.run_outcomes.specs.phases.Laws.{is_seizing}
use Rattle.run_outcomes.specs.tasks.Entries.{EntriesSo}
use Rattle.run_outcomes.specs.tasks.Laws.{AsksTold, own_result}
use Rattle.run_outcomes.specs.tasks.OwnTasks.{begun_at}
use Rattle.run_outcomes.specs.tasks.Quiet.{AreQuiet}
use Rattle.run_outcomes.proofs.told_tasks.Begun.{AreBegun}

-- ---- what happened last

-- a task that the attempt asked for
pub record IsAsked (S : Setting) (n : ℕ) (b : AttemptState) (both : BothVotes) (t : Task) : Type 0 where
  pub valid : Bool
  pub is : t.work ≡ Seizing_of (seizing.begun (if is_quorum both t.device then Vote else Plain) b.plan.epoch b.plan.members n S.header.cluster valid)
  pub so : is_quorum both t.device ≡ true → valid ≡ true

-- A call has led to the attempt from one that seized already. The lines up to the mark show whom that one asked, and what the call tells.
pub record ByCall (b : AttemptState) (tasks : List Task) (marked : List Moment) : Type 0 where
  pub before : AttemptState
  pub call : Call
  pub none_given : (both : BothVotes) → call ≡ With_votes both → ⊥
  pub seized : is_seizing before.phase ≡ true
  pub entries : EntriesSo before
  pub is : b ≡ (turn before call).after
  pub plan : b.plan ≡ before.plan
  pub promises : b.promises ≡ before.promises
  pub votes : b.votes ≡ before.votes
  pub asks : AsksTold before marked
  pub told_other : (d from : ℕ) (r : SeizeResult) → TellsResult call before d from r → from ≢ before.plan.coordinator → told.seized_by before.plan.epoch d from marked ≡ Some r
  pub told_own : (d from : ℕ) (r : SeizeResult) → TellsResult call before d from r → from ≡ before.plan.coordinator → own_result d tasks ≡ Some r

-- The votes have led to it, and nobody was asked before.
pub record ByVotes (b : AttemptState) (both : BothVotes) (marked : List Moment) : Type 0 where
  pub before : AttemptState
  pub is : b ≡ (turn before (With_votes both)).after
  pub plan : b.plan ≡ before.plan
  pub promises : b.promises ≡ before.promises
  pub none : (d : ℕ) → told.asked_last before.plan.epoch d marked ≡ None

-- Up to the mark `history` has the tasks that the node had, and what it adds there; since then it has as many, and the node what its attempt asked for.
pub record LedOn (S : Setting) (n : ℕ) (y : UpNode) (b : AttemptState) (both : BothVotes) (moments : List Moment) : Type 0 where
  pub given : b.votes ≡ Some both
  pub marked : List Moment
  pub newer : List Moment
  pub parts : moments ≡ newer ++ marked
  pub quiet : AreQuiet n marked newer
  pub old : List Task
  pub new : List Task
  pub had : List told.Task
  pub tasks : y.tasks ≡ old ++ new
  pub same : Same old had
  pub told_so : told.tasks_of S n marked ≡ told.with_own S n (Some b.plan.epoch) marked had
  pub asked : AllByRecursion (IsAsked S n b both) new
  pub comes : ByCall b y.tasks marked ⊎ ByVotes b both marked

-- ---- what is begun

no_check : Register ≡ Check → ⊥
no_check e = cc

begun_task : (S : Setting) (n : ℕ) (b : AttemptState) (both : BothVotes) (r : NodeRecord) (ms : List Moment) (t : Task) → ((d : ℕ) → told.is_voting S r d ≡ is_quorum both d)
    → members_of b.plan.epoch ms ≡ b.plan.members → IsAsked S n b both t → SameTask t (begun_at S n b.plan.epoch r ms t.device)
begun_task S n b both r ms t voting members k = (refl, subst (λ w. SameWork w (told.seizing_for S n b.plan.epoch (if told.is_voting S r t.device then Vote else Plain) ms)) (sym k.is) same)
  where
    e : ℕ
    e = b.plan.epoch

    kind : SeizeKind
    kind = if is_quorum both t.device then Vote else Plain

    by_quorum : (q : Bool) → (q ≡ true → k.valid ≡ true) → seizing.first_step (if q then Vote else Plain) ≡ Check → k.valid ≡ true
    by_quorum true so at = so refl
    by_quorum false so at = absurd (no_check at)

    same : SameWork (Seizing_of (seizing.begun kind e b.plan.members n S.header.cluster k.valid)) (told.seizing_for S n e (if told.is_voting S r t.device then Vote else Plain) ms)
    same = (
      ap (λ m. seizing.begun kind e m n S.header.cluster true) (sym members)
          ∙ ap (λ q. seizing.begun (if q then Vote else Plain) e (members_of e ms) n S.header.cluster true) (sym (voting t.device)),
      (λ at. by_quorum (is_quorum both t.device) k.so at),
    )

pub all_begun : (S : Setting) (n : ℕ) (b : AttemptState) (both : BothVotes) (r : NodeRecord) (ms : List Moment) (ts : List Task) → ((d : ℕ) → told.is_voting S r d ≡ is_quorum both d)
    → members_of b.plan.epoch ms ≡ b.plan.members → AllByRecursion (IsAsked S n b both) ts → AreBegun S n b.plan.epoch r ms ts
all_begun S n b both r ms [] voting members k = tt
all_begun S n b both r ms (t ∷ ts) voting members k = (begun_task S n b both r ms t voting members k.0, all_begun S n b both r ms ts voting members k.1)
