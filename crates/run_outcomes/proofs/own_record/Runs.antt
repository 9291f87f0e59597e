-- In each run the record of a coordinator holds valid what its own Promise shows, of the devices that its attempt may seize for their votes.
use Rattle.std.specs.Prelude.{ℕ, ◌≡◌, true, false, List, [], Option, Some}
use Rattle.std.proofs.Common.{refl, sym, subst, ◌∙◌}
use Rattle.attempt_laws.specs.Staying.{IsBefore}
use Rattle.cl_base.specs.Sets.{has}
use Rattle.cl_base.specs.declared.header.Header.{Header}
use Rattle.cmm_attempt.specs.Attempts.{AttemptState}
use Rattle.cmm_attempt.specs.Promises.{holds_valid}
use Rattle.cmm_attempt.specs.declared.counting.BothVotes.{BothVotes}
use Rattle.cmm_attempt.specs.declared.phase.Phase.{Phase}
use Rattle.cmm_attempt.specs.declared.phase.Phase.TheVariants.{Choosing, Collecting, Installing, Over, SeizingOthers, SeizingVotes}
use Rattle.device_queue.specs.declared.task.Task.{Task}
use Rattle.node_model.specs.Seats.{record_of, session_of}
use Rattle.node_model.specs.declared.node.Node.TheVariants.{Up}
use Rattle.node_model.specs.declared.node.UpNode.{UpNode}
use Rattle.run_history.specs.Happenings.{Happening, MayAllHappen, all_happened}
use Rattle.run_history.specs.Scenes.{Scene, first_scene}
use Rattle.run_messages.proofs.Reaching.{IsSmall}
use Rattle.world_model.specs.First.{first_cluster}
use Rattle.run_outcomes.specs.phases.Kept.{In}
use Rattle.run_outcomes.specs.saves.Kept.{IsAt}
use Rattle.run_outcomes.specs.tasks.Laws.{seizes_plainly}
use Rattle.run_outcomes.specs.tasks.Own.{IsEarly}
use Rattle.run_outcomes.specs.tasks.OwnPromise.{KeepsOwn}
use Rattle.run_outcomes.specs.tasks.Shown.{AttemptSo, InRange, UpIn}
use Rattle.run_outcomes.proofs.onward.Asked.{MayCount}
use Rattle.run_outcomes.proofs.own_record.Steps.{RecordSo}
use Rattle.run_outcomes.proofs.own_shown.Runs.{own_at, scene_at}
use Rattle.run_outcomes.proofs.own_shown.Shown.{quorum_spared}
use Rattle.run_outcomes.proofs.own_tasks.Runs.{owned_at}
use Rattle.run_outcomes.proofs.phases.Leading.{Has}
use Rattle.run_outcomes.proofs.phases.Own.{HasOwn, run_own}
use Rattle.run_outcomes.proofs.shown.Goes.{attempt_in}

-- where it installs none counts any more
before_of : (p : Phase) (votes : Option BothVotes) (d : ℕ) → MayCount p votes d → IsBefore p
before_of Collecting votes d may = tt
before_of Choosing votes d may = tt
before_of SeizingVotes votes d may = tt
before_of SeizingOthers votes d may = tt
before_of Installing votes d may = may
before_of Over votes d may = may

-- a device that counts is not seized as one without votes: until the votes are given there is no task
counted_spared : (n valid d : ℕ) (ts : List Task) (a : AttemptState) → KeepsOwn n valid ts a → (IsEarly a.phase → ts ≡ []) → MayCount a.phase a.votes d → seizes_plainly d ts ≡ false
counted_spared n valid d ts a k idle counts = by_phase a.phase idle counts
  where
    by_phase : (p : Phase) → (IsEarly p → ts ≡ []) → MayCount p a.votes d → seizes_plainly d ts ≡ false
    by_phase Collecting none may = subst (λ us. seizes_plainly d us ≡ false) (sym (none tt)) refl
    by_phase Choosing none may = subst (λ us. seizes_plainly d us ≡ false) (sym (none tt)) refl
    by_phase SeizingVotes none may = quorum_spared n valid d ts a k may
    by_phase SeizingOthers none may = quorum_spared n valid d ts a k may
    by_phase Installing none may = absurd may
    by_phase Over none may = absurd may

-- The record of a coordinator holds valid what its own Promise shows: each device until the votes are given, and those with votes until it installs. A device
-- without votes is not valid any more once the coordinator has begun to seize it.
pub held_at : (h : Header) (cells : ℕ) (hs : List Happening) → IsSmall h → MayAllHappen (first_cluster h) (first_scene h cells) hs → (n : ℕ) (x : UpNode) (a : AttemptState)
    → (all_happened (first_cluster h) (first_scene h cells) hs).nodes.node n ≡ Up x → x.attempt ≡ Some a → RecordSo (record_of x).valid a
held_at h cells hs size may n x a up has_it = (so.reached, (subst (In HasOwn) has_it (subst (IsAt (Has HasOwn)) up (run_own h cells hs size.few size.small may n)), holds))
  where
    s : Scene
    s = all_happened (first_cluster h) (first_scene h cells) hs

    so : AttemptSo s.nodes.sent n (session_of x) a
    so =
        attempt_in s.nodes.sent n (session_of x) x.attempt a has_it
        (subst (UpIn s.nodes.sent n (s.nodes.disk n).kept) up ((scene_at h cells s size (record { happenings = hs; may = may; is = refl })).sites n).up).1.attempt

    holds : (d : ℕ) → InRange d → MayCount a.phase a.votes d → holds_valid a.promises d a.plan.coordinator ≡ true → has (record_of x).valid d ≡ true
    holds d range counts shows =
        let k : KeepsOwn n (record_of x).valid x.tasks a = own_at h cells hs size may n x a up has_it (before_of a.phase a.votes d counts) in
        sym (k.own.shown d (range, counted_spared n (record_of x).valid d x.tasks a k (owned_at h cells hs size may n x a up has_it).idle counts)) ∙ subst (λ m. holds_valid a.promises d m ≡ true) so.coordinator shows
