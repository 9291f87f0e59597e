-- A node that leads has the tasks of `history`, and one whose own attempt is over has its queue, where each step in which it takes part leaves it so.
use Rattle.std.specs.Prelude.{ℕ, suc, ◌≡◌, ◌++◌, not, Bool, true, false, List, [], ◌∷◌, filter, length, Option, None, Some}
use Rattle.std.proofs.Common.{refl, sym, ap, subst, ◌∙◌, inl, inr}
use Rattle.cl_base.specs.declared.header.Header.{Header}
use Rattle.cmm_attempt.proofs.Basics.{false_true}
use Rattle.cmm_attempt.specs.Attempts.{AttemptState, is_over}
use Rattle.cmm_attempt.specs.declared.phase.Phase.{Phase}
use Rattle.cmm_attempt.specs.declared.phase.Phase.TheVariants.{Choosing, Collecting, Installing, Over, SeizingOthers, SeizingVotes}
use Rattle.device_queue.specs.Tasks.{is_queued}
use Rattle.device_queue.specs.declared.task.Task.{Task}
use Rattle.history.specs.Queue as told
use Rattle.history.specs.Seizing.{acts_for}
use Rattle.history.specs.Setting.{Setting}
use Rattle.history_setting.specs.Settings.{setting_of}
use Rattle.node_model.specs.Attempts.{is_choosing}
use Rattle.node_model.specs.Seats.{session_of as own_session}
use Rattle.node_model.specs.declared.node.Node.TheVariants.{Down, Up}
use Rattle.node_model.specs.declared.node.UpNode.{UpNode}
use Rattle.refinement.specs.Guards.{OfUp}
use Rattle.run_devices.proofs.queues.Tasks.{same_queue}
use Rattle.run_devices.specs.queues.Laws.{Same}
use Rattle.run_devices.specs.queues.Told.{leads, leads_for}
use Rattle.run_history.specs.Happenings.{all_happened}
use Rattle.run_history.specs.Scenes.{Scene, first_scene}
use Rattle.run_outcomes.proofs.outward.Collectors.{collectors_have_none}
use Rattle.run_outcomes.proofs.elsewhere.Steps.{Untouched, others_stay}
use Rattle.run_outcomes.proofs.outward.Resting.{IsRested, LeadersHave}
use Rattle.run_outcomes.proofs.own_steps.Steps.{OfEachStep, OwnStepsRest, takes_part}
use Rattle.run_outcomes.proofs.own_steps.Walk.{of_each_left}
use Rattle.run_outcomes.proofs.phases.LiveRuns.{none_is_over}
use Rattle.run_outcomes.proofs.phases.Seizes.{seizings_are_told}
use Rattle.run_outcomes.proofs.phases.Votes.{votes_are_told}
use Rattle.run_outcomes.proofs.saves.Kept.{run_kept}
use Rattle.run_outcomes.proofs.told_tasks.Queues.{SeizersHave}
use Rattle.run_outcomes.specs.phases.Laws.{HasAttempt, NewestCounts, SeizesTold, is_installing, is_seizing}
use Rattle.run_outcomes.specs.saves.Kept.{IsAt, Rests, RestsIn}
use Rattle.run_outcomes.specs.tasks.Laws.{OfEachLeft, OwnTasksAreAsked}
use Rattle.run_outcomes.specs.tasks.Left.{IsClosed, RestedHave}
use Rattle.run_seizings.proofs.Runs.{run_seizes}
use Rattle.run_seizings.specs.Seized.{AttemptIn, AttemptSo}
use Rattle.run_seizings.specs.Sites.{UpIn}
use Rattle.world_model.specs.First.{first_cluster}

-- ---- those that lead

none_left : (ts : List Task) → length ts ≡ 0 → ts ≡ []
none_left [] is = refl
none_left (t ∷ ts) is = absurd (never (length ts) is)
  where
    never : (k : ℕ) → suc k ≡ 0 → ⊥
    never k e = cc

-- those that have no attempt
abbrev RestingHave : Header → Scene → Type 0
RestingHave h s = (n : ℕ) (x : UpNode) → s.nodes.node n ≡ Up x → x.attempt ≡ None → leads n s.moments ≡ true → IsClosed h s n → IsRested x (told.tasks_of (setting_of h) n s.moments)

-- all are so, where those are that have none
leaders_have : OwnTasksAreAsked → OfEachLeft (λ h s. SeizersHave h s) → OfEachLeft (λ h s. RestingHave h s → LeadersHave h s)
leaders_have own seizers h cells hs last nodes few small disks may shaped native boots left rest n x up first closed = by_attempt x.attempt refl
  where
    S : Setting
    S = setting_of h

    s : Scene
    s = all_happened (first_cluster h) (first_scene h cells) hs

    having : (a : AttemptState) → x.attempt ≡ Some a → IsRested x (told.tasks_of S n s.moments)
    having a at = by_phase a.phase refl
      where
        it : HasAttempt s n a
        it = subst (OfUp (λ y. y.attempt ≡ Some a)) (sym up) at

        live : is_over a.phase ≡ false
        live = none_is_over h cells hs few small may n a it

        waits : is_choosing a.phase ≡ false
        waits = subst RestsIn at (subst (IsAt Rests) up ((run_kept h cells hs few small may).rests n))

        so : AttemptSo h s.moments n (own_session x) a
        so = subst (AttemptIn h s.moments n (own_session x)) at (subst (UpIn h s.moments n) up ((run_seizes h cells hs few small may).seizing.sites n).up).attempt

        way : SeizesTold a s.moments
        way = seizings_are_told h cells hs few small may native n a it

        seizes : is_seizing a.phase ≡ true → IsRested x (told.tasks_of S n s.moments)
        seizes seizing =
            let counts : NewestCounts S a s.moments = votes_are_told h cells hs few small may n a it seizing in
            inl (seizers h cells hs last nodes few small disks may shaped native boots left n x a counts.both up at seizing counts.given closed)

        installs_not : is_installing a.phase ≡ true → IsRested x (told.tasks_of S n s.moments)
        installs_not installing =
            absurd (false_true (sym (ap not installing) ∙ (sym way.acts ∙ (ap (λ k. acts_for k a.plan.epoch s.moments) so.own ∙ (ap (λ o. leads_for n o s.moments) (sym so.last) ∙ first)))))

        by_phase : (p : Phase) → a.phase ≡ p → IsRested x (told.tasks_of S n s.moments)
        by_phase Collecting is =
            inr (ap (filter is_queued) (none_left x.tasks ((own h cells hs last few small disks may shaped native n x a up at).idle is)), collectors_have_none h cells hs last few small disks may shaped native n x a up at is)
        by_phase Choosing is = absurd (false_true (sym (ap is_choosing (sym is) ∙ waits)))
        by_phase SeizingVotes is = seizes (ap is_seizing is)
        by_phase SeizingOthers is = seizes (ap is_seizing is)
        by_phase Installing is = installs_not (ap is_installing is)
        by_phase Over is = absurd (false_true (sym (ap is_over (sym is) ∙ live)))

    by_attempt : (o : Option AttemptState) → x.attempt ≡ o → IsRested x (told.tasks_of S n s.moments)
    by_attempt None at = rest n x up at first closed
    by_attempt (Some a) at = having a at

-- ---- each thing that happens

-- one that takes no part has its tasks still
untouched_rested : (h : Header) (s t : Scene) (n : ℕ) (y : UpNode) → Untouched (setting_of h) n s t → LeadersHave h s → t.nodes.node n ≡ Up y → leads n t.moments ≡ true → IsClosed h t n
    → IsRested y (told.tasks_of (setting_of h) n t.moments)
untouched_rested h s t n y z k up first closed =
    subst (IsRested y) (sym z.lines.tasks) (k n y (sym z.node ∙ up) (sym z.lines.leading ∙ first) (z.lines.closed closed))

step_rested : OwnTasksAreAsked → OfEachLeft (λ h s. SeizersHave h s) → OwnStepsRest → OfEachStep (λ h s x t. LeadersHave h s → LeadersHave h t)
step_rested own seizers rests h cells hs x last nodes few small disks may shaped native boots left k =
    leaders_have own seizers h cells (hs ++ x ∷ []) last nodes few small disks may shaped native boots left resting
  where
    s : Scene
    s = all_happened (first_cluster h) (first_scene h cells) hs

    t : Scene
    t = all_happened (first_cluster h) (first_scene h cells) (hs ++ x ∷ [])

    resting : RestingHave h t
    resting n y up at first closed = by_part (takes_part n x) refl
      where
        by_part : (b : Bool) → takes_part n x ≡ b → IsRested y (told.tasks_of (setting_of h) n t.moments)
        by_part true is = rests h cells hs x last nodes few small disks may shaped native boots left k n is y up at first closed
        by_part false is = untouched_rested h s t n y (others_stay h cells hs x last nodes few small disks may shaped native boots left n is) k up first closed

-- ---- the law, from what is left of steps

down_up : (x : UpNode) → Down ≡ Up x → ⊥
down_up x e = cc

first_rested : (h : Header) (cells : ℕ) → LeadersHave h (first_scene h cells)
unfolding first_scene
first_rested h cells n x up leading closed = absurd (down_up x up)

pub all_lead : OwnTasksAreAsked → OfEachLeft (λ h s. SeizersHave h s) → OwnStepsRest → OfEachLeft (λ h s. LeadersHave h s)
all_lead own seizers rests = of_each_left (λ h s. LeadersHave h s) first_rested (step_rested own seizers rests)

rested_queue : (x : UpNode) (us : List told.Task) → IsRested x us → Same (filter is_queued x.tasks) (filter (λ (u : told.Task). not (told.is_over u.work)) us)
rested_queue x us (inl same) = same_queue x.tasks us same
rested_queue x us (inr none) =
    subst (λ ts. Same ts (filter (λ (u : told.Task). not (told.is_over u.work)) us)) (sym none.0)
    (subst (λ z. Same [] (filter (λ (u : told.Task). not (told.is_over u.work)) z)) (sym none.1) tt)

pub rested_have : OwnTasksAreAsked → OfEachLeft (λ h s. SeizersHave h s) → OwnStepsRest → RestedHave
rested_have own seizers rests h cells hs last nodes few small disks may shaped native boots left n x up at first closed =
    rested_queue x (told.tasks_of (setting_of h) n (all_happened (first_cluster h) (first_scene h cells) hs).moments)
    (all_lead own seizers rests h cells hs last nodes few small disks may shaped native boots left n x up first closed)
