-- The queue of each node is that of `history`, where it is so of the nodes whose attempts seize devices or are over, and of those that do not lead.
use Rattle.std.specs.Prelude.{ℕ, suc, ◌∷◌, ◌≡◌, not, Bool, true, false, List, [], filter, length, Option, None, Some}
use Rattle.std.proofs.Common.{refl, sym, ap, subst, ◌∙◌}
use Rattle.cl_base.specs.declared.header.Header.{Header}
use Rattle.cmm_attempt.proofs.Basics.{false_true}
use Rattle.cmm_attempt.specs.Attempts.{AttemptState, is_over}
use Rattle.cmm_attempt.specs.declared.counting.BothVotes.{BothVotes}
use Rattle.cmm_attempt.specs.declared.phase.Phase.{Phase}
use Rattle.cmm_attempt.specs.declared.phase.Phase.TheVariants.{Choosing, Collecting, Installing, Over, SeizingOthers, SeizingVotes}
use Rattle.device_queue.specs.Tasks.{is_queued}
use Rattle.device_queue.specs.declared.task.Task.{Task}
use Rattle.history.specs.Queue as told
use Rattle.history.specs.Seizing.{acts_for}
use Rattle.history.specs.Setting.{Setting}
use Rattle.history_setting.specs.Settings.{setting_of}
use Rattle.node_model.specs.declared.node.Node.{Node}
use Rattle.node_model.specs.declared.node.Node.TheVariants.{Down, Up}
use Rattle.node_model.specs.declared.node.UpNode.{UpNode}
use Rattle.run_devices.proofs.queues.Histories.{told_as_in_history}
use Rattle.run_devices.proofs.queues.Runs.{queues_of_each_run}
use Rattle.run_devices.proofs.queues.Tasks.{same_queue}
use Rattle.run_devices.specs.queues.Laws.{HasTasks, NodeHas, Same, queued}
use Rattle.run_devices.specs.queues.Told.{leads, leads_for, told_tasks}
use Rattle.run_history.specs.Happenings.{all_happened}
use Rattle.run_history.specs.Scenes.{Scene, first_scene}
use Rattle.world_model.specs.First.{first_cluster}
use Rattle.run_outcomes.specs.phases.Laws.{HasAttempt, NewestCounts, SeizesTold, is_installing, is_seizing}
use Rattle.run_outcomes.specs.tasks.Laws.{NodeQueue, OfEachLeft, OwnTasksAreAsked}
use Rattle.run_outcomes.specs.tasks.Left.{CollectorsHaveNone, HasQueue, IsClosed, LastingQueuesAreTold, RestedHave}
use Rattle.run_outcomes.specs.tasks.Others.{OthersHaveTold}
use Rattle.refinement.specs.Guards.{OfUp}
use Rattle.node_model.specs.Attempts.{is_choosing}
use Rattle.node_model.specs.Seats.{session_of}
use Rattle.run_outcomes.specs.saves.Kept.{IsAt, Rests, RestsIn}
use Rattle.run_outcomes.proofs.saves.Kept.{run_kept}
use Rattle.run_seizings.specs.Seized.{AttemptIn, AttemptSo}
use Rattle.run_seizings.specs.Sites.{UpIn}
use Rattle.run_seizings.proofs.Runs.{run_seizes}
use Rattle.run_outcomes.proofs.phases.LiveRuns.{none_is_over}
use Rattle.run_outcomes.proofs.phases.Seizes.{seizings_are_told}
use Rattle.run_outcomes.proofs.phases.Votes.{votes_are_told}

-- such a coordinator has the tasks of `history`, where its queue is told
abbrev pub SeizersHave : Header → Scene → Type 0
SeizersHave h s = (n : ℕ) (x : UpNode) (a : AttemptState) (both : BothVotes) → s.nodes.node n ≡ Up x → x.attempt ≡ Some a → is_seizing a.phase ≡ true → a.votes ≡ Some both
    → IsClosed h s n → Same x.tasks (told.tasks_of (setting_of h) n s.moments)

none_left : (ts : List Task) → length ts ≡ 0 → ts ≡ []
none_left [] is = refl
none_left (t ∷ ts) is = absurd (never (length ts) is)
  where
    never : (k : ℕ) → suc k ≡ 0 → ⊥
    never k e = cc

same_none : (xs : List Task) (us : List told.Task) → xs ≡ [] → us ≡ [] → Same (filter is_queued xs) (filter (λ (u : told.Task). not (told.is_over u.work)) us)
same_none xs us one other =
    subst (λ z. Same (filter is_queued z) (filter (λ (u : told.Task). not (told.is_over u.work)) us)) (sym one)
    (subst (λ z. Same [] (filter (λ (u : told.Task). not (told.is_over u.work)) z)) (sym other) tt)

-- ---- a node that leads

pub queues_from : OwnTasksAreAsked → OfEachLeft (λ h s. SeizersHave h s) → CollectorsHaveNone → RestedHave → OthersHaveTold → LastingQueuesAreTold
queues_from own seizers none rested others h cells hs last nodes few small disks may shaped native boots left n closed = by_node (s.nodes.node n) refl
  where
    S : Setting
    S = setting_of h

    s : Scene
    s = all_happened (first_cluster h) (first_scene h cells) hs

    leader : (x : UpNode) → s.nodes.node n ≡ Up x → leads n s.moments ≡ true → (o : Option AttemptState) → x.attempt ≡ o → HasQueue h s n x
    leader x up first None at = rested h cells hs last nodes few small disks may shaped native boots left n x up at first closed
    leader x up first (Some a) at = by_phase a.phase refl
      where
        it : HasAttempt s n a
        it = subst (OfUp (λ y. y.attempt ≡ Some a)) (sym up) at

        live : is_over a.phase ≡ false
        live = none_is_over h cells hs few small may n a it

        waits : is_choosing a.phase ≡ false
        waits = subst RestsIn at (subst (IsAt Rests) up ((run_kept h cells hs few small may).rests n))

        so : AttemptSo h s.moments n (session_of x) a
        so = subst (AttemptIn h s.moments n (session_of x)) at (subst (UpIn h s.moments n) up ((run_seizes h cells hs few small may).seizing.sites n).up).attempt

        way : SeizesTold a s.moments
        way = seizings_are_told h cells hs few small may native n a it

        seizes : is_seizing a.phase ≡ true → HasQueue h s n x
        seizes seizing =
            let counts : NewestCounts S a s.moments = votes_are_told h cells hs few small may n a it seizing in
            same_queue x.tasks (told.tasks_of S n s.moments)
            (seizers h cells hs last nodes few small disks may shaped native boots left n x a counts.both up at seizing counts.given closed)

        installs_not : is_installing a.phase ≡ true → HasQueue h s n x
        installs_not installing =
            absurd (false_true (sym (ap not installing) ∙ (sym way.acts ∙ (ap (λ k. acts_for k a.plan.epoch s.moments) so.own ∙ (ap (λ o. leads_for n o s.moments) (sym so.last) ∙ first)))))

        by_phase : (p : Phase) → a.phase ≡ p → HasQueue h s n x
        by_phase Collecting is =
            same_none x.tasks (told.tasks_of S n s.moments) (none_left x.tasks ((own h cells hs last few small disks may shaped native n x a up at).idle is))
            (none h cells hs last few small disks may shaped native n x a up at is)
        by_phase Choosing is = absurd (false_true (sym (ap is_choosing (sym is) ∙ waits)))
        by_phase SeizingVotes is = seizes (ap is_seizing is)
        by_phase SeizingOthers is = seizes (ap is_seizing is)
        by_phase Installing is = installs_not (ap is_installing is)
        by_phase Over is = absurd (false_true (sym (ap is_over (sym is) ∙ live)))

    of_told : (x : UpNode) → s.nodes.node n ≡ Up x → leads n s.moments ≡ false → (o : Option (List told.Task)) → told_tasks S n s.moments ≡ o → HasQueue h s n x
    of_told x up not_first None is = others h cells hs last nodes few small disks may shaped native boots left n x up not_first is closed
    of_told x up not_first (Some ts) is =
        let k : NodeHas (s.nodes.node n) ts = queues_of_each_run h cells hs last S few small refl disks may shaped n ts is in
        let up_has : HasTasks x ts = subst (λ z. NodeHas z ts) up k in
        subst (λ us. Same (filter is_queued x.tasks) (queued us)) (sym (told_as_in_history S n s.moments ts is)) up_has.queue

    by_leads : (x : UpNode) → s.nodes.node n ≡ Up x → (t : Bool) → leads n s.moments ≡ t → HasQueue h s n x
    by_leads x up true is = leader x up is x.attempt refl
    by_leads x up false is = of_told x up is (told_tasks S n s.moments) refl

    by_node : (node : Node) → s.nodes.node n ≡ node → NodeQueue (s.nodes.node n) (told.unfinished (told.tasks_of S n s.moments))
    by_node Down is = subst (λ z. NodeQueue z (told.unfinished (told.tasks_of S n s.moments))) (sym is) tt
    by_node (Up x) is = subst (λ z. NodeQueue z (told.unfinished (told.tasks_of S n s.moments))) (sym is) (by_leads x is (leads n s.moments) refl)
