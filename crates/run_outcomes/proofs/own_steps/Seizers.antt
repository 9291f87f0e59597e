-- At each point of a run a coordinator whose attempt seizes devices has the tasks of `history`, where each step in which it takes part leads to that.
use Rattle.std.specs.Prelude.{ℕ, ◌≡◌, ◌++◌, ◌⊎◌, Bool, true, false, [], ◌∷◌, Some}
use Rattle.std.proofs.Common.{refl, sym, subst, ◌∙◌, inl, inr}
use Rattle.cl_base.specs.declared.header.Header.{Header}
use Rattle.cmm_attempt.specs.Attempts.{AttemptState}
use Rattle.cmm_attempt.specs.declared.counting.BothVotes.{BothVotes}
use Rattle.history.specs.Queue as told
use Rattle.history.specs.Setting.{Setting}
use Rattle.history_setting.specs.Settings.{setting_of}
use Rattle.node_model.specs.declared.node.Node.{Node}
use Rattle.node_model.specs.declared.node.Node.TheVariants.{Down, Up}
use Rattle.node_model.specs.declared.node.UpNode.{UpNode}
use Rattle.refinement.specs.Guards.{OfUp}
use Rattle.run_devices.specs.queues.Laws.{Same}
use Rattle.run_history.specs.Happenings.{all_happened}
use Rattle.run_history.specs.Scenes.{Scene, first_scene}
use Rattle.world_model.specs.First.{first_cluster}
use Rattle.run_outcomes.specs.phases.Laws.{is_seizing}
use Rattle.run_outcomes.specs.tasks.Laws.{OfEachLeft, OwnTasksAreAsked, SeizedsAreTold, ShowsAreTold}
use Rattle.run_outcomes.specs.tasks.Left.{IsClosed}
use Rattle.run_outcomes.specs.tasks.Showing.{OwnIsShown}
use Rattle.run_outcomes.proofs.elsewhere.Steps.{Untouched, others_stay}
use Rattle.run_outcomes.proofs.own_steps.Steps.{OfEachStep, OwnStepsLead, takes_part}
use Rattle.run_outcomes.proofs.own_steps.Walk.{of_each_left}
use Rattle.run_outcomes.proofs.told_tasks.Led.{LedOn}
use Rattle.run_outcomes.proofs.told_tasks.Queues.{SeizersHave}
use Rattle.run_outcomes.proofs.told_tasks.Seizers.{led_on_same}

it_has : (node : Node) (x : UpNode) (a : AttemptState) → node ≡ Up x → x.attempt ≡ Some a → OfUp (λ y. y.attempt ≡ Some a) node
it_has node x a up at = subst (OfUp (λ y. y.attempt ≡ Some a)) (sym up) at

-- one that takes no part has them still
untouched_same : (h : Header) (s t : Scene) (n : ℕ) (y : UpNode) (a : AttemptState) (both : BothVotes) → Untouched (setting_of h) n s t → SeizersHave h s → t.nodes.node n ≡ Up y → y.attempt ≡ Some a
    → is_seizing a.phase ≡ true → a.votes ≡ Some both → IsClosed h t n → Same y.tasks (told.tasks_of (setting_of h) n t.moments)
untouched_same h s t n y a both z k up at seizing given closed = subst (Same y.tasks) (sym z.lines.tasks) (k n y a both (sym z.node ∙ up) at seizing given (z.lines.closed closed))

step_same : OwnTasksAreAsked → ShowsAreTold → SeizedsAreTold → OwnIsShown → OwnStepsLead → OfEachStep (λ h s x t. SeizersHave h s → SeizersHave h t)
step_same own shown answers mine led h cells hs x last nodes few small disks may shaped native boots left k n y a both up at seizing given closed = by_part (takes_part n x) refl
  where
    S : Setting
    S = setting_of h

    s : Scene
    s = all_happened (first_cluster h) (first_scene h cells) hs

    t : Scene
    t = all_happened (first_cluster h) (first_scene h cells) (hs ++ x ∷ [])

    by_way : Same y.tasks (told.tasks_of S n t.moments) ⊎ LedOn S n y a both t.moments → Same y.tasks (told.tasks_of S n t.moments)
    by_way (inl same) = same
    by_way (inr l) =
        led_on_same own shown answers mine h cells (hs ++ x ∷ []) last few small disks may shaped native n y a both up at (it_has (t.nodes.node n) y a up at) seizing closed l

    by_part : (b : Bool) → takes_part n x ≡ b → Same y.tasks (told.tasks_of S n t.moments)
    by_part true is = by_way (led h cells hs x last nodes few small disks may shaped native boots left k n is y a both up at seizing given closed)
    by_part false is = untouched_same h s t n y a both (others_stay h cells hs x last nodes few small disks may shaped native boots left n is) k up at seizing given closed

down_up : (x : UpNode) → Down ≡ Up x → ⊥
down_up x e = cc

first_same : (h : Header) (cells : ℕ) → SeizersHave h (first_scene h cells)
unfolding first_scene
first_same h cells n x a both up at seizing given closed = absurd (down_up x up)

pub seizers_have : OwnTasksAreAsked → ShowsAreTold → SeizedsAreTold → OwnIsShown → OwnStepsLead → OfEachLeft (λ h s. SeizersHave h s)
seizers_have own shown answers mine led = of_each_left (λ h s. SeizersHave h s) first_same (step_same own shown answers mine led)
