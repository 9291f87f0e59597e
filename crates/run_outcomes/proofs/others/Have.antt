-- The queue of a node that does not lead is the one that is told.
use Rattle.std.specs.Prelude.{◌≡◌, List, [], ◌∷◌, Option, None, Some, is_some}
use Rattle.std.proofs.Common.{refl, sym, ap, ◌∙◌}
use Rattle.cmm_attempt.proofs.Basics.{false_true}
use Rattle.history.specs.Moment.{Moment}
use Rattle.history.specs.Order.{Always}
use Rattle.history.specs.Queue.{Task}
use Rattle.history_setting.specs.Settings.{setting_of}
use Rattle.run_devices.specs.queues.Views.{View, told_tasks}
use Rattle.run_devices.proofs.queues.Alone.{besides_of}
use Rattle.run_history.specs.Happenings.{all_happened}
use Rattle.run_history.specs.Scenes.{Scene, first_scene}
use Rattle.world_model.specs.First.{first_cluster}
use Rattle.run_outcomes.specs.tasks.Laws.{AskedMaySeize, ShownValid}
use Rattle.run_outcomes.specs.tasks.Left.{HasQueue}
use Rattle.run_outcomes.specs.tasks.Others.{AsksPlainly, EndsAreLed, EndsLeading, InstallsAreUnderWay, InstallsUnderWay, LeadsOwn, OthersHaveTold, PlainIsOwn, RequestsArePlain}
use Rattle.run_outcomes.proofs.others.Runs.{queue_besides}
use Rattle.run_outcomes.proofs.others.Told.{told_some}

all_three : (P Q R : List Moment → Moment → Type 0) (ms : List Moment) → Always P ms → Always Q ms → Always R ms → Always (λ before x. P before x × Q before x × R before x) ms
all_three P Q R [] p q r = tt
all_three P Q R (x ∷ ms) p q r = ((p.0, q.0, r.0), all_three P Q R ms p.1 q.1 r.1)

pub others_from : AskedMaySeize → ShownValid → PlainIsOwn → RequestsArePlain → InstallsAreUnderWay → EndsAreLed → OthersHaveTold
others_from ask shown plain requests installs ends h cells hs last nodes few small disks may shaped native boots left n x up off none closed = by_told (told_tasks V n s.moments) refl
  where
    V : View
    V = besides_of (setting_of h)

    s : Scene
    s = all_happened (first_cluster h) (first_scene h cells) hs

    lines : Always (LeadsOwn (setting_of h)) s.moments
    lines =
        all_three (AsksPlainly (setting_of h)) InstallsUnderWay EndsLeading s.moments (requests h cells hs last nodes few small disks may shaped native boots left)
        (installs h cells hs last nodes few small disks may shaped native boots left) (ends h cells hs last nodes few small disks may shaped native boots left)

    by_told : (o : Option (List Task)) → told_tasks V n s.moments ≡ o → HasQueue h s n x
    by_told None is =
        absurd (false_true (sym (ap (λ o. is_some o) is)
        ∙ told_some (setting_of h) n s.moments lines off closed))
    by_told (Some ts) is = queue_besides ask shown plain h cells hs last nodes few small disks may shaped native boots left n x ts up is
