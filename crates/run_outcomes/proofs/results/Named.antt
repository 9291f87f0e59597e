-- With what is told of paths and of what is counted, an attempt ends for want of votes as `history` has it.
use Rattle.std.specs.Prelude.{ℕ, ◌≡◌, ◌==◌, true, List, [], ◌∷◌, length}
use Rattle.std.specs.List.{AllByRecursion}
use Rattle.std.proofs.Common.{sym}
use Rattle.cl_base.specs.declared.header.Header.{Header}
use Rattle.cl_base.specs.declared.seizing.Lack.{Lack}
use Rattle.cl_base.specs.declared.seizing.Obstacle.{Obstacle}
use Rattle.cl_base.specs.declared.seizing.Obstacle.TheVariants.{NoPath, Seizing}
use Rattle.cl_base.specs.declared.seizing.SeizeEnd.TheVariants.{Contended, Expelled, Fault, Greater, Held, NotRegistered}
use Rattle.history.specs.Attempts.{IsLack, attached_members, is_no_path, is_shown}
use Rattle.history.specs.Member.{members_of}
use Rattle.history.specs.Moment.{Moment}
use Rattle.history.specs.Order.{Always}
use Rattle.history.specs.Trace.{ended_votes}
use Rattle.history_setting.specs.Settings.{setting_of}
use Rattle.run_attempts.specs.endings.Laws.{HasPromises}
use Rattle.run_outcomes.specs.counts.Laws.{EndsShort, NamesLacking, NamesPath}
use Rattle.run_outcomes.specs.results.Laws.{EndsAsShort}
use Rattle.run_outcomes.specs.results.Shown.{EndsShown, ObstacleShown}

-- what is named is a lack as `history` has it
lack_named : (h : Header) (e : ℕ) (before : List Moment) (x : Lack) → ObstacleShown h e x.device before x.obstacle → NamesPath h (members_of e before) x → IsLack h before e x
lack_named h e before x k path = record { shown = shown_so x.obstacle k path; path = path }
  where
    shown_so : (o : Obstacle) → ObstacleShown h e x.device before o → is_no_path o ≡ (length (attached_members h x.device (members_of e before)) == 0) → is_shown h e x.device before o ≡ true
    shown_so NoPath so path = sym path
    shown_so (Seizing (Held keys)) so path = absurd so
    shown_so (Seizing (NotRegistered keys)) so path = so
    shown_so (Seizing (Greater w)) so path = so
    shown_so (Seizing Expelled) so path = so
    shown_so (Seizing (Contended key)) so path = so
    shown_so (Seizing Fault) so path = so

lacks_named : (h : Header) (e : ℕ) (before : List Moment) (lacking : List Lack) → AllByRecursion (λ (x : Lack). ObstacleShown h e x.device before x.obstacle) lacking
    → AllByRecursion (NamesPath h (members_of e before)) lacking → AllByRecursion (IsLack h before e) lacking
lacks_named h e before [] k paths = tt
lacks_named h e before (x ∷ lacking) k paths = (lack_named h e before x k.0 paths.0, lacks_named h e before lacking k.1 paths.1)

moment_named : (h : Header) (before : List Moment) (x : Moment) → EndsShown h before x → NamesLacking (setting_of h) before x → HasPromises before x → EndsShort (setting_of h) before x
    → EndsAsShort (setting_of h) before x
moment_named h before (ended_votes e have need lacking) k names promised counted =
    record { too_few = promised.0; promised = promised.1; counted = counted; results = lacks_named h e before lacking k names.paths }
moment_named h before _ k names promised counted = tt

pub all_named : (h : Header) (ms : List Moment) → Always (EndsShown h) ms → Always (NamesLacking (setting_of h)) ms → Always HasPromises ms → Always (EndsShort (setting_of h)) ms
    → Always (EndsAsShort (setting_of h)) ms
all_named h [] k names promised counted = tt
all_named h (x ∷ ms) k names promised counted = (moment_named h ms x k.0 names.0 promised.0 counted.0, all_named h ms k.1 names.1 promised.1 counted.1)
