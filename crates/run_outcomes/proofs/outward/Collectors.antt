-- In each run a coordinator has no task by the lines while its attempt collects.
use Rattle.std.specs.Prelude.{◌≡◌, ◌≢◌, ◌<◌, None, Some}
use Rattle.std.proofs.Common.{sym, ap, subst, ◌∙◌}
use Rattle.attempt_laws.specs.Staying.{IsBefore}
use Rattle.cmm_attempt.proofs.Basics.{false_true}
use Rattle.history.specs.Setting.{Setting}
use Rattle.history_setting.specs.Settings.{setting_of}
use Rattle.node_model.specs.Seats.{installed_of, session_of}
use Rattle.refinement.specs.Guards.{OfUp}
use Rattle.run_devices.proofs.queues.Alone.{lines_of}
use Rattle.run_devices.proofs.queues.Runs.{Comes_to}
use Rattle.run_devices.specs.queues.Kept as queues
use Rattle.run_devices.specs.queues.Kept.{NodeSo}
use Rattle.run_devices.specs.validity.Kept as validity
use Rattle.run_history.specs.Happenings.{all_happened}
use Rattle.run_history.specs.Scenes.{Scene, first_scene}
use Rattle.run_messages.proofs.Reaching.{IsSmall}
use Rattle.run_seizings.proofs.Runs.{run_seizes}
use Rattle.run_seizings.specs.Seized.{AttemptIn, AttemptSo, has_installed}
use Rattle.run_seizings.specs.Sites.{UpIn, UpSo}
use Rattle.world_model.specs.First.{first_cluster}
use Rattle.run_outcomes.specs.phases.Laws.{HasAttempt, has_gathered}
use Rattle.run_outcomes.specs.tasks.Left.{CollectorsHaveNone}
use Rattle.run_outcomes.proofs.outward.Addressed.{all_addressed}
use Rattle.run_outcomes.proofs.outward.Collects.{none_collected}
use Rattle.run_outcomes.proofs.outward.Comes.{comes_to, up_kept}
use Rattle.run_outcomes.proofs.outward.Runs.{requests_go_out}
use Rattle.run_outcomes.proofs.phases.Seizes.{promises_are_told}

pub collectors_have_none : CollectorsHaveNone
collectors_have_none h cells hs last few small disks may shaped native n x a up has collects =
    none_collected S n a.plan.epoch s.moments (record {
      own = so.own;
      last = so.last;
      lacks = (promises_are_told h cells hs few small may native n a it).phase ∙ ap has_gathered collects;
      moved = (moves.moved some).moved fresh;
      session = seized.session some ∙ ap Some (sym so.epoch);
    }) (requests_go_out h cells hs size may) (all_addressed h cells hs size may)
  where
    S : Setting
    S = setting_of h

    s : Scene
    s = all_happened (first_cluster h) (first_scene h cells) hs

    size : IsSmall h
    size = record { few = few; small = small }

    it : HasAttempt s n a
    it = subst (OfUp (λ y. y.attempt ≡ Some a)) (sym up) has

    seized : UpSo h s.moments n x
    seized = subst (UpIn h s.moments n) up ((run_seizes h cells hs few small may).seizing.sites n).up

    so : AttemptSo h s.moments n (session_of x) a
    so = subst (AttemptIn h s.moments n (session_of x)) has seized.attempt

    some : 0 < session_of x
    some = subst (λ q. 0 < q) so.epoch so.some

    k : Comes_to (lines_of S) cells s last.wants
    k = comes_to S cells hs last few small disks may shaped

    queue : queues.UpSo (lines_of S) s.moments n None x
    queue = subst (NodeSo (lines_of S) s.moments n None) up (k.so n)

    moves : validity.UpSo s.moments n x
    moves = subst (validity.UpIn s.moments n) up (up_kept h s n last.wants k.valid.so)

    fresh : installed_of x ≢ session_of x
    fresh same =
        false_true (sym (so.before (subst IsBefore (sym collects) tt)) ∙ (ap (λ q. has_installed n q s.moments) so.epoch ∙ queue.done some same))
