-- A refusal that comes leaves a coordinator whose attempt seizes devices its tasks; and so does each step that a node takes part in, which leads without an attempt after it.
use Rattle.std.specs.Prelude.{[]}
use Rattle.std.proofs.Common.{refl, subst, ◌∙◌, inl}
use Rattle.history.specs.Setting.{Setting}
use Rattle.history_setting.specs.Settings.{setting_of}
use Rattle.node_model.specs.Seats.{session_of}
use Rattle.run_history.specs.Happenings.{all_happened}
use Rattle.run_history.specs.Scenes.{Scene, first_scene}
use Rattle.run_seizings.proofs.Runs.{run_seizes}
use Rattle.run_seizings.specs.Seized.{AttemptIn, AttemptSo}
use Rattle.run_seizings.specs.Sites.{UpIn}
use Rattle.world_model.specs.First.{first_cluster}
use Rattle.run_outcomes.specs.phases.Laws.{HasAttempt, NewestCounts}
use Rattle.run_outcomes.specs.reports.Laws.{RequestsAreOfAttempts}
use Rattle.run_outcomes.specs.tasks.Laws.{OfEachLeft}
use Rattle.run_outcomes.proofs.asks.Runs.{asks_are_told}
use Rattle.run_outcomes.proofs.own_shown.Shown.{own_is_shown}
use Rattle.run_outcomes.proofs.own_steps.Steps.{OwnStepsRest}
use Rattle.run_outcomes.proofs.own_tasks.Runs.{own_tasks_are_asked}
use Rattle.run_outcomes.proofs.phases.Votes.{votes_are_told}
use Rattle.run_outcomes.proofs.rests.Known.{has_it}
use Rattle.run_outcomes.proofs.rests.Marks.{nack_name}
use Rattle.run_outcomes.proofs.rests.Own.{NacksLeave, own_steps_rest_by}
use Rattle.run_outcomes.proofs.rests.Refused.{refused_same}
use Rattle.run_outcomes.proofs.seized.Runs.{seizeds_are_told}
use Rattle.run_outcomes.proofs.shown.Told.{shows_are_told}
use Rattle.run_outcomes.proofs.told_tasks.Points.{shown_at}
use Rattle.run_outcomes.proofs.told_tasks.Queues.{SeizersHave}

pub nacks_leave : OfEachLeft (λ h s. SeizersHave h s) → NacksLeave
nacks_leave seizers h cells hs last nodes few small disks may shaped native boots left n p from w a b up at seizing l nack closed =
    inl (refused_same S n p from w a s.moments l.letter l.here (l.called ∙ nack_name b nack) (record {
      seizing = seizing;
      last = so.last;
      shown = shown_at own_tasks_are_asked shows_are_told own_is_shown h cells hs last few small disks may shaped native n a it seizing s.moments [] refl tt closed;
      own = own_tasks_are_asked h cells hs last few small disks may shaped native n w a up at;
      asks = asks_are_told h cells hs last few small disks may shaped native left n a it;
      answers = seizeds_are_told h cells hs last few small disks may shaped native n a it;
      same = seizers h cells hs last nodes few small disks may shaped native boots left n w a counts.both up at seizing counts.given closed;
    }))
  where
    S : Setting
    S = setting_of h

    s : Scene
    s = all_happened (first_cluster h) (first_scene h cells) hs

    it : HasAttempt s n a
    it = has_it s n w a up at

    so : AttemptSo h s.moments n (session_of w) a
    so = subst (AttemptIn h s.moments n (session_of w)) at (subst (UpIn h s.moments n) up ((run_seizes h cells hs few small may).seizing.sites n).up).attempt

    counts : NewestCounts S a s.moments
    counts = votes_are_told h cells hs few small may n a it seizing

pub own_steps_rest : RequestsAreOfAttempts → OfEachLeft (λ h s. SeizersHave h s) → OwnStepsRest
own_steps_rest asks seizers = own_steps_rest_by asks (nacks_leave seizers)
