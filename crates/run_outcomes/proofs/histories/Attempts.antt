-- What an attempt comes to has its cause, whole.
use Rattle.std.specs.Prelude.{List, [], ◌∷◌}
use Rattle.history.specs.Attempts.{Attempts, HasCause}
use Rattle.history.specs.Moment.{Moment}
use Rattle.history.specs.Order.{Always}
use Rattle.history.specs.Setting.{Setting}
use Rattle.history.specs.Trace.{attempt, ended_excluded, ended_foreign, ended_silent, ended_superseded, ended_votes, sent, start}
use Rattle.run_attempts.specs.Laws.{BeatIsDue}
use Rattle.run_attempts.specs.endings.Laws.{EndsInTick, EndsUnderWay, IsSuperseded}
use Rattle.run_packets.specs.admitted.Laws.{BeginsAsHistory}
use Rattle.run_outcomes.specs.counts.Laws.{EndsForeign}
use Rattle.run_outcomes.specs.exclusions.Laws.{EndsExcluded}
use Rattle.run_outcomes.specs.results.Laws.{EndsAsShort}
use Rattle.run_outcomes.specs.silence.Laws.{EndsSilentSo}

-- what is proved of each moment
pub record CausesSo (S : Setting) (before : List Moment) (x : Moment) : Type 0 where
  pub begins : BeginsAsHistory S before x
  pub way : EndsUnderWay before x
  pub short : EndsAsShort S before x
  pub superseded : IsSuperseded before x
  pub in_tick : EndsInTick before x
  pub silent : EndsSilentSo S before x
  pub foreign : EndsForeign S before x
  pub excluded : EndsExcluded before x
  pub beat : BeatIsDue S before x

pub has_cause : (S : Setting) (before : List Moment) (x : Moment) → CausesSo S before x → HasCause S before x
has_cause S before (attempt e members) k = k.begins
has_cause S before (ended_votes e have need lacking) k = (k.way, k.short)
has_cause S before (ended_superseded e q) k = (k.way, k.superseded)
has_cause S before (ended_silent e m) k = (k.way, k.in_tick, k.silent)
has_cause S before (ended_foreign e m) k = (k.way, k.foreign)
has_cause S before (ended_excluded e m) k = (k.way, k.excluded)
has_cause S before (start e members held count) k = k.way
has_cause S before (sent p n m called bytes) k = k.beat
has_cause S before _ k = tt

pub causes_so : (S : Setting) (ms : List Moment) → Always (BeginsAsHistory S) ms → Always EndsUnderWay ms → Always (EndsAsShort S) ms → Always IsSuperseded ms → Always EndsInTick ms → Always (EndsSilentSo S) ms
    → Always (EndsForeign S) ms → Always EndsExcluded ms → Always (BeatIsDue S) ms → Always (CausesSo S) ms
causes_so S [] begins way short superseded in_tick silent foreign excluded beat = tt
causes_so S (x ∷ ms) begins way short superseded in_tick silent foreign excluded beat = (
  record {
    begins = begins.0;
    way = way.0;
    short = short.0;
    superseded = superseded.0;
    in_tick = in_tick.0;
    silent = silent.0;
    foreign = foreign.0;
    excluded = excluded.0;
    beat = beat.0;
  },
  causes_so S ms begins.1 way.1 short.1 superseded.1 in_tick.1 silent.1 foreign.1 excluded.1 beat.1,
)

pub attempts_so : (S : Setting) (ms : List Moment) → Always (CausesSo S) ms → Attempts S ms
attempts_so S [] k = tt
attempts_so S (x ∷ ms) k = (has_cause S ms x k.0, attempts_so S ms k.1)
