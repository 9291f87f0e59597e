use Rattle.attempt_laws.proofs.Told.{attempts_begin, calls_are_told, told_stays}
use Rattle.attempt_laws.proofs.MachineLemmas.{installs_are_counts, newest_is_shown, installs_come_first, starts_follow, starts_are_ready}
use Rattle.attempt_laws.proofs.laws.attempts_show.Goals as goal

pub returns : goal.returns
returns c = record {
  begin = attempts_begin;
  told = calls_are_told;
  stays = told_stays;
  newest = newest_is_shown;
  counts = installs_are_counts;
  installs = installs_come_first;
  follow = starts_follow;
  ready = starts_are_ready;
}
