use Rattle.attempt_laws.proofs.Waits.{someone_is_missing, eighth_tick_ends}
use Rattle.attempt_laws.proofs.Ends.{nacks_end, foreign_ends, left_out_ends, too_few_ends}
use Rattle.attempt_laws.proofs.laws.attempts_end.Goals as goal

pub returns : goal.returns
returns c = record {
  missing = someone_is_missing;
  eighth = eighth_tick_ends;
  nack = nacks_end;
  foreign = foreign_ends;
  excluded = left_out_ends;
  few = too_few_ends;
}
