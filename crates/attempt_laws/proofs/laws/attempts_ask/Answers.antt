use Rattle.attempt_laws.proofs.Asks.{devices_begin, calls_move}
use Rattle.attempt_laws.proofs.Left.{others_leave}
use Rattle.attempt_laws.proofs.First.{quorum_asks_valid, others_ask_attached}
use Rattle.attempt_laws.proofs.Plain.{plain_has_no_votes}
use Rattle.attempt_laws.proofs.laws.attempts_ask.Goals as goal

pub returns : goal.returns
returns c = record {
  begin = devices_begin;
  calls = calls_move;
  others = others_leave;
  quorum = quorum_asks_valid;
  plain = others_ask_attached;
  no_votes = plain_has_no_votes;
}
