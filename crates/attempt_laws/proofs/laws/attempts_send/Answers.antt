use Rattle.attempt_laws.proofs.Sends.{sends_are_own, first_sends_are_own, asks_are_entries}
use Rattle.attempt_laws.proofs.Readings.{readings_are_held, held_is_read}
use Rattle.attempt_laws.proofs.Short.{sends_are_short, first_sends_are_short}
use Rattle.attempt_laws.proofs.laws.attempts_send.Goals as goal

pub returns : goal.returns
returns c = record {
  own = sends_are_own;
  first_own = first_sends_are_own;
  short = sends_are_short;
  first_short = first_sends_are_short;
  entries = asks_are_entries;
  readings = readings_are_held;
  read = held_is_read;
}
