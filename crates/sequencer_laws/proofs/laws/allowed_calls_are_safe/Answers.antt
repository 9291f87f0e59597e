use Rattle.sequencer_laws.proofs.Calls.{allowed_calls_are_safe}
use Rattle.sequencer_laws.proofs.laws.allowed_calls_are_safe.Goals as goal

pub returns : goal.returns
returns c = record { safe = allowed_calls_are_safe }
