use Rattle.sequencer_laws.proofs.Cleared.{clear_is_safe}
use Rattle.sequencer_laws.proofs.Done.{done_is_safe}
use Rattle.sequencer_laws.proofs.Ordered.{orders_stay_safe}
use Rattle.sequencer_laws.proofs.laws.orders_stay_safe.Goals as goal

pub returns : goal.returns
returns c = record { ordered = orders_stay_safe; done = done_is_safe; clear = clear_is_safe }
