-- An attempt has waited for as many ticks at least as the lines count, so it ends in time.
use Rattle.run_outcomes.specs.silence.Ends.{AttemptsEndInTime, TicksAreMost}
use Rattle.run_outcomes.specs.silence.Laws.{FirstIsTold}
use Rattle.run_outcomes.proofs.silence.ends.Begins.{counts_from}
use Rattle.run_outcomes.proofs.silence.ends.Counts.{ticks_are_most_from}
use Rattle.run_outcomes.proofs.silence.ends.Events.{attempts_end_from}
use Rattle.run_outcomes.proofs.silence.ends.GoOn.{ticks_go_on}
use Rattle.run_outcomes.proofs.silence.ends.Lasting.{lasts_from}
use Rattle.run_outcomes.proofs.silence.ends.OwnAsks.{own_asks_begin}
use Rattle.run_outcomes.proofs.silence.ends.Shut.{stays_shut}

ticks_are_most : TicksAreMost
ticks_are_most = ticks_are_most_from (counts_from (lasts_from stays_shut own_asks_begin ticks_go_on))

pub attempts_end : FirstIsTold → AttemptsEndInTime
attempts_end = attempts_end_from ticks_are_most
