-- Each run is a history: with what is proved of its queues, of those whose answers are missing, and of its ticks.
use Rattle.run_packets.specs.admitted.Laws.{AttemptsBeginAsWanted}
use Rattle.run_outcomes.specs.histories.Laws.{HistoriesOfEachRun}
use Rattle.run_outcomes.specs.silence.Ends.{AttemptsEndInTime}
use Rattle.run_outcomes.specs.silence.Laws.{AwaitedAreTold, FirstIsTold, SilentsAreCaused}
use Rattle.run_outcomes.proofs.histories.Whole.{histories_from}
use Rattle.run_outcomes.proofs.members.Told.{queues_are_told}
use Rattle.run_outcomes.proofs.seized.Runs.{seizeds_are_told}
use Rattle.run_outcomes.proofs.silence.Every.{awaited_are_told}
use Rattle.run_outcomes.proofs.silence.First.{first_is_told}
use Rattle.run_outcomes.proofs.silence.OwnMissing.{own_part_told}
use Rattle.run_outcomes.proofs.silence.SilentRuns.{silents_are_caused_from}
use Rattle.run_outcomes.proofs.silence.asked.Members.{asked_are_members}
use Rattle.run_outcomes.proofs.silence.ends.Most.{attempts_end}
use Rattle.run_outcomes.proofs.silence.tasks.Begin.{tasks_begin}

pub awaited : AwaitedAreTold
awaited = awaited_are_told seizeds_are_told

pub first_missing_told : FirstIsTold
first_missing_told = first_is_told awaited (own_part_told queues_are_told)

pub silents_are_caused : SilentsAreCaused
silents_are_caused = silents_are_caused_from queues_are_told asked_are_members tasks_begin

pub attempts_end_in_time : AttemptsEndInTime
attempts_end_in_time = attempts_end first_missing_told

pub histories_of_each_run : AttemptsBeginAsWanted → HistoriesOfEachRun
histories_of_each_run wanted = histories_from wanted silents_are_caused attempts_end_in_time
