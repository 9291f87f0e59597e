-- The queue of each node is told, so each line is answered as `history` has it, and so are requests to seize, Installs, and tasks that are over; and the parts of
-- rounds come in their order.
use Rattle.run_outcomes.specs.lines.Laws.{LinesAreAnswered}
use Rattle.run_outcomes.specs.reports.Laws.{ReportsOfEachRun, TasksAreAnsweredInEachRun}
use Rattle.run_outcomes.specs.rounds_told.Laws.{NoRoundIsLeft, RoundsAreTold}
use Rattle.run_outcomes.specs.tasks.Laws.{OfEachLeft, QueuesAreTold}
use Rattle.run_outcomes.specs.tasks.Left.{LastingQueuesAreTold}
use Rattle.run_outcomes.specs.tasks.Others.{OthersHaveTold}
use Rattle.run_outcomes.proofs.installed.Runs.{installs_have_come}
use Rattle.run_outcomes.proofs.led.Runs.{ends_are_led, installs_are_under_way}
use Rattle.run_outcomes.proofs.lines.Runs.{lines_by_queues}
use Rattle.run_outcomes.proofs.members.Queues.{queues_are_told_from}
use Rattle.run_outcomes.proofs.others.Asked.{requests_plain}
use Rattle.run_outcomes.proofs.others.Have.{others_from}
use Rattle.run_outcomes.proofs.others.Native.{requests_are_native}
use Rattle.run_outcomes.proofs.others.Own.{plain_is_own}
use Rattle.run_outcomes.proofs.outward.Collectors.{collectors_have_none}
use Rattle.run_outcomes.proofs.outward.Rested.{rested_have}
use Rattle.run_outcomes.proofs.own_shown.Shown.{own_is_shown}
use Rattle.run_outcomes.proofs.own_steps.Leading.{own_steps_lead}
use Rattle.run_outcomes.proofs.own_steps.Seizers.{seizers_have}
use Rattle.run_outcomes.proofs.own_tasks.Runs.{own_tasks_are_asked}
use Rattle.run_outcomes.proofs.readies.Runs.{readies_are_short}
use Rattle.run_outcomes.proofs.reports.Answered.{tasks_answered}
use Rattle.run_outcomes.proofs.reports.Reporting.{reports_owed}
use Rattle.run_outcomes.proofs.requests.Runs.{requests_are_of_attempts}
use Rattle.run_outcomes.proofs.rests.Nacks.{own_steps_rest}
use Rattle.run_outcomes.proofs.rounds_told.Runs.{none_left_from, rounds_from}
use Rattle.run_outcomes.proofs.stops.IdleCommands.{commands_are_idle_from}
use Rattle.run_outcomes.proofs.stops.Joined.{stops_are_caused_from}
use Rattle.run_outcomes.specs.stops.AtDevices.{StopsAreCaused}
use Rattle.run_packets.specs.admitted.Laws.{AttemptsBeginAsWanted}
use Rattle.run_outcomes.proofs.seized.Runs.{seizeds_are_told}
use Rattle.run_outcomes.proofs.shown.Asked.{asked_may_seize}
use Rattle.run_outcomes.proofs.shown.LastRuns.{last_shows_valid}
use Rattle.run_outcomes.proofs.shown.Told.{shows_are_told}
use Rattle.run_outcomes.proofs.told_tasks.Queues.{SeizersHave, queues_from}

-- ---- the queues

pub seizers_are_told : OfEachLeft (λ h s. SeizersHave h s)
seizers_are_told = seizers_have own_tasks_are_asked shows_are_told seizeds_are_told own_is_shown own_steps_lead

others_have : OthersHaveTold
others_have = others_from asked_may_seize last_shows_valid plain_is_own (requests_plain requests_are_of_attempts requests_are_native) installs_are_under_way ends_are_led

lasting_queues_are_told : LastingQueuesAreTold
lasting_queues_are_told =
    queues_from own_tasks_are_asked seizers_are_told collectors_have_none (rested_have own_tasks_are_asked seizers_are_told (own_steps_rest requests_are_of_attempts seizers_are_told)) others_have

pub queues_are_told : QueuesAreTold
queues_are_told = queues_are_told_from lasting_queues_are_told

-- ---- by the queues

pub lines_are_answered : LinesAreAnswered
lines_are_answered = lines_by_queues queues_are_told

pub rounds_are_told : RoundsAreTold
rounds_are_told = rounds_from queues_are_told

pub no_round_is_left : NoRoundIsLeft
no_round_is_left = none_left_from queues_are_told

pub tasks_are_answered : TasksAreAnsweredInEachRun
tasks_are_answered = tasks_answered queues_are_told requests_are_of_attempts readies_are_short

pub reports_are_sent : ReportsOfEachRun
reports_are_sent = reports_owed queues_are_told requests_are_of_attempts readies_are_short installs_have_come

pub stops_are_caused : AttemptsBeginAsWanted → StopsAreCaused
stops_are_caused wanted = stops_are_caused_from wanted queues_are_told (commands_are_idle_from seizers_are_told)
