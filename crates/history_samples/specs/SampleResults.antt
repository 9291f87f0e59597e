-- Results of devices in an attempt, commands, and messages, that stand without what shows them; beside them some that are right.
use Rattle.std.specs.Prelude.{ℕ, ◌+◌, zero, suc, true, List, [], ◌∷◌, None}
use Rattle.cl_base.specs.declared.panic.Panic.TheVariants as panic
use Rattle.pgr_device.specs.declared.command.PrCommand.TheVariants as command
use Rattle.pgr_device.specs.declared.command.PrAnswer.TheVariants as answer
use Rattle.pgr_device.specs.declared.kind.PrKind.TheVariants.{WriteExclusiveRegistrantsOnly}
use Rattle.schedule_text.specs.declared.event.Event.TheVariants as event
use Rattle.status_report.specs.declared.node_entry.DownCause.TheVariants as cause
use Rattle.history_samples.specs.SampleNames as name
use Rattle.status_report.specs.declared.device_entry.DeviceAnswer.TheVariants.{Given, Failed}
use Rattle.cl_base.specs.declared.seizing.Obstacle.{Obstacle}
use Rattle.cl_base.specs.declared.seizing.Obstacle.TheVariants as lack
use Rattle.cl_base.specs.declared.seizing.SeizeEnd.TheVariants as end
use Rattle.status_report.specs.declared.command_entry.Answer.TheVariants as reply
use Rattle.history.specs.Moment.{Moment}
use Rattle.history.specs.Trace.{up, down, ticked, saved, installed, sent, delivered, device, attempt, ended_votes, ended_superseded, ended_silent, start, ack, asked, answered, gives}
use Rattle.history.specs.Setting.{Setting}
use Rattle.history_samples.specs.SampleOneNode.{line_of, key_1}
use Rattle.history_samples.specs.SampleSplit as split
use Rattle.history_samples.specs.SampleSplit.{pair, key_2}
use Rattle.history_samples.specs.SampleAmnesia.{create_group, alone_after_a_crash}
use Rattle.history_samples.specs.SampleMessages as messages
use Rattle.history_samples.specs.SampleAnswers.{booted, ticks, asked_node_2}

-- ---- results: node 2 alone, in the attempt 130, lacks one vote

abbrev pub ends_with : Obstacle → List Moment → List Moment
ends_with why before = ended_votes 130 1 2 (record { device = 1; obstacle = why } ∷ []) ∷ before

abbrev pub reserving : List Moment
reserving = device 2 1 (command.Reserve WriteExclusiveRegistrantsOnly key_2) (Given answer.Good) ∷ attempt 130 2 ∷ up 2 ∷ line_of (event.Boot 2) ∷ split.fenced

-- it reads a key 7, which is no member's, so often
abbrev pub readings : ℕ → List Moment
readings zero = reserving
readings (suc k) = device 2 1 command.Keys (Given (answer.Keys (7 ∷ key_2 ∷ []))) ∷ readings k

abbrev pub expelled_unshown : List Moment
expelled_unshown = ends_with (lack.Seizing end.Expelled) split.alone_at_last

abbrev pub expelled_by_a_swap : List Moment
expelled_by_a_swap = ends_with (lack.Seizing end.Expelled) (device 2 1 (command.Swap 129 130) (Given answer.Conflict) ∷ split.alone_at_last)

abbrev pub expelled_with_its_key : List Moment
expelled_with_its_key = ends_with (lack.Seizing end.Expelled) (readings 1)

abbrev pub expelled_after_reserve : List Moment
expelled_after_reserve = ends_with (lack.Seizing end.Expelled) (device 2 1 command.Keys (Given (answer.Keys (key_1 ∷ []))) ∷ reserving)

abbrev pub contended_too_early : List Moment
contended_too_early = ends_with (lack.Seizing (end.Contended 7)) (readings 63)

abbrev pub contended_rightly : List Moment
contended_rightly = ends_with (lack.Seizing (end.Contended 7)) (readings 64)

abbrev pub contended_by_another : List Moment
contended_by_another = ends_with (lack.Seizing (end.Contended 9)) (readings 64)

abbrev pub fault_unshown : List Moment
fault_unshown = ends_with (lack.Seizing end.Fault) split.alone_at_last

abbrev pub fault_rightly : List Moment
fault_rightly = ends_with (lack.Seizing end.Fault) (device 2 1 command.Word Failed ∷ split.alone_at_last)

abbrev pub greater_of_a_smaller : List Moment
greater_of_a_smaller = ends_with (lack.Seizing (end.Greater 65)) (device 2 1 command.Word (Given (answer.Word 65)) ∷ split.alone_at_last)

abbrev pub greater_rightly : List Moment
greater_rightly = ends_with (lack.Seizing (end.Greater 193)) (device 2 1 command.Word (Given (answer.Word 193)) ∷ split.alone_at_last)

-- node 1 holds the device valid, and each reading has its key
abbrev pub not_registered_but_valid : List Moment
not_registered_but_valid = ended_votes 129 1 2 (record { device = 1; obstacle = lack.Seizing (end.NotRegistered tt) } ∷ []) ∷ split.reserving_129

-- a failed command shows why the start does not hold the device
abbrev pub not_held_for_a_fault : List Moment
not_held_for_a_fault = start 65 3 0 0 ∷ device 1 1 command.Word Failed ∷ attempt 65 3 ∷ booted

-- the coordinator has no task of its own
abbrev pub silent_without_a_task : List Moment
silent_without_a_task = ended_silent 65 1 ∷ ticks 8 asked_node_2

-- no node went up since the attempt, and no Nack came
abbrev pub superseded_by_itself : List Moment
superseded_by_itself = ended_superseded 65 65 ∷ asked_node_2

-- ---- downs

abbrev pub panic_of_the_disk : List Moment
panic_of_the_disk = down 1 (cause.Panic panic.Disk) ∷ ticked 1 ∷ line_of (event.Tick 1) ∷ booted

-- ---- starts

abbrev pub started_with_others : List Moment
started_with_others = start 65 1 0 0 ∷ messages.ready

abbrev pub started_without_attempt : List Moment
started_without_attempt = start 129 1 0 0 ∷ messages.ready

-- node 2 answered before the Prepare came
abbrev pub acked_after_an_early_answer : List Moment
acked_after_an_early_answer =
    ack 65 1 create_group
    ∷ delivered 4 1 2
    ∷ delivered 5 2 1
    ∷ sent 5 2 1 (name.Prepared 1) []
    ∷ messages.preparing

-- ---- commands

-- each command is a query; no words are a command's
abbrev pub asking : Setting
asking = record pair { is_query = λ words. true }

abbrev pub wordless : Setting
wordless = record pair { canonical = λ words. None }

abbrev pub ask_at_another : List Moment
ask_at_another = answered 2 1 (reply.Ask 1) ∷ asked 2 1 ∷ gives 2 create_group ∷ messages.formed

abbrev pub ask_at_the_president : List Moment
ask_at_the_president = answered 1 1 (reply.Ask 1) ∷ asked 1 1 ∷ gives 1 create_group ∷ messages.formed

abbrev pub taken_at_another : List Moment
taken_at_another = asked 2 1 ∷ gives 2 create_group ∷ messages.formed

abbrev pub query_unanswered : List Moment
query_unanswered = asked 1 1 ∷ gives 1 create_group ∷ messages.formed

abbrev pub called_unknown : List Moment
called_unknown = answered 1 1 reply.UnknownCommand ∷ asked 1 1 ∷ gives 1 create_group ∷ messages.formed

abbrev pub bad_value : List Moment
bad_value = answered 1 1 reply.BadValue ∷ asked 1 1 ∷ gives 1 create_group ∷ messages.formed

abbrev pub waiting : ℕ → List Moment
waiting zero = alone_after_a_crash
waiting (suc k) = asked 1 (k + 1) ∷ gives 1 create_group ∷ waiting k

abbrev pub taken_when_full : List Moment
taken_when_full = waiting 65

abbrev pub full_rightly : List Moment
full_rightly = answered 1 65 reply.QueueFull ∷ waiting 65

abbrev pub own_answer_later : List Moment
own_answer_later = answered 1 1 reply.NotMember ∷ ticked 1 ∷ line_of (event.Tick 1) ∷ asked 1 1 ∷ gives 1 create_group ∷ booted

abbrev pub answered_unasked : List Moment
answered_unasked = answered 1 1 reply.Ok ∷ alone_after_a_crash

-- ---- messages that are owed

abbrev pub seize_sent : List Moment
seize_sent =
    delivered 3 1 2
    ∷ line_of (event.Next 1 2)
    ∷ sent 3 1 2 (name.SeizeQuorum 1) []
    ∷ delivered 2 2 1
    ∷ line_of (event.Next 2 1)
    ∷ sent 2 2 1 name.Promise []
    ∷ saved 2
    ∷ delivered 1 1 2
    ∷ line_of (event.Next 1 2)
    ∷ sent 1 1 2 name.Collect []
    ∷ messages.begun

-- its first command fails: then the task is over, and node 2 says so, also where it is asked again
abbrev pub failing : List Moment → List Moment
failing before = device 2 1 command.Keys Failed ∷ line_of (event.Disk 2) ∷ before

abbrev pub task_unreported : List Moment
task_unreported = failing seize_sent

abbrev pub task_reported : List Moment
task_reported = sent 4 2 1 (name.Seized 1) [] ∷ failing seize_sent

abbrev pub asked_again : List Moment
asked_again = delivered 5 1 2 ∷ line_of (event.Next 1 2) ∷ sent 5 1 2 (name.SeizeQuorum 1) [] ∷ task_reported

abbrev pub answered_again : List Moment
answered_again = sent 6 2 1 (name.Seized 1) [] ∷ asked_again

-- before its first command node 2 promises another number
abbrev pub promised_another : List Moment
promised_another = saved 2 ∷ delivered 7 1 2 ∷ line_of (event.Next 1 2) ∷ sent 7 1 2 name.Collect [] ∷ attempt 129 3 ∷ seize_sent

-- node 1 seized the device and did not see the key of node 2, which has to join it; its first command fails
abbrev pub joining : List Moment
joining =
    installed 2 65
    ∷ saved 2
    ∷ delivered 3 1 2
    ∷ line_of (event.Next 1 2)
    ∷ sent 3 1 2 name.Install []
    ∷ installed 1 65
    ∷ device 1 1 command.Word (Given (answer.Word 65))
    ∷ device 1 1 command.Keys (Given (answer.Keys (key_1 ∷ [])))
    ∷ device 1 1 (command.Reserve WriteExclusiveRegistrantsOnly key_1) (Given answer.Good)
    ∷ delivered 2 2 1
    ∷ line_of (event.Next 2 1)
    ∷ sent 2 2 1 name.Promise []
    ∷ saved 2
    ∷ delivered 1 1 2
    ∷ line_of (event.Next 1 2)
    ∷ sent 1 1 2 name.Collect []
    ∷ messages.begun

abbrev pub join_unreported : List Moment
join_unreported = device 2 1 (command.Ignore key_2) Failed ∷ line_of (event.Disk 2) ∷ joining

abbrev pub join_reported : List Moment
join_reported = sent 4 2 1 name.Ready [] ∷ join_unreported

abbrev pub order_unanswered : List Moment
order_unanswered = delivered 4 1 2 ∷ line_of (event.Next 1 2) ∷ sent 4 1 2 (name.Order 1) [] ∷ messages.formed

abbrev pub order_answered : List Moment
order_answered = sent 5 2 1 (name.Done 1) [] ∷ order_unanswered
