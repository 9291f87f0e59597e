-- Answers that stand without their cause, lines without their entries, and events without what they owe.
use Rattle.std.specs.Prelude.{ℕ, zero, suc, true, false, List, [], ◌∷◌, ◌++◌}
use Rattle.cl_base.specs.declared.panic.Panic.TheVariants as panic
use Rattle.pgr_device.specs.declared.command.PrCommand.TheVariants as command
use Rattle.pgr_device.specs.declared.command.PrAnswer.TheVariants as answer
use Rattle.schedule_text.specs.declared.event.Event.TheVariants as event
use Rattle.schedule_text.specs.declared.event.StopChoice.TheVariants.{New}
use Rattle.status_report.specs.declared.node_entry.DownCause.TheVariants as cause
use Rattle.history_samples.specs.SampleNames as name
use Rattle.cl_base.specs.declared.packet.DropCause.TheVariants as drop_cause
use Rattle.status_report.specs.declared.device_entry.DeviceAnswer.TheVariants.{Given, Failed}
use Rattle.status_report.specs.declared.device_entry.WriteRefusal.TheVariants as refusal
use Rattle.cl_base.specs.declared.seizing.Obstacle.TheVariants as lack
use Rattle.cl_base.specs.declared.seizing.SeizeEnd.TheVariants as end
use Rattle.status_report.specs.declared.command_entry.Answer.TheVariants as reply
use Rattle.status_report.specs.declared.schedule_entry.SkipCause.TheVariants as skip
use Rattle.history.specs.Moment.{Moment}
use Rattle.history.specs.Trace.{up, down, stopped, ticked, saved, installed, sent, delivered, dropped, device, accepted, refused, attempt, ended_votes, ended_superseded, ended_silent, ended_excluded, start, propose, asked, answered, armed, skipped, fault, crashat, gives}
use Rattle.history_samples.specs.SampleContents.{long}
use Rattle.history_samples.specs.SampleOneNode.{line_of}
use Rattle.history_samples.specs.SampleSplit as split
use Rattle.history_samples.specs.SampleAmnesia.{create_group, alone_after_a_crash}
use Rattle.history_samples.specs.SampleMessages as messages

abbrev pub booted : List Moment
booted = up 1 ∷ line_of (event.Boot 1) ∷ []

-- ---- lines

abbrev pub boot_while_up : List Moment
boot_while_up = skipped skip.Up ∷ line_of (event.Boot 1) ∷ booted

abbrev pub skipped_but_down : List Moment
skipped_but_down = skipped skip.Up ∷ line_of (event.Boot 1) ∷ []

abbrev pub not_skipped : List Moment
not_skipped = up 1 ∷ line_of (event.Boot 1) ∷ booted

abbrev pub no_entries : List Moment
no_entries = line_of (event.Tick 1) ∷ booted

abbrev pub crash_and_more : List Moment
crash_and_more = saved 1 ∷ down 1 cause.Crash ∷ line_of (event.Crash 1) ∷ booted

abbrev pub no_packet : List Moment
no_packet = delivered 1 2 1 ∷ line_of (event.Next 2 1) ∷ booted

abbrev pub dropped_by_a_receiver_that_is_up : List Moment
dropped_by_a_receiver_that_is_up = dropped 1 drop_cause.Down ∷ line_of (event.Next 1 2) ∷ messages.installing

-- ---- writes

abbrev pub accepted_unasked : List Moment
accepted_unasked = accepted 65 2 1 5 ∷ line_of (event.Write 2 1 5) ∷ split.together

abbrev pub refused_as_no_member : List Moment
refused_as_no_member = refused 2 1 5 refusal.NotMember ∷ line_of (event.Write 2 1 5) ∷ split.together

abbrev pub refused_as_not_held : List Moment
refused_as_not_held = refused 2 1 5 refusal.NotHeld ∷ line_of (event.Write 2 1 5) ∷ split.together

-- node 2 lost its key, and does not go down
abbrev pub fenced_and_up : List Moment
fenced_and_up = refused 2 1 5 refusal.Fenced ∷ device 2 1 (command.Write 5) (Given answer.Conflict) ∷ line_of (event.Write 2 1 5) ∷ split.apart

-- ---- device lines

abbrev pub failed_unarmed : List Moment
failed_unarmed = device 1 1 command.Word Failed ∷ booted

abbrev pub armed_and_good : List Moment
armed_and_good = device 1 1 command.Word (Given (answer.Word 0)) ∷ armed ∷ fault 1 1 true ∷ booted

-- a later fault line stands in the place of the first: the command was not done
abbrev pub failed_undone : List Moment
failed_undone =
    device 1 1 command.Word (Given (answer.Word 0)) ∷ device 1 1 (command.Swap 0 65) Failed ∷ armed ∷ fault 1 1 false ∷ armed ∷ fault 1 1 true ∷ booted

abbrev pub failed_done : List Moment
failed_done = device 1 1 command.Word (Given (answer.Word 65)) ∷ device 1 1 (command.Swap 0 65) Failed ∷ armed ∷ fault 1 1 true ∷ booted

abbrev pub undone_and_read : List Moment
undone_and_read = device 1 1 command.Word (Given (answer.Word 65)) ∷ device 1 1 (command.Swap 0 65) Failed ∷ armed ∷ fault 1 1 false ∷ booted

-- ---- attempts

abbrev pub attempt_of_the_unheard : List Moment
attempt_of_the_unheard = attempt 65 3 ∷ saved 1 ∷ ticked 1 ∷ line_of (event.Tick 1) ∷ up 2 ∷ line_of (event.Boot 2) ∷ booted

abbrev pub attempt_outside_a_tick : List Moment
attempt_outside_a_tick = attempt 65 1 ∷ booted

abbrev pub attempt_of_the_greater : List Moment
attempt_of_the_greater = attempt 66 3 ∷ ticked 2 ∷ line_of (event.Tick 2) ∷ delivered 1 1 2 ∷ sent 1 1 2 name.Heartbeat [] ∷ up 2 ∷ booted

-- a member of 65 with both begins another attempt with both, and heard nothing
abbrev pub attempt_without_reason : List Moment
attempt_without_reason =
    attempt 129 3 ∷ ticked 1 ∷ line_of (event.Tick 1) ∷ delivered 1 2 1 ∷ sent 1 2 1 (name.Prepared 1) [] ∷ split.together

abbrev pub ticks : ℕ → List Moment → List Moment
ticks zero before = before
ticks (suc k) before = ticked 1 ∷ line_of (event.Tick 1) ∷ ticks k before

abbrev pub asked_node_2 : List Moment
asked_node_2 = sent 1 1 2 name.Collect [] ∷ attempt 65 3 ∷ booted

abbrev pub silent_after_eight : List Moment
silent_after_eight = ended_silent 65 2 ∷ ticks 8 asked_node_2

abbrev pub silent_too_early : List Moment
silent_too_early = ended_silent 65 2 ∷ ticks 7 asked_node_2

abbrev pub silent_after_the_tick : List Moment
silent_after_the_tick = ended_silent 65 2 ∷ saved 1 ∷ line_of (event.Disk 1) ∷ ticks 8 asked_node_2

-- the attempt is over by then
abbrev pub silent_twice : List Moment
silent_twice = ended_silent 65 2 ∷ ticks 8 (ended_silent 65 2 ∷ ticks 8 asked_node_2)

abbrev pub silent_after_a_crash : List Moment
silent_after_a_crash =
    ended_silent 65 2 ∷ ticks 8 (up 1 ∷ line_of (event.Boot 1) ∷ down 1 cause.Crash ∷ line_of (event.Crash 1) ∷ asked_node_2)

abbrev pub started_at_the_end : List Moment
started_at_the_end = start 65 3 0 0 ∷ ended_silent 65 2 ∷ ticks 8 asked_node_2

abbrev pub silent_and_answered : List Moment
silent_and_answered =
    ended_silent 65 2 ∷ ticks 8 (delivered 2 2 1 ∷ sent 2 2 1 name.Promise [] ∷ delivered 1 1 2 ∷ asked_node_2)

abbrev pub superseded_by_a_collect : List Moment
superseded_by_a_collect = ended_superseded 65 130 ∷ saved 1 ∷ delivered 2 2 1 ∷ sent 2 2 1 name.Collect [] ∷ attempt 130 3 ∷ asked_node_2

abbrev pub superseded_by_nothing : List Moment
superseded_by_nothing = ended_superseded 65 130 ∷ attempt 130 3 ∷ asked_node_2

abbrev pub superseded_by_a_smaller : List Moment
superseded_by_a_smaller = ended_superseded 129 66 ∷ delivered 2 2 1 ∷ sent 2 2 1 name.Collect [] ∷ attempt 66 3 ∷ attempt 129 3 ∷ booted

abbrev pub excluded_without_reason : List Moment
excluded_without_reason = ended_excluded 65 2 ∷ asked_node_2

-- node 2 installed 65, and has part in no attempt since; 129 left it out
abbrev pub excluded_rightly : List Moment
excluded_rightly =
    ended_excluded 193 2
    ∷ delivered 2 2 1
    ∷ line_of (event.Next 2 1)
    ∷ sent 2 2 1 name.Promise []
    ∷ delivered 1 1 2
    ∷ line_of (event.Next 1 2)
    ∷ sent 1 1 2 name.Collect []
    ∷ attempt 193 3
    ∷ attempt 129 1
    ∷ installed 2 65
    ∷ up 2
    ∷ booted

abbrev pub attempt_rightly : List Moment
attempt_rightly = attempt 65 1 ∷ saved 1 ∷ ticked 1 ∷ line_of (event.Tick 1) ∷ booted

-- the counts of `split`, but with the device among those that are held; and with a result that nothing shows
abbrev pub miscounted : List Moment
miscounted = ended_votes 130 2 2 (record { device = 1; obstacle = lack.Seizing (end.NotRegistered tt) } ∷ []) ∷ split.alone_at_last

abbrev pub counted_one_too_few : List Moment
counted_one_too_few = ended_votes 130 0 2 (record { device = 1; obstacle = lack.Seizing (end.NotRegistered tt) } ∷ []) ∷ split.alone_at_last

abbrev pub greater_unread : List Moment
greater_unread = ended_votes 130 1 2 (record { device = 1; obstacle = lack.Seizing (end.Greater 193) } ∷ []) ∷ split.alone_at_last

abbrev pub no_path_with_a_path : List Moment
no_path_with_a_path = ended_votes 130 1 2 (record { device = 1; obstacle = lack.NoPath } ∷ []) ∷ split.alone_at_last

-- the device counts, and the votes are not too few
abbrev pub enough_votes : List Moment
enough_votes = ended_votes 130 2 2 [] ∷ split.alone_at_last

-- a device that the start does not hold, and nothing shows why
abbrev pub not_held_without_cause : List Moment
not_held_without_cause = start 65 3 0 0 ∷ attempt 65 3 ∷ booted

-- ---- downs

abbrev pub stopped_in_a_save : List Moment
stopped_in_a_save = stopped 1 ∷ ticked 1 ∷ line_of (event.Tick 1) ∷ armed ∷ crashat 1 4 New ∷ booted

abbrev pub stopped_in_the_mounting : List Moment
stopped_in_the_mounting = stopped 1 ∷ up 1 ∷ line_of (event.Boot 1) ∷ armed ∷ crashat 1 4 New ∷ []

abbrev pub stopped_unarmed : List Moment
stopped_unarmed = stopped 1 ∷ ticked 1 ∷ line_of (event.Tick 1) ∷ booted

abbrev pub stopped_too_early : List Moment
stopped_too_early = stopped 1 ∷ ticked 1 ∷ line_of (event.Tick 1) ∷ armed ∷ crashat 1 5 New ∷ booted

abbrev pub saved_past_the_stop : List Moment
saved_past_the_stop = saved 1 ∷ ticked 1 ∷ line_of (event.Tick 1) ∷ armed ∷ crashat 1 4 New ∷ booted

abbrev pub mounted_past_the_stop : List Moment
mounted_past_the_stop = line_of (event.Tick 1) ∷ up 1 ∷ line_of (event.Boot 1) ∷ armed ∷ crashat 1 4 New ∷ []

-- the stop is armed, and nothing is saved: at a Heartbeat, at a Collect of a number that node 1 promised already, or in the tick of a member
-- that has no reason for an attempt
abbrev pub armed_1 : List Moment → List Moment
armed_1 before = armed ∷ crashat 1 4 New ∷ before

abbrev pub stopped_at_a_heartbeat : List Moment
stopped_at_a_heartbeat = stopped 1 ∷ delivered 1 2 1 ∷ line_of (event.Next 2 1) ∷ armed_1 (sent 1 2 1 name.Heartbeat [] ∷ up 2 ∷ booted)

abbrev pub stopped_at_a_smaller_collect : List Moment
stopped_at_a_smaller_collect =
    stopped 1 ∷ delivered 1 2 1 ∷ line_of (event.Next 2 1) ∷ armed_1 (sent 1 2 1 name.Collect [] ∷ attempt 66 3 ∷ attempt 129 3 ∷ up 2 ∷ booted)

abbrev pub stopped_as_a_member : List Moment
stopped_as_a_member =
    stopped 1 ∷ ticked 1 ∷ line_of (event.Tick 1) ∷ delivered 1 2 1 ∷ armed_1 (sent 1 2 1 (name.Prepared 1) [] ∷ split.together)

abbrev pub panic_unfenced : List Moment
panic_unfenced = down 1 (cause.Panic (panic.Fenced 1)) ∷ ticked 1 ∷ line_of (event.Tick 1) ∷ booted

abbrev pub panic_unexcluded : List Moment
panic_unexcluded = down 1 (cause.Panic (panic.Excluded 65)) ∷ ticked 1 ∷ line_of (event.Tick 1) ∷ booted

abbrev pub crash_without_a_line : List Moment
crash_without_a_line = down 1 cause.Crash ∷ ticked 1 ∷ line_of (event.Tick 1) ∷ booted

-- ---- commands

abbrev pub told_no_member : List Moment
told_no_member = answered 1 1 reply.NotMember ∷ asked 1 1 ∷ gives 1 create_group ∷ alone_after_a_crash

abbrev pub told_no_member_rightly : List Moment
told_no_member_rightly = answered 1 1 reply.NotMember ∷ asked 1 1 ∷ gives 1 create_group ∷ booted

abbrev pub taken_by_no_member : List Moment
taken_by_no_member = asked 1 1 ∷ gives 1 create_group ∷ booted

abbrev pub numbered_twice : List Moment
numbered_twice = asked 1 1 ∷ gives 1 create_group ∷ asked 1 1 ∷ gives 1 create_group ∷ alone_after_a_crash

abbrev pub full_with_room : List Moment
full_with_room = answered 1 1 reply.QueueFull ∷ asked 1 1 ∷ gives 1 create_group ∷ alone_after_a_crash

-- ---- messages that are owed

abbrev pub prepare_answered : List Moment
prepare_answered = sent 5 2 1 (name.Prepared 1) [] ∷ saved 2 ∷ delivered 4 1 2 ∷ line_of (event.Next 1 2) ∷ messages.preparing

abbrev pub prepare_unanswered : List Moment
prepare_unanswered = saved 2 ∷ delivered 4 1 2 ∷ line_of (event.Next 1 2) ∷ messages.preparing

abbrev pub collect_unanswered : List Moment
collect_unanswered = saved 2 ∷ delivered 1 1 2 ∷ line_of (event.Next 1 2) ∷ sent 1 1 2 name.Collect [] ∷ messages.begun

abbrev pub install_sent : List Moment
install_sent =
    sent 3 1 2 name.Install []
    ∷ installed 1 65
    ∷ delivered 2 2 1
    ∷ line_of (event.Next 2 1)
    ∷ sent 2 2 1 name.Promise []
    ∷ saved 2
    ∷ delivered 1 1 2
    ∷ line_of (event.Next 1 2)
    ∷ sent 1 1 2 name.Collect []
    ∷ messages.begun

abbrev pub install_delivered : List Moment
install_delivered = saved 2 ∷ delivered 3 1 2 ∷ line_of (event.Next 1 2) ∷ install_sent

abbrev pub install_unanswered : List Moment
install_unanswered = installed 2 65 ∷ install_delivered

abbrev pub install_answered : List Moment
install_answered = sent 4 2 1 name.Ready [] ∷ installed 2 65 ∷ install_delivered

-- or the node goes down in this event
abbrev pub install_stopped : List Moment
install_stopped = stopped 2 ∷ delivered 3 1 2 ∷ line_of (event.Next 1 2) ∷ install_sent

abbrev pub proposed_to_nobody : List Moment
proposed_to_nobody = propose 65 1 create_group ∷ asked 1 1 ∷ gives 1 create_group ∷ messages.formed

abbrev pub request_unsent : List Moment
request_unsent = asked 2 1 ∷ gives 2 create_group ∷ messages.formed

abbrev pub doings_of_two : List Moment
doings_of_two = saved 2 ∷ ticked 1 ∷ line_of (event.Tick 1) ∷ messages.formed

-- four ticks after the Prepare, which lacks its answer, nothing is sent
abbrev pub prepare_not_repeated : List Moment
prepare_not_repeated = ticks 4 messages.preparing

-- in the fourth tick after it was sent, a Request without its Answer is not sent again, or is
abbrev pub requesting : List Moment
requesting = sent 4 2 1 (name.Request 1) [] ∷ asked 2 1 ∷ gives 2 create_group ∷ messages.formed

abbrev pub ticks_of_2 : ℕ → List Moment → List Moment
ticks_of_2 zero before = before
ticks_of_2 (suc k) before = ticked 2 ∷ line_of (event.Tick 2) ∷ ticks_of_2 k before

abbrev pub request_not_repeated : List Moment
request_not_repeated = ticks_of_2 4 requesting

abbrev pub request_repeated : List Moment
request_repeated = sent 5 2 1 (name.Request 1) [] ∷ ticks_of_2 4 requesting

abbrev pub request_waiting : List Moment
request_waiting = ticks_of_2 3 requesting

abbrev pub prepare_repeated : List Moment
prepare_repeated = sent 5 1 2 (name.Prepare 1) [] ∷ ticks 4 messages.preparing

-- ---- attempts that go on too long

-- eight ticks after the Collect, which lacks its answer, the attempt goes on
abbrev pub silent_and_going_on : List Moment
silent_and_going_on = ticks 8 asked_node_2

-- after seven ticks, or where the Promise came and an Install was sent since, it may
abbrev pub still_waiting : List Moment
still_waiting = ticks 7 asked_node_2

abbrev pub installing_in_time : List Moment
installing_in_time =
    ticks 4 (sent 3 1 2 name.Install [] ∷ delivered 2 2 1 ∷ sent 2 2 1 name.Promise [] ∷ delivered 1 1 2 ∷ ticks 5 asked_node_2)

abbrev pub installing_too_long : List Moment
installing_too_long =
    ticks 8 (sent 3 1 2 name.Install [] ∷ delivered 2 2 1 ∷ sent 2 2 1 name.Promise [] ∷ delivered 1 1 2 ∷ ticks 5 asked_node_2)

-- it ended in the tick before
abbrev pub ended_before : List Moment
ended_before = ticks 1 (ended_silent 65 2 ∷ ticks 8 asked_node_2)

-- or node 1 stops in this tick
abbrev pub stopped_instead : List Moment
stopped_instead = stopped 1 ∷ ticks 8 asked_node_2

-- the Promise came, and the Seized of a device that node 2 was asked to seize does not
abbrev pub seizing_asked : List Moment
seizing_asked = sent 3 1 2 (name.SeizeQuorum 1) [] ∷ delivered 2 2 1 ∷ sent 2 2 1 name.Promise [] ∷ delivered 1 1 2 ∷ ticks 5 asked_node_2

abbrev pub seizing_too_long : List Moment
seizing_too_long = ticks 8 seizing_asked

-- asking once more begins nothing anew
abbrev pub asked_once_more : List Moment
asked_once_more = ticks 4 (sent 4 1 2 (name.SeizeQuorum 1) [] ∷ ticks 4 seizing_asked)

-- the Seized came: what is awaited then is no other node's
abbrev pub seized_in_time : List Moment
seized_in_time = ticks 8 (delivered 5 2 1 ∷ sent 5 2 1 (name.Seized 1) (7 ∷ 2 ∷ long 65 ++ 1 ∷ 0 ∷ long 0 ++ 0 ∷ 1 ∷ 0 ∷ 0 ∷ 0 ∷ 42 ∷ 0 ∷ 0 ∷ 0 ∷ 2 ∷ []) ∷ delivered 3 1 2 ∷ seizing_asked)

-- the Request has its Answer
abbrev pub request_answered : List Moment
request_answered =
    ticks_of_2 1 (answered 2 1 reply.Ok ∷ delivered 5 1 2 ∷ line_of (event.Next 1 2) ∷ sent 5 1 2 (name.Answer 1) [] ∷ delivered 4 2 1 ∷ ticks_of_2 3 requesting)

-- it went down since, and came back: that attempt is over
abbrev pub down_since : List Moment
down_since = ticks 1 (up 1 ∷ line_of (event.Boot 1) ∷ down 1 cause.Crash ∷ line_of (event.Crash 1) ∷ ticks 7 asked_node_2)
