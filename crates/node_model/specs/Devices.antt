-- What a node does at devices. The devices' answers come from outside.
use Rattle.std.specs.Prelude.{ℕ, ◌==◌, Option, None, Some, Result, Ok, Err, if◌then◌else◌}
use Rattle.cl_base.specs.Sets.{has, set_without}
use Rattle.cl_base.specs.Seizings.{SeizeResult}
use Rattle.cl_base.specs.declared.panic.Panic.TheVariants as panic
use Rattle.cmm_attempt.specs.Attempts.{AttemptState, own_answering}
use Rattle.cmm_member.specs.Nodes.{with_valid, with_joined}
use Rattle.device_queue.specs.declared.progress.Progress.{Progress}
use Rattle.device_queue.specs.declared.progress.Progress.TheVariants.{GoesOn, Seized, Joined}
use Rattle.device_queue.specs.Queue.{after_answer, begins_plainly, due_device, next_of, progress_after}
use Rattle.pgr_device.specs.declared.command.PrAnswer.TheVariants as given
use Rattle.pgr_device.specs.declared.command.PrCommand.{PrCommand}
use Rattle.pgr_device.specs.declared.command.PrCommand.TheVariants as command
use Rattle.seize.specs.Answers.{Answer}
use Rattle.seize.specs.declared.kind.JoinResult.{JoinResult}
use Rattle.seize.specs.declared.kind.JoinResult.TheVariants as join
use Rattle.status_report.specs.declared.device_entry.DeviceAnswer.{DeviceAnswer}
use Rattle.status_report.specs.declared.device_entry.DeviceAnswer.TheVariants.{Given, Failed}
use Rattle.status_report.specs.declared.device_entry.DeviceEntry.TheVariants as device
use Rattle.status_report.specs.declared.device_entry.WriteRefusal.{WriteRefusal}
use Rattle.status_report.specs.declared.device_entry.WriteRefusal.TheVariants.{NotMember, NoPath, NotHeld, Fenced, Fault}
use Rattle.status_report.specs.declared.entry.Entry.{Entry}
use Rattle.status_report.specs.declared.entry.Entry.TheVariants as entry
use Rattle.status_report.specs.declared.node_entry.DownCause.TheVariants as down
use Rattle.wire.specs.declared.message.Body.TheVariants as body
use Rattle.node_model.specs.declared.cluster.Cluster.{Cluster}
use Rattle.node_model.specs.declared.node.UpNode.{UpNode}
use Rattle.node_model.specs.declared.seat.Seat.{Seat}
use Rattle.node_model.specs.declared.seat.Seat.TheVariants.{Forming, Member}
use Rattle.node_model.specs.Attempts.{going_on, own_ready}
use Rattle.node_model.specs.Clusters.{has_path}
use Rattle.node_model.specs.Entries.{answering, keeping, telling}
use Rattle.node_model.specs.Members.{readying}
use Rattle.node_model.specs.Plans.{Plan}
use Rattle.node_model.specs.Plans.Plan.{Stays, Falls}
use Rattle.node_model.specs.Seats.{coordinator_of, record_of, seen, session_of, state_of, with_node}

-- Before a plain seizing registers the node's key, the record says that the key there is not validated.

abbrev pub distrusting : UpNode → ℕ → UpNode
distrusting x d = with_node x (with_valid (state_of x.seat) (set_without (record_of x).valid d))

abbrev pub distrusting_at : ℕ → UpNode → Option ℕ → Plan
distrusting_at me x None = Stays x
distrusting_at me x (Some d) = if has (record_of x).valid d then keeping me (distrusting x d) (Stays (distrusting x d)) else Stays x

abbrev pub before_command : ℕ → UpNode → Plan
before_command me x = distrusting_at me x (begins_plainly x.tasks)

-- Words that are read are seen.
abbrev pub word_in : Answer → ℕ
word_in (Ok (given.Word w)) = w
word_in (Ok (given.Miscompare w)) = w
word_in _ = 0

abbrev pub answer_told : Answer → DeviceAnswer
answer_told (Ok a) = Given a
answer_told (Err e) = Failed

-- A seizing has ended: the coordinator's own goes to its attempt, another's to the coordinator.

abbrev pub own_seized : Cluster → ℕ → UpNode → ℕ → SeizeResult → Option AttemptState → Plan
own_seized c me x d result None = Stays x
own_seized c me x d result (Some a) = going_on c me x (own_answering a d result)

abbrev pub seized_for : Cluster → ℕ → UpNode → ℕ → SeizeResult → Option ℕ → Plan
seized_for c me x d result None = Stays x
seized_for c me x d result (Some coordinator) =
    if coordinator == me then own_seized c me x d result x.attempt
    else answering coordinator (body.Seized (session_of x) d result) x

abbrev pub seized_here : Cluster → ℕ → UpNode → ℕ → SeizeResult → Plan
seized_here c me x d result = seized_for c me x d result (coordinator_of x)

-- A joining has ended. With the last one the coordinator's own part is done, or a member is ready.

abbrev pub joined_for : Cluster → ℕ → UpNode → Option ℕ → Plan
joined_for c me x None = Stays x
joined_for c me x (Some coordinator) = if coordinator == me then own_ready c me x else readying c x coordinator

abbrev pub joined_all : Cluster → ℕ → UpNode → Plan
joined_all c me x = joined_for c me x (coordinator_of x)

abbrev pub joining_so : UpNode → ℕ → UpNode
joining_so x d = with_node x (with_joined (state_of x.seat) d)

abbrev pub joined_here : Cluster → ℕ → UpNode → ℕ → JoinResult → Plan
joined_here c me x d join.Joined = keeping me (joining_so x d) (joined_all c me (joining_so x d))
joined_here c me x d (join.Late w) = joined_all c me x
joined_here c me x d join.Fault = joined_all c me x

abbrev pub on_progress : Cluster → ℕ → UpNode → Progress → Plan
on_progress c me x GoesOn = Stays x
on_progress c me x (Seized d result) = seized_here c me x d result
on_progress c me x (Joined d result) = joined_here c me x d result

-- The command that was due is answered so.
abbrev pub answered_with : Cluster → ℕ → UpNode → Answer → Option ℕ → Option PrCommand → Plan
answered_with c me x a (Some d) (Some command) =
    telling (entry.Device (device.Command me d command (answer_told a))) (on_progress c me (seen (record x { tasks = after_answer x.tasks a }) (word_in a)) (progress_after x.tasks a))
answered_with c me x a None command = Stays x
answered_with c me x a (Some d) None = Stays x

abbrev pub on_answer_of_device : Cluster → ℕ → UpNode → Answer → Plan
on_answer_of_device c me x a = answered_with c me x a (due_device x.tasks) (next_of x.tasks)

-- A write.

abbrev pub may_write_as : Cluster → ℕ → ℕ → Seat → Result ℕ WriteRefusal
may_write_as c me d (Forming s) = Err NotMember
may_write_as c me d (Member s) = if has_path c.attached me d then (if has s.joined d then Ok s.session else Err NotHeld) else Err NoPath

abbrev pub write_told : ℕ → ℕ → ℕ → Answer → Entry
write_told me d value a = entry.Device (device.Command me d (command.Write value) (answer_told a))

abbrev pub write_ended : ℕ → UpNode → ℕ → ℕ → Answer → Plan
write_ended me x d value (Ok given.Good) = telling (entry.Device (device.Accepted (session_of x) me d value)) (Stays x)
write_ended me x d value (Ok given.Conflict) = telling (entry.Device (device.Refused me d value Fenced)) (Falls (down.Panic (panic.Fenced d)))
write_ended me x d value _ = telling (entry.Device (device.Refused me d value Fault)) (Stays x)

-- the device's answer to a write, and what the write comes to: a node that is refused is fenced
abbrev pub wrote : ℕ → UpNode → ℕ → ℕ → Answer → Plan
wrote me x d value a = telling (write_told me d value a) (write_ended me x d value a)
