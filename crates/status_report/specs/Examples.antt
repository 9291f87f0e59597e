-- Entries, and the lines that the document of the trace wants of them, one by one.
use Rattle.std.specs.Prelude.{ℕ, true, false, List, [], ◌∷◌, Option, Some, None, codes}
use Rattle.cl_base.specs.declared.method.Method.TheVariants as method
use Rattle.cl_base.specs.declared.method.Outcome.TheVariants.{Success, Failure, Timeout}
use Rattle.cl_base.specs.declared.packet.DropCause.TheVariants as dropped
use Rattle.cl_base.specs.declared.packet.MessageKind.{MessageKind}
use Rattle.cl_base.specs.declared.packet.MessageKind.TheVariants as message
use Rattle.cl_base.specs.declared.panic.Panic.TheVariants as panic
use Rattle.cl_base.specs.declared.reason.Reason.TheVariants as reason
use Rattle.cl_base.specs.declared.refusal.Refusal.TheVariants as refusal
use Rattle.cl_base.specs.declared.refusal.Thing.TheVariants.{Named, Numbered}
use Rattle.cl_base.specs.declared.seizing.Lack.{Lack}
use Rattle.cl_base.specs.declared.seizing.Obstacle.{Obstacle}
use Rattle.cl_base.specs.declared.seizing.Obstacle.TheVariants.{NoPath, Seizing}
use Rattle.cl_base.specs.declared.seizing.SeizeEnd.TheVariants as seized
use Rattle.cl_base.specs.declared.state.GroupState.TheVariants as group
use Rattle.cl_base.specs.declared.state.ResourceState.TheVariants as resource
use Rattle.pgr_device.specs.declared.command.PrAnswer.TheVariants as given
use Rattle.pgr_device.specs.declared.command.PrCommand.TheVariants as command
use Rattle.pgr_device.specs.declared.kind.PrKind.TheVariants.{WriteExclusive, ExclusiveAccess, WriteExclusiveRegistrantsOnly, ExclusiveAccessRegistrantsOnly}
use Rattle.status_report.specs.declared.address_entry.AddressEntry.TheVariants as address
use Rattle.status_report.specs.declared.attempt_entry.AttemptEntry.TheVariants as attempt
use Rattle.status_report.specs.declared.call_entry.CallEntry.TheVariants as call
use Rattle.status_report.specs.declared.call_entry.ProbeResult.TheVariants as probe
use Rattle.status_report.specs.declared.command_entry.Answer.TheVariants as answer
use Rattle.status_report.specs.declared.command_entry.CommandEntry.TheVariants as asking
use Rattle.status_report.specs.declared.device_entry.DeviceAnswer.TheVariants.{Given, Failed}
use Rattle.status_report.specs.declared.device_entry.DeviceEntry.TheVariants as device
use Rattle.status_report.specs.declared.device_entry.WriteRefusal.TheVariants as refused
use Rattle.status_report.specs.declared.entry.Entry.{Entry}
use Rattle.status_report.specs.declared.entry.Entry.TheVariants as entry
use Rattle.status_report.specs.declared.node_entry.DownCause.TheVariants as down
use Rattle.status_report.specs.declared.node_entry.NodeEntry.TheVariants as node
use Rattle.status_report.specs.declared.packet_entry.PacketEntry.TheVariants as packet
use Rattle.status_report.specs.declared.schedule_entry.ScheduleEntry.TheVariants as schedule
use Rattle.status_report.specs.declared.schedule_entry.SkipCause.TheVariants as skip
use Rattle.status_report.specs.declared.start_entry.StartEntry.TheVariants as start
use Rattle.status_report.specs.declared.status_entry.QuorumState.TheVariants.{Held, Lost, Off}
use Rattle.status_report.specs.declared.status_entry.StatusEntry.TheVariants as status
use Rattle.status_report.specs.declared.status_entry.TableLine.TheVariants as table
use Rattle.status_report.specs.declared.update_entry.UpdateEntry.TheVariants as update

abbrev lack : ℕ → Obstacle → Lack
lack number obstacle = record { device = number; obstacle = obstacle }

abbrev sent : MessageKind → Option ℕ → Entry
sent kind number = entry.Packet (packet.Sent 7 1 2 (record { kind = kind; number = number }) (1 ∷ 171 ∷ []))

-- what a node tells of itself
abbrev pub nodes : List (Entry × List ℕ)
nodes =
    (entry.Node 2 node.Up, codes "up 2")
    ∷ (entry.Node 2 (node.Down down.Crash), codes "down 2 crash")
    ∷ (entry.Node 2 (node.Down down.Stopped), codes "down 2 stopped")
    ∷ (entry.Node 2 (node.Down (down.Panic (panic.Fenced 1))), codes "down 2 panic fenced 1")
    ∷ (entry.Node 2 (node.Down (down.Panic (panic.Excluded 65))), codes "down 2 panic excluded 65")
    ∷ (entry.Node 2 (node.Down (down.Panic panic.Disk)), codes "down 2 panic disk")
    ∷ (entry.Node 2 (node.Down (down.Panic (panic.Stop (codes "db-1")))), codes "down 2 panic stop db-1")
    ∷ (entry.Node 2 node.Ticked, codes "ticked 2")
    ∷ (entry.Node 2 node.Saved, codes "saved 2")
    ∷ (entry.Node 2 (node.Installed 65), codes "installed 2 65")
    ∷ (entry.Node 2 (node.Member 65), codes "member 2 65") ∷ []

-- packets
abbrev pub packets : List (Entry × List ℕ)
packets =
    (sent message.Heartbeat None, codes "sent 7 1 2 Heartbeat 01ab")
    ∷ (sent message.Collect None, codes "sent 7 1 2 Collect 01ab")
    ∷ (sent message.Promise None, codes "sent 7 1 2 Promise 01ab")
    ∷ (sent message.Nack None, codes "sent 7 1 2 Nack 01ab")
    ∷ (sent message.SeizeQuorum (Some 3), codes "sent 7 1 2 SeizeQuorum 3 01ab")
    ∷ (sent message.SeizeData (Some 3), codes "sent 7 1 2 SeizeData 3 01ab")
    ∷ (sent message.Seized (Some 3), codes "sent 7 1 2 Seized 3 01ab")
    ∷ (sent message.Install None, codes "sent 7 1 2 Install 01ab")
    ∷ (sent message.Ready None, codes "sent 7 1 2 Ready 01ab")
    ∷ (sent message.Start None, codes "sent 7 1 2 Start 01ab")
    ∷ (sent message.Prepare (Some 4), codes "sent 7 1 2 Prepare 4 01ab")
    ∷ (sent message.Prepared (Some 4), codes "sent 7 1 2 Prepared 4 01ab")
    ∷ (sent message.Commit (Some 4), codes "sent 7 1 2 Commit 4 01ab")
    ∷ (sent message.Order (Some 5), codes "sent 7 1 2 Order 5 01ab")
    ∷ (sent message.Done (Some 5), codes "sent 7 1 2 Done 5 01ab")
    ∷ (sent message.Request (Some 6), codes "sent 7 1 2 Request 6 01ab")
    ∷ (sent message.Answer (Some 6), codes "sent 7 1 2 Answer 6 01ab")
    ∷ (sent message.Excluded None, codes "sent 7 1 2 Excluded 01ab")
    ∷ (entry.Packet (packet.Delivered 7 1 2), codes "delivered 7 1 2")
    ∷ (entry.Packet (packet.Lost 7), codes "lost 7")
    ∷ (entry.Packet (packet.Repeated 7 8), codes "repeated 7 8")
    ∷ (entry.Packet (packet.Dropped 7 dropped.Link), codes "dropped 7 link")
    ∷ (entry.Packet (packet.Dropped 7 dropped.Pool), codes "dropped 7 pool")
    ∷ (entry.Packet (packet.Dropped 7 dropped.Down), codes "dropped 7 down") ∷ []

-- devices
abbrev pub devices : List (Entry × List ℕ)
devices =
    (entry.Device (device.Command 1 2 (command.Register 0 180388626433) (Given given.Good)), codes "device 1 2 register 0 2a00000001 = good")
    ∷ (entry.Device (device.Command 1 2 (command.Ignore 180388626433) (Given given.Good)), codes "device 1 2 ignore 2a00000001 = good")
    ∷ (entry.Device (device.Command 1 2 (command.Reserve WriteExclusiveRegistrantsOnly 180388626433) (Given given.Good)), codes "device 1 2 reserve 5 2a00000001 = good")
    ∷ (entry.Device (device.Command 1 2 (command.Release ExclusiveAccessRegistrantsOnly 180388626433) (Given given.Good)), codes "device 1 2 release 6 2a00000001 = good")
    ∷ (entry.Device (device.Command 1 2 (command.Clear 180388626433) (Given given.Good)), codes "device 1 2 clear 2a00000001 = good")
    ∷ (entry.Device (device.Command 1 2 (command.Preempt WriteExclusive 180388626433 11) (Given given.Good)), codes "device 1 2 preempt 1 2a00000001 b = good")
    ∷ (entry.Device (device.Command 1 2 command.Keys (Given given.Good)), codes "device 1 2 keys = good")
    ∷ (entry.Device (device.Command 1 2 command.Holder (Given given.Good)), codes "device 1 2 holder = good")
    ∷ (entry.Device (device.Command 1 2 command.Read (Given given.Good)), codes "device 1 2 read = good")
    ∷ (entry.Device (device.Command 1 2 (command.Write 7) (Given given.Good)), codes "device 1 2 write 7 = good")
    ∷ (entry.Device (device.Command 1 2 command.Word (Given given.Good)), codes "device 1 2 word = good")
    ∷ (entry.Device (device.Command 1 2 (command.Swap 65 129) (Given given.Good)), codes "device 1 2 swap 65 129 = good")
    ∷ (entry.Device (device.Command 1 2 command.Keys Failed), codes "device 1 2 keys = failed")
    ∷ (entry.Device (device.Command 1 2 command.Keys (Given (given.Keys (161 ∷ 178 ∷ [])))), codes "device 1 2 keys = keys a1 b2")
    ∷ (entry.Device (device.Accepted 65 1 1 7), codes "write 65 1 1 7 accepted")
    ∷ (entry.Device (device.Refused 2 1 5 refused.NotMember), codes "write 2 1 5 refused not-member")
    ∷ (entry.Device (device.Refused 2 1 5 refused.NoPath), codes "write 2 1 5 refused no-path")
    ∷ (entry.Device (device.Refused 2 1 5 refused.NotHeld), codes "write 2 1 5 refused not-held")
    ∷ (entry.Device (device.Refused 2 1 5 refused.Fenced), codes "write 2 1 5 refused fenced")
    ∷ (entry.Device (device.Refused 2 1 5 refused.Fault), codes "write 2 1 5 refused fault")
    ∷ (entry.Answered given.Good, codes "good")
    ∷ (entry.Answered given.Conflict, codes "conflict")
    ∷ (entry.Answered given.InvalidRelease, codes "invalid-release")
    ∷ (entry.Answered given.NoPath, codes "no-path")
    ∷ (entry.Answered (given.Keys []), codes "keys none")
    ∷ (entry.Answered (given.Keys (161 ∷ 178 ∷ [])), codes "keys a1 b2")
    ∷ (entry.Answered (given.Holder None), codes "reservation none")
    ∷ (entry.Answered (given.Holder (Some (161, ExclusiveAccess))), codes "reservation a1 3")
    ∷ (entry.Answered (given.Word 65), codes "word 65")
    ∷ (entry.Answered (given.Value 7), codes "data 7")
    ∷ (entry.Answered (given.Miscompare 65), codes "miscompare 65")
    ∷ (entry.Powered, codes "powered") ∷ []

-- memberships and updates
abbrev pub memberships : List (Entry × List ℕ)
memberships =
    (entry.Attempt (attempt.Begun 130 2147484161), codes "attempt 130 1,10,32")
    ∷ (entry.Attempt (attempt.Superseded 130 193), codes "ended 130 superseded 193")
    ∷ (entry.Attempt (attempt.Silent 130 3), codes "ended 130 silent 3")
    ∷ (entry.Attempt (attempt.Excluded 130 2), codes "ended 130 excluded 2")
    ∷ (entry.Attempt (attempt.Foreign 130 3), codes "ended 130 foreign 3")
    ∷ (entry.Attempt (attempt.Votes 130 1 2 []), codes "ended 130 votes 1 2 none")
    ∷ (entry.Attempt (attempt.Votes 130 1 2 (lack 1 NoPath ∷ [])), codes "ended 130 votes 1 2 1:no-path")
    ∷ (entry.Attempt (attempt.Votes 130 1 2 (lack 2 (Seizing (seized.NotRegistered tt)) ∷ lack 3 (Seizing (seized.Greater 193)) ∷ [])), codes "ended 130 votes 1 2 2:not-registered 3:greater-193")
    ∷ (entry.Attempt (attempt.Votes 130 1 2 (lack 4 (Seizing seized.Expelled) ∷ lack 15 (Seizing (seized.Contended 180388626434)) ∷ lack 16 (Seizing seized.Fault) ∷ [])), codes "ended 130 votes 1 2 4:expelled 15:contended-2a00000002 16:fault")
    ∷ (entry.Start (start.Started 65 3 0 0), codes "start 65 1,2 held none base 0")
    ∷ (entry.Start (start.Started 65 3 32769 2), codes "start 65 1,2 held 1,16 base 2")
    ∷ (entry.Start (start.Base 65 1 (codes "clrg create g 1,2")), codes "base 65 1 clrg create g 1,2")
    ∷ (entry.Start (start.Adopted 65 2 (codes "a") (record { pre = true; run = true; mon = true; faulted = true; stop_failed = true })), codes "adopt 65 2 a prmfs")
    ∷ (entry.Start (start.Adopted 65 2 (codes "a") (record { pre = false; run = true; mon = true; faulted = false; stop_failed = false })), codes "adopt 65 2 a rm")
    ∷ (entry.Update (update.Proposed 65 8 (codes "clrg switch g 2")), codes "propose 65 8 clrg switch g 2")
    ∷ (entry.Update (update.Acknowledged 65 8 (codes "clrg switch g 2")), codes "ack 65 8 clrg switch g 2") ∷ []

-- calls of methods, and answers to commands
abbrev pub calls_and_answers : List (Entry × List ℕ)
calls_and_answers =
    (entry.Call (call.Called 65 1 method.PrenetStart (codes "a")), codes "call 65 1 PRENET_START a")
    ∷ (entry.Call (call.Called 65 1 method.Start (codes "a")), codes "call 65 1 START a")
    ∷ (entry.Call (call.Called 65 1 method.MonitorStart (codes "a")), codes "call 65 1 MONITOR_START a")
    ∷ (entry.Call (call.Called 65 1 method.MonitorCheck (codes "a")), codes "call 65 1 MONITOR_CHECK a")
    ∷ (entry.Call (call.Called 65 1 method.MonitorStop (codes "a")), codes "call 65 1 MONITOR_STOP a")
    ∷ (entry.Call (call.Called 65 1 method.Stop (codes "a")), codes "call 65 1 STOP a")
    ∷ (entry.Call (call.Called 65 1 method.PostnetStop (codes "a")), codes "call 65 1 POSTNET_STOP a")
    ∷ (entry.Call (call.Called 65 1 method.Validate (codes "a")), codes "call 65 1 VALIDATE a")
    ∷ (entry.Call (call.Called 65 1 method.Init (codes "a")), codes "call 65 1 INIT a")
    ∷ (entry.Call (call.Called 65 1 method.Fini (codes "a")), codes "call 65 1 FINI a")
    ∷ (entry.Call (call.Called 65 1 method.Boot (codes "a")), codes "call 65 1 BOOT a")
    ∷ (entry.Call (call.Called 65 1 method.Update (codes "a")), codes "call 65 1 UPDATE a")
    ∷ (entry.Call (call.Done 65 1 method.Stop (codes "a") Success), codes "done 65 1 STOP a success")
    ∷ (entry.Call (call.Done 65 1 method.Stop (codes "a") Failure), codes "done 65 1 STOP a failure")
    ∷ (entry.Call (call.Done 65 1 method.Stop (codes "a") Timeout), codes "done 65 1 STOP a timeout")
    ∷ (entry.Call (call.Probed 2 (codes "a") probe.Ok), codes "probe 2 a ok")
    ∷ (entry.Call (call.Probed 2 (codes "a") probe.Restart), codes "probe 2 a restart")
    ∷ (entry.Call (call.Probed 2 (codes "a") probe.Move), codes "probe 2 a move")
    ∷ (entry.Call (call.Probed 2 (codes "a") probe.Logged), codes "probe 2 a logged")
    ∷ (entry.Command (asking.Asked 1 9), codes "asked 1 9")
    ∷ (entry.Command (asking.Answered 1 9 answer.Ok), codes "answer 1 9 ok")
    ∷ (entry.Command (asking.Answered 1 9 answer.Unknown), codes "answer 1 9 unknown")
    ∷ (entry.Command (asking.Answered 1 9 answer.UnknownCommand), codes "answer 1 9 refused unknown-command")
    ∷ (entry.Command (asking.Answered 1 9 answer.MissingOperand), codes "answer 1 9 refused missing-operand")
    ∷ (entry.Command (asking.Answered 1 9 answer.BadValue), codes "answer 1 9 refused bad-value")
    ∷ (entry.Command (asking.Answered 1 9 answer.NotMember), codes "answer 1 9 refused not-member")
    ∷ (entry.Command (asking.Answered 1 9 (answer.Ask 2)), codes "answer 1 9 refused ask 2")
    ∷ (entry.Command (asking.Answered 1 9 answer.QueueFull), codes "answer 1 9 refused queue-full")
    ∷ (entry.Command (asking.Answered 1 9 (answer.Refused (refusal.Unknown (Named (codes "g"))))), codes "answer 1 9 refused unknown g")
    ∷ (entry.Command (asking.Answered 1 9 (answer.Refused (refusal.Unknown (Numbered 1)))), codes "answer 1 9 refused unknown 1")
    ∷ (entry.Command (asking.Answered 1 9 (answer.Refused refusal.Exists)), codes "answer 1 9 refused exists")
    ∷ (entry.Command (asking.Answered 1 9 (answer.Refused (refusal.InUse (codes "g")))), codes "answer 1 9 refused in-use g")
    ∷ (entry.Command (asking.Answered 1 9 (answer.Refused refusal.Managed)), codes "answer 1 9 refused managed")
    ∷ (entry.Command (asking.Answered 1 9 (answer.Refused refusal.Unmanaged)), codes "answer 1 9 refused unmanaged")
    ∷ (entry.Command (asking.Answered 1 9 (answer.Refused refusal.SameValue)), codes "answer 1 9 refused same-value")
    ∷ (entry.Command (asking.Answered 1 9 (answer.Refused (refusal.NotListed 3))), codes "answer 1 9 refused not-listed 3")
    ∷ (entry.Command (asking.Answered 1 9 (answer.Refused refusal.TooMany)), codes "answer 1 9 refused too-many")
    ∷ (entry.Command (asking.Answered 1 9 (answer.Refused refusal.BadProperty)), codes "answer 1 9 refused bad-property")
    ∷ (entry.Command (asking.Answered 1 9 (answer.Refused refusal.BadSetting)), codes "answer 1 9 refused bad-setting")
    ∷ (entry.Command (asking.Answered 1 9 (answer.Refused refusal.StillUp)), codes "answer 1 9 refused still-up")
    ∷ (entry.Command (asking.Answered 1 9 (answer.Refused (refusal.Cycle (codes "g" ∷ codes "h2" ∷ [])))), codes "answer 1 9 refused cycle g,h2")
    ∷ (entry.Command (asking.Answered 1 9 (answer.Refused refusal.Single)), codes "answer 1 9 refused single")
    ∷ (entry.Command (asking.Answered 1 9 (answer.Refused refusal.NoMark)), codes "answer 1 9 refused no-mark")
    ∷ (entry.Command (asking.Answered 1 9 (answer.Refused refusal.NodeIsMember)), codes "answer 1 9 refused node-is-member")
    ∷ (entry.Command (asking.Answered 1 9 (answer.Refused refusal.DeviceNotHeld)), codes "answer 1 9 refused device-not-held")
    ∷ (entry.Command (asking.Answered 1 9 (answer.Refused (refusal.LoseQuorum 1 2))), codes "answer 1 9 refused lose-quorum 1 2")
    ∷ (entry.Command (asking.Answered 1 9 (answer.Refused (refusal.RecordFull 65537))), codes "answer 1 9 refused record-full 65537")
    ∷ (entry.Command (asking.Answered 1 9 (answer.Refused refusal.NodeHasVote)), codes "answer 1 9 refused node-has-vote") ∷ []

-- answers to questions
abbrev pub statuses : List (Entry × List ℕ)
statuses =
    (entry.Status (status.Group (codes "g") 2 group.Unmanaged), codes "rg g 2 UNMANAGED")
    ∷ (entry.Status (status.Group (codes "g") 2 group.ErrorStopFailed), codes "rg g 2 ERROR_STOP_FAILED")
    ∷ (entry.Status (status.Group (codes "g") 2 group.OnlineFaulted), codes "rg g 2 ONLINE_FAULTED")
    ∷ (entry.Status (status.Group (codes "g") 2 group.Online), codes "rg g 2 ONLINE")
    ∷ (entry.Status (status.Group (codes "g") 2 group.PendingOnline), codes "rg g 2 PENDING_ONLINE")
    ∷ (entry.Status (status.Group (codes "g") 2 group.PendingOnlineBlocked), codes "rg g 2 PENDING_ONLINE_BLOCKED")
    ∷ (entry.Status (status.Group (codes "g") 2 group.PendingOffline), codes "rg g 2 PENDING_OFFLINE")
    ∷ (entry.Status (status.Group (codes "g") 2 group.Offline), codes "rg g 2 OFFLINE")
    ∷ (entry.Status (status.Resource (codes "a") 1 resource.StopFailed), codes "rs a 1 STOP_FAILED")
    ∷ (entry.Status (status.Resource (codes "a") 1 resource.StartFailed), codes "rs a 1 START_FAILED")
    ∷ (entry.Status (status.Resource (codes "a") 1 resource.Online), codes "rs a 1 ONLINE")
    ∷ (entry.Status (status.Resource (codes "a") 1 resource.Starting), codes "rs a 1 STARTING")
    ∷ (entry.Status (status.Resource (codes "a") 1 resource.Offline), codes "rs a 1 OFFLINE")
    ∷ (entry.Status (status.Why (codes "g") 2 reason.Unmanaged), codes "why g 2 unmanaged")
    ∷ (entry.Status (status.Why (codes "g") 2 reason.Offline), codes "why g 2 offline")
    ∷ (entry.Status (status.Why (codes "g") 2 reason.Suspended), codes "why g 2 suspended")
    ∷ (entry.Status (status.Why (codes "g") 2 reason.Empty), codes "why g 2 empty")
    ∷ (entry.Status (status.Why (codes "g") 2 reason.NotMember), codes "why g 2 not-member")
    ∷ (entry.Status (status.Why (codes "g") 2 reason.StopFailed), codes "why g 2 stop-failed")
    ∷ (entry.Status (status.Why (codes "g") 2 reason.Evacuated), codes "why g 2 evacuated")
    ∷ (entry.Status (status.Why (codes "g") 2 reason.StartFailed), codes "why g 2 start-failed")
    ∷ (entry.Status (status.Why (codes "g") 2 reason.Moved), codes "why g 2 moved")
    ∷ (entry.Status (status.Why (codes "g") 2 reason.Leaving), codes "why g 2 leaving")
    ∷ (entry.Status (status.Why (codes "g") 2 (reason.Affinity (codes "x"))), codes "why g 2 affinity x")
    ∷ (entry.Status (status.Why (codes "g") 2 (reason.Dependency (codes "x"))), codes "why g 2 dependency x")
    ∷ (entry.Status (status.Why (codes "g") 2 (reason.Load (codes "x"))), codes "why g 2 load x")
    ∷ (entry.Status (status.Why (codes "g") 2 (reason.Faulted (codes "x"))), codes "why g 2 faulted x")
    ∷ (entry.Status (status.Why (codes "g") 2 (reason.Blocked (codes "x"))), codes "why g 2 blocked x")
    ∷ (entry.Status (status.QuorumVotes 3 2), codes "quorum votes 3 need 2")
    ∷ (entry.Status (status.QuorumNode 1 1 true), codes "quorum node 1 1 member")
    ∷ (entry.Status (status.QuorumNode 2 0 false), codes "quorum node 2 0 absent")
    ∷ (entry.Status (status.QuorumDevice 1 1 Held), codes "quorum device 1 1 held")
    ∷ (entry.Status (status.QuorumDevice 2 3 Lost), codes "quorum device 2 3 lost")
    ∷ (entry.Status (status.QuorumDevice 16 0 Off), codes "quorum device 16 0 off")
    ∷ (entry.Status (status.Table (table.Generation 0)), codes "table ccr_gennum 0")
    ∷ (entry.Status (status.Table (table.Checksum (227 ∷ 176 ∷ 196 ∷ 66 ∷ 152 ∷ 252 ∷ 28 ∷ 20 ∷ 154 ∷ 251 ∷ 244 ∷ 200 ∷ 153 ∷ 111 ∷ 185 ∷ 36 ∷ 39 ∷ 174 ∷ 65 ∷ 228 ∷ 100 ∷ 155 ∷ 147 ∷ 76 ∷ 164 ∷ 149 ∷ 153 ∷ 27 ∷ 120 ∷ 82 ∷ 184 ∷ 85 ∷ []))), codes "table ccr_checksum e3b0c44298fc1c149afbf4c8996fb92427ae41e4649b934ca495991b7852b855") ∷ []

-- shared addresses, and lines that no node answers
abbrev pub others : List (Entry × List ℕ)
others =
    (entry.Address (address.Served (codes "web") 10 80 (Some 2)), codes "served web 10 80 2")
    ∷ (entry.Address (address.Served (codes "web") 10 80 None), codes "served web 10 80 none")
    ∷ (entry.Address (address.Forgot (codes "web") 7 80), codes "forgot web 7 80")
    ∷ (entry.Schedule (schedule.Clock 3600), codes "clock 3600")
    ∷ (entry.Schedule schedule.Queued, codes "queued")
    ∷ (entry.Schedule schedule.Armed, codes "armed")
    ∷ (entry.Schedule schedule.RoundsDone, codes "rounds done")
    ∷ (entry.Schedule (schedule.Skipped skip.Up), codes "skipped up")
    ∷ (entry.Schedule (schedule.Skipped skip.Down), codes "skipped down")
    ∷ (entry.Schedule (schedule.Skipped skip.NoPacket), codes "skipped no-packet")
    ∷ (entry.Schedule (schedule.Skipped skip.NoWork), codes "skipped no-work")
    ∷ (entry.Schedule (schedule.Skipped skip.NoMonitor), codes "skipped no-monitor")
    ∷ (entry.Schedule (schedule.Skipped skip.NoPresident), codes "skipped no-president")
    ∷ (entry.Schedule (schedule.Skipped skip.NoAddress), codes "skipped no-address") ∷ []
