-- A node tells nothing of packets, so what came in its event stays what came.
use Rattle.std.specs.Prelude.{ℕ, ◌≡◌, List, [], ◌∷◌, Option, None, Some}
use Rattle.std.specs.List.{AllByRecursion}
use Rattle.std.proofs.Common.{refl, sym, subst}
use Rattle.cl_base.specs.declared.packet.DropCause.{DropCause}
use Rattle.cl_base.specs.declared.method.Outcome as method
use Rattle.cmm_attempt.proofs.Basics.{if_either}
use Rattle.history.specs.Letters.{arrived}
use Rattle.history.specs.Moment.{Moment, Told}
use Rattle.interconnect.specs.Links as net
use Rattle.interconnect.specs.Links.{sending}
use Rattle.node_model.specs.declared.cluster.Cluster.{Cluster}
use Rattle.node_model.specs.declared.input.Input.{Input}
use Rattle.node_model.specs.declared.input.Input.TheVariants as input
use Rattle.node_model.specs.declared.node.Node.{Node}
use Rattle.node_model.specs.declared.node.Node.TheVariants.{Down, Up}
use Rattle.node_model.specs.declared.node.UpNode.{UpNode}
use Rattle.node_model.specs.declared.output.Output.{Output}
use Rattle.node_model.specs.declared.output.Output.TheVariants.{Sends, Tells}
use Rattle.node_model.specs.Steps.{stepped}
use Rattle.pgr_device.specs.declared.command.PrCommand.{PrCommand}
use Rattle.pgr_device.specs.declared.command.PrCommand.TheVariants as command
use Rattle.record_disk.specs.Disks.{DiskState}
use Rattle.refinement.specs.Steps.{disk_rules}
use Rattle.seize.specs.Answers.{Answer}
use Rattle.status_report.specs.declared.entry.Entry.{Entry}
use Rattle.status_report.specs.declared.entry.Entry.TheVariants as entry
use Rattle.status_report.specs.declared.packet_entry.PacketEntry.TheVariants as packet
use Rattle.wire.specs.Spelling.{spelling}
use Rattle.wire.specs.declared.message.Message.{Message}
use Rattle.world_model.specs.Devices.{due_of}
use Rattle.world_model.specs.Sends.{is_sent, name_of}
use Rattle.run_history.specs.CommandLines.{AllQuiet, CommandFirst, IsQuiet, NodeTells, TellsDue, UpTells}
use Rattle.run_history.specs.Scenes.{Scene, dropped_so, posting, sent_as, telling, with_links}
use Rattle.run_history.proofs.LineSteps.{commands_are_told}
use Rattle.run_history.proofs.Links.{NotPacket}

abbrev pub IsNoPacket : Output → Type 0
IsNoPacket (Tells e) = NotPacket e
IsNoPacket (Sends to b) = Unit {0}

quiet_entry : (e : Entry) → IsQuiet e → NotPacket e
quiet_entry (entry.Packet e) q = absurd q
quiet_entry _ q = tt

quiet_outputs : (os : List Output) → AllQuiet os → AllByRecursion IsNoPacket os
quiet_outputs [] h = tt
quiet_outputs (Tells e ∷ os) h = (quiet_entry e h.0, quiet_outputs os h.1)
quiet_outputs (Sends to b ∷ os) h = (tt, quiet_outputs os h.1)

command_outputs : (n d : ℕ) (k : PrCommand) (a : Answer) (os : List Output) → CommandFirst n d k a os → AllByRecursion IsNoPacket os
command_outputs n d k a os h = subst (AllByRecursion IsNoPacket) (sym h.first) (tt, quiet_outputs h.others h.quiet)

due_outputs : (n : ℕ) (a : Answer) (o : Option (ℕ × PrCommand)) (os : List Output) → TellsDue n a o os → AllByRecursion IsNoPacket os
due_outputs n a None os h = quiet_outputs os h
due_outputs n a (Some due) os h = command_outputs n due.0 due.1 a os h

up_outputs : (n : ℕ) (x : UpNode) (i : Input) (os : List Output) → UpTells n x i os → AllByRecursion IsNoPacket os
up_outputs n x (input.Answered a) os h = due_outputs n a (due_of x) os h
up_outputs n x (input.Wrote d value a) os h = command_outputs n d (command.Write value) a os h
up_outputs n x input.Boot os h = quiet_outputs os h
up_outputs n x input.Crash os h = quiet_outputs os h
up_outputs n x input.Tick os h = quiet_outputs os h
up_outputs n x (input.Packet from m) os h = quiet_outputs os h
up_outputs n x input.CommandDue os h = quiet_outputs os h
up_outputs n x (input.Commanded words) os h = quiet_outputs os h
up_outputs n x (input.Reported r good) os h = quiet_outputs os h
up_outputs n x (input.Client name client port) os h = quiet_outputs os h

node_outputs : (n : ℕ) (node : Node) (i : Input) (os : List Output) → NodeTells n node i os → AllByRecursion IsNoPacket os
node_outputs n Down i os h = quiet_outputs os h
node_outputs n (Up x) i os h = up_outputs n x i os h

pub no_packets : (c : Cluster) (n now : ℕ) (ends : method.Outcome) (node : Node) (disk : DiskState) (i : Input) → AllByRecursion IsNoPacket (stepped disk_rules c n now ends node disk i).given
no_packets c n now ends node disk i = node_outputs n node i (stepped disk_rules c n now ends node disk i).given (commands_are_told c n now ends node disk i)

-- ---- what came

pub told_came : (e : Entry) (ms : List Moment) → NotPacket e → arrived (Told e ∷ ms) ≡ arrived ms
told_came (entry.Packet e) ms other = absurd other
told_came _ ms other = refl

dropped_came : (o : Option (ℕ × DropCause)) (s : Scene) → arrived (dropped_so o s).moments ≡ arrived s.moments
dropped_came None s = refl
dropped_came (Some x) s = refl

pub posted_came : (from to : ℕ) (m : Message) (s : Scene) → arrived (posting from to m s).moments ≡ arrived s.moments
posted_came from to m s =
    let o : net.Outcome = sending s.links from to (spelling m) in
    if_either (λ (z : Scene). arrived z.moments ≡ arrived s.moments) (is_sent s.links m) (sent_as from to m o s) s
    (dropped_came o.sent.dropped (telling (entry.Packet (packet.Sent s.links.next from to (name_of m.body) (spelling m))) (with_links s o.after))) refl
