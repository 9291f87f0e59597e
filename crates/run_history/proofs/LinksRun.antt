-- Each thing that happens tells packet lines that follow the links.
use Rattle.std.specs.Prelude.{ℕ, List, [], ◌∷◌, Option, None, Some}
use Rattle.std.proofs.Common.{refl, sym, subst}
use Rattle.std.specs.List.{AllByRecursion}
use Rattle.cl_base.specs.declared.header.Header.{Header}
use Rattle.cl_base.specs.declared.method.Outcome as method
use Rattle.pgr_device.specs.Device.{Device}
use Rattle.pgr_device.specs.declared.command.PrCommand.{PrCommand}
use Rattle.pgr_device.specs.declared.command.PrCommand.TheVariants as command
use Rattle.schedule_text.specs.declared.event.Event.{Event}
use Rattle.schedule_text.specs.declared.event.Event.TheVariants as event
use Rattle.schedule_text.specs.declared.line.Line.TheVariants as line
use Rattle.seize.specs.Answers.{Answer}
use Rattle.status_report.specs.declared.device_entry.DeviceEntry.TheVariants as device
use Rattle.status_report.specs.declared.entry.Entry.{Entry}
use Rattle.status_report.specs.declared.entry.Entry.TheVariants as entry
use Rattle.status_report.specs.declared.packet_entry.PacketEntry.TheVariants as packet
use Rattle.history.specs.Moment.{Part, Said}
use Rattle.run_history.specs.CommandLines.{AllQuiet, CommandFirst, IsQuiet, NodeTells, TellsDue, UpTells}
use Rattle.run_history.proofs.LineSteps.{commands_are_told}
use Rattle.node_model.specs.declared.cluster.Cluster.{Cluster}
use Rattle.node_model.specs.declared.input.Input.{Input}
use Rattle.node_model.specs.declared.input.Input.TheVariants as input
use Rattle.node_model.specs.declared.node.Node.{Node}
use Rattle.node_model.specs.declared.node.Node.TheVariants.{Down, Up}
use Rattle.node_model.specs.declared.node.UpNode.{UpNode}
use Rattle.node_model.specs.declared.output.Output.{Output}
use Rattle.node_model.specs.declared.output.Output.TheVariants.{Tells, Sends}
use Rattle.refinement.specs.Runs.{moved}
use Rattle.refinement.specs.Runs.Move.{Takes as Takes_in}
use Rattle.world_model.specs.Devices.{due_of}
use Rattle.world_model.specs.First.{first_cluster}
use Rattle.run_history.specs.WorldLines.{LinksOfEachRun}
use Rattle.run_history.proofs.Links.{Linked, NotPacket, delivered_linked, lost_linked, missed_linked, posted_linked, repeated_linked, told_linked}
use Rattle.run_history.specs.Happenings.{Arrives, Begins, Commands, Happening, Loses, MayAllHappen, MayHappen, Misses, Notes, Refuses, Repeats, Speaks, Strays, Takes, Writes, all_happened, armed_by, commanded, commanded_at, given_by, happened, removed, taking}
use Rattle.run_history.specs.Scenes.{Scene, adding, first_scene, passing, posting, telling}

-- What a node gives.

abbrev NoPacket : Output → Type 0
NoPacket (Tells e) = NotPacket e
NoPacket (Sends to b) = Unit {0}

quiet_entry : (e : Entry) → IsQuiet e → NotPacket e
quiet_entry (entry.Packet e) q = absurd q
quiet_entry _ q = tt

quiet_outputs : (os : List Output) → AllQuiet os → AllByRecursion NoPacket os
quiet_outputs [] h = tt
quiet_outputs (Tells e ∷ os) h = (quiet_entry e h.0, quiet_outputs os h.1)
quiet_outputs (Sends to b ∷ os) h = (tt, quiet_outputs os h.1)

command_outputs : (n d : ℕ) (k : PrCommand) (a : Answer) (os : List Output) → CommandFirst n d k a os → AllByRecursion NoPacket os
command_outputs n d k a os h = subst (AllByRecursion NoPacket) (sym h.first) (tt, quiet_outputs h.others h.quiet)

due_outputs : (n : ℕ) (a : Answer) (o : Option (ℕ × PrCommand)) (os : List Output) → TellsDue n a o os → AllByRecursion NoPacket os
due_outputs n a None os h = quiet_outputs os h
due_outputs n a (Some due) os h = command_outputs n due.0 due.1 a os h

up_outputs : (n : ℕ) (x : UpNode) (i : Input) (os : List Output) → UpTells n x i os → AllByRecursion NoPacket os
up_outputs n x (input.Answered a) os h = due_outputs n a (due_of x) os h
up_outputs n x (input.Wrote d value a) os h = command_outputs n d (command.Write value) a os h
up_outputs n x input.Boot os h = quiet_outputs os h
up_outputs n x input.Crash os h = quiet_outputs os h
up_outputs n x input.Tick os h = quiet_outputs os h
up_outputs n x (input.Packet from m) os h = quiet_outputs os h
up_outputs n x input.CommandDue os h = quiet_outputs os h
up_outputs n x (input.Commanded words) os h = quiet_outputs os h
up_outputs n x (input.Reported r good) os h = quiet_outputs os h
up_outputs n x (input.Client name client port) os h = quiet_outputs os h

node_outputs : (n : ℕ) (node : Node) (i : Input) (os : List Output) → NodeTells n node i os → AllByRecursion NoPacket os
node_outputs n Down i os h = quiet_outputs os h
node_outputs n (Up x) i os h = up_outputs n x i os h

passing_linked : (cells n : ℕ) (os : List Output) (s : Scene) → AllByRecursion NoPacket os → Linked cells s → Linked cells (passing n os s)
passing_linked cells n [] s q h = h
passing_linked cells n (Tells e ∷ os) s q h = passing_linked cells n os (telling e s) q.1 (told_linked cells s e q.0 h)
passing_linked cells n (Sends to b ∷ os) s q h =
    passing_linked cells n os (posting n to (record { sender = n; body = b }) s) q.1 (posted_linked cells n to (record { sender = n; body = b }) s h)

taking_linked : (cells : ℕ) (c : Cluster) (n now : ℕ) (ends : method.Outcome) (i : Input) (s : Scene) → Linked cells s → Linked cells (taking c n now ends i s)
taking_linked cells c n now ends i s h =
    passing_linked cells n (given_by c n now ends i s.nodes) (record s { nodes = moved c s.nodes (Takes_in n now ends i) })
    (node_outputs n (s.nodes.node n) i (given_by c n now ends i s.nodes) (commands_are_told c n now ends (s.nodes.node n) (s.nodes.disk n) i)) h

-- Happenings.

commanded_linked : (cells : ℕ) (s : Scene) (n d : ℕ) (o : Option Device) (k : PrCommand) → Linked cells s → Linked cells (commanded_at s n d o k).scene
commanded_linked cells s n d None k h = h
commanded_linked cells s n d (Some x) k h = h

armed_linked : (cells : ℕ) (c : Cluster) (e : Event) (s : Scene) → Linked cells s → Linked cells (armed_by c e s)
armed_linked cells c (event.Fault n d done) s h = h
armed_linked cells c (event.CrashAt n calls choice) s h = h
armed_linked cells c _ s h = h

said_linked : (cells : ℕ) (e : Event) (s : Scene) → Linked cells s → Linked cells (adding (Said (line.Event e)) s)
said_linked cells e s h = record { left = h.left; due = refl; run = ((tt, sym h.due), h.run) }

begun_linked : (cells : ℕ) (e : Event) (s : Scene) → Linked cells s → Linked cells (adding (Part e) s)
begun_linked cells e s h = record { left = h.left; due = refl; run = ((tt, sym h.due), h.run) }

pub linked_kept : (cells : ℕ) (c : Cluster) (s : Scene) (x : Happening) → MayHappen c s x → Linked cells s → Linked cells (happened c s x)
linked_kept cells c s (Speaks e) may h = armed_linked cells c e (adding (Said (line.Event e)) s) (said_linked cells e s h)
linked_kept cells c s (Begins e) may h = begun_linked cells e s h
linked_kept cells c s (Notes e) may h = told_linked cells s (entry.Schedule e) tt h
linked_kept cells c s (Takes n now ends i) may h = taking_linked cells c n now ends i s h
linked_kept cells c s (Arrives number x m now ends) may h =
    taking_linked cells c x.to now ends (input.Packet x.from m) (telling (entry.Packet (packet.Delivered number x.from x.to)) (removed s number)) (delivered_linked cells s number x h may.0)
linked_kept cells c s (Strays number x) may h = delivered_linked cells s number x h may.0
linked_kept cells c s (Misses number x) may h = missed_linked cells s number x h may.0
linked_kept cells c s (Loses number x) may h = lost_linked cells s number x h may.0
linked_kept cells c s (Repeats number x) may h = repeated_linked cells s number x h may.0
linked_kept cells c s (Commands n d k now ends) may h =
    taking_linked cells c n now ends (input.Answered (commanded s n d k).answer) (commanded s n d k).scene (commanded_linked cells s n d _ k h)
linked_kept cells c s (Writes n d value now ends) may h =
    taking_linked cells c n now ends (input.Wrote d value (commanded s n d (command.Write value)).answer) (commanded s n d (command.Write value)).scene
    (commanded_linked cells s n d _ (command.Write value) h)
linked_kept cells c s (Refuses n d value cause) may h = told_linked cells s (entry.Device (device.Refused n d value cause)) tt h

all_linked : (cells : ℕ) (c : Cluster) (s : Scene) (hs : List Happening) → MayAllHappen c s hs → Linked cells s → Linked cells (all_happened c s hs)
all_linked cells c s [] may h = h
all_linked cells c s (x ∷ hs) may h = all_linked cells c (happened c s x) hs may.1 (linked_kept cells c s x may.0 h)

first_linked : (h : Header) (cells : ℕ) → Linked cells (first_scene h cells)
unfolding first_scene
first_linked h cells = record { left = refl; due = refl; run = tt }

pub links_of_each_run : LinksOfEachRun
links_of_each_run h cells hs may =
    let l : Linked cells (all_happened (first_cluster h) (first_scene h cells) hs) = all_linked cells (first_cluster h) (first_scene h cells) hs may (first_linked h cells) in
    record { links = l.left; due = l.due; run = l.run }
