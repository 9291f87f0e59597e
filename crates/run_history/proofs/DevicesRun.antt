-- Each thing that happens tells device lines that follow the devices.
use Rattle.std.specs.Prelude.{ℕ, ◌-◌, ◌≡◌, ◌≤◌, List, [], ◌∷◌, Option, None, Some, is_ok, length, slice_get, true}
use Rattle.std.proofs.Common.{refl, sym, subst, ◌∙◌}
use Rattle.cl_base.specs.declared.header.Header.{Header}
use Rattle.cl_base.specs.declared.method.Outcome as method
use Rattle.cl_base.specs.declared.packet.DropCause.{DropCause}
use Rattle.cl_base.specs.declared.packet.DropCause.TheVariants as drop
use Rattle.cmm_attempt.proofs.Basics.{if_either, none_some}
use Rattle.interconnect.specs.Links as net
use Rattle.interconnect.specs.Links.{sending}
use Rattle.pgr_device.specs.Device.{Device}
use Rattle.pgr_device.specs.declared.command.PrCommand.{PrCommand}
use Rattle.pgr_device.specs.declared.command.PrCommand.TheVariants as command
use Rattle.schedule_text.specs.declared.event.Event.{Event}
use Rattle.schedule_text.specs.declared.event.Event.TheVariants as event
use Rattle.schedule_text.specs.declared.line.Line.TheVariants as line
use Rattle.status_report.specs.declared.device_entry.DeviceEntry.TheVariants as device
use Rattle.status_report.specs.declared.entry.Entry.{Entry}
use Rattle.status_report.specs.declared.entry.Entry.TheVariants as entry
use Rattle.status_report.specs.declared.packet_entry.PacketEntry.TheVariants as packet
use Rattle.wire.specs.declared.message.Message.{Message}
use Rattle.wire.specs.Spelling.{spelling}
use Rattle.history.specs.Moment.{Said}
use Rattle.run_history.specs.CommandLines.{AllQuiet, CommandFirst, IsQuiet, NodeTells, TellsDue}
use Rattle.run_history.specs.Names.{AreListed, IsListed, NodeNames}
use Rattle.run_history.proofs.LineSteps.{commands_are_told}
use Rattle.node_model.specs.Devices.{answer_told, may_write_as}
use Rattle.node_model.specs.declared.cluster.Cluster.{Cluster}
use Rattle.node_model.specs.declared.input.Input.{Input}
use Rattle.node_model.specs.declared.input.Input.TheVariants as input
use Rattle.node_model.specs.declared.node.Node.{Node}
use Rattle.node_model.specs.declared.node.Node.TheVariants.{Down, Up}
use Rattle.node_model.specs.declared.output.Output.{Output}
use Rattle.node_model.specs.declared.output.Output.TheVariants.{Tells, Sends}
use Rattle.node_model.specs.declared.node.UpNode.{UpNode}
use Rattle.refinement.specs.Guards.{OfUp}
use Rattle.refinement.specs.Runs.{moved}
use Rattle.refinement.specs.Runs.Move.{Takes as Takes_in}
use Rattle.world_model.specs.Devices.{due_at, executed}
use Rattle.world_model.specs.First.{first_cluster}
use Rattle.world_model.specs.Sends.{is_sent, name_of}
use Rattle.run_history.specs.WorldLines.{AreDisks, DevicesOfEachRun, IsDevice}
use Rattle.run_history.proofs.LineDevices.{AtDevices, NoCommand, begun_still, command_keeps, fault_keeps, said_still, told_still}
use Rattle.run_history.proofs.FirstDevices.{first_devices}
use Rattle.run_history.proofs.Known.{AllName, due_named, first_listed, listed_is, moved_name, write_named}
use Rattle.run_history.specs.Happenings.{Arrives, Begins, Commanded, Commands, Happening, IsPlain, Loses, MayAllHappen, MayHappen, Misses, Notes, Refuses, Repeats, Speaks, Strays, Takes, Writes, all_happened, armed_by, commanded, commanded_at, copying, given_by, happened, removed, taking}
use Rattle.run_history.specs.Scenes.{Scene, adding, dropped_so, fault_in, first_scene, passing, posting, sent_as, telling, with_links}

-- What a node gives: messages change nothing of devices, nor do other lines than those of commands.

abbrev NoCommandIn : Output → Type 0
NoCommandIn (Tells e) = NoCommand e
NoCommandIn (Sends to b) = Unit {0}

pub quiet_entry : (e : Entry) → IsQuiet e → NoCommand e
quiet_entry (entry.Device (device.Command n d k answer)) q = absurd q
quiet_entry _ q = tt

dropped_at : (h : Header) (o : Option (ℕ × DropCause)) (s : Scene) → AtDevices h s → AtDevices h (dropped_so o s)
dropped_at h None s k = k
dropped_at h (Some x) s k = told_still h s (entry.Packet (packet.Dropped x.0 x.1)) tt k

posted_at : (h : Header) (from to : ℕ) (m : Message) (s : Scene) → AtDevices h s → AtDevices h (posting from to m s)
posted_at h from to m s k =
    let o : net.Outcome = sending s.links from to (spelling m) in
    let t : Scene = with_links s o.after in
    let e : Entry = entry.Packet (packet.Sent s.links.next from to (name_of m.body) (spelling m)) in
    if_either (AtDevices h) (is_sent s.links m) (sent_as from to m o s) s (dropped_at h o.sent.dropped (telling e t) (told_still h t e tt k)) k

passing_at : (h : Header) (n : ℕ) (os : List Output) (s : Scene) → AllQuiet os → AtDevices h s → AtDevices h (passing n os s)
passing_at h n [] s q k = k
passing_at h n (Tells e ∷ os) s q k = passing_at h n os (telling e s) q.1 (told_still h s e (quiet_entry e q.0) k)
passing_at h n (Sends to b ∷ os) s q k =
    passing_at h n os (posting n to (record { sender = n; body = b }) s) q.1 (posted_at h n to (record { sender = n; body = b }) s k)

-- Nodes stay as they are while lines are told and messages sent.

dropped_nodes : (o : Option (ℕ × DropCause)) (s : Scene) → (dropped_so o s).nodes ≡ s.nodes
dropped_nodes None s = refl
dropped_nodes (Some x) s = refl

posted_nodes : (from to : ℕ) (m : Message) (s : Scene) → (posting from to m s).nodes ≡ s.nodes
posted_nodes from to m s =
    let o : net.Outcome = sending s.links from to (spelling m) in
    if_either (λ (t : Scene). t.nodes ≡ s.nodes) (is_sent s.links m) (sent_as from to m o s) s
    (dropped_nodes o.sent.dropped (telling (entry.Packet (packet.Sent s.links.next from to (name_of m.body) (spelling m))) (with_links s o.after))) refl

pub passing_nodes : (n : ℕ) (os : List Output) (s : Scene) → (passing n os s).nodes ≡ s.nodes
passing_nodes n [] s = refl
passing_nodes n (Tells e ∷ os) s = passing_nodes n os (telling e s)
passing_nodes n (Sends to b ∷ os) s =
    passing_nodes n os (posting n to (record { sender = n; body = b }) s) ∙ posted_nodes n to (record { sender = n; body = b }) s

-- A scene at its devices, whose nodes name devices of the cluster.
record Stands (h : Header) (s : Scene) : Type 0 where
  at : AtDevices h s
  names : AllName (first_cluster h) s.nodes

taking_names : (h : Header) (n now : ℕ) (ends : method.Outcome) (i : Input) (s : Scene) → AreListed (first_cluster h) → AllName (first_cluster h) s.nodes
    → AllName (first_cluster h) (taking (first_cluster h) n now ends i s).nodes
taking_names h n now ends i s listed names =
    let c : Cluster = first_cluster h in
    subst (λ v. AllName c v) (sym (passing_nodes n (given_by c n now ends i s.nodes) (record s { nodes = moved c s.nodes (Takes_in n now ends i) })))
    (moved_name c s.nodes n now ends i listed names)

-- what comes is no answer of a device
pub plain_quiet : (n : ℕ) (node : Node) (i : Input) (os : List Output) → IsPlain i → NodeTells n node i os → AllQuiet os
plain_quiet n Down i os is q = q
plain_quiet n (Up x) input.Boot os is q = q
plain_quiet n (Up x) input.Crash os is q = q
plain_quiet n (Up x) input.Tick os is q = q
plain_quiet n (Up x) (input.Packet from m) os is q = absurd is
plain_quiet n (Up x) input.CommandDue os is q = q
plain_quiet n (Up x) (input.Answered a) os is q = absurd is
plain_quiet n (Up x) (input.Wrote d value a) os is q = absurd is
plain_quiet n (Up x) (input.Commanded words) os is q = q
plain_quiet n (Up x) (input.Reported r good) os is q = q
plain_quiet n (Up x) (input.Client name client port) os is q = q

pub packet_quiet : (n : ℕ) (node : Node) (from : ℕ) (m : Message) (os : List Output) → NodeTells n node (input.Packet from m) os → AllQuiet os
packet_quiet n Down from m os q = q
packet_quiet n (Up x) from m os q = q

quiet_stands : (h : Header) (n now : ℕ) (ends : method.Outcome) (i : Input) (s : Scene) → AreListed (first_cluster h)
    → AllQuiet (given_by (first_cluster h) n now ends i s.nodes) → Stands h s → Stands h (taking (first_cluster h) n now ends i s)
quiet_stands h n now ends i s listed quiet k = record {
  at = passing_at h n (given_by (first_cluster h) n now ends i s.nodes) (record s { nodes = moved (first_cluster h) s.nodes (Takes_in n now ends i) }) quiet k.at;
  names = taking_names h n now ends i s listed k.names;
}

-- A command, and its answer.

abbrev AnsweredBy : Cluster → Scene → ℕ → ℕ → PrCommand → ℕ → method.Outcome → Input → Device → Type 0
AnsweredBy c s n d k now ends i x = CommandFirst n d k (executed x n k (fault_in s n d)).answer (given_by c n now ends i s.nodes)

command_stands : (h : Header) (s : Scene) (n d : ℕ) (k : PrCommand) (now : ℕ) (ends : method.Outcome) (i : Input) (x : Device) → AreListed (first_cluster h) → 1 ≤ n → IsDevice h d
    → slice_get s.devices (d - 1) ≡ Some x → AnsweredBy (first_cluster h) s n d k now ends i x → Stands h s
    → Stands h (taking (first_cluster h) n now ends i (commanded_at s n d (Some x) k).scene)
command_stands h s n d k now ends i x listed low is at told stands =
    let c : Cluster = first_cluster h in
    let done : Scene = record (commanded_at s n d (Some x) k).scene { nodes = moved c s.nodes (Takes_in n now ends i) } in
    record {
      at =
          subst (λ os. AtDevices h (passing n os done)) (sym told.first)
          (passing_at h n told.others (telling (entry.Device (device.Command n d k (answer_told (executed x n k (fault_in s n d)).answer))) done) told.quiet
          (command_keeps h s.devices s.faults s.moments n d k x (fault_in s n d) low is at refl stands.at));
      names = taking_names h n now ends i (commanded_at s n d (Some x) k).scene listed stands.names;
    }

-- a device of the header answers
abbrev pub AnswersTo : Header → Scene → ℕ → ℕ → PrCommand → ℕ → method.Outcome → (Commanded → Input) → Type 0
AnswersTo h s n d k now ends f = (o : Commanded) → CommandFirst n d k o.answer (given_by (first_cluster h) n now ends (f o) s.nodes)

device_stands : (h : Header) (s : Scene) (n d : ℕ) (k : PrCommand) (now : ℕ) (ends : method.Outcome) (f : Commanded → Input) → AreListed (first_cluster h) → 1 ≤ n → IsDevice h d
    → AnswersTo h s n d k now ends f → Stands h s → Stands h (taking (first_cluster h) n now ends (f (commanded s n d k)) (commanded s n d k).scene)
device_stands h s n d k now ends f listed low is told stands =
    let at : slice_get s.devices (d - 1) ≡ Some _ = stands.at.states d is in
    subst (λ o. Stands h (taking (first_cluster h) n now ends (f (commanded_at s n d o k)) (commanded_at s n d o k).scene)) (sym at)
    (command_stands h s n d k now ends (f (commanded_at s n d (Some _) k)) _ listed low is at (told (commanded_at s n d (Some _) k)) stands)

pub due_tells : (h : Header) (s : Scene) (n d : ℕ) (k : PrCommand) (now : ℕ) (ends : method.Outcome) (node : Node) → s.nodes.node n ≡ node → due_at (Some node) ≡ Some (d, k)
    → AnswersTo h s n d k now ends (λ o. input.Answered o.answer)
due_tells h s n d k now ends Down is due o = absurd (none_some (d, k) due)
due_tells h s n d k now ends (Up x) is due o =
    let c : Cluster = first_cluster h in
    subst (λ z. TellsDue n o.answer z (given_by c n now ends (input.Answered o.answer) s.nodes)) due
    (subst (λ z. NodeTells n z (input.Answered o.answer) (given_by c n now ends (input.Answered o.answer) s.nodes)) is
    (commands_are_told c n now ends (s.nodes.node n) (s.nodes.disk n) (input.Answered o.answer)))

due_device : (h : Header) (n d : ℕ) (k : PrCommand) (node : Node) → length h.devices ≤ 16 → NodeNames (IsListed (first_cluster h)) node → due_at (Some node) ≡ Some (d, k) → IsDevice h d
due_device h n d k Down few names due = absurd (none_some (d, k) due)
due_device h n d k (Up x) few names due = listed_is h d few (due_named (IsListed (first_cluster h)) x d k names due)

pub write_tells : (h : Header) (s : Scene) (n d value now : ℕ) (ends : method.Outcome) (node : Node) (P : UpNode → Type 0) → s.nodes.node n ≡ node → OfUp P node
    → AnswersTo h s n d (command.Write value) now ends (λ o. input.Wrote d value o.answer)
write_tells h s n d value now ends Down P is up o = absurd up
write_tells h s n d value now ends (Up x) P is up o =
    let c : Cluster = first_cluster h in
    subst (λ z. NodeTells n z (input.Wrote d value o.answer) (given_by c n now ends (input.Wrote d value o.answer) s.nodes)) is
    (commands_are_told c n now ends (s.nodes.node n) (s.nodes.disk n) (input.Wrote d value o.answer))

write_device : (h : Header) (n d : ℕ) (node : Node) → length h.devices ≤ 16 → OfUp (λ x. is_ok (may_write_as (first_cluster h) n d x.seat) ≡ true) node → IsDevice h d
write_device h n d Down few may = absurd may
write_device h n d (Up x) few may = listed_is h d few (write_named (first_cluster h) n d x.seat (first_listed h few) may)

-- Happenings.

speaks_stands : (h : Header) (e : Event) (s : Scene) → MayHappen (first_cluster h) s (Speaks e) → Stands h s → Stands h (armed_by (first_cluster h) e (adding (Said (line.Event e)) s))
speaks_stands h (event.Fault n d done) s may k =
    record { at = fault_keeps h s.devices s.faults s.moments n d done may.0 may.1 may.2 may.3 k.at; names = k.names }
speaks_stands h (event.CrashAt n calls choice) s may k = record { at = said_still h s (event.CrashAt n calls choice) tt k.at; names = k.names }
speaks_stands h e s may k = record { at = said_still h s e tt k.at; names = k.names }

tells_stands : (h : Header) (e : Entry) (s : Scene) → NoCommand e → Stands h s → Stands h (telling e s)
tells_stands h e s q k = record { at = told_still h s e q k.at; names = k.names }

copies_stands : (h : Header) (number : ℕ) (o : net.Outcome) (s : Scene) → Stands h s → Stands h (copying number o s)
copies_stands h number o s k =
    let e : Entry = entry.Packet (packet.Repeated number s.links.next) in
    record {
      at = dropped_at h o.sent.dropped (telling e (with_links s o.after)) (told_still h (with_links s o.after) e tt k.at);
      names = subst (λ v. AllName (first_cluster h) v) (sym (dropped_nodes o.sent.dropped (telling e (with_links s o.after)))) k.names;
    }

removed_stands : (h : Header) (s : Scene) (number : ℕ) → Stands h s → Stands h (removed s number)
removed_stands h s number k = record { at = k.at; names = k.names }

stands_kept : (h : Header) (s : Scene) (x : Happening) → length h.devices ≤ 16 → MayHappen (first_cluster h) s x → Stands h s → Stands h (happened (first_cluster h) s x)
stands_kept h s (Speaks e) few may k = speaks_stands h e s may k
stands_kept h s (Begins e) few may k = record { at = begun_still h s e k.at; names = k.names }
stands_kept h s (Notes e) few may k = tells_stands h (entry.Schedule e) s tt k
stands_kept h s (Takes n now ends i) few may k =
    quiet_stands h n now ends i s (first_listed h few)
    (plain_quiet n (s.nodes.node n) i (given_by (first_cluster h) n now ends i s.nodes) may.1 (commands_are_told (first_cluster h) n now ends (s.nodes.node n) (s.nodes.disk n) i)) k
stands_kept h s (Arrives number x m now ends) few may k =
    let t : Scene = telling (entry.Packet (packet.Delivered number x.from x.to)) (removed s number) in
    quiet_stands h x.to now ends (input.Packet x.from m) t (first_listed h few)
    (packet_quiet x.to (s.nodes.node x.to) x.from m (given_by (first_cluster h) x.to now ends (input.Packet x.from m) s.nodes)
    (commands_are_told (first_cluster h) x.to now ends (s.nodes.node x.to) (s.nodes.disk x.to) (input.Packet x.from m)))
    (tells_stands h (entry.Packet (packet.Delivered number x.from x.to)) (removed s number) tt (removed_stands h s number k))
stands_kept h s (Strays number x) few may k = tells_stands h (entry.Packet (packet.Delivered number x.from x.to)) (removed s number) tt (removed_stands h s number k)
stands_kept h s (Misses number x) few may k = tells_stands h (entry.Packet (packet.Dropped number drop.Down)) (removed s number) tt (removed_stands h s number k)
stands_kept h s (Loses number x) few may k = tells_stands h (entry.Packet (packet.Lost number)) (removed s number) tt (removed_stands h s number k)
stands_kept h s (Repeats number x) few may k = copies_stands h number (sending s.links x.from x.to x.bytes) s k
stands_kept h s (Commands n d command now ends) few may k =
    device_stands h s n d command now ends (λ o. input.Answered o.answer) (first_listed h few) may.0.0 (due_device h n d command (s.nodes.node n) few (k.names n) may.2)
    (due_tells h s n d command now ends (s.nodes.node n) refl may.2) k
stands_kept h s (Writes n d value now ends) few may k =
    device_stands h s n d (command.Write value) now ends (λ o. input.Wrote d value o.answer) (first_listed h few) may.0.0 (write_device h n d (s.nodes.node n) few may.1)
    (write_tells h s n d value now ends (s.nodes.node n) _ refl may.1) k
stands_kept h s (Refuses n d value cause) few may k = tells_stands h (entry.Device (device.Refused n d value cause)) s tt k

all_stand : (h : Header) (s : Scene) (hs : List Happening) → length h.devices ≤ 16 → MayAllHappen (first_cluster h) s hs → Stands h s → Stands h (all_happened (first_cluster h) s hs)
all_stand h s [] few may k = k
all_stand h s (x ∷ hs) few may k = all_stand h (happened (first_cluster h) s x) hs few may.1 (stands_kept h s x few may.0 k)

first_names : (h : Header) (cells : ℕ) → AllName (first_cluster h) (first_scene h cells).nodes
unfolding first_scene
first_names h cells k = tt

first_stands : (h : Header) (cells : ℕ) → AreDisks h → Stands h (first_scene h cells)
first_stands h cells are = record { at = first_devices h cells are; names = first_names h cells }

pub devices_of_each_run : DevicesOfEachRun
devices_of_each_run h cells hs few are may =
    let k : Stands h (all_happened (first_cluster h) (first_scene h cells) hs) = all_stand h (first_scene h cells) hs few may (first_stands h cells are) in
    record { count = k.at.count; states = k.at.states; armed = k.at.armed; run = k.at.run }
