-- The device of each task of a node is one of the header.
use Rattle.std.specs.Prelude.{ℕ, ◌-◌, ◌≡◌, ◌≤◌, List, [], ◌∷◌, length, Option, None, Some, slice_get}
use Rattle.std.proofs.Common.{sym, subst}
use Rattle.cl_base.specs.declared.header.Header.{Header}
use Rattle.cl_base.specs.declared.packet.DropCause.{DropCause}
use Rattle.device_queue.specs.Queue.{first_of}
use Rattle.device_queue.specs.Tasks.{is_queued}
use Rattle.device_queue.specs.declared.task.Task.{Task}
use Rattle.interconnect.specs.Links as net
use Rattle.interconnect.specs.Links.{sending}
use Rattle.node_model.specs.declared.cluster.Cluster.{Cluster}
use Rattle.node_model.specs.declared.input.Input.{Input}
use Rattle.node_model.specs.declared.input.Input.TheVariants as input
use Rattle.node_model.specs.declared.node.Node.TheVariants.{Up}
use Rattle.node_model.specs.declared.node.UpNode.{UpNode}
use Rattle.pgr_device.specs.Device.{Device}
use Rattle.pgr_device.specs.declared.command.PrCommand.{PrCommand}
use Rattle.pgr_device.specs.declared.command.PrCommand.TheVariants as command
use Rattle.cl_base.specs.declared.method.Outcome as method
use Rattle.refinement.specs.Runs.{moved}
use Rattle.refinement.specs.Runs.Move.{Takes as Takes_in}
use Rattle.schedule_text.specs.declared.event.Event.{Event}
use Rattle.schedule_text.specs.declared.event.Event.TheVariants as event
use Rattle.schedule_text.specs.declared.line.Line.TheVariants as line
use Rattle.status_report.specs.declared.entry.Entry.TheVariants as entry
use Rattle.status_report.specs.declared.packet_entry.PacketEntry.TheVariants as packet
use Rattle.history.specs.Moment.{Said}
use Rattle.world_model.specs.First.{first_cluster}
use Rattle.run_history.specs.Happenings.{Arrives, Commands, Happening, Repeats, Speaks, Takes, Writes, all_happened, armed_by, commanded, commanded_at, given_by, happened, removed, taking}
use Rattle.run_history.specs.Names.{IsListed, NodeNames, TaskOf}
use Rattle.run_history.specs.Scenes.{Scene, adding, dropped_so, first_scene, telling, with_links}
use Rattle.run_history.specs.WorldLines.{IsDevice}
use Rattle.run_history.proofs.Known.{AllName, first_listed, listed_is, moved_name}
use Rattle.run_history.proofs.Idle.{passing_nodes}
use Rattle.run_history.proofs.Lists.{found, when_some}

taking_named : (h : Header) (n now : ℕ) (ends : method.Outcome) (i : Input) (s : Scene) → length h.devices ≤ 16 → AllName (first_cluster h) s.nodes → AllName (first_cluster h) (taking (first_cluster h) n now ends i s).nodes
taking_named h n now ends i s few k =
    let c : Cluster = first_cluster h in
    subst (AllName c) (sym (passing_nodes n (given_by c n now ends i s.nodes) (record s { nodes = moved c s.nodes (Takes_in n now ends i) })))
    (moved_name c s.nodes n now ends i (first_listed h few) k)

armed_named : (h : Header) (e : Event) (s : Scene) → AllName (first_cluster h) s.nodes → AllName (first_cluster h) (armed_by (first_cluster h) e (adding (Said (line.Event e)) s)).nodes
armed_named h (event.Fault n d done) s k = k
armed_named h (event.CrashAt n calls choice) s k = k
armed_named h _ s k = k

dropped_named : (c : Cluster) (o : Option (ℕ × DropCause)) (s : Scene) → AllName c s.nodes → AllName c (dropped_so o s).nodes
dropped_named c None s k = k
dropped_named c (Some x) s k = k

commanded_named : (c : Cluster) (s : Scene) (n d : ℕ) (o : Option Device) (q : PrCommand) → AllName c s.nodes → AllName c (commanded_at s n d o q).scene.nodes
commanded_named c s n d None q k = k
commanded_named c s n d (Some x) q k = k

happened_named : (h : Header) (s : Scene) (x : Happening) → length h.devices ≤ 16 → AllName (first_cluster h) s.nodes → AllName (first_cluster h) (happened (first_cluster h) s x).nodes
happened_named h s (Speaks e) few k = armed_named h e s k
happened_named h s (Takes n now ends i) few k = taking_named h n now ends i s few k
happened_named h s (Arrives number x m now ends) few k = taking_named h x.to now ends (input.Packet x.from m) (telling (entry.Packet (packet.Delivered number x.from x.to)) (removed s number)) few k
happened_named h s (Repeats number x) few k =
    let o : net.Outcome = sending s.links x.from x.to x.bytes in
    dropped_named (first_cluster h) o.sent.dropped (telling (entry.Packet (packet.Repeated number s.links.next)) (with_links s o.after)) k
happened_named h s (Commands n d q now ends) few k =
    taking_named h n now ends (input.Answered (commanded s n d q).answer) (commanded s n d q).scene few (commanded_named (first_cluster h) s n d (slice_get s.devices (d - 1)) q k)
happened_named h s (Writes n d value now ends) few k =
    let q : PrCommand = command.Write value in
    taking_named h n now ends (input.Wrote d value (commanded s n d q).answer) (commanded s n d q).scene few (commanded_named (first_cluster h) s n d (slice_get s.devices (d - 1)) q k)
happened_named h s _ few k = k

all_named : (h : Header) (s : Scene) (hs : List Happening) → length h.devices ≤ 16 → AllName (first_cluster h) s.nodes → AllName (first_cluster h) (all_happened (first_cluster h) s hs).nodes
all_named h s [] few k = k
all_named h s (x ∷ hs) few k = all_named h (happened (first_cluster h) s x) hs few (happened_named h s x few k)

first_named : (h : Header) (cells : ℕ) → AllName (first_cluster h) (first_scene h cells).nodes
unfolding first_scene
first_named h cells k = tt

first_is : (h : Header) (x : UpNode) (t : Task) → length h.devices ≤ 16 → NodeNames (IsListed (first_cluster h)) (Up x) → first_of x.tasks ≡ Some t → IsDevice h t.device
first_is h x t few names is =
    listed_is h t.device few (when_some (TaskOf (IsListed (first_cluster h))) (first_of x.tasks) t (found (TaskOf (IsListed (first_cluster h))) is_queued x.tasks names.0) is)

-- at each point of a run
pub first_task_device : (h : Header) (cells : ℕ) (hs : List Happening) (n : ℕ) (x : UpNode) (t : Task) → length h.devices ≤ 16 → (all_happened (first_cluster h) (first_scene h cells) hs).nodes.node n ≡ Up x → first_of x.tasks ≡ Some t → IsDevice h t.device
first_task_device h cells hs n x t few at is = first_is h x t few (subst (NodeNames (IsListed (first_cluster h))) at (all_named h (first_scene h cells) hs few (first_named h cells) n)) is
