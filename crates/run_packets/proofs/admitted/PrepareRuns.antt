-- In each run no Prepare that comes is foreign.
use Rattle.std.specs.Prelude.{ℕ, ◌-◌, ◌≡◌, List, [], ◌∷◌, Option, None, Some, slice_get}
use Rattle.std.proofs.Common.{refl, sym, subst}
use Rattle.cl_base.specs.declared.header.Header.{Header}
use Rattle.cl_base.specs.declared.method.Outcome as method
use Rattle.cl_base.specs.declared.packet.DropCause.{DropCause}
use Rattle.cmm_attempt.proofs.Basics.{false_true}
use Rattle.interconnect.specs.Links as links
use Rattle.interconnect.specs.Links.{sending}
use Rattle.node_model.specs.declared.cluster.Cluster.{Cluster}
use Rattle.node_model.specs.declared.input.Input.{Input}
use Rattle.node_model.specs.declared.input.Input.TheVariants as input
use Rattle.node_model.specs.declared.node.Node.{Node}
use Rattle.node_model.specs.declared.node.Node.TheVariants.{Down, Up}
use Rattle.pgr_device.specs.Device.{Device}
use Rattle.pgr_device.specs.declared.command.PrCommand.{PrCommand}
use Rattle.pgr_device.specs.declared.command.PrCommand.TheVariants as command
use Rattle.refinement.specs.Facts.{JoinsIn}
use Rattle.refinement.specs.Runs.{IsAmong, Nodes, WasSent}
use Rattle.run_history.proofs.Idle.{passing_nodes}
use Rattle.run_history.proofs.Reached.{reached_more}
use Rattle.run_history.specs.Happenings.{Arrives, Begins, Commanded, Commands, Happening, Loses, MayAllHappen, MayHappen, Misses, Notes, Refuses, Repeats, Speaks, Strays, Takes, Writes, armed_by, commanded, commanded_at, given_by, happened, removed, taking}
use Rattle.run_history.specs.Scenes.{Scene, adding, dropped_so, first_scene, telling, with_links}
use Rattle.run_history.specs.Stages.{Stage}
use Rattle.run_messages.proofs.Reaching.{IsReached, IsSmall, stage_of}
use Rattle.run_messages.proofs.records.Sizes.{header_sized}
use Rattle.run_seizings.proofs.Moments.{plain_sent}
use Rattle.history.specs.Moment.{Said}
use Rattle.schedule_text.specs.declared.event.Event.{Event}
use Rattle.schedule_text.specs.declared.event.Event.TheVariants as event
use Rattle.schedule_text.specs.declared.line.Line.TheVariants as line
use Rattle.status_report.specs.declared.entry.Entry.TheVariants as entry
use Rattle.status_report.specs.declared.packet_entry.PacketEntry.TheVariants as packet
use Rattle.wire.specs.Spelling.{IsNode}
use Rattle.wire.specs.declared.message.Body.{Body}
use Rattle.wire.specs.declared.message.Body.TheVariants as body
use Rattle.world_model.specs.First.{first_cluster}
use Rattle.world_model.specs.Lines.{left_by}
use Rattle.run_packets.specs.native.Laws.{AllComeSo, ComesSo}
use Rattle.run_packets.specs.admitted.Laws.{IsNativeAs, PreparesAreNative, is_prepare}
use Rattle.run_packets.specs.admitted.Logged.{RunLogged}
use Rattle.run_packets.proofs.admitted.Preparing.{arms_logged, prepare_good, step_logged}

abbrev pub SceneLogged : Cluster → Scene → Type 0
SceneLogged c s = RunLogged c s.nodes

-- ---- each thing that happens

armed_logged : (c : Cluster) (e : Event) (s : Scene) → SceneLogged c s → SceneLogged c (armed_by c e s)
armed_logged c (event.CrashAt n calls choice) s k = arms_logged c s.nodes n calls (left_by choice) k
armed_logged c _ s k = k

dropped_logged : (c : Cluster) (o : Option (ℕ × DropCause)) (s : Scene) → SceneLogged c s → SceneLogged c (dropped_so o s)
dropped_logged c None s k = k
dropped_logged c (Some drop) s k = k

commanded_nodes : (s : Scene) (n d : ℕ) (o : Option Device) (k : PrCommand) → (commanded_at s n d o k).scene.nodes ≡ s.nodes
commanded_nodes s n d None k = refl
commanded_nodes s n d (Some x) k = refl

taking_logged : (h : Header) (s : Scene) (n now : ℕ) (ends : method.Outcome) (i : Input) → IsSmall h → IsNode n → WasSent s.nodes i → JoinsIn (s.nodes.node n) → SceneLogged (first_cluster h) s
    → SceneLogged (first_cluster h) (taking (first_cluster h) n now ends i s)
taking_logged h s n now ends i size is was joins k =
    let c : Cluster = first_cluster h in
    subst (RunLogged c) (sym (passing_nodes n (given_by c n now ends i s.nodes) _)) (step_logged c s.nodes n now ends i (header_sized h size.few size.small).fits.devices.attached is was joins k)

pub happening_logged : (h : Header) (s : Scene) (x : Happening) → IsSmall h → MayHappen (first_cluster h) s x → Stage (first_cluster h) s → SceneLogged (first_cluster h) s
    → SceneLogged (first_cluster h) (happened (first_cluster h) s x)
happening_logged h s (Speaks e) size may b k = armed_logged (first_cluster h) e (adding (Said (line.Event e)) s) k
happening_logged h s (Begins e) size may b k = k
happening_logged h s (Notes e) size may b k = k
happening_logged h s (Takes n now ends i) size may b k = taking_logged h s n now ends i size may.0 (plain_sent s.nodes i may.1) (b.stands n).joins k
happening_logged h s (Arrives number x m now ends) size may b k =
    taking_logged h (telling (entry.Packet (packet.Delivered number x.from x.to)) (removed s number)) x.to now ends (input.Packet x.from m) size may.3 may.4 (b.stands x.to).joins k
happening_logged h s (Strays number x) size may b k = k
happening_logged h s (Misses number x) size may b k = k
happening_logged h s (Loses number x) size may b k = k
happening_logged h s (Repeats number x) size may b k =
    let o : links.Outcome = sending s.links x.from x.to x.bytes in
    dropped_logged (first_cluster h) o.sent.dropped (telling (entry.Packet (packet.Repeated number s.links.next)) (with_links s o.after)) k
happening_logged h s (Commands n d q now ends) size may b k =
    let o : Commanded = commanded s n d q in
    let same : s.nodes ≡ o.scene.nodes = sym (commanded_nodes s n d (slice_get s.devices (d - 1)) q) in
    taking_logged h o.scene n now ends (input.Answered o.answer) size may.0 tt (subst (λ (v : Nodes). JoinsIn (v.node n)) same (b.stands n).joins) (subst (RunLogged (first_cluster h)) same k)
happening_logged h s (Writes n d value now ends) size may b k =
    let o : Commanded = commanded s n d (command.Write value) in
    let same : s.nodes ≡ o.scene.nodes = sym (commanded_nodes s n d (slice_get s.devices (d - 1)) (command.Write value)) in
    taking_logged h o.scene n now ends (input.Wrote d value o.answer) size may.0 tt (subst (λ (v : Nodes). JoinsIn (v.node n)) same (b.stands n).joins) (subst (RunLogged (first_cluster h)) same k)
happening_logged h s (Refuses n d value cause) size may b k = k

-- ---- what comes

prepare_native : (c : Cluster) (v : Nodes) (n from : ℕ) (node : Node) (b : Body) → v.node n ≡ node → IsAmong from b v.sent → RunLogged c v → IsNativeAs is_prepare c n node b
prepare_native c v n from Down b at among k is = refl
prepare_native c v n from (Up x) (body.Prepare e place text) at among k is = prepare_good c v n from x e place text at among k
prepare_native c v n from (Up x) _ at among k is = absurd (false_true is)

comes_so : (h : Header) (s : Scene) (x : Happening) → MayHappen (first_cluster h) s x → SceneLogged (first_cluster h) s → ComesSo (IsNativeAs is_prepare) (first_cluster h) s x
comes_so h s (Arrives number x m now ends) may k = prepare_native (first_cluster h) s.nodes x.to x.from (s.nodes.node x.to) m.body refl may.4 k
comes_so h s _ may k = tt

-- ---- runs

run_on : (h : Header) (cells : ℕ) (s : Scene) (hs : List Happening) → IsSmall h → IsReached h cells s → MayAllHappen (first_cluster h) s hs → SceneLogged (first_cluster h) s
    → AllComeSo (IsNativeAs is_prepare) (first_cluster h) s hs
run_on h cells s [] size at may k = tt
run_on h cells s (x ∷ hs) size at may k = (
  comes_so h s x may.0 k,
  run_on h cells (happened (first_cluster h) s x) hs size (reached_more (first_cluster h) (first_scene h cells) s x at may.0) may.1 (happening_logged h s x size may.0 (stage_of h cells s size at) k),
)

pub first_logged : (h : Header) (cells : ℕ) → Stage (first_cluster h) (first_scene h cells) → SceneLogged (first_cluster h) (first_scene h cells)
unfolding first_scene
first_logged h cells b = record { machine = b.machine; holds = b.holds; tied = λ n. (b.stands n).tied; sent = tt }

pub prepares_are_native : PreparesAreNative
prepares_are_native h cells hs nodes few small may boots =
    let size : IsSmall h = record { few = few; small = small } in
    let at : IsReached h cells (first_scene h cells) = record { happenings = []; may = tt; is = refl } in
    run_on h cells (first_scene h cells) hs size at may (first_logged h cells (stage_of h cells (first_scene h cells) size at))
