-- What a node may take in each thing that happens, and what each scene of a run has of devices and keys.
use Rattle.std.specs.Prelude.{ℕ, ◌-◌, ◌==◌, ◌≡◌, ◌≤◌, length, List, Option, None, Some, slice_get}
use Rattle.std.proofs.Common.{refl, sym, subst, arith}
use Rattle.cl_base.specs.declared.header.Header.{Header}
use Rattle.cl_base.specs.declared.method.Outcome as method
use Rattle.cl_base.specs.declared.packet.DropCause.{DropCause}
use Rattle.cl_base.specs.declared.packet.DropCause.TheVariants as drop
use Rattle.history.specs.Moment.{Part, Said}
use Rattle.interconnect.specs.Links as links
use Rattle.interconnect.specs.Links.{Packet, sending}
use Rattle.node_model.specs.declared.cluster.Cluster.{Cluster}
use Rattle.node_model.specs.declared.input.Input.{Input}
use Rattle.node_model.specs.declared.input.Input.TheVariants as input
use Rattle.pgr_device.specs.Device.{Device}
use Rattle.pgr_device.specs.declared.command.PrCommand.{PrCommand}
use Rattle.pgr_device.specs.declared.command.PrCommand.TheVariants as command
use Rattle.refinement.proofs.Handlers.{delivered_by}
use Rattle.refinement.proofs.Worlds.{all_found}
use Rattle.refinement.specs.Courses.{Reply}
use Rattle.refinement.specs.Cuts.{doings}
use Rattle.refinement.specs.Runs.{AnswersFit, Nodes, WasSent}
use Rattle.run_history.proofs.DeedRuns.{runs_are_cut}
use Rattle.run_history.proofs.WholeEachRun.{runs_are_whole}
use Rattle.run_history.specs.Happenings.{Commanded, Happening, IsPlain, MayHappen, armed_by, commanded, commanded_at, happened, removed}
use Rattle.run_history.specs.Happenings.Happening.{Arrives, Begins, Commands, Loses, Misses, Notes, Refuses, Repeats, Speaks, Strays, Takes, Writes}
use Rattle.run_history.specs.Scenes.{Scene, adding, dropped_so, first_scene, telling, with_links}
use Rattle.run_history.specs.Stages.{Stage, site_of}
use Rattle.run_history.specs.Wholes.{IsWhole}
use Rattle.run_messages.proofs.Reaching.{IsReached, IsSmall, taking_good}
use Rattle.run_messages.proofs.records.Arms.{After, after_command, due_keeps}
use Rattle.run_messages.proofs.records.Runs.{run_known}
use Rattle.run_messages.proofs.records.Sizes.{header_sized}
use Rattle.run_messages.specs.records.Kept.{KnownScene}
use Rattle.run_packets.proofs.admitted.Flying.{Flying, removing_flying, sending_flying}
use Rattle.run_packets.proofs.admitted.Moves.{among_known, arms_known, taking_known}
use Rattle.run_packets.proofs.admitted.Sets.{first_valid_in}
use Rattle.run_packets.proofs.native.Sets.{attached_known, first_small}
use Rattle.run_packets.specs.admitted.Known.{DevicesKnown, HandKnown, PacketTo, RunKnown, SceneKnown}
use Rattle.run_seizings.proofs.Asked.{AllMay}
use Rattle.run_seizings.proofs.Moments.{due_low, due_own, plain_no, plain_sent}
use Rattle.run_seizings.proofs.Steps.{Ground, OwnKeysOnly, answer_may, ground_of, plain_may}
use Rattle.schedule_text.specs.declared.event.Event.{Event}
use Rattle.schedule_text.specs.declared.event.Event.TheVariants as event
use Rattle.schedule_text.specs.declared.line.Line.TheVariants as line
use Rattle.status_report.specs.declared.device_entry.DeviceEntry.TheVariants as device
use Rattle.status_report.specs.declared.entry.Entry.{Entry}
use Rattle.status_report.specs.declared.entry.Entry.TheVariants as entry
use Rattle.status_report.specs.declared.packet_entry.PacketEntry.TheVariants as packet
use Rattle.wire.specs.Spelling.{IsNode}
use Rattle.wire.specs.declared.message.Message.{Message}
use Rattle.world_model.specs.First.{first_cluster}
use Rattle.world_model.specs.Lines.{left_by}

-- ---- what comes to a node

pub record Takeable (h : Header) (c : Cluster) (v : Nodes) (n now : ℕ) (ends : method.Outcome) (i : Input) : Type 0 where
  pub is : IsNode n
  pub was : WasSent v i
  pub answer : AnswersFit i
  pub hand : HandKnown c (delivered_by i)
  pub guard : (replies : List Reply) → AllMay h c n (delivered_by i) None (site_of v n) (doings c n now ends replies i (v.node n))

-- what is known of a scene of a run
pub record Bound (h : Header) (s : Scene) : Type 0 where
  pub stage : Stage (first_cluster h) s
  pub whole : IsWhole (first_cluster h) s
  pub known : KnownScene (first_cluster h) s

pub devices_known : (h : Header) → IsSmall h → DevicesKnown (first_cluster h)
devices_known h size = record { attached = attached_known (length h.devices) 1 h.devices (at_most (length h.devices) size.few) (omega arith) (omega arith); small = first_small (length h.devices) (at_most (length h.devices) size.few) }
  where
    at_most : (a : ℕ) → a ≤ 16 → a ≤ 32
    at_most a h = omega (arith, h)

plain_fits : (i : Input) → IsPlain i → AnswersFit i
plain_fits (input.Packet from m) plain = absurd plain
plain_fits (input.Answered a) plain = absurd plain
plain_fits _ plain = tt

plain_hand : (c : Cluster) (i : Input) → IsPlain i → HandKnown c (delivered_by i)
plain_hand c (input.Packet from m) plain = absurd plain
plain_hand c _ plain = tt

pub commanded_nodes : (s : Scene) (n d : ℕ) (o : Option Device) (k : PrCommand) → (commanded_at s n d o k).scene.nodes ≡ s.nodes
commanded_nodes s n d None k = refl
commanded_nodes s n d (Some x) k = refl

pub takes_so : (h : Header) (s : Scene) (n now : ℕ) (ends : method.Outcome) (i : Input) → MayHappen (first_cluster h) s (Takes n now ends i) → Bound h s → Takeable h (first_cluster h) s.nodes n now ends i
takes_so h s n now ends i may b =
    let c : Cluster = first_cluster h in
    record {
      is = may.0;
      was = plain_sent s.nodes i may.1;
      answer = plain_fits i may.1;
      hand = plain_hand c i may.1;
      guard = plain_may h c n now ends (s.nodes.node n) (s.nodes.disk n).kept i (plain_no i may.1) may.2 (b.stage.fits.nodes n);
    }

pub arrives_so : (h : Header) (s : Scene) (number : ℕ) (x : Packet) (m : Message) (now : ℕ) (ends : method.Outcome) → MayHappen (first_cluster h) s (Arrives number x m now ends) → Bound h s → RunKnown (first_cluster h) s.nodes
    → Takeable h (first_cluster h) s.nodes x.to now ends (input.Packet x.from m)
arrives_so h s number x m now ends may b k =
    let c : Cluster = first_cluster h in
    record {
      is = may.3;
      was = may.4;
      answer = tt;
      hand = among_known c x.from m.body s.nodes.sent may.4 k.sent;
      guard = plain_may h c x.to now ends (s.nodes.node x.to) (s.nodes.disk x.to).kept (input.Packet x.from m) tt may.5 (b.stage.fits.nodes x.to);
    }

pub commands_so : (h : Header) (s : Scene) (n d : ℕ) (q : PrCommand) (now : ℕ) (ends : method.Outcome) → IsSmall h → MayHappen (first_cluster h) s (Commands n d q now ends) → Bound h s
    → Takeable h (first_cluster h) (commanded s n d q).scene.nodes n now ends (input.Answered (commanded s n d q).answer)
commands_so h s n d q now ends size may b =
    let c : Cluster = first_cluster h in
    let o : Commanded = commanded s n d q in
    let same : s.nodes ≡ o.scene.nodes = sym (commanded_nodes s n d (slice_get s.devices (d - 1)) q) in
    let after : After c s o = after_command c s n d q (due_keeps c s n d q (header_sized h size.few size.small) may.0.0 may.0.1 may.2 b.stage) b.known in
    record {
      is = may.0;
      was = tt;
      answer = after.answer;
      hand = tt;
      guard =
          answer_may h c n now ends (o.scene.nodes.node n) (o.scene.nodes.disk n).kept o.answer
          (subst (λ (v : Nodes). OwnKeysOnly h (v.node n) o.answer) same (due_own h s n d q (s.nodes.node n) b.whole may.2 (due_low c n (s.nodes.node n) d q (b.stage.fits.nodes n) may.2)));
    }

pub commanded_ground : (h : Header) (s : Scene) (n d : ℕ) (q : PrCommand) → Bound h s → Ground (first_cluster h) (commanded s n d q).scene.nodes
commanded_ground h s n d q b = subst (Ground (first_cluster h)) (sym (commanded_nodes s n d (slice_get s.devices (d - 1)) q)) (ground_of (first_cluster h) s b.stage)

pub writes_so : (h : Header) (s : Scene) (n d value now : ℕ) (ends : method.Outcome) → MayHappen (first_cluster h) s (Writes n d value now ends) → Bound h s
    → Takeable h (first_cluster h) (commanded s n d (command.Write value)).scene.nodes n now ends (input.Wrote d value (commanded s n d (command.Write value)).answer)
writes_so h s n d value now ends may b =
    let c : Cluster = first_cluster h in
    let o : Commanded = commanded s n d (command.Write value) in
    record {
      is = may.0;
      was = tt;
      answer = tt;
      hand = tt;
      guard = plain_may h c n now ends (o.scene.nodes.node n) (o.scene.nodes.disk n).kept (input.Wrote d value o.answer) tt may.2 ((commanded_ground h s n d (command.Write value) b).fits.nodes n);
    }

-- ---- each scene

armed_known : (c : Cluster) (e : Event) (s : Scene) → SceneKnown c s → SceneKnown c (armed_by c e s)
armed_known c (event.CrashAt n calls choice) s k = record { nodes = arms_known c s.nodes n calls (left_by choice) k.nodes; flying = k.flying }
armed_known c (event.Fault n d done) s k = record { nodes = k.nodes; flying = k.flying }
armed_known c _ s k = k

dropped_known : (c : Cluster) (o : Option (ℕ × DropCause)) (s : Scene) → SceneKnown c s → SceneKnown c (dropped_so o s)
dropped_known c None s k = k
dropped_known c (Some x) s k = record { nodes = k.nodes; flying = k.flying }

commanded_known : (c : Cluster) (s : Scene) (n d : ℕ) (o : Option Device) (q : PrCommand) → SceneKnown c s → SceneKnown c (commanded_at s n d o q).scene
commanded_known c s n d None q k = k
commanded_known c s n d (Some x) q k = record { nodes = k.nodes; flying = k.flying }

-- its links are these
linked : (c : Cluster) (s t : Scene) → t.nodes ≡ s.nodes → Flying t.links → SceneKnown c s → SceneKnown c t
linked c s t same flying k = record { nodes = subst (RunKnown c) (sym same) k.nodes; flying = flying }

gone : (c : Cluster) (s : Scene) (number : ℕ) (e : Entry) → SceneKnown c s → SceneKnown c (telling e (removed s number))
gone c s number e k = linked c s (telling e (removed s number)) refl (removing_flying s.links number k.flying) k

pub happening_known : (h : Header) (s : Scene) (x : Happening) → IsSmall h → MayHappen (first_cluster h) s x → Bound h s → Stage (first_cluster h) (happened (first_cluster h) s x) → SceneKnown (first_cluster h) s
    → SceneKnown (first_cluster h) (happened (first_cluster h) s x)
happening_known h s (Speaks e) size may b next k = armed_known (first_cluster h) e (adding (Said (line.Event e)) s) (linked (first_cluster h) s (adding (Said (line.Event e)) s) refl k.flying k)
happening_known h s (Begins e) size may b next k = linked (first_cluster h) s (adding (Part e) s) refl k.flying k
happening_known h s (Notes e) size may b next k = linked (first_cluster h) s (telling (entry.Schedule e) s) refl k.flying k
happening_known h s (Takes n now ends i) size may b next k =
    let c : Cluster = first_cluster h in
    let t : Takeable h c s.nodes n now ends i = takes_so h s n now ends i may b in
    taking_known h c s n now ends i b.whole.cluster.fits.devices.attached (devices_known h size) (ground_of c s b.stage) t.is t.was t.answer t.hand t.guard (taking_good c s n now ends i next) k
happening_known h s (Arrives number x m now ends) size may b next k =
    let c : Cluster = first_cluster h in
    let u : Scene = telling (entry.Packet (packet.Delivered number x.from x.to)) (removed s number) in
    let t : Takeable h c s.nodes x.to now ends (input.Packet x.from m) = arrives_so h s number x m now ends may b k.nodes in
    taking_known h c u x.to now ends (input.Packet x.from m) b.whole.cluster.fits.devices.attached (devices_known h size) (ground_of c s b.stage) t.is t.was t.answer t.hand t.guard
    (taking_good c u x.to now ends (input.Packet x.from m) next) (gone c s number (entry.Packet (packet.Delivered number x.from x.to)) k)
happening_known h s (Strays number x) size may b next k = gone (first_cluster h) s number (entry.Packet (packet.Delivered number x.from x.to)) k
happening_known h s (Misses number x) size may b next k = gone (first_cluster h) s number (entry.Packet (packet.Dropped number drop.Down)) k
happening_known h s (Loses number x) size may b next k = gone (first_cluster h) s number (entry.Packet (packet.Lost number)) k
happening_known h s (Repeats number x) size may b next k =
    let c : Cluster = first_cluster h in
    let o : links.Outcome = sending s.links x.from x.to x.bytes in
    let t : Scene = telling (entry.Packet (packet.Repeated number s.links.next)) (with_links s o.after) in
    dropped_known c o.sent.dropped t
    (linked c s t refl
    (sending_flying s.links x.from x.to x.bytes k.flying (all_found PacketTo (λ (p : Packet). p.number == number) s.links.packets x k.flying may.0)) k)
happening_known h s (Commands n d q now ends) size may b next k =
    let c : Cluster = first_cluster h in
    let o : Commanded = commanded s n d q in
    let t : Takeable h c o.scene.nodes n now ends (input.Answered o.answer) = commands_so h s n d q now ends size may b in
    taking_known h c o.scene n now ends (input.Answered o.answer) b.whole.cluster.fits.devices.attached (devices_known h size) (commanded_ground h s n d q b) t.is t.was t.answer t.hand t.guard
    (taking_good c o.scene n now ends (input.Answered o.answer) next) (commanded_known c s n d (slice_get s.devices (d - 1)) q k)
happening_known h s (Writes n d value now ends) size may b next k =
    let c : Cluster = first_cluster h in
    let o : Commanded = commanded s n d (command.Write value) in
    let t : Takeable h c o.scene.nodes n now ends (input.Wrote d value o.answer) = writes_so h s n d value now ends may b in
    taking_known h c o.scene n now ends (input.Wrote d value o.answer) b.whole.cluster.fits.devices.attached (devices_known h size) (commanded_ground h s n d (command.Write value) b) t.is t.was t.answer t.hand t.guard
    (taking_good c o.scene n now ends (input.Wrote d value o.answer) next) (commanded_known c s n d (slice_get s.devices (d - 1)) (command.Write value) k)
happening_known h s (Refuses n d value cause) size may b next k = linked (first_cluster h) s (telling (entry.Device (device.Refused n d value cause)) s) refl k.flying k

-- ---- of a run

pub bound_at : (h : Header) (cells : ℕ) (s : Scene) → IsSmall h → Stage (first_cluster h) s → IsReached h cells s → Bound h s
bound_at h cells s size b r = record {
  stage = b;
  whole = subst (IsWhole (first_cluster h)) r.is (runs_are_whole h cells r.happenings (runs_are_cut h cells r.happenings) size.few size.small r.may).scene;
  known = subst (KnownScene (first_cluster h)) r.is (run_known h cells r.happenings size.few size.small r.may);
}

pub first_known : (h : Header) (cells : ℕ) → IsSmall h → SceneKnown (first_cluster h) (first_scene h cells)
unfolding first_scene
first_known h cells size = record {
  nodes = record { sites = λ n. record { disk_so = first_valid_in (first_cluster h) n (devices_known h size); node_so = tt }; sent = tt };
  flying = tt;
}
