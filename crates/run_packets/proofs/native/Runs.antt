-- Each thing that happens, and each run.
use Rattle.std.specs.Prelude.{ℕ, ◌-◌, ◌==◌, ◌≡◌, ◌≤◌, length, List, [], ◌∷◌, Option, None, Some, slice_get}
use Rattle.std.proofs.Common.{refl, sym, subst, ◌∙◌, inl, inr, arith}
use Rattle.cl_base.proofs.SetLemmas.{none_of_zero}
use Rattle.cmm_attempt.proofs.Basics.{false_true}
use Rattle.std.specs.List.{AllByRecursion}
use Rattle.cl_base.specs.declared.header.Header.{Header}
use Rattle.cl_base.specs.declared.method.Outcome as method
use Rattle.cl_base.specs.declared.packet.DropCause.{DropCause}
use Rattle.cl_base.specs.declared.packet.DropCause.TheVariants as drop
use Rattle.history.specs.Moment.{Part, Said}
use Rattle.interconnect.specs.Links as links
use Rattle.interconnect.specs.Links.{Packet, sending}
use Rattle.node_model.specs.declared.cluster.Cluster.{Cluster}
use Rattle.node_model.specs.declared.input.Input.{Input}
use Rattle.node_model.specs.declared.input.Input.TheVariants as input
use Rattle.node_model.specs.declared.node.Node.{Node}
use Rattle.refinement.specs.node_widths.Widths.{BodyFits}
use Rattle.pgr_device.specs.Device.{Device}
use Rattle.pgr_device.specs.declared.command.PrCommand.{PrCommand}
use Rattle.pgr_device.specs.declared.command.PrCommand.TheVariants as command
use Rattle.refinement.proofs.Handlers.{delivered_by}
use Rattle.refinement.specs.Runs.{IsAmong, Letter, Nodes}
use Rattle.refinement.specs.Widths.{LetterFits}
use Rattle.run_history.proofs.DeedRuns.{runs_are_cut}
use Rattle.run_history.proofs.Reached.{reached_more}
use Rattle.run_history.proofs.WholeEachRun.{runs_are_whole}
use Rattle.run_history.specs.Happenings.{Arrives, Begins, Commanded, Commands, Happening, IsPlain, Loses, MayAllHappen, MayHappen, Misses, Notes, Refuses, Repeats, Speaks, Strays, Takes, Writes, armed_by, commanded, commanded_at, happened, removed}
use Rattle.run_history.specs.Scenes.{Scene, adding, dropped_so, first_scene, telling, with_links}
use Rattle.run_history.specs.Stages.{Stage}
use Rattle.run_history.specs.Wholes.{IsWhole}
use Rattle.run_messages.proofs.Reaching.{IsReached, IsSmall, stage_of, taking_good}
use Rattle.run_seizings.proofs.Moments.{due_low, due_own, plain_no, plain_sent}
use Rattle.run_seizings.proofs.Steps.{Ground, OwnKeysOnly, answer_may, ground_of, plain_may}
use Rattle.refinement.proofs.Worlds.{all_found}
use Rattle.schedule_text.specs.declared.event.Event.{Event}
use Rattle.schedule_text.specs.declared.event.Event.TheVariants as event
use Rattle.schedule_text.specs.declared.line.Line.TheVariants as line
use Rattle.status_report.specs.declared.device_entry.DeviceEntry.TheVariants as device
use Rattle.status_report.specs.declared.entry.Entry.{Entry}
use Rattle.status_report.specs.declared.entry.Entry.TheVariants as entry
use Rattle.status_report.specs.declared.packet_entry.PacketEntry.TheVariants as packet
use Rattle.wire.specs.declared.message.Body.{Body}
use Rattle.world_model.specs.First.{first_cluster}
use Rattle.world_model.specs.Lines.{left_by}
use Rattle.run_packets.specs.native.Laws.{AllComeSo, BootsInHeader, BringsNoBadLog, ComesSo, IsNative, IsSeizeNative, MembersAreOfHeader, NamesNoStranger, NoLogIsBad, OfEachPacket, PlainKindsAreNative, SeizesAreNative}
use Rattle.run_packets.specs.native.Named.{BodyNamed, BodyTo, HandNamed, PacketTo, RunNamed, SceneNamed}
use Rattle.run_packets.proofs.native.Flying.{Flying, removing_flying, sending_flying}
use Rattle.run_packets.proofs.native.Judged.{brings_none, kind_native, names_none, seize_native}
use Rattle.run_packets.proofs.native.Moves.{among_named, arms_named, taking_named}
use Rattle.run_packets.proofs.native.Sets.{attached_known, first_has}
use Rattle.run_packets.proofs.native.Steps.{BootNamed}

-- ---- what happens beside the steps of nodes

armed_named : (c : Cluster) (e : Event) (s : Scene) → SceneNamed c s → SceneNamed c (armed_by c e s)
armed_named c (event.CrashAt n calls choice) s k = record { nodes = arms_named c s.nodes n calls (left_by choice) k.nodes; flying = k.flying }
armed_named c (event.Fault n d done) s k = record { nodes = k.nodes; flying = k.flying }
armed_named c _ s k = k

dropped_named : (c : Cluster) (o : Option (ℕ × DropCause)) (s : Scene) → SceneNamed c s → SceneNamed c (dropped_so o s)
dropped_named c None s k = k
dropped_named c (Some drop) s k = record { nodes = k.nodes; flying = k.flying }

commanded_nodes : (s : Scene) (n d : ℕ) (o : Option Device) (k : PrCommand) → (commanded_at s n d o k).scene.nodes ≡ s.nodes
commanded_nodes s n d None k = refl
commanded_nodes s n d (Some x) k = refl

commanded_named : (c : Cluster) (s : Scene) (n d : ℕ) (o : Option Device) (q : PrCommand) → SceneNamed c s → SceneNamed c (commanded_at s n d o q).scene
commanded_named c s n d None q k = k
commanded_named c s n d (Some x) q k = record { nodes = k.nodes; flying = k.flying }

-- its links are these
linked : (c : Cluster) (s t : Scene) → t.nodes ≡ s.nodes → Flying c t.links → SceneNamed c s → SceneNamed c t
linked c s t same flying k = record { nodes = subst (RunNamed c) (sym same) k.nodes; flying = flying }

gone : (c : Cluster) (s : Scene) (number : ℕ) (e : Entry) → SceneNamed c s → SceneNamed c (telling e (removed s number))
gone c s number e k = linked c s (telling e (removed s number)) refl (removing_flying c s.links number k.flying) k

-- ---- each thing that happens

-- what is known of a scene of a run, and of the one that comes next
pub record Known (h : Header) (s : Scene) (x : Happening) : Type 0 where
  pub stage : Stage (first_cluster h) s
  pub whole : IsWhole (first_cluster h) s
  pub next : Stage (first_cluster h) (happened (first_cluster h) s x)

boot_so : (h : Header) (n now : ℕ) (ends : method.Outcome) (i : Input) → h.nodes ≤ 32 → IsSmall h → 1 ≤ n → BootsInHeader h (Takes n now ends i) → BootNamed (first_cluster h) n i
boot_so h n now ends input.Boot few size low high = (first_has h.nodes n few low high, attached_known (length h.devices) 1 h.devices (at_most (length h.devices) size.few) (omega arith) (omega arith))
  where
    at_most : (a : ℕ) → a ≤ 16 → a ≤ 32
    at_most a h = omega (arith, h)
boot_so h n now ends _ few size low high = tt

plain_hand : (c : Cluster) (i : Input) → IsPlain i → HandNamed c (delivered_by i)
plain_hand c (input.Packet from m) plain = absurd plain
plain_hand c _ plain = tt

pub happening_named : (h : Header) (s : Scene) (x : Happening) → h.nodes ≤ 32 → IsSmall h → MayHappen (first_cluster h) s x → BootsInHeader h x → Known h s x → SceneNamed (first_cluster h) s
    → SceneNamed (first_cluster h) (happened (first_cluster h) s x)
happening_named h s (Speaks e) few size may boots b k = armed_named (first_cluster h) e (adding (Said (line.Event e)) s) (linked (first_cluster h) s (adding (Said (line.Event e)) s) refl k.flying k)
happening_named h s (Begins e) few size may boots b k = linked (first_cluster h) s (adding (Part e) s) refl k.flying k
happening_named h s (Notes e) few size may boots b k = linked (first_cluster h) s (telling (entry.Schedule e) s) refl k.flying k
happening_named h s (Takes n now ends i) few size may boots b k =
    let c : Cluster = first_cluster h in
    taking_named h c s n now ends i b.whole.cluster.fits.devices.attached (ground_of c s b.stage) may.0 (plain_sent s.nodes i may.1) (plain_hand c i may.1)
    (boot_so h n now ends i few size may.0.0 boots)
    (plain_may h c n now ends (s.nodes.node n) (s.nodes.disk n).kept i (plain_no i may.1) may.2 (b.stage.fits.nodes n)) (taking_good c s n now ends i b.next) k
happening_named h s (Arrives number x m now ends) few size may boots b k =
    let c : Cluster = first_cluster h in
    let t : Scene = telling (entry.Packet (packet.Delivered number x.from x.to)) (removed s number) in
    taking_named h c t x.to now ends (input.Packet x.from m) b.whole.cluster.fits.devices.attached (ground_of c s b.stage) may.3 may.4
    (among_named c x.from m.body s.nodes.sent may.4 k.nodes.sent) tt
    (plain_may h c x.to now ends (s.nodes.node x.to) (s.nodes.disk x.to).kept (input.Packet x.from m) tt may.5 (b.stage.fits.nodes x.to))
    (taking_good c t x.to now ends (input.Packet x.from m) b.next) (gone c s number (entry.Packet (packet.Delivered number x.from x.to)) k)
happening_named h s (Strays number x) few size may boots b k = gone (first_cluster h) s number (entry.Packet (packet.Delivered number x.from x.to)) k
happening_named h s (Misses number x) few size may boots b k = gone (first_cluster h) s number (entry.Packet (packet.Dropped number drop.Down)) k
happening_named h s (Loses number x) few size may boots b k = gone (first_cluster h) s number (entry.Packet (packet.Lost number)) k
happening_named h s (Repeats number x) few size may boots b k =
    let c : Cluster = first_cluster h in
    let o : links.Outcome = sending s.links x.from x.to x.bytes in
    let t : Scene = telling (entry.Packet (packet.Repeated number s.links.next)) (with_links s o.after) in
    dropped_named c o.sent.dropped t
    (linked c s t refl
    (sending_flying c s.links x.from x.to x.bytes k.flying (all_found (PacketTo c) (λ (p : Packet). p.number == number) s.links.packets x k.flying may.0)) k)
happening_named h s (Commands n d q now ends) few size may boots b k =
    let c : Cluster = first_cluster h in
    let o : Commanded = commanded s n d q in
    let same : s.nodes ≡ o.scene.nodes = sym (commanded_nodes s n d (slice_get s.devices (d - 1)) q) in
    taking_named h c o.scene n now ends (input.Answered o.answer) b.whole.cluster.fits.devices.attached (subst (Ground c) same (ground_of c s b.stage)) may.0 tt tt tt
    (answer_may h c n now ends (o.scene.nodes.node n) (o.scene.nodes.disk n).kept o.answer
    (subst (λ (v : Nodes). OwnKeysOnly h (v.node n) o.answer) same (due_own h s n d q (s.nodes.node n) b.whole may.2 (due_low c n (s.nodes.node n) d q (b.stage.fits.nodes n) may.2))))
    (taking_good c o.scene n now ends (input.Answered o.answer) b.next) (commanded_named c s n d (slice_get s.devices (d - 1)) q k)
happening_named h s (Writes n d value now ends) few size may boots b k =
    let c : Cluster = first_cluster h in
    let o : Commanded = commanded s n d (command.Write value) in
    let same : s.nodes ≡ o.scene.nodes = sym (commanded_nodes s n d (slice_get s.devices (d - 1)) (command.Write value)) in
    let ground : Ground c o.scene.nodes = subst (Ground c) same (ground_of c s b.stage) in
    taking_named h c o.scene n now ends (input.Wrote d value o.answer) b.whole.cluster.fits.devices.attached ground may.0 tt tt tt
    (plain_may h c n now ends (o.scene.nodes.node n) (o.scene.nodes.disk n).kept (input.Wrote d value o.answer) tt may.2 (ground.fits.nodes n))
    (taking_good c o.scene n now ends (input.Wrote d value o.answer) b.next) (commanded_named c s n d (slice_get s.devices (d - 1)) (command.Write value) k)
happening_named h s (Refuses n d value cause) few size may boots b k = linked (first_cluster h) s (telling (entry.Device (device.Refused n d value cause)) s) refl k.flying k

-- ---- what comes

-- P holds of all that is sent, where it is as all that was sent is
abbrev Judges : Header → (Cluster → ℕ → Node → Body → Type 0) → Type 0
Judges h P = (n : ℕ) (node : Node) (b : Body) → BodyFits b → BodyNamed (first_cluster h) b → BodyTo (first_cluster h) n b → P (first_cluster h) n node b

among_fits : (from : ℕ) (b : Body) (letters : List Letter) → IsAmong from b letters → AllByRecursion LetterFits letters → BodyFits b
among_fits from b [] among fits = absurd among
among_fits from b (l ∷ letters) (inl here) fits = subst BodyFits here.1 fits.0.1
among_fits from b (l ∷ letters) (inr there) fits = among_fits from b letters there fits.1

comes_so : (h : Header) (P : Cluster → ℕ → Node → Body → Type 0) (s : Scene) (x : Happening) → Judges h P → MayHappen (first_cluster h) s x → Stage (first_cluster h) s
    → SceneNamed (first_cluster h) s → ComesSo P (first_cluster h) s x
comes_so h P s (Arrives number x m now ends) judge may b k =
    let c : Cluster = first_cluster h in
    judge x.to (s.nodes.node x.to) m.body (among_fits x.from m.body s.nodes.sent may.4 b.fits.sent) (among_named c x.from m.body s.nodes.sent may.4 k.nodes.sent).1
    (all_found (PacketTo c) (λ (p : Packet). p.number == number) s.links.packets x k.flying may.0 m may.1)
comes_so h P s _ judge may b k = tt

-- ---- runs

pub whole_at : (h : Header) (cells : ℕ) (s : Scene) → IsSmall h → IsReached h cells s → IsWhole (first_cluster h) s
whole_at h cells s size r = subst (IsWhole (first_cluster h)) r.is (runs_are_whole h cells r.happenings (runs_are_cut h cells r.happenings) size.few size.small r.may).scene

run_on : (h : Header) (cells : ℕ) (P : Cluster → ℕ → Node → Body → Type 0) (s : Scene) (hs : List Happening) → h.nodes ≤ 32 → IsSmall h → Judges h P → IsReached h cells s
    → MayAllHappen (first_cluster h) s hs → AllByRecursion (BootsInHeader h) hs → SceneNamed (first_cluster h) s → AllComeSo P (first_cluster h) s hs
run_on h cells P s [] few size judge at may boots k = tt
run_on h cells P s (x ∷ hs) few size judge at may boots k =
    let c : Cluster = first_cluster h in
    let then : IsReached h cells (happened c s x) = reached_more c (first_scene h cells) s x at may.0 in
    let b : Known h s x = record { stage = stage_of h cells s size at; whole = whole_at h cells s size at; next = stage_of h cells (happened c s x) size then } in (
      comes_so h P s x judge may.0 b.stage k,
      run_on h cells P (happened c s x) hs few size judge then may.1 boots.1 (happening_named h s x few size may.0 boots.0 b k),
    )

pub first_named : (h : Header) (cells : ℕ) → SceneNamed (first_cluster h) (first_scene h cells)
unfolding first_scene
first_named h cells = record {
  nodes = record { sites = λ n. record { disk_so = λ m is. absurd (false_true (sym (none_of_zero m) ∙ is)); node_so = tt }; sent = tt };
  flying = tt;
}

of_each : (P : Cluster → ℕ → Node → Body → Type 0) → ((h : Header) → h.nodes ≤ 32 → Judges h P) → OfEachPacket P
of_each P judge h cells hs nodes few small may boots =
    run_on h cells P (first_scene h cells) hs nodes (record { few = few; small = small }) (judge h nodes) (record { happenings = []; may = tt; is = refl }) may boots (first_named h cells)

pub plain_kinds_are_native : PlainKindsAreNative
plain_kinds_are_native = of_each IsNative (λ h few n node b fits named goes. kind_native h n node b few fits named goes)

pub members_are_of_the_header : MembersAreOfHeader
members_are_of_the_header = of_each NamesNoStranger (λ h few n node b fits named goes. names_none h n node b few fits named goes)

pub no_log_is_bad : NoLogIsBad
no_log_is_bad = of_each BringsNoBadLog (λ h few n node b fits named goes. brings_none h n node b few fits named goes)

pub seizes_are_native : SeizesAreNative
seizes_are_native = of_each IsSeizeNative (λ h few n node b fits named goes. seize_native h n node b few fits named goes)
