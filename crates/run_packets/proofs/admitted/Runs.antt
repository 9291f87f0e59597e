-- Each thing that happens, and each run.
use Rattle.std.specs.Prelude.{ℕ, ◌-◌, ◌==◌, ◌≡◌, ◌≤◌, length, List, [], ◌∷◌, Option, None, Some, slice_get}
use Rattle.std.proofs.Common.{refl, sym, subst, inl, inr, arith}
use Rattle.std.specs.List.{AllByRecursion}
use Rattle.cl_base.specs.declared.header.Header.{Header}
use Rattle.cl_base.specs.declared.packet.DropCause.{DropCause}
use Rattle.cl_base.specs.declared.packet.DropCause.TheVariants as drop
use Rattle.history.specs.Moment.{Part, Said}
use Rattle.interconnect.specs.Links as links
use Rattle.interconnect.specs.Links.{Packet, sending}
use Rattle.node_model.specs.declared.cluster.Cluster.{Cluster}
use Rattle.node_model.specs.declared.input.Input.{Input}
use Rattle.node_model.specs.declared.input.Input.TheVariants as input
use Rattle.node_model.specs.declared.node.Node.{Node}
use Rattle.refinement.specs.node_widths.Widths.{BodyFits}
use Rattle.pgr_device.specs.Device.{Device}
use Rattle.pgr_device.specs.declared.command.PrCommand.{PrCommand}
use Rattle.pgr_device.specs.declared.command.PrCommand.TheVariants as command
use Rattle.refinement.proofs.Handlers.{delivered_by}
use Rattle.refinement.specs.Runs.{AnswersFit, IsAmong, Letter, Nodes}
use Rattle.refinement.specs.Widths.{LetterFits}
use Rattle.run_history.proofs.DeedRuns.{runs_are_cut}
use Rattle.run_history.proofs.Reached.{reached_more}
use Rattle.run_history.proofs.WholeEachRun.{runs_are_whole}
use Rattle.run_history.specs.Happenings.{Arrives, Begins, Commanded, Commands, Happening, IsPlain, Loses, MayAllHappen, MayHappen, all_happened, Misses, Notes, Refuses, Repeats, Speaks, Strays, Takes, Writes, armed_by, commanded, commanded_at, happened, removed}
use Rattle.run_history.specs.Scenes.{Scene, adding, dropped_so, first_scene, telling, with_links}
use Rattle.run_history.specs.Stages.{Stage}
use Rattle.run_history.specs.Wholes.{IsWhole}
use Rattle.run_messages.proofs.Reaching.{IsReached, IsSmall, stage_of, taking_good}
use Rattle.run_messages.proofs.records.Arms.{After, after_command, due_keeps}
use Rattle.run_messages.proofs.records.Runs.{run_known}
use Rattle.run_messages.proofs.records.Sizes.{header_sized}
use Rattle.run_messages.specs.records.Kept.{KnownScene}
use Rattle.run_seizings.proofs.Moments.{due_low, due_own, plain_no, plain_sent}
use Rattle.run_seizings.proofs.Steps.{Ground, OwnKeysOnly, answer_may, ground_of, plain_may}
use Rattle.refinement.proofs.Worlds.{all_found}
use Rattle.schedule_text.specs.declared.event.Event.{Event}
use Rattle.schedule_text.specs.declared.event.Event.TheVariants as event
use Rattle.schedule_text.specs.declared.line.Line.TheVariants as line
use Rattle.status_report.specs.declared.device_entry.DeviceEntry.TheVariants as device
use Rattle.status_report.specs.declared.entry.Entry.{Entry}
use Rattle.status_report.specs.declared.entry.Entry.TheVariants as entry
use Rattle.status_report.specs.declared.packet_entry.PacketEntry.TheVariants as packet
use Rattle.wire.specs.declared.message.Body.{Body}
use Rattle.world_model.specs.First.{first_cluster}
use Rattle.world_model.specs.Lines.{left_by}
use Rattle.run_packets.specs.native.Laws.{AllComeSo, BringsNoBadLog, ComesSo, NamesNoStranger, OfEachPacket}
use Rattle.run_packets.proofs.native.Runs as native
use Rattle.run_packets.proofs.native.Sets.{attached_known, first_small}
use Rattle.order_laws.specs.Laws.{ToldCyclesHaveNames}
use Rattle.run_packets.specs.admitted.Laws.{AnswersAreNative, InstallsAreNative, IsNativeAs, PromisesAreNative, ReadiesAreNative, SeizedsAreNative, is_answer, is_install, is_promise, is_ready, is_seized}
use Rattle.run_packets.specs.admitted.Known.{DevicesKnown, HandKnown, PacketTo, RunKnown, SceneKnown}
use Rattle.run_packets.proofs.admitted.Flying.{Flying, removing_flying, sending_flying}
use Rattle.run_packets.proofs.admitted.Judged.{Comes, answer_native, install_native, promise_native, ready_native, seized_native}
use Rattle.run_packets.proofs.admitted.Moves.{among_known, arms_known, taking_known}
use Rattle.run_packets.proofs.admitted.Sets.{first_valid_in}

-- ---- what happens beside the steps of nodes

armed_known : (c : Cluster) (e : Event) (s : Scene) → SceneKnown c s → SceneKnown c (armed_by c e s)
armed_known c (event.CrashAt n calls choice) s k = record { nodes = arms_known c s.nodes n calls (left_by choice) k.nodes; flying = k.flying }
armed_known c (event.Fault n d done) s k = record { nodes = k.nodes; flying = k.flying }
armed_known c _ s k = k

dropped_known : (c : Cluster) (o : Option (ℕ × DropCause)) (s : Scene) → SceneKnown c s → SceneKnown c (dropped_so o s)
dropped_known c None s k = k
dropped_known c (Some drop) s k = record { nodes = k.nodes; flying = k.flying }

commanded_nodes : (s : Scene) (n d : ℕ) (o : Option Device) (k : PrCommand) → (commanded_at s n d o k).scene.nodes ≡ s.nodes
commanded_nodes s n d None k = refl
commanded_nodes s n d (Some x) k = refl

commanded_known : (c : Cluster) (s : Scene) (n d : ℕ) (o : Option Device) (q : PrCommand) → SceneKnown c s → SceneKnown c (commanded_at s n d o q).scene
commanded_known c s n d None q k = k
commanded_known c s n d (Some x) q k = record { nodes = k.nodes; flying = k.flying }

-- its links are these
linked : (c : Cluster) (s t : Scene) → t.nodes ≡ s.nodes → Flying t.links → SceneKnown c s → SceneKnown c t
linked c s t same flying k = record { nodes = subst (RunKnown c) (sym same) k.nodes; flying = flying }

gone : (c : Cluster) (s : Scene) (number : ℕ) (e : Entry) → SceneKnown c s → SceneKnown c (telling e (removed s number))
gone c s number e k = linked c s (telling e (removed s number)) refl (removing_flying s.links number k.flying) k

-- ---- each thing that happens

-- what is known of a scene of a run, and of the one that comes next
record Known (h : Header) (s : Scene) (x : Happening) : Type 0 where
  stage : Stage (first_cluster h) s
  whole : IsWhole (first_cluster h) s
  known : KnownScene (first_cluster h) s
  next : Stage (first_cluster h) (happened (first_cluster h) s x)

devices_known : (h : Header) → IsSmall h → DevicesKnown (first_cluster h)
devices_known h size = record { attached = attached_known (length h.devices) 1 h.devices (at_most (length h.devices) size.few) (omega arith) (omega arith); small = first_small (length h.devices) (at_most (length h.devices) size.few) }
  where
    at_most : (a : ℕ) → a ≤ 16 → a ≤ 32
    at_most a h = omega (arith, h)

plain_fits : (i : Input) → IsPlain i → AnswersFit i
plain_fits (input.Packet from m) plain = absurd plain
plain_fits (input.Answered a) plain = absurd plain
plain_fits _ plain = tt

plain_hand : (c : Cluster) (i : Input) → IsPlain i → HandKnown c (delivered_by i)
plain_hand c (input.Packet from m) plain = absurd plain
plain_hand c _ plain = tt

happening_known : (h : Header) (s : Scene) (x : Happening) → IsSmall h → MayHappen (first_cluster h) s x → Known h s x → SceneKnown (first_cluster h) s
    → SceneKnown (first_cluster h) (happened (first_cluster h) s x)
happening_known h s (Speaks e) size may b k = armed_known (first_cluster h) e (adding (Said (line.Event e)) s) (linked (first_cluster h) s (adding (Said (line.Event e)) s) refl k.flying k)
happening_known h s (Begins e) size may b k = linked (first_cluster h) s (adding (Part e) s) refl k.flying k
happening_known h s (Notes e) size may b k = linked (first_cluster h) s (telling (entry.Schedule e) s) refl k.flying k
happening_known h s (Takes n now ends i) size may b k =
    let c : Cluster = first_cluster h in
    taking_known h c s n now ends i b.whole.cluster.fits.devices.attached (devices_known h size) (ground_of c s b.stage) may.0 (plain_sent s.nodes i may.1) (plain_fits i may.1) (plain_hand c i may.1)
    (plain_may h c n now ends (s.nodes.node n) (s.nodes.disk n).kept i (plain_no i may.1) may.2 (b.stage.fits.nodes n)) (taking_good c s n now ends i b.next) k
happening_known h s (Arrives number x m now ends) size may b k =
    let c : Cluster = first_cluster h in
    let t : Scene = telling (entry.Packet (packet.Delivered number x.from x.to)) (removed s number) in
    taking_known h c t x.to now ends (input.Packet x.from m) b.whole.cluster.fits.devices.attached (devices_known h size) (ground_of c s b.stage) may.3 may.4 tt
    (among_known c x.from m.body s.nodes.sent may.4 k.nodes.sent)
    (plain_may h c x.to now ends (s.nodes.node x.to) (s.nodes.disk x.to).kept (input.Packet x.from m) tt may.5 (b.stage.fits.nodes x.to))
    (taking_good c t x.to now ends (input.Packet x.from m) b.next) (gone c s number (entry.Packet (packet.Delivered number x.from x.to)) k)
happening_known h s (Strays number x) size may b k = gone (first_cluster h) s number (entry.Packet (packet.Delivered number x.from x.to)) k
happening_known h s (Misses number x) size may b k = gone (first_cluster h) s number (entry.Packet (packet.Dropped number drop.Down)) k
happening_known h s (Loses number x) size may b k = gone (first_cluster h) s number (entry.Packet (packet.Lost number)) k
happening_known h s (Repeats number x) size may b k =
    let c : Cluster = first_cluster h in
    let o : links.Outcome = sending s.links x.from x.to x.bytes in
    let t : Scene = telling (entry.Packet (packet.Repeated number s.links.next)) (with_links s o.after) in
    dropped_known c o.sent.dropped t
    (linked c s t refl
    (sending_flying s.links x.from x.to x.bytes k.flying (all_found PacketTo (λ (p : Packet). p.number == number) s.links.packets x k.flying may.0)) k)
happening_known h s (Commands n d q now ends) size may b k =
    let c : Cluster = first_cluster h in
    let o : Commanded = commanded s n d q in
    let same : s.nodes ≡ o.scene.nodes = sym (commanded_nodes s n d (slice_get s.devices (d - 1)) q) in
    let after : After c s o = after_command c s n d q (due_keeps c s n d q (header_sized h size.few size.small) may.0.0 may.0.1 may.2 b.stage) b.known in
    taking_known h c o.scene n now ends (input.Answered o.answer) b.whole.cluster.fits.devices.attached (devices_known h size) (subst (Ground c) same (ground_of c s b.stage)) may.0 tt after.answer tt
    (answer_may h c n now ends (o.scene.nodes.node n) (o.scene.nodes.disk n).kept o.answer
    (subst (λ (v : Nodes). OwnKeysOnly h (v.node n) o.answer) same (due_own h s n d q (s.nodes.node n) b.whole may.2 (due_low c n (s.nodes.node n) d q (b.stage.fits.nodes n) may.2))))
    (taking_good c o.scene n now ends (input.Answered o.answer) b.next) (commanded_known c s n d (slice_get s.devices (d - 1)) q k)
happening_known h s (Writes n d value now ends) size may b k =
    let c : Cluster = first_cluster h in
    let o : Commanded = commanded s n d (command.Write value) in
    let same : s.nodes ≡ o.scene.nodes = sym (commanded_nodes s n d (slice_get s.devices (d - 1)) (command.Write value)) in
    let ground : Ground c o.scene.nodes = subst (Ground c) same (ground_of c s b.stage) in
    taking_known h c o.scene n now ends (input.Wrote d value o.answer) b.whole.cluster.fits.devices.attached (devices_known h size) ground may.0 tt tt tt
    (plain_may h c n now ends (o.scene.nodes.node n) (o.scene.nodes.disk n).kept (input.Wrote d value o.answer) tt may.2 (ground.fits.nodes n))
    (taking_good c o.scene n now ends (input.Wrote d value o.answer) b.next) (commanded_known c s n d (slice_get s.devices (d - 1)) (command.Write value) k)
happening_known h s (Refuses n d value cause) size may b k = linked (first_cluster h) s (telling (entry.Device (device.Refused n d value cause)) s) refl k.flying k

-- ---- what comes

among_fits : (from : ℕ) (b : Body) (letters : List Letter) → IsAmong from b letters → AllByRecursion LetterFits letters → BodyFits b
among_fits from b [] among fits = absurd among
among_fits from b (l ∷ letters) (inl here) fits = subst BodyFits here.1 fits.0.1
among_fits from b (l ∷ letters) (inr there) fits = among_fits from b letters there fits.1

comes_so : (h : Header) (s : Scene) (x : Happening) → IsSmall h → MayHappen (first_cluster h) s x → Stage (first_cluster h) s → SceneKnown (first_cluster h) s → ComesSo Comes (first_cluster h) s x
comes_so h s (Arrives number x m now ends) size may b k = record {
  fits = among_fits x.from m.body s.nodes.sent may.4 b.fits.sent;
  known = among_known (first_cluster h) x.from m.body s.nodes.sent may.4 k.nodes.sent;
  goes = all_found PacketTo (λ (p : Packet). p.number == number) s.links.packets x k.flying may.0 m may.1;
  small = (devices_known h size).small;
}
comes_so h s _ size may b k = tt

-- ---- runs

whole_at : (h : Header) (cells : ℕ) (s : Scene) → IsSmall h → IsReached h cells s → IsWhole (first_cluster h) s
whole_at h cells s size r = subst (IsWhole (first_cluster h)) r.is (runs_are_whole h cells r.happenings (runs_are_cut h cells r.happenings) size.few size.small r.may).scene

known_at : (h : Header) (cells : ℕ) (s : Scene) → IsSmall h → IsReached h cells s → KnownScene (first_cluster h) s
known_at h cells s size r = subst (KnownScene (first_cluster h)) r.is (run_known h cells r.happenings size.few size.small r.may)

run_on : (h : Header) (cells : ℕ) (s : Scene) (hs : List Happening) → IsSmall h → IsReached h cells s → MayAllHappen (first_cluster h) s hs → SceneKnown (first_cluster h) s
    → AllComeSo Comes (first_cluster h) s hs
run_on h cells s [] size at may k = tt
run_on h cells s (x ∷ hs) size at may k =
    let c : Cluster = first_cluster h in
    let then : IsReached h cells (happened c s x) = reached_more c (first_scene h cells) s x at may.0 in
    let b : Known h s x = record { stage = stage_of h cells s size at; whole = whole_at h cells s size at; known = known_at h cells s size at; next = stage_of h cells (happened c s x) size then } in (
      comes_so h s x size may.0 b.stage k,
      run_on h cells (happened c s x) hs size then may.1 (happening_known h s x size may.0 b k),
    )

first_known : (h : Header) (cells : ℕ) → IsSmall h → SceneKnown (first_cluster h) (first_scene h cells)
unfolding first_scene
first_known h cells size = record {
  nodes = record { sites = λ n. record { disk_so = first_valid_in (first_cluster h) n (devices_known h size); node_so = tt }; sent = tt };
  flying = tt;
}

-- what is known of each scene of a run
known_on : (h : Header) (cells : ℕ) (s : Scene) (hs : List Happening) → IsSmall h → IsReached h cells s → MayAllHappen (first_cluster h) s hs → SceneKnown (first_cluster h) s
    → SceneKnown (first_cluster h) (all_happened (first_cluster h) s hs)
known_on h cells s [] size at may k = k
known_on h cells s (x ∷ hs) size at may k =
    let c : Cluster = first_cluster h in
    let then : IsReached h cells (happened c s x) = reached_more c (first_scene h cells) s x at may.0 in
    let b : Known h s x = record { stage = stage_of h cells s size at; whole = whole_at h cells s size at; known = known_at h cells s size at; next = stage_of h cells (happened c s x) size then } in
    known_on h cells (happened c s x) hs size then may.1 (happening_known h s x size may.0 b k)

pub scene_known : (h : Header) (cells : ℕ) (hs : List Happening) → IsSmall h → MayAllHappen (first_cluster h) (first_scene h cells) hs → SceneKnown (first_cluster h) (all_happened (first_cluster h) (first_scene h cells) hs)
scene_known h cells hs size may = known_on h cells (first_scene h cells) hs size (record { happenings = []; may = tt; is = refl }) may (first_known h cells size)

sound_come : OfEachPacket Comes
sound_come h cells hs nodes few small may boots =
    let size : IsSmall h = record { few = few; small = small } in
    run_on h cells (first_scene h cells) hs size (record { happenings = []; may = tt; is = refl }) may (first_known h cells size)

-- ---- what is so of each packet by two laws

abbrev pub Judgement : Type 1
Judgement = Cluster → ℕ → Node → Body → Type 0

one_comes : (P Q : Judgement) (c : Cluster) (s : Scene) (x : Happening) → ((n : ℕ) (node : Node) (b : Body) → P c n node b → Q c n node b) → ComesSo P c s x → ComesSo Q c s x
one_comes P Q c s (Arrives number x m now ends) f h = f x.to (s.nodes.node x.to) m.body h
one_comes P Q c s _ f h = tt

all_come : (P Q : Judgement) (c : Cluster) (s : Scene) (hs : List Happening) → ((n : ℕ) (node : Node) (b : Body) → P c n node b → Q c n node b) → AllComeSo P c s hs → AllComeSo Q c s hs
all_come P Q c s [] f h = tt
all_come P Q c s (x ∷ hs) f h = (one_comes P Q c s x f h.0, all_come P Q c (happened c s x) hs f h.1)

two_come : (P Q R : Judgement) (c : Cluster) (s : Scene) (x : Happening) → ((n : ℕ) (node : Node) (b : Body) → P c n node b → Q c n node b → R c n node b) → ComesSo P c s x → ComesSo Q c s x
    → ComesSo R c s x
two_come P Q R c s (Arrives number x m now ends) f h k = f x.to (s.nodes.node x.to) m.body h k
two_come P Q R c s _ f h k = tt

pub both_come : (P Q R : Judgement) (c : Cluster) (s : Scene) (hs : List Happening) → ((n : ℕ) (node : Node) (b : Body) → P c n node b → Q c n node b → R c n node b) → AllComeSo P c s hs
    → AllComeSo Q c s hs → AllComeSo R c s hs
both_come P Q R c s [] f h k = tt
both_come P Q R c s (x ∷ hs) f h k = (two_come P Q R c s x f h.0 k.0, both_come P Q R c (happened c s x) hs f h.1 k.1)

of_each : (P : Judgement) → ((c : Cluster) (n : ℕ) (node : Node) (b : Body) → Comes c n node b → P c n node b) → OfEachPacket P
of_each P f h cells hs nodes few small may boots = all_come Comes P (first_cluster h) (first_scene h cells) hs (f (first_cluster h)) (sound_come h cells hs nodes few small may boots)

-- .. that names no stranger and brings no bad list of updates
abbrev Checked : Judgement
Checked c n node b = NamesNoStranger c n node b × BringsNoBadLog c n node b

checked_come : OfEachPacket Checked
checked_come h cells hs nodes few small may boots =
    both_come NamesNoStranger BringsNoBadLog Checked (first_cluster h) (first_scene h cells) hs (λ n node b names brings. (names, brings))
    (native.members_are_of_the_header h cells hs nodes few small may boots) (native.no_log_is_bad h cells hs nodes few small may boots)

of_checked : (P : Judgement) → ((c : Cluster) (n : ℕ) (node : Node) (b : Body) → Comes c n node b → Checked c n node b → P c n node b) → OfEachPacket P
of_checked P f h cells hs nodes few small may boots =
    both_come Comes Checked P (first_cluster h) (first_scene h cells) hs (f (first_cluster h)) (sound_come h cells hs nodes few small may boots) (checked_come h cells hs nodes few small may boots)

-- ---- the laws

pub seizeds_are_native : SeizedsAreNative
seizeds_are_native = of_each (IsNativeAs is_seized) (λ c n node b s. seized_native c n node b s)

pub readies_are_native : ReadiesAreNative
readies_are_native = of_each (IsNativeAs is_ready) (λ c n node b s. ready_native c n node b s)

pub promises_are_native : PromisesAreNative
promises_are_native = of_checked (IsNativeAs is_promise) (λ c n node b s checked. promise_native c n node b s checked.0 checked.1)

pub installs_are_native : InstallsAreNative
installs_are_native = of_checked (IsNativeAs is_install) (λ c n node b s checked. install_native c n node b s checked.0 checked.1)

pub answers_are_native : ToldCyclesHaveNames → AnswersAreNative
answers_are_native law = of_each (IsNativeAs is_answer) (λ c n node b s. answer_native law c n node b s)
