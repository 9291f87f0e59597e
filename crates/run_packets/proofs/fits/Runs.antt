-- In each run no disk fails.
use Rattle.std.specs.Prelude.{ℕ, ◌-◌, ◌≡◌, ◌<◌, ◌≤◌, true, List, [], ◌∷◌, length, Option, None, Some, slice_get}
use Rattle.std.specs.List.{AllByRecursion}
use Rattle.std.proofs.Common.{refl, sym, subst, ◌∙◌, arith}
use Rattle.cl_base.proofs.SetLemmas.{none_of_zero}
use Rattle.cl_base.specs.declared.header.Header.{Header}
use Rattle.cl_base.specs.declared.method.Outcome as method
use Rattle.cl_base.specs.declared.packet.DropCause.{DropCause}
use Rattle.cl_base.specs.declared.packet.DropCause.TheVariants as drop
use Rattle.cmm_attempt.proofs.Basics.{false_true}
use Rattle.history.specs.Moment.{Moment, Part, Said, Told}
use Rattle.interconnect.specs.Links as links
use Rattle.interconnect.specs.Links.{Packet, sending}
use Rattle.local_disk.specs.declared.memory.Choice.{Choice}
use Rattle.machine_base.proofs.Puts.{put_cases}
use Rattle.machine_base.specs.Put.{put}
use Rattle.membership_machine.proofs.Preserved.{first_holds}
use Rattle.membership_machine.specs.State.{first_memberships}
use Rattle.node_model.specs.declared.cluster.Cluster.{Cluster}
use Rattle.node_model.specs.declared.input.Input.{Input}
use Rattle.node_model.specs.declared.input.Input.TheVariants as input
use Rattle.pgr_device.specs.Device.{Device}
use Rattle.pgr_device.specs.declared.command.PrCommand.{PrCommand}
use Rattle.pgr_device.specs.declared.command.PrCommand.TheVariants as command
use Rattle.record_disk.specs.Disks.{DiskState, armed}
use Rattle.refinement.proofs.Handlers.{delivered_by}
use Rattle.refinement.proofs.Logs.{no_updates}
use Rattle.refinement.specs.Runs.{Nodes, WasSent, moved}
use Rattle.refinement.specs.Runs.Move.{Arms, Takes as Takes_in}
use Rattle.refinement.specs.Ties.{setting_of}
use Rattle.refinement.specs.Whole.{Stands}
use Rattle.run_history.proofs.Idle.{passing_nodes}
use Rattle.run_history.proofs.Known.{AllName, first_listed, listed_is, moved_name}
use Rattle.run_history.proofs.Reached.{reached_more}
use Rattle.run_history.specs.Happenings.{Arrives, Begins, Commanded, Commands, Happening, IsPlain, Loses, MayAllHappen, MayHappen, Misses, Notes, Refuses, Repeats, Speaks, Strays, Takes, Writes, all_happened, armed_by, commanded, commanded_at, given_by, happened, removed, taking}
use Rattle.run_history.specs.Scenes.{Scene, adding, dropped_so, first_scene, telling, with_links}
use Rattle.run_history.specs.WorldLines.{IsDevice}
use Rattle.run_messages.proofs.Reaching.{IsReached, IsSmall, stage_of}
use Rattle.run_packets.proofs.native.Moves.{among_named}
use Rattle.run_packets.proofs.native.Runs.{Known, first_named, happening_named, whole_at}
use Rattle.run_packets.specs.native.Laws.{BootsInHeader}
use Rattle.run_packets.specs.native.Named.{HandNamed, RunNamed, SceneNamed}
use Rattle.run_messages.proofs.records.Sizes.{header_sized}
use Rattle.schedule_text.specs.declared.event.Event.{Event}
use Rattle.schedule_text.specs.declared.event.Event.TheVariants as event
use Rattle.schedule_text.specs.declared.line.Line.TheVariants as line
use Rattle.status_report.specs.declared.device_entry.DeviceEntry.TheVariants as device
use Rattle.status_report.specs.declared.entry.Entry.TheVariants as entry
use Rattle.status_report.specs.declared.packet_entry.PacketEntry.TheVariants as packet
use Rattle.wire.specs.Spelling.{IsNode}
use Rattle.world_model.specs.First.{first_cluster}
use Rattle.world_model.specs.Lines.{left_by}
use Rattle.run_packets.proofs.fits.Machine.{first_room}
use Rattle.run_packets.proofs.fits.Sets.{Numbered, first_valid_listed}
use Rattle.run_packets.proofs.fits.Steps.{Grown, Sized, Stepped, step_grown}
use Rattle.run_packets.proofs.fits.Told.{Disks, DisksWhile, line_disks, taking_disks}
use Rattle.run_packets.specs.fits.Known.{IfUp, RecordIn}
use Rattle.run_packets.specs.fits.Laws.{NoDiskFails, NoDiskFailsInEachRun}

-- what is so of each scene, beside what it names
pub record Fitting (c : Cluster) (v : Nodes) (ms : List Moment) : Type 0 where
  pub names : AllName c v
  pub grown : Grown c v
  pub disks : DisksWhile v ms

-- ---- the cluster

numbered : (h : Header) → length h.devices ≤ 16 → Numbered (first_cluster h)
numbered h few d is = let k : IsDevice h d = listed_is h d few is in (k.0, within d (length h.devices) k.1 few)
  where
    within : (a b : ℕ) → a ≤ b → b ≤ 16 → a ≤ 32
    within a b l m = omega (arith, l, m)

pub sized : (h : Header) → IsSmall h → Sized (first_cluster h)
sized h size = record { fits = (header_sized h size.few size.small).fits.devices.attached; numbered = numbered h size.few; listed = first_listed h size.few }

-- ---- what comes

plain_sent : (w : Nodes) (i : Input) → IsPlain i → WasSent w i
plain_sent w (input.Packet from m) h = absurd h
plain_sent w _ h = tt

plain_hand : (c : Cluster) (i : Input) → IsPlain i → HandNamed c (delivered_by i)
plain_hand c (input.Packet from m) plain = absurd plain
plain_hand c _ plain = tt

taking_fits : (c : Cluster) (n now : ℕ) (ends : method.Outcome) (i : Input) (s : Scene) → Sized c → IsNode n → WasSent s.nodes i → RunNamed c s.nodes → HandNamed c (delivered_by i) → Fitting c s.nodes s.moments
    → Fitting c (taking c n now ends i s).nodes (taking c n now ends i s).moments
taking_fits c n now ends i s size is was named hand f =
    let t : Scene = record s { nodes = moved c s.nodes (Takes_in n now ends i) } in
    let z : Stepped c n now ends i s.nodes = step_grown c n now ends i s.nodes size is was named f.names hand f.grown in
    let same : (taking c n now ends i s).nodes ≡ moved c s.nodes (Takes_in n now ends i) = passing_nodes n (given_by c n now ends i s.nodes) t in
    record {
      names = subst (AllName c) (sym same) (moved_name c s.nodes n now ends i size.listed f.names);
      grown = subst (Grown c) (sym same) z.grown;
      disks = taking_disks c n now ends i s z.fits f.disks;
    }

-- ---- lines of the world

line_fits : (c : Cluster) (v : Nodes) (ms : List Moment) (x : Moment) → NoDiskFails ms x → Fitting c v ms → Fitting c v (x ∷ ms)
line_fits c v ms x so f = record { names = f.names; grown = f.grown; disks = line_disks v ms x so f.disks }

dropped_fits : (c : Cluster) (o : Option (ℕ × DropCause)) (s : Scene) → Fitting c s.nodes s.moments → Fitting c (dropped_so o s).nodes (dropped_so o s).moments
dropped_fits c None s f = f
dropped_fits c (Some drop) s f = line_fits c s.nodes s.moments (Told (entry.Packet (packet.Dropped drop.0 drop.1))) tt f

-- a stop that is armed leaves the record, and whether the disk is mounted
arm_all : (P : ℕ → DiskState → Type 0) (v : Nodes) (n calls : ℕ) (choice : Choice) → P n (armed (v.disk n) calls choice) → ((k : ℕ) → P k (v.disk k)) → (k : ℕ) → P k (put v.disk n (armed (v.disk n) calls choice) k)
arm_all P v n calls choice here all = put_cases P v.disk n (armed (v.disk n) calls choice) here (λ k ne. all k)

arms_fit : (c : Cluster) (v : Nodes) (n calls : ℕ) (choice : Choice) (ms : List Moment) → Fitting c v ms → Fitting c (moved c v (Arms n calls choice)) ms
arms_fit c v n calls choice ms f = record {
  names = f.names;
  grown = record {
    machine = f.grown.machine;
    holds = f.grown.holds;
    stands = arm_all (λ k (d : DiskState). Stands c f.grown.machine k (v.node k) d.kept) v n calls choice (f.grown.stands n) f.grown.stands;
    sent = f.grown.sent;
    rooms = f.grown.rooms;
    records = arm_all (λ k (d : DiskState). RecordIn c k d.kept) v n calls choice (f.grown.records n) f.grown.records;
  };
  disks = λ few. (
      let k : Disks v ms = f.disks few in
      record {
        saves = arm_all (λ j (d : DiskState). d.saves ≤ length ms) v n calls choice (k.saves n) k.saves;
        mounted = arm_all (λ j (d : DiskState). IfUp (λ x. d.mounted ≡ true) (v.node j)) v n calls choice (k.mounted n) k.mounted;
        none = k.none;
      });
}

armed_fits : (c : Cluster) (e : Event) (s : Scene) → Fitting c s.nodes s.moments → Fitting c (armed_by c e s).nodes (armed_by c e s).moments
armed_fits c (event.CrashAt n calls choice) s f = arms_fit c s.nodes n calls (left_by choice) s.moments f
armed_fits c (event.Fault n d done) s f = f
armed_fits c _ s f = f

commanded_nodes : (s : Scene) (n d : ℕ) (o : Option Device) (k : PrCommand) → (commanded_at s n d o k).scene.nodes ≡ s.nodes
commanded_nodes s n d None k = refl
commanded_nodes s n d (Some x) k = refl

commanded_fits : (c : Cluster) (s : Scene) (n d : ℕ) (o : Option Device) (q : PrCommand) → Fitting c s.nodes s.moments → Fitting c (commanded_at s n d o q).scene.nodes (commanded_at s n d o q).scene.moments
commanded_fits c s n d None q f = f
commanded_fits c s n d (Some x) q f = f

-- ---- each thing that happens

pub happening_fits : (c : Cluster) (s : Scene) (x : Happening) → Sized c → MayHappen c s x → SceneNamed c s → Fitting c s.nodes s.moments → Fitting c (happened c s x).nodes (happened c s x).moments
happening_fits c s (Speaks e) size may named f = armed_fits c e (adding (Said (line.Event e)) s) (line_fits c s.nodes s.moments (Said (line.Event e)) tt f)
happening_fits c s (Begins e) size may named f = line_fits c s.nodes s.moments (Part e) tt f
happening_fits c s (Notes e) size may named f = line_fits c s.nodes s.moments (Told (entry.Schedule e)) tt f
happening_fits c s (Takes n now ends i) size may named f = taking_fits c n now ends i s size may.0 (plain_sent s.nodes i may.1) named.nodes (plain_hand c i may.1) f
happening_fits c s (Arrives number x m now ends) size may named f =
    let t : Scene = telling (entry.Packet (packet.Delivered number x.from x.to)) (removed s number) in
    taking_fits c x.to now ends (input.Packet x.from m) t size may.3 may.4 named.nodes (among_named c x.from m.body s.nodes.sent may.4 named.nodes.sent)
    (line_fits c s.nodes s.moments (Told (entry.Packet (packet.Delivered number x.from x.to))) tt f)
happening_fits c s (Strays number x) size may named f = line_fits c s.nodes s.moments (Told (entry.Packet (packet.Delivered number x.from x.to))) tt f
happening_fits c s (Misses number x) size may named f = line_fits c s.nodes s.moments (Told (entry.Packet (packet.Dropped number drop.Down))) tt f
happening_fits c s (Loses number x) size may named f = line_fits c s.nodes s.moments (Told (entry.Packet (packet.Lost number))) tt f
happening_fits c s (Repeats number x) size may named f =
    let o : links.Outcome = sending s.links x.from x.to x.bytes in
    let t : Scene = telling (entry.Packet (packet.Repeated number s.links.next)) (with_links s o.after) in
    dropped_fits c o.sent.dropped t (line_fits c s.nodes s.moments (Told (entry.Packet (packet.Repeated number s.links.next))) tt f)
happening_fits c s (Commands n d q now ends) size may named f =
    let o : Commanded = commanded s n d q in
    let same : s.nodes ≡ o.scene.nodes = sym (commanded_nodes s n d (slice_get s.devices (d - 1)) q) in
    taking_fits c n now ends (input.Answered o.answer) o.scene size may.0 tt (subst (RunNamed c) same named.nodes) tt (commanded_fits c s n d (slice_get s.devices (d - 1)) q f)
happening_fits c s (Writes n d value now ends) size may named f =
    let o : Commanded = commanded s n d (command.Write value) in
    let same : s.nodes ≡ o.scene.nodes = sym (commanded_nodes s n d (slice_get s.devices (d - 1)) (command.Write value)) in
    taking_fits c n now ends (input.Wrote d value o.answer) o.scene size may.0 tt (subst (RunNamed c) same named.nodes) tt (commanded_fits c s n d (slice_get s.devices (d - 1)) (command.Write value) f)
happening_fits c s (Refuses n d value cause) size may named f = line_fits c s.nodes s.moments (Told (entry.Device (device.Refused n d value cause))) tt f

-- ---- runs

pub first_fits : (h : Header) (cells : ℕ) → IsSmall h → Fitting (first_cluster h) (first_scene h cells).nodes (first_scene h cells).moments
unfolding first_scene
first_fits h cells size =
    let c : Cluster = first_cluster h in
    record {
      names = λ k. tt;
      grown = record {
        machine = first_memberships;
        holds = first_holds (setting_of c);
        stands = λ n. record { tied = (record { promised = refl; saved = refl; session = refl; member = refl }, no_updates c); joins = tt };
        sent = tt;
        rooms = first_room c.nodes c.devices;
        records = λ n. record { members = λ k is. absurd (false_true (sym (none_of_zero k) ∙ is)); valid = first_valid_listed c n (numbered h size.few) (first_listed h size.few); own = λ some. absurd (none_below some) };
      };
      disks = λ few. record { saves = λ n. omega arith; mounted = λ n. tt; none = tt };
    }
  where
    none_below : 0 < 0 → ⊥
    none_below e = omega (arith, e)

run_fits : (h : Header) (cells : ℕ) (s : Scene) (hs : List Happening) → h.nodes ≤ 32 → IsSmall h → IsReached h cells s → MayAllHappen (first_cluster h) s hs → AllByRecursion (BootsInHeader h) hs → SceneNamed (first_cluster h) s
    → Fitting (first_cluster h) s.nodes s.moments → (let t : Scene = all_happened (first_cluster h) s hs in Fitting (first_cluster h) t.nodes t.moments)
run_fits h cells s [] few size at may boots named f = f
run_fits h cells s (x ∷ hs) few size at may boots named f =
    let c : Cluster = first_cluster h in
    let next : IsReached h cells (happened c s x) = reached_more c (first_scene h cells) s x at may.0 in
    let b : Known h s x = record { stage = stage_of h cells s size at; whole = whole_at h cells s size at; next = stage_of h cells (happened c s x) size next } in
    run_fits h cells (happened c s x) hs few size next may.1 boots.1 (happening_named h s x few size may.0 boots.0 b named) (happening_fits c s x (sized h size) may.0 named f)

pub no_disk_fails_in_each_run : NoDiskFailsInEachRun
no_disk_fails_in_each_run h cells hs nodes few small may boots short =
    let size : IsSmall h = record { few = few; small = small } in
    ((run_fits h cells (first_scene h cells) hs nodes size (record { happenings = []; may = tt; is = refl }) may boots (first_named h cells) (first_fits h cells size)).disks short).none
