-- In each run the answer that an attempt has of another member which it asked last is that of the member's last Seized, until it installs.
use Rattle.std.specs.Prelude.{ℕ, ◌-◌, ◌≡◌, false, List, [], ◌∷◌, Option, None, Some, slice_get}
use Rattle.std.proofs.Common.{refl, sym, subst}
use Rattle.cl_base.specs.declared.header.Header.{Header}
use Rattle.cl_base.specs.declared.packet.DropCause.{DropCause}
use Rattle.cl_base.specs.declared.packet.DropCause.TheVariants as drop
use Rattle.cmm_attempt.proofs.Basics.{none_some}
use Rattle.cmm_attempt.specs.Attempts.{AttemptState}
use Rattle.history.specs.Contact.{AttemptsDiffer}
use Rattle.history.specs.Moment.{Moment, Part, Said, Told}
use Rattle.interconnect.specs.Links as net
use Rattle.interconnect.specs.Links.{Packet, packet_of, sending}
use Rattle.node_model.specs.declared.cluster.Cluster.{Cluster}
use Rattle.node_model.specs.declared.input.Input.{Input}
use Rattle.node_model.specs.declared.input.Input.TheVariants as input
use Rattle.node_model.specs.declared.node.Node.TheVariants.{Down, Up}
use Rattle.node_model.specs.declared.node.UpNode.{UpNode}
use Rattle.pgr_device.specs.Device.{Device}
use Rattle.pgr_device.specs.declared.command.PrCommand.{PrCommand}
use Rattle.pgr_device.specs.declared.command.PrCommand.TheVariants as command
use Rattle.refinement.proofs.Handlers.{delivered_by}
use Rattle.refinement.specs.Runs.{Nodes, moved}
use Rattle.refinement.specs.Runs.Move.{Arms}
use Rattle.schedule_text.specs.declared.event.Event.{Event}
use Rattle.schedule_text.specs.declared.event.Event.TheVariants as event
use Rattle.schedule_text.specs.declared.line.Line.TheVariants as line
use Rattle.status_report.specs.declared.device_entry.DeviceEntry.TheVariants as device
use Rattle.status_report.specs.declared.entry.Entry.TheVariants as entry
use Rattle.status_report.specs.declared.packet_entry.PacketEntry.TheVariants as packet
use Rattle.world_model.specs.First.{first_cluster}
use Rattle.world_model.specs.Lines.{left_by}
use Rattle.run_history.proofs.Reached.{reached_more}
use Rattle.run_history.specs.Happenings.{Arrives, Begins, Commands, Happening, IsPlain, Loses, MayAllHappen, MayHappen, Misses, Notes, Refuses, Repeats, Speaks, Strays, Takes as Takes_plain, Writes, all_happened, armed_by, commanded, commanded_at, happened, removed}
use Rattle.run_history.specs.Scenes.{Scene, adding, dropped_so, first_scene, telling, with_links}
use Rattle.run_messages.proofs.Reaching.{IsReached, IsSmall}
use Rattle.run_packets.proofs.views.Strays.{no_stray}
use Rattle.run_packets.specs.views.Laws.{NoneForeign, TellsHere}
use Rattle.run_outcomes.specs.saves.Kept.{IsAt}
use Rattle.run_outcomes.specs.tasks.Answers.{EntryHas, Has}
use Rattle.run_outcomes.specs.tasks.Laws.{SeizedsAreTold, SeizedsTold}
use Rattle.run_outcomes.proofs.phases.Promised.{HasIt, has_it}
use Rattle.run_outcomes.proofs.phases.Runs.{ways_at}
use Rattle.run_outcomes.proofs.phases.Taken.{Ways}
use Rattle.run_outcomes.proofs.seized.Lines.{copied_follows, follows_one, heard_by}
use Rattle.run_outcomes.proofs.seized.Quiet.{IsQuiet}
use Rattle.run_outcomes.proofs.seized.Scenes.{AllAnswered, Kept, Scened, scened_at, still}
use Rattle.run_outcomes.proofs.seized.Steps.{Comes_to, plainly, taking_kept}
use Rattle.run_outcomes.proofs.seized.Packets.{Packet_in, packet_in}

-- ---- each thing that happens

speaks_kept : (c : Cluster) (e : Event) (s : Scene)
    → (let t : Scene = armed_by c e (adding (Said (line.Event e)) s) in Scened c s → Ways t.nodes t.moments → AttemptsDiffer t.moments → Kept s.nodes s.moments → Kept t.nodes t.moments)
speaks_kept c (event.Fault n d done) s z u differ k = still c s s.nodes _ z refl refl u differ (follows_one (Said (line.Event (event.Fault n d done))) s.moments refl) k
speaks_kept c (event.CrashAt n calls choice) s z u differ k =
    still c s (moved c s.nodes (Arms n calls (left_by choice))) _ z refl refl u differ (follows_one (Said (line.Event (event.CrashAt n calls choice))) s.moments refl) k
speaks_kept c e s z u differ k = still c s s.nodes _ z refl refl u differ (follows_one (Said (line.Event e)) s.moments refl) k

commanded_so : (P : Nodes → List Moment → Type 0) (s : Scene) (n d : ℕ) (o : Option Device) (k : PrCommand) → P s.nodes s.moments → P (commanded_at s n d o k).scene.nodes (commanded_at s n d o k).scene.moments
commanded_so P s n d None k h = h
commanded_so P s n d (Some x) k h = h

copied_kept : (c : Cluster) (number : ℕ) (o : net.Outcome) (s : Scene)
    → (let t : Scene = dropped_so o.sent.dropped (telling (entry.Packet (packet.Repeated number s.links.next)) (with_links s o.after)) in
    Scened c s → Ways t.nodes t.moments → AttemptsDiffer t.moments → Kept s.nodes s.moments → Kept t.nodes t.moments)
copied_kept c number o s z u differ k =
    let q : Scene = telling (entry.Packet (packet.Repeated number s.links.next)) (with_links s o.after) in
    let t : Scene = dropped_so o.sent.dropped q in
    let same : t.nodes ≡ s.nodes = dropped_nodes o.sent.dropped q in
    subst (λ v. Kept v t.moments) (sym same) (still c s s.nodes t.moments z refl refl (subst (λ v. Ways v t.moments) same u) differ (copied_follows number o s) k)
  where
    dropped_nodes : (drop : Option (ℕ × DropCause)) (z : Scene) → (dropped_so drop z).nodes ≡ z.nodes
    dropped_nodes None z = refl
    dropped_nodes (Some x) z = refl

plain_quiet : (i : Input) → IsPlain i → IsQuiet (delivered_by i)
plain_quiet (input.Packet from m) is = absurd is
plain_quiet input.Boot is = tt
plain_quiet input.Crash is = tt
plain_quiet input.Tick is = tt
plain_quiet input.CommandDue is = tt
plain_quiet (input.Answered a) is = tt
plain_quiet (input.Wrote d value a) is = tt
plain_quiet (input.Commanded words) is = tt
plain_quiet (input.Reported r good) is = tt
plain_quiet (input.Client name client port) is = tt

happening_kept : (c : Cluster) (s : Scene) (x : Happening) → MayHappen c s x → TellsHere c s (λ before. false) x → Scened c s → Ways (happened c s x).nodes (happened c s x).moments → AttemptsDiffer (happened c s x).moments
    → Kept s.nodes s.moments → Kept (happened c s x).nodes (happened c s x).moments
happening_kept c s (Speaks e) may native z u differ k = speaks_kept c e s z u differ k
happening_kept c s (Begins e) may native z u differ k = still c s s.nodes _ z refl refl u differ (follows_one (Part e) s.moments refl) k
happening_kept c s (Notes e) may native z u differ k = still c s s.nodes _ z refl refl u differ (follows_one (Told (entry.Schedule e)) s.moments refl) k
happening_kept c s (Takes_plain n now ends i) may native z u differ k = taking_kept c n now ends i s (plainly c s n i z may.0.1 (plain_quiet i may.1) k) u differ
happening_kept c s (Arrives number x m now ends) may native z u differ k =
    let p : Packet_in c s number x m = record { found = may.0; read = may.1; up = may.2; node = may.3.1; among = may.4; native = sym native } in
    taking_kept c x.to now ends (input.Packet x.from m) (telling (entry.Packet (packet.Delivered number x.from x.to)) (removed s number)) (packet_in c s number x m p z k) u differ
happening_kept c s (Strays number x) may native z u differ k = absurd (no_stray c s number x may.0 may.1 z.knows.known z.knows.spelled)
happening_kept c s (Misses number x) may native z u differ k = still c s s.nodes _ z refl refl u differ (follows_one (Told (entry.Packet (packet.Dropped number drop.Down))) s.moments refl) k
happening_kept c s (Loses number x) may native z u differ k = still c s s.nodes _ z refl refl u differ (follows_one (Told (entry.Packet (packet.Lost number))) s.moments refl) k
happening_kept c s (Repeats number x) may native z u differ k = copied_kept c number (sending s.links x.from x.to x.bytes) s z u differ k
happening_kept c s (Commands n d q now ends) may native z u differ k =
    let o : Option Device = slice_get s.devices (d - 1) in
    let i : Input = input.Answered (commanded s n d q).answer in
    taking_kept c n now ends i (commanded s n d q).scene (commanded_so (Comes_to c n i) s n d o q (plainly c s n i z may.0.1 tt k)) u differ
happening_kept c s (Writes n d value now ends) may native z u differ k =
    let o : Option Device = slice_get s.devices (d - 1) in
    let q : PrCommand = command.Write value in
    let i : Input = input.Wrote d value (commanded s n d q).answer in
    taking_kept c n now ends i (commanded s n d q).scene (commanded_so (Comes_to c n i) s n d o q (plainly c s n i z may.0.1 tt k)) u differ
happening_kept c s (Refuses n d value why) may native z u differ k = still c s s.nodes _ z refl refl u differ (follows_one (Told (entry.Device (device.Refused n d value why))) s.moments refl) k

-- ---- runs

run_on : (h : Header) (cells : ℕ) (s : Scene) (hs : List Happening) → IsSmall h → IsReached h cells s → MayAllHappen (first_cluster h) s hs → NoneForeign (first_cluster h) s hs → Kept s.nodes s.moments
    → Kept (all_happened (first_cluster h) s hs).nodes (all_happened (first_cluster h) s hs).moments
run_on h cells s [] size at may native k = k
run_on h cells s (x ∷ hs) size at may native k =
    let c : Cluster = first_cluster h in
    let more : IsReached h cells (happened c s x) = reached_more c (first_scene h cells) s x at may.0 in
    let z : Scened c (happened c s x) = scened_at h cells (happened c s x) size more in
    run_on h cells (happened c s x) hs size more may.1 native.1 (happening_kept c s x may.0 native.0 (scened_at h cells s size at) (ways_at c (happened c s x) z.knows) z.differ k)

none_up : (x : UpNode) → Down ≡ Up x → ⊥
none_up x is = subst (IsAt (λ y. ⊥)) is tt

first_kept : (h : Header) (cells : ℕ) → Kept (first_scene h cells).nodes (first_scene h cells).moments
unfolding first_scene
first_kept h cells = record { answered = λ n x a up has. absurd (none_up x up); sent = λ e d m r is. absurd (none_some r is) }

pub run_answered : (h : Header) (cells : ℕ) (hs : List Happening) → IsSmall h → MayAllHappen (first_cluster h) (first_scene h cells) hs → NoneForeign (first_cluster h) (first_scene h cells) hs
    → Kept (all_happened (first_cluster h) (first_scene h cells) hs).nodes (all_happened (first_cluster h) (first_scene h cells) hs).moments
run_answered h cells hs size may native = run_on h cells (first_scene h cells) hs size (record { happenings = []; may = tt; is = refl }) may native (first_kept h cells)

-- ---- the law

-- of a scene
seizeds_told : (s : Scene) (n : ℕ) (a : AttemptState) → AllAnswered s.nodes s.moments → HasIt (s.nodes.node n) a → SeizedsTold a s.moments
seizeds_told s n a all it before d m e there seizer ne =
    let k : Has (heard_by a.plan.epoch s.moments) a = (all n it.x a it.up it.has).has before in
    (subst (EntryHas (heard_by a.plan.epoch s.moments) a.plan.coordinator d) there (k.entries d) m).0 seizer ne

pub seizeds_are_told : SeizedsAreTold
seizeds_are_told h cells hs last few small disks may shaped native n a at =
    let s : Scene = all_happened (first_cluster h) (first_scene h cells) hs in
    seizeds_told s n a (run_answered h cells hs (record { few = few; small = small }) may native).answered (has_it (s.nodes.node n) a at)
