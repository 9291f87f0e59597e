-- In each run an attempt has taken what Promises came, as long as it collects.
use Rattle.std.specs.Prelude.{ℕ, ◌-◌, ◌≡◌, true, false, List, [], ◌∷◌, Option, None, Some, slice_get}
use Rattle.std.proofs.Common.{refl, sym, ap, subst, ◌∙◌}
use Rattle.cl_base.specs.declared.header.Header.{Header}
use Rattle.cl_base.specs.declared.packet.DropCause.{DropCause}
use Rattle.cl_base.specs.declared.packet.DropCause.TheVariants as drop
use Rattle.cmm_attempt.proofs.Basics.{none_some}
use Rattle.cmm_attempt.specs.Attempts.{AttemptState}
use Rattle.history.specs.Contents.{Spelled}
use Rattle.history.specs.Moment.{Moment, Part, Said, Told}
use Rattle.history.specs.Queue as told
use Rattle.history.specs.Setting.{coordinator}
use Rattle.history.specs.Trace.{delivered}
use Rattle.interconnect.specs.Links as net
use Rattle.interconnect.specs.Links.{Packet, packet_of, sending}
use Rattle.cmm_member.specs.Records.{NodeRecord}
use Rattle.membership_machine.specs.State.{Memberships}
use Rattle.node_model.specs.Seats.{record_of}
use Rattle.node_model.specs.declared.cluster.Cluster.{Cluster}
use Rattle.node_model.specs.declared.input.Input.{Input}
use Rattle.node_model.specs.declared.input.Input.TheVariants as input
use Rattle.node_model.specs.declared.node.Node.TheVariants.{Down, Up}
use Rattle.node_model.specs.declared.node.UpNode.{UpNode}
use Rattle.node_model.specs.declared.presidency.Presidency.{Presidency}
use Rattle.node_model.specs.declared.seat.Seat.{Seat}
use Rattle.node_model.specs.declared.seat.Seat.TheVariants.{Forming, Member}
use Rattle.pgr_device.specs.Device.{Device}
use Rattle.pgr_device.specs.declared.command.PrCommand.{PrCommand}
use Rattle.pgr_device.specs.declared.command.PrCommand.TheVariants as command
use Rattle.refinement.specs.Runs.{Nodes, moved}
use Rattle.refinement.specs.Runs.Move.{Arms}
use Rattle.refinement.specs.Ties.{NodeTied, PresidentTied, SeatTied}
use Rattle.schedule_text.specs.declared.event.Event.{Event}
use Rattle.schedule_text.specs.declared.event.Event.TheVariants as event
use Rattle.schedule_text.specs.declared.line.Line.TheVariants as line
use Rattle.status_report.specs.declared.device_entry.DeviceEntry.TheVariants as device
use Rattle.status_report.specs.declared.entry.Entry.TheVariants as entry
use Rattle.status_report.specs.declared.packet_entry.PacketEntry.TheVariants as packet
use Rattle.wire.specs.Reads.{whole_of}
use Rattle.wire.specs.declared.message.Message.{Message}
use Rattle.world_model.specs.First.{first_cluster}
use Rattle.world_model.specs.Lines.{left_by}
use Rattle.run_attempts.proofs.Known.{known_scene}
use Rattle.run_attempts.specs.endings.Laws.{HaveTheirAttempts}
use Rattle.run_attempts.proofs.endings.Runs.{nodes_have_their_attempts_in_each_run}
use Rattle.run_history.proofs.Reached.{reached_more}
use Rattle.run_history.specs.Happenings.{Arrives, Begins, Commands, Happening, IsPlain, Loses, MayAllHappen, MayHappen, Misses, Notes, Refuses, Repeats, Speaks, Strays, Takes as Takes_plain, Writes, all_happened, armed_by, commanded, commanded_at, happened, removed}
use Rattle.run_history.specs.Scenes.{Scene, adding, dropped_so, first_scene, telling, with_links}
use Rattle.run_messages.proofs.Reaching.{IsReached, IsSmall}
use Rattle.run_messages.proofs.Spelling.{spelled_of_each_run}
use Rattle.run_messages.specs.records.Kept.{AttemptIn, Came, KnownScene, NodeKept}
use Rattle.run_messages.proofs.records.Arrivals.{arrived_kept}
use Rattle.run_messages.proofs.records.Letters.{letter_sound}
use Rattle.run_outcomes.specs.saves.Kept.{IsAt}
use Rattle.run_packets.proofs.views.Strays.{no_stray}
use Rattle.run_packets.specs.views.Laws.{NoneForeign, TellsHere, is_foreign_to}
use Rattle.run_outcomes.specs.phases.Kept.{AllTake, GathersIn}
use Rattle.run_outcomes.proofs.phases.Arrivals.{arrives, elsewhere}
use Rattle.run_outcomes.proofs.phases.Lines.{copied_follows, follows_one}
use Rattle.run_outcomes.proofs.phases.Steps.{Comes}
use Rattle.run_outcomes.proofs.phases.Taken.{AllIn, Comes_to, Ways, still, takes_same, taking_in}

-- ---- what is known of a scene

pub record Knows (c : Cluster) (s : Scene) : Type 0 where
  pub known : KnownScene c s
  pub theirs : HaveTheirAttempts s
  pub spelled : Spelled s.moments

own_by : (M : Memberships) (ms : List Moment) (n : ℕ) (r : NodeRecord) (o : Option AttemptState) (a : AttemptState) → AttemptIn M ms n r o → o ≡ Some a → coordinator a.plan.epoch ≡ n
own_by M ms n r o a h is = (subst (AttemptIn M ms n r) is h).own

pub ways_at : (c : Cluster) (s : Scene) → Knows c s → Ways s.nodes s.moments
ways_at c s k = record {
  theirs = k.theirs;
  own = λ n x a up has. own_by k.known.stage.machine s.moments n (record_of x) x.attempt a (subst (NodeKept k.known.stage.machine s.moments n) up (k.known.at n).up).attempt has;
}

none_by : (c : Cluster) (M : Memberships) (n : ℕ) (disk : NodeRecord) (a : AttemptState) (o : Option AttemptState) (p : Option Presidency) (seat : Seat) → SeatTied c M n disk o seat → PresidentTied M n p seat → o ≡ Some a → p ≡ None
none_by c M n disk a o None seat tied presides has = refl
none_by c M n disk a o (Some p) (Forming s) tied presides has = absurd presides
none_by c M n disk a o (Some p) (Member s) tied presides has = absurd (none_some a (sym tied.2 ∙ has))

pub none_at : (c : Cluster) (s : Scene) (n : ℕ) (x : UpNode) (a : AttemptState) → Knows c s → s.nodes.node n ≡ Up x → x.attempt ≡ Some a → x.presidency ≡ None
none_at c s n x a k up has =
    let M : Memberships = k.known.stage.machine in
    let tied : NodeTied c M n (s.nodes.disk n).kept (Up x) = subst (NodeTied c M n (s.nodes.disk n).kept) up (k.known.stage.stands n).tied in
    none_by c M n (s.nodes.disk n).kept a x.attempt x.presidency x.seat tied.0 tied.1 has

pub plain_comes : (I : AttemptState → Type 0) (c : Cluster) (n : ℕ) (x : UpNode) (a : AttemptState) (i : Input) → IsPlain i → I a → Comes I c n x a i
plain_comes I c n x a (input.Packet from m) plain h = absurd plain
plain_comes I c n x a _ plain h = h

-- ---- each thing that happens

speaks_in : (c : Cluster) (e : Event) (s : Scene) → (let t : Scene = armed_by c e (adding (Said (line.Event e)) s) in Ways t.nodes t.moments → AllIn s.nodes s.moments → AllIn t.nodes t.moments)
speaks_in c (event.Fault n d done) s w h = still s.nodes s.moments _ w (follows_one (Said (line.Event (event.Fault n d done))) s.moments refl) h
speaks_in c (event.CrashAt n calls choice) s w h = still (moved c s.nodes (Arms n calls (left_by choice))) s.moments _ w (follows_one (Said (line.Event (event.CrashAt n calls choice))) s.moments refl) h
speaks_in c e s w h = still s.nodes s.moments _ w (follows_one (Said (line.Event e)) s.moments refl) h

pub commanded_so : (P : Nodes → List Moment → Type 0) (s : Scene) (n d : ℕ) (o : Option Device) (k : PrCommand) → P s.nodes s.moments → P (commanded_at s n d o k).scene.nodes (commanded_at s n d o k).scene.moments
commanded_so P s n d None k h = h
commanded_so P s n d (Some x) k h = h

-- what is no packet comes to node n
plainly : (c : Cluster) (s : Scene) (n : ℕ) (i : Input) → ((x : UpNode) (a : AttemptState) (I : AttemptState → Type 0) → I a → Comes I c n x a i) → Knows c s → AllIn s.nodes s.moments → Comes_to c n i s.nodes s.moments
plainly c s n i f k h = record {
  none = λ x a up has. none_at c s n x a k up has;
  here = λ x a up has. f x a (GathersIn a.plan.epoch (λ j. told.has_promised a.plan.epoch s.moments j ≡ true)) (refl, h n x a up has);
  there = λ j x a ne up has. h j x a up has;
}

-- a packet comes to node n
packet_in : (c : Cluster) (s : Scene) (number : ℕ) (x : Packet) (m : Message) → packet_of s.links.packets number ≡ Some x → whole_of x.bytes ≡ Some m → false ≡ is_foreign_to c x.to (s.nodes.node x.to) m.body → Knows c s → AllIn s.nodes s.moments
    → Comes_to c x.to (input.Packet x.from m) s.nodes (delivered number x.from x.to ∷ s.moments)
packet_in c s number x m at read native k h = record {
  none = λ y a up has. none_at c s x.to y a k up has;
  here = λ y a up has. (arrives k.known.stage.machine a.plan.epoch number x.from x.to s.moments a m came (letter_sound k.known.stage.machine number s.moments came.letter k.known.sound came.here) (refl, h x.to y a up has), sym (native ∙ ap (λ z. is_foreign_to c x.to z m.body) up));
  there = λ j y a ne up has. takes_same s.moments (delivered number x.from x.to ∷ s.moments) a
      (elsewhere a.plan.epoch number x.from x.to s.moments came.letter came.here came.receiver (λ own. ne (sym ((ways_at c s k).own j y a up has) ∙ own))) (h j y a up has);
}
  where
    came : Came (delivered number x.from x.to ∷ s.moments) x.to x.from m.body
    came = arrived_kept c s number x m at read k.known

copied_in : (number : ℕ) (o : net.Outcome) (s : Scene) → (let t : Scene = dropped_so o.sent.dropped (telling (entry.Packet (packet.Repeated number s.links.next)) (with_links s o.after)) in Ways t.nodes t.moments → AllIn s.nodes s.moments → AllIn t.nodes t.moments)
copied_in number o s u h =
    let q : Scene = telling (entry.Packet (packet.Repeated number s.links.next)) (with_links s o.after) in
    let t : Scene = dropped_so o.sent.dropped q in
    let same : t.nodes ≡ s.nodes = dropped_nodes o.sent.dropped q in
    subst (λ v. AllIn v t.moments) (sym same) (still s.nodes s.moments t.moments (subst (λ v. Ways v t.moments) same u) (copied_follows number o s) h)
  where
    dropped_nodes : (drop : Option (ℕ × DropCause)) (z : Scene) → (dropped_so drop z).nodes ≡ z.nodes
    dropped_nodes None z = refl
    dropped_nodes (Some x) z = refl

happening_in : (c : Cluster) (s : Scene) (x : Happening) → MayHappen c s x → TellsHere c s (λ before. false) x → Knows c s → Ways (happened c s x).nodes (happened c s x).moments → AllIn s.nodes s.moments → AllIn (happened c s x).nodes (happened c s x).moments
happening_in c s (Speaks e) may native k u h = speaks_in c e s u h
happening_in c s (Begins e) may native k u h = still s.nodes s.moments _ u (follows_one (Part e) s.moments refl) h
happening_in c s (Notes e) may native k u h = still s.nodes s.moments _ u (follows_one (Told (entry.Schedule e)) s.moments refl) h
happening_in c s (Takes_plain n now ends i) may native k u h = taking_in c n now ends i s (ways_at c s k) u (plainly c s n i (λ x a I here. plain_comes I c n x a i may.1 here) k h)
happening_in c s (Arrives number x m now ends) may native k u h =
    let w : Ways s.nodes s.moments = ways_at c s k in
    let t : Scene = telling (entry.Packet (packet.Delivered number x.from x.to)) (removed s number) in
    taking_in c x.to now ends (input.Packet x.from m) t (record { theirs = w.theirs; own = w.own }) u (packet_in c s number x m may.0 may.1 native k h)
happening_in c s (Strays number x) may native k u h = absurd (no_stray c s number x may.0 may.1 k.known k.spelled)
happening_in c s (Misses number x) may native k u h = still s.nodes s.moments _ u (follows_one (Told (entry.Packet (packet.Dropped number drop.Down))) s.moments refl) h
happening_in c s (Loses number x) may native k u h = still s.nodes s.moments _ u (follows_one (Told (entry.Packet (packet.Lost number))) s.moments refl) h
happening_in c s (Repeats number x) may native k u h = copied_in number (sending s.links x.from x.to x.bytes) s u h
happening_in c s (Commands n d q now ends) may native k u h =
    let o : Option Device = slice_get s.devices (d - 1) in
    let z : Scene = (commanded s n d q).scene in
    let i : Input = input.Answered (commanded s n d q).answer in
    taking_in c n now ends i z (commanded_so Ways s n d o q (ways_at c s k)) u (commanded_so (Comes_to c n i) s n d o q (plainly c s n i (λ x a I here. here) k h))
happening_in c s (Writes n d value now ends) may native k u h =
    let o : Option Device = slice_get s.devices (d - 1) in
    let q : PrCommand = command.Write value in
    let z : Scene = (commanded s n d q).scene in
    let i : Input = input.Wrote d value (commanded s n d q).answer in
    taking_in c n now ends i z (commanded_so Ways s n d o q (ways_at c s k)) u (commanded_so (Comes_to c n i) s n d o q (plainly c s n i (λ x a I here. here) k h))
happening_in c s (Refuses n d value why) may native k u h = still s.nodes s.moments _ u (follows_one (Told (entry.Device (device.Refused n d value why))) s.moments refl) h

-- ---- runs

pub knows_at : (h : Header) (cells : ℕ) (s : Scene) → IsSmall h → IsReached h cells s → Knows (first_cluster h) s
knows_at h cells s size r = record {
  known = known_scene h cells s size r;
  theirs = subst HaveTheirAttempts r.is (nodes_have_their_attempts_in_each_run h cells r.happenings size.few size.small r.may);
  spelled = subst (λ (z : Scene). Spelled z.moments) r.is (spelled_of_each_run h cells r.happenings size.few size.small r.may);
}

run_on : (h : Header) (cells : ℕ) (s : Scene) (hs : List Happening) → IsSmall h → IsReached h cells s → MayAllHappen (first_cluster h) s hs → NoneForeign (first_cluster h) s hs → AllTake s → AllTake (all_happened (first_cluster h) s hs)
run_on h cells s [] size at may native so = so
run_on h cells s (x ∷ hs) size at may native so =
    let c : Cluster = first_cluster h in
    let more : IsReached h cells (happened c s x) = reached_more c (first_scene h cells) s x at may.0 in
    run_on h cells (happened c s x) hs size more may.1 native.1 (happening_in c s x may.0 native.0 (knows_at h cells s size at) (ways_at c (happened c s x) (knows_at h cells (happened c s x) size more)) so)

none_up : (x : UpNode) → Down ≡ Up x → ⊥
none_up x is = subst (IsAt (λ y. ⊥)) is tt

first_take : (h : Header) (cells : ℕ) → AllTake (first_scene h cells)
unfolding first_scene
first_take h cells n x a up has = absurd (none_up x up)

pub run_takes : (h : Header) (cells : ℕ) (hs : List Happening) → IsSmall h → MayAllHappen (first_cluster h) (first_scene h cells) hs → NoneForeign (first_cluster h) (first_scene h cells) hs
    → AllTake (all_happened (first_cluster h) (first_scene h cells) hs)
run_takes h cells hs size may native = run_on h cells (first_scene h cells) hs size (record { happenings = []; may = tt; is = refl }) may native (first_take h cells)
