-- Each thing that happens leaves what each president has proposed as old as its Prepares are, where a packet number is left.
use Rattle.std.specs.Prelude.{ℕ, ◌+◌, ◌-◌, ◌≡◌, ◌≤◌, ◌^◌, nat_lt, All, true, false, List, [], ◌∷◌, Option, None, Some, slice_get}
use Rattle.std.specs.List.{AllByRecursion, list_any}
use Rattle.history.specs.Contact.{is_proposal}
use Rattle.history.specs.Order.{before_last}
use Rattle.std.proofs.Common.{refl, sym, subst, ◌∙◌, inl, inr, arith}
use Rattle.cl_base.specs.declared.packet.DropCause.TheVariants as drop
use Rattle.cl_base.specs.Limits.{most_packets}
use Rattle.cl_base.specs.declared.header.Header.{Header}
use Rattle.cl_base.specs.declared.packet.DropCause.{DropCause}
use Rattle.cmm_attempt.proofs.Basics.{if_either}
use Rattle.cmm_attempt.specs.Calls.{IsDevice}
use Rattle.history.specs.Messages.{pending_place}
use Rattle.history.specs.Moment.{Moment, Part, Said, Told}
use Rattle.history.specs.Starts.{is_started}
use Rattle.interconnect.specs.Links as net
use Rattle.interconnect.specs.Links.{Links, appending, count_on, crowding, dropping, oldest_on, refusing, sending}
use Rattle.membership_machine.specs.State.{Memberships}
use Rattle.node_model.specs.declared.cluster.Cluster.{Cluster}
use Rattle.node_model.specs.declared.input.Input.{Input}
use Rattle.node_model.specs.declared.input.Input.TheVariants as input
use Rattle.node_model.specs.declared.node.Node.{Node}
use Rattle.pgr_device.specs.Device.{Device}
use Rattle.pgr_device.specs.declared.command.PrCommand.{PrCommand}
use Rattle.pgr_device.specs.declared.command.PrCommand.TheVariants as command
use Rattle.refinement.proofs.Handlers.{delivered_by}
use Rattle.refinement.specs.Runs.{IsAmong, Letter}
use Rattle.refinement.specs.Ties.{Known, MessageTold}
use Rattle.run_history.proofs.MemberRuns.{first_fit}
use Rattle.run_history.specs.Happenings.{Arrives, Begins, Commands, Happening, IsPlain, Loses, MayAllHappen, MayHappen, Misses, Notes, Refuses, Repeats, Speaks, Strays, Takes, Writes, all_happened, armed_by, commanded, commanded_at, happened, removed}
use Rattle.run_history.specs.Scenes.{Scene, adding, dropped_so, first_scene, telling, with_links}
use Rattle.run_history.specs.Stages.{Stage}
use Rattle.run_lines.proofs.Runs.{stage_presides}
use Rattle.run_lines.specs.Entries.{NodePresides}
use Rattle.run_messages.proofs.Reaching.{IsSmall, holds_of_each, stage_of, taking_good}
use Rattle.run_packets.specs.prepares.Events.{IsLeft}
use Rattle.run_packets.proofs.prepares.Numbers.{left_before}
use Rattle.schedule_text.specs.declared.event.Event.{Event}
use Rattle.schedule_text.specs.declared.event.Event.TheVariants as event
use Rattle.schedule_text.specs.declared.line.Line.TheVariants as line
use Rattle.status_report.specs.declared.device_entry.DeviceEntry.TheVariants as device
use Rattle.status_report.specs.declared.entry.Entry.TheVariants as entry
use Rattle.status_report.specs.declared.packet_entry.PacketEntry.TheVariants as packet
use Rattle.wire.specs.declared.message.Body.{Body}
use Rattle.world_model.specs.First.{first_cluster}
use Rattle.run_packets.proofs.repeats.Lines.{since_prepare}
use Rattle.run_packets.proofs.repeats.Scenes.{Held, HeldIf, HeldIn, Ready, node_moved, taking_held}

-- ---- a line of the world

-- it says nothing of what is proposed, nor of ticks
record IsIdle (m : Moment) : Type 0 where
  ticks : (j a v : ℕ) (ms : List Moment) → since_prepare j a v (m ∷ ms) ≡ since_prepare j a v ms
  places : (f : ℕ) (ms : List Moment) → pending_place f (m ∷ ms) ≡ pending_place f ms
  any : (f w : ℕ) (ms : List Moment) → list_any (is_proposal f w) (m ∷ ms) ≡ list_any (is_proposal f w) ms
  last : (f w : ℕ) (ms : List Moment) → before_last (is_proposal f w) (m ∷ ms) ≡ before_last (is_proposal f w) ms
  starts : (f : ℕ) (ms : List Moment) → is_started f (m ∷ ms) ≡ is_started f ms

idle_held : (m : Moment) (ms : List Moment) (f : ℕ → Node) → IsIdle m → ((n : ℕ) → NodePresides n (f n)) → HeldIn ms f → HeldIn (m ∷ ms) f
idle_held m ms f idle presides h = record {
  opened = λ e v is. idle.starts e ms ∙ h.opened e v (sym (idle.any e v ms) ∙ is);
  nodes = λ n. node_moved n ms (m ∷ ms) (f n) (λ a v. idle.ticks n a v ms) (record { place = λ g own. idle.places g ms; any = λ g w own. idle.any g w ms; last = λ g w own. idle.last g w ms }) (λ g is. idle.starts g ms ∙ is) (presides n) (h.nodes n);
}

-- ---- packet numbers

one_more : (a : ℕ) → a ≤ a + 1
one_more a = omega arith

le_is : (a b k : ℕ) → k ≡ b → a ≤ b → a ≤ k
le_is a b k e h = omega (arith, e, h)

dropping_next : (l : Links) (number : ℕ) (o : Option ℕ) → (dropping l number o).after.next ≡ l.next
dropping_next l number None = refl
dropping_next l number (Some oldest) = refl

crowding_next : (l : Links) (number from to : ℕ) → (crowding l number from to).after.next ≡ l.next
crowding_next l number from to =
    if_either (λ (o : net.Outcome). o.after.next ≡ l.next) (nat_lt most_packets (count_on l.packets from to)) (dropping l number (oldest_on l.packets from to)) _
    (dropping_next l number (oldest_on l.packets from to)) refl

pub sending_next : (l : Links) (from to : ℕ) (bytes : List ℕ) → l.next ≤ (sending l from to bytes).after.next
sending_next l from to bytes =
    if_either (λ (o : net.Outcome). l.next ≤ o.after.next) _ (refusing l) (crowding (appending l from to bytes) l.next from to) (one_more l.next)
    (le_is l.next (l.next + 1) _ (crowding_next (appending l from to bytes) l.next from to) (one_more l.next))

-- ---- what is known

abbrev pub ready_of : (c : Cluster) (s : Scene) → All IsDevice c.attached → Stage c s → Ready c s
ready_of c s fits b = record { fits = fits; machine = b.machine; holds = b.holds; stands = b.stands; started = b.started; presides = stage_presides c s b }

pub told_among : (M : Memberships) (from : ℕ) (b : Body) (ls : List Letter) → IsAmong from b ls → AllByRecursion (λ (l : Letter). MessageTold M l.from l.body) ls → MessageTold M from b
told_among M from b [] h all = absurd h
told_among M from b (l ∷ ls) (inl e) all = subst (λ z. MessageTold M z b) e.0 (subst (λ z. MessageTold M l.from z) e.1 all.0)
told_among M from b (l ∷ ls) (inr h) all = told_among M from b ls h all.1

pub plain_known : (M : Memberships) (i : Input) → IsPlain i → Known M (delivered_by i)
plain_known M (input.Packet from m) plain = absurd plain
plain_known M _ plain = tt

pub commanded_ready : (c : Cluster) (s : Scene) (n d : ℕ) (o : Option Device) (k : PrCommand) → Ready c s → Ready c (commanded_at s n d o k).scene
commanded_ready c s n d None k r = r
commanded_ready c s n d (Some x) k r = record { fits = r.fits; machine = r.machine; holds = r.holds; stands = r.stands; started = r.started; presides = r.presides }

commanded_held : (s : Scene) (n d : ℕ) (o : Option Device) (k : PrCommand) → HeldIf s → HeldIf (commanded_at s n d o k).scene
commanded_held s n d None k h = h
commanded_held s n d (Some x) k h = h

-- ---- each thing that happens

armed_held : (c : Cluster) (e : Event) (s : Scene) → HeldIf s → HeldIf (armed_by c e s)
armed_held c (event.Fault n d done) s h = h
armed_held c (event.CrashAt n calls choice) s h = h
armed_held c _ s h = h

said_idle : (e : Event) → IsIdle (Said (line.Event e))
said_idle e = record { ticks = λ j a v ms. refl; places = λ f ms. refl; any = λ f w ms. refl; last = λ f w ms. refl; starts = λ f ms. refl }

part_idle : (e : Event) → IsIdle (Part e)
part_idle e = record { ticks = λ j a v ms. refl; places = λ f ms. refl; any = λ f w ms. refl; last = λ f w ms. refl; starts = λ f ms. refl }

dropped_held : (o : Option (ℕ × DropCause)) (s : Scene) → ((n : ℕ) → NodePresides n (s.nodes.node n)) → Held s → Held (dropped_so o s)
dropped_held None s presides h = h
dropped_held (Some x) s presides h = idle_held (Told (entry.Packet (packet.Dropped x.0 x.1))) s.moments s.nodes.node (record { ticks = λ j a v ms. refl; places = λ f ms. refl; any = λ f w ms. refl; last = λ f w ms. refl; starts = λ f ms. refl }) presides h

pub dropped_left : (o : Option (ℕ × DropCause)) (s : Scene) → IsLeft (dropped_so o s).links.next → IsLeft s.links.next
dropped_left None s left = left
dropped_left (Some x) s left = left

happening_held : (c : Cluster) (s : Scene) (x : Happening) → All IsDevice c.attached → MayHappen c s x → Stage c s → Stage c (happened c s x) → HeldIf s → HeldIf (happened c s x)
happening_held c s (Speaks e) fits may b after h = armed_held c e (adding (Said (line.Event e)) s) (λ left. idle_held (Said (line.Event e)) s.moments s.nodes.node (said_idle e) (stage_presides c s b) (h left))
happening_held c s (Begins e) fits may b after h = λ left. idle_held (Part e) s.moments s.nodes.node (part_idle e) (stage_presides c s b) (h left)
happening_held c s (Notes e) fits may b after h =
    λ left. idle_held (Told (entry.Schedule e)) s.moments s.nodes.node (record { ticks = λ j a v ms. refl; places = λ f ms. refl; any = λ f w ms. refl; last = λ f w ms. refl; starts = λ f ms. refl }) (stage_presides c s b) (h left)
happening_held c s (Takes n now ends i) fits may b after h =
    taking_held c s n now ends i may.0.1 (ready_of c s fits b) (plain_known b.machine i may.1) (taking_good c s n now ends i after) h
happening_held c s (Arrives number x m now ends) fits may b after h =
    let u : Scene = telling (entry.Packet (packet.Delivered number x.from x.to)) (removed s number) in
    let r : Ready c u = record { fits = fits; machine = b.machine; holds = b.holds; stands = b.stands; started = b.started; presides = stage_presides c s b } in
    taking_held c u x.to now ends (input.Packet x.from m) may.3.1 r (told_among b.machine x.from m.body s.nodes.sent may.4 b.sent) (taking_good c u x.to now ends (input.Packet x.from m) after)
    (λ left. idle_held (Told (entry.Packet (packet.Delivered number x.from x.to))) s.moments s.nodes.node (record { ticks = λ j a v ms. refl; places = λ f ms. refl; any = λ f w ms. refl; last = λ f w ms. refl; starts = λ f ms. refl }) (stage_presides c s b) (h left))
happening_held c s (Strays number x) fits may b after h =
    λ left. idle_held (Told (entry.Packet (packet.Delivered number x.from x.to))) s.moments s.nodes.node (record { ticks = λ j a v ms. refl; places = λ f ms. refl; any = λ f w ms. refl; last = λ f w ms. refl; starts = λ f ms. refl }) (stage_presides c s b) (h left)
happening_held c s (Misses number x) fits may b after h =
    λ left. idle_held (Told (entry.Packet (packet.Dropped number drop.Down))) s.moments s.nodes.node (record { ticks = λ j a v ms. refl; places = λ f ms. refl; any = λ f w ms. refl; last = λ f w ms. refl; starts = λ f ms. refl }) (stage_presides c s b) (h left)
happening_held c s (Loses number x) fits may b after h =
    λ left. idle_held (Told (entry.Packet (packet.Lost number))) s.moments s.nodes.node (record { ticks = λ j a v ms. refl; places = λ f ms. refl; any = λ f w ms. refl; last = λ f w ms. refl; starts = λ f ms. refl }) (stage_presides c s b) (h left)
happening_held c s (Repeats number x) fits may b after h = λ left.
    let o : net.Outcome = sending s.links x.from x.to x.bytes in
    let u : Scene = telling (entry.Packet (packet.Repeated number s.links.next)) (with_links s o.after) in
    let was : IsLeft s.links.next = left_before s.links.next o.after.next (2 ^ 63) (sending_next s.links x.from x.to x.bytes) (dropped_left o.sent.dropped u left) in
    dropped_held o.sent.dropped u (stage_presides c s b)
    (idle_held (Told (entry.Packet (packet.Repeated number s.links.next))) s.moments s.nodes.node (record { ticks = λ j a v ms. refl; places = λ f ms. refl; any = λ f w ms. refl; last = λ f w ms. refl; starts = λ f ms. refl }) (stage_presides c s b) (h was))
happening_held c s (Commands n d k now ends) fits may b after h =
    let o : Option Device = slice_get s.devices (d - 1) in
    taking_held c (commanded s n d k).scene n now ends (input.Answered (commanded s n d k).answer) may.0.1 (commanded_ready c s n d o k (ready_of c s fits b)) tt
    (taking_good c (commanded s n d k).scene n now ends (input.Answered (commanded s n d k).answer) after) (commanded_held s n d o k h)
happening_held c s (Writes n d value now ends) fits may b after h =
    let o : Option Device = slice_get s.devices (d - 1) in
    let k : PrCommand = command.Write value in
    taking_held c (commanded s n d k).scene n now ends (input.Wrote d value (commanded s n d k).answer) may.0.1 (commanded_ready c s n d o k (ready_of c s fits b)) tt
    (taking_good c (commanded s n d k).scene n now ends (input.Wrote d value (commanded s n d k).answer) after) (commanded_held s n d o k h)
happening_held c s (Refuses n d value cause) fits may b after h =
    λ left. idle_held (Told (entry.Device (device.Refused n d value cause))) s.moments s.nodes.node (record { ticks = λ j a v ms. refl; places = λ f ms. refl; any = λ f w ms. refl; last = λ f w ms. refl; starts = λ f ms. refl }) (stage_presides c s b) (h left)

-- ---- a run

first_held : (h : Header) (cells : ℕ) → HeldIf (first_scene h cells)
unfolding first_scene
first_held h cells = λ left. record { opened = λ e v is. absurd (none e v is); nodes = λ n. tt }
  where
    none : (e v : ℕ) → false ≡ true → ⊥
    none e v is = cc

pub held_in_each : (h : Header) (cells : ℕ) (hs : List Happening) → IsSmall h → MayAllHappen (first_cluster h) (first_scene h cells) hs → HeldIf (all_happened (first_cluster h) (first_scene h cells) hs)
held_in_each h cells hs size may =
    holds_of_each h cells HeldIf (λ s x now at more all. happening_held (first_cluster h) s x (first_fit h size.few) now (stage_of h cells s size at) (stage_of h cells (happened (first_cluster h) s x) size more) all) (first_held h cells) hs may
