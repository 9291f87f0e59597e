-- Each thing that happens leaves the last Request of each member as old as the lines tell, or answered, where each Answer that comes was asked for.
use Rattle.std.specs.Prelude.{ℕ, ◌-◌, ◌≡◌, ◌^◌, ◌&&◌, ◌||◌, All, Bool, true, false, List, ◌∷◌, Option, None, Some, slice_get}
use Rattle.std.proofs.Common.{refl}
use Rattle.cl_base.specs.declared.packet.DropCause.TheVariants as drop
use Rattle.cl_base.specs.declared.header.Header.{Header}
use Rattle.cl_base.specs.declared.packet.DropCause.{DropCause}
use Rattle.cmm_attempt.specs.Calls.{IsDevice}
use Rattle.history.specs.Moment.{Moment, Part, Said, Told}
use Rattle.interconnect.specs.Links as net
use Rattle.interconnect.specs.Links.{Links, appending, count_on, crowding, dropping, oldest_on, refusing, sending}
use Rattle.node_model.specs.declared.cluster.Cluster.{Cluster}
use Rattle.node_model.specs.declared.input.Input.{Input}
use Rattle.node_model.specs.declared.input.Input.TheVariants as input
use Rattle.node_model.specs.declared.node.Node.{Node}
use Rattle.pgr_device.specs.Device.{Device}
use Rattle.pgr_device.specs.declared.command.PrCommand.{PrCommand}
use Rattle.pgr_device.specs.declared.command.PrCommand.TheVariants as command
use Rattle.run_history.proofs.MemberRuns.{first_fit}
use Rattle.run_history.specs.Happenings.{Arrives, Begins, Commands, Happening, IsPlain, Loses, MayAllHappen, MayHappen, Misses, Notes, Refuses, Repeats, Speaks, Strays, Takes, Writes, all_happened, armed_by, commanded, commanded_at, happened, removed}
use Rattle.run_history.specs.Scenes.{Scene, adding, dropped_so, first_scene, telling, with_links}
use Rattle.run_history.specs.Stages.{Stage}
use Rattle.run_lines.proofs.Runs.{stage_presides}
use Rattle.run_messages.proofs.Reaching.{IsReached, IsSmall, holds_of_each, stage_of, taking_good}
use Rattle.history.specs.Letters.{is_exchanged, is_letter, letter_of, passes, reached}
use Rattle.history.specs.Names as name
use Rattle.run_commands.proofs.carried.Runs.{FewLines, few_before}
use Rattle.run_packets.specs.prepares.Events.{IsLeft}
use Rattle.run_packets.proofs.prepares.Numbers.{left_before}
use Rattle.schedule_text.specs.declared.event.Event.{Event}
use Rattle.schedule_text.specs.declared.event.Event.TheVariants as event
use Rattle.schedule_text.specs.declared.line.Line.TheVariants as line
use Rattle.status_report.specs.declared.device_entry.DeviceEntry.TheVariants as device
use Rattle.status_report.specs.declared.entry.Entry.TheVariants as entry
use Rattle.status_report.specs.declared.packet_entry.PacketEntry.TheVariants as packet
use Rattle.world_model.specs.First.{first_cluster}
use Rattle.history.specs.Trace.{delivered}
use Rattle.run_packets.proofs.repeats.Holding.{commanded_ready, dropped_left, plain_known, ready_of, sending_next, told_among}
use Rattle.run_packets.proofs.repeats.Scenes.{Ready}
use Rattle.run_packets.specs.again.Ages.{NodeHeard, NodeIn, current}
use Rattle.run_packets.specs.again.Asking.{heard_in, heard_of}
use Rattle.run_packets.proofs.again.Lines.{Leaves}
use Rattle.run_packets.proofs.again.Scenes.{Held, HeldIf, node_leaves, taking_held}
use Rattle.run_packets.proofs.again.Seats.{none_heard}
use Rattle.wire.specs.declared.message.Message.{Message}
use Rattle.interconnect.specs.Links.{Packet}
use Rattle.cl_base.specs.declared.method.Outcome as method
use Rattle.node_model.specs.declared.node.Node.TheVariants.{Down, Up}

-- an Answer that comes to a member of its membership is to a Request that came to the president since the node became a member
abbrev pub AreAskedFor : Cluster → Scene → Type 0
AreAskedFor c s = (number : ℕ) (x : Packet) (m : Message) (now : ℕ) (ends : method.Outcome) → MayHappen c s (Arrives number x m now ends)
    → NodeHeard (heard_in m.body) x.to (delivered number x.from x.to ∷ s.moments) (s.nodes.node x.to)

-- ---- a line of the world

-- it leaves each node's Requests
abbrev IsIdle : Moment → Type 0
IsIdle m = (n : ℕ) (ms : List Moment) → Leaves n ms (m ∷ ms)

idle_held : (m : Moment) (s : Scene) (f : ℕ → Node) → IsIdle m → ((n : ℕ) → NodeIn n s.moments (f n)) → (n : ℕ) → NodeIn n (m ∷ s.moments) (f n)
idle_held m s f idle h n = node_leaves n s.moments (m ∷ s.moments) (f n) (idle n s.moments) (h n)

or_right : (a b : Bool) → b ≡ true → (a || b) ≡ true
or_right true b h = refl
or_right false b h = h

said_idle : (e : Event) → IsIdle (Said (line.Event e))
said_idle e n ms = record { last = refl; ticks = λ m q. refl; more = λ c q h. h }

part_idle : (e : Event) → IsIdle (Part e)
part_idle e n ms = record { last = refl; ticks = λ m q. refl; more = λ c q h. h }

delivered_idle : (p a b : ℕ) → IsIdle (delivered p a b)
delivered_idle p a b n ms = record {
  last = refl;
  ticks = λ m q. refl;
  more = λ c q h. or_right (passes (λ l. is_letter (name.Answer q) c n l && reached (is_letter (name.Request q) n c) l.before) (letter_of p (current n ms))) (is_exchanged (name.Request q) (name.Answer q) n c (current n ms)) h;
}

-- ---- each thing that happens

commanded_held : (s : Scene) (n d : ℕ) (o : Option Device) (k : PrCommand) → HeldIf s → HeldIf (commanded_at s n d o k).scene
commanded_held s n d None k h = h
commanded_held s n d (Some x) k h = h

armed_held : (c : Cluster) (e : Event) (s : Scene) → HeldIf s → HeldIf (armed_by c e s)
armed_held c (event.Fault n d done) s h = h
armed_held c (event.CrashAt n calls choice) s h = h
armed_held c _ s h = h

dropped_held : (o : Option (ℕ × DropCause)) (s : Scene) → Held s → Held (dropped_so o s)
dropped_held None s h = h
dropped_held (Some x) s h = idle_held (Told (entry.Packet (packet.Dropped x.0 x.1))) s s.nodes.node (λ n ms. record { last = refl; ticks = λ m q. refl; more = λ c q k. k }) h

-- what comes besides is no Answer
plain_heard : (i : Input) (n : ℕ) (ms : List Moment) (node : Node) → heard_of i ≡ None → NodeHeard (heard_of i) n ms node
plain_heard i n ms Down none = tt
plain_heard i n ms (Up x) none = none_heard (heard_of i) n (current n ms) x.seat none

plain_none : (i : Input) → IsPlain i → heard_of i ≡ None
plain_none (input.Packet from m) plain = absurd plain
plain_none _ plain = refl

happening_held : (c : Cluster) (s : Scene) (x : Happening) → All IsDevice c.attached → MayHappen c s x → Stage c s → Stage c (happened c s x) → AreAskedFor c s → HeldIf s → HeldIf (happened c s x)
happening_held c s (Speaks e) fits may b after answers h = armed_held c e (adding (Said (line.Event e)) s) (λ left. idle_held (Said (line.Event e)) s s.nodes.node (said_idle e) (h left))
happening_held c s (Begins e) fits may b after answers h = λ left. idle_held (Part e) s s.nodes.node (part_idle e) (h left)
happening_held c s (Notes e) fits may b after answers h = λ left. idle_held (Told (entry.Schedule e)) s s.nodes.node (λ n ms. record { last = refl; ticks = λ m q. refl; more = λ k q z. z }) (h left)
happening_held c s (Takes n now ends i) fits may b after answers h =
    taking_held c s n now ends i may.0.1 (ready_of c s fits b) (plain_known b.machine i may.1) (taking_good c s n now ends i after) (plain_heard i n s.moments (s.nodes.node n) (plain_none i may.1)) h
happening_held c s (Arrives number x m now ends) fits may b after answers h =
    let u : Scene = telling (entry.Packet (packet.Delivered number x.from x.to)) (removed s number) in
    let r : Ready c u = record { fits = fits; machine = b.machine; holds = b.holds; stands = b.stands; started = b.started; presides = stage_presides c s b } in
    taking_held c u x.to now ends (input.Packet x.from m) may.3.1 r (told_among b.machine x.from m.body s.nodes.sent may.4 b.sent) (taking_good c u x.to now ends (input.Packet x.from m) after)
    (answers number x m now ends may) (λ left. idle_held (delivered number x.from x.to) s s.nodes.node (delivered_idle number x.from x.to) (h left))
happening_held c s (Strays number x) fits may b after answers h = λ left. idle_held (delivered number x.from x.to) s s.nodes.node (delivered_idle number x.from x.to) (h left)
happening_held c s (Misses number x) fits may b after answers h = λ left. idle_held (Told (entry.Packet (packet.Dropped number drop.Down))) s s.nodes.node (λ n ms. record { last = refl; ticks = λ m q. refl; more = λ k q z. z }) (h left)
happening_held c s (Loses number x) fits may b after answers h = λ left. idle_held (Told (entry.Packet (packet.Lost number))) s s.nodes.node (λ n ms. record { last = refl; ticks = λ m q. refl; more = λ k q z. z }) (h left)
happening_held c s (Repeats number x) fits may b after answers h = λ left.
    let o : net.Outcome = sending s.links x.from x.to x.bytes in
    let u : Scene = telling (entry.Packet (packet.Repeated number s.links.next)) (with_links s o.after) in
    let was : IsLeft s.links.next = left_before s.links.next o.after.next (2 ^ 63) (sending_next s.links x.from x.to x.bytes) (dropped_left o.sent.dropped u left) in
    dropped_held o.sent.dropped u (idle_held (Told (entry.Packet (packet.Repeated number s.links.next))) s s.nodes.node (λ n ms. record { last = refl; ticks = λ m q. refl; more = λ k q z. z }) (h was))
happening_held c s (Commands n d k now ends) fits may b after answers h =
    let o : Option Device = slice_get s.devices (d - 1) in
    let i : Input = input.Answered (commanded s n d k).answer in
    taking_held c (commanded s n d k).scene n now ends i may.0.1 (commanded_ready c s n d o k (ready_of c s fits b)) tt
    (taking_good c (commanded s n d k).scene n now ends i after) (plain_heard i n (commanded s n d k).scene.moments ((commanded s n d k).scene.nodes.node n) refl) (commanded_held s n d o k h)
happening_held c s (Writes n d value now ends) fits may b after answers h =
    let o : Option Device = slice_get s.devices (d - 1) in
    let k : PrCommand = command.Write value in
    let i : Input = input.Wrote d value (commanded s n d k).answer in
    taking_held c (commanded s n d k).scene n now ends i may.0.1 (commanded_ready c s n d o k (ready_of c s fits b)) tt
    (taking_good c (commanded s n d k).scene n now ends i after) (plain_heard i n (commanded s n d k).scene.moments ((commanded s n d k).scene.nodes.node n) refl) (commanded_held s n d o k h)
happening_held c s (Refuses n d value cause) fits may b after answers h = λ left. idle_held (Told (entry.Device (device.Refused n d value cause))) s s.nodes.node (λ n ms. record { last = refl; ticks = λ m q. refl; more = λ k q z. z }) (h left)

-- ---- a run

-- .. where fewer than 2^63 lines are said
abbrev HeldSo : Scene → Type 0
HeldSo s = FewLines s.moments → HeldIf s

first_held : (h : Header) (cells : ℕ) → HeldSo (first_scene h cells)
unfolding first_scene
first_held h cells = λ few left n. tt

pub held_in_each : (h : Header) (cells : ℕ) (hs : List Happening) → IsSmall h → ((s : Scene) → IsReached h cells s → FewLines s.moments → AreAskedFor (first_cluster h) s) → MayAllHappen (first_cluster h) (first_scene h cells) hs
    → FewLines (all_happened (first_cluster h) (first_scene h cells) hs).moments → HeldIf (all_happened (first_cluster h) (first_scene h cells) hs)
held_in_each h cells hs size asked may =
    holds_of_each h cells HeldSo
    (λ s x now at more all few.
    let before : FewLines s.moments = few_before (first_cluster h) s x few in
    happening_held (first_cluster h) s x (first_fit h size.few) now (stage_of h cells s size at) (stage_of h cells (happened (first_cluster h) s x) size more) (asked s at before) (all before))
    (first_held h cells) hs may
