-- In each run what is delivered is a letter to its receiver.
use Rattle.std.specs.Prelude.{ℕ, ◌==◌, ◌≡◌, Bool, true, false, List, [], ◌∷◌, Option, None, Some, find, slice_get, ◌-◌, if◌then◌else◌}
use Rattle.std.specs.List.{AllByRecursion}
use Rattle.std.proofs.Common.{refl, sym, ap, subst, ◌∙◌}
use Rattle.cl_base.specs.declared.header.Header.{Header}
use Rattle.cl_base.specs.declared.method.Outcome as method
use Rattle.cl_base.specs.declared.packet.DropCause.{DropCause}
use Rattle.cmm_attempt.proofs.Basics.{if_either, none_some, same_number, same_some}
use Rattle.history.specs.Letters.{Letter, letter_of}
use Rattle.history.specs.Moment.{Moment, Said, Told}
use Rattle.history.specs.Order.{Always}
use Rattle.history.specs.Trace.{delivered}
use Rattle.interconnect.specs.Links as links
use Rattle.interconnect.specs.Links.{Packet, packet_of, sending}
use Rattle.node_model.specs.declared.cluster.Cluster.{Cluster}
use Rattle.node_model.specs.declared.input.Input.{Input}
use Rattle.node_model.specs.declared.input.Input.TheVariants as input
use Rattle.node_model.specs.declared.output.Output.{Output}
use Rattle.node_model.specs.declared.output.Output.TheVariants.{Sends, Tells}
use Rattle.pgr_device.specs.Device.{Device}
use Rattle.pgr_device.specs.declared.command.PrCommand.{PrCommand}
use Rattle.pgr_device.specs.declared.command.PrCommand.TheVariants as command
use Rattle.refinement.proofs.Worlds.{all_found}
use Rattle.refinement.specs.Runs.{moved}
use Rattle.refinement.specs.Runs.Move.{Takes as Takes_in}
use Rattle.run_downs.proofs.Packets.{IsNoPacket, no_packets}
use Rattle.run_history.proofs.Links.{NotPacket}
use Rattle.run_history.specs.Happenings.{Happening, MayAllHappen, MayHappen, all_happened, armed_by, commanded, commanded_at, given_by, happened, removed, taking}
use Rattle.run_history.specs.Happenings.Happening.{Arrives, Begins, Commands, Loses, Misses, Notes, Refuses, Repeats, Speaks, Strays, Takes, Writes}
use Rattle.run_history.specs.Scenes.{Scene, adding, dropped_so, first_scene, passing, posting, sent_as, telling, with_links}
use Rattle.run_messages.proofs.Reaching.{IsReached, IsSmall, holds_of_each}
use Rattle.run_seizings.specs.Sites.{Posted}
use Rattle.schedule_text.specs.declared.event.Event.{Event}
use Rattle.schedule_text.specs.declared.event.Event.TheVariants as event
use Rattle.schedule_text.specs.declared.line.Line.TheVariants as line
use Rattle.status_report.specs.declared.entry.Entry.{Entry}
use Rattle.status_report.specs.declared.entry.Entry.TheVariants as entry
use Rattle.status_report.specs.declared.packet_entry.PacketEntry.TheVariants as packet
use Rattle.wire.specs.Spelling.{spelling}
use Rattle.wire.specs.declared.message.Message.{Message}
use Rattle.world_model.specs.First.{first_cluster}
use Rattle.world_model.specs.Sends.{is_sent, name_of}
use Rattle.run_outcomes.proofs.own_tasks.Grounds.{seizing_at}

abbrev pub IsAddressed : List Moment → Moment → Type 0
IsAddressed before (delivered p a m) = (l : Letter) → letter_of p before ≡ Some l → l.to ≡ m
IsAddressed before _ = Unit {0}

abbrev pub AreAddressed : List Moment → Type 0
AreAddressed moments = Always IsAddressed moments

dropped_to : (o : Option (ℕ × DropCause)) (s : Scene) → AreAddressed s.moments → AreAddressed (dropped_so o s).moments
dropped_to None s h = h
dropped_to (Some drop) s h = (tt, h)

posting_to : (n to : ℕ) (m : Message) (s : Scene) → AreAddressed s.moments → AreAddressed (posting n to m s).moments
posting_to n to m s h =
    let o : links.Outcome = sending s.links n to (spelling m) in
    if_either (λ (t : Scene). AreAddressed t.moments) (is_sent s.links m) (sent_as n to m o s) s
    (dropped_to o.sent.dropped (telling (entry.Packet (packet.Sent s.links.next n to (name_of m.body) (spelling m))) (with_links s o.after)) (tt, h)) h

told_to : (e : Entry) (ms : List Moment) → NotPacket e → AreAddressed ms → AreAddressed (Told e ∷ ms)
told_to (entry.Packet e) ms plain h = absurd plain
told_to _ ms plain h = (tt, h)

passing_to : (n : ℕ) (os : List Output) (s : Scene) → AllByRecursion IsNoPacket os → AreAddressed s.moments → AreAddressed (passing n os s).moments
passing_to n [] s plain h = h
passing_to n (Tells e ∷ os) s plain h = passing_to n os (telling e s) plain.1 (told_to e s.moments plain.0 h)
passing_to n (Sends to b ∷ os) s plain h = passing_to n os (posting n to (record { sender = n; body = b }) s) plain.1 (posting_to n to (record { sender = n; body = b }) s h)

taking_to : (c : Cluster) (n now : ℕ) (ends : method.Outcome) (i : Input) (s : Scene) → AreAddressed s.moments → AreAddressed (taking c n now ends i s).moments
taking_to c n now ends i s h = passing_to n (given_by c n now ends i s.nodes) (record s { nodes = moved c s.nodes (Takes_in n now ends i) }) (no_packets c n now ends (s.nodes.node n) (s.nodes.disk n) i) h

-- the packet of this number is a letter to its receiver
pub found_is : (p : Packet → Bool) (xs : List Packet) (x : Packet) → find p xs ≡ Some x → p x ≡ true
found_is p [] x is = absurd (none_some x is)
found_is p (y ∷ xs) x is = by_test (λ later. found_is p xs x later) (p y) refl is
  where
    by_test : (find p xs ≡ Some x → p x ≡ true) → (b : Bool) → p y ≡ b → (if b then Some y else find p xs) ≡ Some x → p x ≡ true
    by_test rest true at same = subst (λ z. p z ≡ true) (same_some y x same) at
    by_test rest false at later = rest later

pub packet_to : (h : Header) (cells : ℕ) (s : Scene) (number : ℕ) (x : Packet) → IsSmall h → IsReached h cells s → packet_of s.links.packets number ≡ Some x → IsAddressed s.moments (delivered number x.from x.to)
packet_to h cells s number x size r here l is =
    let k : Posted h s.moments s.links.next x = all_found (Posted h s.moments s.links.next) (λ (q : Packet). q.number == number) s.links.packets x (seizing_at h cells s size r).carried here in
    let same : x.number ≡ number = same_number x.number number (found_is (λ (q : Packet). q.number == number) s.links.packets x here) in
    ap (λ (z : Letter). z.to) (same_some l k.letter (sym is ∙ (ap (λ q. letter_of q s.moments) (sym same) ∙ k.sent_so))) ∙ k.receiver

-- ---- each thing that happens

armed_to : (c : Cluster) (e : Event) (s : Scene) → AreAddressed s.moments → AreAddressed (armed_by c e s).moments
armed_to c (event.CrashAt n calls choice) s k = k
armed_to c (event.Fault n d done) s k = k
armed_to c _ s k = k

commanded_to : (s : Scene) (n d : ℕ) (o : Option Device) (k : PrCommand) → AreAddressed s.moments → AreAddressed (commanded_at s n d o k).scene.moments
commanded_to s n d None k h = h
commanded_to s n d (Some x) k h = h

happening_to : (h : Header) (cells : ℕ) (s : Scene) (x : Happening) → IsSmall h → IsReached h cells s → MayHappen (first_cluster h) s x → AreAddressed s.moments → AreAddressed (happened (first_cluster h) s x).moments
happening_to h cells s (Speaks e) size r may k = armed_to (first_cluster h) e (adding (Said (line.Event e)) s) (tt, k)
happening_to h cells s (Begins e) size r may k = (tt, k)
happening_to h cells s (Notes e) size r may k = (tt, k)
happening_to h cells s (Takes n now ends i) size r may k = taking_to (first_cluster h) n now ends i s k
happening_to h cells s (Arrives number x m now ends) size r may k =
    taking_to (first_cluster h) x.to now ends (input.Packet x.from m) (telling (entry.Packet (packet.Delivered number x.from x.to)) (removed s number)) (packet_to h cells s number x size r may.0, k)
happening_to h cells s (Strays number x) size r may k = (packet_to h cells s number x size r may.0, k)
happening_to h cells s (Misses number x) size r may k = (tt, k)
happening_to h cells s (Loses number x) size r may k = (tt, k)
happening_to h cells s (Repeats number x) size r may k =
    let o : links.Outcome = sending s.links x.from x.to x.bytes in
    dropped_to o.sent.dropped (telling (entry.Packet (packet.Repeated number s.links.next)) (with_links s o.after)) (tt, k)
happening_to h cells s (Commands n d q now ends) size r may k =
    taking_to (first_cluster h) n now ends (input.Answered (commanded s n d q).answer) (commanded s n d q).scene (commanded_to s n d (slice_get s.devices (d - 1)) q k)
happening_to h cells s (Writes n d value now ends) size r may k =
    taking_to (first_cluster h) n now ends (input.Wrote d value (commanded s n d (command.Write value)).answer) (commanded s n d (command.Write value)).scene
    (commanded_to s n d (slice_get s.devices (d - 1)) (command.Write value) k)
happening_to h cells s (Refuses n d value cause) size r may k = (tt, k)

first_to : (h : Header) (cells : ℕ) → AreAddressed (first_scene h cells).moments
unfolding first_scene
first_to h cells = tt

pub all_addressed : (h : Header) (cells : ℕ) (hs : List Happening) → IsSmall h → MayAllHappen (first_cluster h) (first_scene h cells) hs → AreAddressed (all_happened (first_cluster h) (first_scene h cells) hs).moments
all_addressed h cells hs size may = holds_of_each h cells (λ s. AreAddressed s.moments) (λ s x now at more k. happening_to h cells s x size at now k) (first_to h cells) hs may
