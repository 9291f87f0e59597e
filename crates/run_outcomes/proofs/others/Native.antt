-- A request to seize that comes to a node is not foreign to it, where no packet is.
use Rattle.std.specs.Prelude.{ℕ, ◌-◌, ◌≡◌, ◌≤◌, ◌<◌, ◌^◌, ◌++◌, true, false, List, [], ◌∷◌, Option, None, Some, option_map, length, slice_get}
use Rattle.std.proofs.Common.{refl, sym, ap, subst, ◌∙◌}
use Rattle.std.specs.List.{AllByRecursion}
use Rattle.cl_base.specs.Limits.{most_devices}
use Rattle.cl_base.specs.declared.header.Header.{Header}
use Rattle.cl_base.specs.declared.method.Outcome as method
use Rattle.cl_base.specs.declared.packet.DropCause.{DropCause}
use Rattle.cmm_attempt.proofs.Basics.{false_true, if_either, none_some, same_some}
use Rattle.history.specs.Contents.{IsSpelled}
use Rattle.history.specs.Letters.{Letter, letter_of}
use Rattle.history.specs.Moment.{Moment, Said, Told}
use Rattle.history.specs.Names.{named}
use Rattle.history.specs.Order.{Always}
use Rattle.history_setting.specs.Settings.{setting_of}
use Rattle.interconnect.specs.Links.{Packet, packet_of, sending}
use Rattle.interconnect.specs.Links as links
use Rattle.node_model.specs.declared.cluster.Cluster.{Cluster}
use Rattle.node_model.specs.declared.input.Input.{Input}
use Rattle.node_model.specs.declared.input.Input.TheVariants as input
use Rattle.node_model.specs.declared.node.Node.{Node}
use Rattle.node_model.specs.declared.node.Node.TheVariants.{Down, Up}
use Rattle.node_model.specs.declared.output.Output.{Output}
use Rattle.node_model.specs.declared.output.Output.TheVariants.{Sends, Tells}
use Rattle.pgr_device.specs.Device.{Device}
use Rattle.pgr_device.specs.declared.command.PrCommand.{PrCommand}
use Rattle.pgr_device.specs.declared.command.PrCommand.TheVariants as command
use Rattle.refinement.specs.Runs.{moved}
use Rattle.refinement.specs.Runs.Move.{Takes as Takes_in}
use Rattle.run_downs.proofs.Packets.{IsNoPacket, no_packets}
use Rattle.run_history.proofs.ContactFlying.{found_posted, number_found}
use Rattle.run_history.proofs.Links.{NotPacket}
use Rattle.run_history.specs.Causes.{Posted}
use Rattle.run_history.specs.Happenings.{Happening, IsUp, MayAllHappen, MayHappen, all_happened, armed_by, commanded, commanded_at, given_by, happened, removed, taking}
use Rattle.run_history.specs.Happenings.Happening.{Arrives, Begins, Commands, Loses, Misses, Notes, Refuses, Repeats, Speaks, Strays, Takes, Writes}
use Rattle.run_history.specs.Scenes.{Scene, adding, dropped_so, first_scene, passing, posting, sent_as, telling, with_links}
use Rattle.run_packets.proofs.replies.Delivered.{Known, OfLine, known_of, letter_bytes, line_of}
use Rattle.run_packets.specs.views.Laws.{NoneForeign, TellsHere, is_foreign_to}
use Rattle.schedule_text.specs.declared.event.Event.{Event}
use Rattle.schedule_text.specs.declared.event.Event.TheVariants as event
use Rattle.schedule_text.specs.declared.line.Line.TheVariants as line
use Rattle.status_report.specs.declared.entry.Entry.{Entry}
use Rattle.status_report.specs.declared.entry.Entry.TheVariants as entry
use Rattle.status_report.specs.declared.packet_entry.PacketEntry.TheVariants as packet
use Rattle.wire.proofs.Messages.{whole_again}
use Rattle.wire.specs.Reads.{whole_of}
use Rattle.wire.specs.Spelling.{spelling}
use Rattle.wire.specs.declared.message.Body.{Body}
use Rattle.wire.specs.declared.message.Body.TheVariants as body
use Rattle.wire.specs.declared.message.Message.{Message}
use Rattle.world_model.specs.First.{first_cluster}
use Rattle.world_model.specs.Sends.{is_sent, name_of}
use Rattle.run_outcomes.proofs.others.Ends.{last_may}
use Rattle.run_outcomes.proofs.told_tasks.Prefixes.{by_last, happened_last, may_before, native_before}
use Rattle.run_outcomes.specs.tasks.Others.{AsksNatively, IsNative, IsNativeIn, RequestsAreNative, is_asking}

abbrev AreNative : Header → List Moment → Type 0
AreNative h moments = Always (AsksNatively (setting_of h)) moments

-- ---- lines that deliver nothing

dropped_native : (h : Header) (o : Option (ℕ × DropCause)) (s : Scene) → AreNative h s.moments → AreNative h (dropped_so o s).moments
dropped_native h None s k = k
dropped_native h (Some drop) s k = (tt, k)

posting_native : (h : Header) (n to : ℕ) (m : Message) (s : Scene) → AreNative h s.moments → AreNative h (posting n to m s).moments
posting_native h n to m s k =
    let o : links.Outcome = sending s.links n to (spelling m) in
    if_either (λ (t : Scene). AreNative h t.moments) (is_sent s.links m) (sent_as n to m o s) s
    (dropped_native h o.sent.dropped (telling (entry.Packet (packet.Sent s.links.next n to (name_of m.body) (spelling m))) (with_links s o.after)) (tt, k)) k

told_native : (h : Header) (e : Entry) (ms : List Moment) → NotPacket e → AreNative h ms → AreNative h (Told e ∷ ms)
told_native h (entry.Packet e) ms plain k = absurd plain
told_native h _ ms plain k = (tt, k)

passing_native : (h : Header) (n : ℕ) (os : List Output) (s : Scene) → AllByRecursion IsNoPacket os → AreNative h s.moments → AreNative h (passing n os s).moments
passing_native h n [] s plain k = k
passing_native h n (Tells e ∷ os) s plain k = passing_native h n os (telling e s) plain.1 (told_native h e s.moments plain.0 k)
passing_native h n (Sends to b ∷ os) s plain k = passing_native h n os (posting n to (record { sender = n; body = b }) s) plain.1 (posting_native h n to (record { sender = n; body = b }) s k)

taking_native : (h : Header) (c : Cluster) (n now : ℕ) (ends : method.Outcome) (i : Input) (s : Scene) → AreNative h s.moments → AreNative h (taking c n now ends i s).moments
taking_native h c n now ends i s k =
    passing_native h n (given_by c n now ends i s.nodes) (record s { nodes = moved c s.nodes (Takes_in n now ends i) }) (no_packets c n now ends (s.nodes.node n) (s.nodes.disk n) i) k

-- ---- a packet that comes

body_native : (h : Header) (n : ℕ) (node : Node) (b : Body) → IsUp node → is_asking (named (name_of b)) ≡ true → false ≡ is_foreign_to (first_cluster h) n node b → IsNative (setting_of h) n (Some b)
body_native h n Down b up asks off = absurd up
body_native h n (Up w) (body.SeizeQuorum e members d) up asks off = sym off
body_native h n (Up w) (body.SeizeData e members d) up asks off = sym off
body_native h n (Up w) _ up asks off = absurd (false_true asks)

arrived_native : (h : Header) (cells : ℕ) (s : Scene) (number : ℕ) (x : Packet) (m : Message) → Known (first_cluster h) s → packet_of s.links.packets number ≡ Some x → whole_of x.bytes ≡ Some m → IsUp (s.nodes.node x.to)
    → false ≡ is_foreign_to (first_cluster h) x.to (s.nodes.node x.to) m.body → IsNativeIn (setting_of h) x.to (letter_of number s.moments)
arrived_native h cells s number x m known at reads up off = by_letter (letter_of number s.moments) refl
  where
    p : Posted s.moments s.links.next x
    p = found_posted s.moments s.links number x known.stage.flying at

    by_letter : (o : Option Letter) → letter_of number s.moments ≡ o → IsNativeIn (setting_of h) x.to o
    by_letter None is = tt
    by_letter (Some l) is = λ asks.
        let called : l.name ≡ named (name_of m.body) =
        ap (λ (z : Letter). z.name) (sym (same_some p.letter l (sym p.sent_so ∙ (ap (λ j. letter_of j s.moments) (number_found s.links number x at) ∙ is)))) ∙ (p.says m reads).0 in
        subst (λ o. IsNative (setting_of h) x.to (option_map (λ (z : Message). z.body) o)) (sym (ap whole_of (letter_bytes s number x l known.bytes at is) ∙ reads))
        (body_native h x.to (s.nodes.node x.to) m.body up (ap is_asking (sym called) ∙ asks) off)

-- one that holds no message has no letter
strayed_native : (h : Header) (s : Scene) (number : ℕ) (x : Packet) → Known (first_cluster h) s → packet_of s.links.packets number ≡ Some x → whole_of x.bytes ≡ None → IsNativeIn (setting_of h) x.to (letter_of number s.moments)
strayed_native h s number x known at none = by_letter (letter_of number s.moments) refl
  where
    by_letter : (o : Option Letter) → letter_of number s.moments ≡ o → IsNativeIn (setting_of h) x.to o
    by_letter None is = tt
    by_letter (Some l) is =
        let line : OfLine IsSpelled l = line_of IsSpelled number s.moments l known.spelled is in
        absurd (none_some line.line_so.message
        (sym (ap whole_of (letter_bytes s number x l known.bytes at is) ∙ none) ∙ (ap whole_of (sym line.line_so.spelled) ∙ whole_again line.line_so.message line.line_so.fits)))

-- ---- each thing that happens

armed_native : (h : Header) (c : Cluster) (e : Event) (s : Scene) → AreNative h s.moments → AreNative h (armed_by c e s).moments
armed_native h c (event.CrashAt n calls choice) s k = k
armed_native h c (event.Fault n d done) s k = k
armed_native h c _ s k = k

commanded_native : (h : Header) (s : Scene) (n d : ℕ) (o : Option Device) (q : PrCommand) → AreNative h s.moments → AreNative h (commanded_at s n d o q).scene.moments
commanded_native h s n d None q k = k
commanded_native h s n d (Some x) q k = k

happening_native : (h : Header) (cells : ℕ) (s : Scene) (x : Happening) → Known (first_cluster h) s → MayHappen (first_cluster h) s x → TellsHere (first_cluster h) s (λ before. false) x → AreNative h s.moments
    → AreNative h (happened (first_cluster h) s x).moments
happening_native h cells s (Speaks e) known may here k = armed_native h (first_cluster h) e (adding (Said (line.Event e)) s) (tt, k)
happening_native h cells s (Begins e) known may here k = (tt, k)
happening_native h cells s (Notes e) known may here k = (tt, k)
happening_native h cells s (Takes n now ends i) known may here k = taking_native h (first_cluster h) n now ends i s k
happening_native h cells s (Arrives number x m now ends) known may here k =
    taking_native h (first_cluster h) x.to now ends (input.Packet x.from m) (telling (entry.Packet (packet.Delivered number x.from x.to)) (removed s number))
    (arrived_native h cells s number x m known may.0 may.1 may.2 here, k)
happening_native h cells s (Strays number x) known may here k = (strayed_native h s number x known may.0 may.1, k)
happening_native h cells s (Misses number x) known may here k = (tt, k)
happening_native h cells s (Loses number x) known may here k = (tt, k)
happening_native h cells s (Repeats number x) known may here k =
    let o : links.Outcome = sending s.links x.from x.to x.bytes in
    dropped_native h o.sent.dropped (telling (entry.Packet (packet.Repeated number s.links.next)) (with_links s o.after)) (tt, k)
happening_native h cells s (Commands n d q now ends) known may here k =
    taking_native h (first_cluster h) n now ends (input.Answered (commanded s n d q).answer) (commanded s n d q).scene (commanded_native h s n d (slice_get s.devices (d - 1)) q k)
happening_native h cells s (Writes n d value now ends) known may here k =
    taking_native h (first_cluster h) n now ends (input.Wrote d value (commanded s n d (command.Write value)).answer) (commanded s n d (command.Write value)).scene
    (commanded_native h s n d (slice_get s.devices (d - 1)) (command.Write value) k)
happening_native h cells s (Refuses n d value cause) known may here k = (tt, k)

-- ---- runs

first_native : (h : Header) (cells : ℕ) → AreNative h (first_scene h cells).moments
unfolding first_scene
first_native h cells = tt

pub last_native : (c : Cluster) (s : Scene) (xs : List Happening) (x : Happening) → NoneForeign c s (xs ++ x ∷ []) → TellsHere c (all_happened c s xs) (λ before. false) x
last_native c s [] x native = native.0
last_native c s (y ∷ xs) x native = last_native c (happened c s y) xs x native.1

all_native : (h : Header) (cells : ℕ) (hs : List Happening) → length h.devices ≤ most_devices → h.cluster < 2 ^ 32 → MayAllHappen (first_cluster h) (first_scene h cells) hs
    → NoneForeign (first_cluster h) (first_scene h cells) hs → AreNative h (all_happened (first_cluster h) (first_scene h cells) hs).moments
all_native h cells hs few small = by_last P (λ may native. first_native h cells) next hs
  where
    c : Cluster
    c = first_cluster h

    first : Scene
    first = first_scene h cells

    P : List Happening → Type 0
    P xs = MayAllHappen c first xs → NoneForeign c first xs → AreNative h (all_happened c first xs).moments

    next : (xs : List Happening) (x : Happening) → P xs → P (xs ++ x ∷ [])
    next xs x k may native =
        let s : Scene = all_happened c first xs in
        let before : MayAllHappen c first xs = may_before c first xs (x ∷ []) may in
        subst (λ (t : Scene). AreNative h t.moments) (sym (happened_last c first xs x))
        (happening_native h cells s x (known_of h cells (record { few = few; small = small }) s (record { happenings = xs; may = before; is = refl })) (last_may c first xs x may)
        (last_native c first xs x native) (k before (native_before c first xs (x ∷ []) native)))

pub requests_are_native : RequestsAreNative
requests_are_native h cells hs last nodes few small disks may shaped native boots left = all_native h cells hs few small may native
