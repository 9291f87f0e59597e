-- Where each line that boots a node boots one of the header, no other node boots.
use Rattle.std.specs.Prelude.{ℕ, ◌-◌, ◌≡◌, List, [], ◌∷◌, Option, None, Some, slice_get}
use Rattle.std.specs.List.{AllByRecursion}
use Rattle.std.proofs.Common.{refl, subst, ◌∙◌}
use Rattle.cl_base.specs.declared.header.Header.{Header}
use Rattle.cl_base.specs.declared.method.Outcome as method
use Rattle.cl_base.specs.declared.packet.DropCause.{DropCause}
use Rattle.cmm_attempt.proofs.Basics.{if_either}
use Rattle.history.specs.Moment.{Said, lines_of}
use Rattle.interconnect.specs.Links as links
use Rattle.interconnect.specs.Links.{sending}
use Rattle.node_model.specs.declared.cluster.Cluster.{Cluster}
use Rattle.node_model.specs.declared.input.Input.{Input}
use Rattle.node_model.specs.declared.input.Input.TheVariants as input
use Rattle.node_model.specs.declared.output.Output.{Output}
use Rattle.node_model.specs.declared.output.Output.TheVariants.{Sends, Tells}
use Rattle.pgr_device.specs.Device.{Device}
use Rattle.pgr_device.specs.declared.command.PrCommand.{PrCommand}
use Rattle.pgr_device.specs.declared.command.PrCommand.TheVariants as command
use Rattle.refinement.specs.Runs.{moved}
use Rattle.refinement.specs.Runs.Move.{Takes as Takes_in}
use Rattle.run_history.specs.Happenings.{Arrives, Begins, Commands, Happening, Loses, Misses, Notes, Refuses, Repeats, Speaks, Strays, Takes, Writes, all_happened, armed_by, commanded, commanded_at, given_by, happened, removed, taking}
use Rattle.run_history.specs.Scenes.{Scene, adding, dropped_so, first_scene, passing, posting, sent_as, telling, with_links}
use Rattle.run_history.specs.Telling.{IsInHeader, lines_upon}
use Rattle.run_packets.proofs.native.Boots.{boots_are_of_the_header}
use Rattle.run_packets.specs.native.Laws.{SpeaksInHeader}
use Rattle.schedule_text.specs.declared.event.Event.{Event}
use Rattle.schedule_text.specs.declared.event.Event.TheVariants as event
use Rattle.schedule_text.specs.declared.line.Line.{Line}
use Rattle.schedule_text.specs.declared.line.Line.TheVariants as line
use Rattle.status_report.specs.declared.entry.Entry.TheVariants as entry
use Rattle.status_report.specs.declared.packet_entry.PacketEntry.TheVariants as packet
use Rattle.wire.specs.Spelling.{spelling}
use Rattle.wire.specs.declared.message.Message.{Message}
use Rattle.world_model.specs.First.{first_cluster}
use Rattle.world_model.specs.Sends.{is_sent}
use Rattle.run_packets.proofs.fits.Runs.{no_disk_fails_in_each_run}
use Rattle.run_packets.specs.fits.Laws.{IsOfHeader, NoDiskFailsByLines}

abbrev AreOf : Header → List Line → Type 0
AreOf h ls = AllByRecursion (IsOfHeader h) ls

-- ---- what is told is no line

dropped_lines : (o : Option (ℕ × DropCause)) (s : Scene) → lines_of (dropped_so o s).moments ≡ lines_of s.moments
dropped_lines None s = refl
dropped_lines (Some drop) s = refl

posting_lines : (from to : ℕ) (m : Message) (s : Scene) → lines_of (posting from to m s).moments ≡ lines_of s.moments
posting_lines from to m s =
    let o : links.Outcome = sending s.links from to (spelling m) in
    if_either (λ (t : Scene). lines_of t.moments ≡ lines_of s.moments) (is_sent s.links m) (sent_as from to m o s) s (dropped_lines o.sent.dropped _) refl

passing_lines : (n : ℕ) (os : List Output) (s : Scene) → lines_of (passing n os s).moments ≡ lines_of s.moments
passing_lines n [] s = refl
passing_lines n (Tells e ∷ os) s = passing_lines n os (telling e s)
passing_lines n (Sends to b ∷ os) s = passing_lines n os (posting n to (record { sender = n; body = b }) s) ∙ posting_lines n to (record { sender = n; body = b }) s

armed_lines : (c : Cluster) (e : Event) (s : Scene) → lines_of (armed_by c e s).moments ≡ lines_of s.moments
armed_lines c (event.Fault n d done) s = refl
armed_lines c (event.CrashAt n calls choice) s = refl
armed_lines c _ s = refl

commanded_lines : (s : Scene) (n d : ℕ) (o : Option Device) (k : PrCommand) → lines_of (commanded_at s n d o k).scene.moments ≡ lines_of s.moments
commanded_lines s n d None k = refl
commanded_lines s n d (Some x) k = refl

taking_lines : (c : Cluster) (n now : ℕ) (ends : method.Outcome) (i : Input) (s : Scene) → lines_of (taking c n now ends i s).moments ≡ lines_of s.moments
taking_lines c n now ends i s = passing_lines n (given_by c n now ends i s.nodes) (record s { nodes = moved c s.nodes (Takes_in n now ends i) })

-- ---- each thing that happens

one_line : (h : Header) (c : Cluster) (s : Scene) (x : Happening) → AreOf h (lines_of (happened c s x).moments) → AreOf h (lines_of s.moments) × SpeaksInHeader h x
one_line h c s (Speaks e) are = let k : AreOf h (line.Event e ∷ lines_of s.moments) = subst (AreOf h) (armed_lines c e (adding (Said (line.Event e)) s)) are in (k.1, k.0)
one_line h c s (Begins e) are = (are, tt)
one_line h c s (Notes e) are = (are, tt)
one_line h c s (Takes n now ends i) are = (subst (AreOf h) (taking_lines c n now ends i s) are, tt)
one_line h c s (Arrives number x m now ends) are =
    (subst (AreOf h) (taking_lines c x.to now ends (input.Packet x.from m) (telling (entry.Packet (packet.Delivered number x.from x.to)) (removed s number))) are, tt)
one_line h c s (Strays number x) are = (are, tt)
one_line h c s (Misses number x) are = (are, tt)
one_line h c s (Loses number x) are = (are, tt)
one_line h c s (Repeats number x) are =
    let o : links.Outcome = sending s.links x.from x.to x.bytes in
    (subst (AreOf h) (dropped_lines o.sent.dropped (telling (entry.Packet (packet.Repeated number s.links.next)) (with_links s o.after))) are, tt)
one_line h c s (Commands n d k now ends) are =
    (subst (AreOf h) (taking_lines c n now ends (input.Answered (commanded s n d k).answer) (commanded s n d k).scene ∙ commanded_lines s n d (slice_get s.devices (d - 1)) k) are, tt)
one_line h c s (Writes n d value now ends) are =
    let k : PrCommand = command.Write value in
    (subst (AreOf h) (taking_lines c n now ends (input.Wrote d value (commanded s n d k).answer) (commanded s n d k).scene ∙ commanded_lines s n d (slice_get s.devices (d - 1)) k) are, tt)
one_line h c s (Refuses n d value cause) are = (are, tt)

pub all_lines : (h : Header) (c : Cluster) (s : Scene) (hs : List Happening) → AreOf h (lines_of (all_happened c s hs).moments) → AreOf h (lines_of s.moments) × AllByRecursion (SpeaksInHeader h) hs
all_lines h c s [] are = (are, tt)
all_lines h c s (x ∷ hs) are =
    let rest : AreOf h (lines_of (happened c s x).moments) × AllByRecursion (SpeaksInHeader h) hs = all_lines h c (happened c s x) hs are in
    let first : AreOf h (lines_of s.moments) × SpeaksInHeader h x = one_line h c s x rest.0 in
    (first.0, (first.1, rest.1))

-- the lines of these events are of the header, where those that stood were
pub events_are_of : (h : Header) (events : List Event) (before : List Line) → AllByRecursion (IsInHeader h) events → AllByRecursion (IsOfHeader h) before → AllByRecursion (IsOfHeader h) (lines_upon before events)
events_are_of h [] before are stood = stood
events_are_of h (e ∷ events) before are stood = events_are_of h events (line.Event e ∷ before) are.1 (are.0, stood)

pub no_disk_fails_by_lines : NoDiskFailsByLines
no_disk_fails_by_lines h cells hs nodes few small may shaped are short =
    no_disk_fails_in_each_run h cells hs nodes few small may (boots_are_of_the_header h cells hs shaped (all_lines h (first_cluster h) (first_scene h cells) hs are).1) short
