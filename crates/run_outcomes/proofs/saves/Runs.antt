-- In each run a node stops only where the rules let it save, in each event but a tick and a command at a device.
use Rattle.std.specs.Prelude.{ℕ, ◌-◌, ◌<◌, ◌≡◌, ◌≤◌, ◌^◌, All, Bool, true, false, List, [], ◌∷◌, Option, None, Some, length, slice_get}
use Rattle.std.proofs.Common.{refl, sym, ap, subst, ◌∙◌}
use Rattle.cl_base.specs.declared.header.Header.{Header}
use Rattle.cl_base.specs.declared.method.Outcome as method
use Rattle.cmm_attempt.proofs.Basics.{false_true, same_some}
use Rattle.cmm_attempt.specs.Calls.{IsDevice}
use Rattle.history.specs.Letters.{Letter, arrived}
use Rattle.history.specs.Member.{attempt_of}
use Rattle.history.specs.Moment.{Moment, Said}
use Rattle.history.specs.Names as name
use Rattle.history.specs.Names.{Name}
use Rattle.history.specs.Order.{Always, so_far, under_way}
use Rattle.history.specs.Saves.{may_save}
use Rattle.history.specs.Setting.{Setting}
use Rattle.history.specs.Trace.{delivered, stopped}
use Rattle.interconnect.specs.Links as net
use Rattle.interconnect.specs.Links.{Packet, sending}
use Rattle.membership_machine.specs.State.{Memberships}
use Rattle.node_model.specs.Steps.{stepped}
use Rattle.node_model.specs.declared.cluster.Cluster.{Cluster}
use Rattle.node_model.specs.declared.input.Input.{Input}
use Rattle.node_model.specs.declared.input.Input.TheVariants as input
use Rattle.node_model.specs.declared.node.Node.{Node}
use Rattle.node_model.specs.declared.node.Node.TheVariants.{Down, Up}
use Rattle.pgr_device.specs.Device.{Device}
use Rattle.pgr_device.specs.declared.command.PrCommand.{PrCommand}
use Rattle.pgr_device.specs.declared.command.PrCommand.TheVariants as command
use Rattle.record_disk.specs.Disks.{DiskState}
use Rattle.refinement.specs.Runs.{moved}
use Rattle.refinement.specs.Runs.Move.{Takes as Takes_in}
use Rattle.refinement.specs.Steps.{disk_rules}
use Rattle.refinement.specs.Whole.{Stands}
use Rattle.schedule_text.specs.declared.event.Event.{Event}
use Rattle.schedule_text.specs.declared.event.Event.TheVariants as event
use Rattle.schedule_text.specs.declared.line.Line.TheVariants as line
use Rattle.status_report.specs.declared.entry.Entry.TheVariants as entry
use Rattle.status_report.specs.declared.packet_entry.PacketEntry.TheVariants as packet
use Rattle.wire.specs.declared.message.Body.{Body}
use Rattle.wire.specs.declared.message.Body.TheVariants as body
use Rattle.wire.specs.declared.message.Message.{Message}
use Rattle.world_model.specs.First.{first_cluster}
use Rattle.run_history.specs.Bringing.{IsBrought, IsDelivery}
use Rattle.run_history.specs.Causes.{Brought}
use Rattle.run_history.specs.Happenings.{Arrives, Begins, Commands, Happening, IsPlain, Loses, MayHappen, Misses, Notes, Refuses, Repeats, Speaks, Strays, Takes, Writes, armed_by, commanded, commanded_at, given_by, happened, removed}
use Rattle.run_history.specs.Scenes.{Scene, adding, first_scene, passing, telling, with_links}
use Rattle.run_history.proofs.MemberRuns.{first_fit}
use Rattle.run_messages.proofs.Reaching.{IsReached, holds_of_each}
use Rattle.run_messages.specs.records.Kept.{Came, KnownScene, NodeKept}
use Rattle.run_messages.proofs.records.Arrivals.{arrived_hand, arrived_kept}
use Rattle.run_seizings.specs.Sites.{IsSeizing, UpIn}
use Rattle.run_seizings.proofs.Runs.{run_seizes}
use Rattle.run_attempts.specs.endings.Laws.{HaveTheirAttempts}
use Rattle.run_attempts.proofs.endings.Runs.{nodes_have_their_attempts_in_each_run}
use Rattle.run_downs.specs.Laws as downs
use Rattle.run_downs.specs.Laws.{SavesInEvent, is_of, is_settled, is_settled_by, is_settled_name}
use Rattle.run_downs.proofs.Packets.{no_packets}
use Rattle.run_downs.proofs.Promised.{known_at}
use Rattle.run_downs.proofs.Ruled.{settled_stops_of_each_run}
use Rattle.run_downs.proofs.Runs.{saves_of_each_run}
use Rattle.run_downs.proofs.Updates.{IsDelivering}
use Rattle.run_outcomes.specs.saves.Laws.{LetterStopsOfEachRun, StopsByRule, is_ruled}
use Rattle.run_outcomes.specs.saves.Kept.{AllHere, IsAt, KeptIn, Rests, StopsHere, is_left, is_left_by, is_left_in}
use Rattle.run_outcomes.proofs.saves.Here.{IsSilent, dropped_here, silent_here}
use Rattle.run_outcomes.proofs.saves.Kept.{run_kept}
use Rattle.run_outcomes.proofs.saves.Letters.{IsNumbered, Known, on_way, up_here}

-- ---- a message comes

-- where it is an Install, it was sent in the attempt that it is of
numbered_so : (ms : List Moment) (n from : ℕ) (b : Body) (k : Brought ms n from b) → IsNumbered k.letter b
numbered_so ms n from (body.Install i) k = ap (λ f. attempt_of f k.letter.before) k.sender ∙ k.caused.1
numbered_so ms n from _ k = tt

-- what is known of a scene
record Knows (c : Cluster) (h : Header) (s : Scene) : Type 0 where
  known : KnownScene c s
  theirs : HaveTheirAttempts s
  seizing : IsSeizing h s
  kept : KeptIn s

-- .. and of the node to which the message comes
abbrev KnownAt : Cluster → Memberships → ℕ → ℕ → Body → DiskState → List Moment → Node → Type 0
KnownAt c M n from b disk ms Down = Unit {0}
KnownAt c M n from b disk ms (Up x) = Known c M n from b x disk.kept ms

node_here : (S : Setting) (c : Cluster) (M : Memberships) (n now : ℕ) (ends : method.Outcome) (from : ℕ) (m : Message) (node : Node) (disk : DiskState) (s : Scene) → n ≤ 32 → All IsDevice c.attached → KnownAt c M n from m.body disk s.moments node
    → AllHere S s.moments → AllHere S (passing n (stepped disk_rules c n now ends node disk (input.Packet from m)).given s).moments
node_here S c M n now ends from m Down disk s low fits k so = so
node_here S c M n now ends from m (Up x) disk s low fits k so = up_here S c M n now ends from m x disk s low fits k so

delivering : (packets : List Packet) (number : ℕ) (e : Option Event) → IsDelivery packets number e → IsDelivering e
delivering packets number (Some (event.Deliver k)) h = tt
delivering packets number (Some (event.Next from to)) h = tt
delivering packets number _ h = absurd h

arrives_known : (c : Cluster) (h : Header) (s : Scene) (number : ℕ) (x : Packet) (m : Message) (now : ℕ) (ends : method.Outcome) → MayHappen c s (Arrives number x m now ends) → (k : Knows c h s) → (node : Node) → s.nodes.node x.to ≡ node
    → KnownAt c k.known.stage.machine x.to x.from m.body (s.nodes.disk x.to) (delivered number x.from x.to ∷ s.moments) node
arrives_known c h s number x m now ends may k Down at = tt
arrives_known c h s number x m now ends may k (Up y) at =
    let n : ℕ = x.to in
    let ms : List Moment = delivered number x.from n ∷ s.moments in
    let M : Memberships = k.known.stage.machine in
    let came : Came ms n x.from m.body = arrived_kept c s number x m may.0 may.1 k.known in
    let brought : Brought ms n x.from m.body = arrived_hand c s number x m may.0 may.1 k.known.stage in
    record {
      holds = k.known.stage.holds;
      stands = subst (λ z. Stands c M n z (s.nodes.disk n).kept) at (k.known.stage.stands n);
      delivers = delivering s.links.packets number (under_way s.moments) may.6;
      came = came;
      numbered = subst (λ l. IsNumbered l m.body) (same_some brought.letter came.letter (sym brought.here ∙ came.here)) (numbered_so ms n x.from m.body brought);
      record_so = (k.known.at n).record_so;
      on = on_way M s.nodes s.moments n (Up y) k.theirs at (subst (NodeKept M s.moments n) at (k.known.at n).up);
      rests = subst (IsAt Rests) at (k.kept.rests n);
      low = λ e is. k.kept.low n e is;
      session = (subst (UpIn h s.moments n) at (k.seizing.sites n).up).session;
    }

-- ---- what comes otherwise

-- it comes in no event that delivers a message
brought_silent : (e : Option Event) (a : Option Letter) (n : ℕ) (i : Input) → IsPlain i → IsBrought e n i → is_left_in e a ≡ false
brought_silent e a n input.Boot plain is = ap (λ z. is_left_in z a) is
brought_silent e a n input.Crash plain is = ap (λ z. is_left_in z a) is
brought_silent e a n input.Tick plain is = ap (λ z. is_left_in z a) is
brought_silent e a n input.CommandDue plain is = ap (λ z. is_left_in z a) is
brought_silent e a n (input.Commanded words) plain is = ap (λ z. is_left_in z a) is
brought_silent e a n (input.Reported r good) plain is = ap (λ z. is_left_in z a) is
brought_silent e a n (input.Client address client port) plain is = ap (λ z. is_left_in z a) is
brought_silent e a n (input.Packet from m) plain is = absurd plain
brought_silent e a n (input.Answered x) plain is = absurd plain
brought_silent e a n (input.Wrote d value x) plain is = absurd plain

commanded_here : (S : Setting) (s : Scene) (n d : ℕ) (o : Option Device) (k : PrCommand) → AllHere S s.moments → AllHere S (commanded_at s n d o k).scene.moments
commanded_here S s n d None k h = h
commanded_here S s n d (Some x) k h = h

commanded_silent : (s : Scene) (n d : ℕ) (o : Option Device) (k : PrCommand) → IsSilent s.moments → IsSilent (commanded_at s n d o k).scene.moments
commanded_silent s n d None k h = h
commanded_silent s n d (Some x) k h = h

speaks_here : (S : Setting) (c : Cluster) (e : Event) (s : Scene) → AllHere S s.moments → AllHere S (armed_by c e (adding (Said (line.Event e)) s)).moments
speaks_here S c (event.CrashAt n calls choice) s h = (tt, h)
speaks_here S c (event.Fault n d done) s h = (tt, h)
speaks_here S c _ s h = (tt, h)

happening_here : (S : Setting) (c : Cluster) (h : Header) (s : Scene) (x : Happening) → All IsDevice c.attached → MayHappen c s x → Knows c h s → AllHere S s.moments → AllHere S (happened c s x).moments
happening_here S c h s (Speaks e) fits may k so = speaks_here S c e s so
happening_here S c h s (Begins e) fits may k so = (tt, so)
happening_here S c h s (Notes e) fits may k so = (tt, so)
happening_here S c h s (Takes n now ends i) fits may k so =
    silent_here S n (given_by c n now ends i s.nodes) (record s { nodes = moved c s.nodes (Takes_in n now ends i) }) (no_packets c n now ends (s.nodes.node n) (s.nodes.disk n) i)
    (brought_silent (under_way s.moments) (arrived s.moments) n i may.1 may.5) so
happening_here S c h s (Arrives number x m now ends) fits may k so =
    let t : Scene = telling (entry.Packet (packet.Delivered number x.from x.to)) (removed s number) in
    node_here S c k.known.stage.machine x.to now ends x.from m (s.nodes.node x.to) (s.nodes.disk x.to) (record t { nodes = moved c s.nodes (Takes_in x.to now ends (input.Packet x.from m)) }) may.3.1 fits
    (arrives_known c h s number x m now ends may k (s.nodes.node x.to) refl) (tt, so)
happening_here S c h s (Strays number x) fits may k so = (tt, so)
happening_here S c h s (Misses number x) fits may k so = (tt, so)
happening_here S c h s (Loses number x) fits may k so = (tt, so)
happening_here S c h s (Repeats number x) fits may k so =
    let o : net.Outcome = sending s.links x.from x.to x.bytes in
    dropped_here S o.sent.dropped (telling (entry.Packet (packet.Repeated number s.links.next)) (with_links s o.after)) (tt, so)
happening_here S c h s (Commands n d q now ends) fits may k so =
    let o : Option Device = slice_get s.devices (d - 1) in
    let z : Scene = (commanded s n d q).scene in
    let i : Input = input.Answered (commanded s n d q).answer in
    silent_here S n (given_by c n now ends i z.nodes) (record z { nodes = moved c z.nodes (Takes_in n now ends i) }) (no_packets c n now ends (z.nodes.node n) (z.nodes.disk n) i)
    (commanded_silent s n d o q (ap (λ e. is_left_in e (arrived s.moments)) may.5)) (commanded_here S s n d o q so)
happening_here S c h s (Writes n d value now ends) fits may k so =
    let o : Option Device = slice_get s.devices (d - 1) in
    let q : PrCommand = command.Write value in
    let z : Scene = (commanded s n d q).scene in
    let i : Input = input.Wrote d value (commanded s n d q).answer in
    silent_here S n (given_by c n now ends i z.nodes) (record z { nodes = moved c z.nodes (Takes_in n now ends i) }) (no_packets c n now ends (z.nodes.node n) (z.nodes.disk n) i)
    (commanded_silent s n d o q (ap (λ e. is_left_in e (arrived s.moments)) may.4)) (commanded_here S s n d o q so)
happening_here S c h s (Refuses n d value why) fits may k so = (tt, so)

-- ---- runs

knows_at : (h : Header) (cells : ℕ) (s : Scene) → length h.devices ≤ 16 → h.cluster < 2 ^ 32 → IsReached h cells s → Knows (first_cluster h) h s
knows_at h cells s few small r = record {
  known = known_at h cells s few small r;
  theirs = subst HaveTheirAttempts r.is (nodes_have_their_attempts_in_each_run h cells r.happenings few small r.may);
  seizing = subst (IsSeizing h) r.is (run_seizes h cells r.happenings few small r.may).seizing;
  kept = subst KeptIn r.is (run_kept h cells r.happenings few small r.may);
}

first_here : (S : Setting) (h : Header) (cells : ℕ) → AllHere S (first_scene h cells).moments
unfolding first_scene
first_here S h cells = tt

-- ---- each kind of event

-- a message is one of these, or was settled
left_or_settled : (called : Name) → is_left called ≡ false → is_settled_name called ≡ true
left_or_settled name.Promise h = absurd (false_true (sym h))
left_or_settled name.Nack h = absurd (false_true (sym h))
left_or_settled (name.Seized d) h = absurd (false_true (sym h))
left_or_settled name.Install h = absurd (false_true (sym h))
left_or_settled name.Ready h = absurd (false_true (sym h))
left_or_settled _ h = refl

by_letter : (e : Option Event) (a : Option Letter) (P : Type 0) → IsDelivering e → (is_left_in e a ≡ true → P) → (is_settled e a ≡ true → P) → P
by_letter (Some (event.Deliver p)) None P is here settled = here refl
by_letter (Some (event.Deliver p)) (Some l) P is here settled = by_test (is_left_by l) refl
  where
    by_test : (b : Bool) → is_left_by l ≡ b → P
    by_test true left = here left
    by_test false other = settled (left_or_settled l.name other)
by_letter (Some (event.Next from to)) None P is here settled = here refl
by_letter (Some (event.Next from to)) (Some l) P is here settled = by_test (is_left_by l) refl
  where
    by_test : (b : Bool) → is_left_by l ≡ b → P
    by_test true left = here left
    by_test false other = settled (left_or_settled l.name other)
by_letter _ a P is here settled = absurd is

by_event : (n : ℕ) (e : Option Event) (a : Option Letter) (so : List Moment) (P : Type 0) → (is_left_in e a ≡ true → P) → (is_settled e a ≡ true → P) → is_of n e so ≡ true → is_ruled e ≡ true → P
by_event n (Some (event.Boot m)) a so P here settled own ruled = settled refl
by_event n (Some (event.Command m words)) a so P here settled own ruled = settled refl
by_event n (Some (event.Probe m resource good)) a so P here settled own ruled = settled refl
by_event n (Some (event.Deliver p)) a so P here settled own ruled = by_letter (Some (event.Deliver p)) a P tt here settled
by_event n (Some (event.Next from to)) a so P here settled own ruled = by_letter (Some (event.Next from to)) a P tt here settled
by_event n (Some (event.Tick m)) a so P here settled own ruled = absurd (false_true ruled)
by_event n (Some (event.Disk m)) a so P here settled own ruled = absurd (false_true ruled)
by_event n _ a so P here settled own ruled = absurd (false_true own)

one : (S : Setting) (ms : List Moment) (x : Moment) → StopsHere S ms x → downs.StopsByRule S ms x → SavesInEvent ms x → StopsByRule S ms x
one S ms (stopped n) here settled own = λ ruled. by_event n (under_way ms) (arrived ms) (so_far ms) (may_save S n ms ≡ true) here settled own ruled
one S ms _ here settled own = tt

each : (S : Setting) (ms : List Moment) → AllHere S ms → Always (downs.StopsByRule S) ms → Always SavesInEvent ms → Always (StopsByRule S) ms
each S [] here settled own = tt
each S (x ∷ ms) here settled own = (one S ms x here.0 settled.0 own.0, each S ms here.1 settled.1 own.1)

pub letter_stops_of_each_run : LetterStopsOfEachRun
letter_stops_of_each_run h cells hs few small may S =
    each S _
    (holds_of_each h cells (λ (s : Scene). AllHere S s.moments) (λ s x now at more so. happening_here S (first_cluster h) h s x (first_fit h few) now (knows_at h cells s few small at) so) (first_here S h cells) hs may)
    (settled_stops_of_each_run h cells hs few small may S) (saves_of_each_run h cells hs few small may)
