-- Each thing that happens keeps what messages carry of updates; so does each run.
use Rattle.std.specs.Prelude.{ℕ, ◌-◌, ◌≡◌, ◌<◌, ◌^◌, All, List, [], ◌∷◌, length, Option, None, Some, slice_get}
use Rattle.std.specs.List.{AllByRecursion}
use Rattle.std.proofs.Common.{refl, sym, subst, inl, inr}
use Rattle.cl_base.specs.declared.header.Header.{Header}
use Rattle.cl_base.specs.declared.method.Outcome as method
use Rattle.cl_base.specs.declared.packet.DropCause.{DropCause}
use Rattle.cl_base.specs.declared.packet.DropCause.TheVariants as drop
use Rattle.cmm_attempt.specs.Calls.{IsDevice}
use Rattle.history.specs.Contents.{CarriedUpdates}
use Rattle.history.specs.Letters.{arrived}
use Rattle.history.specs.Member.{in_collect}
use Rattle.history.specs.Moment.{Moment, Part, Said, Told, lines_of}
use Rattle.history.specs.Setting.{Setting}
use Rattle.interconnect.specs.Links as links
use Rattle.interconnect.specs.Links.{Links, removing, sending}
use Rattle.membership_machine.specs.State.{Memberships}
use Rattle.node_model.specs.declared.cluster.Cluster.{Cluster}
use Rattle.node_model.specs.declared.input.Input.{Input}
use Rattle.node_model.specs.declared.input.Input.TheVariants as input
use Rattle.pgr_device.specs.Device.{Device}
use Rattle.pgr_device.specs.declared.command.PrCommand.{PrCommand}
use Rattle.pgr_device.specs.declared.command.PrCommand.TheVariants as command
use Rattle.refinement.proofs.Handlers.{delivered_by}
use Rattle.refinement.specs.Runs.{IsAmong, Letter}
use Rattle.refinement.specs.Ties.{Known, MessageTold}
use Rattle.schedule_text.specs.declared.event.Event.{Event}
use Rattle.schedule_text.specs.declared.event.Event.TheVariants as event
use Rattle.schedule_text.specs.declared.line.Line.{Line}
use Rattle.schedule_text.specs.declared.line.Line.TheVariants as line
use Rattle.status_report.specs.declared.device_entry.DeviceEntry.{DeviceEntry}
use Rattle.status_report.specs.declared.device_entry.DeviceEntry.TheVariants as device
use Rattle.status_report.specs.declared.entry.Entry.TheVariants as entry
use Rattle.status_report.specs.declared.packet_entry.PacketEntry.{PacketEntry}
use Rattle.status_report.specs.declared.packet_entry.PacketEntry.TheVariants as packet
use Rattle.status_report.specs.declared.schedule_entry.ScheduleEntry.{ScheduleEntry}
use Rattle.wire.specs.declared.message.Body.{Body}
use Rattle.world_model.specs.First.{first_cluster}
use Rattle.run_history.specs.Happenings.{Arrives, Begins, Commands, Happening, IsPlain, Loses, MayAllHappen, MayHappen, Misses, Notes, Refuses, Repeats, Speaks, Strays, Takes, Writes, all_happened, armed_by, commanded, commanded_at, given_by, happened, removed, taking}
use Rattle.run_history.specs.Scenes.{Scene, adding, dropped_so, first_scene, telling, with_links}
use Rattle.run_history.specs.Stages.{Stage}
use Rattle.run_history.proofs.MemberRuns.{first_fit}
use Rattle.run_messages.proofs.Collecting.{arrival_collects, nothing_collects}
use Rattle.run_messages.proofs.Reaching.{IsReached, IsSmall, holds_of_each, stage_of, taking_good}
use Rattle.run_messages.proofs.Runs.{Knows, memberships_of_each_run}
use Rattle.run_messages.specs.Laws.{AreSeated, IsSeated}
use Rattle.run_messages.specs.Steps.{collecting}
use Rattle.run_commands.specs.carried.Replies.{AnswersAreMembers}
use Rattle.run_commands.specs.carried.Steps.{CarriedSo}
use Rattle.run_commands.proofs.carried.Carried.{replies_in, updates_in}
use Rattle.run_commands.proofs.carried.Causes.{CameSo}
use Rattle.run_commands.proofs.carried.Counts.{dropped_used, few_longer, passing_used}
use Rattle.run_commands.proofs.carried.Flying.{arrived_so, flying_stays, removing_posted, repeated_posted}
use Rattle.run_commands.proofs.carried.Kept.{CarriesIn, moment_carries, taking_carries}
use Rattle.run_commands.proofs.carried.Lines.{SameAsk}
use Rattle.run_commands.proofs.carried.Steps.{Reads}

-- what is known of all nodes
abbrev pub knows : (c : Cluster) (s : Scene) → Stage c s → Knows c s.nodes
knows c s b = record { machine = b.machine; holds = b.holds; stands = b.stands }

-- ---- what comes to a node is true

pub told_among : (M : Memberships) (from : ℕ) (b : Body) (ls : List Letter) → IsAmong from b ls → AllByRecursion (λ (l : Letter). MessageTold M l.from l.body) ls → MessageTold M from b
told_among M from b [] h all = absurd h
told_among M from b (l ∷ ls) (inl e) all = subst (λ z. MessageTold M z b) e.0 (subst (λ z. MessageTold M l.from z) e.1 all.0)
told_among M from b (l ∷ ls) (inr h) all = told_among M from b ls h all.1

pub plain_known : (M : Memberships) (i : Input) → IsPlain i → Known M (delivered_by i)
plain_known M (input.Packet from m) plain = absurd plain
plain_known M _ plain = tt

pub plain_came : (n : ℕ) (ms : List Moment) (i : Input) → IsPlain i → CameSo i n ms
plain_came n ms (input.Packet from m) plain = absurd plain
plain_came n ms _ plain = tt

pub plain_collects : (n : ℕ) (ms : List Moment) (i : Input) → IsPlain i → arrived ms ≡ None → in_collect n ms ≡ collecting (delivered_by i)
plain_collects n ms (input.Packet from m) plain h = absurd plain
plain_collects n ms _ plain h = nothing_collects n ms h

-- ---- few lines were said before

armed_moments : (c : Cluster) (e : Event) (s : Scene) → (armed_by c e s).moments ≡ s.moments
armed_moments c (event.Fault n d done) s = refl
armed_moments c (event.CrashAt n calls choice) s = refl
armed_moments c _ s = refl

commanded_moments : (s : Scene) (n d : ℕ) (o : Option Device) (k : PrCommand) → (commanded_at s n d o k).scene.moments ≡ s.moments
commanded_moments s n d None k = refl
commanded_moments s n d (Some x) k = refl

abbrev pub FewLines : List Moment → Type 0
FewLines ms = length (lines_of ms) < 2 ^ 63

few_taking : (c : Cluster) (n now : ℕ) (ends : method.Outcome) (i : Input) (s : Scene) → FewLines (taking c n now ends i s).moments → FewLines s.moments
few_taking c n now ends i s h = subst (λ ls. length ls < 2 ^ 63) (passing_used n (given_by c n now ends i s.nodes) _).lines h

pub few_before : (c : Cluster) (s : Scene) (x : Happening) → FewLines (happened c s x).moments → FewLines s.moments
few_before c s (Speaks e) h = few_longer (line.Event e) (lines_of s.moments) (subst FewLines (armed_moments c e (adding (Said (line.Event e)) s)) h)
few_before c s (Begins e) h = h
few_before c s (Notes e) h = h
few_before c s (Takes n now ends i) h = few_taking c n now ends i s h
few_before c s (Arrives number x m now ends) h = few_taking c x.to now ends (input.Packet x.from m) (telling (entry.Packet (packet.Delivered number x.from x.to)) (removed s number)) h
few_before c s (Strays number x) h = h
few_before c s (Misses number x) h = h
few_before c s (Loses number x) h = h
few_before c s (Repeats number x) h =
    let o : links.Outcome = sending s.links x.from x.to x.bytes in
    subst (λ ls. length ls < 2 ^ 63) (dropped_used o.sent.dropped (telling (entry.Packet (packet.Repeated number s.links.next)) (with_links s o.after))).lines h
few_before c s (Commands n d k now ends) h =
    subst FewLines (commanded_moments s n d (slice_get s.devices (d - 1)) k) (few_taking c n now ends (input.Answered (commanded s n d k).answer) (commanded s n d k).scene h)
few_before c s (Writes n d value now ends) h =
    let o : Option Device = slice_get s.devices (d - 1) in
    subst FewLines (commanded_moments s n d o (command.Write value))
    (few_taking c n now ends (input.Wrote d value (commanded s n d (command.Write value)).answer) (commanded s n d (command.Write value)).scene h)
few_before c s (Refuses n d value cause) h = h

-- ---- lines of the world

quiet_said : (S : Setting) (k : ℕ) (l : Line) (ms : List Moment) → SameAsk S k ms (Said l ∷ ms)
quiet_said S k l ms = record { asks = record { asking = λ q. refl; asked = λ q. refl; command = λ q. refl }; proposed = λ e v is. refl }

quiet_part : (S : Setting) (k : ℕ) (e : Event) (ms : List Moment) → SameAsk S k ms (Part e ∷ ms)
quiet_part S k e ms = record { asks = record { asking = λ q. refl; asked = λ q. refl; command = λ q. refl }; proposed = λ f v is. refl }

quiet_noted : (S : Setting) (k : ℕ) (e : ScheduleEntry) (ms : List Moment) → SameAsk S k ms (Told (entry.Schedule e) ∷ ms)
quiet_noted S k e ms = record { asks = record { asking = λ q. refl; asked = λ q. refl; command = λ q. refl }; proposed = λ f v is. refl }

quiet_device : (S : Setting) (k : ℕ) (e : DeviceEntry) (ms : List Moment) → SameAsk S k ms (Told (entry.Device e) ∷ ms)
quiet_device S k e ms = record { asks = record { asking = λ q. refl; asked = λ q. refl; command = λ q. refl }; proposed = λ f v is. refl }

pub quiet_packet : (S : Setting) (k : ℕ) (e : PacketEntry) (ms : List Moment) → SameAsk S k ms (Told (entry.Packet e) ∷ ms)
quiet_packet S k e ms = record { asks = record { asking = λ q. refl; asked = λ q. refl; command = λ q. refl }; proposed = λ f v is. refl }

dropped_carries : (S : Setting) (c : Cluster) (o : Option (ℕ × DropCause)) (s : Scene) → Knows c s.nodes → CarriesIn S s → CarriesIn S (dropped_so o s)
dropped_carries S c None s k h = h
dropped_carries S c (Some drop) s k h =
    let e : PacketEntry = packet.Dropped drop.0 drop.1 in
    moment_carries S c s.nodes (Told (entry.Packet e)) s.moments s.links s.links k (λ j. quiet_packet S j e s.moments) tt (flying_stays s.moments (Told (entry.Packet e)) s.links (λ p. refl) h.flying) h

armed_carries : (S : Setting) (c : Cluster) (e : Event) (s : Scene) → CarriesIn S s → CarriesIn S (armed_by c e s)
armed_carries S c (event.Fault n d done) s h = record { nodes = h.nodes; carried = h.carried; flying = h.flying }
armed_carries S c (event.CrashAt n calls choice) s h = record { nodes = h.nodes; carried = h.carried; flying = h.flying }
armed_carries S c _ s h = h

commanded_carries : (S : Setting) (s : Scene) (n d : ℕ) (o : Option Device) (k : PrCommand) → CarriesIn S s → CarriesIn S (commanded_at s n d o k).scene
commanded_carries S s n d None k h = h
commanded_carries S s n d (Some x) k h = record { nodes = h.nodes; carried = h.carried; flying = h.flying }

pub commanded_knows : (c : Cluster) (s : Scene) (n d : ℕ) (o : Option Device) (k : PrCommand) → Knows c s.nodes → Knows c (commanded_at s n d o k).scene.nodes
commanded_knows c s n d None k h = h
commanded_knows c s n d (Some x) k h = h

pub commanded_collects : (s : Scene) (n d j : ℕ) (o : Option Device) (k : PrCommand) → arrived s.moments ≡ None → in_collect j (commanded_at s n d o k).scene.moments ≡ collecting None
commanded_collects s n d j None k h = nothing_collects j s.moments h
commanded_collects s n d j (Some x) k h = nothing_collects j s.moments h

pub commanded_seats : (s : Scene) (n d j : ℕ) (o : Option Device) (k : PrCommand) → IsSeated s.moments j (s.nodes.node j) → IsSeated (commanded_at s n d o k).scene.moments j ((commanded_at s n d o k).scene.nodes.node j)
commanded_seats s n d j None k h = h
commanded_seats s n d j (Some x) k h = h

-- ---- each thing that happens

happening_carries : (S : Setting) (c : Cluster) (s : Scene) (x : Happening) → Reads c S → All IsDevice c.attached → MayHappen c s x → Stage c s → Stage c (happened c s x) → AreSeated s → FewLines s.moments
    → CarriesIn S s → CarriesIn S (happened c s x)
happening_carries S c s (Speaks e) reads fits may before b seated few h =
    let m : Moment = Said (line.Event e) in
    armed_carries S c e (adding m s)
    (moment_carries S c s.nodes m s.moments s.links s.links (knows c s before) (λ j. quiet_said S j (line.Event e) s.moments) tt (flying_stays s.moments m s.links (λ p. refl) h.flying) h)
happening_carries S c s (Begins e) reads fits may before b seated few h =
    moment_carries S c s.nodes (Part e) s.moments s.links s.links (knows c s before) (λ j. quiet_part S j e s.moments) tt (flying_stays s.moments (Part e) s.links (λ p. refl) h.flying) h
happening_carries S c s (Notes e) reads fits may before b seated few h =
    let m : Moment = Told (entry.Schedule e) in
    moment_carries S c s.nodes m s.moments s.links s.links (knows c s before) (λ j. quiet_noted S j e s.moments) tt (flying_stays s.moments m s.links (λ p. refl) h.flying) h
happening_carries S c s (Takes n now ends i) reads fits may before b seated few h =
    let k : Knows c s.nodes = knows c s before in
    taking_carries S c s n now ends i reads may.0.1 fits k (plain_known k.machine i may.1) (plain_collects n s.moments i may.1 may.3) (taking_good c s n now ends i b) (seated n) may.4
    (plain_came n s.moments i may.1) few h
happening_carries S c s (Arrives number x m now ends) reads fits may before b seated few h =
    let e : PacketEntry = packet.Delivered number x.from x.to in
    let t : Scene = telling (entry.Packet e) (removed s number) in
    let k : Knows c s.nodes = knows c s before in
    taking_carries S c t x.to now ends (input.Packet x.from m) reads may.3.1 fits k (told_among k.machine x.from m.body s.nodes.sent may.4 before.sent) (arrival_collects c s number x m may.0 may.1 before)
    (taking_good c t x.to now ends (input.Packet x.from m) b) (seated x.to) tt (arrived_so s.moments s.links number x m may.0 may.1 h.flying) few
    (moment_carries S c s.nodes (Told (entry.Packet e)) s.moments s.links (removing s.links number) k (λ j. quiet_packet S j e s.moments) tt
    (flying_stays s.moments (Told (entry.Packet e)) (removing s.links number) (λ p. refl) (removing_posted s.moments s.links number h.flying)) h)
happening_carries S c s (Strays number x) reads fits may before b seated few h =
    let e : PacketEntry = packet.Delivered number x.from x.to in
    moment_carries S c s.nodes (Told (entry.Packet e)) s.moments s.links (removing s.links number) (knows c s before) (λ j. quiet_packet S j e s.moments) tt
    (flying_stays s.moments (Told (entry.Packet e)) (removing s.links number) (λ p. refl) (removing_posted s.moments s.links number h.flying)) h
happening_carries S c s (Misses number x) reads fits may before b seated few h =
    let e : PacketEntry = packet.Dropped number drop.Down in
    moment_carries S c s.nodes (Told (entry.Packet e)) s.moments s.links (removing s.links number) (knows c s before) (λ j. quiet_packet S j e s.moments) tt
    (flying_stays s.moments (Told (entry.Packet e)) (removing s.links number) (λ p. refl) (removing_posted s.moments s.links number h.flying)) h
happening_carries S c s (Loses number x) reads fits may before b seated few h =
    let e : PacketEntry = packet.Lost number in
    moment_carries S c s.nodes (Told (entry.Packet e)) s.moments s.links (removing s.links number) (knows c s before) (λ j. quiet_packet S j e s.moments) tt
    (flying_stays s.moments (Told (entry.Packet e)) (removing s.links number) (λ p. refl) (removing_posted s.moments s.links number h.flying)) h
happening_carries S c s (Repeats number x) reads fits may before b seated few h =
    let o : links.Outcome = sending s.links x.from x.to x.bytes in
    let e : PacketEntry = packet.Repeated number s.links.next in
    let k : Knows c s.nodes = knows c s before in
    dropped_carries S c o.sent.dropped (telling (entry.Packet e) (with_links s o.after)) k
    (moment_carries S c s.nodes (Told (entry.Packet e)) s.moments s.links o.after k (λ j. quiet_packet S j e s.moments) tt (repeated_posted s.moments s.links number x may.0 h.flying) h)
happening_carries S c s (Commands n d k now ends) reads fits may before b seated few h =
    let o : Option Device = slice_get s.devices (d - 1) in
    let t : Scene = (commanded s n d k).scene in
    let i : Input = input.Answered (commanded s n d k).answer in
    taking_carries S c t n now ends i reads may.0.1 fits (commanded_knows c s n d o k (knows c s before)) tt (commanded_collects s n d n o k may.4) (taking_good c t n now ends i b)
    (commanded_seats s n d n o k (seated n)) tt tt (subst FewLines (sym (commanded_moments s n d o k)) few) (commanded_carries S s n d o k h)
happening_carries S c s (Writes n d value now ends) reads fits may before b seated few h =
    let o : Option Device = slice_get s.devices (d - 1) in
    let k : PrCommand = command.Write value in
    let t : Scene = (commanded s n d k).scene in
    let i : Input = input.Wrote d value (commanded s n d k).answer in
    taking_carries S c t n now ends i reads may.0.1 fits (commanded_knows c s n d o k (knows c s before)) tt (commanded_collects s n d n o k may.3) (taking_good c t n now ends i b)
    (commanded_seats s n d n o k (seated n)) tt tt (subst FewLines (sym (commanded_moments s n d o k)) few) (commanded_carries S s n d o k h)
happening_carries S c s (Refuses n d value cause) reads fits may before b seated few h =
    let e : DeviceEntry = device.Refused n d value cause in
    moment_carries S c s.nodes (Told (entry.Device e)) s.moments s.links s.links (knows c s before) (λ j. quiet_device S j e s.moments) tt (flying_stays s.moments (Told (entry.Device e)) s.links (λ p. refl) h.flying) h

-- ---- a run

abbrev pub Keeps : Setting → Scene → Type 0
Keeps S s = FewLines s.moments → CarriesIn S s

pub first_carries : (S : Setting) (h : Header) (cells : ℕ) → CarriesIn S (first_scene h cells)
unfolding first_scene
first_carries S h cells = record { nodes = λ k. tt; carried = tt; flying = tt }

pub seats_of : (h : Header) (cells : ℕ) (s : Scene) → IsSmall h → IsReached h cells s → AreSeated s
seats_of h cells s size r = subst AreSeated r.is (memberships_of_each_run h cells r.happenings size.few size.small r.may)

pub carries_kept : (S : Setting) (h : Header) (cells : ℕ) → Reads (first_cluster h) S → IsSmall h → (s : Scene) (x : Happening) → MayHappen (first_cluster h) s x → IsReached h cells s
    → IsReached h cells (happened (first_cluster h) s x) → Keeps S s → Keeps S (happened (first_cluster h) s x)
carries_kept S h cells reads size s x may at more keeps few =
    let before : FewLines s.moments = few_before (first_cluster h) s x few in
    happening_carries S (first_cluster h) s x reads (first_fit h size.few) may (stage_of h cells s size at) (stage_of h cells (happened (first_cluster h) s x) size more) (seats_of h cells s size at) before (keeps before)

-- .. and so it is in each scene that a run comes to
pub carries_of : (S : Setting) (h : Header) (cells : ℕ) (s : Scene) → Reads (first_cluster h) S → IsSmall h → IsReached h cells s → Keeps S s
carries_of S h cells s reads size r = subst (Keeps S) r.is (holds_of_each h cells (Keeps S) (carries_kept S h cells reads size) (λ first. first_carries S h cells) r.happenings r.may)

carried_so : (S : Setting) (h : Header) (cells : ℕ) (hs : List Happening) → Reads (first_cluster h) S → IsSmall h → MayAllHappen (first_cluster h) (first_scene h cells) hs
    → FewLines (all_happened (first_cluster h) (first_scene h cells) hs).moments → CarriedSo S (all_happened (first_cluster h) (first_scene h cells) hs).moments
carried_so S h cells hs reads size may few =
    (holds_of_each h cells (Keeps S) (carries_kept S h cells reads size) (λ first. first_carries S h cells) hs may few).carried

pub carried_in_each : (S : Setting) (h : Header) (cells : ℕ) (hs : List Happening) → Reads (first_cluster h) S → IsSmall h → MayAllHappen (first_cluster h) (first_scene h cells) hs
    → FewLines (all_happened (first_cluster h) (first_scene h cells) hs).moments → CarriedUpdates S (all_happened (first_cluster h) (first_scene h cells) hs).moments
carried_in_each S h cells hs reads size may few = updates_in S (all_happened (first_cluster h) (first_scene h cells) hs).moments (carried_so S h cells hs reads size may few)

pub replies_in_each : (S : Setting) (h : Header) (cells : ℕ) (hs : List Happening) → Reads (first_cluster h) S → IsSmall h → MayAllHappen (first_cluster h) (first_scene h cells) hs
    → FewLines (all_happened (first_cluster h) (first_scene h cells) hs).moments → AnswersAreMembers (all_happened (first_cluster h) (first_scene h cells) hs).moments
replies_in_each S h cells hs reads size may few = replies_in S (all_happened (first_cluster h) (first_scene h cells) hs).moments (carried_so S h cells hs reads size may few)
