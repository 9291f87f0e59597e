-- Each thing that happens keeps what is known of requests; so does each run.
use Rattle.std.specs.Prelude.{ℕ, ◌-◌, ◌≡◌, ◌≢◌, ◌≤◌, ◌⊎◌, ◌==◌, All, List, [], ◌∷◌, Option, None, Some, slice_get}
use Rattle.std.specs.List.{AllByRecursion}
use Rattle.std.proofs.Common.{refl, sym, ap, subst, ◌∙◌, inl, inr}
use Rattle.cl_base.specs.declared.header.Header.{Header}
use Rattle.cl_base.specs.declared.packet.DropCause.{DropCause}
use Rattle.cl_base.specs.declared.packet.DropCause.TheVariants as drop
use Rattle.cmm_attempt.specs.Calls.{IsDevice}
use Rattle.cmm_attempt.proofs.Basics.{same_some}
use Rattle.interconnect.specs.Links as links
use Rattle.interconnect.specs.Links.{Packet, packet_of, sending}
use Rattle.machine_base.specs.Put.{put}
use Rattle.machine_base.proofs.Puts.{put_here, put_there, same_or_not}
use Rattle.pgr_device.specs.Device.{Device}
use Rattle.pgr_device.specs.declared.command.PrCommand.{PrCommand}
use Rattle.pgr_device.specs.declared.command.PrCommand.TheVariants as command
use Rattle.record_disk.specs.Disks.{DiskState, armed}
use Rattle.schedule_text.specs.declared.event.Event.{Event}
use Rattle.schedule_text.specs.declared.event.Event.TheVariants as event
use Rattle.schedule_text.specs.declared.line.Line.TheVariants as line
use Rattle.status_report.specs.declared.device_entry.DeviceEntry.{DeviceEntry}
use Rattle.status_report.specs.declared.device_entry.DeviceEntry.TheVariants as device
use Rattle.status_report.specs.declared.entry.Entry.TheVariants as entry
use Rattle.status_report.specs.declared.packet_entry.PacketEntry.{PacketEntry}
use Rattle.status_report.specs.declared.packet_entry.PacketEntry.TheVariants as packet
use Rattle.update_words.specs.Words.{words_of}
use Rattle.wire.specs.Reads.{whole_of}
use Rattle.wire.specs.declared.message.Body.{Body}
use Rattle.wire.specs.declared.message.Body.TheVariants as body
use Rattle.wire.specs.declared.message.Message.{Message}
use Rattle.history.specs.Letters.{Letter, letter_of, says}
use Rattle.history.specs.Member.{member_of}
use Rattle.history.specs.Moment.{Moment, Part, Said, Told}
use Rattle.history.specs.Names.{named}
use Rattle.history.specs.Requests.{Asked, requests_of}
use Rattle.history.specs.Setting.{Setting, coordinator}
use Rattle.history.specs.Trace.{delivered}
use Rattle.node_model.specs.declared.cluster.Cluster.{Cluster}
use Rattle.node_model.specs.declared.input.Input.{Input}
use Rattle.node_model.specs.declared.input.Input.TheVariants as input
use Rattle.node_model.specs.declared.node.Node.{Node}
use Rattle.node_model.specs.declared.node.Node.TheVariants.{Down, Up}
use Rattle.refinement.proofs.Worlds.{all_found}
use Rattle.refinement.specs.Runs.{IsAmong, Letter as Sent}
use Rattle.refinement.specs.Widths.{LetterFits}
use Rattle.wire.specs.Spelling.{IsNode as IsSender}
use Rattle.world_model.specs.First.{first_cluster}
use Rattle.world_model.specs.Lines.{left_by}
use Rattle.world_model.specs.Sends.{name_of}
use Rattle.run_history.specs.Causes.{Posted}
use Rattle.run_history.specs.Happenings.{Arrives, Begins, Commands, Happening, IsPlain, Loses, MayAllHappen, MayHappen, Misses, Notes, Refuses, Repeats, Speaks, Strays, Takes, Writes, all_happened, armed_by, commanded, commanded_at, happened, removed}
use Rattle.run_history.specs.Scenes.{Scene, adding, dropped_so, first_scene, telling, with_links}
use Rattle.run_history.specs.Stages.{Stage}
use Rattle.run_history.proofs.ContactFlying.{number_found}
use Rattle.run_history.proofs.MemberRuns.{first_fit}
use Rattle.run_messages.proofs.Collecting.{arrival_collects}
use Rattle.run_messages.proofs.Reaching.{IsReached, IsSmall, holds_of_each, stage_of, taking_good}
use Rattle.run_messages.proofs.Runs.{Knows}
use Rattle.run_messages.specs.Laws.{AreSeated, membership_at}
use Rattle.run_commands.proofs.carried.Causes.{ArrivedSo}
use Rattle.run_commands.proofs.carried.Flying.{arrived_so, flying_stays, removing_posted}
use Rattle.run_commands.proofs.carried.Kept.{CarriesIn, moment_carries}
use Rattle.run_commands.proofs.carried.Runs.{FewLines, carries_of, commanded_collects, commanded_knows, commanded_seats, few_before, knows, plain_came, plain_collects, plain_known, quiet_packet, seats_of, told_among}
use Rattle.run_commands.specs.acknowledged.Askings.{held, is_it}
use Rattle.run_commands.specs.acknowledged.Steps.{Backed, LetterSo, NodeSo, ToldSo}
use Rattle.run_commands.proofs.acknowledged.Askings.{letter_is}
use Rattle.run_commands.proofs.acknowledged.Frames.{dropped_frame, packet_frame, part_frame, said_frame, told_frame}
use Rattle.run_commands.proofs.acknowledged.Kept.{CameAt, KeepsIn, moment_keeps, taking_keeps}
use Rattle.run_commands.proofs.acknowledged.Requests.{other_comes}
use Rattle.run_commands.proofs.acknowledged.Commands.{Reads}

-- ---- a packet comes to a node

pub sender_fits : (from : ℕ) (b : Body) (ls : List Sent) → IsAmong from b ls → AllByRecursion LetterFits ls → IsSender from
sender_fits from b [] h all = absurd h
sender_fits from b (l ∷ ls) (inl e) all = subst IsSender e.0 all.0.0
sender_fits from b (l ∷ ls) (inr h) all = sender_fits from b ls h all.1

-- the letter in which it came is of its sender
pub record Brought (ms : List Moment) (number : ℕ) (x : Packet) (m : Message) : Type 0 where
  pub letter : Letter
  pub at : letter_of number ms ≡ Some letter
  pub sender : letter.from ≡ x.from
  pub called : letter.name ≡ named (name_of m.body)
  pub says_so : says letter.bytes ≡ Some m.body

pub brought : (c : Cluster) (s : Scene) (number : ℕ) (x : Packet) (m : Message) → packet_of s.links.packets number ≡ Some x → whole_of x.bytes ≡ Some m → Stage c s → ArrivedSo (delivered number x.from x.to ∷ s.moments) x.to x.from m
    → Brought s.moments number x m
brought c s number x m is whole b came =
    let found : Posted s.moments s.links.next x = all_found (Posted s.moments s.links.next) (λ (p : Packet). p.number == number) s.links.packets x b.flying is in
    let same : came.letter ≡ found.letter = same_some came.letter found.letter (sym came.here ∙ (ap (λ k. letter_of k s.moments) (sym (number_found s.links number x is)) ∙ found.sent_so)) in
    record { letter = came.letter; at = came.here; sender = ap (λ (l : Letter). l.from) same ∙ found.sender; called = came.called; says_so = came.says_so }

request_backed : (S : Setting) (c : Cluster) (s : Scene) (number : ℕ) (x : Packet) (m : Message) (e q : ℕ) (text : List ℕ) → Brought s.moments number x m → ToldSo S c s.moments → m.body ≡ body.Request e q text
    → member_of x.to s.moments ≡ Some e → coordinator e ≡ x.to → Backed S c e (delivered number x.from x.to ∷ s.moments) x.from q text
request_backed S c s number x m e q text b told says_it member own u read =
    subst (λ n. 1 ≤ held (is_it n q (words_of u)) (requests_of S e (delivered number x.from x.to ∷ s.moments))) b.sender
    (other_comes S e number x.from x.to q (words_of u) b.letter s.moments told.once (sym own) member b.at (b.called ∙ ap (λ z. named (name_of z)) says_it)
    ((letter_is (LetterSo S c) number b.letter s.moments told.letters b.at) e q text u (b.says_so ∙ ap (λ z. Some z) says_it) read))

pub came_hand : (S : Setting) (c : Cluster) (s : Scene) (number : ℕ) (x : Packet) (m : Message) (node : Node) → Brought s.moments number x m → IsSender x.from → ToldSo S c s.moments → member_of x.to s.moments ≡ membership_at node
    → CameAt S c x.to (input.Packet x.from m) (delivered number x.from x.to ∷ s.moments) node
came_hand S c s number x m Down b fits told seated = tt
came_hand S c s number x m (Up y) b fits told seated = (fits, λ e q text says_it at own. request_backed S c s number x m e q text b told says_it (seated ∙ at) own)

pub plain_hand : (S : Setting) (c : Cluster) (n : ℕ) (i : Input) (ms : List Moment) (node : Node) → IsPlain i → CameAt S c n i ms node
plain_hand S c n i ms Down plain = tt
plain_hand S c n (input.Packet from m) ms (Up x) plain = absurd plain
plain_hand S c n _ ms (Up x) plain = tt

-- no packet
abbrev pub IsNoPacket : Input → Type 0
IsNoPacket (input.Packet from m) = ⊥
IsNoPacket _ = Unit {0}

pub answer_hand : (S : Setting) (c : Cluster) (n : ℕ) (i : Input) (ms : List Moment) (node : Node) → IsNoPacket i → CameAt S c n i ms node
answer_hand S c n i ms Down plain = tt
answer_hand S c n (input.Packet from m) ms (Up x) plain = absurd plain
answer_hand S c n _ ms (Up x) plain = tt

-- ---- lines of the world

dropped_keeps : (S : Setting) (c : Cluster) (o : Option (ℕ × DropCause)) (s : Scene) → Knows c s.nodes → KeepsIn S c s → KeepsIn S c (dropped_so o s)
dropped_keeps S c None s k h = h
dropped_keeps S c (Some dropped) s k h =
    moment_keeps S c s.nodes s.moments (dropped_so (Some dropped) s).moments k (λ j. dropped_frame S j (Some dropped) s)
    (record { once = (tt, h.told.once); letters = (tt, h.told.letters); asked = (tt, h.told.asked) }) h

armed_kept : (g : ℕ → DiskState) (n k : ℕ) (d : DiskState) → d.kept ≡ (g n).kept → (put g n d k).kept ≡ (g k).kept
armed_kept g n k d same = go (same_or_not k n)
  where
    go : (k ≡ n) ⊎ (k ≢ n) → (put g n d k).kept ≡ (g k).kept
    go (inl e) = ap (λ j. (put g n d j).kept) e ∙ (ap (λ (z : DiskState). z.kept) (put_here g n d) ∙ (same ∙ ap (λ j. (g j).kept) (sym e)))
    go (inr ne) = ap (λ (z : DiskState). z.kept) (put_there g n d k ne)

armed_keeps : (S : Setting) (c : Cluster) (e : Event) (s : Scene) → KeepsIn S c s → KeepsIn S c (armed_by c e s)
armed_keeps S c (event.Fault n d done) s h = record { nodes = h.nodes; told = h.told }
armed_keeps S c (event.CrashAt n calls choice) s h = record {
  nodes = λ k. subst (λ r. NodeSo S c k s.moments r.promised (s.nodes.node k)) (sym (armed_kept s.nodes.disk n k (armed (s.nodes.disk n) calls (left_by choice)) refl)) (h.nodes k);
  told = h.told;
}
armed_keeps S c _ s h = h

pub commanded_keeps : (S : Setting) (c : Cluster) (s : Scene) (n d : ℕ) (o : Option Device) (k : PrCommand) → KeepsIn S c s → KeepsIn S c (commanded_at s n d o k).scene
commanded_keeps S c s n d None k h = h
commanded_keeps S c s n d (Some x) k h = record { nodes = h.nodes; told = h.told }

pub commanded_carries : (S : Setting) (s : Scene) (n d : ℕ) (o : Option Device) (k : PrCommand) → CarriesIn S s → CarriesIn S (commanded_at s n d o k).scene
commanded_carries S s n d None k h = h
commanded_carries S s n d (Some x) k h = record { nodes = h.nodes; carried = h.carried; flying = h.flying }

pub commanded_few : (s : Scene) (n d : ℕ) (o : Option Device) (k : PrCommand) → FewLines s.moments → FewLines (commanded_at s n d o k).scene.moments
commanded_few s n d None k h = h
commanded_few s n d (Some x) k h = h

-- ---- each thing that happens

happening_keeps : (S : Setting) (c : Cluster) (s : Scene) (x : Happening) → Reads c S → All IsDevice c.attached → MayHappen c s x → Stage c s → Stage c (happened c s x) → AreSeated s → FewLines s.moments → CarriesIn S s
    → KeepsIn S c s → KeepsIn S c (happened c s x)
happening_keeps S c s (Speaks e) reads fits may before b seated few carries h =
    armed_keeps S c e (adding (Said (line.Event e)) s)
    (moment_keeps S c s.nodes s.moments (Said (line.Event e) ∷ s.moments) (knows c s before) (λ j. said_frame S j (line.Event e) s.moments) (record { once = (tt, h.told.once); letters = (tt, h.told.letters); asked = (tt, h.told.asked) }) h)
happening_keeps S c s (Begins e) reads fits may before b seated few carries h =
    moment_keeps S c s.nodes s.moments (Part e ∷ s.moments) (knows c s before) (λ j. part_frame S j e s.moments) (record { once = (tt, h.told.once); letters = (tt, h.told.letters); asked = (tt, h.told.asked) }) h
happening_keeps S c s (Notes e) reads fits may before b seated few carries h =
    moment_keeps S c s.nodes s.moments (Told (entry.Schedule e) ∷ s.moments) (knows c s before) (λ j. told_frame S j (entry.Schedule e) s.moments tt)
    (record { once = (tt, h.told.once); letters = (tt, h.told.letters); asked = (tt, h.told.asked) }) h
happening_keeps S c s (Takes n now ends i) reads fits may before b seated few carries h =
    let k : Knows c s.nodes = knows c s before in
    taking_keeps S c s n now ends i reads may.0 fits k (plain_known k.machine i may.1) (plain_collects n s.moments i may.1 may.3) (taking_good c s n now ends i b) (seated n) may.4 (plain_came n s.moments i may.1) few
    (carries.nodes n) carries.carried (plain_hand S c n i s.moments (s.nodes.node n) may.1) h
happening_keeps S c s (Arrives number x m now ends) reads fits may before b seated few carries h =
    let e : PacketEntry = packet.Delivered number x.from x.to in
    let t : Scene = telling (entry.Packet e) (removed s number) in
    let k : Knows c s.nodes = knows c s before in
    let came : ArrivedSo (delivered number x.from x.to ∷ s.moments) x.to x.from m = arrived_so s.moments s.links number x m may.0 may.1 carries.flying in
    let after : CarriesIn S t =
    moment_carries S c s.nodes (Told (entry.Packet e)) s.moments s.links (links.removing s.links number) k (λ j. quiet_packet S j e s.moments) tt
    (flying_stays s.moments (Told (entry.Packet e)) (links.removing s.links number) (λ p. refl) (removing_posted s.moments s.links number carries.flying)) carries in
    taking_keeps S c t x.to now ends (input.Packet x.from m) reads may.3 fits k (told_among k.machine x.from m.body s.nodes.sent may.4 before.sent) (arrival_collects c s number x m may.0 may.1 before)
    (taking_good c t x.to now ends (input.Packet x.from m) b) (seated x.to) tt came few (after.nodes x.to) after.carried
    (came_hand S c s number x m (s.nodes.node x.to) (brought c s number x m may.0 may.1 before came) (sender_fits x.from m.body s.nodes.sent may.4 before.fits.sent) h.told (seated x.to))
    (moment_keeps S c s.nodes s.moments t.moments k (λ j. packet_frame S j e s.moments tt) (record { once = (tt, h.told.once); letters = (tt, h.told.letters); asked = (tt, h.told.asked) }) h)
happening_keeps S c s (Strays number x) reads fits may before b seated few carries h =
    let e : PacketEntry = packet.Delivered number x.from x.to in
    moment_keeps S c s.nodes s.moments (Told (entry.Packet e) ∷ s.moments) (knows c s before) (λ j. packet_frame S j e s.moments tt) (record { once = (tt, h.told.once); letters = (tt, h.told.letters); asked = (tt, h.told.asked) }) h
happening_keeps S c s (Misses number x) reads fits may before b seated few carries h =
    let e : PacketEntry = packet.Dropped number drop.Down in
    moment_keeps S c s.nodes s.moments (Told (entry.Packet e) ∷ s.moments) (knows c s before) (λ j. packet_frame S j e s.moments tt) (record { once = (tt, h.told.once); letters = (tt, h.told.letters); asked = (tt, h.told.asked) }) h
happening_keeps S c s (Loses number x) reads fits may before b seated few carries h =
    let e : PacketEntry = packet.Lost number in
    moment_keeps S c s.nodes s.moments (Told (entry.Packet e) ∷ s.moments) (knows c s before) (λ j. packet_frame S j e s.moments tt) (record { once = (tt, h.told.once); letters = (tt, h.told.letters); asked = (tt, h.told.asked) }) h
happening_keeps S c s (Repeats number x) reads fits may before b seated few carries h =
    let o : links.Outcome = sending s.links x.from x.to x.bytes in
    let e : PacketEntry = packet.Repeated number s.links.next in
    let t : Scene = telling (entry.Packet e) (with_links s o.after) in
    dropped_keeps S c o.sent.dropped t (knows c s before)
    (moment_keeps S c s.nodes s.moments t.moments (knows c s before) (λ j. packet_frame S j e s.moments tt) (record { once = (tt, h.told.once); letters = (tt, h.told.letters); asked = (tt, h.told.asked) }) h)
happening_keeps S c s (Commands n d k now ends) reads fits may before b seated few carries h =
    let o : Option Device = slice_get s.devices (d - 1) in
    let t : Scene = (commanded s n d k).scene in
    let y : CarriesIn S t = commanded_carries S s n d o k carries in
    taking_keeps S c t n now ends (input.Answered (commanded s n d k).answer) reads may.0 fits (commanded_knows c s n d o k (knows c s before)) tt (commanded_collects s n d n o k may.4)
    (taking_good c t n now ends (input.Answered (commanded s n d k).answer) b) (commanded_seats s n d n o k (seated n)) tt tt (commanded_few s n d o k few) (y.nodes n) y.carried
    (answer_hand S c n (input.Answered (commanded s n d k).answer) t.moments (t.nodes.node n) tt) (commanded_keeps S c s n d o k h)
happening_keeps S c s (Writes n d value now ends) reads fits may before b seated few carries h =
    let o : Option Device = slice_get s.devices (d - 1) in
    let t : Scene = (commanded s n d (command.Write value)).scene in
    let y : CarriesIn S t = commanded_carries S s n d o (command.Write value) carries in
    taking_keeps S c t n now ends (input.Wrote d value (commanded s n d (command.Write value)).answer) reads may.0 fits (commanded_knows c s n d o (command.Write value) (knows c s before)) tt
    (commanded_collects s n d n o (command.Write value) may.3) (taking_good c t n now ends (input.Wrote d value (commanded s n d (command.Write value)).answer) b) (commanded_seats s n d n o (command.Write value) (seated n)) tt tt
    (commanded_few s n d o (command.Write value) few) (y.nodes n) y.carried (answer_hand S c n (input.Wrote d value (commanded s n d (command.Write value)).answer) t.moments (t.nodes.node n) tt)
    (commanded_keeps S c s n d o (command.Write value) h)
happening_keeps S c s (Refuses n d value cause) reads fits may before b seated few carries h =
    let e : DeviceEntry = device.Refused n d value cause in
    moment_keeps S c s.nodes s.moments (Told (entry.Device e) ∷ s.moments) (knows c s before) (λ j. told_frame S j (entry.Device e) s.moments tt)
    (record { once = (tt, h.told.once); letters = (tt, h.told.letters); asked = (tt, h.told.asked) }) h

-- ---- a run

abbrev pub KeptSo : Setting → Cluster → Scene → Type 0
KeptSo S c s = FewLines s.moments → KeepsIn S c s

pub first_keeps : (S : Setting) (h : Header) (cells : ℕ) → KeepsIn S (first_cluster h) (first_scene h cells)
unfolding first_scene
first_keeps S h cells = record {
  nodes = λ k e above. record { asked = λ q. refl; requested = λ q. refl; proposed = λ own w. refl };
  told = record { once = tt; letters = tt; asked = tt };
}

pub keeps_kept : (S : Setting) (h : Header) (cells : ℕ) → Reads (first_cluster h) S → IsSmall h → (s : Scene) (x : Happening) → MayHappen (first_cluster h) s x → IsReached h cells s
    → IsReached h cells (happened (first_cluster h) s x) → KeptSo S (first_cluster h) s → KeptSo S (first_cluster h) (happened (first_cluster h) s x)
keeps_kept S h cells reads size s x may at more keeps few =
    let before : FewLines s.moments = few_before (first_cluster h) s x few in
    happening_keeps S (first_cluster h) s x reads (first_fit h size.few) may (stage_of h cells s size at) (stage_of h cells (happened (first_cluster h) s x) size more) (seats_of h cells s size at) before
    (carries_of S h cells s (record { answers = reads.answers; requests = reads.requests }) size at before) (keeps before)

pub told_in_each : (S : Setting) (h : Header) (cells : ℕ) (hs : List Happening) → Reads (first_cluster h) S → IsSmall h → MayAllHappen (first_cluster h) (first_scene h cells) hs
    → FewLines (all_happened (first_cluster h) (first_scene h cells) hs).moments → ToldSo S (first_cluster h) (all_happened (first_cluster h) (first_scene h cells) hs).moments
told_in_each S h cells hs reads size may few = (holds_of_each h cells (KeptSo S (first_cluster h)) (keeps_kept S h cells reads size) (λ first. first_keeps S h cells) hs may few).told

pub asked_in_each : (S : Setting) (h : Header) (cells : ℕ) (hs : List Happening) → Reads (first_cluster h) S → IsSmall h → MayAllHappen (first_cluster h) (first_scene h cells) hs
    → FewLines (all_happened (first_cluster h) (first_scene h cells) hs).moments → Asked S (all_happened (first_cluster h) (first_scene h cells) hs).moments
asked_in_each S h cells hs reads size may few = (told_in_each S h cells hs reads size may few).asked
