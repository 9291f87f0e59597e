-- In each run what a node has heard is what the lines tell, and each line and message is judged.
use Rattle.std.specs.Prelude.{ℕ, ◌-◌, ◌≡◌, ◌≢◌, ◌≤◌, ◌<◌, ◌^◌, ◌⊎◌, ◌==◌, All, Bool, true, false, if◌then◌else◌, List, [], ◌∷◌, length, Option, None, Some, option_map, slice_get}
use Rattle.std.specs.List.{AllByRecursion}
use Rattle.std.proofs.Common.{refl, sym, ap, subst, ◌∙◌, inl, inr}
use Rattle.cl_base.specs.Limits.{most_devices}
use Rattle.cl_base.specs.declared.header.Header.{Header}
use Rattle.cl_base.specs.declared.method.Outcome as method
use Rattle.cl_base.specs.declared.packet.DropCause.{DropCause}
use Rattle.cl_base.specs.declared.packet.DropCause.TheVariants as drop
use Rattle.cmm_attempt.proofs.Basics.{none_some, same_some}
use Rattle.cmm_attempt.specs.Calls.{IsDevice}
use Rattle.cmm_member.specs.Records.{NodeRecord}
use Rattle.history.specs.Attempts.{age_of, last_heartbeat}
use Rattle.history.specs.Contents.{Spelled}
use Rattle.history.specs.Letters.{Letter, arrived, letter_of}
use Rattle.history.specs.Moment.{Moment, Part, Said, Told}
use Rattle.history.specs.Names as name
use Rattle.history.specs.Names.{named, same_name}
use Rattle.history.specs.Order.{Always, under_way}
use Rattle.history.specs.Setting.{Setting}
use Rattle.history.specs.Trace.{delivered}
use Rattle.history_setting.specs.Settings.{setting_of}
use Rattle.interconnect.specs.Links as links
use Rattle.interconnect.specs.Links.{Packet, packet_of, sending}
use Rattle.machine_base.specs.Put.{put}
use Rattle.machine_base.proofs.Puts.{put_here, put_there, same_or_not}
use Rattle.membership_machine.specs.Invariant.{Holds}
use Rattle.membership_machine.specs.State.{Memberships}
use Rattle.node_model.specs.Seats.{record_of, state_of}
use Rattle.node_model.specs.declared.cluster.Cluster.{Cluster}
use Rattle.node_model.specs.declared.input.Input.{Input}
use Rattle.node_model.specs.declared.input.Input.TheVariants as input
use Rattle.node_model.specs.declared.node.Node.{Node}
use Rattle.node_model.specs.declared.node.Node.TheVariants.{Down, Up}
use Rattle.node_model.specs.declared.node.UpNode.{UpNode}
use Rattle.node_model.specs.declared.output.Output.{Output}
use Rattle.node_model.specs.Steps.{Outcome, stepped}
use Rattle.pgr_device.specs.Device.{Device}
use Rattle.pgr_device.specs.declared.command.PrCommand.{PrCommand}
use Rattle.pgr_device.specs.declared.command.PrCommand.TheVariants as command
use Rattle.record_disk.specs.Disks.{DiskState}
use Rattle.refinement.specs.Cuts.{doings}
use Rattle.refinement.specs.Doings.{Doing, Site, after_all, given_all, site}
use Rattle.refinement.specs.Guards.{MayAll}
use Rattle.refinement.specs.Runs.{IsAmong, Letter as Sent, Nodes, moved}
use Rattle.refinement.specs.Runs.Move.{Takes as Takes_in}
use Rattle.refinement.specs.Steps.{IsCut, disk_rules}
use Rattle.refinement.specs.Ties as ties
use Rattle.refinement.specs.Ties.{NodeTied}
use Rattle.refinement.specs.Whole.{Stands}
use Rattle.refinement.specs.Widths.{LetterFits}
use Rattle.refinement.proofs.Disks.{disks_keep_rules}
use Rattle.refinement.proofs.Facts.{facts_of, step_may}
use Rattle.refinement.proofs.Handlers.{delivered_by}
use Rattle.refinement.proofs.Replies.{steps_are_cut}
use Rattle.seize.specs.Answers.{Answer}
use Rattle.schedule_text.specs.declared.event.Event.{Event}
use Rattle.schedule_text.specs.declared.event.Event.TheVariants as event
use Rattle.schedule_text.specs.declared.line.Line.TheVariants as line
use Rattle.status_report.specs.declared.device_entry.DeviceEntry.TheVariants as device
use Rattle.status_report.specs.declared.entry.Entry.TheVariants as entry
use Rattle.status_report.specs.declared.packet_entry.PacketEntry.{PacketEntry}
use Rattle.status_report.specs.declared.packet_entry.PacketEntry.TheVariants as packet
use Rattle.wire.proofs.Messages.{whole_again}
use Rattle.wire.specs.Reads.{whole_of}
use Rattle.wire.specs.Spelling.{IsNode}
use Rattle.wire.specs.declared.message.Body.{Body}
use Rattle.wire.specs.declared.message.Body.TheVariants as body
use Rattle.wire.specs.declared.message.Message.{Message}
use Rattle.world_model.specs.First.{first_cluster}
use Rattle.world_model.specs.Sends.{name_of}
use Rattle.run_history.specs.Bringing.{IsBrought}
use Rattle.run_history.specs.Happenings.{Arrives, Begins as Begins_part, Commanded, Commands, Happening, IsPlain, Loses, MayAllHappen, MayHappen, Misses, Notes, Refuses, Repeats, Speaks, Strays, Takes, Writes, all_happened, armed_by, commanded, commanded_at, given_by, happened, removed, taking}
use Rattle.run_history.specs.Scenes.{Scene, adding, dropped_so, first_scene, passing, telling, with_links}
use Rattle.run_history.proofs.Idle.{passing_nodes}
use Rattle.run_history.proofs.LineSteps.{doings_small}
use Rattle.run_history.proofs.MemberRuns.{first_fit}
use Rattle.run_messages.proofs.Reaching.{IsReached, IsSmall, holds_of_each}
use Rattle.run_messages.proofs.Spelling.{spelled_of_each_run}
use Rattle.run_messages.specs.records.Kept.{Came, KnownScene}
use Rattle.run_messages.proofs.records.Arrivals.{arrived_kept}
use Rattle.run_messages.proofs.records.Bytes.{found_bytes}
use Rattle.run_attempts.specs.Heard.{NodeSo, is_beat}
use Rattle.run_attempts.specs.Judged.{AllJudged, Judged, SeatTold}
use Rattle.run_attempts.specs.Laws.{AttemptsBeginInEachRun, BeatIsDue, BeatsAreDueInEachRun, BeatsInTick, BeatsInTicksOfEachRun, Begins, beat_age_of, InstallsBringMembersInEachRun}
use Rattle.run_attempts.specs.Members.{MemberSo, RecordSo}
use Rattle.run_attempts.proofs.Ages.{Comes, beats_hear, beats_miss, none_elsewhere, none_here}
use Rattle.run_attempts.proofs.Alike.{SameHeard, node_stays}
use Rattle.run_attempts.proofs.Configured.{configured_known, disk_own}
use Rattle.run_attempts.proofs.Known.{known_scene}
use Rattle.run_attempts.proofs.Members.{AllMembers, run_gone}
use Rattle.run_messages.specs.Laws.{AreSeated, IsSeated, membership_in}
use Rattle.run_messages.proofs.Runs.{memberships_of_each_run}
use Rattle.refinement.specs.Facts.{Facts, JoinsIn, OfMember}
use Rattle.node_model.specs.Ticks.{membership_of}
use Rattle.node_model.specs.declared.seat.Seat.{Seat}
use Rattle.node_model.specs.declared.seat.Seat.TheVariants.{Forming, Member}
use Rattle.history.specs.Member.{member_of, members_of}
use Rattle.run_attempts.proofs.Steps.{Ready, Stepped, TickReady, step_goes}

-- ---- what is known of each scene that a run comes to

pub record AllHeard (S : Setting) (v : Nodes) (ms : List Moment) : Type 0 where
  pub so : AllJudged S ms
  pub nodes : (k : ℕ) → NodeSo ms k (v.node k)

abbrev HeardIn : Setting → Scene → Type 0
HeardIn S s = AllHeard S s.nodes s.moments

spelled_scene : (h : Header) (cells : ℕ) (s : Scene) → IsSmall h → IsReached h cells s → Spelled s.moments
spelled_scene h cells s size r = subst (λ (z : Scene). Spelled z.moments) r.is (spelled_of_each_run h cells r.happenings size.few size.small r.may)

-- ---- a node takes something

-- what is known of all nodes, in the machine of memberships
record Knows (c : Cluster) (v : Nodes) : Type 0 where
  machine : Memberships
  holds : Holds (ties.setting_of c) machine
  stands : (n : ℕ) → Stands c machine n (v.node n) (v.disk n).kept

known : (c : Cluster) (s : Scene) → KnownScene c s → Knows c s.nodes
known c s a = record { machine = a.stage.machine; holds = a.stage.holds; stands = a.stage.stands }

step_heard : (S : Setting) (c : Cluster) (v : Nodes) (n now : ℕ) (ends : method.Outcome) (i : Input) (s : Scene) → 1 ≤ n → n ≤ 32 → All IsDevice c.attached → Knows c v → AllJudged S s.moments → Ready S c n (v.node n) i s.moments
    → (let o : Outcome DiskState = stepped disk_rules c n now ends (v.node n) (v.disk n) i in Stepped S n s.moments o.after (passing n o.given s).moments)
step_heard S c v n now ends i s low high fits k so ready =
    let o : Outcome DiskState = stepped disk_rules c n now ends (v.node n) (v.disk n) i in
    let cut : IsCut disk_rules c n now ends (v.node n) (v.disk n) i [] o = steps_are_cut disk_rules disks_keep_rules c n now ends (v.node n) (v.disk n) i in
    let x : Site = site (v.node n) (v.disk n).kept in
    let ds : List Doing = doings c n now ends cut.replies i (v.node n) in
    let may : MayAll c n (delivered_by i) x ds =
    step_may c k.machine n now ends (v.node n) (v.disk n).kept i cut.replies high fits k.holds (k.stands n).tied (k.stands n).joins in
    let g : Stepped S n s.moments (after_all c n x ds).node (passing n (given_all c n x ds) s).moments =
    step_goes S c n now ends cut.replies i (v.node n) (v.disk n).kept s low high may (doings_small c n now ends cut.replies i (v.node n) (v.disk n).kept) so ready in
    subst (λ (z : Site). Stepped S n s.moments z.node (passing n o.given s).moments) cut.comes.left
    (subst (λ os. Stepped S n s.moments (after_all c n x ds).node (passing n os s).moments) cut.comes.given g)

put_nodes : (f : ℕ → Node) (n : ℕ) (x : Node) (before after : List Moment) → NodeSo after n x → ((k : ℕ) → k ≢ n → SameHeard k before after) → ((k : ℕ) → k ≢ n → NodeSo before k (f k)) → (k : ℕ) → NodeSo after k (put f n x k)
put_nodes f n x before after here same all k = go (same_or_not k n)
  where
    go : (k ≡ n) ⊎ (k ≢ n) → NodeSo after k (put f n x k)
    go (inl e) = subst (λ j. NodeSo after j (put f n x j)) (sym e) (subst (NodeSo after n) (sym (put_here f n x)) here)
    go (inr ne) = subst (NodeSo after k) (sym (put_there f n x k ne)) (node_stays before after k (f k) (same k ne) (all k ne))

taking_heard : (S : Setting) (c : Cluster) (s : Scene) (n now : ℕ) (ends : method.Outcome) (i : Input) → 1 ≤ n → n ≤ 32 → All IsDevice c.attached → Knows c s.nodes → AllJudged S s.moments
    → Ready S c n (s.nodes.node n) i s.moments → ((k : ℕ) → k ≢ n → NodeSo s.moments k (s.nodes.node k)) → HeardIn S (taking c n now ends i s)
taking_heard S c s n now ends i low high fits k so ready others =
    let v : Nodes = moved c s.nodes (Takes_in n now ends i) in
    let t : Scene = record s { nodes = v } in
    let os : List Output = given_by c n now ends i s.nodes in
    let g : Stepped S n s.moments (stepped disk_rules c n now ends (s.nodes.node n) (s.nodes.disk n) i).after (passing n os t).moments =
    step_heard S c s.nodes n now ends i t low high fits k so ready in
    subst (λ w. AllHeard S w (passing n os t).moments) (sym (passing_nodes n os t)) (record {
      so = g.so;
      nodes = put_nodes s.nodes.node n (stepped disk_rules c n now ends (s.nodes.node n) (s.nodes.disk n) i).after s.moments (passing n os t).moments g.own g.others others;
    })

-- ---- lines of the world

still : (S : Setting) (v : Nodes) (before after : List Moment) → ((k : ℕ) → SameHeard k before after) → (AllJudged S before → AllJudged S after) → AllHeard S v before → AllHeard S v after
still S v before after same judged h = record { so = judged h.so; nodes = λ k. node_stays before after k (v.node k) (same k) (h.nodes k) }

no_law : (S : Setting) (ms : List Moment) (x : Moment) → BeatsInTick ms x → BeatIsDue S ms x → Begins S ms x → AllJudged S ms → AllJudged S (x ∷ ms)
no_law S ms x a b d h = (record { in_tick = a; due = b; begins_so = d }, h)

dropped_heard : (S : Setting) (o : Option (ℕ × DropCause)) (s : Scene) → HeardIn S s → HeardIn S (dropped_so o s)
dropped_heard S None s h = h
dropped_heard S (Some drop) s h =
    still S s.nodes s.moments (Told (entry.Packet (packet.Dropped drop.0 drop.1)) ∷ s.moments) (λ k. record { ages = λ m. refl; near = λ m. refl; beats = λ m. refl }) (no_law S s.moments _ tt tt tt) h

armed_heard : (S : Setting) (c : Cluster) (e : Event) (s : Scene) → HeardIn S s → HeardIn S (armed_by c e s)
armed_heard S c (event.Fault n d done) s h = record { so = h.so; nodes = h.nodes }
armed_heard S c (event.CrashAt n calls choice) s h = record { so = h.so; nodes = h.nodes }
armed_heard S c _ s h = h

commanded_heard : (S : Setting) (s : Scene) (n d : ℕ) (o : Option Device) (k : PrCommand) → HeardIn S s → HeardIn S (commanded_at s n d o k).scene
commanded_heard S s n d None k h = h
commanded_heard S s n d (Some x) k h = record { so = h.so; nodes = h.nodes }

commanded_knows : (c : Cluster) (s : Scene) (n d : ℕ) (o : Option Device) (k : PrCommand) → Knows c s.nodes → Knows c (commanded_at s n d o k).scene.nodes
commanded_knows c s n d None k h = h
commanded_knows c s n d (Some x) k h = h

-- ---- what comes

answer_ready : (S : Setting) (c : Cluster) (n : ℕ) (node : Node) (a : Answer) (ms : List Moment) → NodeSo ms n node → Ready S c n node (input.Answered a) ms
answer_ready S c n Down a ms h = tt
answer_ready S c n (Up x) a ms h = h

wrote_ready : (S : Setting) (c : Cluster) (n : ℕ) (node : Node) (d value : ℕ) (a : Answer) (ms : List Moment) → NodeSo ms n node → Ready S c n node (input.Wrote d value a) ms
wrote_ready S c n Down d value a ms h = tt
wrote_ready S c n (Up x) d value a ms h = h

plain_ready : (S : Setting) (c : Cluster) (n : ℕ) (node : Node) (i : Input) (ms : List Moment) → IsPlain i → NodeSo ms n node → ((x : UpNode) → node ≡ Up x → i ≡ input.Tick → TickReady S c n x ms) → Ready S c n node i ms
plain_ready S c n Down i ms plain h tick = tt
plain_ready S c n (Up x) input.Tick ms plain h tick = (h, tick x refl refl)
plain_ready S c n (Up x) (input.Packet from m) ms plain h tick = absurd plain
plain_ready S c n (Up x) input.Boot ms plain h tick = h
plain_ready S c n (Up x) input.Crash ms plain h tick = h
plain_ready S c n (Up x) input.CommandDue ms plain h tick = h
plain_ready S c n (Up x) (input.Answered a) ms plain h tick = h
plain_ready S c n (Up x) (input.Wrote d value a) ms plain h tick = h
plain_ready S c n (Up x) (input.Commanded words) ms plain h tick = h
plain_ready S c n (Up x) (input.Reported r good) ms plain h tick = h
plain_ready S c n (Up x) (input.Client name client port) ms plain h tick = h

-- the membership of a node in this seat, with the members of what it has installed
seat_told : (ms : List Moment) (n : ℕ) (seat : Seat) → OfMember seat → RecordSo ms (state_of seat).saved → member_of n ms ≡ membership_in seat → SeatTold ms n (membership_of seat)
seat_told ms n (Forming s) fact r is = is
seat_told ms n (Member s) fact r is = (is, subst (λ e. members_of e ms ≡ s.saved.members) (sym fact.1) (r (subst (λ e. 0 < e) fact.1 fact.0)).1)

-- what is known of members
pub record Seats (s : Scene) : Type 0 where
  pub seated : AreSeated s
  pub members : AllMembers s.nodes s.moments

tick_ready : (h : Header) (s : Scene) (n : ℕ) (i : Input) (x : UpNode) → KnownScene (first_cluster h) s → Seats s → arrived s.moments ≡ None → IsBrought (under_way s.moments) n i → s.nodes.node n ≡ Up x → i ≡ input.Tick
    → TickReady (setting_of h) (first_cluster h) n x s.moments
tick_ready h s n i x a seats none brought up is =
    let c : Cluster = first_cluster h in
    let disk : NodeRecord = (s.nodes.disk n).kept in
    let tied : NodeTied c a.stage.machine n disk (Up x) = subst (NodeTied c a.stage.machine n disk) up (a.stage.stands n).tied in
    let own : disk ≡ record_of x = disk_own c a.stage.machine n disk x tied in
    let facts : Facts x = facts_of c a.stage.machine n disk x a.stage.holds tied (subst JoinsIn up (a.stage.stands n).joins) in
    let member : MemberSo s.moments (Up x) = subst (MemberSo s.moments) up (seats.members.sites n).node in
    record {
      way = subst (IsBrought (under_way s.moments) n) is brought;
      none = none;
      known = λ y same. configured_known h n s.moments disk y (a.at n).record_so (same ∙ sym own);
      seat = seat_told s.moments n x.seat facts.member member.0 (subst (IsSeated s.moments n) up (seats.seated n));
    }

-- ---- a packet

beat_named : (b : Body) → same_name (named (name_of b)) name.Heartbeat ≡ is_beat b
beat_named (body.Heartbeat promised session one) = refl
beat_named (body.Collect epoch members) = refl
beat_named (body.Promise epoch newest members valid flagged committed pending) = refl
beat_named (body.Nack epoch promised) = refl
beat_named (body.SeizeQuorum epoch members d) = refl
beat_named (body.SeizeData epoch members d) = refl
beat_named (body.Seized epoch d outcome) = refl
beat_named (body.Install install) = refl
beat_named (body.Ready epoch joined report) = refl
beat_named (body.Start epoch) = refl
beat_named (body.Prepare epoch place text) = refl
beat_named (body.Prepared epoch place) = refl
beat_named (body.Commit epoch place) = refl
beat_named (body.Order order) = refl
beat_named (body.Done epoch number outcome) = refl
beat_named (body.Request epoch number text) = refl
beat_named (body.Answer epoch number text) = refl
beat_named (body.Excluded epoch newest) = refl

arrival : (c : Cluster) (s : Scene) (number : ℕ) (x : Packet) (m : Message) → packet_of s.links.packets number ≡ Some x → whole_of x.bytes ≡ Some m → KnownScene c s → Comes s.moments number x.from x.to m.body
arrival c s number x m is whole a =
    let came : Came (delivered number x.from x.to ∷ s.moments) x.to x.from m.body = arrived_kept c s number x m is whole a in
    record {
      letter = came.letter;
      here = came.here;
      sender = came.sender;
      receiver = came.receiver;
      read = came.read;
      called = ap (λ z. same_name z name.Heartbeat) came.called ∙ beat_named m.body;
    }

sender_is : (from : ℕ) (b : Body) (letters : List Sent) → IsAmong from b letters → AllByRecursion LetterFits letters → IsNode from
sender_is from b [] among fits = absurd among
sender_is from b (l ∷ letters) (inl here) fits = subst IsNode here.0 fits.0.0
sender_is from b (l ∷ letters) (inr there) fits = sender_is from b letters there fits.1

others_miss : (c : Cluster) (s : Scene) (number : ℕ) (x : Packet) (b : Body) (k : ℕ) (node : Node) → k ≢ x.to → Comes s.moments number x.from x.to b → NodeSo s.moments k node
    → NodeSo (delivered number x.from x.to ∷ s.moments) k node
others_miss c s number x b k Down ne came h = tt
others_miss c s number x b k (Up y) ne came h =
    beats_miss s.moments number x.from x.to k y.beats (λ m. none_elsewhere s.moments number x.from x.to b k m ne came) h

packet_ready : (S : Setting) (c : Cluster) (s : Scene) (number : ℕ) (x : Packet) (m : Message) (node : Node) → IsNode x.from → Comes s.moments number x.from x.to m.body → NodeSo s.moments x.to node
    → Ready S c x.to node (input.Packet x.from m) (delivered number x.from x.to ∷ s.moments)
packet_ready S c s number x m Down from came h = tt
packet_ready S c s number x m (Up y) from came h = (
  beats_hear s.moments number x.from x.to m.body y.beats from.0 from.1 came h,
  λ other. beats_miss s.moments number x.from x.to x.to y.beats (λ k. none_here s.moments number x.from x.to m.body k x.to other came) h,
)

-- what can not be read is not sent
readable_packet : (p : ℕ) (before : List Moment) (e : PacketEntry) (l : Letter) → Spelled (Told (entry.Packet e) ∷ before) → letter_of p (Told (entry.Packet e) ∷ before) ≡ Some l
    → ((q : ℕ) → letter_of q before ≡ Some l → whole_of l.bytes ≡ None → ⊥) → whole_of l.bytes ≡ None → ⊥
readable_packet p before (packet.Sent q a b called bytes) l h is next none = by_number (q == p) is
  where
    by_number : (t : Bool) → (if t then Some (record { from = a; to = b; name = named called; bytes = bytes; before = before }) else letter_of p before) ≡ Some l → ⊥
    by_number true e =
        let same : bytes ≡ l.bytes = ap (λ (z : Letter). z.bytes) (same_some _ l e) in
        none_some h.0.message (sym none ∙ (ap whole_of (sym same) ∙ (ap whole_of (sym h.0.spelled) ∙ whole_again h.0.message h.0.fits)))
    by_number false e = next p e none
readable_packet p before (packet.Repeated q copy) l h is next none = next (if copy == p then q else p) is none
readable_packet p before (packet.Delivered q a b) l h is next none = next p is none
readable_packet p before (packet.Lost q) l h is next none = next p is none
readable_packet p before (packet.Dropped q why) l h is next none = next p is none

readable : (p : ℕ) (ms : List Moment) (l : Letter) → Spelled ms → letter_of p ms ≡ Some l → whole_of l.bytes ≡ None → ⊥
readable p [] l h is none = none_some l is
readable p (Told (entry.Packet e) ∷ before) l h is none = readable_packet p before e l h is (λ q at. readable q before l h.1 at) none
readable p (Said line ∷ before) l h is none = readable p before l h.1 is none
readable p (Part event ∷ before) l h is none = readable p before l h.1 is none
readable p (Told (entry.Node n e) ∷ before) l h is none = readable p before l h.1 is none
readable p (Told (entry.Attempt e) ∷ before) l h is none = readable p before l h.1 is none
readable p (Told (entry.Start e) ∷ before) l h is none = readable p before l h.1 is none
readable p (Told (entry.Update e) ∷ before) l h is none = readable p before l h.1 is none
readable p (Told entry.Powered ∷ before) l h is none = readable p before l h.1 is none
readable p (Told (entry.Answered e) ∷ before) l h is none = readable p before l h.1 is none
readable p (Told (entry.Device e) ∷ before) l h is none = readable p before l h.1 is none
readable p (Told (entry.Call e) ∷ before) l h is none = readable p before l h.1 is none
readable p (Told (entry.Command e) ∷ before) l h is none = readable p before l h.1 is none
readable p (Told (entry.Status e) ∷ before) l h is none = readable p before l h.1 is none
readable p (Told (entry.Address e) ∷ before) l h is none = readable p before l h.1 is none
readable p (Told (entry.Schedule e) ∷ before) l h is none = readable p before l h.1 is none

no_stray : (c : Cluster) (s : Scene) (number : ℕ) (x : Packet) → packet_of s.links.packets number ≡ Some x → whole_of x.bytes ≡ None → KnownScene c s → Spelled s.moments → ⊥
no_stray c s number x is none a spelled = by_letter (letter_of number s.moments) refl (found_bytes s.moments s.links number x a.bytes is)
  where
    by_letter : (o : Option Letter) → letter_of number s.moments ≡ o → option_map (λ (l : Letter). l.bytes) o ≡ Some x.bytes → ⊥
    by_letter None at e = none_some x.bytes e
    by_letter (Some l) at e = readable number s.moments l spelled at (ap whole_of (same_some l.bytes x.bytes e) ∙ none)

-- ---- each thing that happens

same_line : (k : ℕ) (ms : List Moment) (x : Moment) → ((m : ℕ) → age_of k m (x ∷ ms) ≡ age_of k m ms) → ((m : ℕ) → beat_age_of k m (x ∷ ms) ≡ beat_age_of k m ms) → ((m : ℕ) → last_heartbeat k m (x ∷ ms) ≡ last_heartbeat k m ms)
    → SameHeard k ms (x ∷ ms)
same_line k ms x ages near beats = record { ages = ages; near = near; beats = beats }

happening_heard : (h : Header) (s : Scene) (x : Happening) → (let c : Cluster = first_cluster h in All IsDevice c.attached → MayHappen c s x → KnownScene c s → Seats s → Spelled s.moments → HeardIn (setting_of h) s
    → HeardIn (setting_of h) (happened c s x))
happening_heard h s (Speaks e) fits may a seats spelled all =
    armed_heard (setting_of h) (first_cluster h) e (adding _ s)
    (still (setting_of h) s.nodes s.moments (Said (line.Event e) ∷ s.moments) (λ k. same_line k s.moments _ (λ m. refl) (λ m. refl) (λ m. refl)) (no_law (setting_of h) s.moments _ tt tt tt) all)
happening_heard h s (Begins_part e) fits may a seats spelled all =
    still (setting_of h) s.nodes s.moments (Part e ∷ s.moments) (λ k. same_line k s.moments _ (λ m. refl) (λ m. refl) (λ m. refl)) (no_law (setting_of h) s.moments _ tt tt tt) all
happening_heard h s (Notes e) fits may a seats spelled all =
    still (setting_of h) s.nodes s.moments (Told (entry.Schedule e) ∷ s.moments) (λ k. same_line k s.moments _ (λ m. refl) (λ m. refl) (λ m. refl)) (no_law (setting_of h) s.moments _ tt tt tt) all
happening_heard h s (Takes n now ends i) fits may a seats spelled all =
    let c : Cluster = first_cluster h in
    taking_heard (setting_of h) c s n now ends i may.0.0 may.0.1 fits (known c s a) all.so
    (plain_ready (setting_of h) c n (s.nodes.node n) i s.moments may.1 (all.nodes n) (λ x up is. tick_ready h s n i x a seats may.3 may.5 up is)) (λ k ne. all.nodes k)
happening_heard h s (Arrives number x m now ends) fits may a seats spelled all =
    let c : Cluster = first_cluster h in
    let S : Setting = setting_of h in
    let t : Scene = telling (entry.Packet (packet.Delivered number x.from x.to)) (removed s number) in
    let came : Comes s.moments number x.from x.to m.body = arrival c s number x m may.0 may.1 a in
    taking_heard S c t x.to now ends (input.Packet x.from m) may.3.0 may.3.1 fits (known c s a) (no_law S s.moments (delivered number x.from x.to) tt tt tt all.so)
    (packet_ready S c s number x m (s.nodes.node x.to) (sender_is x.from m.body s.nodes.sent may.4 a.stage.fits.sent) came (all.nodes x.to))
    (λ k ne. others_miss c s number x m.body k (s.nodes.node k) ne came (all.nodes k))
happening_heard h s (Strays number x) fits may a seats spelled all = absurd (no_stray (first_cluster h) s number x may.0 may.1 a spelled)
happening_heard h s (Misses number x) fits may a seats spelled all =
    still (setting_of h) s.nodes s.moments (Told (entry.Packet (packet.Dropped number drop.Down)) ∷ s.moments) (λ k. same_line k s.moments _ (λ m. refl) (λ m. refl) (λ m. refl)) (no_law (setting_of h) s.moments _ tt tt tt) all
happening_heard h s (Loses number x) fits may a seats spelled all =
    still (setting_of h) s.nodes s.moments (Told (entry.Packet (packet.Lost number)) ∷ s.moments) (λ k. same_line k s.moments _ (λ m. refl) (λ m. refl) (λ m. refl)) (no_law (setting_of h) s.moments _ tt tt tt) all
happening_heard h s (Repeats number x) fits may a seats spelled all =
    let o : links.Outcome = sending s.links x.from x.to x.bytes in
    let t : Scene = telling (entry.Packet (packet.Repeated number s.links.next)) (with_links s o.after) in
    dropped_heard (setting_of h) o.sent.dropped t
    (still (setting_of h) s.nodes s.moments t.moments (λ k. same_line k s.moments _ (λ m. refl) (λ m. refl) (λ m. refl)) (no_law (setting_of h) s.moments (Told (entry.Packet (packet.Repeated number s.links.next))) tt tt tt) all)
happening_heard h s (Commands n d k now ends) fits may a seats spelled all =
    let c : Cluster = first_cluster h in
    let o : Option Device = slice_get s.devices (d - 1) in
    let b : HeardIn (setting_of h) (commanded s n d k).scene = commanded_heard (setting_of h) s n d o k all in
    taking_heard (setting_of h) c (commanded s n d k).scene n now ends (input.Answered (commanded s n d k).answer) may.0.0 may.0.1 fits (commanded_knows c s n d o k (known c s a)) b.so
    (answer_ready (setting_of h) c n ((commanded s n d k).scene.nodes.node n) (commanded s n d k).answer (commanded s n d k).scene.moments (b.nodes n)) (λ j ne. b.nodes j)
happening_heard h s (Writes n d value now ends) fits may a seats spelled all =
    let c : Cluster = first_cluster h in
    let o : Option Device = slice_get s.devices (d - 1) in
    let z : Commanded = commanded s n d (command.Write value) in
    let b : HeardIn (setting_of h) z.scene = commanded_heard (setting_of h) s n d o (command.Write value) all in
    taking_heard (setting_of h) c z.scene n now ends (input.Wrote d value z.answer) may.0.0 may.0.1 fits (commanded_knows c s n d o (command.Write value) (known c s a)) b.so
    (wrote_ready (setting_of h) c n (z.scene.nodes.node n) d value z.answer z.scene.moments (b.nodes n)) (λ j ne. b.nodes j)
happening_heard h s (Refuses n d value cause) fits may a seats spelled all =
    still (setting_of h) s.nodes s.moments (Told (entry.Device (device.Refused n d value cause)) ∷ s.moments) (λ k. same_line k s.moments _ (λ m. refl) (λ m. refl) (λ m. refl)) (no_law (setting_of h) s.moments _ tt tt tt) all

-- ---- runs

seats_scene : (h : Header) (cells : ℕ) (s : Scene) → IsSmall h → IsReached h cells s → Seats s
seats_scene h cells s size r =
    subst Seats r.is (record { seated = memberships_of_each_run h cells r.happenings size.few size.small r.may; members = run_gone h cells r.happenings size.few size.small r.may })

first_heard : (h : Header) (cells : ℕ) → HeardIn (setting_of h) (first_scene h cells)
unfolding first_scene
first_heard h cells = record { so = tt; nodes = λ k. tt }

run_heard : (h : Header) (cells : ℕ) (hs : List Happening) → length h.devices ≤ most_devices → h.cluster < 2 ^ 32 → MayAllHappen (first_cluster h) (first_scene h cells) hs
    → HeardIn (setting_of h) (all_happened (first_cluster h) (first_scene h cells) hs)
run_heard h cells hs few small may =
    let size : IsSmall h = record { few = few; small = small } in
    holds_of_each h cells (HeardIn (setting_of h))
    (λ s x now at more all. happening_heard h s x (first_fit h few) now (known_scene h cells s size at) (seats_scene h cells s size at) (spelled_scene h cells s size at) all) (first_heard h cells) hs may

-- ---- the laws

each : (P Q : List Moment → Moment → Type 0) (ms : List Moment) → ((before : List Moment) (x : Moment) → P before x → Q before x) → Always P ms → Always Q ms
each P Q [] f h = tt
each P Q (x ∷ before) f h = (f before x h.0, each P Q before f h.1)

pub beats_in_ticks_of_each_run : BeatsInTicksOfEachRun
beats_in_ticks_of_each_run h cells hs few small may =
    each (Judged (setting_of h)) BeatsInTick _ (λ before x j. j.in_tick) (run_heard h cells hs few small may).so

pub beats_are_due_in_each_run : BeatsAreDueInEachRun
beats_are_due_in_each_run h cells hs few small may =
    each (Judged (setting_of h)) (BeatIsDue (setting_of h)) _ (λ before x j. j.due) (run_heard h cells hs few small may).so

pub attempts_begin_in_each_run : AttemptsBeginInEachRun
attempts_begin_in_each_run h cells hs few small may =
    each (Judged (setting_of h)) (Begins (setting_of h)) _ (λ before x j. j.begins_so) (run_heard h cells hs few small may).so

pub installs_bring_members_in_each_run : InstallsBringMembersInEachRun
installs_bring_members_in_each_run h cells hs few small may = (run_gone h cells hs few small may).brings
