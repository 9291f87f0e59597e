-- In each run the attempts of the nodes are those that are under way, and each line and message is judged.
use Rattle.std.specs.Prelude.{ℕ, ◌-◌, ◌≡◌, ◌≢◌, ◌≤◌, ◌<◌, ◌^◌, ◌⊎◌, ◌&&◌, nat_le, All, Bool, true, false, List, [], ◌∷◌, length, Option, None, Some, slice_get}
use Rattle.std.specs.List.{AllByRecursion}
use Rattle.std.proofs.Common.{refl, sym, ap, subst, ◌∙◌, arith, inl, inr}
use Rattle.attempt_laws.specs.Machine.{is_member}
use Rattle.cl_base.specs.Limits.{most_devices}
use Rattle.cl_base.specs.Sets.{has}
use Rattle.cl_base.specs.declared.header.Header.{Header}
use Rattle.cl_base.specs.declared.method.Outcome as method
use Rattle.cl_base.specs.declared.packet.DropCause.{DropCause}
use Rattle.cl_base.specs.declared.packet.DropCause.TheVariants as drop
use Rattle.cmm_attempt.proofs.Basics.{false_true}
use Rattle.cmm_attempt.specs.Calls.{IsDevice}
use Rattle.history.specs.Contact.{AttemptsDiffer}
use Rattle.history.specs.Moment.{Moment, Part, Said, Told}
use Rattle.history.specs.Order.{Always, under_way}
use Rattle.history.specs.Seizing.{is_attempt, is_number}
use Rattle.history.specs.Setting.{coordinator}
use Rattle.history.specs.Trace.{delivered}
use Rattle.interconnect.specs.Links as links
use Rattle.interconnect.specs.Links.{sending}
use Rattle.local_disk.specs.declared.memory.Choice.{Choice}
use Rattle.machine_base.specs.Put.{put}
use Rattle.machine_base.proofs.Puts.{put_here, put_there, same_or_not}
use Rattle.membership_machine.specs.Invariant.{Holds}
use Rattle.membership_machine.specs.State.{Memberships}
use Rattle.node_model.specs.Seats.{promised_of, state_of}
use Rattle.node_model.specs.Steps.{Outcome, stepped}
use Rattle.node_model.specs.declared.cluster.Cluster.{Cluster}
use Rattle.node_model.specs.declared.input.Input.{Input}
use Rattle.node_model.specs.declared.input.Input.TheVariants as input
use Rattle.node_model.specs.declared.node.Node.{Node}
use Rattle.node_model.specs.declared.node.Node.TheVariants.{Down, Up}
use Rattle.node_model.specs.declared.node.UpNode.{UpNode}
use Rattle.node_model.specs.declared.output.Output.{Output}
use Rattle.pgr_device.specs.Device.{Device}
use Rattle.pgr_device.specs.declared.command.PrCommand.{PrCommand}
use Rattle.pgr_device.specs.declared.command.PrCommand.TheVariants as command
use Rattle.record_disk.specs.Disks.{DiskState, armed}
use Rattle.refinement.proofs.Changes.{Sees, sees}
use Rattle.refinement.proofs.Disks.{disks_keep_rules}
use Rattle.refinement.proofs.Facts.{step_may}
use Rattle.refinement.proofs.Handlers.{delivered_by}
use Rattle.refinement.specs.Cuts.{doings}
use Rattle.refinement.specs.Doings.{Doing, Site, after_all, given_all, site}
use Rattle.refinement.specs.Guards.{MayAll}
use Rattle.refinement.specs.Runs.{IsAmong, Letter as Sent, Nodes, moved}
use Rattle.refinement.specs.Runs.Move.{Takes as Takes_in}
use Rattle.refinement.specs.Steps.{disk_rules}
use Rattle.refinement.specs.Ties as ties
use Rattle.refinement.specs.Ties.{InstallTold, MessageTold, NodeTied}
use Rattle.refinement.specs.Whole.{Stands}
use Rattle.run_attempts.proofs.Known.{known_scene}
use Rattle.run_history.proofs.Idle.{passing_nodes}
use Rattle.run_history.proofs.LineSteps.{doings_small}
use Rattle.run_history.proofs.MemberRuns.{first_fit}
use Rattle.run_history.specs.Bringing.{IsBrought}
use Rattle.run_history.specs.Happenings.{Arrives, Begins as Begins_part, Commanded, Commands, Happening, IsPlain, Loses as Loses_packet, MayAllHappen, MayHappen, Misses, Notes, Refuses, Repeats, Speaks, Strays, Takes, Writes, all_happened, armed_by, commanded, commanded_at, given_by, happened, removed, taking}
use Rattle.run_history.specs.Scenes.{Scene, adding, dropped_so, first_scene, passing, telling, with_links}
use Rattle.run_history.specs.Stages.{Stage}
use Rattle.run_messages.proofs.Reaching.{IsSmall, holds_of_each, stage_of, taking_good}
use Rattle.run_messages.specs.Outputs.{AreGood}
use Rattle.run_messages.proofs.records.Apart.{doings_apart}
use Rattle.run_messages.proofs.records.Replies.{CutSo, steps_are_cut_so}
use Rattle.run_messages.proofs.records.Steps.{put_all}
use Rattle.run_messages.specs.records.Kept.{KnownScene}
use Rattle.schedule_text.specs.declared.event.Event.{Event}
use Rattle.schedule_text.specs.declared.event.Event.TheVariants as event
use Rattle.schedule_text.specs.declared.line.Line.TheVariants as line
use Rattle.status_report.specs.declared.device_entry.DeviceEntry.TheVariants as device
use Rattle.status_report.specs.declared.entry.Entry.TheVariants as entry
use Rattle.status_report.specs.declared.packet_entry.PacketEntry.TheVariants as packet
use Rattle.wire.specs.declared.message.Body.{Body}
use Rattle.wire.specs.declared.message.Body.TheVariants as body
use Rattle.wire.specs.declared.message.Install.{Install}
use Rattle.wire.specs.declared.message.Message.{Message}
use Rattle.world_model.specs.First.{first_cluster}
use Rattle.world_model.specs.Lines.{left_by}
use Rattle.run_attempts.specs.endings.Laws.{AttemptsAreUnderWayInEachRun, EndsInTick, EndsNameMembersInEachRun, EndsUnderWay, HasPromises, HasWaited, IsSuperseded, NamesMember, NodesHaveTheirAttempts, PromisedInEachRun, SilentAfterEightTicks, SilentInTicksOfEachRun, SupersededInEachRun, ticks_of}
use Rattle.run_attempts.specs.endings.Once.{WaitAt}
use Rattle.run_attempts.specs.endings.Sites.{AllJudged, HandSo, Judged, SiteSo}
use Rattle.run_attempts.specs.endings.Steps.{ticks_in}
use Rattle.run_attempts.specs.endings.Ways.{way_of}
use Rattle.run_attempts.proofs.endings.Courses.{BoundsIn, doings_fit}
use Rattle.run_attempts.proofs.endings.Doings.{AllWent, all_went}
use Rattle.run_attempts.proofs.endings.Once.{doings_once}
use Rattle.run_attempts.proofs.endings.Waits.{at_stays}
use Rattle.run_attempts.proofs.endings.Goes.{Quietly, Went, quiet_moment, site_quiet}
use Rattle.run_attempts.proofs.endings.Grows.{site_grows}
use Rattle.run_attempts.proofs.endings.Letters.{arrival}
use Rattle.run_attempts.proofs.endings.Ways.{under_way_so}

pub record AllSo (v : Nodes) (ms : List Moment) : Type 0 where
  pub judged : AllJudged ms
  pub sites : (k : ℕ) → SiteSo ms k (site (v.node k) (v.disk k).kept)
  pub waits : (k : ℕ) → WaitAt ms k false (v.node k)

-- ---- a node takes something

-- what is known of all nodes, in the machine of memberships
record Knows (c : Cluster) (v : Nodes) : Type 0 where
  machine : Memberships
  holds : Holds (ties.setting_of c) machine
  stands : (n : ℕ) → Stands c machine n (v.node n) (v.disk n).kept
  sent : AllByRecursion (λ (l : Sent). MessageTold machine l.from l.body) v.sent

known : (c : Cluster) (s : Scene) → KnownScene c s → Knows c s.nodes
known c s a = record { machine = a.stage.machine; holds = a.stage.holds; stands = a.stage.stands; sent = a.stage.sent }

step_went : (c : Cluster) (v : Nodes) (n now : ℕ) (ends : method.Outcome) (i : Input) (s : Scene) → n ≤ 32 → All IsDevice c.attached → Knows c v → AreGood n (given_by c n now ends i v) → HandSo s.moments n (delivered_by i) → BoundsIn n (v.node n) i
    → (ticks_in i ≡ true → under_way s.moments ≡ Some (event.Tick n))
    → (let o : Outcome DiskState = stepped disk_rules c n now ends (v.node n) (v.disk n) i in AttemptsDiffer (passing n o.given s).moments → AllJudged s.moments → SiteSo s.moments n (site (v.node n) (v.disk n).kept) → WaitAt s.moments n false (v.node n)
    → AllWent n (delivered_by i) s.moments (site o.after o.disk.kept) (passing n o.given s).moments)
step_went c v n now ends i s high fits k good hand bounds under differ h at wait =
    let o : Outcome DiskState = stepped disk_rules c n now ends (v.node n) (v.disk n) i in
    let cut : CutSo disk_rules c n now ends (v.node n) (v.disk n) i [] o = steps_are_cut_so disk_rules disks_keep_rules c n now ends (v.node n) (v.disk n) i in
    let x : Site = site (v.node n) (v.disk n).kept in
    let ds : List Doing = doings c n now ends cut.replies i (v.node n) in
    let may : MayAll c n (delivered_by i) x ds =
    step_may c k.machine n now ends (v.node n) (v.disk n).kept i cut.replies high fits k.holds (k.stands n).tied (k.stands n).joins in
    let g : AllWent n (delivered_by i) s.moments (after_all c n x ds) (passing n (given_all c n x ds) s).moments =
    all_went c n (delivered_by i) (ticks_in i) false x ds s fits wait (doings_once c n now ends cut.replies i (v.node n) bounds) may (doings_small c n now ends cut.replies i (v.node n) (v.disk n).kept) (doings_fit c n now ends cut.replies i (v.disk n).kept (v.node n) bounds)
    (doings_apart c n now ends cut.replies i (v.node n) cut.losses) (subst (AreGood n) (sym cut.comes.given) good) under h at hand (subst (λ os. AttemptsDiffer (passing n os s).moments) (sym cut.comes.given) differ) in
    subst (λ (z : Site). AllWent n (delivered_by i) s.moments z (passing n o.given s).moments) cut.comes.left
    (subst (λ os. AllWent n (delivered_by i) s.moments (after_all c n x ds) (passing n os s).moments) cut.comes.given g)

put_sites : (v : Nodes) (n : ℕ) (node : Node) (disk : DiskState) (ms : List Moment) → SiteSo ms n (site node disk.kept) → ((k : ℕ) → k ≢ n → SiteSo ms k (site (v.node k) (v.disk k).kept)) → (k : ℕ)
    → SiteSo ms k (site (put v.node n node k) (put v.disk n disk k).kept)
put_sites v n node disk ms here there = put_all (λ k x r. SiteSo ms k (site x r)) v n node disk here there

put_waits : (v : Nodes) (n : ℕ) (node : Node) (disk : DiskState) (ms : List Moment) → WaitAt ms n false node → ((k : ℕ) → k ≢ n → WaitAt ms k false (v.node k)) → (k : ℕ) → WaitAt ms k false (put v.node n node k)
put_waits v n node disk ms here there = put_all (λ k x r. WaitAt ms k false x) v n node disk here there

taking_went : (c : Cluster) (s : Scene) (n now : ℕ) (ends : method.Outcome) (i : Input) → 1 ≤ n → n ≤ 32 → All IsDevice c.attached → Knows c s.nodes → Stage c (taking c n now ends i s) → HandSo s.moments n (delivered_by i) → BoundsIn n (s.nodes.node n) i
    → (ticks_in i ≡ true → under_way s.moments ≡ Some (event.Tick n)) → AllSo s.nodes s.moments → AllSo (taking c n now ends i s).nodes (taking c n now ends i s).moments
taking_went c s n now ends i low high fits k after hand bounds under h =
    let v : Nodes = moved c s.nodes (Takes_in n now ends i) in
    let t : Scene = record s { nodes = v } in
    let os : List Output = given_by c n now ends i s.nodes in
    let o : Outcome DiskState = stepped disk_rules c n now ends (s.nodes.node n) (s.nodes.disk n) i in
    let all : AllWent n (delivered_by i) s.moments (site o.after o.disk.kept) (passing n os t).moments =
    step_went c s.nodes n now ends i t high fits k (taking_good c s n now ends i after) hand bounds under after.laws.once h.judged (h.sites n) (h.waits n) in
    let g : Went n (delivered_by i) s.moments (site o.after o.disk.kept) (passing n os t).moments = all.went in
    subst (λ w. AllSo w (passing n os t).moments) (sym (passing_nodes n os t)) (record {
      judged = g.judged;
      sites = put_sites s.nodes n o.after o.disk (passing n os t).moments g.site_so (λ j ne. site_grows n j s.moments (passing n os t).moments _ low ne g.grows (λ own. g.ways j ne own) (h.sites j));
      waits = put_waits s.nodes n o.after o.disk (passing n os t).moments all.waits (λ j ne. at_stays s.moments (passing n os t).moments j false (s.nodes.node j) (λ e own. g.ticks j e ne own) (h.waits j));
    })

-- ---- what comes

brought_tick : (w : Option Event) (n : ℕ) (i : Input) → IsBrought w n i → ticks_in i ≡ true → w ≡ Some (event.Tick n)
brought_tick w n input.Tick brought is = brought
brought_tick w n _ brought is = absurd (false_true is)

plain_hand : (ms : List Moment) (n : ℕ) (i : Input) → IsPlain i → HandSo ms n (delivered_by i)
plain_hand ms n (input.Packet from m) plain = absurd plain
plain_hand ms n _ plain = tt

plain_bounds : (n : ℕ) (node : Node) (i : Input) → IsPlain i → BoundsIn n node i
plain_bounds n Down i plain = tt
plain_bounds n (Up x) (input.Packet from m) plain = absurd plain
plain_bounds n (Up x) input.Boot plain = tt
plain_bounds n (Up x) input.Crash plain = tt
plain_bounds n (Up x) input.Tick plain = tt
plain_bounds n (Up x) input.CommandDue plain = tt
plain_bounds n (Up x) (input.Answered a) plain = tt
plain_bounds n (Up x) (input.Wrote d value a) plain = tt
plain_bounds n (Up x) (input.Commanded words) plain = tt
plain_bounds n (Up x) (input.Reported r good) plain = tt
plain_bounds n (Up x) (input.Client name client port) plain = tt

device_bounds : (n : ℕ) (node : Node) (i : Input) → ((x : UpNode) → BoundsIn n (Up x) i) → BoundsIn n node i
device_bounds n Down i h = tt
device_bounds n (Up x) i h = h x

told_among : (M : Memberships) (from : ℕ) (b : Body) (letters : List Sent) → IsAmong from b letters → AllByRecursion (λ (l : Sent). MessageTold M l.from l.body) letters → MessageTold M from b
told_among M from b [] among told = absurd among
told_among M from b (l ∷ letters) (inl here) told = subst (λ f. MessageTold M f b) here.0 (subst (MessageTold M l.from) here.1 told.0)
told_among M from b (l ∷ letters) (inr there) told = told_among M from b letters there told.1

member_so : (members n : ℕ) → n ≤ 32 → has members n ≡ true → is_member members n ≡ true
member_so members n high is = by_test (nat_le n 32) (most n high) is
  where
    most : (k : ℕ) → k ≤ 32 → nat_le k 32 ≡ true
    most k h = grind arith

    by_test : (t : Bool) → t ≡ true → has members n ≡ true → (t && has members n) ≡ true
    by_test true h k = k
    by_test false h k = absurd (false_true h)

-- an Install of its members comes to a node that has promised it
install_bounds : (c : Cluster) (v : Nodes) (n from : ℕ) (m : Message) (i : Install) (x : UpNode) → n ≤ 32 → Knows c v → v.node n ≡ Up x → IsAmong from m.body v.sent → m.body ≡ body.Install i → has i.members n ≡ true → i.epoch ≤ promised_of x
install_bounds c v n from m i x high k up among is member =
    let M : Memberships = k.machine in
    let told : InstallTold M i = subst (MessageTold M from) is (told_among M from m.body v.sent among k.sent) in
    let tied : NodeTied c M n (v.disk n).kept (Up x) = subst (NodeTied c M n (v.disk n).kept) up (k.stands n).tied in
    let sight : Sees M n (v.disk n).kept (state_of x.seat) = sees c M n (v.disk n).kept x.attempt x.seat tied.0 in
    subst (λ q. i.epoch ≤ q) sight.promised ((k.holds.node n).answered_promised i.epoch ((k.holds.epoch i.epoch).counted_answered told.counted n (told.members n ∙ member_so i.members n high member)))

packet_bounds : (c : Cluster) (v : Nodes) (n from : ℕ) (m : Message) (node : Node) → n ≤ 32 → Knows c v → v.node n ≡ node → IsAmong from m.body v.sent → BoundsIn n node (input.Packet from m)
packet_bounds c v n from m Down high k at among = tt
packet_bounds c v n from m (Up x) high k at among = λ i is member. install_bounds c v n from m i x high k at among is member

-- ---- lines of the world

still : (v : Nodes) (ms : List Moment) (x : Moment) → Judged ms x → ((e : ℕ) → is_attempt e x ≡ false) → ((k : ℕ) → way_of k (x ∷ ms) ≡ way_of k ms) → ((e : ℕ) → ticks_of e (x ∷ ms) ≡ ticks_of e ms) → AllSo v ms → AllSo v (x ∷ ms)
still v ms x one none ways ticks h =
    let q : Quietly ms (x ∷ ms) = quiet_moment x ms one none ways ticks h.judged in
    record { judged = q.judged; sites = λ k. site_quiet k ms (x ∷ ms) _ q (h.sites k); waits = λ k. at_stays ms (x ∷ ms) k false (v.node k) (λ e own. ticks e) (h.waits k) }

dropped_went : (o : Option (ℕ × DropCause)) (s : Scene) → AllSo s.nodes s.moments → AllSo (dropped_so o s).nodes (dropped_so o s).moments
dropped_went None s h = h
dropped_went (Some drop) s h = still s.nodes s.moments (Told (entry.Packet (packet.Dropped drop.0 drop.1))) (record { way = tt; superseded = tt; silent = tt; promises = tt; names = tt; waited = tt; says_so = tt }) (λ e. refl) (λ k. refl) (λ e. refl) h

armed_kept : (f : ℕ → DiskState) (n k calls : ℕ) (choice : Choice) → (put f n (armed (f n) calls choice) k).kept ≡ (f k).kept
armed_kept f n k calls choice = go (same_or_not k n)
  where
    go : (k ≡ n) ⊎ (k ≢ n) → (put f n (armed (f n) calls choice) k).kept ≡ (f k).kept
    go (inl e) = subst (λ j. (put f n (armed (f n) calls choice) j).kept ≡ (f j).kept) (sym e) (ap (λ (d : DiskState). d.kept) (put_here f n (armed (f n) calls choice)))
    go (inr ne) = ap (λ (d : DiskState). d.kept) (put_there f n (armed (f n) calls choice) k ne)

armed_went : (c : Cluster) (e : Event) (s : Scene) → AllSo s.nodes s.moments → AllSo (armed_by c e s).nodes (armed_by c e s).moments
armed_went c (event.Fault n d done) s h = record { judged = h.judged; sites = h.sites; waits = h.waits }
armed_went c (event.CrashAt n calls choice) s h = record { judged = h.judged; sites = λ k. subst (λ r. SiteSo s.moments k (site (s.nodes.node k) r)) (sym (armed_kept s.nodes.disk n k calls (left_by choice))) (h.sites k); waits = h.waits }
armed_went c _ s h = h

commanded_went : (s : Scene) (n d : ℕ) (o : Option Device) (k : PrCommand) → AllSo s.nodes s.moments → AllSo (commanded_at s n d o k).scene.nodes (commanded_at s n d o k).scene.moments
commanded_went s n d None k h = h
commanded_went s n d (Some x) k h = record { judged = h.judged; sites = h.sites; waits = h.waits }

commanded_knows : (c : Cluster) (s : Scene) (n d : ℕ) (o : Option Device) (k : PrCommand) → Knows c s.nodes → Knows c (commanded_at s n d o k).scene.nodes
commanded_knows c s n d None k h = h
commanded_knows c s n d (Some x) k h = h

-- ---- each thing that happens

happening_went : (c : Cluster) (s : Scene) (x : Happening) → All IsDevice c.attached → MayHappen c s x → KnownScene c s → Stage c (happened c s x) → AllSo s.nodes s.moments → AllSo (happened c s x).nodes (happened c s x).moments
happening_went c s (Speaks e) fits may a after h = armed_went c e (adding (Said (line.Event e)) s) (still s.nodes s.moments (Said (line.Event e)) (record { way = tt; superseded = tt; silent = tt; promises = tt; names = tt; waited = tt; says_so = tt }) (λ f. refl) (λ k. refl) (λ f. refl) h)
happening_went c s (Begins_part e) fits may a after h = still s.nodes s.moments (Part e) (record { way = tt; superseded = tt; silent = tt; promises = tt; names = tt; waited = tt; says_so = tt }) (λ f. refl) (λ k. refl) (λ f. refl) h
happening_went c s (Notes e) fits may a after h = still s.nodes s.moments (Told (entry.Schedule e)) (record { way = tt; superseded = tt; silent = tt; promises = tt; names = tt; waited = tt; says_so = tt }) (λ f. refl) (λ k. refl) (λ f. refl) h
happening_went c s (Takes n now ends i) fits may a after h =
    taking_went c s n now ends i may.0.0 may.0.1 fits (known c s a) after (plain_hand s.moments n i may.1) (plain_bounds n (s.nodes.node n) i may.1) (λ is. brought_tick (under_way s.moments) n i may.5 is) h
happening_went c s (Arrives number x m now ends) fits may a after h =
    let t : Scene = telling (entry.Packet (packet.Delivered number x.from x.to)) (removed s number) in
    taking_went c t x.to now ends (input.Packet x.from m) may.3.0 may.3.1 fits (known c s a) after (arrival c s number x m may.0 may.1 a h.judged)
    (packet_bounds c s.nodes x.to x.from m (s.nodes.node x.to) may.3.1 (known c s a) refl may.4) (λ is. absurd (false_true is))
    (still s.nodes s.moments (delivered number x.from x.to) (record { way = tt; superseded = tt; silent = tt; promises = tt; names = tt; waited = tt; says_so = tt }) (λ f. refl) (λ k. refl) (λ f. refl) h)
happening_went c s (Strays number x) fits may a after h = still s.nodes s.moments (Told (entry.Packet (packet.Delivered number x.from x.to))) (record { way = tt; superseded = tt; silent = tt; promises = tt; names = tt; waited = tt; says_so = tt }) (λ f. refl) (λ k. refl) (λ f. refl) h
happening_went c s (Misses number x) fits may a after h = still s.nodes s.moments (Told (entry.Packet (packet.Dropped number drop.Down))) (record { way = tt; superseded = tt; silent = tt; promises = tt; names = tt; waited = tt; says_so = tt }) (λ f. refl) (λ k. refl) (λ f. refl) h
happening_went c s (Loses_packet number x) fits may a after h = still s.nodes s.moments (Told (entry.Packet (packet.Lost number))) (record { way = tt; superseded = tt; silent = tt; promises = tt; names = tt; waited = tt; says_so = tt }) (λ f. refl) (λ k. refl) (λ f. refl) h
happening_went c s (Repeats number x) fits may a after h =
    let o : links.Outcome = sending s.links x.from x.to x.bytes in
    let t : Scene = telling (entry.Packet (packet.Repeated number s.links.next)) (with_links s o.after) in
    dropped_went o.sent.dropped t (still s.nodes s.moments (Told (entry.Packet (packet.Repeated number s.links.next))) (record { way = tt; superseded = tt; silent = tt; promises = tt; names = tt; waited = tt; says_so = tt }) (λ f. refl) (λ k. refl) (λ f. refl) h)
happening_went c s (Commands n d k now ends) fits may a after h =
    let o : Option Device = slice_get s.devices (d - 1) in
    taking_went c (commanded s n d k).scene n now ends (input.Answered (commanded s n d k).answer) may.0.0 may.0.1 fits (commanded_knows c s n d o k (known c s a)) after tt
    (device_bounds n ((commanded s n d k).scene.nodes.node n) (input.Answered (commanded s n d k).answer) (λ x. tt)) (λ is. absurd (false_true is)) (commanded_went s n d o k h)
happening_went c s (Writes n d value now ends) fits may a after h =
    let o : Option Device = slice_get s.devices (d - 1) in
    let z : Commanded = commanded s n d (command.Write value) in
    taking_went c z.scene n now ends (input.Wrote d value z.answer) may.0.0 may.0.1 fits (commanded_knows c s n d o (command.Write value) (known c s a)) after tt
    (device_bounds n (z.scene.nodes.node n) (input.Wrote d value z.answer) (λ x. tt)) (λ is. absurd (false_true is)) (commanded_went s n d o (command.Write value) h)
happening_went c s (Refuses n d value cause) fits may a after h = still s.nodes s.moments (Told (entry.Device (device.Refused n d value cause))) (record { way = tt; superseded = tt; silent = tt; promises = tt; names = tt; waited = tt; says_so = tt }) (λ f. refl) (λ k. refl) (λ f. refl) h

-- ---- runs

first_so : (h : Header) (cells : ℕ) → AllSo (first_scene h cells).nodes (first_scene h cells).moments
unfolding first_scene
first_so h cells = record { judged = tt; sites = λ k. record { way = refl; disk = λ some. absurd (none_below some); up = tt }; waits = λ k. tt }
  where
    none_below : 0 < 0 → ⊥
    none_below e = grind arith

run_so : (h : Header) (cells : ℕ) (hs : List Happening) → length h.devices ≤ most_devices → h.cluster < 2 ^ 32 → MayAllHappen (first_cluster h) (first_scene h cells) hs
    → (let s : Scene = all_happened (first_cluster h) (first_scene h cells) hs in AllSo s.nodes s.moments)
run_so h cells hs few small may =
    let size : IsSmall h = record { few = few; small = small } in
    holds_of_each h cells (λ s. AllSo s.nodes s.moments)
    (λ s x now at more all. happening_went (first_cluster h) s x (first_fit h few) now (known_scene h cells s size at) (stage_of h cells _ size more) all) (first_so h cells) hs may

-- ---- the laws

each : (P Q : List Moment → Moment → Type 0) (ms : List Moment) → ((before : List Moment) (x : Moment) → P before x → Q before x) → Always P ms → Always Q ms
each P Q [] f h = tt
each P Q (x ∷ before) f h = (f before x h.0, each P Q before f h.1)

pub attempts_are_under_way_in_each_run : AttemptsAreUnderWayInEachRun
attempts_are_under_way_in_each_run h cells hs few small may = each Judged EndsUnderWay _ (λ before x j. j.way) (run_so h cells hs few small may).judged

pub nodes_have_their_attempts_in_each_run : NodesHaveTheirAttempts
nodes_have_their_attempts_in_each_run h cells hs few small may = λ e. under_way_so e (all_happened (first_cluster h) (first_scene h cells) hs).moments ∙ ap (is_number e) ((run_so h cells hs few small may).sites (coordinator e)).way

pub superseded_in_each_run : SupersededInEachRun
superseded_in_each_run h cells hs few small may = each Judged IsSuperseded _ (λ before x j. j.superseded) (run_so h cells hs few small may).judged

pub ends_name_members_in_each_run : EndsNameMembersInEachRun
ends_name_members_in_each_run h cells hs few small may = each Judged NamesMember _ (λ before x j. j.names) (run_so h cells hs few small may).judged

pub silent_after_eight_ticks_in_each_run : SilentAfterEightTicks
silent_after_eight_ticks_in_each_run h cells hs few small may = each Judged HasWaited _ (λ before x j. j.waited) (run_so h cells hs few small may).judged

pub promised_in_each_run : PromisedInEachRun
promised_in_each_run h cells hs few small may = each Judged HasPromises _ (λ before x j. j.promises) (run_so h cells hs few small may).judged

pub silent_in_ticks_of_each_run : SilentInTicksOfEachRun
silent_in_ticks_of_each_run h cells hs few small may = each Judged EndsInTick _ (λ before x j. j.silent) (run_so h cells hs few small may).judged
