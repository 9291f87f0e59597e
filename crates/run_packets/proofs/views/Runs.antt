-- In each run what a node has heard is what the lines tell, and the members of each attempt are the view of its coordinator.
use Rattle.std.specs.Prelude.{ℕ, ◌≡◌, ◌≢◌, ◌≤◌, ◌<◌, ◌^◌, ◌⊎◌, All, false, List, [], ◌∷◌, length, Option, None, Some, slice_get, ◌-◌}
use Rattle.std.specs.List.{AllByRecursion}
use Rattle.std.proofs.Common.{refl, sym, subst, ◌∙◌, inl, inr}
use Rattle.cl_base.specs.Limits.{most_devices}
use Rattle.cl_base.specs.declared.header.Header.{Header}
use Rattle.cl_base.specs.declared.method.Outcome as method
use Rattle.cl_base.specs.declared.packet.DropCause.{DropCause}
use Rattle.cl_base.specs.declared.packet.DropCause.TheVariants as drop
use Rattle.cmm_attempt.specs.Calls.{IsDevice}
use Rattle.cmm_member.specs.Records.{NodeRecord}
use Rattle.history.specs.Contents.{Spelled}
use Rattle.history.specs.Moment.{Moment, Part, Said, Told}
use Rattle.history.specs.Order.{Always}
use Rattle.history.specs.Setting.{Setting}
use Rattle.history.specs.Trace.{delivered}
use Rattle.history_setting.specs.Settings.{setting_of}
use Rattle.interconnect.specs.Links as links
use Rattle.interconnect.specs.Links.{sending}
use Rattle.machine_base.specs.Put.{put}
use Rattle.machine_base.proofs.Puts.{put_here, put_there, same_or_not}
use Rattle.membership_machine.specs.Invariant.{Holds}
use Rattle.membership_machine.specs.State.{Memberships}
use Rattle.refinement.specs.node_widths.Widths.{NodeFits, UpFits}
use Rattle.node_model.specs.Members.{beat_in}
use Rattle.node_model.specs.Steps.{Outcome, stepped}
use Rattle.node_model.specs.declared.cluster.Cluster.{Cluster}
use Rattle.node_model.specs.declared.input.Input.{Input}
use Rattle.node_model.specs.declared.input.Input.TheVariants as input
use Rattle.node_model.specs.declared.node.Node.{Node}
use Rattle.node_model.specs.declared.node.Node.TheVariants.{Down, Up}
use Rattle.node_model.specs.declared.node.UpNode.{UpNode}
use Rattle.node_model.specs.declared.output.Output.{Output}
use Rattle.pgr_device.specs.Device.{Device}
use Rattle.pgr_device.specs.declared.command.PrCommand.{PrCommand}
use Rattle.pgr_device.specs.declared.command.PrCommand.TheVariants as command
use Rattle.record_disk.specs.Disks.{DiskState}
use Rattle.refinement.specs.Cuts.{doings}
use Rattle.refinement.specs.Doings.{Doing, Site, after_all, given_all, site}
use Rattle.refinement.specs.Guards.{MayAll}
use Rattle.refinement.specs.Runs.{IsAmong, Letter as Sent, Nodes, moved}
use Rattle.refinement.specs.Runs.Move.{Takes as Takes_in}
use Rattle.refinement.specs.Steps.{IsCut, disk_rules}
use Rattle.refinement.specs.Ties as ties
use Rattle.refinement.specs.Ties.{NodeTied}
use Rattle.refinement.specs.Whole.{Stands}
use Rattle.refinement.specs.Widths.{LetterFits}
use Rattle.refinement.proofs.Disks.{disks_keep_rules}
use Rattle.refinement.proofs.Facts.{step_may}
use Rattle.refinement.proofs.Handlers.{delivered_by}
use Rattle.refinement.proofs.Replies.{steps_are_cut}
use Rattle.run_attempts.proofs.Configured.{configured_known, disk_own}
use Rattle.run_attempts.proofs.Known.{known_scene}
use Rattle.run_history.proofs.Idle.{passing_nodes}
use Rattle.run_history.proofs.LineSteps.{doings_small}
use Rattle.run_history.proofs.MemberRuns.{first_fit}
use Rattle.run_history.proofs.Reached.{reached_more}
use Rattle.run_history.specs.Happenings.{Arrives, Begins as Begins_part, Commanded, Commands, Happening, IsPlain, Loses, MayAllHappen, MayHappen, Misses, Notes, Refuses, Repeats, Speaks, Strays, Takes, Writes, all_happened, armed_by, commanded, commanded_at, given_by, happened, removed, taking}
use Rattle.run_history.specs.Scenes.{Scene, adding, dropped_so, first_scene, passing, telling, with_links}
use Rattle.run_messages.proofs.Reaching.{IsReached, IsSmall}
use Rattle.run_messages.proofs.Spelling.{spelled_of_each_run}
use Rattle.run_messages.specs.records.Kept.{KnownScene}
use Rattle.schedule_text.specs.declared.event.Event.{Event}
use Rattle.schedule_text.specs.declared.event.Event.TheVariants as event
use Rattle.schedule_text.specs.declared.line.Line.TheVariants as line
use Rattle.seize.specs.Answers.{Answer}
use Rattle.status_report.specs.declared.device_entry.DeviceEntry.TheVariants as device
use Rattle.status_report.specs.declared.entry.Entry.TheVariants as entry
use Rattle.status_report.specs.declared.packet_entry.PacketEntry.TheVariants as packet
use Rattle.wire.specs.Spelling.{IsNode}
use Rattle.wire.specs.declared.message.Body.{Body}
use Rattle.wire.specs.declared.message.Message.{Message}
use Rattle.world_model.specs.First.{first_cluster}
use Rattle.run_packets.specs.views.Heard.{AllViews, Judged, NodeIs}
use Rattle.run_packets.specs.views.Laws.{Account, BeginsNotAlone, EachRunHasAnAccount, IsAccountOf, NoneBeginsAloneInEachRun, PlainViewsWhereNoneIsForeign, TellsHere, ViewIs, ViewsOfEachRun, is_foreign_to}
use Rattle.run_packets.proofs.views.Accounts.{account_of, is_account}
use Rattle.run_packets.proofs.views.Governing.{governs_so}
use Rattle.run_packets.proofs.views.Ages.{beats_hear, beats_miss, elsewhere, refused}
use Rattle.run_packets.proofs.views.Plain.{all_plain}
use Rattle.run_packets.proofs.views.Same.{SameAges, node_stays}
use Rattle.run_packets.proofs.views.Steps.{Ready, Stepped, TickReady, step_goes}
use Rattle.run_packets.proofs.views.Strays.{no_stray}

-- ---- what is known of each scene that a run comes to

pub record AllHeard (S : Setting) (f : Account) (v : Nodes) (ms : List Moment) : Type 0 where
  pub so : AllViews S f ms
  pub nodes : (k : ℕ) → NodeIs f ms k (v.node k)

abbrev HeardIn : Setting → Account → Scene → Type 0
HeardIn S f s = AllHeard S f s.nodes s.moments

spelled_scene : (h : Header) (cells : ℕ) (s : Scene) → IsSmall h → IsReached h cells s → Spelled s.moments
spelled_scene h cells s size r = subst (λ (z : Scene). Spelled z.moments) r.is (spelled_of_each_run h cells r.happenings size.few size.small r.may)

-- ---- a node takes something

-- what is known of all nodes, in the machine of memberships
record Knows (c : Cluster) (v : Nodes) : Type 0 where
  machine : Memberships
  holds : Holds (ties.setting_of c) machine
  stands : (n : ℕ) → Stands c machine n (v.node n) (v.disk n).kept

known : (c : Cluster) (s : Scene) → KnownScene c s → Knows c s.nodes
known c s a = record { machine = a.stage.machine; holds = a.stage.holds; stands = a.stage.stands }

step_heard : (S : Setting) (f : Account) (c : Cluster) (v : Nodes) (n now : ℕ) (ends : method.Outcome) (i : Input) (s : Scene) → 1 ≤ n → n ≤ 32 → All IsDevice c.attached → Knows c v → AllViews S f s.moments
    → Ready S f c n (v.node n) i s.moments
    → (let o : Outcome DiskState = stepped disk_rules c n now ends (v.node n) (v.disk n) i in Stepped S f n s.moments o.after (passing n o.given s).moments)
step_heard S f c v n now ends i s low high fits k so ready =
    let o : Outcome DiskState = stepped disk_rules c n now ends (v.node n) (v.disk n) i in
    let cut : IsCut disk_rules c n now ends (v.node n) (v.disk n) i [] o = steps_are_cut disk_rules disks_keep_rules c n now ends (v.node n) (v.disk n) i in
    let x : Site = site (v.node n) (v.disk n).kept in
    let ds : List Doing = doings c n now ends cut.replies i (v.node n) in
    let may : MayAll c n (delivered_by i) x ds =
    step_may c k.machine n now ends (v.node n) (v.disk n).kept i cut.replies high fits k.holds (k.stands n).tied (k.stands n).joins in
    let g : Stepped S f n s.moments (after_all c n x ds).node (passing n (given_all c n x ds) s).moments =
    step_goes S f c n now ends cut.replies i (v.node n) (v.disk n).kept s low high may (doings_small c n now ends cut.replies i (v.node n) (v.disk n).kept) so ready in
    subst (λ (z : Site). Stepped S f n s.moments z.node (passing n o.given s).moments) cut.comes.left
    (subst (λ os. Stepped S f n s.moments (after_all c n x ds).node (passing n os s).moments) cut.comes.given g)

put_nodes : (f : Account) (nodes : ℕ → Node) (n : ℕ) (x : Node) (before after : List Moment) → NodeIs f after n x → ((k : ℕ) → k ≢ n → SameAges f k before after) → ((k : ℕ) → k ≢ n → NodeIs f before k (nodes k))
    → (k : ℕ) → NodeIs f after k (put nodes n x k)
put_nodes f nodes n x before after here same all k = go (same_or_not k n)
  where
    go : (k ≡ n) ⊎ (k ≢ n) → NodeIs f after k (put nodes n x k)
    go (inl e) = subst (λ j. NodeIs f after j (put nodes n x j)) (sym e) (subst (NodeIs f after n) (sym (put_here nodes n x)) here)
    go (inr ne) = subst (NodeIs f after k) (sym (put_there nodes n x k ne)) (node_stays f before after k (nodes k) (same k ne) (all k ne))

taking_heard : (S : Setting) (f : Account) (c : Cluster) (s : Scene) (n now : ℕ) (ends : method.Outcome) (i : Input) → 1 ≤ n → n ≤ 32 → All IsDevice c.attached → Knows c s.nodes → AllViews S f s.moments
    → Ready S f c n (s.nodes.node n) i s.moments → ((k : ℕ) → k ≢ n → NodeIs f s.moments k (s.nodes.node k)) → HeardIn S f (taking c n now ends i s)
taking_heard S f c s n now ends i low high fits k so ready others =
    let v : Nodes = moved c s.nodes (Takes_in n now ends i) in
    let t : Scene = record s { nodes = v } in
    let os : List Output = given_by c n now ends i s.nodes in
    let g : Stepped S f n s.moments (stepped disk_rules c n now ends (s.nodes.node n) (s.nodes.disk n) i).after (passing n os t).moments =
    step_heard S f c s.nodes n now ends i t low high fits k so ready in
    subst (λ w. AllHeard S f w (passing n os t).moments) (sym (passing_nodes n os t)) (record {
      so = g.so;
      nodes = put_nodes f s.nodes.node n (stepped disk_rules c n now ends (s.nodes.node n) (s.nodes.disk n) i).after s.moments (passing n os t).moments g.own g.others others;
    })

-- ---- lines of the world

still : (S : Setting) (f : Account) (v : Nodes) (x : Moment) (before : List Moment) → ((k : ℕ) → SameAges f k before (x ∷ before)) → Judged S f before x → AllHeard S f v before → AllHeard S f v (x ∷ before)
still S f v x before same judged h = record { so = (judged, h.so); nodes = λ k. node_stays f before (x ∷ before) k (v.node k) (same k) (h.nodes k) }

dropped_heard : (S : Setting) (f : Account) (o : Option (ℕ × DropCause)) (s : Scene) → HeardIn S f s → HeardIn S f (dropped_so o s)
dropped_heard S f None s h = h
dropped_heard S f (Some drop) s h = still S f s.nodes (Told (entry.Packet (packet.Dropped drop.0 drop.1))) s.moments (λ k m. refl) (record { view = tt; alone = tt }) h

armed_heard : (S : Setting) (f : Account) (c : Cluster) (e : Event) (s : Scene) → HeardIn S f s → HeardIn S f (armed_by c e s)
armed_heard S f c (event.Fault n d done) s h = record { so = h.so; nodes = h.nodes }
armed_heard S f c (event.CrashAt n calls choice) s h = record { so = h.so; nodes = h.nodes }
armed_heard S f c _ s h = h

commanded_heard : (S : Setting) (f : Account) (s : Scene) (n d : ℕ) (o : Option Device) (k : PrCommand) → HeardIn S f s → HeardIn S f (commanded_at s n d o k).scene
commanded_heard S f s n d None k h = h
commanded_heard S f s n d (Some x) k h = record { so = h.so; nodes = h.nodes }

commanded_knows : (c : Cluster) (s : Scene) (n d : ℕ) (o : Option Device) (k : PrCommand) → Knows c s.nodes → Knows c (commanded_at s n d o k).scene.nodes
commanded_knows c s n d None k h = h
commanded_knows c s n d (Some x) k h = h

-- ---- what comes

answer_ready : (S : Setting) (f : Account) (c : Cluster) (n : ℕ) (node : Node) (a : Answer) (ms : List Moment) → NodeIs f ms n node → Ready S f c n node (input.Answered a) ms
answer_ready S f c n Down a ms h = tt
answer_ready S f c n (Up x) a ms h = h

wrote_ready : (S : Setting) (f : Account) (c : Cluster) (n : ℕ) (node : Node) (d value : ℕ) (a : Answer) (ms : List Moment) → NodeIs f ms n node → Ready S f c n node (input.Wrote d value a) ms
wrote_ready S f c n Down d value a ms h = tt
wrote_ready S f c n (Up x) d value a ms h = h

plain_ready : (S : Setting) (f : Account) (c : Cluster) (n : ℕ) (node : Node) (i : Input) (ms : List Moment) → IsPlain i → NodeIs f ms n node → ((x : UpNode) → node ≡ Up x → TickReady S c n x ms)
    → Ready S f c n node i ms
plain_ready S f c n Down i ms plain h tick = tt
plain_ready S f c n (Up x) input.Tick ms plain h tick = (h, tick x refl)
plain_ready S f c n (Up x) (input.Packet from m) ms plain h tick = absurd plain
plain_ready S f c n (Up x) input.Boot ms plain h tick = h
plain_ready S f c n (Up x) input.Crash ms plain h tick = h
plain_ready S f c n (Up x) input.CommandDue ms plain h tick = h
plain_ready S f c n (Up x) (input.Answered a) ms plain h tick = h
plain_ready S f c n (Up x) (input.Wrote d value a) ms plain h tick = h
plain_ready S f c n (Up x) (input.Commanded words) ms plain h tick = h
plain_ready S f c n (Up x) (input.Reported r good) ms plain h tick = h
plain_ready S f c n (Up x) (input.Client name client port) ms plain h tick = h

tick_ready : (h : Header) (s : Scene) (n : ℕ) (x : UpNode) → KnownScene (first_cluster h) s → s.nodes.node n ≡ Up x → TickReady (setting_of h) (first_cluster h) n x s.moments
tick_ready h s n x a up =
    let c : Cluster = first_cluster h in
    let disk : NodeRecord = (s.nodes.disk n).kept in
    let tied : NodeTied c a.stage.machine n disk (Up x) = subst (NodeTied c a.stage.machine n disk) up (a.stage.stands n).tied in
    let fits : UpFits c n x = subst (NodeFits c n) up (a.stage.fits.nodes n) in
    record {
      known = λ y same. configured_known h n s.moments disk y (a.at n).record_so (same ∙ sym (disk_own c a.stage.machine n disk x tied));
      governs = governs_so c a.stage.machine n disk x.seat x.presidency x.attempt a.stage.holds fits.state.record_fits.members tied.0 tied.1;
    }

-- ---- a packet

sender_is : (from : ℕ) (b : Body) (letters : List Sent) → IsAmong from b letters → AllByRecursion LetterFits letters → IsNode from
sender_is from b [] among fits = absurd among
sender_is from b (l ∷ letters) (inl here) fits = subst IsNode here.0 fits.0.0
sender_is from b (l ∷ letters) (inr there) fits = sender_is from b letters there fits.1

others_miss : (f : Account) (ms : List Moment) (number a b k : ℕ) (node : Node) → k ≢ b → NodeIs f ms k node → NodeIs f (delivered number a b ∷ ms) k node
others_miss f ms number a b k Down ne h = tt
others_miss f ms number a b k (Up y) ne h = beats_miss f ms number a b k y.beats (elsewhere f ms a b k ne) h

packet_comes : (S : Setting) (f : Account) (c : Cluster) (ms : List Moment) (number from n : ℕ) (m : Message) (node : Node) → IsNode from → f ms ≡ is_foreign_to c n node m.body → NodeIs f ms n node
    → Ready S f c n node (input.Packet from m) (delivered number from n ∷ ms)
packet_comes S f c ms number from n m Down node so h = tt
packet_comes S f c ms number from n m (Up y) node so h = (
  λ known. beats_hear f ms number from n (beat_in m.body) y.beats node.0 node.1 (so ∙ known) h,
  λ foreign. beats_miss f ms number from n n y.beats (refused f ms from n n (so ∙ foreign)) h,
)

-- ---- each thing that happens

happening_heard : (h : Header) (f : Account) (s : Scene) (x : Happening) → (let c : Cluster = first_cluster h in All IsDevice c.attached → MayHappen c s x → KnownScene c s → Spelled s.moments → TellsHere c s f x → HeardIn (setting_of h) f s
    → HeardIn (setting_of h) f (happened c s x))
happening_heard h f s (Speaks e) fits may a spelled tells all =
    armed_heard (setting_of h) f (first_cluster h) e (adding _ s) (still (setting_of h) f s.nodes (Said (line.Event e)) s.moments (λ k m. refl) (record { view = tt; alone = tt }) all)
happening_heard h f s (Begins_part e) fits may a spelled tells all = still (setting_of h) f s.nodes (Part e) s.moments (λ k m. refl) (record { view = tt; alone = tt }) all
happening_heard h f s (Notes e) fits may a spelled tells all = still (setting_of h) f s.nodes (Told (entry.Schedule e)) s.moments (λ k m. refl) (record { view = tt; alone = tt }) all
happening_heard h f s (Takes n now ends i) fits may a spelled tells all =
    let c : Cluster = first_cluster h in
    taking_heard (setting_of h) f c s n now ends i may.0.0 may.0.1 fits (known c s a) all.so
    (plain_ready (setting_of h) f c n (s.nodes.node n) i s.moments may.1 (all.nodes n) (λ x up. tick_ready h s n x a up)) (λ k ne. all.nodes k)
happening_heard h f s (Arrives number x m now ends) fits may a spelled tells all =
    let c : Cluster = first_cluster h in
    let S : Setting = setting_of h in
    let t : Scene = telling (entry.Packet (packet.Delivered number x.from x.to)) (removed s number) in
    taking_heard S f c t x.to now ends (input.Packet x.from m) may.3.0 may.3.1 fits (known c s a) (record { view = tt; alone = tt }, all.so)
    (packet_comes S f c s.moments number x.from x.to m (s.nodes.node x.to) (sender_is x.from m.body s.nodes.sent may.4 a.stage.fits.sent) tells (all.nodes x.to))
    (λ k ne. others_miss f s.moments number x.from x.to k (s.nodes.node k) ne (all.nodes k))
happening_heard h f s (Strays number x) fits may a spelled tells all = absurd (no_stray (first_cluster h) s number x may.0 may.1 a spelled)
happening_heard h f s (Misses number x) fits may a spelled tells all =
    still (setting_of h) f s.nodes (Told (entry.Packet (packet.Dropped number drop.Down))) s.moments (λ k m. refl) (record { view = tt; alone = tt }) all
happening_heard h f s (Loses number x) fits may a spelled tells all = still (setting_of h) f s.nodes (Told (entry.Packet (packet.Lost number))) s.moments (λ k m. refl) (record { view = tt; alone = tt }) all
happening_heard h f s (Repeats number x) fits may a spelled tells all =
    let o : links.Outcome = sending s.links x.from x.to x.bytes in
    let t : Scene = telling (entry.Packet (packet.Repeated number s.links.next)) (with_links s o.after) in
    dropped_heard (setting_of h) f o.sent.dropped t (still (setting_of h) f s.nodes (Told (entry.Packet (packet.Repeated number s.links.next))) s.moments (λ k m. refl) (record { view = tt; alone = tt }) all)
happening_heard h f s (Commands n d k now ends) fits may a spelled tells all =
    let c : Cluster = first_cluster h in
    let o : Option Device = slice_get s.devices (d - 1) in
    let b : HeardIn (setting_of h) f (commanded s n d k).scene = commanded_heard (setting_of h) f s n d o k all in
    taking_heard (setting_of h) f c (commanded s n d k).scene n now ends (input.Answered (commanded s n d k).answer) may.0.0 may.0.1 fits (commanded_knows c s n d o k (known c s a)) b.so
    (answer_ready (setting_of h) f c n ((commanded s n d k).scene.nodes.node n) (commanded s n d k).answer (commanded s n d k).scene.moments (b.nodes n)) (λ j ne. b.nodes j)
happening_heard h f s (Writes n d value now ends) fits may a spelled tells all =
    let c : Cluster = first_cluster h in
    let o : Option Device = slice_get s.devices (d - 1) in
    let z : Commanded = commanded s n d (command.Write value) in
    let b : HeardIn (setting_of h) f z.scene = commanded_heard (setting_of h) f s n d o (command.Write value) all in
    taking_heard (setting_of h) f c z.scene n now ends (input.Wrote d value z.answer) may.0.0 may.0.1 fits (commanded_knows c s n d o (command.Write value) (known c s a)) b.so
    (wrote_ready (setting_of h) f c n (z.scene.nodes.node n) d value z.answer z.scene.moments (b.nodes n)) (λ j ne. b.nodes j)
happening_heard h f s (Refuses n d value cause) fits may a spelled tells all =
    still (setting_of h) f s.nodes (Told (entry.Device (device.Refused n d value cause))) s.moments (λ k m. refl) (record { view = tt; alone = tt }) all

-- ---- runs

first_heard : (h : Header) (cells : ℕ) (f : Account) → HeardIn (setting_of h) f (first_scene h cells)
unfolding first_scene
first_heard h cells f = record { so = tt; nodes = λ k. tt }

run_on : (h : Header) (cells : ℕ) (f : Account) (s : Scene) (hs : List Happening) → IsSmall h → IsReached h cells s → (let c : Cluster = first_cluster h in MayAllHappen c s hs → IsAccountOf c s hs f → HeardIn (setting_of h) f s
    → HeardIn (setting_of h) f (all_happened c s hs))
run_on h cells f s [] size at may tells all = all
run_on h cells f s (x ∷ hs) size at may tells all =
    let c : Cluster = first_cluster h in
    run_on h cells f (happened c s x) hs size (reached_more c (first_scene h cells) s x at may.0) may.1 tells.1
    (happening_heard h f s x (first_fit h size.few) may.0 (known_scene h cells s size at) (spelled_scene h cells s size at) tells.0 all)

-- ---- the laws

each : (P Q : List Moment → Moment → Type 0) (ms : List Moment) → ((before : List Moment) (x : Moment) → P before x → Q before x) → Always P ms → Always Q ms
each P Q [] f h = tt
each P Q (x ∷ before) f h = (f before x h.0, each P Q before f h.1)

run_views : (h : Header) (cells : ℕ) (hs : List Happening) (f : Account) → length h.devices ≤ most_devices → h.cluster < 2 ^ 32 → MayAllHappen (first_cluster h) (first_scene h cells) hs
    → IsAccountOf (first_cluster h) (first_scene h cells) hs f → AllViews (setting_of h) f (all_happened (first_cluster h) (first_scene h cells) hs).moments
run_views h cells hs f few small may tells =
    (run_on h cells f (first_scene h cells) hs (record { few = few; small = small }) (record { happenings = []; may = tt; is = refl }) may tells (first_heard h cells f)).so

pub each_run_has_an_account : EachRunHasAnAccount
each_run_has_an_account h cells hs = record { foreign = account_of (first_cluster h) (first_scene h cells) hs; right = is_account (first_cluster h) (first_scene h cells) hs }

pub views_in_each_run : ViewsOfEachRun
views_in_each_run h cells hs f few small may tells =
    each (Judged (setting_of h) f) (ViewIs (setting_of h) f) (all_happened (first_cluster h) (first_scene h cells) hs).moments (λ before x j. j.view) (run_views h cells hs f few small may tells)

pub plain_views_where_none_is_foreign : PlainViewsWhereNoneIsForeign
plain_views_where_none_is_foreign h cells hs few small may none =
    all_plain (setting_of h) (all_happened (first_cluster h) (first_scene h cells) hs).moments (views_in_each_run h cells hs (λ before. false) few small may none)

pub none_begins_alone_in_each_run : NoneBeginsAloneInEachRun
none_begins_alone_in_each_run h cells hs few small may =
    let f : Account = account_of (first_cluster h) (first_scene h cells) hs in
    each (Judged (setting_of h) f) (BeginsNotAlone (setting_of h)) (all_happened (first_cluster h) (first_scene h cells) hs).moments (λ before x j. j.alone)
    (run_views h cells hs f few small may (is_account (first_cluster h) (first_scene h cells) hs))
