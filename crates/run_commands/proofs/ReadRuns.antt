-- Each thing that happens keeps it that answers are explained; so does each run.
use Rattle.std.specs.Prelude.{ℕ, ◌-◌, ◌≡◌, ◌≢◌, ◌≤◌, ◌⊎◌, false, List, [], ◌∷◌, Option, None, Some, slice_get}
use Rattle.std.specs.List.{AllByRecursion}
use Rattle.std.proofs.Common.{sym, subst, inl, inr}
use Rattle.cl_base.specs.declared.header.Header.{Header}
use Rattle.cl_base.specs.declared.header.Version.{Version}
use Rattle.cl_base.specs.declared.method.Outcome as method
use Rattle.cl_base.specs.declared.packet.DropCause.{DropCause}
use Rattle.cl_base.specs.declared.packet.DropCause.TheVariants as drop
use Rattle.history.specs.Letters.{arrived}
use Rattle.history.specs.Member.{in_collect}
use Rattle.history.specs.Moment.{Moment, Part, Said, Told}
use Rattle.history.specs.Setting.{Setting}
use Rattle.history.specs.Trace.{gives}
use Rattle.history_setting.specs.Settings.{setting_of}
use Rattle.interconnect.specs.Links as links
use Rattle.interconnect.specs.Links.{sending}
use Rattle.machine_base.specs.Put.{put}
use Rattle.membership_machine.specs.State.{Memberships}
use Rattle.cmm_member.specs.Records.{NodeRecord}
use Rattle.machine_base.proofs.Puts.{put_here, put_there, same_or_not}
use Rattle.node_model.specs.Seats.{version_of}
use Rattle.node_model.specs.Steps.{Outcome, stepped}
use Rattle.node_model.specs.declared.cluster.Cluster.{Cluster}
use Rattle.node_model.specs.declared.input.Input.{Input}
use Rattle.node_model.specs.declared.input.Input.TheVariants as input
use Rattle.node_model.specs.declared.node.Node.{Node}
use Rattle.node_model.specs.declared.node.Node.TheVariants.{Down, Up}
use Rattle.node_model.specs.declared.output.Output.{Output}
use Rattle.node_model.specs.declared.output.Output.TheVariants.{Sends, Tells}
use Rattle.pgr_device.specs.Device.{Device}
use Rattle.pgr_device.specs.declared.command.PrCommand.{PrCommand}
use Rattle.pgr_device.specs.declared.command.PrCommand.TheVariants as command
use Rattle.record_disk.specs.Disks.{DiskState}
use Rattle.refinement.proofs.Disks.{disks_keep_rules}
use Rattle.refinement.proofs.Replies.{steps_are_cut}
use Rattle.refinement.specs.Cuts.{doings}
use Rattle.refinement.specs.Doings.{Doing, Site, after_all, given_all, site}
use Rattle.refinement.specs.Runs.{IsAmong, Letter, Nodes, letters_of, moved}
use Rattle.refinement.specs.Runs.Move.{Takes as Takes_in}
use Rattle.refinement.specs.Steps.{IsCut, disk_rules}
use Rattle.refinement.specs.Ties.{NodeTied}
use Rattle.schedule_text.specs.declared.event.Event.{Event}
use Rattle.schedule_text.specs.declared.event.Event.TheVariants as event
use Rattle.schedule_text.specs.declared.line.Line.TheVariants as line
use Rattle.status_report.specs.declared.device_entry.DeviceEntry.TheVariants as device
use Rattle.status_report.specs.declared.entry.Entry.TheVariants as entry
use Rattle.status_report.specs.declared.packet_entry.PacketEntry.TheVariants as packet
use Rattle.wire.specs.declared.message.Body.{Body}
use Rattle.world_model.specs.First.{first_cluster}
use Rattle.run_history.proofs.Idle.{passing_nodes}
use Rattle.run_history.proofs.Lists.{both}
use Rattle.run_history.specs.Happenings.{Arrives, Begins, Commands, Happening, IsPlain, IsSaid, Loses, MayAllHappen, MayHappen, Misses, Notes, Refuses, Repeats, Speaks, Strays, Takes, Writes, all_happened, armed_by, commanded, commanded_at, given_by, happened, removed, taking}
use Rattle.run_history.specs.Scenes.{Scene, adding, dropped_so, first_scene, passing, telling, with_links}
use Rattle.run_history.specs.Stages.{Stage}
use Rattle.run_messages.proofs.Collecting.{arrival_collects, nothing_collects}
use Rattle.run_messages.proofs.Reaching.{IsReached, IsSmall, holds_of_each, stage_of}
use Rattle.run_messages.proofs.Runs.{memberships_of_each_run}
use Rattle.run_messages.specs.Laws.{AreSeated, IsSeated}
use Rattle.run_commands.proofs.carried.Causes.{president_at}
use Rattle.run_commands.specs.Answers.{AreReasoned}
use Rattle.run_commands.specs.Reads.{BodySo, CameSo, collects}
use Rattle.run_commands.proofs.Explained.{SendsSo}
use Rattle.run_commands.proofs.Fitting.{cause_fits}
use Rattle.run_commands.proofs.Hearing.{IsNoCommand}
use Rattle.run_commands.proofs.Presiding.{NodePresides}
use Rattle.run_commands.proofs.PresidingRuns.{PresideIn, presiding_in_each}
use Rattle.run_commands.proofs.ReadSteps.{CommandFits, read_step}
use Rattle.run_commands.proofs.Runs.{FewLines, NodeFits, WaitsIn, few_before, waits_in_each}
use Rattle.run_commands.proofs.ReadWalk.{Ends_so, NodeReads}

abbrev LetterSo : Letter → Type 0
LetterSo l = BodySo l.body

-- what each node keeps is read, and each Answer that was ever sent is a president's
record Told_so (S : Setting) (v : Version) (w : Nodes) (ms : List Moment) : Type 0 where
  nodes : (k : ℕ) → NodeReads v (w.node k)
  sent : AllByRecursion LetterSo w.sent
  explained : AreReasoned S ms

abbrev ToldIn : Setting → Version → Scene → Type 0
ToldIn S v s = Told_so S v s.nodes s.moments

moment_told : (S : Setting) (v : Version) (w : Nodes) (m : Moment) (ms : List Moment) → AreReasoned S (m ∷ ms) → Told_so S v w ms → Told_so S v w (m ∷ ms)
moment_told S v w m ms explained h = record { nodes = h.nodes; sent = h.sent; explained = explained }

-- ---- a node that takes something

letters_so : (n : ℕ) (os : List Output) → AllByRecursion SendsSo os → AllByRecursion LetterSo (letters_of n os)
letters_so n [] h = tt
letters_so n (Tells e ∷ os) h = letters_so n os h.1
letters_so n (Sends to b ∷ os) h = (h.0, letters_so n os h.1)

step_so : (S : Setting) (c : Cluster) (w : Nodes) (n now : ℕ) (ends : method.Outcome) (i : Input) (s : Scene) → n ≤ 32 → CameSo i → NodeReads (version_of c) (w.node n) → AreReasoned S s.moments
    → in_collect n s.moments ≡ collects i → CommandFits S (version_of c) n (w.node n) s.moments i → (let o : Outcome DiskState = stepped disk_rules c n now ends (w.node n) (w.disk n) i in Ends_so S n (version_of c) o.after o.given s)
step_so S c w n now ends i s low came reads explained at fits =
    let o : Outcome DiskState = stepped disk_rules c n now ends (w.node n) (w.disk n) i in
    let k : IsCut disk_rules c n now ends (w.node n) (w.disk n) i [] o = steps_are_cut disk_rules disks_keep_rules c n now ends (w.node n) (w.disk n) i in
    let x : Site = site (w.node n) (w.disk n).kept in
    let ds : List Doing = doings c n now ends k.replies i (w.node n) in
    let g : Ends_so S n (version_of c) (after_all c n x ds).node (given_all c n x ds) s = read_step S c n now ends i k.replies (w.node n) (w.disk n).kept s low came reads explained at fits in
    subst (λ (z : Site). Ends_so S n (version_of c) z.node o.given s) k.comes.left (subst (λ os. Ends_so S n (version_of c) (after_all c n x ds).node os s) k.comes.given g)

put_all : (P : Node → Type 0) (f : ℕ → Node) (n : ℕ) (x : Node) → P x → ((k : ℕ) → P (f k)) → (k : ℕ) → P (put f n x k)
put_all P f n x here others k = go (same_or_not k n)
  where
    go : (k ≡ n) ⊎ (k ≢ n) → P (put f n x k)
    go (inl e) = subst (λ j. P (put f n x j)) (sym e) (subst P (sym (put_here f n x)) here)
    go (inr ne) = subst P (sym (put_there f n x k ne)) (others k)

taking_told : (S : Setting) (c : Cluster) (s : Scene) (n now : ℕ) (ends : method.Outcome) (i : Input) → n ≤ 32 → CameSo i → in_collect n s.moments ≡ collects i → CommandFits S (version_of c) n (s.nodes.node n) s.moments i → ToldIn S (version_of c) s
    → ToldIn S (version_of c) (taking c n now ends i s)
taking_told S c s n now ends i low came at fits h =
    let w : Nodes = moved c s.nodes (Takes_in n now ends i) in
    let t : Scene = record s { nodes = w } in
    let os : List Output = given_by c n now ends i s.nodes in
    let after : Node = (stepped disk_rules c n now ends (s.nodes.node n) (s.nodes.disk n) i).after in
    let g : Ends_so S n (version_of c) after os t = step_so S c s.nodes n now ends i t low came (h.nodes n) h.explained at fits in
    subst (λ z. Told_so S (version_of c) z (passing n os t).moments) (sym (passing_nodes n os t)) (record {
      nodes = put_all (NodeReads (version_of c)) s.nodes.node n after g.reads h.nodes;
      sent = both LetterSo (letters_of n os) s.nodes.sent (letters_so n os g.sends) h.sent;
      explained = g.explained;
    })

-- ---- what comes

among_so : (from : ℕ) (b : Body) (ls : List Letter) → IsAmong from b ls → AllByRecursion LetterSo ls → BodySo b
among_so from b [] h all = absurd h
among_so from b (l ∷ ls) (inl e) all = subst BodySo e.1 all.0
among_so from b (l ∷ ls) (inr h) all = among_so from b ls h all.1

plain_came : (i : Input) → IsPlain i → CameSo i
plain_came (input.Packet from m) plain = absurd plain
plain_came _ plain = tt

plain_collects : (n : ℕ) (ms : List Moment) (i : Input) → IsPlain i → arrived ms ≡ None → in_collect n ms ≡ collects i
plain_collects n ms (input.Packet from m) plain h = absurd plain
plain_collects n ms _ plain h = nothing_collects n ms h

commanded_collects : (s : Scene) (n d j : ℕ) (o : Option Device) (k : PrCommand) → arrived s.moments ≡ None → in_collect j (commanded_at s n d o k).scene.moments ≡ false
commanded_collects s n d j None k h = nothing_collects j s.moments h
commanded_collects s n d j (Some x) k h = nothing_collects j s.moments h

-- ---- a command

-- what a node may answer by itself to a command that comes fits it
abbrev HappeningFits : Setting → Cluster → Scene → Happening → Type 0
HappeningFits S c s (Takes n now ends i) = CommandFits S (version_of c) n (s.nodes.node n) s.moments i
HappeningFits S c s x = Unit {0}

-- what else comes is no command
none_commanded : (S : Setting) (v : Version) (n : ℕ) (node : Node) (ms : List Moment) (i : Input) → IsNoCommand i → CommandFits S v n node ms i
none_commanded S v n Down ms i none = tt
none_commanded S v n (Up x) ms (input.Commanded words) none = absurd none
none_commanded S v n (Up x) ms _ none = tt

-- ---- each thing that happens

armed_told : (S : Setting) (v : Version) (c : Cluster) (e : Event) (s : Scene) → ToldIn S v s → ToldIn S v (armed_by c e s)
armed_told S v c (event.Fault n d done) s h = record { nodes = h.nodes; sent = h.sent; explained = h.explained }
armed_told S v c (event.CrashAt n calls choice) s h = record { nodes = h.nodes; sent = h.sent; explained = h.explained }
armed_told S v c _ s h = h

commanded_told : (S : Setting) (v : Version) (s : Scene) (n d : ℕ) (o : Option Device) (k : PrCommand) → ToldIn S v s → ToldIn S v (commanded_at s n d o k).scene
commanded_told S v s n d None k h = h
commanded_told S v s n d (Some x) k h = record { nodes = h.nodes; sent = h.sent; explained = h.explained }

dropped_told : (S : Setting) (v : Version) (o : Option (ℕ × DropCause)) (s : Scene) → ToldIn S v s → ToldIn S v (dropped_so o s)
dropped_told S v None s h = h
dropped_told S v (Some drop) s h = moment_told S v s.nodes (Told (entry.Packet (packet.Dropped drop.0 drop.1))) s.moments ((tt, tt), h.explained) h

happening_told : (S : Setting) (c : Cluster) (s : Scene) (x : Happening) → MayHappen c s x → Stage c s → HappeningFits S c s x → ToldIn S (version_of c) s → ToldIn S (version_of c) (happened c s x)
happening_told S c s (Speaks e) may b fits h = armed_told S (version_of c) c e (adding (Said (line.Event e)) s) (moment_told S (version_of c) s.nodes (Said (line.Event e)) s.moments ((tt, tt), h.explained) h)
happening_told S c s (Begins e) may b fits h = moment_told S (version_of c) s.nodes (Part e) s.moments ((tt, tt), h.explained) h
happening_told S c s (Notes e) may b fits h = moment_told S (version_of c) s.nodes (Told (entry.Schedule e)) s.moments ((tt, tt), h.explained) h
happening_told S c s (Takes n now ends i) may b fits h = taking_told S c s n now ends i may.0.1 (plain_came i may.1) (plain_collects n s.moments i may.1 may.3) fits h
happening_told S c s (Arrives number x m now ends) may b fits h =
    taking_told S c (telling (entry.Packet (packet.Delivered number x.from x.to)) (removed s number)) x.to now ends (input.Packet x.from m) may.3.1 (among_so x.from m.body s.nodes.sent may.4 h.sent)
    (arrival_collects c s number x m may.0 may.1 b) (none_commanded S (version_of c) x.to (s.nodes.node x.to) _ (input.Packet x.from m) tt)
    (moment_told S (version_of c) s.nodes (Told (entry.Packet (packet.Delivered number x.from x.to))) s.moments ((tt, tt), h.explained) h)
happening_told S c s (Strays number x) may b fits h = moment_told S (version_of c) s.nodes (Told (entry.Packet (packet.Delivered number x.from x.to))) s.moments ((tt, tt), h.explained) h
happening_told S c s (Misses number x) may b fits h = moment_told S (version_of c) s.nodes (Told (entry.Packet (packet.Dropped number drop.Down))) s.moments ((tt, tt), h.explained) h
happening_told S c s (Loses number x) may b fits h = moment_told S (version_of c) s.nodes (Told (entry.Packet (packet.Lost number))) s.moments ((tt, tt), h.explained) h
happening_told S c s (Repeats number x) may b fits h =
    let o : links.Outcome = sending s.links x.from x.to x.bytes in
    dropped_told S (version_of c) o.sent.dropped (telling (entry.Packet (packet.Repeated number s.links.next)) (with_links s o.after))
    (moment_told S (version_of c) s.nodes (Told (entry.Packet (packet.Repeated number s.links.next))) s.moments ((tt, tt), h.explained) h)
happening_told S c s (Commands n d k now ends) may b fits h =
    let o : Option Device = slice_get s.devices (d - 1) in
    taking_told S c (commanded s n d k).scene n now ends (input.Answered (commanded s n d k).answer) may.0.1 tt (commanded_collects s n d n o k may.4) (none_commanded S (version_of c) n _ _ (input.Answered _) tt) (commanded_told S (version_of c) s n d o k h)
happening_told S c s (Writes n d value now ends) may b fits h =
    let o : Option Device = slice_get s.devices (d - 1) in
    let k : PrCommand = command.Write value in
    taking_told S c (commanded s n d k).scene n now ends (input.Wrote d value (commanded s n d k).answer) may.0.1 tt (commanded_collects s n d n o k may.3) (none_commanded S (version_of c) n _ _ (input.Wrote d value _) tt) (commanded_told S (version_of c) s n d o k h)
happening_told S c s (Refuses n d value cause) may b fits h = moment_told S (version_of c) s.nodes (Told (entry.Device (device.Refused n d value cause))) s.moments ((tt, tt), h.explained) h

-- ---- a run

first_told : (S : Setting) (v : Version) (h : Header) (cells : ℕ) → ToldIn S v (first_scene h cells)
unfolding first_scene
first_told S v h cells = record { nodes = λ k. tt; sent = tt; explained = tt }

-- what is known of a scene that a run comes to, with few lines
record Known_at (h : Header) (s : Scene) : Type 0 where
  waits : WaitsIn s
  seated : AreSeated s
  preside : PresideIn s

known_at : (h : Header) (cells : ℕ) (s : Scene) → IsSmall h → FewLines s.moments → IsReached h cells s → Known_at h s
known_at h cells s size few r =
    let end : Scene = all_happened (first_cluster h) (first_scene h cells) r.happenings in
    subst (λ z. Known_at h z) r.is (record {
      waits = waits_in_each h cells r.happenings size r.may (subst (λ (z : Scene). FewLines z.moments) (sym r.is) few);
      seated = memberships_of_each_run h cells r.happenings size.few size.small r.may;
      preside = presiding_in_each h cells r.happenings size r.may;
    })

-- the command that comes to a node
up_fits : (h : Header) (s : Scene) (n : ℕ) (words : List ℕ) (node : Node) (M : Memberships) (disk : NodeRecord) → slice_get s.moments 0 ≡ Some (gives n words) → IsSeated s.moments n node
    → NodeFits n s.moments node → NodePresides n node → NodeTied (first_cluster h) M n disk node → CommandFits (setting_of h) (version_of (first_cluster h)) n node s.moments (input.Commanded words)
up_fits h s n words Down M disk first seated fits preside tied = tt
up_fits h s n words (Up x) M disk first seated fits preside tied =
    λ reply cause. cause_fits h n x.requests.asked words s.moments x reply first seated fits.0 preside (president_at M n x tied.1) cause

takes_fits : (h : Header) (s : Scene) (n : ℕ) (i : Input) → IsSaid s.moments n i → Stage (first_cluster h) s → Known_at h s
    → CommandFits (setting_of h) (version_of (first_cluster h)) n (s.nodes.node n) s.moments i
takes_fits h s n (input.Commanded words) said b k =
    up_fits h s n words (s.nodes.node n) b.machine (s.nodes.disk n).kept said (k.seated n) (k.waits.nodes n) (k.preside n) (b.stands n).tied
takes_fits h s n input.Boot said b k = none_commanded (setting_of h) (version_of (first_cluster h)) n (s.nodes.node n) s.moments input.Boot tt
takes_fits h s n input.Crash said b k = none_commanded (setting_of h) (version_of (first_cluster h)) n (s.nodes.node n) s.moments input.Crash tt
takes_fits h s n input.Tick said b k = none_commanded (setting_of h) (version_of (first_cluster h)) n (s.nodes.node n) s.moments input.Tick tt
takes_fits h s n (input.Packet from m) said b k = none_commanded (setting_of h) (version_of (first_cluster h)) n (s.nodes.node n) s.moments (input.Packet from m) tt
takes_fits h s n input.CommandDue said b k = none_commanded (setting_of h) (version_of (first_cluster h)) n (s.nodes.node n) s.moments input.CommandDue tt
takes_fits h s n (input.Answered a) said b k = none_commanded (setting_of h) (version_of (first_cluster h)) n (s.nodes.node n) s.moments (input.Answered a) tt
takes_fits h s n (input.Wrote d value a) said b k = none_commanded (setting_of h) (version_of (first_cluster h)) n (s.nodes.node n) s.moments (input.Wrote d value a) tt
takes_fits h s n (input.Reported r good) said b k = none_commanded (setting_of h) (version_of (first_cluster h)) n (s.nodes.node n) s.moments (input.Reported r good) tt
takes_fits h s n (input.Client name client port) said b k = none_commanded (setting_of h) (version_of (first_cluster h)) n (s.nodes.node n) s.moments (input.Client name client port) tt

happening_fits : (h : Header) (s : Scene) (x : Happening) → MayHappen (first_cluster h) s x → Stage (first_cluster h) s → Known_at h s → HappeningFits (setting_of h) (first_cluster h) s x
happening_fits h s (Takes n now ends i) may b k = takes_fits h s n i may.4 b k
happening_fits h s _ may b k = tt

abbrev KeepsReasons : Header → Scene → Type 0
KeepsReasons h s = FewLines s.moments → ToldIn (setting_of h) (version_of (first_cluster h)) s

reasons_kept : (h : Header) (cells : ℕ) → IsSmall h → (s : Scene) (x : Happening) → MayHappen (first_cluster h) s x → IsReached h cells s → KeepsReasons h s → KeepsReasons h (happened (first_cluster h) s x)
reasons_kept h cells size s x may at keeps few =
    let before : FewLines s.moments = few_before (first_cluster h) s x few in
    let b : Stage (first_cluster h) s = stage_of h cells s size at in
    happening_told (setting_of h) (first_cluster h) s x may b (happening_fits h s x may b (known_at h cells s size before at)) (keeps before)

told_in_each : (h : Header) (cells : ℕ) (hs : List Happening) → IsSmall h → MayAllHappen (first_cluster h) (first_scene h cells) hs → KeepsReasons h (all_happened (first_cluster h) (first_scene h cells) hs)
told_in_each h cells hs size may =
    holds_of_each h cells (KeepsReasons h) (λ s x now at more keeps. reasons_kept h cells size s x now at keeps) (λ first. first_told (setting_of h) (version_of (first_cluster h)) h cells) hs may

-- what each node keeps is read
pub reads_in_each : (h : Header) (cells : ℕ) (hs : List Happening) → IsSmall h → MayAllHappen (first_cluster h) (first_scene h cells) hs
    → FewLines (all_happened (first_cluster h) (first_scene h cells) hs).moments → (k : ℕ) → NodeReads (version_of (first_cluster h)) ((all_happened (first_cluster h) (first_scene h cells) hs).nodes.node k)
reads_in_each h cells hs size may few = (told_in_each h cells hs size may few).nodes

pub reasons_in_each : (h : Header) (cells : ℕ) (hs : List Happening) → IsSmall h → MayAllHappen (first_cluster h) (first_scene h cells) hs
    → FewLines (all_happened (first_cluster h) (first_scene h cells) hs).moments → AreReasoned (setting_of h) (all_happened (first_cluster h) (first_scene h cells) hs).moments
reasons_in_each h cells hs size may few = (told_in_each h cells hs size may few).explained
