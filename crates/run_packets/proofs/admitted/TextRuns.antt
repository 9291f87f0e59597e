-- In each run no Request that comes is foreign.
use Rattle.std.specs.Prelude.{ℕ, ◌-◌, ◌≡◌, ◌≢◌, ◌⊎◌, ◌≤◌, ◌++◌, not, List, [], ◌∷◌, Option, None, Some, slice_get}
use Rattle.std.specs.List.{AllByRecursion}
use Rattle.std.proofs.Common.{refl, sym, ap, subst, inl, inr}
use Rattle.cl_base.specs.declared.header.Header.{Header}
use Rattle.cl_base.specs.declared.header.Version.{Version}
use Rattle.cl_base.specs.declared.method.Outcome as method
use Rattle.cl_base.specs.declared.packet.DropCause.{DropCause}
use Rattle.cmm_attempt.proofs.Basics.{false_true}
use Rattle.history.specs.Moment.{Said}
use Rattle.interconnect.specs.Links as links
use Rattle.interconnect.specs.Links.{sending}
use Rattle.machine_base.proofs.Puts.{put_here, put_there, same_or_not}
use Rattle.machine_base.specs.Put.{put}
use Rattle.node_model.specs.Seats.{version_of}
use Rattle.node_model.specs.Steps.{Outcome, stepped}
use Rattle.node_model.specs.declared.cluster.Cluster.{Cluster}
use Rattle.node_model.specs.declared.input.Input.{Input}
use Rattle.node_model.specs.declared.input.Input.TheVariants as input
use Rattle.node_model.specs.declared.node.Node.{Node}
use Rattle.node_model.specs.declared.node.Node.TheVariants.{Down, Up}
use Rattle.node_model.specs.declared.output.Output.{Output}
use Rattle.node_model.specs.declared.output.Output.TheVariants.{Sends, Tells}
use Rattle.pgr_device.specs.Device.{Device}
use Rattle.pgr_device.specs.declared.command.PrCommand.{PrCommand}
use Rattle.pgr_device.specs.declared.command.PrCommand.TheVariants as command
use Rattle.record_disk.specs.Disks.{DiskState}
use Rattle.refinement.proofs.Disks.{disks_keep_rules}
use Rattle.refinement.proofs.Replies.{steps_are_cut}
use Rattle.refinement.specs.Cuts.{doings}
use Rattle.refinement.specs.Doings.{Doing, Site, after_all, given_all}
use Rattle.refinement.specs.Runs.{IsAmong, Letter, Nodes, letters_of, moved}
use Rattle.refinement.specs.Runs.Move.{Takes as Takes_in}
use Rattle.refinement.specs.Steps.{IsCut, disk_rules}
use Rattle.run_commands.specs.Reads.{BodySo, CameSo}
use Rattle.run_history.proofs.Idle.{passing_nodes}
use Rattle.run_history.specs.Happenings.{Arrives, Begins, Commanded, Commands, Happening, IsPlain, Loses, MayAllHappen, MayHappen, Misses, Notes, Refuses, Repeats, Speaks, Strays, Takes, Writes, armed_by, commanded, commanded_at, given_by, happened, removed, taking}
use Rattle.run_history.specs.Scenes.{Scene, adding, dropped_so, first_scene, telling, with_links}
use Rattle.run_history.specs.Stages.{site_of}
use Rattle.schedule_text.specs.declared.event.Event.{Event}
use Rattle.schedule_text.specs.declared.event.Event.TheVariants as event
use Rattle.schedule_text.specs.declared.line.Line.TheVariants as line
use Rattle.status_report.specs.declared.entry.Entry.TheVariants as entry
use Rattle.status_report.specs.declared.packet_entry.PacketEntry.TheVariants as packet
use Rattle.wire.specs.declared.message.Body.{Body}
use Rattle.wire.specs.declared.message.Body.TheVariants as body
use Rattle.world_model.specs.First.{first_cluster}
use Rattle.run_packets.specs.native.Laws.{AllComeSo, ComesSo}
use Rattle.run_packets.specs.admitted.Laws.{IsNativeAs, RequestsAreNative, is_request}
use Rattle.run_packets.specs.admitted.Texts.{AllTexts, BodyTexts, LeavesTexts, LetterTexts, NodeReads, RunTexts}
use Rattle.run_packets.proofs.admitted.Texts.{step_texts}

abbrev SceneTexts : Version → Scene → Type 0
SceneTexts v s = RunTexts v s.nodes

-- ---- a step

abbrev AreTexts : Version → List Letter → Type 0
AreTexts v letters = AllByRecursion (LetterTexts v) letters

letters_texts : (v : Version) (n : ℕ) (os : List Output) (old : List Letter) → AllTexts v os → AreTexts v old → AreTexts v (letters_of n os ++ old)
letters_texts v n [] old texts h = h
letters_texts v n (Tells e ∷ os) old texts h = letters_texts v n os old texts.1 h
letters_texts v n (Sends to b ∷ os) old texts h = (texts.0, letters_texts v n os old texts.1 h)

among_texts : (v : Version) (from : ℕ) (b : Body) (letters : List Letter) → IsAmong from b letters → AreTexts v letters → BodyTexts v b
among_texts v from b [] among h = absurd among
among_texts v from b (l ∷ letters) (inl here) h = subst (BodyTexts v) here.1 h.0
among_texts v from b (l ∷ letters) (inr there) h = among_texts v from b letters there h.1

put_node : (v : Version) (f : ℕ → Node) (n : ℕ) (x : Node) → NodeReads v x → ((k : ℕ) → NodeReads v (f k)) → (k : ℕ) → NodeReads v (put f n x k)
put_node v f n x here others k = go (same_or_not k n)
  where
    go : (k ≡ n) ⊎ (k ≢ n) → NodeReads v (put f n x k)
    go (inl e) = subst (λ j. NodeReads v (put f n x j)) (sym e) (subst (NodeReads v) (sym (put_here f n x)) here)
    go (inr ne) = subst (NodeReads v) (sym (put_there f n x k ne)) (others k)

move_texts : (c : Cluster) (w : Nodes) (n now : ℕ) (ends : method.Outcome) (i : Input) → n ≤ 32 → CameSo i → RunTexts (version_of c) w → RunTexts (version_of c) (moved c w (Takes_in n now ends i))
move_texts c w n now ends i low came k =
    let o : Outcome DiskState = stepped disk_rules c n now ends (w.node n) (w.disk n) i in
    let cut : IsCut disk_rules c n now ends (w.node n) (w.disk n) i [] o = steps_are_cut disk_rules disks_keep_rules c n now ends (w.node n) (w.disk n) i in
    let x : Site = site_of w n in
    let ds : List Doing = doings c n now ends cut.replies i (w.node n) in
    let l : LeavesTexts (version_of c) (after_all c n x ds).node (given_all c n x ds) = step_texts c n now ends i cut.replies (w.node n) (w.disk n).kept low came (k.nodes n) in
    record {
      nodes = put_node (version_of c) w.node n o.after (subst (λ (z : Site). NodeReads (version_of c) z.node) cut.comes.left l.reads) k.nodes;
      sent = subst (λ os. AreTexts (version_of c) (letters_of n os ++ w.sent)) cut.comes.given (letters_texts (version_of c) n (given_all c n x ds) w.sent l.texts k.sent);
    }

taking_texts : (c : Cluster) (s : Scene) (n now : ℕ) (ends : method.Outcome) (i : Input) → n ≤ 32 → CameSo i → SceneTexts (version_of c) s → SceneTexts (version_of c) (taking c n now ends i s)
taking_texts c s n now ends i low came k =
    subst (RunTexts (version_of c)) (sym (passing_nodes n (given_by c n now ends i s.nodes) _)) (move_texts c s.nodes n now ends i low came k)

-- ---- each thing that happens

armed_texts : (v : Version) (c : Cluster) (e : Event) (s : Scene) → SceneTexts v s → SceneTexts v (armed_by c e s)
armed_texts v c (event.CrashAt n calls choice) s k = record { nodes = k.nodes; sent = k.sent }
armed_texts v c _ s k = k

dropped_texts : (v : Version) (o : Option (ℕ × DropCause)) (s : Scene) → SceneTexts v s → SceneTexts v (dropped_so o s)
dropped_texts v None s k = k
dropped_texts v (Some drop) s k = k

commanded_nodes : (s : Scene) (n d : ℕ) (o : Option Device) (k : PrCommand) → (commanded_at s n d o k).scene.nodes ≡ s.nodes
commanded_nodes s n d None k = refl
commanded_nodes s n d (Some x) k = refl

plain_came : (i : Input) → IsPlain i → CameSo i
plain_came (input.Packet from m) plain = absurd plain
plain_came _ plain = tt

came_so : (v : Version) (b : Body) → BodyTexts v b → BodySo b
came_so v (body.Answer e q text) h = h
came_so v _ h = tt

happening_texts : (c : Cluster) (s : Scene) (x : Happening) → MayHappen c s x → SceneTexts (version_of c) s → SceneTexts (version_of c) (happened c s x)
happening_texts c s (Speaks e) may k = armed_texts (version_of c) c e (adding (Said (line.Event e)) s) k
happening_texts c s (Begins e) may k = k
happening_texts c s (Notes e) may k = k
happening_texts c s (Takes n now ends i) may k = taking_texts c s n now ends i may.0.1 (plain_came i may.1) k
happening_texts c s (Arrives number x m now ends) may k =
    taking_texts c (telling (entry.Packet (packet.Delivered number x.from x.to)) (removed s number)) x.to now ends (input.Packet x.from m) may.3.1
    (came_so (version_of c) m.body (among_texts (version_of c) x.from m.body s.nodes.sent may.4 k.sent)) k
happening_texts c s (Strays number x) may k = k
happening_texts c s (Misses number x) may k = k
happening_texts c s (Loses number x) may k = k
happening_texts c s (Repeats number x) may k =
    let o : links.Outcome = sending s.links x.from x.to x.bytes in
    dropped_texts (version_of c) o.sent.dropped (telling (entry.Packet (packet.Repeated number s.links.next)) (with_links s o.after)) k
happening_texts c s (Commands n d q now ends) may k =
    let o : Commanded = commanded s n d q in
    taking_texts c o.scene n now ends (input.Answered o.answer) may.0.1 tt (subst (RunTexts (version_of c)) (sym (commanded_nodes s n d (slice_get s.devices (d - 1)) q)) k)
happening_texts c s (Writes n d value now ends) may k =
    let o : Commanded = commanded s n d (command.Write value) in
    taking_texts c o.scene n now ends (input.Wrote d value o.answer) may.0.1 tt (subst (RunTexts (version_of c)) (sym (commanded_nodes s n d (slice_get s.devices (d - 1)) (command.Write value))) k)
happening_texts c s (Refuses n d value cause) may k = k

-- ---- what comes

request_native : (c : Cluster) (n : ℕ) (node : Node) (b : Body) → BodyTexts (version_of c) b → IsNativeAs is_request c n node b
request_native c n Down b h is = refl
request_native c n (Up x) (body.Request e q text) h is = ap not h
request_native c n (Up x) _ h is = absurd (false_true is)

comes_so : (c : Cluster) (s : Scene) (x : Happening) → MayHappen c s x → SceneTexts (version_of c) s → ComesSo (IsNativeAs is_request) c s x
comes_so c s (Arrives number x m now ends) may k = request_native c x.to (s.nodes.node x.to) m.body (among_texts (version_of c) x.from m.body s.nodes.sent may.4 k.sent)
comes_so c s _ may k = tt

-- ---- runs

run_on : (c : Cluster) (s : Scene) (hs : List Happening) → MayAllHappen c s hs → SceneTexts (version_of c) s → AllComeSo (IsNativeAs is_request) c s hs
run_on c s [] may k = tt
run_on c s (x ∷ hs) may k = (comes_so c s x may.0 k, run_on c (happened c s x) hs may.1 (happening_texts c s x may.0 k))

first_texts : (h : Header) (cells : ℕ) → SceneTexts (version_of (first_cluster h)) (first_scene h cells)
unfolding first_scene
first_texts h cells = record { nodes = λ k. tt; sent = tt }

pub requests_are_native : RequestsAreNative
requests_are_native h cells hs nodes few small may boots = run_on (first_cluster h) (first_scene h cells) hs may (first_texts h cells)
