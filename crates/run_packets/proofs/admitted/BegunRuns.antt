-- In each run an attempt begins with nodes of the header.
use Rattle.std.specs.Prelude.{ℕ, zero, suc, ◌-◌, ◌≡◌, ◌≤◌, ◌&&◌, ◌++◌, nat_le, All, Bool, true, false, List, [], ◌∷◌, Option, None, Some, slice_get, if◌then◌else◌}
use Rattle.std.proofs.Common.{refl, sym, subst, ◌∙◌, arith}
use Rattle.std.proofs.lemmas.Bool.Decides.{nat_tests}
use Rattle.std.specs.List.{AllByRecursion}
use Rattle.cl_base.proofs.FirstNumbers.{has_first}
use Rattle.cl_base.specs.Numbers.{numbers_to}
use Rattle.cl_base.specs.Sets.{has}
use Rattle.cl_base.specs.declared.header.Header.{Header}
use Rattle.cl_base.specs.declared.method.Outcome as method
use Rattle.cl_base.specs.declared.packet.DropCause.{DropCause}
use Rattle.cmm_attempt.proofs.Basics.{if_either}
use Rattle.cmm_attempt.specs.Calls.{IsDevice}
use Rattle.history.specs.Moment.{Moment, Told}
use Rattle.history.specs.Order.{Always}
use Rattle.history.specs.Setting.{nodes_of}
use Rattle.interconnect.specs.Links as links
use Rattle.interconnect.specs.Links.{sending}
use Rattle.node_model.specs.declared.cluster.Cluster.{Cluster}
use Rattle.node_model.specs.declared.input.Input.{Input}
use Rattle.node_model.specs.declared.input.Input.TheVariants as input
use Rattle.node_model.specs.declared.node.Node.{Node}
use Rattle.node_model.specs.declared.node.Node.TheVariants.{Down, Up}
use Rattle.node_model.specs.Steps.{at_second}
use Rattle.node_model.specs.declared.output.Output.{Output}
use Rattle.node_model.specs.declared.output.Output.TheVariants.{Sends, Tells}
use Rattle.pgr_device.specs.declared.command.PrCommand.TheVariants as command
use Rattle.refinement.proofs.Disks.{disks_keep_rules}
use Rattle.refinement.proofs.Facts.{step_may}
use Rattle.refinement.proofs.Handlers.{delivered_by}
use Rattle.refinement.proofs.Replies.{steps_are_cut}
use Rattle.refinement.specs.Cuts.{doings}
use Rattle.refinement.specs.Doings.{Doing, Site, site}
use Rattle.refinement.specs.Guards.{MayAll}
use Rattle.refinement.specs.Runs.{Nodes, moved}
use Rattle.refinement.specs.Runs.Move.{Takes as Takes_in}
use Rattle.refinement.specs.Steps.{IsCut, disk_rules}
use Rattle.run_history.proofs.LineSteps.{doings_small}
use Rattle.run_history.proofs.Lists.{both}
use Rattle.run_history.proofs.Reached.{reached_more}
use Rattle.run_history.specs.Happenings.{Arrives, Begins, Commanded, Commands, Happening, Loses, MayAllHappen, MayHappen, Misses, Notes, Refuses, Repeats, Speaks, Strays, Takes, Writes, all_happened, armed_by, commanded, commanded_at, given_by, happened, removed, taking}
use Rattle.run_history.specs.Scenes.{Scene, adding, dropped_so, first_scene, passing, posting, sent_as, telling, with_links}
use Rattle.run_messages.proofs.Reaching.{IsReached, IsSmall, stage_of}
use Rattle.run_packets.proofs.native.Beats.{later_named}
use Rattle.run_packets.specs.native.Laws.{BootsInHeader}
use Rattle.run_packets.specs.native.Named.{InNodes, NodeNamed, SceneNamed}
use Rattle.run_seizings.proofs.Steps.{Ground, ground_of}
use Rattle.pgr_device.specs.Device.{Device}
use Rattle.pgr_device.specs.declared.command.PrCommand.{PrCommand}
use Rattle.schedule_text.specs.declared.event.Event.{Event}
use Rattle.schedule_text.specs.declared.event.Event.TheVariants as event
use Rattle.status_report.specs.declared.attempt_entry.AttemptEntry.TheVariants as attempt_entry
use Rattle.status_report.specs.declared.entry.Entry.{Entry}
use Rattle.status_report.specs.declared.entry.Entry.TheVariants as entry
use Rattle.status_report.specs.declared.packet_entry.PacketEntry.TheVariants as packet
use Rattle.wire.specs.Spelling.{spelling}
use Rattle.wire.specs.declared.message.Message.{Message}
use Rattle.world_model.specs.First.{first_cluster}
use Rattle.world_model.specs.Sends.{is_sent, name_of}
use Rattle.run_packets.specs.admitted.Begun.{AllBegun, LineBegun, MomentBegun}
use Rattle.run_packets.proofs.admitted.Begun.{TickView, step_begun}
use Rattle.run_packets.proofs.admitted.Scenes.{Known, commanded_named, first_named, happening_named, whole_at}

-- ---- lines

abbrev pub AllOk : (ℕ → Type 0) → List Moment → Type 0
AllOk Ok ms = Always (MomentBegun Ok) ms

told_ok : (Ok : ℕ → Type 0) (e : Entry) (before : List Moment) → LineBegun Ok e → MomentBegun Ok before (Told e)
told_ok Ok (entry.Attempt (attempt_entry.Begun e members)) before h = h
told_ok Ok _ before h = tt

dropped_ok : (Ok : ℕ → Type 0) (o : Option (ℕ × DropCause)) (s : Scene) → AllOk Ok s.moments → AllOk Ok (dropped_so o s).moments
dropped_ok Ok None s h = h
dropped_ok Ok (Some drop) s h = (tt, h)

posted_ok : (Ok : ℕ → Type 0) (from to : ℕ) (m : Message) (s : Scene) → AllOk Ok s.moments → AllOk Ok (posting from to m s).moments
posted_ok Ok from to m s h =
    let o : links.Outcome = sending s.links from to (spelling m) in
    if_either (λ (t : Scene). AllOk Ok t.moments) (is_sent s.links m) (sent_as from to m o s) s
    (dropped_ok Ok o.sent.dropped (telling (entry.Packet (packet.Sent s.links.next from to (name_of m.body) (spelling m))) (with_links s o.after)) (tt, h)) h

passing_ok : (Ok : ℕ → Type 0) (n : ℕ) (os : List Output) (s : Scene) → AllBegun Ok os → AllOk Ok s.moments → AllOk Ok (passing n os s).moments
passing_ok Ok n [] s all h = h
passing_ok Ok n (Tells e ∷ os) s all h = passing_ok Ok n os (telling e s) all.1 (told_ok Ok e s.moments all.0, h)
passing_ok Ok n (Sends to b ∷ os) s all h =
    passing_ok Ok n os (posting n to (record { sender = n; body = b }) s) all.1 (posted_ok Ok n to (record { sender = n; body = b }) s h)

-- ---- a step of a node

tick_view : (c : Cluster) (n now : ℕ) (node : Node) (i : Input) → NodeNamed c n node → TickView (InNodes c) c now node i
tick_view c n now Down i h = tt
tick_view c n now (Up x) input.Tick h = (later_named c n (at_second now x) h).view_so
tick_view c n now (Up x) _ h = tt

given_ok : (Ok : ℕ → Type 0) (c : Cluster) (v : Nodes) (n now : ℕ) (ends : method.Outcome) (i : Input) → n ≤ 32 → All IsDevice c.attached → Ground c v → TickView Ok c now (v.node n) i
    → AllBegun Ok (given_by c n now ends i v)
given_ok Ok c v n now ends i high fits b view =
    let cut : IsCut disk_rules c n now ends (v.node n) (v.disk n) i [] _ = steps_are_cut disk_rules disks_keep_rules c n now ends (v.node n) (v.disk n) i in
    let x : Site = site (v.node n) (v.disk n).kept in
    let ds : List Doing = doings c n now ends cut.replies i (v.node n) in
    let may : MayAll c n (delivered_by i) x ds =
    step_may c b.machine n now ends (v.node n) (v.disk n).kept i cut.replies high fits b.holds (b.stands n).tied (b.stands n).joins in
    subst (AllBegun Ok) cut.comes.given (step_begun Ok c n now ends cut.replies i (v.node n) (v.disk n).kept view may (doings_small c n now ends cut.replies i (v.node n) (v.disk n).kept))

taking_ok : (c : Cluster) (s : Scene) (n now : ℕ) (ends : method.Outcome) (i : Input) → n ≤ 32 → All IsDevice c.attached → Ground c s.nodes → SceneNamed c s → AllOk (InNodes c) s.moments
    → AllOk (InNodes c) (taking c n now ends i s).moments
taking_ok c s n now ends i high fits b k h =
    passing_ok (InNodes c) n (given_by c n now ends i s.nodes) (record s { nodes = moved c s.nodes (Takes_in n now ends i) })
    (given_ok (InNodes c) c s.nodes n now ends i high fits b (tick_view c n now (s.nodes.node n) i (k.nodes.sites n).node_so)) h

-- ---- each thing that happens

armed_ok : (Ok : ℕ → Type 0) (c : Cluster) (e : Event) (s : Scene) → AllOk Ok s.moments → AllOk Ok (armed_by c e s).moments
armed_ok Ok c (event.CrashAt n calls choice) s h = h
armed_ok Ok c (event.Fault n d done) s h = h
armed_ok Ok c _ s h = h

commanded_ok : (Ok : ℕ → Type 0) (s : Scene) (n d : ℕ) (o : Option Device) (q : PrCommand) → AllOk Ok s.moments → AllOk Ok (commanded_at s n d o q).scene.moments
commanded_ok Ok s n d None q h = h
commanded_ok Ok s n d (Some x) q h = h

commanded_ground : (c : Cluster) (s : Scene) (n d : ℕ) (o : Option Device) (q : PrCommand) → Ground c s.nodes → Ground c (commanded_at s n d o q).scene.nodes
commanded_ground c s n d None q h = h
commanded_ground c s n d (Some x) q h = h

happening_ok : (h : Header) (s : Scene) (x : Happening) → MayHappen (first_cluster h) s x → Known h s x → SceneNamed (first_cluster h) s → AllOk (InNodes (first_cluster h)) s.moments
    → AllOk (InNodes (first_cluster h)) (happened (first_cluster h) s x).moments
happening_ok h s (Speaks e) may b k ok = armed_ok (InNodes (first_cluster h)) (first_cluster h) e (adding _ s) (tt, ok)
happening_ok h s (Begins e) may b k ok = (tt, ok)
happening_ok h s (Notes e) may b k ok = (tt, ok)
happening_ok h s (Takes n now ends i) may b k ok =
    let c : Cluster = first_cluster h in
    taking_ok c s n now ends i may.0.1 b.whole.cluster.fits.devices.attached (ground_of c s b.stage) k ok
happening_ok h s (Arrives number x m now ends) may b k ok =
    let c : Cluster = first_cluster h in
    let t : Scene = telling (entry.Packet (packet.Delivered number x.from x.to)) (removed s number) in
    passing_ok (InNodes c) x.to (given_by c x.to now ends (input.Packet x.from m) s.nodes) (record t { nodes = moved c s.nodes (Takes_in x.to now ends (input.Packet x.from m)) })
    (given_ok (InNodes c) c s.nodes x.to now ends (input.Packet x.from m) may.3.1 b.whole.cluster.fits.devices.attached (ground_of c s b.stage)
    (tick_view c x.to now (s.nodes.node x.to) (input.Packet x.from m) (k.nodes.sites x.to).node_so)) (tt, ok)
happening_ok h s (Strays number x) may b k ok = (tt, ok)
happening_ok h s (Misses number x) may b k ok = (tt, ok)
happening_ok h s (Loses number x) may b k ok = (tt, ok)
happening_ok h s (Repeats number x) may b k ok =
    let o : links.Outcome = sending s.links x.from x.to x.bytes in
    dropped_ok (InNodes (first_cluster h)) o.sent.dropped (telling (entry.Packet (packet.Repeated number s.links.next)) (with_links s o.after)) (tt, ok)
happening_ok h s (Commands n d q now ends) may b k ok =
    let c : Cluster = first_cluster h in
    let o : Option Device = slice_get s.devices (d - 1) in
    taking_ok c (commanded s n d q).scene n now ends (input.Answered (commanded s n d q).answer) may.0.1 b.whole.cluster.fits.devices.attached (commanded_ground c s n d o q (ground_of c s b.stage))
    (commanded_named c s n d o q k) (commanded_ok (InNodes c) s n d o q ok)
happening_ok h s (Writes n d value now ends) may b k ok =
    let c : Cluster = first_cluster h in
    let o : Option Device = slice_get s.devices (d - 1) in
    let z : Commanded = commanded s n d (command.Write value) in
    taking_ok c z.scene n now ends (input.Wrote d value z.answer) may.0.1 b.whole.cluster.fits.devices.attached (commanded_ground c s n d o (command.Write value) (ground_of c s b.stage))
    (commanded_named c s n d o (command.Write value) k) (commanded_ok (InNodes c) s n d o (command.Write value) ok)
happening_ok h s (Refuses n d value cause) may b k ok = (tt, ok)

-- ---- runs

run_on : (h : Header) (cells : ℕ) (s : Scene) (hs : List Happening) → h.nodes ≤ 32 → IsSmall h → IsReached h cells s → MayAllHappen (first_cluster h) s hs → AllByRecursion (BootsInHeader h) hs
    → SceneNamed (first_cluster h) s → AllOk (InNodes (first_cluster h)) s.moments → AllOk (InNodes (first_cluster h)) (all_happened (first_cluster h) s hs).moments
run_on h cells s [] few size at may boots k ok = ok
run_on h cells s (x ∷ hs) few size at may boots k ok =
    let c : Cluster = first_cluster h in
    let later : IsReached h cells (happened c s x) = reached_more c (first_scene h cells) s x at may.0 in
    let b : Known h s x = record { stage = stage_of h cells s size at; whole = whole_at h cells s size at; next = stage_of h cells (happened c s x) size later } in
    run_on h cells (happened c s x) hs few size later may.1 boots.1 (happening_named h s x few size may.0 boots.0 b k) (happening_ok h s x may.0 b k ok)

none_begun : (h : Header) (cells : ℕ) → AllOk (InNodes (first_cluster h)) (first_scene h cells).moments
unfolding first_scene
none_begun h cells = tt

pub all_of_header : (h : Header) (cells : ℕ) (hs : List Happening) → h.nodes ≤ 32 → IsSmall h → MayAllHappen (first_cluster h) (first_scene h cells) hs → AllByRecursion (BootsInHeader h) hs
    → AllOk (InNodes (first_cluster h)) (all_happened (first_cluster h) (first_scene h cells) hs).moments
all_of_header h cells hs few size may boots =
    run_on h cells (first_scene h cells) hs few size (record { happenings = []; may = tt; is = refl }) may boots (first_named h cells) (none_begun h cells)

-- ---- the members are numbers up to that of the nodes

numbers_all : (P : ℕ → Type 0) (set k : ℕ) → ((m : ℕ) → has set m ≡ true → P m) → AllByRecursion P (numbers_to set k)
numbers_all P set zero f = tt
numbers_all P set (suc k) f = by_test (has set (suc k)) refl (numbers_all P set k f)
  where
    by_test : (b : Bool) → has set (suc k) ≡ b → AllByRecursion P (numbers_to set k) → AllByRecursion P (if b then numbers_to set k ++ suc k ∷ [] else numbers_to set k)
    by_test true is rest = both P (numbers_to set k) (suc k ∷ []) rest (f (suc k) is, tt)
    by_test false is rest = rest

tests : (m k : ℕ) → (nat_le 1 m && nat_le m k) ≡ true → m ≤ k
tests m k h = grind (arith, nat_tests, h)

pub in_header : (h : Header) (members : ℕ) → h.nodes ≤ 32 → InNodes (first_cluster h) members → AllByRecursion (λ m. m ≤ h.nodes) (nodes_of members)
in_header h members few inside = numbers_all (λ m. m ≤ h.nodes) members 32 (λ m is. tests m h.nodes (sym (has_first h.nodes m few) ∙ inside m is))
