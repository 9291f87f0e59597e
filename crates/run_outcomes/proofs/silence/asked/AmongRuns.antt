-- In each run the Collects and the Installs of an attempt go to nodes of the attempt.
use Rattle.std.specs.Prelude.{ℕ, ◌-◌, ◌==◌, ◌≡◌, ◌≢◌, ◌⊎◌, ◌≤◌, ◌||◌, Bool, true, false, List, ◌∷◌, Option, None, Some, slice_get}
use Rattle.std.specs.List.{AllByRecursion}
use Rattle.std.proofs.Common.{arith, refl, sym, ap, subst, ◌∙◌, inl, inr}
use Rattle.cl_base.specs.declared.header.Header.{Header}
use Rattle.cl_base.specs.declared.method.Outcome as method
use Rattle.cl_base.specs.declared.packet.DropCause.{DropCause}
use Rattle.cmm_attempt.specs.Attempts.{AttemptState}
use Rattle.history.specs.Letters as told
use Rattle.history.specs.Moment.{Moment, Said}
use Rattle.history.specs.Names as name
use Rattle.history.specs.Names.{Name}
use Rattle.history.specs.Setting.{coordinator}
use Rattle.history.specs.Trace.{delivered}
use Rattle.interconnect.specs.Links as net
use Rattle.interconnect.specs.Links.{sending}
use Rattle.machine_base.proofs.Puts.{put_here, put_there, same_or_not}
use Rattle.machine_base.specs.Put.{put}
use Rattle.node_model.specs.Steps.{Outcome, stepped}
use Rattle.node_model.specs.declared.cluster.Cluster.{Cluster}
use Rattle.node_model.specs.declared.input.Input.{Input}
use Rattle.node_model.specs.declared.input.Input.TheVariants as input
use Rattle.node_model.specs.declared.node.Node.{Node}
use Rattle.node_model.specs.declared.node.Node.TheVariants.{Down, Up}
use Rattle.node_model.specs.declared.node.UpNode.{UpNode}
use Rattle.node_model.specs.declared.output.Output.{Output}
use Rattle.pgr_device.specs.Device.{Device}
use Rattle.pgr_device.specs.declared.command.PrCommand.{PrCommand}
use Rattle.pgr_device.specs.declared.command.PrCommand.TheVariants as command
use Rattle.record_disk.specs.Disks.{DiskState}
use Rattle.refinement.specs.Runs.{AnswersFit, Nodes, moved}
use Rattle.refinement.specs.Runs.Move.{Takes as Takes_in}
use Rattle.refinement.specs.Steps.{disk_rules}
use Rattle.refinement.specs.Whole.{Stands}
use Rattle.run_attempts.proofs.Known.{known_scene}
use Rattle.run_downs.proofs.Packets.{IsNoPacket, no_packets}
use Rattle.run_history.proofs.Idle.{passing_nodes}
use Rattle.run_history.specs.Happenings.{Arrives, Begins, Commands, Happening, IsPlain, Loses, MayAllHappen, MayHappen, Misses, Notes, Refuses, Repeats, Speaks, Strays, Takes as Takes_plain, Writes, all_happened, armed_by, commanded, commanded_at, given_by, happened, removed, taking}
use Rattle.run_history.specs.Scenes.{Scene, adding, dropped_so, first_scene, telling, with_links}
use Rattle.run_history.specs.Stages.{Sized}
use Rattle.run_messages.proofs.Reaching.{IsSmall, holds_of_each}
use Rattle.run_messages.proofs.records.Arms.{After, after_command, due_keeps}
use Rattle.run_messages.proofs.records.Sizes.{header_sized}
use Rattle.run_messages.specs.records.Kept.{KnownScene}
use Rattle.schedule_text.specs.declared.event.Event.{Event}
use Rattle.schedule_text.specs.declared.event.Event.TheVariants as event
use Rattle.schedule_text.specs.declared.line.Line.TheVariants as line
use Rattle.status_report.specs.declared.entry.Entry.TheVariants as entry
use Rattle.status_report.specs.declared.packet_entry.PacketEntry.TheVariants as packet
use Rattle.world_model.specs.First.{first_cluster}
use Rattle.run_outcomes.specs.phases.Kept.{In}
use Rattle.run_outcomes.specs.saves.Kept.{IsAt}
use Rattle.run_outcomes.specs.silence.Asked.{Query, asked_in, is_sent}
use Rattle.run_outcomes.specs.silence.AskedCourses.{Tally, then_given}
use Rattle.run_outcomes.specs.silence.Ticks.{IsToAll}
use Rattle.run_outcomes.specs.tasks.AsksGiven.{BeginsOwn}
use Rattle.run_outcomes.proofs.asks.Steps.{step_own}
use Rattle.run_outcomes.proofs.phases.Runs.{knows_at, ways_at}
use Rattle.run_outcomes.proofs.phases.Taken.{Ways}
use Rattle.run_outcomes.proofs.silence.Lines.{none_comes, others_asked, passing_less}
use Rattle.run_outcomes.proofs.silence.asked.Among.{Among, HasAmong, step_among}

-- ---- the attempts of all nodes

abbrev tally : List Moment → Tally
tally ms = λ e q. asked_in e q ms

abbrev AllAmong : Nodes → List Moment → Type 0
AllAmong v ms = (n : ℕ) (x : UpNode) (a : AttemptState) → v.node n ≡ Up x → x.attempt ≡ Some a → Among (tally ms) a

abbrev pub SceneAmong : Scene → Type 0
SceneAmong s = AllAmong s.nodes s.moments

at_node : (v : Nodes) (ms : List Moment) (n : ℕ) → AllAmong v ms → IsAt (HasAmong (tally ms)) (v.node n)
at_node v ms n h = by_node (v.node n) refl
  where
    by_attempt : (x : UpNode) (o : Option AttemptState) → v.node n ≡ Up x → x.attempt ≡ o → In (Among (tally ms)) o
    by_attempt x None here has = tt
    by_attempt x (Some a) here has = h n x a here has

    by_node : (node : Node) → v.node n ≡ node → IsAt (HasAmong (tally ms)) node
    by_node Down is = tt
    by_node (Up x) is = by_attempt x x.attempt is refl

-- nobody else was asked by this attempt
fewer : (g f : Tally) (a : AttemptState) → ((q : Query) → IsToAll q.called → f a.plan.epoch q ≡ true → g a.plan.epoch q ≡ true) → Among g a → Among f a
fewer g f a less h m q of is = h m q of (less (record { to = m; called = q }) of is)

itself : (n k : ℕ) → n ≡ k → (n == k) ≡ true
itself n k h = grind arith

apart_from : (n k : ℕ) → (k ≡ n → ⊥) → (n == k) ≡ false
apart_from n k ne = by_test (n == k) refl
  where
    equal : (a b : ℕ) → (a == b) ≡ true → b ≡ a
    equal a b h = grind arith

    by_test : (b : Bool) → (n == k) ≡ b → b ≡ false
    by_test true is = absurd (ne (equal n k is))
    by_test false is = refl

at_up : (P : UpNode → Type 0) (node : Node) (y : UpNode) → node ≡ Up y → IsAt P node → P y
at_up P node y is h = subst (IsAt P) is h

-- ---- what comes to a node

taking_among : (c : Cluster) (s t : Scene) (n now : ℕ) (ends : method.Outcome) (i : Input) → n ≤ 32 → Sized c → KnownScene c s → t.nodes ≡ s.nodes → AnswersFit i → Ways (taking c n now ends i t).nodes (taking c n now ends i t).moments → SceneAmong t
    → SceneAmong (taking c n now ends i t)
taking_among c s t n now ends i high sized k same fit u h j y b up has = by_node (same_or_not j n)
  where
    os : List Output
    os = given_by c n now ends i t.nodes

    w : Scene
    w = record t { nodes = moved c t.nodes (Takes_in n now ends i) }

    z : Scene
    z = taking c n now ends i t

    o : Outcome DiskState
    o = stepped disk_rules c n now ends (t.nodes.node n) (t.nodes.disk n) i

    e : ℕ
    e = b.plan.epoch

    own : coordinator e ≡ j
    own = u.own j y b up has

    there : put t.nodes.node n o.after j ≡ Up y
    there = sym (ap (λ v. v.node j) (passing_nodes n os w)) ∙ up

    plain : AllByRecursion IsNoPacket os
    plain = no_packets c n now ends (t.nodes.node n) (t.nodes.disk n) i

    step : IsAt (HasAmong (then_given (tally t.moments) o.given)) o.after
    step =
        step_among c k.stage.machine n now ends (t.nodes.node n) (t.nodes.disk n) i (tally t.moments) high sized.fits.devices.attached k.stage.holds
        (subst (λ (v : Nodes). Stands c k.stage.machine n (v.node n) (v.disk n).kept) (sym same) (k.stage.stands n)) fit (at_node t.nodes t.moments n h)

    begins : AllByRecursion (BeginsOwn n) os
    begins = subst (λ (v : Nodes). AllByRecursion (BeginsOwn n) (given_by c n now ends i v)) (sym same) (step_own c s n now ends i high sized.fits.devices.attached k)

    by_here : j ≡ n → Among (tally z.moments) b
    by_here is =
        let node : o.after ≡ Up y = sym (put_here t.nodes.node n o.after) ∙ subst (λ m. put t.nodes.node n o.after m ≡ Up y) is there in
        let mine : (n == coordinator e) ≡ true = itself n (coordinator e) (sym is ∙ sym own) in
        fewer (then_given (tally t.moments) os) (tally z.moments) b (λ q of. passing_less e q n os w mine plain)
        (subst (In (Among (then_given (tally t.moments) os))) has (at_up (HasAmong (then_given (tally t.moments) os)) o.after y node step))

    by_there : j ≢ n → Among (tally z.moments) b
    by_there ne =
        fewer (tally t.moments) (tally z.moments) b (λ q of is. sym (others_asked e q n os w (apart_from n (coordinator e) (λ at. ne (sym own ∙ at))) begins plain) ∙ is)
        (h j y b (sym (put_there t.nodes.node n o.after j ne) ∙ there) has)

    by_node : (j ≡ n) ⊎ (j ≢ n) → Among (tally z.moments) b
    by_node (inl is) = by_here is
    by_node (inr ne) = by_there ne

-- ---- each thing that happens

pub to_all_sent : (q : Name) → IsToAll q → is_sent q ≡ true
to_all_sent name.Collect of = refl
to_all_sent name.Install of = refl
to_all_sent _ of = absurd of

-- what comes counts for no question
not_come : (e : ℕ) (q : Query) (p a b : ℕ) (ms : List Moment) → IsToAll q.called → asked_in e q (delivered p a b ∷ ms) ≡ true → asked_in e q ms ≡ true
not_come e q p a b ms of is = sym (ap (λ t. t || asked_in e q ms) (none_comes e q (told.letter_of p ms) (to_all_sent q.called of))) ∙ is

delivered_among : (s : Scene) (number from to : ℕ) → SceneAmong s → SceneAmong (telling (entry.Packet (packet.Delivered number from to)) (removed s number))
delivered_among s number from to h n x a up has = fewer (tally s.moments) (tally (delivered number from to ∷ s.moments)) a (λ q of. not_come a.plan.epoch q number from to s.moments of) (h n x a up has)

speaks_among : (c : Cluster) (e : Event) (s : Scene) → SceneAmong s → SceneAmong (armed_by c e (adding (Said (line.Event e)) s))
speaks_among c (event.Fault n d done) s h = h
speaks_among c (event.CrashAt n calls choice) s h = h
speaks_among c _ s h = h

dropped_among : (o : Option (ℕ × DropCause)) (s : Scene) → SceneAmong s → SceneAmong (dropped_so o s)
dropped_among None s h = h
dropped_among (Some x) s h = h

commanded_nodes : (s : Scene) (n d : ℕ) (o : Option Device) (k : PrCommand) → (commanded_at s n d o k).scene.nodes ≡ s.nodes
commanded_nodes s n d None k = refl
commanded_nodes s n d (Some x) k = refl

commanded_among : (s : Scene) (n d : ℕ) (o : Option Device) (k : PrCommand) → SceneAmong s → SceneAmong (commanded_at s n d o k).scene
commanded_among s n d None k h = h
commanded_among s n d (Some x) k h = h

plain_fits : (i : Input) → IsPlain i → AnswersFit i
plain_fits (input.Packet from m) h = absurd h
plain_fits (input.Answered a) h = absurd h
plain_fits _ h = tt

happening_among : (c : Cluster) (s : Scene) (x : Happening) → Sized c → MayHappen c s x → KnownScene c s → Ways (happened c s x).nodes (happened c s x).moments → SceneAmong s → SceneAmong (happened c s x)
happening_among c s (Speaks e) sized may k u h = speaks_among c e s h
happening_among c s (Begins e) sized may k u h = h
happening_among c s (Notes e) sized may k u h = h
happening_among c s (Takes_plain n now ends i) sized may k u h = taking_among c s s n now ends i may.0.1 sized k refl (plain_fits i may.1) u h
happening_among c s (Arrives number x m now ends) sized may k u h =
    let t : Scene = telling (entry.Packet (packet.Delivered number x.from x.to)) (removed s number) in
    taking_among c s t x.to now ends (input.Packet x.from m) may.3.1 sized k refl tt u (delivered_among s number x.from x.to h)
happening_among c s (Strays number x) sized may k u h = delivered_among s number x.from x.to h
happening_among c s (Misses number x) sized may k u h = h
happening_among c s (Loses number x) sized may k u h = h
happening_among c s (Repeats number x) sized may k u h =
    let o : net.Outcome = sending s.links x.from x.to x.bytes in
    dropped_among o.sent.dropped (telling (entry.Packet (packet.Repeated number s.links.next)) (with_links s o.after)) h
happening_among c s (Commands n d q now ends) sized may k u h =
    let o : Option Device = slice_get s.devices (d - 1) in
    let r : After c s (commanded s n d q) = after_command c s n d q (due_keeps c s n d q sized may.0.0 may.0.1 may.2 k.stage) k in
    taking_among c s (commanded s n d q).scene n now ends (input.Answered (commanded s n d q).answer) may.0.1 sized k (commanded_nodes s n d o q) r.answer u (commanded_among s n d o q h)
happening_among c s (Writes n d value now ends) sized may k u h =
    let q : PrCommand = command.Write value in
    let o : Option Device = slice_get s.devices (d - 1) in
    taking_among c s (commanded s n d q).scene n now ends (input.Wrote d value (commanded s n d q).answer) may.0.1 sized k (commanded_nodes s n d o q) tt u (commanded_among s n d o q h)
happening_among c s (Refuses n d value why) sized may k u h = h

-- ---- runs

none_up : (x : UpNode) → Down ≡ Up x → ⊥
none_up x is = subst (IsAt (λ y. ⊥)) is tt

first_among : (h : Header) (cells : ℕ) → SceneAmong (first_scene h cells)
unfolding first_scene
first_among h cells n x a up has = absurd (none_up x up)

pub run_among : (h : Header) (cells : ℕ) (hs : List Happening) → IsSmall h → MayAllHappen (first_cluster h) (first_scene h cells) hs → SceneAmong (all_happened (first_cluster h) (first_scene h cells) hs)
run_among h cells hs size may =
    holds_of_each h cells SceneAmong
    (λ s x now at more so. happening_among (first_cluster h) s x (header_sized h size.few size.small) now (known_scene h cells s size at) (ways_at (first_cluster h) (happened (first_cluster h) s x) (knows_at h cells (happened (first_cluster h) s x) size more)) so)
    (first_among h cells) hs may
