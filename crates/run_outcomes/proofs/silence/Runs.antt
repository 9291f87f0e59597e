-- In each run an attempt has sent what its state has.
use Rattle.std.specs.Prelude.{All, ℕ, ◌-◌, ◌==◌, ◌≡◌, ◌≢◌, ◌⊎◌, ◌≤◌, ◌&&◌, ◌||◌, not, Bool, true, false, List, ◌∷◌, Option, None, Some, slice_get}
use Rattle.std.specs.List.{AllByRecursion}
use Rattle.std.proofs.Common.{arith, refl, sym, ap, subst, ◌∙◌, inl, inr}
use Rattle.attempt_laws.specs.Asking.{AreApart, numbers_of}
use Rattle.cl_base.specs.declared.header.Header.{Header}
use Rattle.cl_base.specs.declared.method.Outcome as method
use Rattle.cl_base.specs.declared.packet.DropCause.{DropCause}
use Rattle.cmm_attempt.specs.Attempts.{AttemptState}
use Rattle.cmm_attempt.specs.Calls.{IsDevice}
use Rattle.history.specs.Letters.{sends}
use Rattle.history.specs.Moment.{Moment, Said}
use Rattle.history.specs.Letters as told
use Rattle.history.specs.Names as name
use Rattle.history.specs.Names.{Name, named, same_name}
use Rattle.history.specs.Trace.{delivered}
use Rattle.run_messages.proofs.records.Arrivals.{arrived_kept}
use Rattle.run_messages.proofs.records.Letters.{letter_sound, read_letter}
use Rattle.run_messages.specs.records.Kept.{Came}
use Rattle.run_messages.specs.records.Sound.{LetterSound}
use Rattle.wire.specs.Reads.{whole_of}
use Rattle.wire.specs.declared.message.Body.{Body}
use Rattle.wire.specs.declared.message.Body.TheVariants as body
use Rattle.wire.specs.declared.message.Message.{Message}
use Rattle.world_model.specs.Sends.{name_of}
use Rattle.cmm_attempt.proofs.Basics.{false_true}
use Rattle.history.specs.Setting.{coordinator}
use Rattle.interconnect.specs.Links as net
use Rattle.interconnect.specs.Links.{Packet, packet_of, sending}
use Rattle.machine_base.proofs.Puts.{put_here, put_there, same_or_not}
use Rattle.machine_base.specs.Put.{put}
use Rattle.node_model.specs.Steps.{Outcome, stepped}
use Rattle.node_model.specs.declared.cluster.Cluster.{Cluster}
use Rattle.node_model.specs.declared.input.Input.{Input}
use Rattle.node_model.specs.declared.input.Input.TheVariants as input
use Rattle.node_model.specs.declared.node.Node.{Node}
use Rattle.node_model.specs.declared.node.Node.TheVariants.{Down, Up}
use Rattle.node_model.specs.declared.node.UpNode.{UpNode}
use Rattle.node_model.specs.declared.output.Output.{Output}
use Rattle.pgr_device.specs.Device.{Device}
use Rattle.pgr_device.specs.declared.command.PrCommand.{PrCommand}
use Rattle.pgr_device.specs.declared.command.PrCommand.TheVariants as command
use Rattle.record_disk.specs.Disks.{DiskState}
use Rattle.refinement.specs.Runs.{Nodes, moved}
use Rattle.refinement.specs.Runs.Move.{Takes as Takes_in}
use Rattle.refinement.specs.Steps.{disk_rules}
use Rattle.run_attempts.proofs.Known.{known_scene}
use Rattle.run_downs.proofs.Packets.{IsNoPacket, no_packets}
use Rattle.run_history.proofs.Idle.{passing_nodes}
use Rattle.run_history.proofs.MemberRuns.{first_fit}
use Rattle.run_history.specs.Happenings.{Arrives, Begins, Commands, Happening, IsPlain, Loses, MayAllHappen, MayHappen, Misses, Notes, Refuses, Repeats, Speaks, Strays, Takes as Takes_plain, Writes, all_happened, armed_by, commanded, commanded_at, given_by, happened, removed, taking}
use Rattle.run_history.specs.Scenes.{Scene, adding, dropped_so, first_scene, telling, with_links}
use Rattle.run_messages.proofs.Reaching.{IsSmall, holds_of_each}
use Rattle.run_messages.specs.records.Kept.{KnownScene}
use Rattle.schedule_text.specs.declared.event.Event.{Event}
use Rattle.schedule_text.specs.declared.event.Event.TheVariants as event
use Rattle.schedule_text.specs.declared.line.Line.TheVariants as line
use Rattle.status_report.specs.declared.entry.Entry.TheVariants as entry
use Rattle.status_report.specs.declared.packet_entry.PacketEntry.TheVariants as packet
use Rattle.world_model.specs.First.{first_cluster}
use Rattle.run_outcomes.specs.phases.Kept.{In}
use Rattle.run_outcomes.specs.saves.Kept.{IsAt}
use Rattle.run_outcomes.specs.silence.Asked.{Alike, HandTold, InputTold, Query, answers, asked_in, comes, is_sent}
use Rattle.run_outcomes.specs.silence.AskedCourses.{AttemptTold, HasBoth, Late, Tally, then_given, to_install}
use Rattle.run_outcomes.specs.tasks.AsksGiven.{BeginsOwn, IsLeft}
use Rattle.run_outcomes.proofs.asks.Lines.{dropped_next, left_before, passing_next, sending_next}
use Rattle.run_outcomes.proofs.silence.Lines.{delivered_alike, dropped_asked, none_comes, others_asked, passing_alike, passing_less}
use Rattle.run_outcomes.proofs.asks.Steps.{step_own}
use Rattle.run_outcomes.proofs.silence.Steps.{EndsTold, step_told}
use Rattle.run_outcomes.proofs.silence.Quiet.{alike_itself, alike_told}
use Rattle.run_outcomes.proofs.phases.Runs.{knows_at, ways_at}
use Rattle.run_outcomes.proofs.phases.Taken.{Ways}
use Rattle.run_outcomes.proofs.asks.Devices.{are_apart}

-- ---- the attempts of all nodes

abbrev Both : Tally → AttemptState → Type 0
Both g a = AttemptTold g a × Late g a

abbrev AllTold : Nodes → List Moment → Type 0
AllTold v ms = (n : ℕ) (x : UpNode) (a : AttemptState) → v.node n ≡ Up x → x.attempt ≡ Some a → Both (λ e d. asked_in e d ms) a

-- .. while a packet number is left
abbrev SceneTold : Scene → Type 0
SceneTold s = IsLeft s.links.next → AllTold s.nodes s.moments

at_node : (v : Nodes) (ms : List Moment) (n : ℕ) → AllTold v ms → IsAt (λ x. HasBoth x (λ e d. asked_in e d ms)) (v.node n)
at_node v ms n h = by_node (v.node n) refl
  where
    by_attempt : (x : UpNode) (o : Option AttemptState) → v.node n ≡ Up x → x.attempt ≡ o → In (AttemptTold (λ e d. asked_in e d ms)) o × In (Late (λ e d. asked_in e d ms)) o
    by_attempt x None here has = (tt, tt)
    by_attempt x (Some a) here has = h n x a here has

    by_node : (node : Node) → v.node n ≡ node → IsAt (λ x. HasBoth x (λ e d. asked_in e d ms)) node
    by_node Down is = tt
    by_node (Up x) is = by_attempt x x.attempt is refl

-- with the same members asked by this attempt
told_at : (g f : Tally) (a : AttemptState) → ((q : Query) → Alike q.called (g a.plan.epoch q) (f a.plan.epoch q)) → ((m : ℕ) → f a.plan.epoch (to_install m) ≡ true → g a.plan.epoch (to_install m) ≡ true) → Both g a → Both f a
told_at g f a same less h = (λ q. alike_told a q.to q.called (g a.plan.epoch q) (f a.plan.epoch q) (same q) (h.0 q), λ m is. h.1 m (less m is))

alike_same : (called : Name) (a b : Bool) → b ≡ a → Alike called a b
alike_same called a b is = subst (Alike called a) (sym is) (alike_itself called a)

itself : (n k : ℕ) → n ≡ k → (n == k) ≡ true
itself n k h = grind arith

apart_from : (n k : ℕ) → (k ≡ n → ⊥) → (n == k) ≡ false
apart_from n k ne = by_test (n == k) refl
  where
    equal : (a b : ℕ) → (a == b) ≡ true → b ≡ a
    equal a b h = grind arith

    by_test : (b : Bool) → (n == k) ≡ b → b ≡ false
    by_test true is = absurd (ne (equal n k is))
    by_test false is = refl

at_up : (P : UpNode → Type 0) (node : Node) (y : UpNode) → node ≡ Up y → IsAt P node → P y
at_up P node y is h = subst (IsAt P) is h

-- ---- what comes to a node

taking_told : (c : Cluster) (s t : Scene) (n now : ℕ) (ends : method.Outcome) (i : Input) → n ≤ 32 → All IsDevice c.attached → AreApart (numbers_of c.attached) → KnownScene c s → t.nodes ≡ s.nodes → IsAt (λ x. InputTold (λ e q. asked_in e q t.moments) x.attempt i) (s.nodes.node n) → Ways (taking c n now ends i t).nodes (taking c n now ends i t).moments
    → (IsLeft t.links.next → AllTold t.nodes t.moments) → SceneTold (taking c n now ends i t)
taking_told c s t n now ends i high fits apart k same hand u h left j y b up has = by_node (same_or_not j n)
  where
    os : List Output
    os = given_by c n now ends i t.nodes

    w : Scene
    w = record t { nodes = moved c t.nodes (Takes_in n now ends i) }

    z : Scene
    z = taking c n now ends i t

    o : Outcome DiskState
    o = stepped disk_rules c n now ends (t.nodes.node n) (t.nodes.disk n) i

    e : ℕ
    e = b.plan.epoch

    own : coordinator e ≡ j
    own = u.own j y b up has

    before : AllTold t.nodes t.moments
    before = h (left_before t.links.next z.links.next (passing_next n os w) left)

    there : put t.nodes.node n o.after j ≡ Up y
    there = sym (ap (λ v. v.node j) (passing_nodes n os w)) ∙ up

    plain : AllByRecursion IsNoPacket os
    plain = no_packets c n now ends (t.nodes.node n) (t.nodes.disk n) i

    step : EndsTold (λ f d. asked_in f d t.moments) o
    step =
        subst (λ (v : Nodes). EndsTold (λ f d. asked_in f d t.moments) (stepped disk_rules c n now ends (v.node n) (v.disk n) i)) (sym same)
        (step_told c s n now ends i (λ f d. asked_in f d t.moments) high fits apart k hand (subst (λ (v : Nodes). IsAt (λ x. HasBoth x (λ f d. asked_in f d t.moments)) (v.node n)) same (at_node t.nodes t.moments n before)))

    begins : AllByRecursion (BeginsOwn n) os
    begins = subst (λ (v : Nodes). AllByRecursion (BeginsOwn n) (given_by c n now ends i v)) (sym same) (step_own c s n now ends i high fits k)

    by_here : j ≡ n → Both (λ f d. asked_in f d z.moments) b
    by_here is =
        let node : o.after ≡ Up y = sym (put_here t.nodes.node n o.after) ∙ subst (λ m. put t.nodes.node n o.after m ≡ Up y) is there in
        let now : HasBoth y (then_given (λ f d. asked_in f d t.moments) os) = at_up (λ x. HasBoth x (then_given (λ f d. asked_in f d t.moments) os)) o.after y node step in
        let mine : (n == coordinator e) ≡ true = itself n (coordinator e) (sym is ∙ sym own) in
        told_at (then_given (λ f d. asked_in f d t.moments) os) (λ f d. asked_in f d z.moments) b
        (λ q. passing_alike e q n os w mine plain left) (λ m. passing_less e (to_install m) n os w mine plain)
        (subst (In (AttemptTold (then_given (λ f d. asked_in f d t.moments) os))) has now.0, subst (In (Late (then_given (λ f d. asked_in f d t.moments) os))) has now.1)

    by_there : j ≢ n → Both (λ f d. asked_in f d z.moments) b
    by_there ne =
        told_at (λ f d. asked_in f d t.moments) (λ f d. asked_in f d z.moments) b
        (λ q. alike_same q.called (asked_in e q t.moments) (asked_in e q z.moments) (others_asked e q n os w (apart_from n (coordinator e) (λ is. ne (sym own ∙ is))) begins plain))
        (λ m is. sym (others_asked e (to_install m) n os w (apart_from n (coordinator e) (λ same0. ne (sym own ∙ same0))) begins plain) ∙ is)
        (before j y b (sym (put_there t.nodes.node n o.after j ne) ∙ there) has)

    by_node : (j ≡ n) ⊎ (j ≢ n) → Both (λ f d. asked_in f d z.moments) b
    by_node (inl is) = by_here is
    by_node (inr ne) = by_there ne

-- ---- each thing that happens

speaks_told : (c : Cluster) (e : Event) (s : Scene) → SceneTold s → SceneTold (armed_by c e (adding (Said (line.Event e)) s))
speaks_told c (event.Fault n d done) s h left = h left
speaks_told c (event.CrashAt n calls choice) s h left = h left
speaks_told c _ s h left = h left

dropped_nodes : (o : Option (ℕ × DropCause)) (s : Scene) → (dropped_so o s).nodes ≡ s.nodes
dropped_nodes None s = refl
dropped_nodes (Some x) s = refl

copied_told : (number : ℕ) (from to : ℕ) (bytes : List ℕ) (s : Scene) → SceneTold s
    → (let o : net.Outcome = sending s.links from to bytes in SceneTold (dropped_so o.sent.dropped (telling (entry.Packet (packet.Repeated number s.links.next)) (with_links s o.after))))
copied_told number from to bytes s h left =
    let o : net.Outcome = sending s.links from to bytes in
    let q : Scene = telling (entry.Packet (packet.Repeated number s.links.next)) (with_links s o.after) in
    let t : Scene = dropped_so o.sent.dropped q in
    let was : IsLeft s.links.next = left_before s.links.next t.links.next (dropped_next s.links.next o.sent.dropped q (sending_next s.links from to bytes)) left in
    λ n x a up has. told_at (λ e d. asked_in e d s.moments) (λ e d. asked_in e d t.moments) a (λ k. alike_same k.called (asked_in a.plan.epoch k s.moments) (asked_in a.plan.epoch k t.moments) (dropped_asked a.plan.epoch k o.sent.dropped q))
    (λ m is. sym (dropped_asked a.plan.epoch (to_install m) o.sent.dropped q) ∙ is)
    (h was n x a (sym (ap (λ (v : Nodes). v.node n) (dropped_nodes o.sent.dropped q)) ∙ up) has)

commanded_nodes : (s : Scene) (n d : ℕ) (o : Option Device) (k : PrCommand) → (commanded_at s n d o k).scene.nodes ≡ s.nodes
commanded_nodes s n d None k = refl
commanded_nodes s n d (Some x) k = refl

commanded_told : (s : Scene) (n d : ℕ) (o : Option Device) (k : PrCommand) → SceneTold s → SceneTold (commanded_at s n d o k).scene
commanded_told s n d None k h = h
commanded_told s n d (Some x) k h = h

-- the letter that came says it
comes_so : (e : ℕ) (from : ℕ) (n : ℕ) (called : Name) (l : told.Letter) (b : Body) → told.says l.bytes ≡ Some b → same_name l.name called ≡ true → l.from ≡ from → l.to ≡ n → coordinator e ≡ n → is_sent called ≡ false → answers called e (Some b) ≡ true
    → comes e (record { to = from; called = called }) (Some l) ≡ true
comes_so e from n called l b read same sender receiver own unsent is =
    all_true (not (is_sent called)) (same_name l.name called) (l.from == from) (l.to == coordinator e) (answers called e (told.says l.bytes)) (ap not unsent) same (itself l.from from sender) (itself l.to (coordinator e) (receiver ∙ sym own))
    (ap (answers called e) read ∙ is)
  where
    all_true : (a b c d z : Bool) → a ≡ true → b ≡ true → c ≡ true → d ≡ true → z ≡ true → (a && (b && c && d) && z) ≡ true
    all_true true true true true z p q r t h = h
    all_true true true true false z p q r t h = absurd (false_true t)
    all_true true true false d z p q r t h = absurd (false_true r)
    all_true true false c d z p q r t h = absurd (false_true q)
    all_true false b c d z p q r t h = absurd (false_true p)

or_first : (a b : Bool) → a ≡ true → (a || b) ≡ true
or_first true b h = refl
or_first false b h = absurd (false_true h)

body_hand : (e from n number : ℕ) (ms : List Moment) (l : told.Letter) (b : Body) → told.letter_of number ms ≡ Some l → told.says l.bytes ≡ Some b → l.name ≡ named (name_of b) → l.from ≡ from → l.to ≡ n → coordinator e ≡ n
    → HandTold (λ f q. asked_in f q (delivered number from n ∷ ms)) e from b
body_hand e from n number ms l (body.Seized p d r) at read called sender receiver own =
    let q : Query = record { to = from; called = name.Seized d } in
    λ same.
    or_first (comes p q (told.letter_of number ms)) (asked_in p q ms)
    (ap (comes p q) at ∙ comes_so p from n (name.Seized d) l (body.Seized p d r) read (ap (λ k. same_name k (name.Seized d)) called ∙ named_itself d) sender receiver (ap coordinator same ∙ own) refl (itself p p refl))
  where
    named_itself : (d : ℕ) → same_name (name.Seized d) (name.Seized d) ≡ true
    named_itself d = by_number d
      where
        by_number : (d : ℕ) → (d == d) ≡ true
        by_number d = grind arith
body_hand e from n number ms l (body.Ready p joined report) at read called sender receiver own =
    let q : Query = record { to = from; called = name.Ready } in
    λ same.
    or_first (comes p q (told.letter_of number ms)) (asked_in p q ms)
    (ap (comes p q) at ∙ comes_so p from n name.Ready l (body.Ready p joined report) read (ap (λ k. same_name k name.Ready) called) sender receiver (ap coordinator same ∙ own) refl (itself p p refl))
body_hand e from n number ms l _ at read called sender receiver own = tt

arrived_hand : (c : Cluster) (s : Scene) (number : ℕ) (x : Packet) (m : Message) → packet_of s.links.packets number ≡ Some x → whole_of x.bytes ≡ Some m → KnownScene c s
    → ((n : ℕ) (y : UpNode) (a : AttemptState) → s.nodes.node n ≡ Up y → y.attempt ≡ Some a → coordinator a.plan.epoch ≡ n) → (n : ℕ) → x.to ≡ n
    → IsAt (λ y. InputTold (λ e q. asked_in e q (delivered number x.from x.to ∷ s.moments)) y.attempt (input.Packet x.from m)) (s.nodes.node x.to)
arrived_hand c s number x m at read k own n is = by_node (s.nodes.node x.to) refl
  where
    came : Came (delivered number x.from x.to ∷ s.moments) x.to x.from m.body
    came = arrived_kept c s number x m at read k

    sound : LetterSound k.stage.machine came.letter
    sound = letter_sound k.stage.machine number s.moments came.letter k.sound came.here

    g : Tally
    g = λ e q. asked_in e q (delivered number x.from x.to ∷ s.moments)

    by_attempt : (y : UpNode) (o : Option AttemptState) → s.nodes.node x.to ≡ Up y → y.attempt ≡ o → In (λ a. HandTold g a.plan.epoch x.from m.body) o
    by_attempt y None up has = tt
    by_attempt y (Some a) up has =
        body_hand a.plan.epoch x.from x.to number s.moments came.letter m.body came.here came.read (read_letter k.stage.machine came.letter m.body sound came.read).0 came.sender came.receiver (own x.to y a up has)

    by_node : (node : Node) → s.nodes.node x.to ≡ node → IsAt (λ y. InputTold g y.attempt (input.Packet x.from m)) node
    by_node Down up = tt
    by_node (Up y) up = by_attempt y y.attempt up refl

no_install : (e j p a b : ℕ) (ms : List Moment) → asked_in e (to_install j) (delivered p a b ∷ ms) ≡ true → asked_in e (to_install j) ms ≡ true
no_install e j p a b ms is = sym (ap (λ t. t || asked_in e (to_install j) ms) (none_comes e (to_install j) (told.letter_of p ms) refl)) ∙ is

at_all : (node : Node) → IsAt (λ x. Unit {0}) node
at_all Down = tt
at_all (Up x) = tt

plain_hand : (g : Tally) (i : Input) (node : Node) → IsPlain i → IsAt (λ x. InputTold g x.attempt i) node
plain_hand g i Down plain = tt
plain_hand g (input.Packet from m) (Up x) plain = absurd plain
plain_hand g _ (Up x) plain = tt

happening_told : (c : Cluster) (s : Scene) (x : Happening) → All IsDevice c.attached → AreApart (numbers_of c.attached) → MayHappen c s x → KnownScene c s → Ways s.nodes s.moments → Ways (happened c s x).nodes (happened c s x).moments → SceneTold s → SceneTold (happened c s x)
happening_told c s (Speaks e) fits apart may k w u h = speaks_told c e s h
happening_told c s (Begins e) fits apart may k w u h = h
happening_told c s (Notes e) fits apart may k w u h = h
happening_told c s (Takes_plain n now ends i) fits apart may k w u h = taking_told c s s n now ends i may.0.1 fits apart k refl (plain_hand (λ e q. asked_in e q s.moments) i (s.nodes.node n) may.1) u h
happening_told c s (Arrives number x m now ends) fits apart may k w u h =
    let t : Scene = telling (entry.Packet (packet.Delivered number x.from x.to)) (removed s number) in
    taking_told c s t x.to now ends (input.Packet x.from m) may.3.1 fits apart k refl (arrived_hand c s number x m may.0 may.1 k w.own x.to refl) u
    (λ left n y a up has. told_at (λ e q. asked_in e q s.moments) (λ e q. asked_in e q t.moments) a (λ q. delivered_alike a.plan.epoch q number x.from x.to s.moments) (λ j. no_install a.plan.epoch j number x.from x.to s.moments) (h left n y a up has))
happening_told c s (Strays number x) fits apart may k w u h =
    let t : Scene = telling (entry.Packet (packet.Delivered number x.from x.to)) (removed s number) in
    λ left n y a up has. told_at (λ e q. asked_in e q s.moments) (λ e q. asked_in e q t.moments) a (λ q. delivered_alike a.plan.epoch q number x.from x.to s.moments) (λ j. no_install a.plan.epoch j number x.from x.to s.moments) (h left n y a up has)
happening_told c s (Misses number x) fits apart may k w u h = h
happening_told c s (Loses number x) fits apart may k w u h = h
happening_told c s (Repeats number x) fits apart may k w u h = copied_told number x.from x.to x.bytes s h
happening_told c s (Commands n d q now ends) fits apart may k w u h =
    let o : Option Device = slice_get s.devices (d - 1) in
    taking_told c s (commanded s n d q).scene n now ends (input.Answered (commanded s n d q).answer) may.0.1 fits apart k (commanded_nodes s n d o q) (at_all (s.nodes.node n)) u (commanded_told s n d o q h)
happening_told c s (Writes n d value now ends) fits apart may k w u h =
    let q : PrCommand = command.Write value in
    let o : Option Device = slice_get s.devices (d - 1) in
    taking_told c s (commanded s n d q).scene n now ends (input.Wrote d value (commanded s n d q).answer) may.0.1 fits apart k (commanded_nodes s n d o q) (at_all (s.nodes.node n)) u (commanded_told s n d o q h)
happening_told c s (Refuses n d value why) fits apart may k w u h = h

none_up : (x : UpNode) → Down ≡ Up x → ⊥
none_up x is = subst (IsAt (λ y. ⊥)) is tt

first_told : (h : Header) (cells : ℕ) → SceneTold (first_scene h cells)
unfolding first_scene
first_told h cells left n x a up has = absurd (none_up x up)

pub run_told : (h : Header) (cells : ℕ) (hs : List Happening) → IsSmall h → MayAllHappen (first_cluster h) (first_scene h cells) hs → SceneTold (all_happened (first_cluster h) (first_scene h cells) hs)
run_told h cells hs size may =
    holds_of_each h cells SceneTold
    (λ s x now at more so. happening_told (first_cluster h) s x (first_fit h size.few) (are_apart 1 h.devices) now (known_scene h cells s size at) (ways_at (first_cluster h) s (knows_at h cells s size at)) (ways_at (first_cluster h) (happened (first_cluster h) s x) (knows_at h cells (happened (first_cluster h) s x) size more)) so)
    (first_told h cells) hs may
