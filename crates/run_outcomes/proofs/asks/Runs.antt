-- In each run an attempt asked those members to seize quorum devices that its entries have.
use Rattle.std.specs.Prelude.{All, ℕ, ◌-◌, ◌==◌, ◌≡◌, ◌≢◌, ◌⊎◌, ◌≤◌, Bool, true, false, List, Option, None, Some, slice_get}
use Rattle.std.specs.List.{AllByRecursion, list_any}
use Rattle.std.specs.Option.{option_and_then}
use Rattle.std.proofs.Common.{arith, refl, sym, ap, subst, ◌∙◌, inl, inr}
use Rattle.attempt_laws.specs.Asking.{AreApart, entry_of, numbers_of}
use Rattle.cl_base.specs.declared.header.Header.{Header}
use Rattle.cl_base.specs.declared.method.Outcome as method
use Rattle.cl_base.specs.declared.packet.DropCause.{DropCause}
use Rattle.cmm_attempt.specs.Attempts.{AttemptState}
use Rattle.cmm_attempt.specs.Calls.{IsDevice}
use Rattle.cmm_attempt.specs.declared.seizing.Seizing.{Seizing}
use Rattle.history.specs.Letters.{sends}
use Rattle.history.specs.Moment.{Moment, Said}
use Rattle.history.specs.Names as name
use Rattle.history.specs.Order.{since}
use Rattle.history.specs.Seizing.{is_attempt}
use Rattle.history.specs.Setting.{coordinator}
use Rattle.interconnect.specs.Links as net
use Rattle.interconnect.specs.Links.{sending}
use Rattle.machine_base.proofs.Puts.{put_here, put_there, same_or_not}
use Rattle.machine_base.specs.Put.{put}
use Rattle.node_model.specs.Steps.{Outcome, stepped}
use Rattle.node_model.specs.declared.cluster.Cluster.{Cluster}
use Rattle.node_model.specs.declared.input.Input.{Input}
use Rattle.node_model.specs.declared.input.Input.TheVariants as input
use Rattle.node_model.specs.declared.node.Node.{Node}
use Rattle.node_model.specs.declared.node.Node.TheVariants.{Down, Up}
use Rattle.node_model.specs.declared.node.UpNode.{UpNode}
use Rattle.node_model.specs.declared.output.Output.{Output}
use Rattle.pgr_device.specs.Device.{Device}
use Rattle.pgr_device.specs.declared.command.PrCommand.{PrCommand}
use Rattle.pgr_device.specs.declared.command.PrCommand.TheVariants as command
use Rattle.record_disk.specs.Disks.{DiskState}
use Rattle.refinement.specs.Runs.{Nodes, moved}
use Rattle.refinement.specs.Runs.Move.{Takes as Takes_in}
use Rattle.refinement.specs.Steps.{disk_rules}
use Rattle.run_attempts.proofs.Known.{known_scene}
use Rattle.run_downs.proofs.Packets.{IsNoPacket, no_packets}
use Rattle.run_history.proofs.Idle.{passing_nodes}
use Rattle.run_history.proofs.MemberRuns.{first_fit}
use Rattle.run_history.specs.Happenings.{Arrives, Begins, Commands, Happening, Loses, MayAllHappen, MayHappen, Misses, Notes, Refuses, Repeats, Speaks, Strays, Takes as Takes_plain, Writes, all_happened, armed_by, commanded, commanded_at, given_by, happened, removed, taking}
use Rattle.run_history.specs.Scenes.{Scene, adding, dropped_so, first_scene, telling, with_links}
use Rattle.run_messages.proofs.Reaching.{IsReached, IsSmall, holds_of_each}
use Rattle.run_messages.specs.records.Kept.{KnownScene}
use Rattle.schedule_text.specs.declared.event.Event.{Event}
use Rattle.schedule_text.specs.declared.event.Event.TheVariants as event
use Rattle.schedule_text.specs.declared.line.Line.TheVariants as line
use Rattle.status_report.specs.declared.entry.Entry.TheVariants as entry
use Rattle.status_report.specs.declared.packet_entry.PacketEntry.TheVariants as packet
use Rattle.world_model.specs.First.{first_cluster}
use Rattle.run_outcomes.specs.phases.Kept.{In}
use Rattle.run_outcomes.specs.saves.Kept.{IsAt}
use Rattle.run_outcomes.specs.tasks.Asks.{Told, has_for, last_for}
use Rattle.run_outcomes.specs.tasks.AsksCourses.{AttemptTold, HasTold, Tally, then_given}
use Rattle.run_outcomes.specs.tasks.AsksGiven.{BeginsOwn, IsLeft, asked_in}
use Rattle.run_outcomes.specs.tasks.Laws.{AsksAreTold, has_asked, other_seizer}
use Rattle.run_outcomes.proofs.asks.Firsts.{coordinator_first, coordinator_is}
use Rattle.run_outcomes.proofs.asks.Lines.{any_asked, dropped_asked, dropped_next, last_asked, left_before, others_asked, passing_asked, passing_next, sending_next}
use Rattle.run_outcomes.proofs.asks.Steps.{EndsTold, step_own, step_told}
use Rattle.run_outcomes.proofs.phases.Promised.{HasIt, has_it}
use Rattle.run_outcomes.proofs.phases.Runs.{knows_at, ways_at}
use Rattle.run_outcomes.proofs.phases.Taken.{Ways}
use Rattle.run_outcomes.proofs.asks.Devices.{are_apart}

-- ---- the attempts of all nodes

abbrev AllTold : Nodes → List Moment → Type 0
AllTold v ms = (n : ℕ) (x : UpNode) (a : AttemptState) → v.node n ≡ Up x → x.attempt ≡ Some a → AttemptTold (λ e d. asked_in e d ms) a

-- .. while a packet number is left
abbrev SceneTold : Scene → Type 0
SceneTold s = IsLeft s.links.next → AllTold s.nodes s.moments

at_node : (v : Nodes) (ms : List Moment) (n : ℕ) → AllTold v ms → IsAt (λ x. HasTold x (λ e d. asked_in e d ms)) (v.node n)
at_node v ms n h = by_node (v.node n) refl
  where
    by_attempt : (x : UpNode) (o : Option AttemptState) → v.node n ≡ Up x → x.attempt ≡ o → In (AttemptTold (λ e d. asked_in e d ms)) o
    by_attempt x None up has = tt
    by_attempt x (Some a) up has = h n x a up has

    by_node : (node : Node) → v.node n ≡ node → IsAt (λ x. HasTold x (λ e d. asked_in e d ms)) node
    by_node Down is = tt
    by_node (Up x) is = by_attempt x x.attempt is refl

-- with the same members asked by this attempt
told_at : (g f : Tally) (a : AttemptState) → ((d : ℕ) → f a.plan.epoch d ≡ g a.plan.epoch d) → AttemptTold g a → AttemptTold f a
told_at g f a same h first = ((h first).0, λ d. subst (λ xs. Told d xs a) (sym (same d)) ((h first).1 d))

itself : (n k : ℕ) → n ≡ k → (n == k) ≡ true
itself n k h = grind arith

apart_from : (n k : ℕ) → (k ≡ n → ⊥) → (n == k) ≡ false
apart_from n k ne = by_test (n == k) refl
  where
    equal : (a b : ℕ) → (a == b) ≡ true → b ≡ a
    equal a b h = grind arith

    by_test : (b : Bool) → (n == k) ≡ b → b ≡ false
    by_test true is = absurd (ne (equal n k is))
    by_test false is = refl

at_up : (P : UpNode → Type 0) (node : Node) (y : UpNode) → node ≡ Up y → IsAt P node → P y
at_up P node y is h = subst (IsAt P) is h

-- ---- what comes to a node

taking_told : (c : Cluster) (s t : Scene) (n now : ℕ) (ends : method.Outcome) (i : Input) → n ≤ 32 → All IsDevice c.attached → AreApart (numbers_of c.attached) → KnownScene c s → t.nodes ≡ s.nodes → Ways (taking c n now ends i t).nodes (taking c n now ends i t).moments
    → (IsLeft t.links.next → AllTold t.nodes t.moments) → SceneTold (taking c n now ends i t)
taking_told c s t n now ends i high fits apart k same u h left j y b up has = by_node (same_or_not j n)
  where
    os : List Output
    os = given_by c n now ends i t.nodes

    w : Scene
    w = record t { nodes = moved c t.nodes (Takes_in n now ends i) }

    z : Scene
    z = taking c n now ends i t

    o : Outcome DiskState
    o = stepped disk_rules c n now ends (t.nodes.node n) (t.nodes.disk n) i

    e : ℕ
    e = b.plan.epoch

    own : coordinator e ≡ j
    own = u.own j y b up has

    before : AllTold t.nodes t.moments
    before = h (left_before t.links.next z.links.next (passing_next n os w) left)

    there : put t.nodes.node n o.after j ≡ Up y
    there = sym (ap (λ v. v.node j) (passing_nodes n os w)) ∙ up

    plain : AllByRecursion IsNoPacket os
    plain = no_packets c n now ends (t.nodes.node n) (t.nodes.disk n) i

    step : EndsTold (λ f d. asked_in f d t.moments) o
    step =
        subst (λ (v : Nodes). EndsTold (λ f d. asked_in f d t.moments) (stepped disk_rules c n now ends (v.node n) (v.disk n) i)) (sym same)
        (step_told c s n now ends i (λ f d. asked_in f d t.moments) high fits apart k (subst (λ (v : Nodes). IsAt (λ x. HasTold x (λ f d. asked_in f d t.moments)) (v.node n)) same (at_node t.nodes t.moments n before)))

    begins : AllByRecursion (BeginsOwn n) os
    begins = subst (λ (v : Nodes). AllByRecursion (BeginsOwn n) (given_by c n now ends i v)) (sym same) (step_own c s n now ends i high fits k)

    by_here : j ≡ n → AttemptTold (λ f d. asked_in f d z.moments) b
    by_here is =
        let node : o.after ≡ Up y = sym (put_here t.nodes.node n o.after) ∙ subst (λ m. put t.nodes.node n o.after m ≡ Up y) is there in
        told_at (then_given (λ f d. asked_in f d t.moments) os) (λ f d. asked_in f d z.moments) b
        (λ d. passing_asked e d n os w (itself n (coordinator e) (sym is ∙ sym own)) plain left)
        (subst (In (AttemptTold (then_given (λ f d. asked_in f d t.moments) os))) has (at_up (λ x. HasTold x (then_given (λ f d. asked_in f d t.moments) os)) o.after y node step))

    by_there : j ≢ n → AttemptTold (λ f d. asked_in f d z.moments) b
    by_there ne =
        told_at (λ f d. asked_in f d t.moments) (λ f d. asked_in f d z.moments) b
        (λ d. others_asked e d n os w (apart_from n (coordinator e) (λ is. ne (sym own ∙ is))) begins plain)
        (before j y b (sym (put_there t.nodes.node n o.after j ne) ∙ there) has)

    by_node : (j ≡ n) ⊎ (j ≢ n) → AttemptTold (λ f d. asked_in f d z.moments) b
    by_node (inl is) = by_here is
    by_node (inr ne) = by_there ne

-- ---- each thing that happens

speaks_told : (c : Cluster) (e : Event) (s : Scene) → SceneTold s → SceneTold (armed_by c e (adding (Said (line.Event e)) s))
speaks_told c (event.Fault n d done) s h left = h left
speaks_told c (event.CrashAt n calls choice) s h left = h left
speaks_told c _ s h left = h left

dropped_nodes : (o : Option (ℕ × DropCause)) (s : Scene) → (dropped_so o s).nodes ≡ s.nodes
dropped_nodes None s = refl
dropped_nodes (Some x) s = refl

copied_told : (number : ℕ) (from to : ℕ) (bytes : List ℕ) (s : Scene) → SceneTold s
    → (let o : net.Outcome = sending s.links from to bytes in SceneTold (dropped_so o.sent.dropped (telling (entry.Packet (packet.Repeated number s.links.next)) (with_links s o.after))))
copied_told number from to bytes s h left =
    let o : net.Outcome = sending s.links from to bytes in
    let q : Scene = telling (entry.Packet (packet.Repeated number s.links.next)) (with_links s o.after) in
    let t : Scene = dropped_so o.sent.dropped q in
    let was : IsLeft s.links.next = left_before s.links.next t.links.next (dropped_next s.links.next o.sent.dropped q (sending_next s.links from to bytes)) left in
    λ n x a up has. told_at (λ e d. asked_in e d s.moments) (λ e d. asked_in e d t.moments) a (λ d. dropped_asked a.plan.epoch d o.sent.dropped q)
    (h was n x a (sym (ap (λ (v : Nodes). v.node n) (dropped_nodes o.sent.dropped q)) ∙ up) has)

commanded_nodes : (s : Scene) (n d : ℕ) (o : Option Device) (k : PrCommand) → (commanded_at s n d o k).scene.nodes ≡ s.nodes
commanded_nodes s n d None k = refl
commanded_nodes s n d (Some x) k = refl

commanded_told : (s : Scene) (n d : ℕ) (o : Option Device) (k : PrCommand) → SceneTold s → SceneTold (commanded_at s n d o k).scene
commanded_told s n d None k h = h
commanded_told s n d (Some x) k h = h

happening_told : (c : Cluster) (s : Scene) (x : Happening) → All IsDevice c.attached → AreApart (numbers_of c.attached) → MayHappen c s x → KnownScene c s → Ways (happened c s x).nodes (happened c s x).moments → SceneTold s → SceneTold (happened c s x)
happening_told c s (Speaks e) fits apart may k u h = speaks_told c e s h
happening_told c s (Begins e) fits apart may k u h = h
happening_told c s (Notes e) fits apart may k u h = h
happening_told c s (Takes_plain n now ends i) fits apart may k u h = taking_told c s s n now ends i may.0.1 fits apart k refl u h
happening_told c s (Arrives number x m now ends) fits apart may k u h =
    taking_told c s (telling (entry.Packet (packet.Delivered number x.from x.to)) (removed s number)) x.to now ends (input.Packet x.from m) may.3.1 fits apart k refl u h
happening_told c s (Strays number x) fits apart may k u h = h
happening_told c s (Misses number x) fits apart may k u h = h
happening_told c s (Loses number x) fits apart may k u h = h
happening_told c s (Repeats number x) fits apart may k u h = copied_told number x.from x.to x.bytes s h
happening_told c s (Commands n d q now ends) fits apart may k u h =
    let o : Option Device = slice_get s.devices (d - 1) in
    taking_told c s (commanded s n d q).scene n now ends (input.Answered (commanded s n d q).answer) may.0.1 fits apart k (commanded_nodes s n d o q) u (commanded_told s n d o q h)
happening_told c s (Writes n d value now ends) fits apart may k u h =
    let q : PrCommand = command.Write value in
    let o : Option Device = slice_get s.devices (d - 1) in
    taking_told c s (commanded s n d q).scene n now ends (input.Wrote d value (commanded s n d q).answer) may.0.1 fits apart k (commanded_nodes s n d o q) u (commanded_told s n d o q h)
happening_told c s (Refuses n d value why) fits apart may k u h = h

none_up : (x : UpNode) → Down ≡ Up x → ⊥
none_up x is = subst (IsAt (λ y. ⊥)) is tt

first_told : (h : Header) (cells : ℕ) → SceneTold (first_scene h cells)
unfolding first_scene
first_told h cells left n x a up has = absurd (none_up x up)

pub run_told : (h : Header) (cells : ℕ) (hs : List Happening) → IsSmall h → MayAllHappen (first_cluster h) (first_scene h cells) hs → SceneTold (all_happened (first_cluster h) (first_scene h cells) hs)
run_told h cells hs size may =
    holds_of_each h cells SceneTold
    (λ s x now at more so. happening_told (first_cluster h) s x (first_fit h size.few) (are_apart 1 h.devices) now (known_scene h cells s size at) (ways_at (first_cluster h) (happened (first_cluster h) s x) (knows_at h cells (happened (first_cluster h) s x) size more)) so)
    (first_told h cells) hs may

-- ---- as history has them

last_is : (a : AttemptState) (o : Option Seizing) → last_for a.plan.coordinator o ≡ option_and_then (other_seizer a) o
last_is a None = refl
last_is a (Some e) = refl

asked_is : (a : AttemptState) (m : ℕ) (o : Option Seizing) → has_for a.plan.coordinator m o ≡ has_asked a m o
asked_is a m None = refl
asked_is a m (Some e) = refl

pub asks_are_told : AsksAreTold
asks_are_told h cells hs last few small disks may shaped native left n a at = record {
  last = λ d. last_asked a.plan.epoch d s.moments ∙ ((told d).last ∙ last_is a (entry_of a.devices d));
  asked = λ d m. ap (λ k. list_any (sends k m (name.SeizeQuorum d)) (since (is_attempt a.plan.epoch) s.moments)) own ∙ (any_asked a.plan.epoch d m s.moments ∙ ((told d).each m ∙ asked_is a m (entry_of a.devices d)));
}
  where
    s : Scene
    s = all_happened (first_cluster h) (first_scene h cells) hs

    size : IsSmall h
    size = record { few = few; small = small }

    reached : IsReached h cells s
    reached = record { happenings = hs; may = may; is = refl }

    it : HasIt (s.nodes.node n) a
    it = has_it (s.nodes.node n) a at

    own : a.plan.coordinator ≡ coordinator a.plan.epoch
    own = coordinator_is h cells s size reached n it.x a it.up it.has

    told : (d : ℕ) → Told d (asked_in a.plan.epoch d s.moments) a
    told = (run_told h cells hs size may left n it.x a it.up it.has (coordinator_first h cells s size reached n it.x a it.up it.has)).1
