-- In each run the Promises that an attempt has are its coordinator's own and those that came since it began, as they are told.
use Rattle.std.specs.Prelude.{All, ℕ, ◌-◌, ◌||◌, ◌++◌, ◌≡◌, ◌≤◌, ◌⊎◌, Bool, true, false, List, [], ◌∷◌, Option, None, Some, slice_get}
use Rattle.std.specs.List.{AllByRecursion, list_any}
use Rattle.std.proofs.Common.{refl, sym, ap, subst, ◌∙◌, inl, inr}
use Rattle.cl_base.specs.declared.header.Header.{Header}
use Rattle.cl_base.specs.declared.packet.DropCause.{DropCause}
use Rattle.cl_base.specs.declared.packet.DropCause.TheVariants as drop
use Rattle.cmm_attempt.specs.Attempts.{AttemptState}
use Rattle.history.specs.Moment.{Moment, Part, Said, Told}
use Rattle.history.specs.Trace.{delivered}
use Rattle.interconnect.specs.Links as net
use Rattle.interconnect.specs.Links.{Packet, packet_of, sending}
use Rattle.cmm_member.specs.Records.{NodeRecord}
use Rattle.membership_machine.specs.State.{Memberships}
use Rattle.node_model.specs.Seats.{record_of}
use Rattle.node_model.specs.declared.cluster.Cluster.{Cluster}
use Rattle.node_model.specs.declared.input.Input.{Input}
use Rattle.node_model.specs.declared.input.Input.TheVariants as input
use Rattle.node_model.specs.declared.node.Node.TheVariants.{Down, Up}
use Rattle.node_model.specs.declared.node.UpNode.{UpNode}
use Rattle.pgr_device.specs.Device.{Device}
use Rattle.pgr_device.specs.declared.command.PrCommand.{PrCommand}
use Rattle.pgr_device.specs.declared.command.PrCommand.TheVariants as command
use Rattle.refinement.specs.Runs.{Nodes, moved}
use Rattle.schedule_text.specs.declared.event.Event.{Event}
use Rattle.schedule_text.specs.declared.event.Event.TheVariants as event
use Rattle.schedule_text.specs.declared.line.Line.TheVariants as line
use Rattle.status_report.specs.declared.device_entry.DeviceEntry.TheVariants as device
use Rattle.status_report.specs.declared.entry.Entry.TheVariants as entry
use Rattle.status_report.specs.declared.packet_entry.PacketEntry.TheVariants as packet
use Rattle.world_model.specs.First.{first_cluster}
use Rattle.run_history.specs.Happenings.{Arrives, Begins, Commands, Happening, IsPlain, Loses, MayAllHappen, MayHappen, Misses, Notes, Refuses, Repeats, Speaks, Strays, Takes as Takes_plain, Writes, all_happened, armed_by, commanded, commanded_at, happened, removed, taking}
use Rattle.run_history.specs.Scenes.{Scene, adding, dropped_so, first_scene, telling, with_links}
use Rattle.run_messages.proofs.Reaching.{IsSmall}
use Rattle.run_messages.specs.records.Kept.{AttemptIn, Came, KnownScene, NodeKept}
use Rattle.run_messages.proofs.records.Arrivals.{arrived_kept}
use Rattle.run_messages.proofs.records.Letters.{letter_sound}
use Rattle.run_outcomes.specs.saves.Kept.{IsAt}
use Rattle.run_packets.proofs.views.Strays.{no_stray}
use Rattle.run_outcomes.proofs.phases.Lines.{copied_follows, follows_one}
use Rattle.std.proofs.lemmas.List.Elements.{All-head, All-tail}
use Rattle.cmm_attempt.proofs.Basics.{false_true}
use Rattle.cmm_attempt.specs.Calls.{IsDevice}
use Rattle.cmm_attempt.specs.declared.promised.Promised.{Promised}
use Rattle.history.specs.Letters.{letter_of}
use Rattle.history.specs.Records.{promise_among, promises}
use Rattle.history.specs.UnderWay.{is_under_way}
use Rattle.machine_base.proofs.Puts.{put_cases}
use Rattle.node_model.specs.Steps.{stepped}
use Rattle.refinement.proofs.Handlers.{delivered_by}
use Rattle.refinement.specs.Runs.Move.{Takes as Takes_in}
use Rattle.refinement.specs.Steps.{disk_rules}
use Rattle.run_downs.proofs.Packets.{no_packets}
use Rattle.run_history.proofs.Idle.{passing_nodes}
use Rattle.run_history.proofs.MemberRuns.{first_fit}
use Rattle.run_history.specs.Happenings.{given_by}
use Rattle.run_messages.proofs.Reaching.{holds_of_each}
use Rattle.run_messages.specs.records.Kept.{AttemptKept, HeardFrom, shows_from}
use Rattle.run_outcomes.specs.phases.Kept.{In}
use Rattle.node_model.specs.declared.node.Node.{Node}
use Rattle.cl_base.specs.declared.method.Outcome as method
use Rattle.run_outcomes.proofs.phases.Leading.{Has}
use Rattle.run_outcomes.proofs.phases.Lines.{Follows, passing_follows}
use Rattle.run_outcomes.proofs.phases.Runs.{Knows, knows_at, ways_at}
use Rattle.run_outcomes.proofs.phases.Taken.{way_of}
use Rattle.run_outcomes.proofs.shown.Heard.{HandHeard, Heard, HeardSo, hand_came, shows_so, step_heard}

-- ---- lines

any_second : {X : Type 0} (f : X → Bool) (xs ys : List X) → list_any f ys ≡ true → list_any f (xs ++ ys) ≡ true
any_second f [] ys h = h
any_second f (x ∷ xs) ys h = or_second (f x) (list_any f (xs ++ ys)) (any_second f xs ys h)
  where
    or_second : (a b : Bool) → b ≡ true → (a || b) ≡ true
    or_second true b k = refl
    or_second false b k = k

-- a packet comes
came_more : (number from k n e : ℕ) (ms : List Moment) (ps : List Promised) → AllByRecursion (HeardSo ms n e) ps → AllByRecursion (HeardSo (delivered number from k ∷ ms) n e) ps
came_more number from k n e ms [] h = tt
came_more number from k n e ms (p ∷ ps) h = (one h.0, came_more number from k n e ms ps h.1)
  where
    one : HeardSo ms n e p → HeardSo (delivered number from k ∷ ms) n e p
    one (inl own) = inl own
    one (inr told) = inr (any_second (shows_so p.shown.summary.node p.shown.valid) (promise_among e (letter_of number ms)) (promises e ms) told)

in_more : (number from k n : ℕ) (ms : List Moment) (o : Option AttemptState) → In (Heard ms n) o → In (Heard (delivered number from k ∷ ms) n) o
in_more number from k n ms None h = tt
in_more number from k n ms (Some a) h = record { own = h.own; all = came_more number from k n a.plan.epoch ms a.promises h.all }

node_more : (number from k n : ℕ) (ms : List Moment) (node : Node) → IsAt (Has (Heard ms n)) node → IsAt (Has (Heard (delivered number from k ∷ ms) n)) node
node_more number from k n ms Down h = tt
node_more number from k n ms (Up x) h = in_more number from k n ms x.attempt h

-- with the same Promises in hand, or none, where each that it has was heard
same_all : (before after : List Moment) (n e : ℕ) (ps : List Promised) → promises e after ≡ promises e before → AllByRecursion (HeardSo before n e) ps → AllByRecursion (HeardSo after n e) ps
same_all before after n e [] same h = tt
same_all before after n e (p ∷ ps) same h = (one h.0, same_all before after n e ps same h.1)
  where
    one : HeardSo before n e p → HeardSo after n e p
    one (inl own) = inl own
    one (inr told) = inr (ap (list_any (shows_so p.shown.summary.node p.shown.valid)) same ∙ told)

none_all : (after : List Moment) (n e : ℕ) (ps : List Promised) → promises e after ≡ [] → All (λ p. HeardFrom after n e p.shown.summary.node) ps → AllByRecursion (HeardSo after n e) ps
none_all after n e [] none h = tt
none_all after n e (p ∷ ps) none h = (one (All-head (λ q. HeardFrom after n e q.shown.summary.node) p ps h), none_all after n e ps none (All-tail (λ q. HeardFrom after n e q.shown.summary.node) p ps h))
  where
    one : HeardFrom after n e p.shown.summary.node → HeardSo after n e p
    one (inl own) = inl own
    one (inr told) = absurd (false_true (sym (ap (λ ls. list_any (shows_from p.shown.summary.node) ls) none) ∙ told))

-- ---- what is known of a scene

kept_of : (M : Memberships) (ms : List Moment) (n : ℕ) (r : NodeRecord) (o : Option AttemptState) (a : AttemptState) → AttemptIn M ms n r o → o ≡ Some a → AttemptKept M ms n r a
kept_of M ms n r o a h is = subst (AttemptIn M ms n r) is h

later_in : (c : Cluster) (s : Scene) (ms : List Moment) (n : ℕ) (x : UpNode) (a : AttemptState) → Knows c s → Follows ms s.moments → s.nodes.node n ≡ Up x → x.attempt ≡ Some a → Heard ms n a → Heard s.moments n a
later_in c s ms n x a k f up has h = record { own = h.own; all = by_side (f a.plan.epoch (way_of s.nodes s.moments n x a (ways_at c s k) up has)) }
  where
    kept : AttemptKept k.known.stage.machine s.moments n (record_of x) a
    kept = kept_of k.known.stage.machine s.moments n (record_of x) x.attempt a (subst (NodeKept k.known.stage.machine s.moments n) up (k.known.at n).up).attempt has

    by_side : (promises a.plan.epoch s.moments ≡ []) ⊎ ((is_under_way a.plan.epoch ms ≡ true) × (promises a.plan.epoch s.moments ≡ promises a.plan.epoch ms)) → AllByRecursion (HeardSo s.moments n a.plan.epoch) a.promises
    by_side (inl none) = none_all s.moments n a.plan.epoch a.promises none kept.heard
    by_side (inr more) = same_all ms s.moments n a.plan.epoch a.promises more.1 h.all

abbrev pub AllHeard : Scene → Type 0
AllHeard s = (n : ℕ) → IsAt (Has (Heard s.moments n)) (s.nodes.node n)

later_node : (c : Cluster) (s : Scene) (ms : List Moment) (n : ℕ) (node : Node) → Knows c s → Follows ms s.moments → s.nodes.node n ≡ node → IsAt (Has (Heard ms n)) node → IsAt (Has (Heard s.moments n)) node
later_node c s ms n Down k f at h = tt
later_node c s ms n (Up x) k f at h = by_attempt x.attempt refl h
  where
    by_attempt : (o : Option AttemptState) → x.attempt ≡ o → In (Heard ms n) o → In (Heard s.moments n) o
    by_attempt None is z = tt
    by_attempt (Some a) is z = later_in c s ms n x a k f at is z

finish : (c : Cluster) (s : Scene) (ms : List Moment) → Knows c s → Follows ms s.moments → ((n : ℕ) → IsAt (Has (Heard ms n)) (s.nodes.node n)) → AllHeard s
finish c s ms k f h n = later_node c s ms n (s.nodes.node n) k f refl (h n)

-- ---- each thing that happens

dropped_nodes : (o : Option (ℕ × DropCause)) (z : Scene) → (dropped_so o z).nodes ≡ z.nodes
dropped_nodes None z = refl
dropped_nodes (Some x) z = refl

abbrev NodesHeard : List Moment → Nodes → Type 0
NodesHeard ms v = (j : ℕ) → IsAt (Has (Heard ms j)) (v.node j)

taking_heard : (c : Cluster) (s t : Scene) (n now : ℕ) (ends : method.Outcome) (i : Input) → n ≤ 32 → All IsDevice c.attached → KnownScene c s → t.nodes ≡ s.nodes → HandHeard t.moments n (delivered_by i) → NodesHeard t.moments s.nodes
    → NodesHeard t.moments (taking c n now ends i t).nodes
taking_heard c s t n now ends i high fits k same hand h =
    subst (NodesHeard t.moments) (sym (passing_nodes n (given_by c n now ends i t.nodes) (record t { nodes = moved c t.nodes (Takes_in n now ends i) })))
    (subst (λ v. NodesHeard t.moments (moved c v (Takes_in n now ends i))) (sym same)
    (put_cases (λ j z. IsAt (Has (Heard t.moments j)) z) s.nodes.node n (stepped disk_rules c n now ends (s.nodes.node n) (s.nodes.disk n) i).after
    (step_heard c s t.moments n now ends i high fits k hand (h n)) (λ j ne. h j)))

taking_follows : (c : Cluster) (t : Scene) (n now : ℕ) (ends : method.Outcome) (i : Input) → Follows t.moments (taking c n now ends i t).moments
taking_follows c t n now ends i =
    passing_follows n (given_by c n now ends i t.nodes) (record t { nodes = moved c t.nodes (Takes_in n now ends i) }) (no_packets c n now ends (t.nodes.node n) (t.nodes.disk n) i)

speaks_follows : (c : Cluster) (e : Event) (s : Scene) → Follows s.moments (armed_by c e (adding (Said (line.Event e)) s)).moments
speaks_follows c (event.Fault n d done) s = follows_one (Said (line.Event (event.Fault n d done))) s.moments refl
speaks_follows c (event.CrashAt n calls choice) s = follows_one (Said (line.Event (event.CrashAt n calls choice))) s.moments refl
speaks_follows c e s = follows_one (Said (line.Event e)) s.moments refl

speaks_heard : (c : Cluster) (e : Event) (s : Scene) → AllHeard s → NodesHeard s.moments (armed_by c e (adding (Said (line.Event e)) s)).nodes
speaks_heard c (event.Fault n d done) s h = h
speaks_heard c (event.CrashAt n calls choice) s h = h
speaks_heard c e s h = h

plain_heard : (ms : List Moment) (n : ℕ) (i : Input) → IsPlain i → HandHeard ms n (delivered_by i)
plain_heard ms n (input.Packet from m) plain = absurd plain
plain_heard ms n _ plain = tt

commanded_nodes : (s : Scene) (n d : ℕ) (o : Option Device) (k : PrCommand) → (commanded_at s n d o k).scene.nodes ≡ s.nodes
commanded_nodes s n d None k = refl
commanded_nodes s n d (Some x) k = refl

pub commanded_moments : (s : Scene) (n d : ℕ) (o : Option Device) (k : PrCommand) → (commanded_at s n d o k).scene.moments ≡ s.moments
commanded_moments s n d None k = refl
commanded_moments s n d (Some x) k = refl

happening_heard : (c : Cluster) (s : Scene) (x : Happening) → All IsDevice c.attached → MayHappen c s x → Knows c s → Knows c (happened c s x) → AllHeard s → AllHeard (happened c s x)
happening_heard c s (Speaks e) fits may k u h = finish c (happened c s (Speaks e)) s.moments u (speaks_follows c e s) (speaks_heard c e s h)
happening_heard c s (Begins e) fits may k u h = finish c (happened c s (Begins e)) s.moments u (follows_one (Part e) s.moments refl) h
happening_heard c s (Notes e) fits may k u h = finish c (happened c s (Notes e)) s.moments u (follows_one (Told (entry.Schedule e)) s.moments refl) h
happening_heard c s (Takes_plain n now ends i) fits may k u h =
    finish c (happened c s (Takes_plain n now ends i)) s.moments u (taking_follows c s n now ends i) (taking_heard c s s n now ends i may.0.1 fits k.known refl (plain_heard s.moments n i may.1) h)
happening_heard c s (Arrives number x m now ends) fits may k u h =
    let t : Scene = telling (entry.Packet (packet.Delivered number x.from x.to)) (removed s number) in
    let came : Came (delivered number x.from x.to ∷ s.moments) x.to x.from m.body = arrived_kept c s number x m may.0 may.1 k.known in
    finish c (happened c s (Arrives number x m now ends)) t.moments u (taking_follows c t x.to now ends (input.Packet x.from m))
    (taking_heard c s t x.to now ends (input.Packet x.from m) may.3.1 fits k.known refl
    (hand_came k.known.stage.machine number x.from x.to s.moments m came (letter_sound k.known.stage.machine number s.moments came.letter k.known.sound came.here))
    (λ j. node_more number x.from x.to j s.moments (s.nodes.node j) (h j)))
happening_heard c s (Strays number x) fits may k u h = absurd (no_stray c s number x may.0 may.1 k.known k.spelled)
happening_heard c s (Misses number x) fits may k u h = finish c (happened c s (Misses number x)) s.moments u (follows_one (Told (entry.Packet (packet.Dropped number drop.Down))) s.moments refl) h
happening_heard c s (Loses number x) fits may k u h = finish c (happened c s (Loses number x)) s.moments u (follows_one (Told (entry.Packet (packet.Lost number))) s.moments refl) h
happening_heard c s (Repeats number x) fits may k u h =
    let o : net.Outcome = sending s.links x.from x.to x.bytes in
    finish c (happened c s (Repeats number x)) s.moments u (copied_follows number o s)
    (subst (NodesHeard s.moments) (sym (dropped_nodes o.sent.dropped (telling (entry.Packet (packet.Repeated number s.links.next)) (with_links s o.after)))) h)
happening_heard c s (Commands n d q now ends) fits may k u h =
    let t : Scene = (commanded s n d q).scene in
    let i : Input = input.Answered (commanded s n d q).answer in
    finish c (happened c s (Commands n d q now ends)) t.moments u (taking_follows c t n now ends i)
    (taking_heard c s t n now ends i may.0.1 fits k.known (commanded_nodes s n d (slice_get s.devices (d - 1)) q) tt
    (subst (λ ms. NodesHeard ms s.nodes) (sym (commanded_moments s n d (slice_get s.devices (d - 1)) q)) h))
happening_heard c s (Writes n d value now ends) fits may k u h =
    let q : PrCommand = command.Write value in
    let t : Scene = (commanded s n d q).scene in
    let i : Input = input.Wrote d value (commanded s n d q).answer in
    finish c (happened c s (Writes n d value now ends)) t.moments u (taking_follows c t n now ends i)
    (taking_heard c s t n now ends i may.0.1 fits k.known (commanded_nodes s n d (slice_get s.devices (d - 1)) q) tt
    (subst (λ ms. NodesHeard ms s.nodes) (sym (commanded_moments s n d (slice_get s.devices (d - 1)) q)) h))
happening_heard c s (Refuses n d value why) fits may k u h = finish c (happened c s (Refuses n d value why)) s.moments u (follows_one (Told (entry.Device (device.Refused n d value why))) s.moments refl) h

-- ---- runs

first_heard : (h : Header) (cells : ℕ) → AllHeard (first_scene h cells)
unfolding first_scene
first_heard h cells n = tt

pub run_heard : (h : Header) (cells : ℕ) (hs : List Happening) → IsSmall h → MayAllHappen (first_cluster h) (first_scene h cells) hs → AllHeard (all_happened (first_cluster h) (first_scene h cells) hs)
run_heard h cells hs size may =
    holds_of_each h cells AllHeard
    (λ s x now at more k. happening_heard (first_cluster h) s x (first_fit h size.few) now (knows_at h cells s size at) (knows_at h cells (happened (first_cluster h) s x) size more) k) (first_heard h cells) hs may
