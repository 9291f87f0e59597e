-- In each run the own tasks of a coordinator are those that its attempt asks it for.
use Rattle.std.specs.Prelude.{ℕ, ◌-◌, nat_le, ◌≡◌, ◌≤◌, ◌==◌, true, List, length, Option, None, Some, slice_get}
use Rattle.std.specs.List.{AllByRecursion}
use Rattle.std.proofs.Common.{refl, sym, ap, subst, ◌∙◌}
use Rattle.attempt_laws.specs.Staying.{IsBefore, IsFinal}
use Rattle.cl_base.specs.declared.header.Header.{Header}
use Rattle.cl_base.specs.declared.method.Outcome as method
use Rattle.cl_base.specs.declared.packet.DropCause.{DropCause}
use Rattle.cl_base.specs.Sets.{has}
use Rattle.cluster_ties.specs.Told.{ToldOf}
use Rattle.cmm_attempt.proofs.Basics.{and_cases, same_number}
use Rattle.cmm_attempt.specs.Attempts.{AttemptState}
use Rattle.cmm_attempt.specs.declared.phase.Phase.{Phase}
use Rattle.cmm_attempt.specs.declared.phase.Phase.TheVariants.{Choosing, Collecting, Installing, Over, SeizingOthers, SeizingVotes}
use Rattle.device_queue.specs.Queue.{after_seize}
use Rattle.history.specs.Moment.{Said}
use Rattle.history.specs.Setting.{coordinator}
use Rattle.interconnect.specs.Links as net
use Rattle.interconnect.specs.Links.{Packet, packet_of, sending}
use Rattle.machine_base.proofs.Puts.{put_cases}
use Rattle.node_model.specs.Seats.{is_in, record_of, session_of}
use Rattle.node_model.specs.Steps.{stepped}
use Rattle.node_model.specs.declared.cluster.Cluster.{Cluster}
use Rattle.node_model.specs.declared.input.Input.{Input}
use Rattle.node_model.specs.declared.input.Input.TheVariants as input
use Rattle.node_model.specs.declared.node.Node.{Node}
use Rattle.node_model.specs.declared.node.Node.TheVariants.{Down, Up}
use Rattle.node_model.specs.declared.node.UpNode.{UpNode}
use Rattle.pgr_device.specs.Device.{Device}
use Rattle.pgr_device.specs.declared.command.PrCommand.{PrCommand}
use Rattle.pgr_device.specs.declared.command.PrCommand.TheVariants as command
use Rattle.refinement.proofs.Worlds.{all_found}
use Rattle.refinement.specs.Doings.{changed}
use Rattle.refinement.specs.Doings.Change.{Installs}
use Rattle.refinement.specs.Runs.{Nodes, moved}
use Rattle.refinement.specs.Runs.Move.{Takes as Takes_in}
use Rattle.refinement.specs.Steps.{disk_rules}
use Rattle.schedule_text.specs.declared.event.Event.{Event}
use Rattle.schedule_text.specs.declared.event.Event.TheVariants as event
use Rattle.schedule_text.specs.declared.line.Line.TheVariants as line
use Rattle.seize.specs.Seizing as seizing
use Rattle.seize.specs.Seizing.{SeizeState}
use Rattle.seize.specs.declared.kind.SeizeKind.{SeizeKind}
use Rattle.seize.specs.declared.kind.SeizeKind.TheVariants.{Plain, Vote}
use Rattle.status_report.specs.declared.entry.Entry.TheVariants as entry
use Rattle.status_report.specs.declared.packet_entry.PacketEntry.TheVariants as packet
use Rattle.wire.specs.Reads.{whole_of}
use Rattle.wire.specs.declared.message.Body.{Body}
use Rattle.wire.specs.declared.message.Body.TheVariants as body
use Rattle.wire.specs.declared.message.Install.{Install}
use Rattle.wire.specs.declared.message.Message.{Message}
use Rattle.world_model.specs.First.{first_cluster}
use Rattle.run_history.proofs.Idle.{passing_nodes}
use Rattle.run_history.specs.Happenings.{Arrives, Commands, Happening, IsPlain, MayAllHappen, MayHappen, Repeats, Speaks, Takes as Takes_plain, Writes, all_happened, armed_by, commanded, commanded_at, given_by, happened, removed, taking}
use Rattle.run_history.specs.Scenes.{Scene, adding, dropped_so, first_scene, telling, with_links}
use Rattle.run_history.specs.Wholes.{PacketTold}
use Rattle.run_messages.proofs.Reaching.{IsReached, IsSmall, holds_of_each}
use Rattle.run_seizings.specs.Seized.{IsInstalled, StandsSo, has_installed}
use Rattle.run_seizings.specs.Sites.{Posted}
use Rattle.run_outcomes.specs.phases.Kept.{In}
use Rattle.run_outcomes.specs.saves.Kept.{IsAt}
use Rattle.run_outcomes.specs.tasks.Laws.{OwnSo, OwnTasksAreAsked}
use Rattle.run_outcomes.specs.tasks.Own.{BodySo, InputSo, IsEarly, IsOfOthers, Leads, Owned, Owns}
use Rattle.run_outcomes.proofs.own_tasks.Arrivals.{asked_so, seized_so}
use Rattle.run_outcomes.proofs.own_tasks.Grounds.{Ground, ground_at, leads_at, seizing_at}
use Rattle.run_outcomes.proofs.own_tasks.Inputs.{step_owned}
use Rattle.run_outcomes.proofs.own_tasks.Least.{least_first}
use Rattle.run_outcomes.proofs.own_tasks.Matching.{devices_of, earlier_of, last_of, not_both}
use Rattle.run_outcomes.proofs.own_tasks.Turns.{final_owns}

abbrev pub AllOwned : Scene → Type 0
AllOwned s = (n : ℕ) → IsAt (Owned n) (s.nodes.node n)

-- ---- what comes to a node

final_of : (p : Phase) → (IsBefore p → ⊥) → IsFinal p
final_of Collecting f = f tt
final_of Choosing f = f tt
final_of SeizingVotes f = f tt
final_of SeizingOthers f = f tt
final_of Installing f = tt
final_of Over f = tt

-- its coordinator has installed it
pub installed_final : (h : Header) (s : Scene) (n : ℕ) (i : Install) (x : UpNode) (a : AttemptState) → Ground h s n x a → IsInstalled s.moments i.epoch → is_in x i.epoch ≡ true → IsFinal a.phase
installed_final h s n i x a g installed is =
    final_of a.phase (λ before. not_both (has_installed n a.plan.epoch s.moments)
    (subst (λ q. has_installed n q s.moments ≡ true) (sym same) (subst (λ k. has_installed k i.epoch s.moments ≡ true) (ap coordinator (sym same) ∙ g.so.own) installed.2)) (g.so.before before))
  where
    same : a.plan.epoch ≡ i.epoch
    same = g.so.epoch ∙ same_number (session_of x) i.epoch (and_cases (nat_le 1 i.epoch) (session_of x == i.epoch) is).1

-- what is known of the attempt of a node as a message comes
abbrev pub Known : Header → Scene → ℕ → UpNode → ℕ → Body → Type 0
Known h s n x from b = (a : AttemptState) → x.attempt ≡ Some a → (g : Ground h s n x a) × ToldOf g.whole.machine from n b

pub of_attempt : (x : UpNode) (P : AttemptState → Type 0) → ((a : AttemptState) → x.attempt ≡ Some a → P a) → In P x.attempt
of_attempt x P f = by_attempt x.attempt refl
  where
    by_attempt : (o : Option AttemptState) → x.attempt ≡ o → In P o
    by_attempt None is = tt
    by_attempt (Some a) is = f a is

pub owned_of : (n : ℕ) (x : UpNode) (a : AttemptState) → Owned n x → x.attempt ≡ Some a → Owns n x.tasks a
owned_of n x a h is = subst (In (Owns n x.tasks)) is h

body_so : (h : Header) (s : Scene) (n : ℕ) (x : UpNode) (from : ℕ) (b : Body) → Known h s n x from b → StandsSo h s.moments from b → Owned n x → BodySo (first_cluster h) n x from b
body_so h s n x from (body.Seized e d r) known stands own =
    of_attempt x (λ a. IsOfOthers a from (body.Seized e d r))
    (λ a is seizes same self. let k : (g : Ground h s n x a) × ToldOf g.whole.machine from n (body.Seized e d r) = known a is in seized_so h s n from e d r x a k.0 k.1 (owned_of n x a own is) seizes same self)
body_so h s n x from (body.SeizeQuorum e members d) known stands own = λ here.
    of_attempt x (Owns n (after_seize x.tasks d (begun Vote e members)))
    (λ a is. let k : (g : Ground h s n x a) × ToldOf g.whole.machine from n (body.SeizeQuorum e members d) = known a is in asked_so h s n e members d Vote x a (begun Vote e members) k.0 k.1 (owned_of n x a own is) here)
  where
    begun : SeizeKind → ℕ → ℕ → SeizeState
    begun kind q set = seizing.begun kind q set n (first_cluster h).id (has (record_of x).valid d)
body_so h s n x from (body.SeizeData e members d) known stands own = λ here.
    of_attempt x (Owns n (after_seize x.tasks d (begun Plain e members)))
    (λ a is. let k : (g : Ground h s n x a) × ToldOf g.whole.machine from n (body.SeizeData e members d) = known a is in asked_so h s n e members d Plain x a (begun Plain e members) k.0 k.1 (owned_of n x a own is) here)
  where
    begun : SeizeKind → ℕ → ℕ → SeizeState
    begun kind q set = seizing.begun kind q set n (first_cluster h).id (has (record_of x).valid d)
body_so h s n x from (body.Install i) known stands own = λ here t seat fresh.
    of_attempt x (Owns n (changed (first_cluster h) n x (Installs t i)).tasks)
    (λ a is. let k : (g : Ground h s n x a) × ToldOf g.whole.machine from n (body.Install i) = known a is in final_owns n (changed (first_cluster h) n x (Installs t i)).tasks a (installed_final h s n i x a k.0 stands.0 here))
body_so h s n x from _ known stands own = tt

pub arrives_so : (h : Header) (cells : ℕ) (s : Scene) (number : ℕ) (p : Packet) (m : Message) → IsSmall h → IsReached h cells s → packet_of s.links.packets number ≡ Some p → whole_of p.bytes ≡ Some m → AllOwned s
    → IsAt (λ x. InputSo (first_cluster h) p.to x (input.Packet p.from m)) (s.nodes.node p.to)
arrives_so h cells s number p m size r here whole own = by_node (s.nodes.node p.to) refl (own p.to)
  where
    stands : StandsSo h s.moments p.from m.body
    stands = ((all_found (Posted h s.moments s.links.next) (λ (q : Packet). q.number == number) s.links.packets p (seizing_at h cells s size r).carried here).says m whole).2

    by_node : (node : Node) → s.nodes.node p.to ≡ node → IsAt (Owned p.to) node → IsAt (λ x. InputSo (first_cluster h) p.to x (input.Packet p.from m)) node
    by_node Down is h = tt
    by_node (Up x) is h =
        body_so _ s p.to x p.from m.body
        (λ a has_it. let g : Ground _ s p.to x a = ground_at _ cells s p.to x a size r is has_it in
        (g, all_found (PacketTold g.whole.machine) (λ (q : Packet). q.number == number) s.links.packets p g.whole.flying here m whole)) stands h

-- ---- each thing that happens

taking_owned : (c : Cluster) (s t : Scene) (n now : ℕ) (ends : method.Outcome) (i : Input) → t.nodes ≡ s.nodes → IsAt (Leads n) (s.nodes.node n) → IsAt (λ x. InputSo c n x i) (s.nodes.node n) → AllOwned s
    → AllOwned (taking c n now ends i t)
taking_owned c s t n now ends i same leads so h =
    subst (λ (v : Nodes). (j : ℕ) → IsAt (Owned j) (v.node j)) (sym (passing_nodes n (given_by c n now ends i t.nodes) (record t { nodes = moved c t.nodes (Takes_in n now ends i) })))
    (subst (λ (v : Nodes). (j : ℕ) → IsAt (Owned j) ((moved c v (Takes_in n now ends i)).node j)) (sym same)
    (put_cases (λ j z. IsAt (Owned j) z) s.nodes.node n (stepped disk_rules c n now ends (s.nodes.node n) (s.nodes.disk n) i).after (step_owned c n now ends (s.nodes.node n) (s.nodes.disk n) i leads so (h n)) (λ j ne. h j)))

-- what is no packet
abbrev IsNoPacket : Input → Type 0
IsNoPacket (input.Packet from m) = ⊥
IsNoPacket _ = Unit {0}

plain_so : (c : Cluster) (n : ℕ) (node : Node) (i : Input) → IsNoPacket i → IsAt (λ x. InputSo c n x i) node
plain_so c n Down i plain = tt
plain_so c n (Up x) (input.Packet from m) plain = absurd plain
plain_so c n (Up x) _ plain = tt

dropped_nodes : (o : Option (ℕ × DropCause)) (s : Scene) → (dropped_so o s).nodes ≡ s.nodes
dropped_nodes None s = refl
dropped_nodes (Some x) s = refl

commanded_nodes : (s : Scene) (n d : ℕ) (o : Option Device) (k : PrCommand) → (commanded_at s n d o k).scene.nodes ≡ s.nodes
commanded_nodes s n d None k = refl
commanded_nodes s n d (Some x) k = refl

armed_owned : (c : Cluster) (e : Event) (s : Scene) → AllOwned s → AllOwned (armed_by c e (adding (Said (line.Event e)) s))
armed_owned c (event.CrashAt n calls choice) s h = h
armed_owned c (event.Fault n d done) s h = h
armed_owned c _ s h = h

happening_owned : (h : Header) (cells : ℕ) (s : Scene) (x : Happening) → IsSmall h → IsReached h cells s → MayHappen (first_cluster h) s x → AllOwned s → AllOwned (happened (first_cluster h) s x)
happening_owned h cells s (Speaks e) size r may own = armed_owned (first_cluster h) e s own
happening_owned h cells s (Takes_plain n now ends i) size r may own = taking_owned (first_cluster h) s s n now ends i refl (leads_at h cells s n size r) (plain_so (first_cluster h) n (s.nodes.node n) i (no_packet i may.1)) own
  where
    no_packet : (i : Input) → IsPlain i → IsNoPacket i
    no_packet (input.Packet from m) plain = plain
    no_packet _ plain = tt
happening_owned h cells s (Arrives number x m now ends) size r may own =
    taking_owned (first_cluster h) s (telling (entry.Packet (packet.Delivered number x.from x.to)) (removed s number)) x.to now ends (input.Packet x.from m) refl (leads_at h cells s x.to size r) (arrives_so h cells s number x m size r may.0 may.1 own) own
happening_owned h cells s (Repeats number x) size r may own =
    let o : net.Outcome = sending s.links x.from x.to x.bytes in
    subst (λ (v : Nodes). (j : ℕ) → IsAt (Owned j) (v.node j)) (sym (dropped_nodes o.sent.dropped (telling (entry.Packet (packet.Repeated number s.links.next)) (with_links s o.after)))) own
happening_owned h cells s (Commands n d q now ends) size r may own =
    let i : Input = input.Answered (commanded s n d q).answer in
    taking_owned (first_cluster h) s (commanded s n d q).scene n now ends i (commanded_nodes s n d (slice_get s.devices (d - 1)) q) (leads_at h cells s n size r) (plain_so (first_cluster h) n (s.nodes.node n) i tt) own
happening_owned h cells s (Writes n d value now ends) size r may own =
    let q : PrCommand = command.Write value in
    let i : Input = input.Wrote d value (commanded s n d q).answer in
    taking_owned (first_cluster h) s (commanded s n d q).scene n now ends i (commanded_nodes s n d (slice_get s.devices (d - 1)) q) (leads_at h cells s n size r) (plain_so (first_cluster h) n (s.nodes.node n) i tt) own
happening_owned h cells s _ size r may own = own

first_owned : (h : Header) (cells : ℕ) → AllOwned (first_scene h cells)
unfolding first_scene
first_owned h cells n = tt

pub run_owned : (h : Header) (cells : ℕ) (hs : List Happening) → IsSmall h → MayAllHappen (first_cluster h) (first_scene h cells) hs → AllOwned (all_happened (first_cluster h) (first_scene h cells) hs)
run_owned h cells hs size may = holds_of_each h cells AllOwned (λ s x now at more own. happening_owned h cells s x size at now own) (first_owned h cells) hs may

-- so the tasks of a node with an attempt are
pub owned_at : (h : Header) (cells : ℕ) (hs : List Happening) → IsSmall h → MayAllHappen (first_cluster h) (first_scene h cells) hs → (n : ℕ) (x : UpNode) (a : AttemptState)
    → (all_happened (first_cluster h) (first_scene h cells) hs).nodes.node n ≡ Up x → x.attempt ≡ Some a → Owns n x.tasks a
owned_at h cells hs size may n x a up has_it = owned_of n x a (subst (IsAt (Owned n)) up (run_owned h cells hs size may n)) has_it

-- ---- the law

-- so it is at each point of a run
pub own_tasks_at : (h : Header) (cells : ℕ) (hs : List Happening) → IsSmall h → MayAllHappen (first_cluster h) (first_scene h cells) hs → (n : ℕ) (x : UpNode) (a : AttemptState)
    → (all_happened (first_cluster h) (first_scene h cells) hs).nodes.node n ≡ Up x → x.attempt ≡ Some a → OwnSo x a
own_tasks_at h cells hs size may n x a up has_it = record {
  least = subst (AllByRecursion (λ m. a.plan.coordinator ≤ m)) (sym g.ordered.plan.nodes) (least_first a.plan.members 32 a.plan.coordinator (ap (λ ns. slice_get ns 0) (sym g.ordered.plan.nodes) ∙ g.ordered.plan.first));
  idle = λ is. ap (λ ts. length ts) (own.idle (subst IsEarly (sym is) tt));
  devices = λ is. devices_of a.plan.coordinator a.promises a.devices x.tasks (own.seizes is g.ordered);
  last = λ is d e entry seizer. last_of a.plan.coordinator a.promises a.devices x.tasks d e (own.seizes is g.ordered) entry seizer;
  earlier = λ is d e entry asked other. earlier_of a.plan.coordinator a.promises a.devices x.tasks d e (own.seizes is g.ordered) entry asked other;
}
  where
    c : Cluster
    c = first_cluster h

    s : Scene
    s = all_happened c (first_scene h cells) hs

    g : Ground h s n x a
    g = ground_at h cells s n x a size (record { happenings = hs; may = may; is = refl }) up has_it

    own : Owns n x.tasks a
    own = owned_at h cells hs size may n x a up has_it

pub own_tasks_are_asked : OwnTasksAreAsked
own_tasks_are_asked h cells hs last few small disks may shaped native n x a up has_it = own_tasks_at h cells hs (record { few = few; small = small }) may n x a up has_it
