-- In each scene of a run the members carry out orders of their membership, and each order was sent by a member in its own.
use Rattle.std.specs.Prelude.{ℕ, ◌-◌, ◌≡◌, ◌≢◌, ◌≤◌, ◌⊎◌, All, List, [], ◌∷◌, Option, None, Some, slice_get}
use Rattle.std.specs.List.{AllByRecursion}
use Rattle.std.proofs.Common.{sym, subst, inl, inr}
use Rattle.cl_base.specs.declared.header.Header.{Header}
use Rattle.cl_base.specs.declared.method.Outcome as method
use Rattle.cl_base.specs.declared.packet.DropCause.{DropCause}
use Rattle.cmm_attempt.specs.Calls.{IsDevice}
use Rattle.history.specs.Letters.{arrived}
use Rattle.history.specs.Member.{in_collect}
use Rattle.history.specs.Moment.{Moment, Said}
use Rattle.interconnect.specs.Links as net
use Rattle.interconnect.specs.Links.{sending}
use Rattle.machine_base.proofs.Puts.{put_here, put_there, same_or_not}
use Rattle.machine_base.specs.Put.{put}
use Rattle.membership_machine.specs.Invariant.{Holds}
use Rattle.membership_machine.specs.State.{Memberships}
use Rattle.node_model.specs.Steps.{Outcome, stepped}
use Rattle.node_model.specs.declared.cluster.Cluster.{Cluster}
use Rattle.node_model.specs.declared.input.Input.{Input}
use Rattle.node_model.specs.declared.input.Input.TheVariants as input
use Rattle.node_model.specs.declared.node.Node.{Node}
use Rattle.pgr_device.specs.Device.{Device}
use Rattle.pgr_device.specs.declared.command.PrCommand.{PrCommand}
use Rattle.pgr_device.specs.declared.command.PrCommand.TheVariants as command
use Rattle.record_disk.specs.Disks.{DiskState}
use Rattle.refinement.proofs.Disks.{disks_keep_rules}
use Rattle.refinement.proofs.Facts.{step_may}
use Rattle.refinement.proofs.Handlers.{delivered_by}
use Rattle.refinement.proofs.Replies.{steps_are_cut}
use Rattle.refinement.specs.Cuts.{doings}
use Rattle.refinement.specs.Doings.{Doing, Site, after_all, given_all, site}
use Rattle.refinement.specs.Guards.{MayAll}
use Rattle.refinement.specs.Runs.{IsAmong, Letter, Nodes, moved}
use Rattle.refinement.specs.Runs.Move.{Takes as Takes_in}
use Rattle.refinement.specs.Steps.{IsCut, disk_rules}
use Rattle.refinement.specs.Ties.{Known, MessageTold, setting_of}
use Rattle.refinement.specs.Whole.{Stands}
use Rattle.run_history.proofs.Idle.{passing_nodes}
use Rattle.run_history.proofs.LineSteps.{doings_small}
use Rattle.run_history.proofs.MemberRuns.{first_fit}
use Rattle.run_history.specs.Happenings.{Arrives, Begins, Commands, Happening, IsPlain, Loses, MayAllHappen, MayHappen, Misses, Notes, Refuses, Repeats, Speaks, Strays, Takes, Writes, all_happened, armed_by, commanded, commanded_at, given_by, happened, removed, taking}
use Rattle.run_history.specs.Scenes.{Scene, adding, dropped_so, first_scene, passing, telling, with_links}
use Rattle.run_history.specs.Stages.{Stage}
use Rattle.run_messages.proofs.Collecting.{arrival_collects, doings_collected, nothing_collects}
use Rattle.run_messages.proofs.Reaching.{IsReached, IsSmall, holds_of_each, stage_of, taking_good}
use Rattle.run_messages.proofs.Runs.{memberships_of_each_run}
use Rattle.run_messages.specs.Laws.{AreSeated}
use Rattle.run_messages.specs.Outputs.{AreGood}
use Rattle.run_messages.specs.Steps.{collecting}
use Rattle.schedule_text.specs.declared.event.Event.{Event}
use Rattle.schedule_text.specs.declared.event.Event.TheVariants as event
use Rattle.schedule_text.specs.declared.line.Line.TheVariants as line
use Rattle.status_report.specs.declared.entry.Entry.TheVariants as entry
use Rattle.status_report.specs.declared.packet_entry.PacketEntry.TheVariants as packet
use Rattle.wire.specs.declared.message.Body.{Body}
use Rattle.world_model.specs.First.{first_cluster}
use Rattle.run_packets.specs.replies.Orders.{AllSaySo, NodeOf}
use Rattle.run_packets.proofs.replies.Under.{doings_of}
use Rattle.run_packets.proofs.replies.Walk.{all_walk}

pub record Kept (s : Scene) : Type 0 where
  pub nodes : (n : ℕ) → NodeOf (s.nodes.node n)
  pub says : AllSaySo s.moments

-- what is known of a scene before a step
record Ready (c : Cluster) (s : Scene) : Type 0 where
  machine : Memberships
  holds : Holds (setting_of c) machine
  stands : (n : ℕ) → Stands c machine n (s.nodes.node n) (s.nodes.disk n).kept
  seated : AreSeated s

put_all : (P : Node → Type 0) (f : ℕ → Node) (n : ℕ) (x : Node) → P x → ((k : ℕ) → P (f k)) → (k : ℕ) → P (put f n x k)
put_all P f n x here others k = go (same_or_not k n)
  where
    go : (k ≡ n) ⊎ (k ≢ n) → P (put f n x k)
    go (inl e) = subst (λ j. P (put f n x j)) (sym e) (subst P (sym (put_here f n x)) here)
    go (inr ne) = subst P (sym (put_there f n x k ne)) (others k)

taking_kept : (c : Cluster) (s : Scene) (n now : ℕ) (ends : method.Outcome) (i : Input) → n ≤ 32 → All IsDevice c.attached → (r : Ready c s) → Known r.machine (delivered_by i) → in_collect n s.moments ≡ collecting (delivered_by i)
    → AreGood n (given_by c n now ends i s.nodes) → Kept s → Kept (taking c n now ends i s)
taking_kept c s n now ends i low fits r known at good h =
    let o : Outcome DiskState = stepped disk_rules c n now ends (s.nodes.node n) (s.nodes.disk n) i in
    let cut : IsCut disk_rules c n now ends (s.nodes.node n) (s.nodes.disk n) i [] o = steps_are_cut disk_rules disks_keep_rules c n now ends (s.nodes.node n) (s.nodes.disk n) i in
    let x : Site = site (s.nodes.node n) (s.nodes.disk n).kept in
    let ds : List Doing = doings c n now ends cut.replies i (s.nodes.node n) in
    let u : Scene = record s { nodes = moved c s.nodes (Takes_in n now ends i) } in
    let may : MayAll c n (delivered_by i) x ds = step_may c r.machine n now ends (s.nodes.node n) (s.nodes.disk n).kept i cut.replies low fits r.holds (r.stands n).tied (r.stands n).joins in
    let all : NodeOf (after_all c n x ds).node × AllSaySo (passing n (given_all c n x ds) u).moments =
    all_walk c n (delivered_by i) ds r.machine x u fits r.holds known (r.stands n).tied may (doings_of c n now ends cut.replies i (s.nodes.disk n).kept (s.nodes.node n))
    (doings_small c n now ends cut.replies i (s.nodes.node n) (s.nodes.disk n).kept) (doings_collected c n now ends cut.replies i (s.nodes.node n)) at (subst (AreGood n) (sym cut.comes.given) good) (r.seated n) (h.nodes n) h.says in
    record {
      nodes = subst (λ (w : Nodes). (k : ℕ) → NodeOf (w.node k)) (sym (passing_nodes n o.given u))
          (put_all NodeOf s.nodes.node n o.after (subst (λ (z : Site). NodeOf z.node) cut.comes.left all.0) h.nodes);
      says = subst (λ os. AllSaySo (passing n os u).moments) cut.comes.given all.1;
    }

pub told_among : (M : Memberships) (from : ℕ) (b : Body) (ls : List Letter) → IsAmong from b ls → AllByRecursion (λ (l : Letter). MessageTold M l.from l.body) ls → MessageTold M from b
told_among M from b [] h all = absurd h
told_among M from b (l ∷ ls) (inl e) all = subst (λ z. MessageTold M z b) e.0 (subst (λ z. MessageTold M l.from z) e.1 all.0)
told_among M from b (l ∷ ls) (inr h) all = told_among M from b ls h all.1

plain_known : (M : Memberships) (i : Input) → IsPlain i → Known M (delivered_by i)
plain_known M (input.Packet from m) plain = absurd plain
plain_known M _ plain = tt

plain_collects : (n : ℕ) (ms : List Moment) (i : Input) → IsPlain i → arrived ms ≡ None → in_collect n ms ≡ collecting (delivered_by i)
plain_collects n ms (input.Packet from m) plain h = absurd plain
plain_collects n ms _ plain h = nothing_collects n ms h

abbrev ready_of : (c : Cluster) (s : Scene) → Stage c s → AreSeated s → Ready c s
ready_of c s b seated = record { machine = b.machine; holds = b.holds; stands = b.stands; seated = seated }

commanded_ready : (c : Cluster) (s : Scene) (n d : ℕ) (o : Option Device) (k : PrCommand) → Ready c s → Ready c (commanded_at s n d o k).scene
commanded_ready c s n d None k r = r
commanded_ready c s n d (Some x) k r = record { machine = r.machine; holds = r.holds; stands = r.stands; seated = r.seated }

commanded_kept : (s : Scene) (n d : ℕ) (o : Option Device) (k : PrCommand) → Kept s → Kept (commanded_at s n d o k).scene
commanded_kept s n d None k h = h
commanded_kept s n d (Some x) k h = record { nodes = h.nodes; says = h.says }

commanded_collects : (s : Scene) (n d j : ℕ) (o : Option Device) (k : PrCommand) → arrived s.moments ≡ None → in_collect j (commanded_at s n d o k).scene.moments ≡ collecting None
commanded_collects s n d j None k h = nothing_collects j s.moments h
commanded_collects s n d j (Some x) k h = nothing_collects j s.moments h

armed_kept : (c : Cluster) (e : Event) (s : Scene) → Kept s → Kept (armed_by c e s)
armed_kept c (event.Fault n d done) s h = record { nodes = h.nodes; says = h.says }
armed_kept c (event.CrashAt n calls choice) s h = record { nodes = h.nodes; says = h.says }
armed_kept c _ s h = h

dropped_kept : (o : Option (ℕ × DropCause)) (s : Scene) → Kept s → Kept (dropped_so o s)
dropped_kept None s h = h
dropped_kept (Some x) s h = record { nodes = h.nodes; says = (tt, h.says) }

happening_kept : (c : Cluster) (s : Scene) (x : Happening) → All IsDevice c.attached → MayHappen c s x → Stage c s → Stage c (happened c s x) → AreSeated s → Kept s → Kept (happened c s x)
happening_kept c s (Speaks e) fits may b after seated h = armed_kept c e (adding (Said (line.Event e)) s) (record { nodes = h.nodes; says = (tt, h.says) })
happening_kept c s (Begins e) fits may b after seated h = record { nodes = h.nodes; says = (tt, h.says) }
happening_kept c s (Notes e) fits may b after seated h = record { nodes = h.nodes; says = (tt, h.says) }
happening_kept c s (Takes n now ends i) fits may b after seated h =
    taking_kept c s n now ends i may.0.1 fits (ready_of c s b seated) (plain_known b.machine i may.1) (plain_collects n s.moments i may.1 may.3) (taking_good c s n now ends i after) h
happening_kept c s (Arrives number x m now ends) fits may b after seated h =
    let u : Scene = telling (entry.Packet (packet.Delivered number x.from x.to)) (removed s number) in
    taking_kept c u x.to now ends (input.Packet x.from m) may.3.1 fits (record { machine = b.machine; holds = b.holds; stands = b.stands; seated = seated }) (told_among b.machine x.from m.body s.nodes.sent may.4 b.sent)
    (arrival_collects c s number x m may.0 may.1 b) (taking_good c u x.to now ends (input.Packet x.from m) after) (record { nodes = h.nodes; says = (tt, h.says) })
happening_kept c s (Strays number x) fits may b after seated h = record { nodes = h.nodes; says = (tt, h.says) }
happening_kept c s (Misses number x) fits may b after seated h = record { nodes = h.nodes; says = (tt, h.says) }
happening_kept c s (Loses number x) fits may b after seated h = record { nodes = h.nodes; says = (tt, h.says) }
happening_kept c s (Repeats number x) fits may b after seated h =
    let o : net.Outcome = sending s.links x.from x.to x.bytes in
    dropped_kept o.sent.dropped (telling (entry.Packet (packet.Repeated number s.links.next)) (with_links s o.after)) (record { nodes = h.nodes; says = (tt, h.says) })
happening_kept c s (Commands n d k now ends) fits may b after seated h =
    let o : Option Device = slice_get s.devices (d - 1) in
    taking_kept c (commanded s n d k).scene n now ends (input.Answered (commanded s n d k).answer) may.0.1 fits (commanded_ready c s n d o k (ready_of c s b seated)) tt (commanded_collects s n d n o k may.4)
    (taking_good c (commanded s n d k).scene n now ends (input.Answered (commanded s n d k).answer) after) (commanded_kept s n d o k h)
happening_kept c s (Writes n d value now ends) fits may b after seated h =
    let o : Option Device = slice_get s.devices (d - 1) in
    let k : PrCommand = command.Write value in
    taking_kept c (commanded s n d k).scene n now ends (input.Wrote d value (commanded s n d k).answer) may.0.1 fits (commanded_ready c s n d o k (ready_of c s b seated)) tt (commanded_collects s n d n o k may.3)
    (taking_good c (commanded s n d k).scene n now ends (input.Wrote d value (commanded s n d k).answer) after) (commanded_kept s n d o k h)
happening_kept c s (Refuses n d value cause) fits may b after seated h = record { nodes = h.nodes; says = (tt, h.says) }

-- ---- a run

first_kept : (h : Header) (cells : ℕ) → Kept (first_scene h cells)
unfolding first_scene
first_kept h cells = record { nodes = λ n. tt; says = tt }

pub seated_of : (h : Header) (cells : ℕ) (s : Scene) → IsSmall h → IsReached h cells s → AreSeated s
seated_of h cells s size r = subst AreSeated r.is (memberships_of_each_run h cells r.happenings size.few size.small r.may)

pub kept_in_each : (h : Header) (cells : ℕ) (hs : List Happening) → IsSmall h → MayAllHappen (first_cluster h) (first_scene h cells) hs → Kept (all_happened (first_cluster h) (first_scene h cells) hs)
kept_in_each h cells hs size may =
    holds_of_each h cells Kept
    (λ s x now at more all. happening_kept (first_cluster h) s x (first_fit h size.few) now (stage_of h cells s size at) (stage_of h cells (happened (first_cluster h) s x) size more) (seated_of h cells s size at) all)
    (first_kept h cells) hs may
