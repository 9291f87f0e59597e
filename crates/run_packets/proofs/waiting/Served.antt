-- What comes to a node keeps its queue in order, and sends the oldest request where that is another.
use Rattle.std.specs.Prelude.{ℕ, ◌-◌, ◌≡◌, ◌≢◌, ◌≤◌, ◌⊎◌, IfSome, All, List, [], ◌∷◌, length, Option, None, Some, slice_get}
use Rattle.std.proofs.Common.{refl, ap, sym, subst, ◌∙◌, inl, inr}
use Rattle.cl_base.specs.declared.header.Header.{Header}
use Rattle.cl_base.specs.declared.method.Outcome as method
use Rattle.cmm_attempt.proofs.Basics.{none_some, same_some}
use Rattle.cmm_attempt.specs.Calls.{IsDevice}
use Rattle.history.specs.Moment.{Moment, Said}
use Rattle.history.specs.Order.{Always}
use Rattle.history.specs.Trace.{gives}
use Rattle.history_setting.specs.Settings.{setting_of as setting_in}
use Rattle.machine_base.proofs.Puts.{put_here, put_there, same_or_not}
use Rattle.membership_machine.specs.Invariant.{Holds}
use Rattle.membership_machine.specs.State.{Memberships}
use Rattle.node_model.specs.Steps.{Outcome, stepped}
use Rattle.node_model.specs.declared.cluster.Cluster.{Cluster}
use Rattle.node_model.specs.declared.input.Input.{Input}
use Rattle.node_model.specs.declared.input.Input.TheVariants as input
use Rattle.node_model.specs.declared.node.Node.{Node}
use Rattle.node_model.specs.declared.node.Node.TheVariants.{Down, Up}
use Rattle.pgr_device.specs.Device.{Device}
use Rattle.pgr_device.specs.declared.command.PrCommand.{PrCommand}
use Rattle.pgr_device.specs.declared.command.PrCommand.TheVariants as command
use Rattle.record_disk.specs.Disks.{DiskState}
use Rattle.refinement.proofs.Disks.{disks_keep_rules}
use Rattle.refinement.proofs.Facts.{step_may}
use Rattle.refinement.proofs.Handlers.{delivered_by}
use Rattle.refinement.proofs.Replies.{steps_are_cut}
use Rattle.refinement.specs.Cuts.{doings}
use Rattle.refinement.specs.Doings.{Doing, Site, site}
use Rattle.refinement.specs.Guards.{MayAll}
use Rattle.refinement.specs.Runs.{Nodes, moved}
use Rattle.refinement.specs.Runs.Move.{Takes as Takes_in}
use Rattle.refinement.specs.Steps.{IsCut, disk_rules}
use Rattle.refinement.specs.Ties.{setting_of}
use Rattle.refinement.specs.Whole.{Stands}
use Rattle.request_queue.specs.declared.request.Request.{Request}
use Rattle.run_history.proofs.Idle.{passing_nodes}
use Rattle.run_history.specs.Happenings.{Happening, IsSaid, MayHappen, armed_by, commanded, commanded_at, given_by, happened, removed, taking}
use Rattle.run_history.specs.Happenings.Happening.{Arrives, Begins, Commands, Loses, Misses, Notes, Refuses, Repeats, Speaks, Strays, Takes, Writes}
use Rattle.interconnect.specs.Links as net
use Rattle.interconnect.specs.Links.{sending}
use Rattle.run_history.specs.Scenes.{Scene, adding, dropped_so, telling, with_links}
use Rattle.status_report.specs.declared.entry.Entry.TheVariants as entry
use Rattle.status_report.specs.declared.packet_entry.PacketEntry.TheVariants as packet
use Rattle.schedule_text.specs.declared.line.Line.TheVariants as line
use Rattle.run_history.specs.Stages.{Stage}
use Rattle.cl_base.specs.declared.packet.DropCause.{DropCause}
use Rattle.schedule_text.specs.declared.event.Event.{Event}
use Rattle.schedule_text.specs.declared.event.Event.TheVariants as event
use Rattle.wire.specs.declared.message.Body.{Body}
use Rattle.world_model.specs.First.{first_cluster}
use Rattle.run_packets.specs.waiting.Waiting.{CommandFits, CommandsFit}
use Rattle.run_packets.specs.waiting.Sendings.{IsBehind}
use Rattle.run_packets.specs.waiting.Waiting.{NodePaid, NodeQueues, Sendings, WordsFit}
use Rattle.run_packets.proofs.waiting.Courses.{doings_ask}
use Rattle.run_packets.proofs.waiting.Steps.{IsServed, all_served, first_at}

-- ---- the words of a command

pub words_fit : (h : Header) (ms : List Moment) (n : ℕ) (i : Input) → IsSaid ms n i → CommandsFit (setting_in h) ms → WordsFit (first_cluster h) i
words_fit h ms n (input.Commanded words) said fit = λ r is. by_last r is ms said fit
  where
    fits : (r : Request) → (setting_in h).canonical words ≡ Some r.text → (before : List Moment) → CommandFits (setting_in h) before (gives n words) → length r.text ≤ 65536
    fits r is before here = subst (λ o. IfSome o (λ text. length text ≤ 65536)) is here

    by_last : (r : Request) → (setting_in h).canonical words ≡ Some r.text → (before : List Moment) → slice_get before 0 ≡ Some (gives n words) → Always (CommandFits (setting_in h)) before → length r.text ≤ 65536
    by_last r is [] last all = absurd (none_some (gives n words) last)
    by_last r is (m ∷ before) last all = fits r is before (subst (CommandFits (setting_in h) before) (same_some m (gives n words) last) all.0)
words_fit h ms n _ said fit = λ r is. absurd is

-- ---- a step

pub record Held (c : Cluster) (v : Nodes) : Type 0 where
  pub machine : Memberships
  pub holds : Holds (setting_of c) machine
  pub stands : (n : ℕ) → Stands c machine n (v.node n) (v.disk n).kept

pub held_of : (c : Cluster) (s : Scene) → Stage c s → Held c s.nodes
held_of c s b = record { machine = b.machine; holds = b.holds; stands = b.stands }

stepped_served : (c : Cluster) (v : Nodes) (n now : ℕ) (ends : method.Outcome) (i : Input) (first : Option Request) (G : Sendings) → n ≤ 32 → All IsDevice c.attached → Held c v → WordsFit c i
    → ((m : ℕ) (b : Body) → IsBehind n m b (given_by c n now ends i v) → G m b) → IsServed first G (v.node n) → IsServed first G (stepped disk_rules c n now ends (v.node n) (v.disk n) i).after
stepped_served c v n now ends i first G high fits k words within h =
    let o : Outcome DiskState = stepped disk_rules c n now ends (v.node n) (v.disk n) i in
    let cut : IsCut disk_rules c n now ends (v.node n) (v.disk n) i [] o = steps_are_cut disk_rules disks_keep_rules c n now ends (v.node n) (v.disk n) i in
    let x : Site = site (v.node n) (v.disk n).kept in
    let ds : List Doing = doings c n now ends cut.replies i (v.node n) in
    let may : MayAll c n (delivered_by i) x ds = step_may c k.machine n now ends (v.node n) (v.disk n).kept i cut.replies high fits k.holds (k.stands n).tied (k.stands n).joins in
    subst (λ (z : Site). IsServed first G z.node) cut.comes.left
    (all_served n c i (delivered_by i) first G x ds words may (doings_ask c n now ends cut.replies i (v.disk n).kept (v.node n)) (λ m b later. within m b (subst (IsBehind n m b) cut.comes.given later)) h)

taking_here : (c : Cluster) (n now : ℕ) (ends : method.Outcome) (i : Input) (s : Scene) → (taking c n now ends i s).nodes.node n ≡ (stepped disk_rules c n now ends (s.nodes.node n) (s.nodes.disk n) i).after
taking_here c n now ends i s =
    ap (λ (w : Nodes). w.node n) (passing_nodes n (given_by c n now ends i s.nodes) (record s { nodes = moved c s.nodes (Takes_in n now ends i) }))
    ∙ put_here s.nodes.node n (stepped disk_rules c n now ends (s.nodes.node n) (s.nodes.disk n) i).after

pub taking_there : (c : Cluster) (n now : ℕ) (ends : method.Outcome) (i : Input) (s : Scene) (k : ℕ) → k ≢ n → (taking c n now ends i s).nodes.node k ≡ s.nodes.node k
taking_there c n now ends i s k ne =
    ap (λ (w : Nodes). w.node k) (passing_nodes n (given_by c n now ends i s.nodes) (record s { nodes = moved c s.nodes (Takes_in n now ends i) }))
    ∙ put_there s.nodes.node n (stepped disk_rules c n now ends (s.nodes.node n) (s.nodes.disk n) i).after k ne

pub taking_served : (c : Cluster) (n now : ℕ) (ends : method.Outcome) (i : Input) (s : Scene) (first : Option Request) (G : Sendings) → n ≤ 32 → All IsDevice c.attached → Held c s.nodes → WordsFit c i
    → ((m : ℕ) (b : Body) → IsBehind n m b (given_by c n now ends i s.nodes) → G m b) → IsServed first G (s.nodes.node n) → IsServed first G ((taking c n now ends i s).nodes.node n)
taking_served c n now ends i s first G high fits k words within h =
    subst (IsServed first G) (sym (taking_here c n now ends i s)) (stepped_served c s.nodes n now ends i first G high fits k words within h)

-- ---- queues

abbrev pub QueuesIn : Scene → Type 0
QueuesIn s = (k : ℕ) → NodeQueues (s.nodes.node k)

pub first_paid : (z : Node) (G : Sendings) → NodePaid (first_at z) G z
first_paid Down G = tt
first_paid (Up x) G = inr (inl refl)

taking_queues : (c : Cluster) (n now : ℕ) (ends : method.Outcome) (i : Input) (s : Scene) → n ≤ 32 → All IsDevice c.attached → Held c s.nodes → WordsFit c i → QueuesIn s → QueuesIn (taking c n now ends i s)
taking_queues c n now ends i s high fits held words h k = by_number (same_or_not k n)
  where
    by_number : (k ≡ n) ⊎ (k ≢ n) → NodeQueues ((taking c n now ends i s).nodes.node k)
    by_number (inl same) =
        subst (λ j. NodeQueues ((taking c n now ends i s).nodes.node j)) (sym same)
        (taking_served c n now ends i s (first_at (s.nodes.node n)) (λ m b. Unit {0}) high fits held words (λ m b behind. tt) (record { queue = h n; paid = first_paid (s.nodes.node n) (λ m b. Unit {0}) })).queue
    by_number (inr ne) = subst NodeQueues (sym (taking_there c n now ends i s k ne)) (h k)

pub armed_node : (c : Cluster) (s : Scene) (e : Event) (n : ℕ) → (armed_by c e s).nodes.node n ≡ s.nodes.node n
armed_node c s (event.Fault k d done) n = refl
armed_node c s (event.CrashAt k calls choice) n = refl
armed_node c s _ n = refl

pub dropped_nodes : (o : Option (ℕ × DropCause)) (s : Scene) → (dropped_so o s).nodes ≡ s.nodes
dropped_nodes None s = refl
dropped_nodes (Some x) s = refl

dropped_queues : (o : Option (ℕ × DropCause)) (s : Scene) → QueuesIn s → QueuesIn (dropped_so o s)
dropped_queues None s q = q
dropped_queues (Some x) s q = q

pub commanded_held : (c : Cluster) (s : Scene) (n d : ℕ) (o : Option Device) (q : PrCommand) → Held c s.nodes → Held c (commanded_at s n d o q).scene.nodes
commanded_held c s n d None q k = k
commanded_held c s n d (Some x) q k = k

commanded_queues : (s : Scene) (n d : ℕ) (o : Option Device) (q : PrCommand) → QueuesIn s → QueuesIn (commanded_at s n d o q).scene
commanded_queues s n d None q h = h
commanded_queues s n d (Some x) q h = h

pub happening_queues : (h : Header) (s : Scene) (g : Happening) → All IsDevice (first_cluster h).attached → MayHappen (first_cluster h) s g → Stage (first_cluster h) s → CommandsFit (setting_in h) s.moments → QueuesIn s
    → QueuesIn (happened (first_cluster h) s g)
happening_queues h s (Speaks e) fits may b fit q = λ k. subst NodeQueues (sym (armed_node (first_cluster h) (adding (Said (line.Event e)) s) e k)) (q k)
happening_queues h s (Begins e) fits may b fit q = q
happening_queues h s (Notes e) fits may b fit q = q
happening_queues h s (Takes n now ends i) fits may b fit q = taking_queues (first_cluster h) n now ends i s may.0.1 fits (held_of (first_cluster h) s b) (words_fit h s.moments n i may.4 fit) q
happening_queues h s (Arrives number x m now ends) fits may b fit q =
    taking_queues (first_cluster h) x.to now ends (input.Packet x.from m) (telling (entry.Packet (packet.Delivered number x.from x.to)) (removed s number)) may.3.1 fits (held_of (first_cluster h) s b) (λ r is. absurd is) q
happening_queues h s (Strays number x) fits may b fit q = q
happening_queues h s (Misses number x) fits may b fit q = q
happening_queues h s (Loses number x) fits may b fit q = q
happening_queues h s (Repeats number x) fits may b fit q =
    let o : net.Outcome = sending s.links x.from x.to x.bytes in
    let u : Scene = telling (entry.Packet (packet.Repeated number s.links.next)) (with_links s o.after) in
    dropped_queues o.sent.dropped u q
happening_queues h s (Commands n d k now ends) fits may b fit q =
    let o : Option Device = slice_get s.devices (d - 1) in
    taking_queues (first_cluster h) n now ends (input.Answered (commanded s n d k).answer) (commanded s n d k).scene may.0.1 fits
    (commanded_held (first_cluster h) s n d o k (held_of (first_cluster h) s b)) (λ r is. absurd is) (commanded_queues s n d o k q)
happening_queues h s (Writes n d value now ends) fits may b fit q =
    let o : Option Device = slice_get s.devices (d - 1) in
    let k : PrCommand = command.Write value in
    taking_queues (first_cluster h) n now ends (input.Wrote d value (commanded s n d k).answer) (commanded s n d k).scene may.0.1 fits
    (commanded_held (first_cluster h) s n d o k (held_of (first_cluster h) s b)) (λ r is. absurd is) (commanded_queues s n d o k q)
happening_queues h s (Refuses n d value cause) fits may b fit q = q
