-- In each run a member that coordinates its membership is its president.
use Rattle.std.specs.Prelude.{ℕ, ◌-◌, ◌≡◌, ◌≢◌, ◌≤◌, ◌⊎◌, All, List, [], ◌∷◌, Option, None, Some, slice_get}
use Rattle.std.specs.List.{AllByRecursion}
use Rattle.std.proofs.Common.{sym, subst, inl, inr}
use Rattle.cl_base.specs.declared.header.Header.{Header}
use Rattle.cl_base.specs.declared.method.Outcome as method
use Rattle.cl_base.specs.declared.packet.DropCause.{DropCause}
use Rattle.cmm_attempt.specs.Calls.{IsDevice}
use Rattle.interconnect.specs.Links as links
use Rattle.interconnect.specs.Links.{sending}
use Rattle.machine_base.specs.Put.{put}
use Rattle.machine_base.proofs.Puts.{put_here, put_there, same_or_not}
use Rattle.membership_machine.specs.State.{Memberships}
use Rattle.node_model.specs.Steps.{Outcome, stepped}
use Rattle.node_model.specs.declared.cluster.Cluster.{Cluster}
use Rattle.node_model.specs.declared.input.Input.{Input}
use Rattle.node_model.specs.declared.input.Input.TheVariants as input
use Rattle.node_model.specs.declared.node.Node.{Node}
use Rattle.pgr_device.specs.Device.{Device}
use Rattle.pgr_device.specs.declared.command.PrCommand.{PrCommand}
use Rattle.pgr_device.specs.declared.command.PrCommand.TheVariants as command
use Rattle.record_disk.specs.Disks.{DiskState}
use Rattle.refinement.proofs.Disks.{disks_keep_rules}
use Rattle.refinement.proofs.Facts.{step_may}
use Rattle.refinement.proofs.Handlers.{delivered_by}
use Rattle.refinement.proofs.Replies.{steps_are_cut}
use Rattle.refinement.specs.Cuts.{doings}
use Rattle.refinement.specs.Doings.{Doing, Site, site}
use Rattle.refinement.specs.Runs.{IsAmong, Letter, Nodes, moved}
use Rattle.refinement.specs.Runs.Move.{Takes as Takes_in}
use Rattle.refinement.specs.Steps.{IsCut, disk_rules}
use Rattle.refinement.specs.Ties.{Known, MessageTold}
use Rattle.schedule_text.specs.declared.event.Event.{Event}
use Rattle.schedule_text.specs.declared.event.Event.TheVariants as event
use Rattle.schedule_text.specs.declared.line.Line.TheVariants as line
use Rattle.status_report.specs.declared.entry.Entry.TheVariants as entry
use Rattle.status_report.specs.declared.packet_entry.PacketEntry.TheVariants as packet
use Rattle.wire.specs.declared.message.Body.{Body}
use Rattle.world_model.specs.First.{first_cluster}
use Rattle.history.specs.Moment.{Said}
use Rattle.run_history.proofs.Idle.{passing_nodes}
use Rattle.run_history.proofs.MemberRuns.{first_fit}
use Rattle.run_history.specs.Happenings.{Arrives, Begins, Commands, Happening, IsPlain, Loses, MayAllHappen, MayHappen, Misses, Notes, Refuses, Repeats, Speaks, Strays, Takes, Writes, all_happened, armed_by, commanded, commanded_at, given_by, happened, removed, taking}
use Rattle.run_history.specs.Scenes.{Scene, adding, dropped_so, first_scene, telling, with_links}
use Rattle.run_history.specs.Stages.{Stage}
use Rattle.run_messages.proofs.Reaching.{IsSmall, holds_of_each, stage_of}
use Rattle.run_messages.proofs.Runs.{Knows}
use Rattle.run_commands.proofs.Presiding.{NodePresides, all_preside}

abbrev AllPreside : Nodes → Type 0
AllPreside v = (k : ℕ) → NodePresides k (v.node k)

abbrev pub PresideIn : Scene → Type 0
PresideIn s = AllPreside s.nodes

-- ---- a node that takes something

step_presides : (c : Cluster) (v : Nodes) (n now : ℕ) (ends : method.Outcome) (i : Input) → n ≤ 32 → All IsDevice c.attached → (k : Knows c v) → Known k.machine (delivered_by i) → NodePresides n (v.node n)
    → NodePresides n (stepped disk_rules c n now ends (v.node n) (v.disk n) i).after
step_presides c v n now ends i low fits k known h =
    let o : Outcome DiskState = stepped disk_rules c n now ends (v.node n) (v.disk n) i in
    let cut : IsCut disk_rules c n now ends (v.node n) (v.disk n) i [] o = steps_are_cut disk_rules disks_keep_rules c n now ends (v.node n) (v.disk n) i in
    let x : Site = site (v.node n) (v.disk n).kept in
    let ds : List Doing = doings c n now ends cut.replies i (v.node n) in
    subst (λ (z : Site). NodePresides n z.node) cut.comes.left
    (all_preside c n (delivered_by i) ds k.machine x fits k.holds known (k.stands n).tied
    (step_may c k.machine n now ends (v.node n) (v.disk n).kept i cut.replies low fits k.holds (k.stands n).tied (k.stands n).joins) h)

put_all : (P : ℕ → Node → Type 0) (f : ℕ → Node) (n : ℕ) (x : Node) → P n x → ((k : ℕ) → P k (f k)) → (k : ℕ) → P k (put f n x k)
put_all P f n x here others k = go (same_or_not k n)
  where
    go : (k ≡ n) ⊎ (k ≢ n) → P k (put f n x k)
    go (inl e) = subst (λ j. P j (put f n x j)) (sym e) (subst (P n) (sym (put_here f n x)) here)
    go (inr ne) = subst (P k) (sym (put_there f n x k ne)) (others k)

taking_presides : (c : Cluster) (s : Scene) (n now : ℕ) (ends : method.Outcome) (i : Input) → n ≤ 32 → All IsDevice c.attached → (k : Knows c s.nodes) → Known k.machine (delivered_by i) → PresideIn s
    → PresideIn (taking c n now ends i s)
taking_presides c s n now ends i low fits k known h =
    subst AllPreside (sym (passing_nodes n (given_by c n now ends i s.nodes) (record s { nodes = moved c s.nodes (Takes_in n now ends i) })))
    (put_all NodePresides s.nodes.node n _ (step_presides c s.nodes n now ends i low fits k known (h n)) h)

-- ---- what comes is true

told_among : (M : Memberships) (from : ℕ) (b : Body) (ls : List Letter) → IsAmong from b ls → AllByRecursion (λ (l : Letter). MessageTold M l.from l.body) ls → MessageTold M from b
told_among M from b [] h all = absurd h
told_among M from b (l ∷ ls) (inl e) all = subst (λ z. MessageTold M z b) e.0 (subst (λ z. MessageTold M l.from z) e.1 all.0)
told_among M from b (l ∷ ls) (inr h) all = told_among M from b ls h all.1

plain_known : (M : Memberships) (i : Input) → IsPlain i → Known M (delivered_by i)
plain_known M (input.Packet from m) plain = absurd plain
plain_known M _ plain = tt

-- ---- each thing that happens

abbrev knows : (c : Cluster) (s : Scene) → Stage c s → Knows c s.nodes
knows c s b = record { machine = b.machine; holds = b.holds; stands = b.stands }

armed_presides : (c : Cluster) (e : Event) (s : Scene) → PresideIn s → PresideIn (armed_by c e s)
armed_presides c (event.Fault n d done) s h = h
armed_presides c (event.CrashAt n calls choice) s h = h
armed_presides c _ s h = h

dropped_presides : (o : Option (ℕ × DropCause)) (s : Scene) → PresideIn s → PresideIn (dropped_so o s)
dropped_presides None s h = h
dropped_presides (Some drop) s h = h

commanded_presides : (s : Scene) (n d : ℕ) (o : Option Device) (k : PrCommand) → PresideIn s → PresideIn (commanded_at s n d o k).scene
commanded_presides s n d None k h = h
commanded_presides s n d (Some x) k h = h

commanded_knows : (c : Cluster) (s : Scene) (n d : ℕ) (o : Option Device) (k : PrCommand) → Knows c s.nodes → Knows c (commanded_at s n d o k).scene.nodes
commanded_knows c s n d None k h = h
commanded_knows c s n d (Some x) k h = h

happening_presides : (c : Cluster) (s : Scene) (x : Happening) → All IsDevice c.attached → MayHappen c s x → Stage c s → PresideIn s → PresideIn (happened c s x)
happening_presides c s (Speaks e) fits may b h = armed_presides c e (adding (Said (line.Event e)) s) h
happening_presides c s (Begins e) fits may b h = h
happening_presides c s (Notes e) fits may b h = h
happening_presides c s (Takes n now ends i) fits may b h = taking_presides c s n now ends i may.0.1 fits (knows c s b) (plain_known b.machine i may.1) h
happening_presides c s (Arrives number x m now ends) fits may b h =
    taking_presides c (telling (entry.Packet (packet.Delivered number x.from x.to)) (removed s number)) x.to now ends (input.Packet x.from m) may.3.1 fits (knows c s b)
    (told_among b.machine x.from m.body s.nodes.sent may.4 b.sent) h
happening_presides c s (Strays number x) fits may b h = h
happening_presides c s (Misses number x) fits may b h = h
happening_presides c s (Loses number x) fits may b h = h
happening_presides c s (Repeats number x) fits may b h =
    let o : links.Outcome = sending s.links x.from x.to x.bytes in
    dropped_presides o.sent.dropped (telling (entry.Packet (packet.Repeated number s.links.next)) (with_links s o.after)) h
happening_presides c s (Commands n d k now ends) fits may b h =
    let o : Option Device = slice_get s.devices (d - 1) in
    taking_presides c (commanded s n d k).scene n now ends (input.Answered (commanded s n d k).answer) may.0.1 fits (commanded_knows c s n d o k (knows c s b)) tt (commanded_presides s n d o k h)
happening_presides c s (Writes n d value now ends) fits may b h =
    let o : Option Device = slice_get s.devices (d - 1) in
    let k : PrCommand = command.Write value in
    taking_presides c (commanded s n d k).scene n now ends (input.Wrote d value (commanded s n d k).answer) may.0.1 fits (commanded_knows c s n d o k (knows c s b)) tt (commanded_presides s n d o k h)
happening_presides c s (Refuses n d value cause) fits may b h = h

-- ---- a run

first_presides : (h : Header) (cells : ℕ) → PresideIn (first_scene h cells)
unfolding first_scene
first_presides h cells = λ k. tt

pub presiding_in_each : (h : Header) (cells : ℕ) (hs : List Happening) → IsSmall h → MayAllHappen (first_cluster h) (first_scene h cells) hs
    → PresideIn (all_happened (first_cluster h) (first_scene h cells) hs)
presiding_in_each h cells hs size may =
    holds_of_each h cells PresideIn (λ s x now at more all. happening_presides (first_cluster h) s x (first_fit h size.few) now (stage_of h cells s size at) all) (first_presides h cells) hs may
