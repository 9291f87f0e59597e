-- Each thing that happens leaves each node seated, and the Heartbeats right; so does each run.
use Rattle.std.specs.Prelude.{ℕ, ◌-◌, ◌≡◌, ◌≢◌, ◌≤◌, ◌⊎◌, All, List, [], ◌∷◌, Option, None, Some, slice_get}
use Rattle.std.proofs.Common.{refl, sym, subst, ◌∙◌, inl, inr}
use Rattle.cl_base.specs.declared.header.Header.{Header}
use Rattle.cl_base.specs.declared.method.Outcome as method
use Rattle.cl_base.specs.declared.packet.DropCause.{DropCause}
use Rattle.cl_base.specs.declared.packet.DropCause.TheVariants as drop
use Rattle.cmm_attempt.specs.Calls.{IsDevice}
use Rattle.history.specs.Contents.{Heartbeats}
use Rattle.history.specs.Letters.{arrived}
use Rattle.history.specs.Member.{in_collect, member_of}
use Rattle.history.specs.Moment.{Moment, Part, Said, Told}
use Rattle.interconnect.specs.Links as links
use Rattle.interconnect.specs.Links.{sending}
use Rattle.machine_base.specs.Put.{put}
use Rattle.machine_base.proofs.Puts.{put_here, put_there, same_or_not}
use Rattle.membership_machine.specs.Invariant.{Holds}
use Rattle.membership_machine.specs.State.{Memberships}
use Rattle.node_model.specs.declared.cluster.Cluster.{Cluster}
use Rattle.node_model.specs.declared.input.Input.{Input}
use Rattle.node_model.specs.declared.input.Input.TheVariants as input
use Rattle.node_model.specs.declared.node.Node.{Node}
use Rattle.node_model.specs.declared.output.Output.{Output}
use Rattle.node_model.specs.Steps.{Outcome, stepped}
use Rattle.pgr_device.specs.Device.{Device}
use Rattle.pgr_device.specs.declared.command.PrCommand.{PrCommand}
use Rattle.pgr_device.specs.declared.command.PrCommand.TheVariants as command
use Rattle.record_disk.specs.Disks.{DiskState}
use Rattle.refinement.specs.Cuts.{doings}
use Rattle.refinement.specs.Doings.{Doing, Site, after_all, given_all, site}
use Rattle.refinement.specs.Guards.{MayAll}
use Rattle.refinement.specs.Runs.{Nodes, moved}
use Rattle.refinement.specs.Runs.Move.{Takes as Takes_in}
use Rattle.refinement.specs.Steps.{IsCut, disk_rules}
use Rattle.refinement.specs.Ties.{setting_of}
use Rattle.refinement.specs.Whole.{Stands}
use Rattle.refinement.proofs.Disks.{disks_keep_rules}
use Rattle.refinement.proofs.Facts.{step_may}
use Rattle.refinement.proofs.Handlers.{delivered_by}
use Rattle.refinement.proofs.Replies.{steps_are_cut}
use Rattle.schedule_text.specs.declared.event.Event.{Event}
use Rattle.schedule_text.specs.declared.event.Event.TheVariants as event
use Rattle.schedule_text.specs.declared.line.Line.TheVariants as line
use Rattle.status_report.specs.declared.device_entry.DeviceEntry.TheVariants as device
use Rattle.status_report.specs.declared.entry.Entry.TheVariants as entry
use Rattle.status_report.specs.declared.packet_entry.PacketEntry.TheVariants as packet
use Rattle.world_model.specs.First.{first_cluster}
use Rattle.run_history.specs.Happenings.{Arrives, Begins, Commands, Happening, IsPlain, Loses, MayHappen, Misses, Notes, Refuses, Repeats, Speaks, Strays, Takes, Writes, armed_by, commanded, commanded_at, given_by, happened, removed, taking}
use Rattle.run_history.specs.Scenes.{Scene, adding, dropped_so, first_scene, passing, telling, with_links}
use Rattle.run_history.specs.Stages.{Stage}
use Rattle.run_history.proofs.Idle.{passing_nodes}
use Rattle.run_history.proofs.LineSteps.{doings_small}
use Rattle.run_history.proofs.MemberRuns.{first_fit}
use Rattle.run_messages.specs.Laws.{HeartbeatsOfEachRun, IsSeated, MembershipsOfEachRun}
use Rattle.run_messages.specs.Outputs.{AreGood}
use Rattle.run_messages.specs.Steps.{Leads, collecting}
use Rattle.run_messages.proofs.Collecting.{arrival_collects, doings_collected, nothing_collects}
use Rattle.run_messages.proofs.Doings.{all_lead}
use Rattle.run_messages.proofs.Lines.{passing_still}
use Rattle.run_messages.proofs.Reaching.{IsReached, IsSmall, holds_of_each, stage_of, taking_good}

-- each node is seated, and each Heartbeat right
pub record Tells (v : Nodes) (ms : List Moment) : Type 0 where
  pub seated : (k : ℕ) → IsSeated ms k (v.node k)
  pub beats : Heartbeats ms

abbrev TellsIn : Scene → Type 0
TellsIn s = Tells s.nodes s.moments

-- what is known of all nodes, in the machine of memberships
pub record Knows (c : Cluster) (v : Nodes) : Type 0 where
  pub machine : Memberships
  pub holds : Holds (setting_of c) machine
  pub stands : (n : ℕ) → Stands c machine n (v.node n) (v.disk n).kept

known : (c : Cluster) (s : Scene) → Stage c s → Knows c s.nodes
known c s b = record { machine = b.machine; holds = b.holds; stands = b.stands }

-- ---- a node takes something

step_leads : (c : Cluster) (v : Nodes) (n now : ℕ) (ends : method.Outcome) (i : Input) (s : Scene) → n ≤ 32 → All IsDevice c.attached → Knows c v → in_collect n s.moments ≡ collecting (delivered_by i)
    → AreGood n (given_by c n now ends i v) → IsSeated s.moments n (v.node n)
    → (let o : Outcome DiskState = stepped disk_rules c n now ends (v.node n) (v.disk n) i in Leads n o.after o.given s)
step_leads c v n now ends i s low fits k at good h =
    let o : Outcome DiskState = stepped disk_rules c n now ends (v.node n) (v.disk n) i in
    let cut : IsCut disk_rules c n now ends (v.node n) (v.disk n) i [] o = steps_are_cut disk_rules disks_keep_rules c n now ends (v.node n) (v.disk n) i in
    let x : Site = site (v.node n) (v.disk n).kept in
    let ds : List Doing = doings c n now ends cut.replies i (v.node n) in
    let may : MayAll c n (delivered_by i) x ds =
    step_may c k.machine n now ends (v.node n) (v.disk n).kept i cut.replies low fits k.holds (k.stands n).tied (k.stands n).joins in
    let g : Leads n (after_all c n x ds).node (given_all c n x ds) s =
    all_lead c n (delivered_by i) x ds s may (doings_small c n now ends cut.replies i (v.node n) (v.disk n).kept) (doings_collected c n now ends cut.replies i (v.node n)) at
    (subst (AreGood n) (sym cut.comes.given) good) h in
    subst (λ (z : Site). Leads n z.node o.given s) cut.comes.left (subst (λ os. Leads n (after_all c n x ds).node os s) cut.comes.given g)

node_stays : (k : ℕ) (node : Node) (before after : List Moment) → member_of k after ≡ member_of k before → IsSeated before k node → IsSeated after k node
node_stays k node before after same h = same ∙ h

put_seats : (f : ℕ → Node) (n : ℕ) (x : Node) (before after : List Moment) → IsSeated after n x → ((k : ℕ) → k ≢ n → member_of k after ≡ member_of k before) → ((k : ℕ) → IsSeated before k (f k))
    → (k : ℕ) → IsSeated after k (put f n x k)
put_seats f n x before after here same all k = go (same_or_not k n)
  where
    go : (k ≡ n) ⊎ (k ≢ n) → IsSeated after k (put f n x k)
    go (inl e) = subst (λ j. IsSeated after j (put f n x j)) (sym e) (subst (IsSeated after n) (sym (put_here f n x)) here)
    go (inr ne) = subst (IsSeated after k) (sym (put_there f n x k ne)) (node_stays k (f k) before after (same k ne) (all k))

taking_tells : (c : Cluster) (s : Scene) (n now : ℕ) (ends : method.Outcome) (i : Input) → n ≤ 32 → All IsDevice c.attached → Knows c s.nodes → in_collect n s.moments ≡ collecting (delivered_by i)
    → Stage c (taking c n now ends i s) → TellsIn s → TellsIn (taking c n now ends i s)
taking_tells c s n now ends i low fits k at b h =
    let v : Nodes = moved c s.nodes (Takes_in n now ends i) in
    let t : Scene = record s { nodes = v } in
    let os : List Output = given_by c n now ends i s.nodes in
    let g : Leads n (stepped disk_rules c n now ends (s.nodes.node n) (s.nodes.disk n) i).after os t =
    step_leads c s.nodes n now ends i t low fits k at (taking_good c s n now ends i b) (h.seated n) in
    subst (λ w. Tells w (passing n os t).moments) (sym (passing_nodes n os t)) (record {
      seated = put_seats s.nodes.node n (stepped disk_rules c n now ends (s.nodes.node n) (s.nodes.disk n) i).after s.moments (passing n os t).moments g.own
          (λ j ne. passing_still j n os t (g.others j ne)) h.seated;
      beats = g.beats h.beats;
    })

-- ---- lines of the world

-- a moment that says nothing of members
still : (v : Nodes) (before after : List Moment) → ((k : ℕ) → member_of k after ≡ member_of k before) → (Heartbeats before → Heartbeats after) → Tells v before → Tells v after
still v before after same beats h = record { seated = λ k. node_stays k (v.node k) before after (same k) (h.seated k); beats = beats h.beats }

dropped_tells : (o : Option (ℕ × DropCause)) (s : Scene) → TellsIn s → TellsIn (dropped_so o s)
dropped_tells None s h = h
dropped_tells (Some drop) s h = still s.nodes s.moments (Told (entry.Packet (packet.Dropped drop.0 drop.1)) ∷ s.moments) (λ k. refl) (λ beats. (tt, beats)) h

armed_tells : (c : Cluster) (e : Event) (s : Scene) → TellsIn s → TellsIn (armed_by c e s)
armed_tells c (event.Fault n d done) s h = record { seated = h.seated; beats = h.beats }
armed_tells c (event.CrashAt n calls choice) s h = record { seated = h.seated; beats = h.beats }
armed_tells c _ s h = h

commanded_tells : (s : Scene) (n d : ℕ) (o : Option Device) (k : PrCommand) → TellsIn s → TellsIn (commanded_at s n d o k).scene
commanded_tells s n d None k h = h
commanded_tells s n d (Some x) k h = record { seated = h.seated; beats = h.beats }

commanded_knows : (c : Cluster) (s : Scene) (n d : ℕ) (o : Option Device) (k : PrCommand) → Knows c s.nodes → Knows c (commanded_at s n d o k).scene.nodes
commanded_knows c s n d None k h = h
commanded_knows c s n d (Some x) k h = h

commanded_collects : (s : Scene) (n d j : ℕ) (o : Option Device) (k : PrCommand) → arrived s.moments ≡ None → in_collect j (commanded_at s n d o k).scene.moments ≡ collecting None
commanded_collects s n d j None k h = nothing_collects j s.moments h
commanded_collects s n d j (Some x) k h = nothing_collects j s.moments h

plain_collects : (n : ℕ) (ms : List Moment) (i : Input) → IsPlain i → arrived ms ≡ None → in_collect n ms ≡ collecting (delivered_by i)
plain_collects n ms (input.Packet from m) plain h = absurd plain
plain_collects n ms _ plain h = nothing_collects n ms h

-- ---- each thing that happens

happening_tells : (c : Cluster) (s : Scene) (x : Happening) → All IsDevice c.attached → MayHappen c s x → Stage c s → Stage c (happened c s x) → TellsIn s → TellsIn (happened c s x)
happening_tells c s (Speaks e) fits may before b h =
    armed_tells c e (adding (Said (line.Event e)) s) (still s.nodes s.moments (Said (line.Event e) ∷ s.moments) (λ k. refl) (λ beats. (tt, beats)) h)
happening_tells c s (Begins e) fits may before b h = still s.nodes s.moments (Part e ∷ s.moments) (λ k. refl) (λ beats. (tt, beats)) h
happening_tells c s (Notes e) fits may before b h = still s.nodes s.moments (Told (entry.Schedule e) ∷ s.moments) (λ k. refl) (λ beats. (tt, beats)) h
happening_tells c s (Takes n now ends i) fits may before b h =
    taking_tells c s n now ends i may.0.1 fits (known c s before) (plain_collects n s.moments i may.1 may.3) b h
happening_tells c s (Arrives number x m now ends) fits may before b h =
    let t : Scene = telling (entry.Packet (packet.Delivered number x.from x.to)) (removed s number) in
    taking_tells c t x.to now ends (input.Packet x.from m) may.3.1 fits (known c s before) (arrival_collects c s number x m may.0 may.1 before) b
    (still s.nodes s.moments t.moments (λ k. refl) (λ beats. (tt, beats)) h)
happening_tells c s (Strays number x) fits may before b h = still s.nodes s.moments (Told (entry.Packet (packet.Delivered number x.from x.to)) ∷ s.moments) (λ k. refl) (λ beats. (tt, beats)) h
happening_tells c s (Misses number x) fits may before b h = still s.nodes s.moments (Told (entry.Packet (packet.Dropped number drop.Down)) ∷ s.moments) (λ k. refl) (λ beats. (tt, beats)) h
happening_tells c s (Loses number x) fits may before b h = still s.nodes s.moments (Told (entry.Packet (packet.Lost number)) ∷ s.moments) (λ k. refl) (λ beats. (tt, beats)) h
happening_tells c s (Repeats number x) fits may before b h =
    let o : links.Outcome = sending s.links x.from x.to x.bytes in
    let t : Scene = telling (entry.Packet (packet.Repeated number s.links.next)) (with_links s o.after) in
    dropped_tells o.sent.dropped t (still s.nodes s.moments t.moments (λ k. refl) (λ beats. (tt, beats)) h)
happening_tells c s (Commands n d k now ends) fits may before b h =
    let o : Option Device = slice_get s.devices (d - 1) in
    taking_tells c (commanded s n d k).scene n now ends (input.Answered (commanded s n d k).answer) may.0.1 fits (commanded_knows c s n d o k (known c s before))
    (commanded_collects s n d n o k may.4) b (commanded_tells s n d o k h)
happening_tells c s (Writes n d value now ends) fits may before b h =
    let o : Option Device = slice_get s.devices (d - 1) in
    taking_tells c (commanded s n d (command.Write value)).scene n now ends (input.Wrote d value (commanded s n d (command.Write value)).answer) may.0.1 fits
    (commanded_knows c s n d o (command.Write value) (known c s before)) (commanded_collects s n d n o (command.Write value) may.3) b (commanded_tells s n d o (command.Write value) h)
happening_tells c s (Refuses n d value cause) fits may before b h = still s.nodes s.moments (Told (entry.Device (device.Refused n d value cause)) ∷ s.moments) (λ k. refl) (λ beats. (tt, beats)) h

first_tells : (h : Header) (cells : ℕ) → TellsIn (first_scene h cells)
unfolding first_scene
first_tells h cells = record { seated = λ k. refl; beats = tt }

tells_kept : (h : Header) (cells : ℕ) → IsSmall h → (s : Scene) (x : Happening) → MayHappen (first_cluster h) s x → IsReached h cells s → IsReached h cells (happened (first_cluster h) s x) → TellsIn s
    → TellsIn (happened (first_cluster h) s x)
tells_kept h cells size s x may at more tells =
    happening_tells (first_cluster h) s x (first_fit h size.few) may (stage_of h cells s size at) (stage_of h cells (happened (first_cluster h) s x) size more) tells

pub memberships_of_each_run : MembershipsOfEachRun
memberships_of_each_run h cells hs few small may =
    (holds_of_each h cells TellsIn (tells_kept h cells (record { few = few; small = small })) (first_tells h cells) hs may).seated

pub heartbeats_of_each_run : HeartbeatsOfEachRun
heartbeats_of_each_run h cells hs few small may =
    (holds_of_each h cells TellsIn (tells_kept h cells (record { few = few; small = small })) (first_tells h cells) hs may).beats
