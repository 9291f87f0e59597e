-- Each thing that happens keeps it that answers are given to commands that wait; so does each run.
use Rattle.std.specs.Prelude.{ℕ, ◌-◌, ◌≡◌, ◌≢◌, ◌≤◌, ◌<◌, ◌^◌, ◌⊎◌, List, [], ◌∷◌, length, Option, None, Some, slice_get}
use Rattle.std.proofs.Common.{refl, sym, subst, inl, inr}
use Rattle.cl_base.specs.declared.header.Header.{Header}
use Rattle.cl_base.specs.declared.method.Outcome as method
use Rattle.cl_base.specs.declared.packet.DropCause.{DropCause}
use Rattle.cl_base.specs.declared.packet.DropCause.TheVariants as drop
use Rattle.cmm_member.specs.Records.{NodeRecord}
use Rattle.history.specs.Moment.{Moment, Part, Said, Told, lines_of}
use Rattle.interconnect.specs.Links as links
use Rattle.interconnect.specs.Links.{sending}
use Rattle.machine_base.specs.Put.{put}
use Rattle.machine_base.proofs.Puts.{put_here, put_there, same_or_not}
use Rattle.node_model.specs.Steps.{Outcome, stepped}
use Rattle.node_model.specs.declared.cluster.Cluster.{Cluster}
use Rattle.node_model.specs.declared.input.Input.{Input}
use Rattle.node_model.specs.declared.input.Input.TheVariants as input
use Rattle.node_model.specs.declared.node.Node.{Node}
use Rattle.node_model.specs.declared.node.Node.TheVariants.{Down, Up}
use Rattle.node_model.specs.declared.output.Output.{Output}
use Rattle.pgr_device.specs.Device.{Device}
use Rattle.pgr_device.specs.declared.command.PrCommand.{PrCommand}
use Rattle.pgr_device.specs.declared.command.PrCommand.TheVariants as command
use Rattle.record_disk.specs.Disks.{DiskState}
use Rattle.refinement.proofs.Disks.{disks_keep_rules}
use Rattle.refinement.proofs.Replies.{steps_are_cut}
use Rattle.refinement.specs.Courses.{Reply}
use Rattle.refinement.specs.Cuts.{doings}
use Rattle.refinement.specs.Doings.{Doing, Site, after_all, given_all, site}
use Rattle.refinement.specs.Runs.{Nodes, moved}
use Rattle.refinement.specs.Runs.Move.{Takes as Takes_in}
use Rattle.refinement.specs.Steps.{IsCut, disk_rules}
use Rattle.schedule_text.specs.declared.event.Event.{Event}
use Rattle.schedule_text.specs.declared.event.Event.TheVariants as event
use Rattle.schedule_text.specs.declared.line.Line.TheVariants as line
use Rattle.status_report.specs.declared.device_entry.DeviceEntry.TheVariants as device
use Rattle.status_report.specs.declared.entry.Entry.TheVariants as entry
use Rattle.status_report.specs.declared.packet_entry.PacketEntry.TheVariants as packet
use Rattle.world_model.specs.First.{first_cluster}
use Rattle.run_history.proofs.Idle.{passing_nodes}
use Rattle.run_history.specs.Happenings.{Arrives, Begins, Commands, Happening, IsSaid, Loses, MayAllHappen, MayHappen, Misses, Notes, Refuses, Repeats, Speaks, Strays, Takes, Writes, all_happened, armed_by, commanded, commanded_at, given_by, happened, removed, taking}
use Rattle.run_history.specs.Scenes.{Scene, adding, dropped_so, first_scene, passing, telling, with_links}
use Rattle.run_commands.specs.carried.Steps.{used_lines}
use Rattle.run_commands.proofs.carried.Counts.{dropped_used, few_longer, more_used, passing_used, then_le}
use Rattle.run_commands.specs.Guards.Hand.{Free}
use Rattle.run_commands.specs.Answers.{AnswersWait}
use Rattle.run_messages.proofs.Reaching.{IsSmall, holds_of_each}
use Rattle.run_commands.proofs.Coordinators.{AreLed, NodeLed, commanded_led, led_at}
use Rattle.run_commands.proofs.Numbers.{Numbers, NumbersOn, apart_numbers, packet_numbers, part_numbers, passing_numbers, said_numbers}
use Rattle.run_commands.proofs.Owed.{Owed, owed_stays}
use Rattle.run_commands.proofs.Steps.{NodeNumbers, Stepped, down_step, up_step}
use Rattle.run_commands.proofs.Waiting.{Leaves, WaitOn, packet_leaves, part_waits, passing_waits, quiet_leaves, said_waits}
use Rattle.run_commands.proofs.Walk.{NodeOwes}

-- the commands of a node that wait are those in its queue, with no more numbers than lines
abbrev pub NodeFits : ℕ → List Moment → Node → Type 0
NodeFits k ms Down = Unit {0}
NodeFits k ms (Up x) = Owed k ms Free x.requests.asked x.requests.waiting × (x.requests.asked ≤ used_lines ms) × Numbers k ms x.requests.asked

pub record Waits (v : Nodes) (ms : List Moment) : Type 0 where
  pub nodes : (k : ℕ) → NodeFits k ms (v.node k)
  pub said : AnswersWait ms

abbrev pub WaitsIn : Scene → Type 0
WaitsIn s = Waits s.nodes s.moments

-- ---- a node that does nothing

node_stays : (k : ℕ) (node : Node) (before after : List Moment) → WaitOn k before after → NumbersOn k before after → used_lines before ≤ used_lines after → NodeFits k before node → NodeFits k after node
node_stays k Down before after f num used h = tt
node_stays k (Up x) before after f num used h =
    (owed_stays k before after Free x.requests.asked x.requests.waiting f h.0, then_le x.requests.asked (used_lines before) (used_lines after) h.1 used, num x.requests.asked h.2)

-- a moment in which no node does anything
moment_waits : (v : Nodes) (m : Moment) (ms : List Moment) → Leaves ms (m ∷ ms) → ((k : ℕ) → NumbersOn k ms (m ∷ ms)) → Waits v ms → Waits v (m ∷ ms)
moment_waits v m ms l num h = record { nodes = λ k. node_stays k (v.node k) ms (m ∷ ms) (l.wait k) (num k) (more_used ms) (h.nodes k); said = l.said h.said }

-- ---- a node that takes something

abbrev pub FewLines : List Moment → Type 0
FewLines ms = length (lines_of ms) < 2 ^ 63

step_by : (c : Cluster) (n now : ℕ) (ends : method.Outcome) (i : Input) (replies : List Reply) (node : Node) (disk : NodeRecord) (s : Scene) → NodeLed node → IsSaid s.moments n i → FewLines s.moments
    → NodeFits n s.moments node → AnswersWait s.moments
    → Stepped n (after_all c n (site node disk) (doings c n now ends replies i node)).node (given_all c n (site node disk) (doings c n now ends replies i node)) s
step_by c n now ends i replies Down disk s led said few h waits = down_step c n i replies disk s waits
step_by c n now ends i replies (Up x) disk s led said few h waits = up_step c n now ends i replies x disk s led said (record { owed = h.0; said = waits }) (record { low = h.1; few = few }) h.2

step_leaves : (c : Cluster) (v : Nodes) (n now : ℕ) (ends : method.Outcome) (i : Input) (s : Scene) → NodeLed (v.node n) → IsSaid s.moments n i → FewLines s.moments → NodeFits n s.moments (v.node n) → AnswersWait s.moments
    → (let o : Outcome DiskState = stepped disk_rules c n now ends (v.node n) (v.disk n) i in Stepped n o.after o.given s)
step_leaves c v n now ends i s led said few h waits =
    let o : Outcome DiskState = stepped disk_rules c n now ends (v.node n) (v.disk n) i in
    let cut : IsCut disk_rules c n now ends (v.node n) (v.disk n) i [] o = steps_are_cut disk_rules disks_keep_rules c n now ends (v.node n) (v.disk n) i in
    let x : Site = site (v.node n) (v.disk n).kept in
    let ds : List Doing = doings c n now ends cut.replies i (v.node n) in
    let g : Stepped n (after_all c n x ds).node (given_all c n x ds) s = step_by c n now ends i cut.replies (v.node n) (v.disk n).kept s led said few h waits in
    subst (λ (z : Site). Stepped n z.node o.given s) cut.comes.left (subst (λ os. Stepped n (after_all c n x ds).node os s) cut.comes.given g)

so_fits : (n last : ℕ) (node : Node) (ms : List Moment) → NodeOwes n last node ms → last ≤ used_lines ms → NodeNumbers n last node ms → NodeFits n ms node
so_fits n last Down ms so low num = tt
so_fits n last (Up x) ms so low num = (so.1, subst (λ k. k ≤ used_lines ms) (sym so.0) low, subst (λ k. Numbers n ms k) (sym so.0) num)

put_all : (P : ℕ → Node → Type 0) (f : ℕ → Node) (n : ℕ) (x : Node) → P n x → ((k : ℕ) → k ≢ n → P k (f k)) → (k : ℕ) → P k (put f n x k)
put_all P f n x here others k = go (same_or_not k n)
  where
    go : (k ≡ n) ⊎ (k ≢ n) → P k (put f n x k)
    go (inl e) = subst (λ j. P j (put f n x j)) (sym e) (subst (P n) (sym (put_here f n x)) here)
    go (inr ne) = subst (P k) (sym (put_there f n x k ne)) (others k ne)

taking_waits : (c : Cluster) (s : Scene) (n now : ℕ) (ends : method.Outcome) (i : Input) → NodeLed (s.nodes.node n) → IsSaid s.moments n i → FewLines s.moments → WaitsIn s → WaitsIn (taking c n now ends i s)
taking_waits c s n now ends i led said few h =
    let v : Nodes = moved c s.nodes (Takes_in n now ends i) in
    let t : Scene = record s { nodes = v } in
    let os : List Output = given_by c n now ends i s.nodes in
    let after : Node = (stepped disk_rules c n now ends (s.nodes.node n) (s.nodes.disk n) i).after in
    let end : Scene = passing n os t in
    let g : Stepped n after os t = step_leaves c s.nodes n now ends i t led said few (h.nodes n) h.said in
    subst (λ w. Waits w end.moments) (sym (passing_nodes n os t)) (record {
      nodes = put_all (λ j node. NodeFits j end.moments node) s.nodes.node n after (so_fits n g.last after end.moments g.own g.low g.numbers)
          (λ j ne. node_stays j (s.nodes.node j) s.moments end.moments (passing_waits j n os t (g.apart j ne)) (passing_numbers j n os t (g.apart j ne)) (passing_used n os t).used (h.nodes j));
      said = g.said;
    })

-- ---- few lines were said before

armed_moments : (c : Cluster) (e : Event) (s : Scene) → (armed_by c e s).moments ≡ s.moments
armed_moments c (event.Fault n d done) s = refl
armed_moments c (event.CrashAt n calls choice) s = refl
armed_moments c _ s = refl

commanded_moments : (s : Scene) (n d : ℕ) (o : Option Device) (k : PrCommand) → (commanded_at s n d o k).scene.moments ≡ s.moments
commanded_moments s n d None k = refl
commanded_moments s n d (Some x) k = refl

few_taking : (c : Cluster) (n now : ℕ) (ends : method.Outcome) (i : Input) (s : Scene) → FewLines (taking c n now ends i s).moments → FewLines s.moments
few_taking c n now ends i s h = subst (λ ls. length ls < 2 ^ 63) (passing_used n (given_by c n now ends i s.nodes) _).lines h

pub few_before : (c : Cluster) (s : Scene) (x : Happening) → FewLines (happened c s x).moments → FewLines s.moments
few_before c s (Speaks e) h = few_longer (line.Event e) (lines_of s.moments) (subst FewLines (armed_moments c e (adding (Said (line.Event e)) s)) h)
few_before c s (Begins e) h = h
few_before c s (Notes e) h = h
few_before c s (Takes n now ends i) h = few_taking c n now ends i s h
few_before c s (Arrives number x m now ends) h = few_taking c x.to now ends (input.Packet x.from m) (telling (entry.Packet (packet.Delivered number x.from x.to)) (removed s number)) h
few_before c s (Strays number x) h = h
few_before c s (Misses number x) h = h
few_before c s (Loses number x) h = h
few_before c s (Repeats number x) h =
    let o : links.Outcome = sending s.links x.from x.to x.bytes in
    subst (λ ls. length ls < 2 ^ 63) (dropped_used o.sent.dropped (telling (entry.Packet (packet.Repeated number s.links.next)) (with_links s o.after))).lines h
few_before c s (Commands n d k now ends) h =
    subst FewLines (commanded_moments s n d (slice_get s.devices (d - 1)) k) (few_taking c n now ends (input.Answered (commanded s n d k).answer) (commanded s n d k).scene h)
few_before c s (Writes n d value now ends) h =
    let o : Option Device = slice_get s.devices (d - 1) in
    subst FewLines (commanded_moments s n d o (command.Write value))
    (few_taking c n now ends (input.Wrote d value (commanded s n d (command.Write value)).answer) (commanded s n d (command.Write value)).scene h)
few_before c s (Refuses n d value cause) h = h

-- ---- each thing that happens

armed_waits : (c : Cluster) (e : Event) (s : Scene) → WaitsIn s → WaitsIn (armed_by c e s)
armed_waits c (event.Fault n d done) s h = record { nodes = h.nodes; said = h.said }
armed_waits c (event.CrashAt n calls choice) s h = record { nodes = h.nodes; said = h.said }
armed_waits c _ s h = h

commanded_waits : (s : Scene) (n d : ℕ) (o : Option Device) (k : PrCommand) → WaitsIn s → WaitsIn (commanded_at s n d o k).scene
commanded_waits s n d None k h = h
commanded_waits s n d (Some x) k h = record { nodes = h.nodes; said = h.said }

dropped_waits : (o : Option (ℕ × DropCause)) (s : Scene) → WaitsIn s → WaitsIn (dropped_so o s)
dropped_waits None s h = h
dropped_waits (Some drop) s h = moment_waits s.nodes (Told (entry.Packet (packet.Dropped drop.0 drop.1))) s.moments (packet_leaves (packet.Dropped drop.0 drop.1) s.moments) (λ k. packet_numbers k (packet.Dropped drop.0 drop.1) s.moments) h

happening_waits : (c : Cluster) (s : Scene) (x : Happening) → MayHappen c s x → AreLed s → FewLines s.moments → WaitsIn s → WaitsIn (happened c s x)
happening_waits c s (Speaks e) may led few h =
    armed_waits c e (adding (Said (line.Event e)) s) (moment_waits s.nodes (Said (line.Event e)) s.moments (record { wait = λ k. said_waits k (line.Event e) s.moments; said = λ a. (tt, a) }) (λ k. said_numbers k (line.Event e) s.moments) h)
happening_waits c s (Begins e) may led few h = moment_waits s.nodes (Part e) s.moments (record { wait = λ k. part_waits k e s.moments; said = λ a. (tt, a) }) (λ k. part_numbers k e s.moments) h
happening_waits c s (Notes e) may led few h = moment_waits s.nodes (Told (entry.Schedule e)) s.moments (quiet_leaves (entry.Schedule e) s.moments tt) (λ k. apart_numbers k (entry.Schedule e) s.moments tt) h
happening_waits c s (Takes n now ends i) may led few h = taking_waits c s n now ends i (led n) may.4 few h
happening_waits c s (Arrives number x m now ends) may led few h =
    taking_waits c (telling (entry.Packet (packet.Delivered number x.from x.to)) (removed s number)) x.to now ends (input.Packet x.from m) (led x.to) tt few
    (moment_waits s.nodes (Told (entry.Packet (packet.Delivered number x.from x.to))) s.moments (packet_leaves (packet.Delivered number x.from x.to) s.moments) (λ k. packet_numbers k (packet.Delivered number x.from x.to) s.moments) h)
happening_waits c s (Strays number x) may led few h =
    moment_waits s.nodes (Told (entry.Packet (packet.Delivered number x.from x.to))) s.moments (packet_leaves (packet.Delivered number x.from x.to) s.moments) (λ k. packet_numbers k (packet.Delivered number x.from x.to) s.moments) h
happening_waits c s (Misses number x) may led few h = moment_waits s.nodes (Told (entry.Packet (packet.Dropped number drop.Down))) s.moments (packet_leaves (packet.Dropped number drop.Down) s.moments) (λ k. packet_numbers k (packet.Dropped number drop.Down) s.moments) h
happening_waits c s (Loses number x) may led few h = moment_waits s.nodes (Told (entry.Packet (packet.Lost number))) s.moments (packet_leaves (packet.Lost number) s.moments) (λ k. packet_numbers k (packet.Lost number) s.moments) h
happening_waits c s (Repeats number x) may led few h =
    let o : links.Outcome = sending s.links x.from x.to x.bytes in
    dropped_waits o.sent.dropped (telling (entry.Packet (packet.Repeated number s.links.next)) (with_links s o.after))
    (moment_waits s.nodes (Told (entry.Packet (packet.Repeated number s.links.next))) s.moments (packet_leaves (packet.Repeated number s.links.next) s.moments) (λ k. packet_numbers k (packet.Repeated number s.links.next) s.moments) h)
happening_waits c s (Commands n d k now ends) may led few h =
    let o : Option Device = slice_get s.devices (d - 1) in
    taking_waits c (commanded s n d k).scene n now ends (input.Answered (commanded s n d k).answer) (commanded_led s n d o k led n) tt (subst FewLines (sym (commanded_moments s n d o k)) few) (commanded_waits s n d o k h)
happening_waits c s (Writes n d value now ends) may led few h =
    let o : Option Device = slice_get s.devices (d - 1) in
    let k : PrCommand = command.Write value in
    taking_waits c (commanded s n d k).scene n now ends (input.Wrote d value (commanded s n d k).answer) (commanded_led s n d o k led n) tt (subst FewLines (sym (commanded_moments s n d o k)) few) (commanded_waits s n d o k h)
happening_waits c s (Refuses n d value cause) may led few h = moment_waits s.nodes (Told (entry.Device (device.Refused n d value cause))) s.moments (quiet_leaves (entry.Device (device.Refused n d value cause)) s.moments tt) (λ k. apart_numbers k (entry.Device (device.Refused n d value cause)) s.moments tt) h

-- ---- a run

abbrev Keeps : Scene → Type 0
Keeps s = FewLines s.moments → WaitsIn s

first_waits : (h : Header) (cells : ℕ) → WaitsIn (first_scene h cells)
unfolding first_scene
first_waits h cells = record { nodes = λ k. tt; said = tt }

pub waits_in_each : (h : Header) (cells : ℕ) (hs : List Happening) → IsSmall h → MayAllHappen (first_cluster h) (first_scene h cells) hs
    → FewLines (all_happened (first_cluster h) (first_scene h cells) hs).moments → WaitsIn (all_happened (first_cluster h) (first_scene h cells) hs)
waits_in_each h cells hs size may few =
    holds_of_each h cells Keeps
    (λ s x now at more keeps lines.
    let before : FewLines s.moments = few_before (first_cluster h) s x lines in happening_waits (first_cluster h) s x now (led_at h cells s size at) before (keeps before))
    (λ first. first_waits h cells) hs may few
