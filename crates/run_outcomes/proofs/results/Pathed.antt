-- In each run who is asked to seize a device has a path to it.
use Rattle.std.specs.Prelude.{List, None, Option, Some, [], length, nat_le, nat_lt, not, slice_get, true, ℕ, ◌-◌, ◌<◌, ◌==◌, ◌^◌, ◌≡◌, ◌≤◌, ◌∷◌}
use Rattle.std.specs.List.{AllByRecursion}
use Rattle.std.proofs.Common.{arith, refl, subst, sym, ◌∙◌}
use Rattle.attempt_laws.proofs.Walk.{if_with}
use Rattle.cl_base.specs.declared.header.Header.{Header}
use Rattle.cl_base.specs.declared.method.Outcome as method
use Rattle.cl_base.specs.declared.packet.DropCause.{DropCause}
use Rattle.cmm_attempt.proofs.Basics.{and_cases, if_either, same_some}
use Rattle.history.specs.Moment.{Said}
use Rattle.interconnect.specs.Links as links
use Rattle.interconnect.specs.Links.{Links, Packet, appending, count_on, crowding, dropping, free_cells_of, oldest_on, packet_of, refusing, removing, sending}
use Rattle.membership_machine.specs.State.{Memberships}
use Rattle.node_model.specs.Steps.{Outcome, stepped}
use Rattle.node_model.specs.declared.cluster.Cluster.{Cluster}
use Rattle.node_model.specs.declared.input.Input.{Input}
use Rattle.node_model.specs.declared.input.Input.TheVariants as input
use Rattle.node_model.specs.declared.output.Output.{Output}
use Rattle.node_model.specs.declared.output.Output.TheVariants.{Sends, Tells}
use Rattle.refinement.specs.node_widths.Widths.{NodeFits}
use Rattle.pgr_device.specs.Device.{Device}
use Rattle.pgr_device.specs.declared.command.PrCommand.{PrCommand}
use Rattle.pgr_device.specs.declared.command.PrCommand.TheVariants as command
use Rattle.record_disk.specs.Disks.{DiskState}
use Rattle.refinement.proofs.Disks.{disks_keep_rules}
use Rattle.refinement.proofs.Facts.{step_may}
use Rattle.refinement.proofs.Handlers.{delivered_by}
use Rattle.refinement.proofs.Replies.{steps_are_cut}
use Rattle.refinement.proofs.Worlds.{all_append, all_filter, all_found}
use Rattle.refinement.specs.Courses.{Reply}
use Rattle.refinement.specs.Cuts.{doings}
use Rattle.refinement.specs.Doings.{Doing, Site, after_all, given_all}
use Rattle.refinement.specs.Guards.{MayAll}
use Rattle.refinement.specs.Runs.{AnswersFit, Nodes, WasSent, moved}
use Rattle.refinement.specs.Runs.Move.{Takes as Takes_in}
use Rattle.refinement.specs.Steps.{IsCut, disk_rules}
use Rattle.refinement.specs.Worlds.{AllFit, Keeps, SpelledIfShort}
use Rattle.refinement.proofs.DeviceWidths.{command_keeps}
use Rattle.run_history.proofs.ContactWidths.{StepFits, all_spelled, move_fits, node_due}
use Rattle.run_history.proofs.Courses.{doings_so}
use Rattle.run_history.proofs.DeedRuns.{runs_are_cut}
use Rattle.run_history.proofs.WholeEachRun.{runs_are_whole}
use Rattle.run_history.specs.Wholes.{IsWhole}
use Rattle.run_history.proofs.Idle.{passing_nodes}
use Rattle.run_history.proofs.Steps.{put_all}
use Rattle.run_history.specs.Happenings.{Commanded, Happening, IsPlain, MayAllHappen, MayHappen, all_happened, armed_by, commanded, commanded_at, happened, removed, taking}
use Rattle.run_history.specs.Happenings.Happening.{Arrives, Begins, Commands, Loses, Misses, Notes, Refuses, Repeats, Speaks, Strays, Takes, Writes}
use Rattle.run_history.specs.Scenes.{Scene, adding, dropped_so, first_scene, passing, posting, sent_as, telling, with_links}
use Rattle.run_history.specs.Stages.{Sized, Stage, site_of}
use Rattle.run_messages.proofs.Reaching.{IsReached, IsSmall, holds_of_each, stage_of}
use Rattle.run_messages.proofs.records.Sizes.{header_sized}
use Rattle.run_seizings.proofs.Asked.{AllMay}
use Rattle.run_seizings.proofs.Moments.{answer_fits, due_low, due_own, plain_fits, plain_no, plain_sent}
use Rattle.run_seizings.proofs.Steps.{Ground, OwnKeysOnly, answer_may, ground_of, plain_may}
use Rattle.schedule_text.specs.declared.event.Event.{Event}
use Rattle.schedule_text.specs.declared.event.Event.TheVariants as event
use Rattle.schedule_text.specs.declared.line.Line.TheVariants as line
use Rattle.status_report.specs.declared.entry.Entry.TheVariants as entry
use Rattle.status_report.specs.declared.packet_entry.PacketEntry.TheVariants as packet
use Rattle.wire.proofs.Messages.{whole_again}
use Rattle.wire.specs.Reads.{whole_of}
use Rattle.wire.specs.Spelling.{Fits, IsNode, spelling}
use Rattle.wire.specs.declared.message.Body.{Body}
use Rattle.wire.specs.declared.message.Message.{Message}
use Rattle.world_model.specs.First.{first_cluster}
use Rattle.world_model.specs.Sends.{is_sent}
use Rattle.run_outcomes.proofs.results.PathWalk.{Ended, OutsPath, all_path}
use Rattle.run_outcomes.specs.results.Paths.{BodyPath, HandPath, IsPathed, NodePath, PacketPath, PathsOfEachRun}

-- ---- packets

abbrev Carried : Cluster → Links → Type 0
Carried c l = AllByRecursion (PacketPath c) l.packets

removing_path : (c : Cluster) (l : Links) (number : ℕ) → Carried c l → Carried c (removing l number)
removing_path c l number k = all_filter (PacketPath c) (λ (p : Packet). not (p.number == number)) l.packets k

dropping_path : (c : Cluster) (l : Links) (number : ℕ) (o : Option ℕ) → Carried c l → Carried c (dropping l number o).after
dropping_path c l number None k = k
dropping_path c l number (Some oldest) k = removing_path c l oldest k

crowding_path : (c : Cluster) (l : Links) (number from to : ℕ) → Carried c l → Carried c (crowding l number from to).after
crowding_path c l number from to k =
    if_either (λ (o : links.Outcome). Carried c o.after) (nat_lt _ (count_on l.packets from to)) (dropping l number (oldest_on l.packets from to)) _
    (dropping_path c l number (oldest_on l.packets from to) k) k

sending_path : (c : Cluster) (l : Links) (from to : ℕ) (bytes : List ℕ) → Carried c l → ((m : Message) → whole_of bytes ≡ Some m → BodyPath c to m.body) → Carried c (sending l from to bytes).after
sending_path c l from to bytes k new =
    if_either (λ (o : links.Outcome). Carried c o.after) (nat_lt (free_cells_of l) _) (refusing l) (crowding (appending l from to bytes) l.next from to) k
    (crowding_path c (appending l from to bytes) l.next from to
    (all_append (PacketPath c) l.packets (record { number = l.next; from = from; to = to; bytes = bytes }) k new))

dropped_path : (c : Cluster) (o : Option (ℕ × DropCause)) (s : Scene) → Carried c s.links → Carried c (dropped_so o s).links
dropped_path c None s k = k
dropped_path c (Some d) s k = k

size : (k : ℕ) → nat_le k 131072 ≡ true → k ≤ 131072
size k e = grind arith

posting_path : (c : Cluster) (n to : ℕ) (b : Body) (s : Scene) → SpelledIfShort (record { sender = n; body = b }) → BodyPath c to b → Carried c s.links
    → Carried c (posting n to (record { sender = n; body = b }) s).links
posting_path c n to b s fits path k =
    if_with (λ (t : Scene). Carried c t.links) (is_sent s.links m) (is_sent s.links m) (sent_as n to m o s) s refl
    (λ e. dropped_path c o.sent.dropped _ (sent (fits (size (length (spelling m)) (and_cases _ _ e).0)))) (λ e. k)
  where
    m : Message
    m = record { sender = n; body = b }

    o : links.Outcome
    o = sending s.links n to (spelling m)

    sent : Fits m → Carried c o.after
    sent spelled = sending_path c s.links n to (spelling m) k
        (λ other is. subst (λ (z : Message). BodyPath c to z.body) (same_some m other (sym (whole_again m spelled) ∙ is)) path)

passing_path : (c : Cluster) (n : ℕ) (os : List Output) (s : Scene) → AllFit n os → OutsPath c os → Carried c s.links → Carried c (passing n os s).links
passing_path c n [] s fits paths k = k
passing_path c n (Tells e ∷ os) s fits paths k = passing_path c n os (telling e s) fits paths.1 k
passing_path c n (Sends to b ∷ os) s fits paths k =
    passing_path c n os (posting n to (record { sender = n; body = b }) s) fits.2 paths.1 (posting_path c n to b s fits.1 paths.0 k)

-- ---- a step

step_path : (h : Header) (c : Cluster) (n now : ℕ) (ends : method.Outcome) (i : Input) (s : Scene) → Sized c → Ground c s.nodes → IsNode n → now < 2 ^ 64 → WasSent s.nodes i → AnswersFit i
    → HandPath c n (delivered_by i)
    → ((replies : List Reply) → AllMay h c n (delivered_by i) None (site_of s.nodes n) (doings c n now ends replies i (s.nodes.node n))) → IsPathed c s → IsPathed c (taking c n now ends i s)
step_path h c n now ends i s sized b is time was answer hand guard k =
    let v : Nodes = s.nodes in
    let M : Memberships = b.machine in
    let o : Outcome DiskState = stepped disk_rules c n now ends (v.node n) (v.disk n) i in
    let cut : IsCut disk_rules c n now ends (v.node n) (v.disk n) i [] o = steps_are_cut disk_rules disks_keep_rules c n now ends (v.node n) (v.disk n) i in
    let x : Site = site_of v n in
    let small : List Doing = doings c n now ends cut.replies i (v.node n) in
    let may : MayAll c n (delivered_by i) x small =
    step_may c M n now ends (v.node n) (v.disk n).kept i cut.replies is.1 sized.fits.devices.attached b.holds (b.stands n).tied (b.stands n).joins in
    let widths : StepFits c n o = move_fits c sized.fits v n now ends i (is.0, is.1, was, answer) time b.fits in
    let t : Scene = record s { nodes = moved c v (Takes_in n now ends i) } in
    let z : Ended c n (after_all c n x small).node (given_all c n x small) =
    all_path h c n (delivered_by i) None x small sized.fits.devices.attached may (guard cut.replies) (doings_so c n now ends cut.replies i (v.node n)) hand tt (k.nodes n) in
    let done : Ended c n o.after o.given =
    subst (λ os. Ended c n o.after os) cut.comes.given (subst (λ (y : Site). Ended c n y.node (given_all c n x small)) cut.comes.left z) in
    record {
      nodes = subst (λ (y : Nodes). (j : ℕ) → NodePath c j (y.node j)) (sym (passing_nodes n o.given t))
          (put_all (λ j node disk. NodePath c j node) v n o.after o.disk done.here (λ j ne. k.nodes j));
      packets = passing_path c n o.given t (all_spelled n o.given is widths.given) done.given k.packets;
    }

-- ---- each thing that happens

armed_path : (c : Cluster) (e : Event) (s : Scene) → IsPathed c s → IsPathed c (armed_by c e s)
armed_path c (event.CrashAt n calls choice) s k = record { nodes = k.nodes; packets = k.packets }
armed_path c (event.Fault n d done) s k = record { nodes = k.nodes; packets = k.packets }
armed_path c _ s k = k

plain_hand : (c : Cluster) (n : ℕ) (i : Input) → IsPlain i → HandPath c n (delivered_by i)
plain_hand c n (input.Packet from m) is = absurd is
plain_hand c n input.Boot is = tt
plain_hand c n input.Crash is = tt
plain_hand c n input.Tick is = tt
plain_hand c n input.CommandDue is = tt
plain_hand c n (input.Answered a) is = tt
plain_hand c n (input.Wrote d value a) is = tt
plain_hand c n (input.Commanded words) is = tt
plain_hand c n (input.Reported r good) is = tt
plain_hand c n (input.Client name client port) is = tt

-- what a command at a device leaves
record Left (c : Cluster) (s : Scene) (o : Commanded) : Type 0 where
  paths : IsPathed c o.scene
  ground : Ground c o.scene.nodes
  nodes : o.scene.nodes ≡ s.nodes

left_at : (c : Cluster) (s : Scene) (n d : ℕ) (k : PrCommand) (o : Option Device) → Ground c s.nodes → IsPathed c s → Left c s (commanded_at s n d o k)
left_at c s n d k None g z = record { paths = z; ground = g; nodes = refl }
left_at c s n d k (Some x) g z = record { paths = record { nodes = z.nodes; packets = z.packets }; ground = g; nodes = refl }

repeated_path : (c : Cluster) (s : Scene) (number : ℕ) (x : Packet) → packet_of s.links.packets number ≡ Some x → IsPathed c s → Carried c (sending s.links x.from x.to x.bytes).after
repeated_path c s number x is k =
    sending_path c s.links x.from x.to x.bytes k.packets (all_found (PacketPath c) (λ (p : Packet). p.number == number) s.links.packets x k.packets is)

happening_path : (h : Header) (s : Scene) (x : Happening) → MayHappen (first_cluster h) s x → Sized (first_cluster h) → Stage (first_cluster h) s → IsWhole (first_cluster h) s
    → IsPathed (first_cluster h) s → IsPathed (first_cluster h) (happened (first_cluster h) s x)
happening_path h s (Speaks e) may sized b w k = armed_path (first_cluster h) e (adding (Said (line.Event e)) s) (record { nodes = k.nodes; packets = k.packets })
happening_path h s (Begins e) may sized b w k = record { nodes = k.nodes; packets = k.packets }
happening_path h s (Notes e) may sized b w k = record { nodes = k.nodes; packets = k.packets }
happening_path h s (Takes n now ends i) may sized b w k =
    let c : Cluster = first_cluster h in
    step_path h c n now ends i s sized (ground_of c s b) may.0 may.2 (plain_sent s.nodes i may.1) (plain_fits i may.1) (plain_hand c n i may.1)
    (plain_may h c n now ends (s.nodes.node n) (s.nodes.disk n).kept i (plain_no i may.1) may.2 (b.fits.nodes n)) k
happening_path h s (Arrives number x m now ends) may sized b w k =
    let c : Cluster = first_cluster h in
    let t : Scene = telling (entry.Packet (packet.Delivered number x.from x.to)) (removed s number) in
    step_path h c x.to now ends (input.Packet x.from m) t sized (ground_of c s b) may.3 may.5 may.4 tt
    (all_found (PacketPath c) (λ (p : Packet). p.number == number) s.links.packets x k.packets may.0 m may.1)
    (plain_may h c x.to now ends (s.nodes.node x.to) (s.nodes.disk x.to).kept (input.Packet x.from m) tt may.5 (b.fits.nodes x.to))
    (record { nodes = k.nodes; packets = removing_path c s.links number k.packets })
happening_path h s (Strays number x) may sized b w k = record { nodes = k.nodes; packets = removing_path (first_cluster h) s.links number k.packets }
happening_path h s (Misses number x) may sized b w k = record { nodes = k.nodes; packets = removing_path (first_cluster h) s.links number k.packets }
happening_path h s (Loses number x) may sized b w k = record { nodes = k.nodes; packets = removing_path (first_cluster h) s.links number k.packets }
happening_path h s (Repeats number x) may sized b w k =
    let o : links.Outcome = sending s.links x.from x.to x.bytes in
    copied o.sent.dropped (telling (entry.Packet (packet.Repeated number s.links.next)) (with_links s o.after)) (record { nodes = k.nodes; packets = repeated_path (first_cluster h) s number x may.0 k })
  where
    copied : (o : Option (ℕ × DropCause)) (t : Scene) → IsPathed (first_cluster h) t → IsPathed (first_cluster h) (dropped_so o t)
    copied None t z = z
    copied (Some d) t z = record { nodes = z.nodes; packets = z.packets }
happening_path h s (Commands n d q now ends) may sized b w k =
    let c : Cluster = first_cluster h in
    let o : Commanded = commanded s n d q in
    let l : Left c s o = left_at c s n d q (slice_get s.devices (d - 1)) (ground_of c s b) k in
    let low : 1 ≤ d = due_low c n (s.nodes.node n) d q (b.fits.nodes n) may.2 in
    let keeps : (y : Device) → slice_get s.devices (d - 1) ≡ Some y → Keeps y n q =
    λ y is. command_keeps y n q may.0.0 may.0.1
    (node_due c n d q (Some (s.nodes.node n)) w.cluster.small may.0.1 (λ node at. subst (λ z. NodeFits c n z) (same_some (s.nodes.node n) node at) (b.fits.nodes n)) may.2)
    (b.devices (d - 1) y is) in
    step_path h c n now ends (input.Answered o.answer) o.scene sized l.ground may.0 may.3 tt (answer_fits c s n d q (slice_get s.devices (d - 1)) keeps) tt
    (answer_may h c n now ends (o.scene.nodes.node n) (o.scene.nodes.disk n).kept o.answer
    (subst (λ (v : Nodes). OwnKeysOnly h (v.node n) o.answer) (sym l.nodes) (due_own h s n d q (s.nodes.node n) w may.2 low))) l.paths
happening_path h s (Writes n d value now ends) may sized b w k =
    let c : Cluster = first_cluster h in
    let o : Commanded = commanded s n d (command.Write value) in
    let l : Left c s o = left_at c s n d (command.Write value) (slice_get s.devices (d - 1)) (ground_of c s b) k in
    step_path h c n now ends (input.Wrote d value o.answer) o.scene sized l.ground may.0 may.2 tt tt tt
    (plain_may h c n now ends (o.scene.nodes.node n) (o.scene.nodes.disk n).kept (input.Wrote d value o.answer) tt may.2 (l.ground.fits.nodes n)) l.paths
happening_path h s (Refuses n d value cause) may sized b w k = record { nodes = k.nodes; packets = k.packets }

-- ---- runs

first_pathed : (h : Header) (cells : ℕ) → IsPathed (first_cluster h) (first_scene h cells)
unfolding first_scene
first_pathed h cells = record { nodes = λ n. tt; packets = tt }

pub whole_at : (h : Header) (cells : ℕ) (s : Scene) → IsSmall h → IsReached h cells s → IsWhole (first_cluster h) s
whole_at h cells s size r = subst (IsWhole (first_cluster h)) r.is (runs_are_whole h cells r.happenings (runs_are_cut h cells r.happenings) size.few size.small r.may).scene

pub run_pathed : (h : Header) (cells : ℕ) (hs : List Happening) → IsSmall h → MayAllHappen (first_cluster h) (first_scene h cells) hs
    → IsPathed (first_cluster h) (all_happened (first_cluster h) (first_scene h cells) hs)
run_pathed h cells hs size may =
    holds_of_each h cells (IsPathed (first_cluster h))
    (λ s x now at more k. happening_path h s x now (header_sized h size.few size.small) (stage_of h cells s size at) (whole_at h cells s size at) k) (first_pathed h cells) hs may

pub paths_of_each_run : PathsOfEachRun
paths_of_each_run h cells hs few small may n = (run_pathed h cells hs (record { few = few; small = small }) may).nodes n
