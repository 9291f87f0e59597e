-- In each run what Promises show and requests rest on is so.
use Rattle.std.specs.Prelude.{List, None, Option, Some, [], slice_get, ℕ, ◌-◌, ◌<◌, ◌==◌, ◌^◌, ◌≡◌, ◌≢◌, ◌≤◌, ◌⊎◌, ◌++◌}
use Rattle.std.specs.List.{AllByRecursion}
use Rattle.std.proofs.Common.{arith, refl, subst, sym, ap, inl, inr}
use Rattle.cl_base.specs.declared.header.Header.{Header}
use Rattle.cl_base.specs.declared.method.Outcome as method
use Rattle.cl_base.specs.declared.packet.DropCause.{DropCause}
use Rattle.cmm_attempt.proofs.Basics.{same_some}
use Rattle.history.specs.Moment.{Part, Said}
use Rattle.interconnect.specs.Links as links
use Rattle.interconnect.specs.Links.{Links, Packet, appending, count_on, crowding, dropping, free_cells_of, oldest_on, packet_of, refusing, removing, sending}
use Rattle.membership_machine.specs.State.{Memberships}
use Rattle.node_model.specs.Steps.{Outcome, stepped}
use Rattle.node_model.specs.declared.cluster.Cluster.{Cluster}
use Rattle.node_model.specs.declared.input.Input.{Input}
use Rattle.node_model.specs.declared.input.Input.TheVariants as input
use Rattle.refinement.specs.node_widths.Widths.{NodeFits}
use Rattle.pgr_device.specs.Device.{Device}
use Rattle.pgr_device.specs.declared.command.PrCommand.{PrCommand}
use Rattle.pgr_device.specs.declared.command.PrCommand.TheVariants as command
use Rattle.record_disk.specs.Disks.{DiskState}
use Rattle.refinement.proofs.Disks.{disks_keep_rules}
use Rattle.refinement.proofs.Facts.{step_may}
use Rattle.refinement.proofs.Handlers.{delivered_by}
use Rattle.refinement.proofs.Replies.{steps_are_cut}
use Rattle.refinement.proofs.Worlds.{all_found}
use Rattle.refinement.specs.Courses.{Reply}
use Rattle.refinement.specs.Cuts.{doings}
use Rattle.refinement.specs.Doings.{Doing, Site, after_all, given_all, site}
use Rattle.refinement.specs.Guards.{MayAll}
use Rattle.refinement.specs.Runs.{AnswersFit, Letter, Nodes, WasSent, first_nodes, letters_of, moved, stepped_at}
use Rattle.refinement.specs.Runs.Move.{Takes as Takes_in}
use Rattle.refinement.specs.Steps.{IsCut, disk_rules}
use Rattle.refinement.specs.Worlds.{Keeps}
use Rattle.refinement.proofs.DeviceWidths.{command_keeps}
use Rattle.run_history.proofs.ContactWidths.{StepFits, all_spelled, move_fits, node_due}
use Rattle.run_history.proofs.DeedRuns.{runs_are_cut}
use Rattle.run_history.proofs.WholeEachRun.{runs_are_whole}
use Rattle.run_history.specs.Wholes.{IsWhole}
use Rattle.run_history.proofs.Idle.{passing_nodes}
use Rattle.run_history.proofs.Steps.{put_all}
use Rattle.run_history.specs.Happenings.{Commanded, Happening, IsPlain, MayAllHappen, MayHappen, all_happened, armed_by, commanded, commanded_at, happened, removed, taking}
use Rattle.run_history.specs.Happenings.Happening.{Arrives, Begins, Commands, Loses, Misses, Notes, Refuses, Repeats, Speaks, Strays, Takes, Writes}
use Rattle.run_history.specs.Scenes.{Scene, adding, dropped_so, first_scene, passing, telling, with_links}
use Rattle.run_history.specs.Stages.{Sized, Stage, site_of}
use Rattle.run_messages.proofs.Reaching.{IsReached, IsSmall, holds_of_each, stage_of}
use Rattle.run_messages.proofs.records.Sizes.{header_sized}
use Rattle.run_seizings.proofs.Asked.{AllMay}
use Rattle.run_seizings.proofs.Moments.{answer_fits, due_low, due_own, plain_fits, plain_no, plain_sent}
use Rattle.run_seizings.proofs.Steps.{Ground, OwnKeysOnly, answer_may, ground_of, plain_may}
use Rattle.schedule_text.specs.declared.event.Event.{Event}
use Rattle.schedule_text.specs.declared.event.Event.TheVariants as event
use Rattle.schedule_text.specs.declared.line.Line.TheVariants as line
use Rattle.status_report.specs.declared.entry.Entry.TheVariants as entry
use Rattle.status_report.specs.declared.packet_entry.PacketEntry.TheVariants as packet
use Rattle.wire.specs.Spelling.{IsNode}
use Rattle.world_model.specs.First.{first_cluster}
use Rattle.run_outcomes.specs.tasks.Shown.{Agree, AsksData, AsksQuorum, HandSent, HasShown, Installs, IsApart, LineSo, PacketSo, SceneSo, SiteSo}
use Rattle.run_outcomes.proofs.shown.Admits.{answer_admits, plain_admits}
use Rattle.run_outcomes.proofs.shown.Keeps.{site_keeps}
use Rattle.run_outcomes.proofs.shown.Letters.{older, packets_more}
use Rattle.run_downs.proofs.Packets.{no_packets}
use Rattle.run_history.proofs.Alike.{among_own}
use Rattle.run_outcomes.proofs.shown.Lines.{lines_more, passing_lines}
use Rattle.run_outcomes.proofs.shown.Deeds.{AllAdmit}
use Rattle.run_outcomes.proofs.shown.Walk.{Walked, all_done, given_less, given_more, on_all, same_letters}
use Rattle.run_outcomes.proofs.shown.Now.{After}
use Rattle.local_disk.specs.declared.memory.Choice.{Choice}
use Rattle.machine_base.proofs.Puts.{put_here, put_there, same_or_not}
use Rattle.machine_base.specs.Put.{put}
use Rattle.record_disk.specs.Disks.{armed}
use Rattle.world_model.specs.Lines.{left_by}
use Rattle.run_outcomes.proofs.shown.Carried.{removing_so, sending_so, size, passing_so}

-- ---- a step

sites_put : (v : Nodes) (n : ℕ) (o : Outcome DiskState) (M : List Letter) → SiteSo M n (site o.after o.disk.kept) → ((k : ℕ) → k ≢ n → SiteSo M k (site_of v k)) → (k : ℕ) → SiteSo M k (site_of (stepped_at v n o) k)
sites_put v n o M here there = put_all (λ j node disk. SiteSo M j (site node disk)) v n o.after o.disk here there

step_so : (h : Header) (c : Cluster) (n now : ℕ) (ends : method.Outcome) (i : Input) (s : Scene) → Sized c → Ground c s.nodes → IsNode n → now < 2 ^ 64 → WasSent s.nodes i → AnswersFit i
    → HandSent s.nodes.sent (delivered_by i)
    → ((replies : List Reply) → AllMay h c n (delivered_by i) None (site_of s.nodes n) (doings c n now ends replies i (s.nodes.node n)))
    → ((replies : List Reply) → AllAdmit c n (site_of s.nodes n) (doings c n now ends replies i (s.nodes.node n))) → SceneSo s → SceneSo (taking c n now ends i s)
step_so h c n now ends i s sized b is time was answer hand guard admits k =
    let v : Nodes = s.nodes in
    let M : Memberships = b.machine in
    let o : Outcome DiskState = stepped disk_rules c n now ends (v.node n) (v.disk n) i in
    let cut : IsCut disk_rules c n now ends (v.node n) (v.disk n) i [] o = steps_are_cut disk_rules disks_keep_rules c n now ends (v.node n) (v.disk n) i in
    let x : Site = site_of v n in
    let small : List Doing = doings c n now ends cut.replies i (v.node n) in
    let may : MayAll c n (delivered_by i) x small =
    step_may c M n now ends (v.node n) (v.disk n).kept i cut.replies is.1 sized.fits.devices.attached b.holds (b.stands n).tied (b.stands n).joins in
    let widths : StepFits c n o = move_fits c sized.fits v n now ends i (is.0, is.1, was, answer) time b.fits in
    let t : Scene = record s { nodes = moved c v (Takes_in n now ends i) } in
    let w : Walked v.sent c n x small =
    all_done h v.sent c n (delivered_by i) None x small sized.fits.devices.attached hand may (guard cut.replies) (admits cut.replies)
    (record { apart = k.apart; agree = k.agree; here = k.sites n; hand = tt }) in
    let N : List Letter = letters_of n (given_all c n x small) ++ v.sent in
    let z : After v.sent N n (after_all c n x small) w.hand (given_all c n x small) =
    same_letters v.sent (on_all n c x small v.sent) N n (after_all c n x small) w.hand (given_all c n x small) (given_more n c x small v.sent) (given_less n c x small v.sent) w.after in
    let y : After v.sent (letters_of n o.given ++ v.sent) n (site o.after o.disk.kept) w.hand o.given =
    subst (λ os. After v.sent (letters_of n os ++ v.sent) n (site o.after o.disk.kept) w.hand os) cut.comes.given
    (subst (λ q. After v.sent N n q w.hand (given_all c n x small)) cut.comes.left z) in
    let r : Scene = passing n o.given t in
    let same : r.nodes ≡ moved c v (Takes_in n now ends i) = passing_nodes n o.given t in
    let N : List Letter = letters_of n o.given ++ v.sent in
    record {
      lines = subst (λ (q : Nodes). AllByRecursion (LineSo q.sent) r.moments) (sym same)
          (passing_lines N n o.given t (no_packets c n now ends (v.node n) (v.disk n) i) (all_spelled n o.given is widths.given) (among_own n o.given v.sent) (lines_more v.sent N s.moments (older n o.given v.sent) k.lines));
      apart = subst (λ (q : Nodes). IsApart q.sent) (sym same) y.now.apart;
      agree = subst (λ (q : Nodes). Agree q.sent) (sym same) y.now.agree;
      sites = subst (λ (q : Nodes). (j : ℕ) → SiteSo q.sent j (site_of q j)) (sym same)
          (sites_put v n o (letters_of n o.given ++ v.sent) y.now.here (λ j ne. site_keeps j v.sent (letters_of n o.given ++ v.sent) (site_of v j) (y.others j ne) (k.sites j)));
      packets = subst (λ (q : Nodes). AllByRecursion (PacketSo q.sent) r.links.packets) (sym same)
          (passing_so (letters_of n o.given ++ v.sent) n o.given t (all_spelled n o.given is widths.given) y.given (packets_more v.sent (letters_of n o.given ++ v.sent) s.links.packets (older n o.given v.sent) k.packets));
    }

-- ---- each thing that happens

pub armed_kept : (f : ℕ → DiskState) (n k calls : ℕ) (choice : Choice) → (put f n (armed (f n) calls choice) k).kept ≡ (f k).kept
armed_kept f n k calls choice = by_node (same_or_not k n)
  where
    by_node : (k ≡ n) ⊎ (k ≢ n) → (put f n (armed (f n) calls choice) k).kept ≡ (f k).kept
    by_node (inl is) = subst (λ j. (put f n (armed (f n) calls choice) j).kept ≡ (f j).kept) (sym is) (ap (λ (d : DiskState). d.kept) (put_here f n (armed (f n) calls choice)))
    by_node (inr ne) = ap (λ (d : DiskState). d.kept) (put_there f n (armed (f n) calls choice) k ne)

armed_so : (c : Cluster) (e : Event) (s : Scene) → SceneSo s → SceneSo (armed_by c e s)
armed_so c (event.CrashAt n calls choice) s k = record {
  apart = k.apart;
  agree = k.agree;
  sites = λ j. subst (λ r. SiteSo s.nodes.sent j (site (s.nodes.node j) r)) (sym (armed_kept s.nodes.disk n j calls (left_by choice))) (k.sites j);
  packets = k.packets;
  lines = k.lines;
}
armed_so c (event.Fault n d done) s k = record { apart = k.apart; agree = k.agree; sites = k.sites; packets = k.packets; lines = k.lines }
armed_so c _ s k = k

pub plain_hand : (L : List Letter) (i : Input) → IsPlain i → HandSent L (delivered_by i)
plain_hand L (input.Packet from m) is = absurd is
plain_hand L input.Boot is = tt
plain_hand L input.Crash is = tt
plain_hand L input.Tick is = tt
plain_hand L input.CommandDue is = tt
plain_hand L (input.Answered a) is = tt
plain_hand L (input.Wrote d value a) is = tt
plain_hand L (input.Commanded words) is = tt
plain_hand L (input.Reported r good) is = tt
plain_hand L (input.Client name client port) is = tt

-- what a command at a device leaves
record Left (c : Cluster) (s : Scene) (o : Commanded) : Type 0 where
  so : SceneSo o.scene
  ground : Ground c o.scene.nodes
  nodes : o.scene.nodes ≡ s.nodes

left_at : (c : Cluster) (s : Scene) (n d : ℕ) (k : PrCommand) (o : Option Device) → Ground c s.nodes → SceneSo s → Left c s (commanded_at s n d o k)
left_at c s n d k None g z = record { so = z; ground = g; nodes = refl }
left_at c s n d k (Some x) g z = record { so = record { apart = z.apart; agree = z.agree; sites = z.sites; packets = z.packets; lines = z.lines }; ground = g; nodes = refl }

-- with other packets and lines
again_so : (s t : Scene) → t.nodes ≡ s.nodes → AllByRecursion (PacketSo s.nodes.sent) t.links.packets → AllByRecursion (LineSo s.nodes.sent) t.moments → SceneSo s → SceneSo t
again_so s t same packets lines k = record {
  lines = subst (λ (q : Nodes). AllByRecursion (LineSo q.sent) t.moments) (sym same) lines;
  apart = subst (λ (q : Nodes). IsApart q.sent) (sym same) k.apart;
  agree = subst (λ (q : Nodes). Agree q.sent) (sym same) k.agree;
  sites = subst (λ (q : Nodes). (j : ℕ) → SiteSo q.sent j (site_of q j)) (sym same) k.sites;
  packets = subst (λ (q : Nodes). AllByRecursion (PacketSo q.sent) t.links.packets) (sym same) packets;
}

happening_so : (h : Header) (s : Scene) (x : Happening) → MayHappen (first_cluster h) s x → Sized (first_cluster h) → Stage (first_cluster h) s → IsWhole (first_cluster h) s
    → SceneSo s → SceneSo (happened (first_cluster h) s x)
happening_so h s (Speaks e) may sized b w k = armed_so (first_cluster h) e (adding (Said (line.Event e)) s) (again_so s (adding (Said (line.Event e)) s) refl k.packets (tt, k.lines) k)
happening_so h s (Begins e) may sized b w k = again_so s (adding (Part e) s) refl k.packets (tt, k.lines) k
happening_so h s (Notes e) may sized b w k = again_so s (telling (entry.Schedule e) s) refl k.packets (tt, k.lines) k
happening_so h s (Takes n now ends i) may sized b w k =
    let c : Cluster = first_cluster h in
    step_so h c n now ends i s sized (ground_of c s b) may.0 may.2 (plain_sent s.nodes i may.1) (plain_fits i may.1) (plain_hand s.nodes.sent i may.1)
    (plain_may h c n now ends (s.nodes.node n) (s.nodes.disk n).kept i (plain_no i may.1) may.2 (b.fits.nodes n))
    (plain_admits c n now ends (s.nodes.node n) (s.nodes.disk n).kept i (plain_no i may.1) may.2 (b.fits.nodes n)) k
happening_so h s (Arrives number x m now ends) may sized b w k =
    let c : Cluster = first_cluster h in
    let t : Scene = telling (entry.Packet (packet.Delivered number x.from x.to)) (removed s number) in
    step_so h c x.to now ends (input.Packet x.from m) t sized (ground_of c s b) may.3 may.5 may.4 tt may.4
    (plain_may h c x.to now ends (s.nodes.node x.to) (s.nodes.disk x.to).kept (input.Packet x.from m) tt may.5 (b.fits.nodes x.to))
    (plain_admits c x.to now ends (s.nodes.node x.to) (s.nodes.disk x.to).kept (input.Packet x.from m) tt may.5 (b.fits.nodes x.to))
    (again_so s t refl (removing_so s.nodes.sent s.links number k.packets) (tt, k.lines) k)
happening_so h s (Strays number x) may sized b w k = again_so s (happened (first_cluster h) s (Strays number x)) refl (removing_so s.nodes.sent s.links number k.packets) (tt, k.lines) k
happening_so h s (Misses number x) may sized b w k = again_so s (happened (first_cluster h) s (Misses number x)) refl (removing_so s.nodes.sent s.links number k.packets) (tt, k.lines) k
happening_so h s (Loses number x) may sized b w k = again_so s (happened (first_cluster h) s (Loses number x)) refl (removing_so s.nodes.sent s.links number k.packets) (tt, k.lines) k
happening_so h s (Repeats number x) may sized b w k =
    let o : links.Outcome = sending s.links x.from x.to x.bytes in
    let t : Scene = telling (entry.Packet (packet.Repeated number s.links.next)) (with_links s o.after) in
    copied o.sent.dropped t
    (again_so s t refl
    (sending_so s.nodes.sent s.links x.from x.to x.bytes k.packets (all_found (PacketSo s.nodes.sent) (λ (p : Packet). p.number == number) s.links.packets x k.packets may.0)) (tt, k.lines) k)
  where
    copied : (o : Option (ℕ × DropCause)) (t : Scene) → SceneSo t → SceneSo (dropped_so o t)
    copied None t z = z
    copied (Some d) t z = again_so t (dropped_so (Some d) t) refl z.packets (tt, z.lines) z
happening_so h s (Commands n d q now ends) may sized b w k =
    let c : Cluster = first_cluster h in
    let o : Commanded = commanded s n d q in
    let l : Left c s o = left_at c s n d q (slice_get s.devices (d - 1)) (ground_of c s b) k in
    let low : 1 ≤ d = due_low c n (s.nodes.node n) d q (b.fits.nodes n) may.2 in
    let keeps : (y : Device) → slice_get s.devices (d - 1) ≡ Some y → Keeps y n q =
    λ y is. command_keeps y n q may.0.0 may.0.1
    (node_due c n d q (Some (s.nodes.node n)) w.cluster.small may.0.1 (λ node at. subst (λ z. NodeFits c n z) (same_some (s.nodes.node n) node at) (b.fits.nodes n)) may.2)
    (b.devices (d - 1) y is) in
    step_so h c n now ends (input.Answered o.answer) o.scene sized l.ground may.0 may.3 tt (answer_fits c s n d q (slice_get s.devices (d - 1)) keeps) tt
    (answer_may h c n now ends (o.scene.nodes.node n) (o.scene.nodes.disk n).kept o.answer
    (subst (λ (v : Nodes). OwnKeysOnly h (v.node n) o.answer) (sym l.nodes) (due_own h s n d q (s.nodes.node n) w may.2 low)))
    (answer_admits c n now ends (o.scene.nodes.node n) (o.scene.nodes.disk n).kept o.answer) l.so
happening_so h s (Writes n d value now ends) may sized b w k =
    let c : Cluster = first_cluster h in
    let o : Commanded = commanded s n d (command.Write value) in
    let l : Left c s o = left_at c s n d (command.Write value) (slice_get s.devices (d - 1)) (ground_of c s b) k in
    step_so h c n now ends (input.Wrote d value o.answer) o.scene sized l.ground may.0 may.2 tt tt tt
    (plain_may h c n now ends (o.scene.nodes.node n) (o.scene.nodes.disk n).kept (input.Wrote d value o.answer) tt may.2 (l.ground.fits.nodes n))
    (plain_admits c n now ends (o.scene.nodes.node n) (o.scene.nodes.disk n).kept (input.Wrote d value o.answer) tt may.2 (l.ground.fits.nodes n)) l.so
happening_so h s (Refuses n d value cause) may sized b w k = again_so s (happened (first_cluster h) s (Refuses n d value cause)) refl k.packets (tt, k.lines) k

-- ---- runs

none_shown : (n e v : ℕ) → HasShown [] n e v → ⊥
none_shown n e v k = k.among

none_data : (e d : ℕ) → AsksData [] e d → ⊥
none_data e d k = k.among

none_quorum : (e d : ℕ) → AsksQuorum [] e d → ⊥
none_quorum e d k = k.among

none_installed : (e : ℕ) → Installs [] e → ⊥
none_installed e k = k.among

first_site : (h : Header) (n : ℕ) → SiteSo [] n (site_of (first_nodes (first_cluster h)) n)
first_site h n = record {
  order = omega arith;
  shown = λ e v z. absurd (none_shown n e v z);
  asked_data = λ e d own z. absurd (none_data e d z);
  quorum = λ e d own z. absurd (none_quorum e d z);
  installs = λ e own z. absurd (none_installed e z);
  up = tt;
}

first_so : (h : Header) (cells : ℕ) → SceneSo (first_scene h cells)
unfolding first_scene
first_so h cells = record {
  apart = λ e d asked quorum. none_data e d asked;
  agree = λ n e v w d range other first second shows lacks. absurd (none_shown n e v first);
  sites = λ n. first_site h n;
  packets = tt;
  lines = tt;
}

pub whole_at : (h : Header) (cells : ℕ) (s : Scene) → IsSmall h → IsReached h cells s → IsWhole (first_cluster h) s
whole_at h cells s size r = subst (IsWhole (first_cluster h)) r.is (runs_are_whole h cells r.happenings (runs_are_cut h cells r.happenings) size.few size.small r.may).scene

pub run_so : (h : Header) (cells : ℕ) (hs : List Happening) → IsSmall h → MayAllHappen (first_cluster h) (first_scene h cells) hs → SceneSo (all_happened (first_cluster h) (first_scene h cells) hs)
run_so h cells hs size may =
    holds_of_each h cells SceneSo
    (λ s x now at more k. happening_so h s x now (header_sized h size.few size.small) (stage_of h cells s size at) (whole_at h cells s size at) k) (first_so h cells) hs may
