-- Each thing that happens, and each run: what a node told of one seizing agrees, before its coordinator has installed.
use Rattle.std.specs.Prelude.{ℕ, ◌-◌, ◌≡◌, ◌≢◌, ◌≤◌, ◌⊎◌, List, Option, None, Some, slice_get}
use Rattle.std.proofs.Common.{arith, sym, ap, subst, inl, inr}
use Rattle.cl_base.specs.declared.header.Header.{Header}
use Rattle.cl_base.specs.declared.packet.DropCause.{DropCause}
use Rattle.cl_base.specs.declared.method.Outcome as method
use Rattle.interconnect.specs.Links.{sending}
use Rattle.machine_base.specs.Put.{put}
use Rattle.machine_base.proofs.Puts.{put_here, put_there, same_or_not}
use Rattle.cmm_member.specs.Records.{NodeRecord}
use Rattle.node_model.specs.declared.cluster.Cluster.{Cluster}
use Rattle.node_model.specs.declared.input.Input.{Input}
use Rattle.node_model.specs.declared.input.Input.TheVariants as input
use Rattle.pgr_device.specs.Device.{Device}
use Rattle.pgr_device.specs.declared.command.PrCommand.{PrCommand}
use Rattle.pgr_device.specs.declared.command.PrCommand.TheVariants as command
use Rattle.record_disk.specs.Disks.{DiskState, armed}
use Rattle.refinement.specs.Runs.{Nodes, WasSent, moved}
use Rattle.refinement.specs.Runs.Move.{Takes as Takes_in}
use Rattle.run_history.proofs.Idle.{passing_nodes}
use Rattle.run_history.specs.Happenings.{Happening, MayAllHappen, MayHappen, all_happened, armed_by, commanded, commanded_at, given_by, happened, removed, taking}
use Rattle.run_history.specs.Happenings.Happening.{Arrives, Begins, Commands, Loses, Misses, Notes, Refuses, Repeats, Speaks, Strays, Takes, Writes}
use Rattle.run_history.specs.Scenes.{Scene, adding, dropped_so, first_scene, telling, with_links}
use Rattle.run_history.specs.Stages.{Sized, Stage}
use Rattle.run_messages.proofs.Reaching.{IsSmall, holds_of_each, stage_of}
use Rattle.run_messages.proofs.records.Sizes.{header_sized}
use Rattle.run_seizings.proofs.Moments.{plain_no, plain_sent}
use Rattle.run_seizings.proofs.Steps.{Ground, ground_of}
use Rattle.schedule_text.specs.declared.event.Event.{Event}
use Rattle.schedule_text.specs.declared.event.Event.TheVariants as event
use Rattle.schedule_text.specs.declared.event.StopChoice.{StopChoice}
use Rattle.schedule_text.specs.declared.line.Line.TheVariants as line
use Rattle.history.specs.Moment.{Said as Spoken}
use Rattle.status_report.specs.declared.entry.Entry.TheVariants as entry
use Rattle.status_report.specs.declared.packet_entry.PacketEntry.TheVariants as packet
use Rattle.wire.specs.Spelling.{IsNode}
use Rattle.world_model.specs.First.{first_cluster}
use Rattle.world_model.specs.Lines.{left_by}
use Rattle.run_outcomes.specs.tasks.Said.{AllSaid, installed_in, tale_of}
use Rattle.run_outcomes.proofs.said.Tales.{said_grows}
use Rattle.run_outcomes.proofs.said.Steps.{StepTells, answer_tells, plain_tells, step_said}

same_most : (a b : ℕ) → a ≡ b → a ≤ b
same_most a b is = omega (arith, is)

-- what is armed in a disk leaves the records
armed_kept : (v : Nodes) (n calls : ℕ) (choice : StopChoice) (k : ℕ) → (put v.disk n (armed (v.disk n) calls (left_by choice)) k).kept ≡ (v.disk k).kept
armed_kept v n calls choice k = by_node (same_or_not k n)
  where
    by_node : (k ≡ n) ⊎ (k ≢ n) → (put v.disk n (armed (v.disk n) calls (left_by choice)) k).kept ≡ (v.disk k).kept
    by_node (inl same) =
        subst (λ j. (put v.disk n (armed (v.disk n) calls (left_by choice)) j).kept ≡ (v.disk j).kept) (sym same)
        (ap (λ (d : DiskState). d.kept) (put_here v.disk n (armed (v.disk n) calls (left_by choice))))
    by_node (inr ne) = ap (λ (d : DiskState). d.kept) (put_there v.disk n (armed (v.disk n) calls (left_by choice)) k ne)

armed_said : (c : Cluster) (e : Event) (s : Scene) → AllSaid s.nodes → AllSaid (armed_by c e s).nodes
armed_said c (event.CrashAt n calls choice) s so = λ k.
    let kept : (j : ℕ) → (put s.nodes.disk n (armed (s.nodes.disk n) calls (left_by choice)) j).kept ≡ (s.nodes.disk j).kept = armed_kept s.nodes n calls choice in
    said_grows (tale_of k s.nodes.sent) (tale_of k s.nodes.sent) (s.nodes.disk k).kept.promised _ (installed_in s.nodes) _ (s.nodes.node k) (λ e d r j. j)
    (same_most _ _ (ap (λ (r : NodeRecord). r.promised) (sym (kept k)))) (λ j. same_most _ _ (ap (λ (r : NodeRecord). r.installed) (sym (kept j)))) (so k)
armed_said c (event.Fault n d done) s so = so
armed_said c _ s so = so

taking_said : (c : Cluster) (n now : ℕ) (ends : method.Outcome) (i : Input) (t : Scene) → Sized c → Ground c t.nodes → IsNode n → WasSent t.nodes i → StepTells c n now ends i t.nodes
    → AllSaid t.nodes → AllSaid (taking c n now ends i t).nodes
taking_said c n now ends i t sized b is was tells so =
    subst AllSaid (sym (passing_nodes n (given_by c n now ends i t.nodes) (record t { nodes = moved c t.nodes (Takes_in n now ends i) }))) (step_said c n now ends i t.nodes sized b is was tells so)

dropped_said : (o : Option (ℕ × DropCause)) (s : Scene) → AllSaid s.nodes → AllSaid (dropped_so o s).nodes
dropped_said None s so = so
dropped_said (Some d) s so = so

commanded_so : (P : Nodes → Type 0) (s : Scene) (n d : ℕ) (o : Option Device) (k : PrCommand) → P s.nodes → P (commanded_at s n d o k).scene.nodes
commanded_so P s n d None k h = h
commanded_so P s n d (Some x) k h = h

ground_at : (c : Cluster) (s : Scene) (n d : ℕ) (o : Option Device) (k : PrCommand) → Ground c s.nodes → Ground c (commanded_at s n d o k).scene.nodes
ground_at c s n d None k g = g
ground_at c s n d (Some x) k g = g

happening_said : (c : Cluster) (s : Scene) (x : Happening) → MayHappen c s x → Sized c → Stage c s → AllSaid s.nodes → AllSaid (happened c s x).nodes
happening_said c s (Speaks e) may sized b so = armed_said c e (adding (Spoken (line.Event e)) s) so
happening_said c s (Begins e) may sized b so = so
happening_said c s (Notes e) may sized b so = so
happening_said c s (Takes n now ends i) may sized b so =
    taking_said c n now ends i s sized (ground_of c s b) may.0 (plain_sent s.nodes i may.1) (plain_tells c n now ends i s.nodes (plain_no i may.1) may.2 (b.fits.nodes n)) so
happening_said c s (Arrives number x m now ends) may sized b so =
    let t : Scene = telling (entry.Packet (packet.Delivered number x.from x.to)) (removed s number) in
    taking_said c x.to now ends (input.Packet x.from m) t sized (ground_of c s b) may.3 may.4 (plain_tells c x.to now ends (input.Packet x.from m) s.nodes tt may.5 (b.fits.nodes x.to)) so
happening_said c s (Strays number x) may sized b so = so
happening_said c s (Misses number x) may sized b so = so
happening_said c s (Loses number x) may sized b so = so
happening_said c s (Repeats number x) may sized b so =
    dropped_said (sending s.links x.from x.to x.bytes).sent.dropped
    (telling (entry.Packet (packet.Repeated number s.links.next)) (with_links s (sending s.links x.from x.to x.bytes).after)) so
happening_said c s (Commands n d q now ends) may sized b so =
    let o : Option Device = slice_get s.devices (d - 1) in
    let z : Scene = (commanded s n d q).scene in
    taking_said c n now ends (input.Answered (commanded s n d q).answer) z sized (ground_at c s n d o q (ground_of c s b)) may.0 tt
    (λ replies m. answer_tells c n now ends (commanded s n d q).answer (z.nodes.node n) (z.nodes.disk n).kept replies m) (commanded_so AllSaid s n d o q so)
happening_said c s (Writes n d value now ends) may sized b so =
    let o : Option Device = slice_get s.devices (d - 1) in
    let q : PrCommand = command.Write value in
    let z : Scene = (commanded s n d q).scene in
    let g : Ground c z.nodes = ground_at c s n d o q (ground_of c s b) in
    taking_said c n now ends (input.Wrote d value (commanded s n d q).answer) z sized g may.0 tt
    (plain_tells c n now ends (input.Wrote d value (commanded s n d q).answer) z.nodes tt may.2 (g.fits.nodes n)) (commanded_so AllSaid s n d o q so)
happening_said c s (Refuses n d value why) may sized b so = so

first_said : (h : Header) (cells : ℕ) → AllSaid (first_scene h cells).nodes
unfolding first_scene
first_said h cells n = record { low = λ e d r tells some. absurd tells; agree = λ e d r q one two some. absurd one; here = tt }

pub run_said : (h : Header) (cells : ℕ) (hs : List Happening) → IsSmall h → MayAllHappen (first_cluster h) (first_scene h cells) hs → AllSaid (all_happened (first_cluster h) (first_scene h cells) hs).nodes
run_said h cells hs size may =
    holds_of_each h cells (λ s. AllSaid s.nodes)
    (λ s x now at more so. happening_said (first_cluster h) s x now (header_sized h size.few size.small) (stage_of h cells s size at) so) (first_said h cells) hs may
