-- Each thing that happens, and each run.
use Rattle.std.specs.Prelude.{ℕ, ◌-◌, ◌≡◌, ◌≤◌, ◌<◌, ◌^◌, List, [], Some, length, slice_get}
use Rattle.std.proofs.Common.{refl, sym, ap, subst, ◌∙◌}
use Rattle.cl_base.specs.Limits.{most_devices}
use Rattle.cl_base.specs.declared.header.Header.{Header}
use Rattle.cl_base.specs.declared.packet.DropCause.TheVariants as drop
use Rattle.cmm_attempt.proofs.Basics.{same_some}
use Rattle.refinement.specs.node_widths.Widths.{NodeFits}
use Rattle.pgr_device.specs.Device.{Device}
use Rattle.pgr_device.specs.declared.command.PrCommand.TheVariants as command
use Rattle.schedule_text.specs.declared.line.Line.TheVariants as line
use Rattle.status_report.specs.declared.device_entry.DeviceEntry.TheVariants as device
use Rattle.status_report.specs.declared.entry.Entry.{Entry}
use Rattle.status_report.specs.declared.entry.Entry.TheVariants as entry
use Rattle.status_report.specs.declared.packet_entry.PacketEntry.TheVariants as packet
use Rattle.history.specs.Contact.{AttemptsDiffer}
use Rattle.history.specs.Letters.{arrived}
use Rattle.history.specs.Moment.{Said, Told}
use Rattle.node_model.specs.declared.cluster.Cluster.{Cluster}
use Rattle.node_model.specs.declared.input.Input.TheVariants as input
use Rattle.refinement.proofs.DeviceWidths.{command_keeps}
use Rattle.refinement.specs.Runs.{Nodes}
use Rattle.refinement.specs.Worlds.{Keeps}
use Rattle.run_history.proofs.ContactWidths.{node_due}
use Rattle.run_history.proofs.DeedRuns.{runs_are_cut}
use Rattle.run_history.proofs.Reached.{Reached, kept_holds, reached_more}
use Rattle.run_history.proofs.Runs.{run_stage}
use Rattle.run_history.proofs.WholeEachRun.{runs_are_whole}
use Rattle.run_history.specs.Happenings.{Commanded, Happening, MayAllHappen, MayHappen, all_happened, commanded, happened, removed}
use Rattle.run_history.specs.Happenings.Happening.{Arrives, Begins, Commands, Loses, Misses, Notes, Refuses, Repeats, Speaks, Strays, Takes, Writes}
use Rattle.run_history.specs.Runs.{CutsOf}
use Rattle.run_history.specs.Scenes.{Scene, adding, first_scene, telling}
use Rattle.run_history.specs.Stages.{Stage}
use Rattle.run_history.specs.Wholes.{IsWhole}
use Rattle.world_model.specs.First.{first_cluster}
use Rattle.run_seizings.specs.Laws.{HeldOfEachRun, KnownHeldOfEachRun}
use Rattle.run_seizings.specs.Sites.{IsSeizing}
use Rattle.run_seizings.proofs.Letters.{arrived_hand, carried_stays}
use Rattle.run_seizings.proofs.Progress.{no_truth}
use Rattle.run_seizings.proofs.Steps.{OwnKeysOnly, answer_may, ground_of, plain_may, step_seizes}
use Rattle.run_seizings.proofs.Stills.{still}
use Rattle.run_seizings.proofs.Moments.{Left, answer_fits, armed_seizes, delivered_seizes, due_low, due_own, gone_seizes, left_at, lost_seizes, moment_seizes, part_seizes, plain_fits, plain_hand, plain_no, plain_sent, repeated_seizes, said_seizes}

-- ---- each thing that happens

-- what is known of a scene of a run, and of the one that comes next
record Known (h : Header) (s : Scene) (x : Happening) : Type 0 where
  stage : Stage (first_cluster h) s
  whole : IsWhole (first_cluster h) s
  differ : AttemptsDiffer (happened (first_cluster h) s x).moments

happening_seizes : (h : Header) (s : Scene) (x : Happening) → MayHappen (first_cluster h) s x → Known h s x → IsSeizing h s → IsSeizing h (happened (first_cluster h) s x)
happening_seizes h s (Speaks e) may b k = armed_seizes h (first_cluster h) e (adding (Said (line.Event e)) s) (said_seizes h s e k)
happening_seizes h s (Begins e) may b k = part_seizes h s e k
happening_seizes h s (Notes e) may b k =
    moment_seizes h s s.links (Told (entry.Schedule e)) tt (λ n. still h s.moments n (entry.Schedule e) tt)
    (carried_stays h s.moments (Told (entry.Schedule e)) s.links tt (λ p. refl) k.carried) tt tt k
happening_seizes h s (Takes n now ends i) may b k =
    let c : Cluster = first_cluster h in
    step_seizes h c n now ends i s refl (record { fits = b.whole.cluster.fits; small = b.whole.cluster.small }) (ground_of c s b.stage) may.0 may.2
    (plain_sent s.nodes i may.1) (plain_fits i may.1)
    (plain_hand h s.moments n i may.1 may.3)
    (plain_may h c n now ends (s.nodes.node n) (s.nodes.disk n).kept i (plain_no i may.1) may.2 (b.stage.fits.nodes n)) b.differ k
happening_seizes h s (Arrives number x m now ends) may b k =
    let c : Cluster = first_cluster h in
    let t : Scene = telling (entry.Packet (packet.Delivered number x.from x.to)) (removed s number) in
    step_seizes h c x.to now ends (input.Packet x.from m) t refl (record { fits = b.whole.cluster.fits; small = b.whole.cluster.small })
    (ground_of c s b.stage) may.3 may.5 may.4 tt
    (arrived_hand h s.moments s.links number x m may.0 may.1 k.carried)
    (plain_may h c x.to now ends (s.nodes.node x.to) (s.nodes.disk x.to).kept (input.Packet x.from m) tt may.5 (b.stage.fits.nodes x.to)) b.differ
    (delivered_seizes h s number x.from x.to k)
happening_seizes h s (Strays number x) may b k = delivered_seizes h s number x.from x.to k
happening_seizes h s (Misses number x) may b k = lost_seizes h s number drop.Down k
happening_seizes h s (Loses number x) may b k = gone_seizes h s number k
happening_seizes h s (Repeats number x) may b k = repeated_seizes h s number x may.0 k
happening_seizes h s (Commands n d q now ends) may b k =
    let c : Cluster = first_cluster h in
    let o : Commanded = commanded s n d q in
    let l : Left h c s o = left_at h c s n d q (slice_get s.devices (d - 1)) (ground_of c s b.stage) k in
    let low : 1 ≤ d = due_low c n (s.nodes.node n) d q (b.stage.fits.nodes n) may.2 in
    let keeps : (x : Device) → slice_get s.devices (d - 1) ≡ Some x → Keeps x n q =
    λ x is. command_keeps x n q may.0.0 may.0.1
    (node_due c n d q (Some (s.nodes.node n)) b.whole.cluster.small may.0.1
    (λ node at. subst (λ z. NodeFits c n z) (same_some (s.nodes.node n) node at) (b.stage.fits.nodes n)) may.2)
    (b.stage.devices (d - 1) x is) in
    step_seizes h c n now ends (input.Answered o.answer) o.scene refl (record { fits = b.whole.cluster.fits; small = b.whole.cluster.small }) l.ground may.0 may.3 tt
    (answer_fits c s n d q (slice_get s.devices (d - 1)) keeps) (ap arrived l.moments ∙ may.4)
    (answer_may h c n now ends (o.scene.nodes.node n) (o.scene.nodes.disk n).kept o.answer
    (subst (λ (v : Nodes). OwnKeysOnly h (v.node n) o.answer) (sym l.nodes) (due_own h s n d q (s.nodes.node n) b.whole may.2 low))) b.differ l.seizing
happening_seizes h s (Writes n d value now ends) may b k =
    let c : Cluster = first_cluster h in
    let o : Commanded = commanded s n d (command.Write value) in
    let l : Left h c s o = left_at h c s n d (command.Write value) (slice_get s.devices (d - 1)) (ground_of c s b.stage) k in
    step_seizes h c n now ends (input.Wrote d value o.answer) o.scene refl
    (record { fits = b.whole.cluster.fits; small = b.whole.cluster.small }) l.ground may.0 may.2 tt tt
    (ap arrived l.moments ∙ may.3) (plain_may h c n now ends (o.scene.nodes.node n) (o.scene.nodes.disk n).kept (input.Wrote d value o.answer) tt may.2
    (l.ground.fits.nodes n)) b.differ l.seizing
happening_seizes h s (Refuses n d value cause) may b k =
    let e : Entry = entry.Device (device.Refused n d value cause) in
    moment_seizes h s s.links (Told e) tt (λ m. still h s.moments m e tt) (carried_stays h s.moments (Told e) s.links tt (λ p. refl) k.carried) tt tt k

-- ---- runs

stage_at : (h : Header) (cells : ℕ) (s : Scene) → length h.devices ≤ most_devices → h.cluster < 2 ^ 32 → Reached (first_cluster h) (first_scene h cells) s
    → Stage (first_cluster h) s
stage_at h cells s few small r = subst (Stage (first_cluster h)) r.is (run_stage h cells r.happenings few small r.may)

whole_at : (h : Header) (cells : ℕ) (s : Scene) → length h.devices ≤ most_devices → h.cluster < 2 ^ 32 → Reached (first_cluster h) (first_scene h cells) s
    → IsWhole (first_cluster h) s
whole_at h cells s few small r =
    let cuts : CutsOf h cells r.happenings = runs_are_cut h cells r.happenings in
    subst (IsWhole (first_cluster h)) r.is (runs_are_whole h cells r.happenings cuts few small r.may).scene

-- a scene of a run, with what its nodes have of seizings
pub record Comes (h : Header) (cells : ℕ) (s : Scene) : Type 0 where
  pub reached : Reached (first_cluster h) (first_scene h cells) s
  pub seizing : IsSeizing h s

comes_kept : (h : Header) (cells : ℕ) → length h.devices ≤ most_devices → h.cluster < 2 ^ 32 → (s : Scene) (x : Happening) → MayHappen (first_cluster h) s x
    → Comes h cells s → Comes h cells (happened (first_cluster h) s x)
comes_kept h cells few small s x may k =
    let c : Cluster = first_cluster h in
    let next : Reached c (first_scene h cells) (happened c s x) = reached_more c (first_scene h cells) s x k.reached may in
    record {
      reached = next;
      seizing = happening_seizes h s x may (record {
        stage = stage_at h cells s few small k.reached;
        whole = whole_at h cells s few small k.reached;
        differ = (stage_at h cells (happened c s x) few small next).laws.once;
      }) k.seizing;
    }

first_seizes : (h : Header) (cells : ℕ) → IsSeizing h (first_scene h cells)
unfolding first_scene
first_seizes h cells =
    record { sites = λ n. record { low = λ e is. absurd (no_truth is); first = λ e is. absurd (no_truth is); up = tt }; carried = tt; held = tt; known = tt }

pub run_seizes : (h : Header) (cells : ℕ) (hs : List Happening) → length h.devices ≤ most_devices → h.cluster < 2 ^ 32
    → MayAllHappen (first_cluster h) (first_scene h cells) hs
    → Comes h cells (all_happened (first_cluster h) (first_scene h cells) hs)
run_seizes h cells hs few small may =
    kept_holds (first_cluster h) (Comes h cells) (λ s x m k. comes_kept h cells few small s x m k) (first_scene h cells) hs may
    (record { reached = record { happenings = []; may = tt; is = refl }; seizing = first_seizes h cells })

pub held_of_each_run : HeldOfEachRun
held_of_each_run h cells hs few small may = (run_seizes h cells hs few small may).seizing.held

pub known_held_of_each_run : KnownHeldOfEachRun
known_held_of_each_run h cells hs few small may = (run_seizes h cells hs few small may).seizing.known
