-- Each thing that happens, and each run.
use Rattle.std.specs.Prelude.{List, None, Option, Some, [], length, slice_get, ℕ, ◌-◌, ◌<◌, ◌^◌, ◌≡◌, ◌≤◌}
use Rattle.std.proofs.Common.{ap, refl, subst, sym, ◌∙◌}
use Rattle.cl_base.specs.Limits.{most_devices}
use Rattle.cl_base.specs.declared.header.Header.{Header}
use Rattle.cl_base.specs.declared.packet.DropCause.TheVariants as drop
use Rattle.cmm_attempt.proofs.Basics.{same_some}
use Rattle.cmm_attempt.specs.Attempts.{AttemptState}
use Rattle.device_queue.specs.Queue.{seizure_of}
use Rattle.history.specs.Contact.{AttemptsDiffer}
use Rattle.history.specs.Letters.{arrived}
use Rattle.history.specs.Moment.{Moment, Said, Told}
use Rattle.history.specs.Seizing.{progress_of}
use Rattle.node_model.specs.Seats.{session_of}
use Rattle.node_model.specs.declared.cluster.Cluster.{Cluster}
use Rattle.node_model.specs.declared.input.Input.TheVariants as input
use Rattle.node_model.specs.declared.node.Node.{Node}
use Rattle.node_model.specs.declared.node.Node.TheVariants.{Down, Up}
use Rattle.refinement.specs.node_widths.Widths.{NodeFits}
use Rattle.pgr_device.specs.Device.{Device}
use Rattle.pgr_device.specs.declared.command.PrCommand.TheVariants as command
use Rattle.refinement.proofs.DeviceWidths.{command_keeps}
use Rattle.refinement.specs.Runs.{Nodes}
use Rattle.refinement.specs.Worlds.{Keeps}
use Rattle.run_history.proofs.ContactWidths.{node_due}
use Rattle.run_history.proofs.DeedRuns.{runs_are_cut}
use Rattle.run_history.proofs.Reached.{Reached, kept_holds, reached_more}
use Rattle.run_history.proofs.Runs.{run_stage}
use Rattle.run_history.proofs.WholeEachRun.{runs_are_whole}
use Rattle.run_history.specs.Happenings.{Commanded, Happening, MayAllHappen, MayHappen, all_happened, commanded, happened, removed}
use Rattle.run_history.specs.Happenings.Happening.{Arrives, Begins, Commands, Loses, Misses, Notes, Refuses, Repeats, Speaks, Strays, Takes, Writes}
use Rattle.run_history.specs.Runs.{CutsOf}
use Rattle.run_history.specs.Scenes.{Scene, adding, first_scene, telling}
use Rattle.run_history.specs.Stages.{Stage}
use Rattle.run_history.specs.Wholes.{IsWhole}
use Rattle.schedule_text.specs.declared.line.Line.TheVariants as line
use Rattle.status_report.specs.declared.device_entry.DeviceEntry.TheVariants as device
use Rattle.status_report.specs.declared.entry.Entry.{Entry}
use Rattle.status_report.specs.declared.entry.Entry.TheVariants as entry
use Rattle.status_report.specs.declared.packet_entry.PacketEntry.TheVariants as packet
use Rattle.world_model.specs.First.{first_cluster}
use Rattle.run_seizings.proofs.Moments.{answer_fits, due_low, due_own, plain_fits, plain_no, plain_sent}
use Rattle.run_seizings.proofs.Progress.{no_truth}
use Rattle.run_seizings.proofs.Steps.{OwnKeysOnly, answer_may, ground_of, plain_may}
use Rattle.run_seizings.proofs.Stills.{still}
use Rattle.run_devices.proofs.readings.Keys.{keys_stay}
use Rattle.run_devices.proofs.readings.Letters.{arrived_hand, carried_stays}
use Rattle.run_devices.proofs.readings.Moments.{Left, armed_reads, delivered_reads, gone_reads, left_at, lost_reads, moment_reads, part_reads, plain_hand, repeated_reads, said_reads}
use Rattle.run_devices.proofs.readings.Steps.{step_reads}
use Rattle.run_devices.proofs.readings.Tasks.{kept_keys}
use Rattle.run_devices.specs.readings.Laws.{AttemptAsRead, AttemptsHoldWhatWasRead, AttemptsIn, HasSeizedSo, ReadingsAreOfSeizers, SeizedsSayWhatWasRead, TasksThatSeizedAreTold, WhatWasReadStays}
use Rattle.run_devices.specs.readings.Readings.{AttemptIn}
use Rattle.run_devices.specs.readings.Sites.{IsReading, UpIn}
use Rattle.run_devices.proofs.readings.Order.{header_order}

-- ---- each thing that happens

-- what is known of a scene of a run, and of the one that comes next
record Known (h : Header) (s : Scene) (x : Happening) : Type 0 where
  stage : Stage (first_cluster h) s
  whole : IsWhole (first_cluster h) s
  differ : AttemptsDiffer (happened (first_cluster h) s x).moments

happening_reads : (h : Header) (s : Scene) (x : Happening) → MayHappen (first_cluster h) s x → Known h s x → IsReading h s → IsReading h (happened (first_cluster h) s x)
happening_reads h s (Speaks e) may b k = armed_reads h (first_cluster h) e (adding (Said (line.Event e)) s) (said_reads h s e k)
happening_reads h s (Begins e) may b k = part_reads h s e k
happening_reads h s (Notes e) may b k =
    moment_reads h s s.links (Told (entry.Schedule e)) tt (λ n. still h s.moments n (entry.Schedule e) tt)
    (carried_stays h s.moments (Told (entry.Schedule e)) s.links tt (λ p. refl) k.carried) tt tt k
happening_reads h s (Takes n now ends i) may b k =
    let c : Cluster = first_cluster h in
    step_reads h c n now ends i s refl (record { fits = b.whole.cluster.fits; small = b.whole.cluster.small }) (header_order h) (ground_of c s b.stage) may.0 may.2
    (plain_sent s.nodes i may.1) (plain_fits i may.1)
    (plain_hand h s.moments n i may.1 may.3)
    (plain_may h c n now ends (s.nodes.node n) (s.nodes.disk n).kept i (plain_no i may.1) may.2 (b.stage.fits.nodes n)) b.differ k
happening_reads h s (Arrives number x m now ends) may b k =
    let c : Cluster = first_cluster h in
    let t : Scene = telling (entry.Packet (packet.Delivered number x.from x.to)) (removed s number) in
    step_reads h c x.to now ends (input.Packet x.from m) t refl (record { fits = b.whole.cluster.fits; small = b.whole.cluster.small }) (header_order h)
    (ground_of c s b.stage) may.3 may.5 may.4 tt
    (arrived_hand h s.moments s.links number x m may.0 may.1 k.carried)
    (plain_may h c x.to now ends (s.nodes.node x.to) (s.nodes.disk x.to).kept (input.Packet x.from m) tt may.5 (b.stage.fits.nodes x.to)) b.differ
    (delivered_reads h s number x.from x.to k)
happening_reads h s (Strays number x) may b k = delivered_reads h s number x.from x.to k
happening_reads h s (Misses number x) may b k = lost_reads h s number drop.Down k
happening_reads h s (Loses number x) may b k = gone_reads h s number k
happening_reads h s (Repeats number x) may b k = repeated_reads h s number x may.0 k
happening_reads h s (Commands n d q now ends) may b k =
    let c : Cluster = first_cluster h in
    let o : Commanded = commanded s n d q in
    let l : Left h c s o = left_at h c s n d q (slice_get s.devices (d - 1)) (ground_of c s b.stage) k in
    let low : 1 ≤ d = due_low c n (s.nodes.node n) d q (b.stage.fits.nodes n) may.2 in
    let keeps : (x : Device) → slice_get s.devices (d - 1) ≡ Some x → Keeps x n q =
    λ x is. command_keeps x n q may.0.0 may.0.1
    (node_due c n d q (Some (s.nodes.node n)) b.whole.cluster.small may.0.1
    (λ node at. subst (λ z. NodeFits c n z) (same_some (s.nodes.node n) node at) (b.stage.fits.nodes n)) may.2)
    (b.stage.devices (d - 1) x is) in
    step_reads h c n now ends (input.Answered o.answer) o.scene refl (record { fits = b.whole.cluster.fits; small = b.whole.cluster.small }) (header_order h) l.ground may.0 may.3 tt
    (answer_fits c s n d q (slice_get s.devices (d - 1)) keeps) (ap arrived l.moments ∙ may.4)
    (answer_may h c n now ends (o.scene.nodes.node n) (o.scene.nodes.disk n).kept o.answer
    (subst (λ (v : Nodes). OwnKeysOnly h (v.node n) o.answer) (sym l.nodes) (due_own h s n d q (s.nodes.node n) b.whole may.2 low))) b.differ l.reading
happening_reads h s (Writes n d value now ends) may b k =
    let c : Cluster = first_cluster h in
    let o : Commanded = commanded s n d (command.Write value) in
    let l : Left h c s o = left_at h c s n d (command.Write value) (slice_get s.devices (d - 1)) (ground_of c s b.stage) k in
    step_reads h c n now ends (input.Wrote d value o.answer) o.scene refl
    (record { fits = b.whole.cluster.fits; small = b.whole.cluster.small }) (header_order h) l.ground may.0 may.2 tt tt
    (ap arrived l.moments ∙ may.3) (plain_may h c n now ends (o.scene.nodes.node n) (o.scene.nodes.disk n).kept (input.Wrote d value o.answer) tt may.2
    (l.ground.fits.nodes n)) b.differ l.reading
happening_reads h s (Refuses n d value cause) may b k =
    let e : Entry = entry.Device (device.Refused n d value cause) in
    moment_reads h s s.links (Told e) tt (λ m. still h s.moments m e tt) (carried_stays h s.moments (Told e) s.links tt (λ p. refl) k.carried) tt tt k

-- ---- runs

stage_at : (h : Header) (cells : ℕ) (s : Scene) → length h.devices ≤ most_devices → h.cluster < 2 ^ 32 → Reached (first_cluster h) (first_scene h cells) s
    → Stage (first_cluster h) s
stage_at h cells s few small r = subst (Stage (first_cluster h)) r.is (run_stage h cells r.happenings few small r.may)

whole_at : (h : Header) (cells : ℕ) (s : Scene) → length h.devices ≤ most_devices → h.cluster < 2 ^ 32 → Reached (first_cluster h) (first_scene h cells) s
    → IsWhole (first_cluster h) s
whole_at h cells s few small r =
    let cuts : CutsOf h cells r.happenings = runs_are_cut h cells r.happenings in
    subst (IsWhole (first_cluster h)) r.is (runs_are_whole h cells r.happenings cuts few small r.may).scene

-- a scene of a run, with what its nodes have of seizings
pub record Comes (h : Header) (cells : ℕ) (s : Scene) : Type 0 where
  pub reached : Reached (first_cluster h) (first_scene h cells) s
  pub reading : IsReading h s

comes_kept : (h : Header) (cells : ℕ) → length h.devices ≤ most_devices → h.cluster < 2 ^ 32 → (s : Scene) (x : Happening) → MayHappen (first_cluster h) s x
    → Comes h cells s → Comes h cells (happened (first_cluster h) s x)
comes_kept h cells few small s x may k =
    let c : Cluster = first_cluster h in
    let next : Reached c (first_scene h cells) (happened c s x) = reached_more c (first_scene h cells) s x k.reached may in
    record {
      reached = next;
      reading = happening_reads h s x may (record {
        stage = stage_at h cells s few small k.reached;
        whole = whole_at h cells s few small k.reached;
        differ = (stage_at h cells (happened c s x) few small next).laws.once;
      }) k.reading;
    }

first_reads : (h : Header) (cells : ℕ) → IsReading h (first_scene h cells)
unfolding first_scene
first_reads h cells =
    record {
      sites = λ n. record { low = λ e is. absurd (no_truth is); first = λ e is. absurd (no_truth is); unseen = λ e d above. refl; up = tt };
      carried = tt;
      says = tt;
      brings = tt;
    }

pub run_reads : (h : Header) (cells : ℕ) (hs : List Happening) → length h.devices ≤ most_devices → h.cluster < 2 ^ 32
    → MayAllHappen (first_cluster h) (first_scene h cells) hs
    → Comes h cells (all_happened (first_cluster h) (first_scene h cells) hs)
run_reads h cells hs few small may =
    kept_holds (first_cluster h) (Comes h cells) (λ s x m k. comes_kept h cells few small s x m k) (first_scene h cells) hs may
    (record { reached = record { happenings = []; may = tt; is = refl }; reading = first_reads h cells })

-- ---- the laws

pub what_was_read_stays : WhatWasReadStays
what_was_read_stays h n e d x before keys k = keys_stay keys h n e d x before k

seized_so : (h : Header) (ms : List Moment) (n : ℕ) (node : Node) → UpIn h ms n node → HasSeizedSo h ms n node
seized_so h ms n Down k = tt
seized_so h ms n (Up x) k = λ some none d. kept_keys (progress_of h n (session_of x) d ms) (seizure_of x.tasks d) ((k.read some none).1 d)

pub tasks_that_seized_are_told : TasksThatSeizedAreTold
tasks_that_seized_are_told h cells hs few small may n =
    let s : Scene = all_happened (first_cluster h) (first_scene h cells) hs in
    seized_so h s.moments n (s.nodes.node n) ((run_reads h cells hs few small may).reading.sites n).up

pub seizeds_say_what_was_read : SeizedsSayWhatWasRead
seizeds_say_what_was_read h cells hs few small may = (run_reads h cells hs few small may).reading.says

pub readings_are_of_seizers : ReadingsAreOfSeizers
readings_are_of_seizers h cells hs few small may = (run_reads h cells hs few small may).reading.brings

attempt_read : (h : Header) (ms : List Moment) (n q : ℕ) (o : Option AttemptState) → AttemptIn h ms n q o → AttemptAsRead h ms o
attempt_read h ms n q None k = tt
attempt_read h ms n q (Some a) k = k.read

node_read : (h : Header) (ms : List Moment) (n : ℕ) (node : Node) → UpIn h ms n node → AttemptsIn h ms node
node_read h ms n Down k = tt
node_read h ms n (Up x) k = attempt_read h ms n (session_of x) x.attempt k.attempt

pub attempts_hold_what_was_read : AttemptsHoldWhatWasRead
attempts_hold_what_was_read h cells hs few small may n =
    let s : Scene = all_happened (first_cluster h) (first_scene h cells) hs in
    node_read h s.moments n (s.nodes.node n) ((run_reads h cells hs few small may).reading.sites n).up
