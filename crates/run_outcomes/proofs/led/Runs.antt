-- In each run an attempt ends for its votes, or for a member, while its coordinator leads, and a coordinator installs in the attempt that is under way.
use Rattle.std.specs.Prelude.{ℕ, ◌-◌, ◌≡◌, ◌≤◌, ◌<◌, ◌^◌, List, [], ◌∷◌, Option, None, Some, length, slice_get}
use Rattle.std.proofs.Common.{refl, sym, ap, subst, ◌∙◌}
use Rattle.cl_base.specs.Limits.{most_devices}
use Rattle.cl_base.specs.declared.header.Header.{Header}
use Rattle.cmm_attempt.proofs.Basics.{same_some}
use Rattle.history.specs.Contact.{AttemptsDiffer}
use Rattle.history.specs.Letters.{arrived}
use Rattle.history.specs.Moment.{Moment, Said, Told}
use Rattle.history.specs.Order.{Always}
use Rattle.history.specs.Trace.{installed}
use Rattle.interconnect.specs.Links as links
use Rattle.interconnect.specs.Links.{sending}
use Rattle.node_model.specs.declared.cluster.Cluster.{Cluster}
use Rattle.node_model.specs.declared.input.Input.TheVariants as input
use Rattle.node_model.specs.declared.node.Node.{Node}
use Rattle.pgr_device.specs.Device.{Device}
use Rattle.pgr_device.specs.declared.command.PrCommand.{PrCommand}
use Rattle.pgr_device.specs.declared.command.PrCommand.TheVariants as command
use Rattle.refinement.proofs.DeviceWidths.{command_keeps}
use Rattle.refinement.specs.Runs.{Nodes}
use Rattle.refinement.specs.Worlds.{Keeps}
use Rattle.refinement.specs.node_widths.Widths.{NodeFits}
use Rattle.run_attempts.proofs.Known.{known_scene}
use Rattle.run_attempts.proofs.endings.Runs.{nodes_have_their_attempts_in_each_run}
use Rattle.run_attempts.specs.endings.Laws.{HaveTheirAttempts, epoch_at}
use Rattle.run_history.proofs.ContactWidths.{node_due}
use Rattle.run_history.proofs.DeedRuns.{runs_are_cut}
use Rattle.run_history.proofs.WholeEachRun.{runs_are_whole}
use Rattle.run_history.specs.Happenings.{Commanded, Happening, MayAllHappen, MayHappen, all_happened, armed_by, commanded, happened, removed}
use Rattle.run_history.specs.Happenings.Happening.{Arrives, Begins, Commands, Loses, Misses, Notes, Refuses, Repeats, Speaks, Strays, Takes, Writes}
use Rattle.run_history.specs.Scenes.{Scene, adding, first_scene, telling, with_links}
use Rattle.run_history.specs.Stages.{Stage}
use Rattle.run_history.specs.Wholes.{IsWhole}
use Rattle.run_messages.proofs.Reaching.{IsReached, IsSmall, holds_of_each, stage_of}
use Rattle.run_messages.specs.records.Kept.{KnownScene}
use Rattle.run_seizings.specs.Sites.{IsSeizing}
use Rattle.run_seizings.proofs.Letters.{arrived_hand}
use Rattle.run_seizings.proofs.Moments.{Left, answer_fits, delivered_seizes, due_low, due_own, left_at, plain_fits, plain_hand, plain_no, plain_sent}
use Rattle.run_seizings.proofs.Runs.{run_seizes}
use Rattle.run_seizings.proofs.Steps.{OwnKeysOnly, answer_may, ground_of, plain_may}
use Rattle.schedule_text.specs.declared.event.Event.{Event}
use Rattle.schedule_text.specs.declared.event.Event.TheVariants as event
use Rattle.schedule_text.specs.declared.line.Line.TheVariants as line
use Rattle.status_report.specs.declared.entry.Entry.TheVariants as entry
use Rattle.status_report.specs.declared.packet_entry.PacketEntry.TheVariants as packet
use Rattle.world_model.specs.First.{first_cluster}
use Rattle.run_outcomes.specs.saves.Kept.{IsOnWay, OnWay}
use Rattle.run_outcomes.specs.tasks.Laws.{OfEachLeft}
use Rattle.run_outcomes.specs.tasks.Others.{EndsAreLed, EndsLeading, InstallsAreUnderWay, InstallsUnderWay}
use Rattle.run_outcomes.proofs.led.Lines.{AllLed, InstallsInSession, dropped_led}
use Rattle.run_outcomes.proofs.phases.Runs.{commanded_so}
use Rattle.run_outcomes.proofs.saves.Letters.{on_way}
use Rattle.run_outcomes.proofs.led.Steps.{step_led}

-- ---- each thing that happens

-- what is known of a scene of a run, and of the one that comes next
record Knows (h : Header) (s : Scene) (x : Happening) : Type 0 where
  stage : Stage (first_cluster h) s
  whole : IsWhole (first_cluster h) s
  differ : AttemptsDiffer (happened (first_cluster h) s x).moments
  seizing : IsSeizing h s
  ways : (n : ℕ) → IsOnWay n s.moments (s.nodes.node n)

armed_led : (c : Cluster) (e : Event) (s : Scene) → AllLed s.moments → AllLed (armed_by c e s).moments
armed_led c (event.Fault n d done) s k = k
armed_led c (event.CrashAt n calls choice) s k = k
armed_led c _ s k = k

-- a packet that comes tells nothing of attempts
delivered_way : (n number from to : ℕ) (ms : List Moment) (node : Node) → IsOnWay n ms node → IsOnWay n (Told (entry.Packet (packet.Delivered number from to)) ∷ ms) node
delivered_way n number from to ms node k = by_epoch (epoch_at node) k
  where
    by_epoch : (o : Option ℕ) → OnWay n ms o → OnWay n (Told (entry.Packet (packet.Delivered number from to)) ∷ ms) o
    by_epoch None k = tt
    by_epoch (Some e) k = k

happening_led : (h : Header) (s : Scene) (x : Happening) → MayHappen (first_cluster h) s x → Knows h s x → AllLed s.moments → AllLed (happened (first_cluster h) s x).moments
happening_led h s (Speaks e) may b k = armed_led (first_cluster h) e (adding (Said (line.Event e)) s) ((tt, tt), k)
happening_led h s (Begins e) may b k = ((tt, tt), k)
happening_led h s (Notes e) may b k = ((tt, tt), k)
happening_led h s (Takes n now ends i) may b k =
    let c : Cluster = first_cluster h in
    step_led h c n now ends i s refl (record { fits = b.whole.cluster.fits; small = b.whole.cluster.small }) (ground_of c s b.stage) may.0 may.2
    (plain_sent s.nodes i may.1) (plain_fits i may.1) (plain_hand h s.moments n i may.1 may.3)
    (plain_may h c n now ends (s.nodes.node n) (s.nodes.disk n).kept i (plain_no i may.1) may.2 (b.stage.fits.nodes n)) b.differ b.seizing (b.ways n) k
happening_led h s (Arrives number x m now ends) may b k =
    let c : Cluster = first_cluster h in
    let t : Scene = telling (entry.Packet (packet.Delivered number x.from x.to)) (removed s number) in
    step_led h c x.to now ends (input.Packet x.from m) t refl (record { fits = b.whole.cluster.fits; small = b.whole.cluster.small }) (ground_of c s b.stage) may.3 may.5 may.4 tt
    (arrived_hand h s.moments s.links number x m may.0 may.1 b.seizing.carried)
    (plain_may h c x.to now ends (s.nodes.node x.to) (s.nodes.disk x.to).kept (input.Packet x.from m) tt may.5 (b.stage.fits.nodes x.to)) b.differ
    (delivered_seizes h s number x.from x.to b.seizing) (delivered_way x.to number x.from x.to s.moments (s.nodes.node x.to) (b.ways x.to)) ((tt, tt), k)
happening_led h s (Strays number x) may b k = ((tt, tt), k)
happening_led h s (Misses number x) may b k = ((tt, tt), k)
happening_led h s (Loses number x) may b k = ((tt, tt), k)
happening_led h s (Repeats number x) may b k =
    let o : links.Outcome = sending s.links x.from x.to x.bytes in
    dropped_led o.sent.dropped (telling (entry.Packet (packet.Repeated number s.links.next)) (with_links s o.after)) ((tt, tt), k)
happening_led h s (Commands n d q now ends) may b k =
    let c : Cluster = first_cluster h in
    let o : Commanded = commanded s n d q in
    let l : Left h c s o = left_at h c s n d q (slice_get s.devices (d - 1)) (ground_of c s b.stage) b.seizing in
    let low : 1 ≤ d = due_low c n (s.nodes.node n) d q (b.stage.fits.nodes n) may.2 in
    let keeps : (x : Device) → slice_get s.devices (d - 1) ≡ Some x → Keeps x n q =
    λ x is. command_keeps x n q may.0.0 may.0.1
    (node_due c n d q (Some (s.nodes.node n)) b.whole.cluster.small may.0.1
    (λ node at. subst (λ z. NodeFits c n z) (same_some (s.nodes.node n) node at) (b.stage.fits.nodes n)) may.2)
    (b.stage.devices (d - 1) x is) in
    step_led h c n now ends (input.Answered o.answer) o.scene refl (record { fits = b.whole.cluster.fits; small = b.whole.cluster.small }) l.ground may.0 may.3 tt
    (answer_fits c s n d q (slice_get s.devices (d - 1)) keeps) (ap arrived l.moments ∙ may.4)
    (answer_may h c n now ends (o.scene.nodes.node n) (o.scene.nodes.disk n).kept o.answer
    (subst (λ (v : Nodes). OwnKeysOnly h (v.node n) o.answer) (sym l.nodes) (due_own h s n d q (s.nodes.node n) b.whole may.2 low))) b.differ l.seizing
    (commanded_so (λ v ms. IsOnWay n ms (v.node n)) s n d (slice_get s.devices (d - 1)) q (b.ways n)) (commanded_so (λ v ms. AllLed ms) s n d (slice_get s.devices (d - 1)) q k)
happening_led h s (Writes n d value now ends) may b k =
    let c : Cluster = first_cluster h in
    let q : PrCommand = command.Write value in
    let o : Commanded = commanded s n d q in
    let l : Left h c s o = left_at h c s n d q (slice_get s.devices (d - 1)) (ground_of c s b.stage) b.seizing in
    step_led h c n now ends (input.Wrote d value o.answer) o.scene refl (record { fits = b.whole.cluster.fits; small = b.whole.cluster.small }) l.ground may.0 may.2 tt tt (ap arrived l.moments ∙ may.3)
    (plain_may h c n now ends (o.scene.nodes.node n) (o.scene.nodes.disk n).kept (input.Wrote d value o.answer) tt may.2 (l.ground.fits.nodes n)) b.differ l.seizing
    (commanded_so (λ v ms. IsOnWay n ms (v.node n)) s n d (slice_get s.devices (d - 1)) q (b.ways n)) (commanded_so (λ v ms. AllLed ms) s n d (slice_get s.devices (d - 1)) q k)
happening_led h s (Refuses n d value cause) may b k = ((tt, tt), k)

-- ---- runs

knows_at : (h : Header) (cells : ℕ) (s : Scene) (x : Happening) → IsSmall h → IsReached h cells s → IsReached h cells (happened (first_cluster h) s x) → Knows h s x
knows_at h cells s x size at more =
    let known : KnownScene (first_cluster h) s = known_scene h cells s size at in
    let theirs : HaveTheirAttempts s = subst HaveTheirAttempts at.is (nodes_have_their_attempts_in_each_run h cells at.happenings size.few size.small at.may) in
    record {
      stage = stage_of h cells s size at;
      whole = subst (IsWhole (first_cluster h)) at.is (runs_are_whole h cells at.happenings (runs_are_cut h cells at.happenings) size.few size.small at.may).scene;
      differ = (stage_of h cells (happened (first_cluster h) s x) size more).laws.once;
      seizing = subst (IsSeizing h) at.is (run_seizes h cells at.happenings size.few size.small at.may).seizing;
      ways = λ n. on_way known.stage.machine s.nodes s.moments n (s.nodes.node n) theirs refl (known.at n).up;
    }

first_led : (h : Header) (cells : ℕ) → AllLed (first_scene h cells).moments
unfolding first_scene
first_led h cells = tt

run_led : (h : Header) (cells : ℕ) (hs : List Happening) → length h.devices ≤ most_devices → h.cluster < 2 ^ 32 → MayAllHappen (first_cluster h) (first_scene h cells) hs
    → AllLed (all_happened (first_cluster h) (first_scene h cells) hs).moments
run_led h cells hs few small may =
    let size : IsSmall h = record { few = few; small = small } in
    holds_of_each h cells (λ s. AllLed s.moments) (λ s x now at more k. happening_led h s x now (knows_at h cells s x size at more) k) (first_led h cells) hs may

each_ends : (ms : List Moment) → AllLed ms → Always EndsLeading ms
each_ends [] k = tt
each_ends (x ∷ ms) k = (k.0.0, each_ends ms k.1)

one_install : (ms : List Moment) (x : Moment) → InstallsInSession ms x → InstallsUnderWay ms x
one_install ms (installed m e) k = λ own. (k.0, k.1 own)
one_install ms _ k = tt

each_installs : (ms : List Moment) → AllLed ms → Always InstallsUnderWay ms
each_installs [] k = tt
each_installs (x ∷ ms) k = (one_install ms x k.0.1, each_installs ms k.1)

each_in_session : (ms : List Moment) → AllLed ms → Always InstallsInSession ms
each_in_session [] k = tt
each_in_session (x ∷ ms) k = (k.0.1, each_in_session ms k.1)

pub installs_are_in_session : OfEachLeft (λ h s. Always InstallsInSession s.moments)
installs_are_in_session h cells hs last nodes few small disks may shaped native boots left =
    each_in_session (all_happened (first_cluster h) (first_scene h cells) hs).moments (run_led h cells hs few small may)

pub ends_are_led : EndsAreLed
ends_are_led h cells hs last nodes few small disks may shaped native boots left = each_ends (all_happened (first_cluster h) (first_scene h cells) hs).moments (run_led h cells hs few small may)

pub installs_are_under_way : InstallsAreUnderWay
installs_are_under_way h cells hs last nodes few small disks may shaped native boots left =
    each_installs (all_happened (first_cluster h) (first_scene h cells) hs).moments (run_led h cells hs few small may)
