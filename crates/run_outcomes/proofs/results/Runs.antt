-- Each thing that happens, and each run.
use Rattle.schedule_text.specs.declared.event.StopChoice.{StopChoice}
use Rattle.world_model.specs.Lines.{left_by}
use Rattle.record_disk.specs.Disks.{DiskState, armed}
use Rattle.machine_base.specs.Put.{put}
use Rattle.machine_base.proofs.Puts.{put_here, put_there, same_or_not}
use Rattle.run_history.proofs.DevicesRun.{devices_of_each_run}
use Rattle.run_history.specs.WorldLines.{AreDisks, IsAtDevices}
use Rattle.run_history.specs.Shapes.{Due, IsDue, ShapedFrom, Want, due_after, nothing}
use Rattle.run_history.proofs.Reached.{Reached, reached_more}
use Rattle.run_devices.proofs.validity.Agreeing.{agrees_at}
use Rattle.run_devices.proofs.validity.Moments as validity
use Rattle.run_devices.proofs.validity.Moments.{AgreesAt}
use Rattle.run_devices.proofs.validity.Runs.{first_strict, known_at}
use Rattle.run_devices.proofs.validity.Wants.{Kept, step_so}
use Rattle.run_outcomes.specs.results.Paths.{IsPathed}
use Rattle.run_attempts.proofs.endings.Runs.{promised_in_each_run}
use Rattle.run_outcomes.proofs.counts.Runs.{counted_of_each_run, lacking_of_each_run}
use Rattle.run_outcomes.proofs.results.Named.{all_named}
use Rattle.run_outcomes.proofs.results.Pathed.{run_pathed, whole_at}
use Rattle.run_devices.proofs.readings.Letters.{arrived_hand}
use Rattle.run_devices.specs.readings.Sites.{IsReading}
use Rattle.world_model.specs.First.{first_cluster}
use Rattle.std.specs.Prelude.{List, None, Option, Some, [], length, slice_get, ℕ, ◌-◌, ◌≡◌, ◌≤◌, ◌∷◌, ◌≢◌, ◌⊎◌}
use Rattle.std.specs.List.{AllByRecursion}
use Rattle.std.proofs.Common.{inl, inr, refl, subst, sym, arith}
use Rattle.cl_base.specs.declared.header.Header.{Header}
use Rattle.cl_base.specs.declared.packet.DropCause.{DropCause}
use Rattle.cl_base.specs.declared.packet.DropCause.TheVariants as drop
use Rattle.device_queue.specs.Queue.{next_of}
use Rattle.history.specs.Attempts.{AllAccounted}
use Rattle.history.specs.Contact.{AttemptsDiffer, IsNew}
use Rattle.history.specs.Moment.{Moment, Part, Said, Told}
use Rattle.history.specs.Order.{Always}
use Rattle.history.specs.Trace.{base, start}
use Rattle.history_setting.specs.Settings.{setting_of}
use Rattle.interconnect.specs.Links as links
use Rattle.interconnect.specs.Links.{Links, Packet, packet_of, removing, sending}
use Rattle.node_model.specs.declared.cluster.Cluster.{Cluster}
use Rattle.node_model.specs.declared.input.Input.{Input}
use Rattle.node_model.specs.declared.input.Input.TheVariants as input
use Rattle.node_model.specs.declared.node.Node.{Node}
use Rattle.node_model.specs.declared.node.Node.TheVariants.{Down, Up}
use Rattle.pgr_device.specs.Device.{Device}
use Rattle.pgr_device.specs.declared.command.PrCommand.{PrCommand}
use Rattle.pgr_device.specs.declared.command.PrCommand.TheVariants as command
use Rattle.refinement.proofs.Handlers.{delivered_by}
use Rattle.refinement.specs.Runs.{IsAmong, Letter, Nodes}
use Rattle.run_history.proofs.Heard.{low_number}
use Rattle.run_history.specs.Happenings.{Commanded, Happening, IsPlain, MayAllHappen, MayHappen, all_happened, armed_by, commanded, commanded_at, happened, removed}
use Rattle.run_history.specs.Happenings.Happening.{Arrives, Begins, Commands, Loses, Misses, Notes, Refuses, Repeats, Speaks, Strays, Takes, Writes}
use Rattle.run_history.specs.Scenes.{Scene, adding, dropped_so, first_scene, telling, with_links}
use Rattle.run_history.specs.Stages.{Sized, Stage}
use Rattle.run_history.specs.Wholes.{IsWhole}
use Rattle.run_messages.proofs.Reaching.{IsReached, IsSmall, stage_of}
use Rattle.run_devices.proofs.readings.Runs.{run_reads}
use Rattle.run_devices.specs.readings.Readings.{StandsSo}
use Rattle.run_messages.proofs.records.Sizes.{header_sized}
use Rattle.run_seizings.proofs.Moments.{due_low, due_own, plain_no, plain_sent}
use Rattle.run_seizings.proofs.Steps.{Ground, OwnKeysOnly, ground_of}
use Rattle.schedule_text.specs.declared.event.Event.{Event}
use Rattle.schedule_text.specs.declared.event.Event.TheVariants as event
use Rattle.schedule_text.specs.declared.line.Line.TheVariants as line
use Rattle.seize.specs.Answers.{Answer}
use Rattle.status_report.specs.declared.device_entry.DeviceEntry.TheVariants as device_entry
use Rattle.status_report.specs.declared.entry.Entry.TheVariants as entry
use Rattle.status_report.specs.declared.packet_entry.PacketEntry.TheVariants as packet
use Rattle.wire.specs.declared.message.Body.{Body}
use Rattle.wire.specs.declared.message.Body.TheVariants as body
use Rattle.run_outcomes.proofs.results.Answers.{NodeDue, answer_comes}
use Rattle.run_outcomes.proofs.results.Dues.{NodeHigh, due_high}
use Rattle.run_outcomes.proofs.results.Fresh.{trust_gone}
use Rattle.run_devices.proofs.validity.Courses.{doings_trust}
use Rattle.run_devices.proofs.validity.Wants.{trusting_or}
use Rattle.run_history.specs.Stages.{site_of}
use Rattle.run_seizings.proofs.Progress.{begun_stays}
use Rattle.run_outcomes.proofs.results.Stays.{Spares, letters_grow, letters_stay, node_grows, node_stays}
use Rattle.run_outcomes.proofs.results.Steps.{plain_comes, step_shown}
use Rattle.run_outcomes.specs.accounts.Laws.{AllAccountedInEachRun}
use Rattle.run_outcomes.specs.results.Laws.{ResultsOfEachRun}
use Rattle.run_outcomes.specs.results.Shown.{AsksOf, EndsShown, HandShown, IsShown, LetterShown, SaysShown, StartShown, collected_in, installed_in}
use Rattle.run_outcomes.specs.results.Tried.{Collected}
use Rattle.run_outcomes.proofs.results.Readied.{takes_gone}
use Rattle.run_outcomes.proofs.results.Readied.{of_header}
use Rattle.run_outcomes.proofs.unregistered.Runs.{StartsSo, starts_at}

-- ---- one moment more, and other links

same_most : (a : ℕ) → a ≤ a
same_most a = omega arith

more_shown : (h : Header) (s : Scene) (l : Links) (x : Moment) → IsNew s.moments x → ((n : ℕ) → Spares n x) → EndsShown h s.moments x → IsShown h s → IsShown h (adding x (with_links s l))
more_shown h s l x new spares ends k = record {
  nodes = λ n. node_grows h (collected_in s) later (x ∷ s.moments) n (s.nodes.node n) grows (node_stays h (collected_in s) s.moments x n (s.nodes.node n) new (spares n) (k.nodes n));
  sent = letters_grow h (collected_in s) later (installed_in s.nodes) (installed_in s.nodes) (x ∷ s.moments) s.nodes.sent grows (λ j. same_most ((s.nodes.disk j).kept.installed))
      (letters_stay h (collected_in s) (installed_in s.nodes) s.moments x s.nodes.sent new k.sent);
  lines = (ends, k.lines);
}
  where
    later : Collected
    later = collected_in (adding x (with_links s l))

    grows : (e : ℕ) → collected_in s e → later e
    grows e known = (begun_stays s.moments x e known.0, known.1)

dropped_shown : (h : Header) (s : Scene) (o : Option (ℕ × DropCause)) → IsShown h s → IsShown h (dropped_so o s)
dropped_shown h s None k = k
dropped_shown h s (Some d) k = more_shown h s s.links (Told (entry.Packet (packet.Dropped d.0 d.1))) tt (λ n. tt) tt k

-- what is armed in the disk of a node leaves what it has installed
armed_most : (v : Nodes) (n calls : ℕ) (choice : StopChoice) (k : ℕ) → (v.disk k).kept.installed ≤ (put v.disk n (armed (v.disk n) calls (left_by choice)) k).kept.installed
armed_most v n calls choice k = by_node (same_or_not k n)
  where
    by_node : (k ≡ n) ⊎ (k ≢ n) → (v.disk k).kept.installed ≤ (put v.disk n (armed (v.disk n) calls (left_by choice)) k).kept.installed
    by_node (inl same) =
        subst (λ j. (v.disk j).kept.installed ≤ (put v.disk n (armed (v.disk n) calls (left_by choice)) j).kept.installed) (sym same)
        (subst (λ (d : DiskState). (v.disk n).kept.installed ≤ d.kept.installed) (sym (put_here v.disk n (armed (v.disk n) calls (left_by choice)))) (same_most (v.disk n).kept.installed))
    by_node (inr ne) =
        subst (λ (d : DiskState). (v.disk k).kept.installed ≤ d.kept.installed) (sym (put_there v.disk n (armed (v.disk n) calls (left_by choice)) k ne)) (same_most (v.disk k).kept.installed)

armed_shown : (h : Header) (c : Cluster) (e : Event) (s : Scene) → IsShown h s → IsShown h (armed_by c e s)
armed_shown h c (event.CrashAt n calls choice) s k =
    record { nodes = k.nodes; sent = letters_grow h (collected_in s) (collected_in s) (installed_in s.nodes) _ s.moments s.nodes.sent (λ e known. known) (armed_most s.nodes n calls choice) k.sent; lines = k.lines }
armed_shown h c (event.Fault n d done) s k = record { nodes = k.nodes; sent = k.sent; lines = k.lines }
armed_shown h c _ s k = k

-- ---- what comes

plain_hand : (h : Header) (past : Collected) (f : ℕ → ℕ) (ms : List Moment) (i : Input) → IsPlain i → HandShown h past f ms (delivered_by i)
plain_hand h past f ms (input.Packet from m) is = absurd is
plain_hand h past f ms input.Boot is = tt
plain_hand h past f ms input.Crash is = tt
plain_hand h past f ms input.Tick is = tt
plain_hand h past f ms input.CommandDue is = tt
plain_hand h past f ms (input.Answered a) is = tt
plain_hand h past f ms (input.Wrote d value a) is = tt
plain_hand h past f ms (input.Commanded words) is = tt
plain_hand h past f ms (input.Reported r good) is = tt
plain_hand h past f ms (input.Client name client port) is = tt

-- a message that comes was sent
among_shown : (h : Header) (past : Collected) (f : ℕ → ℕ) (ms : List Moment) (from : ℕ) (b : Body) (ls : List Letter) → IsAmong from b ls → AllByRecursion (LetterShown h past f ms) ls → SaysShown h past f ms from b
among_shown h past f ms from b [] is k = absurd is
among_shown h past f ms from b (l ∷ ls) (inl here) k = subst (λ j. SaysShown h past f ms j b) here.0 (subst (λ z. SaysShown h past f ms l.from z) here.1 k.0)
among_shown h past f ms from b (l ∷ ls) (inr later) k = among_shown h past f ms from b ls later k.1

asks_so : (h : Header) (ms : List Moment) (from : ℕ) (b : Body) → StandsSo h ms from b → AsksOf ms b
asks_so h ms from (body.SeizeQuorum e members d) k = k
asks_so h ms from (body.SeizeData e members d) k = k
asks_so h ms from _ k = tt

-- ---- a command at a device

-- what it leaves, beside the device, is as before
record Left (h : Header) (c : Cluster) (s : Scene) (o : Commanded) : Type 0 where
  shown : IsShown h o.scene
  ground : Ground c o.scene.nodes
  nodes : o.scene.nodes ≡ s.nodes

left_at : (h : Header) (c : Cluster) (s : Scene) (n d : ℕ) (k : PrCommand) (o : Option Device) → Ground c s.nodes → IsShown h s → Left h c s (commanded_at s n d o k)
left_at h c s n d k None g z = record { shown = z; ground = g; nodes = refl }
left_at h c s n d k (Some x) g z = record { shown = record { nodes = z.nodes; sent = z.sent; lines = z.lines }; ground = g; nodes = refl }

node_due : (h : Header) (a : Answer) (node : Node) → OwnKeysOnly h node a → NodeHigh node a → NodeDue h a node
node_due h a Down own high = tt
node_due h a (Up x) own high = ((λ k next reads. own (subst (λ z. next_of x.tasks ≡ Some z) reads next)), high)

-- ---- each thing that happens

-- what is known of a scene of a run, and of the one that comes next
record Known (h : Header) (s : Scene) (x : Happening) : Type 0 where
  sized : Sized (first_cluster h)
  stage : Stage (first_cluster h) s
  whole : IsWhole (first_cluster h) s
  reading : IsReading h s
  paths : IsPathed (first_cluster h) s
  places : IsAtDevices h s
  few : length h.devices ≤ 16
  differ : AttemptsDiffer (happened (first_cluster h) s x).moments
  agrees : AgreesAt h s x
  starts : StartsSo (first_cluster h) s x

happening_shown : (h : Header) (s : Scene) (x : Happening) → MayHappen (first_cluster h) s x → Known h s x → IsShown h s → IsShown h (happened (first_cluster h) s x)
happening_shown h s (Speaks e) may b k = armed_shown h (first_cluster h) e (adding (Said (line.Event e)) s) (more_shown h s s.links (Said (line.Event e)) tt (λ n. tt) tt k)
happening_shown h s (Begins e) may b k = more_shown h s s.links (Part e) tt (λ n. tt) tt k
happening_shown h s (Notes e) may b k = more_shown h s s.links (Told (entry.Schedule e)) tt (λ n. tt) tt k
happening_shown h s (Takes n now ends i) may b k =
    let c : Cluster = first_cluster h in
    step_shown h c n now ends i s b.sized (ground_of c s b.stage) may.0 (plain_sent s.nodes i may.1)
    (plain_comes h (collected_in s) c (ground_of c s b.stage).machine n now ends i s.nodes _ b.sized (of_header h b.few) (plain_no i may.1) may.2 (b.stage.fits.nodes n)
    (takes_gone h s n now ends i b.whole k (trusting_or i may.1) b.starts))
    (plain_hand h (collected_in s) (installed_in s.nodes) s.moments i may.1) b.differ b.agrees k
happening_shown h s (Arrives number x m now ends) may b k =
    let c : Cluster = first_cluster h in
    let z : Moment = Told (entry.Packet (packet.Delivered number x.from x.to)) in
    let t : Scene = telling (entry.Packet (packet.Delivered number x.from x.to)) (removed s number) in
    let come : IsShown h t = more_shown h s (removing s.links number) z tt (λ n. tt) tt k in
    step_shown h c x.to now ends (input.Packet x.from m) t b.sized (ground_of c s b.stage) may.3 may.4
    (plain_comes h (collected_in t) c (ground_of c s b.stage).machine x.to now ends (input.Packet x.from m) s.nodes _ b.sized (of_header h b.few) tt may.5 (b.stage.fits.nodes x.to)
    (λ replies. trust_gone (collected_in t) c x.to (site_of s.nodes x.to) _ (doings_trust c x.to now ends replies (input.Packet x.from m) (s.nodes.node x.to) tt) (b.starts replies))) (
      asks_so h (z ∷ s.moments) x.from m.body (arrived_hand h s.moments s.links number x m may.0 may.1 b.reading.carried).stands,
      among_shown h (collected_in t) (installed_in s.nodes) (z ∷ s.moments) x.from m.body s.nodes.sent may.4 come.sent,
    ) b.differ b.agrees come
happening_shown h s (Strays number x) may b k = more_shown h s (removing s.links number) (Told (entry.Packet (packet.Delivered number x.from x.to))) tt (λ n. tt) tt k
happening_shown h s (Misses number x) may b k = more_shown h s (removing s.links number) (Told (entry.Packet (packet.Dropped number drop.Down))) tt (λ n. tt) tt k
happening_shown h s (Loses number x) may b k = more_shown h s (removing s.links number) (Told (entry.Packet (packet.Lost number))) tt (λ n. tt) tt k
happening_shown h s (Repeats number x) may b k =
    let o : links.Outcome = sending s.links x.from x.to x.bytes in
    dropped_shown h _ o.sent.dropped (more_shown h s o.after (Told (entry.Packet (packet.Repeated number s.links.next))) tt (λ n. tt) tt k)
happening_shown h s (Commands n d q now ends) may b k =
    let c : Cluster = first_cluster h in
    let o : Commanded = commanded s n d q in
    let l : Left h c s o = left_at h c s n d q (slice_get s.devices (d - 1)) (ground_of c s b.stage) k in
    let low : 1 ≤ d = due_low c n (s.nodes.node n) d q (b.stage.fits.nodes n) may.2 in
    let due : NodeDue h o.answer (o.scene.nodes.node n) =
    subst (λ (v : Nodes). NodeDue h o.answer (v.node n)) (sym l.nodes)
    (node_due h o.answer (s.nodes.node n) (due_own h s n d q (s.nodes.node n) b.whole may.2 low) (due_high h s n d q b.few b.places b.whole (b.paths.nodes n) may.2 low)) in
    step_shown h c n now ends (input.Answered o.answer) o.scene b.sized l.ground may.0 tt
    (λ replies m e so holds known tied less agrees g. answer_comes h (collected_in o.scene) c l.ground.machine (installed_in o.scene.nodes) n now ends o.answer (o.scene.nodes.node n) (o.scene.nodes.disk n).kept replies _
    b.sized.fits.devices.attached (of_header h b.few) (low_number n may.0.1) due holds tied less m e so agrees (b.starts replies) g) tt b.differ b.agrees l.shown
happening_shown h s (Writes n d value now ends) may b k =
    let c : Cluster = first_cluster h in
    let o : Commanded = commanded s n d (command.Write value) in
    let l : Left h c s o = left_at h c s n d (command.Write value) (slice_get s.devices (d - 1)) (ground_of c s b.stage) k in
    step_shown h c n now ends (input.Wrote d value o.answer) o.scene b.sized l.ground may.0 tt
    (plain_comes h (collected_in o.scene) c l.ground.machine n now ends (input.Wrote d value o.answer) o.scene.nodes _ b.sized (of_header h b.few) tt may.2 (l.ground.fits.nodes n)
    (λ replies. trust_gone (collected_in o.scene) c n (site_of o.scene.nodes n) _ (doings_trust c n now ends replies (input.Wrote d value o.answer) (o.scene.nodes.node n) tt) (b.starts replies))) tt b.differ b.agrees l.shown
happening_shown h s (Refuses n d value cause) may b k =
    more_shown h s s.links (Told (entry.Device (device_entry.Refused n d value cause))) tt (λ m. tt) tt k

-- ---- runs

reading_at : (h : Header) (cells : ℕ) (s : Scene) → IsSmall h → IsReached h cells s → IsReading h s
reading_at h cells s size r = subst (IsReading h) r.is (run_reads h cells r.happenings size.few size.small r.may).reading

first_shown : (h : Header) (cells : ℕ) → IsShown h (first_scene h cells)
unfolding first_scene
first_shown h cells = record { nodes = λ n. tt; sent = tt; lines = tt }

-- what is reached, with what is due
record Comes_to (h : Header) (cells : ℕ) (s : Scene) (wants : List Want) : Type 0 where
  reached : Reached (first_cluster h) (first_scene h cells) s
  kept : Kept h s wants
  shown : IsShown h s

small_reached : (h : Header) (cells : ℕ) (s : Scene) → Reached (first_cluster h) (first_scene h cells) s → IsReached h cells s
small_reached h cells s r = record { happenings = r.happenings; may = r.may; is = r.is }

comes_more : (h : Header) (cells : ℕ) → IsSmall h → AreDisks h → (s : Scene) (d : Due) (x : Happening) → MayHappen (first_cluster h) s x → IsDue s d x → Comes_to h cells s d.wants
    → Comes_to h cells (happened (first_cluster h) s x) (due_after (first_cluster h) (happened (first_cluster h) s x) d x).wants
comes_more h cells size disks s d x may due k =
    let c : Cluster = first_cluster h in
    let at : IsReached h cells s = small_reached h cells s k.reached in
    let next : Reached c (first_scene h cells) (happened c s x) = reached_more c (first_scene h cells) s x k.reached may in
    let differ : AttemptsDiffer (happened c s x).moments = (stage_of h cells (happened c s x) size (small_reached h cells (happened c s x) next)).laws.once in
    let b : validity.Known h s = known_at h cells s size.few size.small k.reached in
    record {
      reached = next;
      kept = step_so h s d x due may b differ k.kept;
      shown = happening_shown h s x may (record {
        sized = header_sized h size.few size.small;
        stage = stage_of h cells s size at;
        whole = whole_at h cells s size at;
        reading = reading_at h cells s size at;
        paths = subst (IsPathed (first_cluster h)) at.is (run_pathed h cells at.happenings size at.may);
        places = subst (IsAtDevices h) at.is (devices_of_each_run h cells at.happenings size.few disks at.may);
        few = size.few;
        differ = differ;
        agrees = agrees_at h s d x due may b differ k.kept;
        starts = starts_at h cells s x size at may;
      }) k.shown;
    }

run_shown : (h : Header) (cells : ℕ) → IsSmall h → AreDisks h → (xs : List Happening) (s : Scene) (d last : Due) → MayAllHappen (first_cluster h) s xs → ShapedFrom (first_cluster h) s d xs last
    → Comes_to h cells s d.wants → Comes_to h cells (all_happened (first_cluster h) s xs) last.wants
run_shown h cells size disks [] s d last may shaped k = subst (λ (z : Due). Comes_to h cells s z.wants) shaped k
run_shown h cells size disks (x ∷ xs) s d last may shaped k =
    let c : Cluster = first_cluster h in
    run_shown h cells size disks xs (happened c s x) (due_after c (happened c s x) d x) last may.1 shaped.1 (comes_more h cells size disks s d x may.0 shaped.0 k)

-- the lines of starts
start_told : (h : Header) (ms : List Moment) (x : Moment) → EndsShown h ms x → StartShown (setting_of h) (x ∷ ms)
start_told h ms (start e members held count) k = k
start_told h ms (base e v words) k = k
start_told h ms _ k = tt

starts_told : (h : Header) (ms : List Moment) → Always (EndsShown h) ms → AllAccounted (setting_of h) ms
starts_told h [] k = tt
starts_told h (x ∷ ms) k = (start_told h ms x k.0, starts_told h ms k.1)

pub results_of_each_run : ResultsOfEachRun
results_of_each_run h cells hs few small disks may shaped =
    let size : IsSmall h = record { few = few; small = small } in
    all_named h (all_happened (first_cluster h) (first_scene h cells) hs).moments
    (run_shown h cells size disks hs (first_scene h cells) nothing nothing may shaped
    (record { reached = record { happenings = []; may = tt; is = refl }; kept = record { wants_so = tt; so = first_strict h cells few disks }; shown = first_shown h cells })).shown.lines
    (lacking_of_each_run h cells hs few small may) (promised_in_each_run h cells hs few small may) (counted_of_each_run h cells hs few small may)

-- each start accounts for its devices
pub all_accounted_in_each_run : AllAccountedInEachRun
all_accounted_in_each_run h cells hs few small disks may shaped =
    let size : IsSmall h = record { few = few; small = small } in
    starts_told h (all_happened (first_cluster h) (first_scene h cells) hs).moments
    (run_shown h cells size disks hs (first_scene h cells) nothing nothing may shaped
    (record { reached = record { happenings = []; may = tt; is = refl }; kept = record { wants_so = tt; so = first_strict h cells few disks }; shown = first_shown h cells })).shown.lines
