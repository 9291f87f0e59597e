-- In each run the line of an attempt that ends by what it counts is due.
use Rattle.std.specs.Prelude.{ℕ, ◌-◌, ◌≡◌, ◌≤◌, List, [], ◌∷◌, length, Option, None, Some, slice_get}
use Rattle.std.proofs.Common.{refl, ◌∙◌}
use Rattle.cl_base.specs.Limits.{most_devices}
use Rattle.cl_base.specs.declared.header.Header.{Header}
use Rattle.history.specs.Letters.{arrived}
use Rattle.history.specs.Moment.{Moment, Told}
use Rattle.history.specs.Order.{Always}
use Rattle.history.specs.Setting.{Setting}
use Rattle.history_setting.proofs.Votes.{setting_counts_votes}
use Rattle.history_setting.specs.Laws.{OfEachRunIn}
use Rattle.history_setting.specs.Settings.{setting_of}
use Rattle.interconnect.specs.Links as links
use Rattle.interconnect.specs.Links.{sending}
use Rattle.node_model.specs.declared.cluster.Cluster.{Cluster}
use Rattle.node_model.specs.declared.input.Input.{Input}
use Rattle.node_model.specs.declared.input.Input.TheVariants.{Answered, Packet as Packet_in, Wrote}
use Rattle.pgr_device.specs.Device.{Device}
use Rattle.pgr_device.specs.declared.command.PrCommand.{PrCommand}
use Rattle.pgr_device.specs.declared.command.PrCommand.TheVariants as command
use Rattle.refinement.proofs.Handlers.{delivered_by}
use Rattle.refinement.specs.Runs.{AnswersFit, Nodes, WasSent}
use Rattle.run_attempts.proofs.Known.{known_scene}
use Rattle.run_attempts.proofs.endings.Runs.{promised_in_each_run}
use Rattle.run_attempts.specs.endings.Laws.{HasPromises}
use Rattle.run_history.proofs.WorldDevices.{write_keeps}
use Rattle.run_history.specs.Causes.{Hand}
use Rattle.run_history.specs.Happenings.{Commanded, Happening, IsPlain, MayHappen, all_happened, armed_by, commanded, commanded_at, happened, removed}
use Rattle.run_history.specs.Happenings.Happening.{Arrives, Begins, Commands, Loses, Misses, Notes as Notes_of, Refuses, Repeats, Speaks, Strays, Takes, Writes}
use Rattle.run_history.specs.Scenes.{Scene, adding, first_scene, telling, with_links}
use Rattle.run_history.specs.Stages.{Sized}
use Rattle.run_messages.proofs.Reaching.{IsSmall, holds_of_each}
use Rattle.run_messages.proofs.records.Arms.{After, after_command, due_keeps}
use Rattle.run_messages.proofs.records.Arrivals.{arrived_hand, arrived_kept}
use Rattle.run_messages.proofs.records.Moments.{delivered_known}
use Rattle.run_messages.proofs.records.Sizes.{header_sized}
use Rattle.run_messages.specs.records.Kept.{HandKept, KnownScene}
use Rattle.schedule_text.specs.declared.event.Event.{Event}
use Rattle.schedule_text.specs.declared.event.Event.TheVariants as event
use Rattle.status_report.specs.declared.attempt_entry.AttemptEntry.TheVariants as attempt_entry
use Rattle.status_report.specs.declared.entry.Entry.TheVariants as entry
use Rattle.status_report.specs.declared.packet_entry.PacketEntry.TheVariants as packet
use Rattle.world_model.specs.First.{first_cluster}
use Rattle.run_outcomes.specs.counts.Facts.{AllDue, CountsIn, IsDue}
use Rattle.run_outcomes.specs.counts.Laws.{CountedOfEachRun, EndsForeign, EndsNeeding, EndsShort, ForeignOfEachRun, LackingOfEachRun, NamesLacking, NeededOfEachRun}
use Rattle.run_outcomes.proofs.counts.Lines.{dropped_due}
use Rattle.run_outcomes.proofs.counts.Placed.{config_placed}
use Rattle.run_outcomes.proofs.counts.Planned.{ScenePlanned, happening_planned}
use Rattle.run_outcomes.proofs.counts.Steps.{step_due}

-- ---- what comes

plain_sent : (w : Nodes) (i : Input) → IsPlain i → WasSent w i
plain_sent w (Packet_in from m) h = absurd h
plain_sent w _ h = tt

plain_fits : (i : Input) → IsPlain i → AnswersFit i
plain_fits (Packet_in from m) h = absurd h
plain_fits (Answered a) h = absurd h
plain_fits _ h = tt

plain_hand : (ms : List Moment) (n : ℕ) (i : Input) → IsPlain i → Hand ms n (delivered_by i)
plain_hand ms n (Packet_in from m) h = absurd h
plain_hand ms n _ h = tt

plain_kept : (ms : List Moment) (n : ℕ) (i : Input) → IsPlain i → arrived ms ≡ None → HandKept ms n (delivered_by i)
plain_kept ms n (Packet_in from m) h none = absurd h
plain_kept ms n _ h none = none

armed_due : (S : Setting) (c : Cluster) (e : Event) (s : Scene) → AllDue S s.moments → AllDue S (armed_by c e s).moments
armed_due S c (event.Fault n d done) s h = h
armed_due S c (event.CrashAt n calls choice) s h = h
armed_due S c _ s h = h

commanded_due : (S : Setting) (s : Scene) (n d : ℕ) (o : Option Device) (k : PrCommand) → AllDue S s.moments → AllDue S (commanded_at s n d o k).scene.moments
commanded_due S s n d None k h = h
commanded_due S s n d (Some x) k h = h

commanded_planned : (c : Cluster) (s : Scene) (n d : ℕ) (o : Option Device) (k : PrCommand) → ScenePlanned c s → ScenePlanned c (commanded_at s n d o k).scene
commanded_planned c s n d None k h = h
commanded_planned c s n d (Some x) k h = h

-- ---- each thing that happens

happening_due : (S : Setting) (c : Cluster) (s : Scene) (h : Happening) → CountsIn S c → Sized c → MayHappen c s h → KnownScene c s → ScenePlanned c s → AllDue S s.moments → AllDue S (happened c s h).moments
happening_due S c s (Speaks e) counts sized may a plans due = armed_due S c e (adding _ s) (tt, due)
happening_due S c s (Begins e) counts sized may a plans due = (tt, due)
happening_due S c s (Notes_of e) counts sized may a plans due = (tt, due)
happening_due S c s (Takes n now ends i) counts sized may a plans due =
    step_due S c n now ends i s counts sized may.0 may.2 (plain_sent s.nodes i may.1) (plain_fits i may.1) (plain_hand s.moments n i may.1) (plain_kept s.moments n i may.1 may.3) a plans due
happening_due S c s (Arrives number x m now ends) counts sized may a plans due =
    step_due S c x.to now ends (Packet_in x.from m) (telling (entry.Packet (packet.Delivered number x.from x.to)) (removed s number)) counts sized may.3 may.5 may.4 tt
    (arrived_hand c s number x m may.0 may.1 a.stage) (arrived_kept c s number x m may.0 may.1 a) (delivered_known c s number x.from x.to a) plans (tt, due)
happening_due S c s (Strays number x) counts sized may a plans due = (tt, due)
happening_due S c s (Misses number x) counts sized may a plans due = (tt, due)
happening_due S c s (Loses number x) counts sized may a plans due = (tt, due)
happening_due S c s (Repeats number x) counts sized may a plans due =
    let o : links.Outcome = sending s.links x.from x.to x.bytes in
    dropped_due S o.sent.dropped (telling (entry.Packet (packet.Repeated number s.links.next)) (with_links s o.after)) (tt, due)
happening_due S c s (Commands n d k now ends) counts sized may a plans due =
    let o : After c s (commanded s n d k) = after_command c s n d k (due_keeps c s n d k sized may.0.0 may.0.1 may.2 a.stage) a in
    step_due S c n now ends (Answered (commanded s n d k).answer) (commanded s n d k).scene counts sized may.0 may.3 tt o.answer tt (o.apart ∙ may.4) o.known
    (commanded_planned c s n d (slice_get s.devices (d - 1)) k plans) (commanded_due S s n d (slice_get s.devices (d - 1)) k due)
happening_due S c s (Writes n d value now ends) counts sized may a plans due =
    let z : Commanded = commanded s n d (command.Write value) in
    let o : After c s z = after_command c s n d (command.Write value) (λ x fit. write_keeps n value x fit) a in
    step_due S c n now ends (Wrote d value z.answer) z.scene counts sized may.0 may.2 tt tt tt (o.apart ∙ may.3) o.known
    (commanded_planned c s n d (slice_get s.devices (d - 1)) (command.Write value) plans) (commanded_due S s n d (slice_get s.devices (d - 1)) (command.Write value) due)
happening_due S c s (Refuses n d value cause) counts sized may a plans due = (tt, due)

-- ---- runs

one_foreign : (S : Setting) (before : List Moment) (x : Moment) → HasPromises before x → IsDue S before x → EndsForeign S before x
one_foreign S before (Told (entry.Attempt (attempt_entry.Foreign e m))) promised due = record { promised = promised; foreign = due }
one_foreign S before _ promised due = tt

all_foreign : (S : Setting) (ms : List Moment) → Always HasPromises ms → AllDue S ms → Always (EndsForeign S) ms
all_foreign S [] promised due = tt
all_foreign S (x ∷ before) promised due = (one_foreign S before x promised.0 due.0, all_foreign S before promised.1 due.1)

one_needing : (S : Setting) (before : List Moment) (x : Moment) → IsDue S before x → EndsNeeding S before x
one_needing S before (Told (entry.Attempt (attempt_entry.Votes e have need lacking))) due = due.1
one_needing S before _ due = tt

all_needing : (S : Setting) (ms : List Moment) → AllDue S ms → Always (EndsNeeding S) ms
all_needing S [] due = tt
all_needing S (x ∷ before) due = (one_needing S before x due.0, all_needing S before due.1)

one_short : (S : Setting) (before : List Moment) (x : Moment) → IsDue S before x → EndsShort S before x
one_short S before (Told (entry.Attempt (attempt_entry.Votes e have need lacking))) due = due.0
one_short S before _ due = tt

all_short : (S : Setting) (ms : List Moment) → AllDue S ms → Always (EndsShort S) ms
all_short S [] due = tt
all_short S (x ∷ before) due = (one_short S before x due.0, all_short S before due.1)

one_named : (S : Setting) (before : List Moment) (x : Moment) → IsDue S before x → NamesLacking S before x
one_named S before (Told (entry.Attempt (attempt_entry.Votes e have need lacking))) due = due.2
one_named S before _ due = tt

all_named : (S : Setting) (ms : List Moment) → AllDue S ms → Always (NamesLacking S) ms
all_named S [] due = tt
all_named S (x ∷ before) due = (one_named S before x due.0, all_named S before due.1)

counts_in : (h : Header) → length h.devices ≤ most_devices → CountsIn (setting_of h) (first_cluster h)
counts_in h few = record { votes = setting_counts_votes h; few = few; attached = refl; placed = config_placed h }

-- the attempts of a scene are over the devices of the cluster, and its lines are due
abbrev SceneDue : Header → Scene → Type 0
SceneDue h s = ScenePlanned (first_cluster h) s × AllDue (setting_of h) s.moments

first_scene_due : (h : Header) (cells : ℕ) → SceneDue h (first_scene h cells)
unfolding first_scene
first_scene_due h cells = ((λ n. tt), tt)

run_due : OfEachRunIn AllDue
run_due h cells hs few small may =
    let size : IsSmall h = record { few = few; small = small } in
    (holds_of_each h cells (SceneDue h)
    (λ s x now at more due.
    let a : KnownScene (first_cluster h) s = known_scene h cells s size at in (
      happening_planned (first_cluster h) s x (header_sized h few small) now a.stage due.0,
      happening_due (setting_of h) (first_cluster h) s x (counts_in h few) (header_sized h few small) now a due.0 due.1,
    ))
    (first_scene_due h cells) hs may).1

pub foreign_of_each_run : ForeignOfEachRun
foreign_of_each_run h cells hs few small may =
    all_foreign (setting_of h) (all_happened (first_cluster h) (first_scene h cells) hs).moments (promised_in_each_run h cells hs few small may) (run_due h cells hs few small may)

pub needed_of_each_run : NeededOfEachRun
needed_of_each_run h cells hs few small may = all_needing (setting_of h) (all_happened (first_cluster h) (first_scene h cells) hs).moments (run_due h cells hs few small may)

pub counted_of_each_run : CountedOfEachRun
counted_of_each_run h cells hs few small may = all_short (setting_of h) (all_happened (first_cluster h) (first_scene h cells) hs).moments (run_due h cells hs few small may)

pub lacking_of_each_run : LackingOfEachRun
lacking_of_each_run h cells hs few small may = all_named (setting_of h) (all_happened (first_cluster h) (first_scene h cells) hs).moments (run_due h cells hs few small may)
