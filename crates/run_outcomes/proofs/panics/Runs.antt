-- In each run a node that panics since it was excluded was told so.
use Rattle.std.specs.Prelude.{ℕ, ◌-◌, ◌<◌, ◌^◌, ◌≡◌, ◌≤◌, List, [], ◌∷◌, length, Option, None, Some, slice_get}
use Rattle.std.proofs.Common.{refl, subst, ◌∙◌}
use Rattle.cl_base.specs.Limits.{most_devices}
use Rattle.cl_base.specs.declared.header.Header.{Header}
use Rattle.cl_base.specs.declared.packet.DropCause.{DropCause}
use Rattle.history.specs.Letters.{arrived}
use Rattle.history.specs.Moment.{Moment}
use Rattle.history.specs.Order.{Always}
use Rattle.history.specs.Trace.{delivered}
use Rattle.interconnect.specs.Links as links
use Rattle.interconnect.specs.Links.{sending}
use Rattle.local_disk.specs.declared.memory.Choice.{Choice}
use Rattle.machine_base.proofs.Puts.{put_cases}
use Rattle.machine_base.specs.Put.{put}
use Rattle.node_model.specs.declared.cluster.Cluster.{Cluster}
use Rattle.node_model.specs.declared.input.Input.{Input}
use Rattle.node_model.specs.declared.input.Input.TheVariants.{Answered, Packet as Packet_in, Wrote}
use Rattle.pgr_device.specs.Device.{Device}
use Rattle.pgr_device.specs.declared.command.PrCommand.{PrCommand}
use Rattle.pgr_device.specs.declared.command.PrCommand.TheVariants as command
use Rattle.record_disk.specs.Disks.{DiskState, armed}
use Rattle.refinement.proofs.Handlers.{delivered_by}
use Rattle.refinement.specs.Doings.{Site, site}
use Rattle.refinement.specs.Runs.{AnswersFit, Nodes, WasSent}
use Rattle.run_attempts.proofs.Known.{known_scene}
use Rattle.run_attempts.proofs.Runs.{installs_bring_members_in_each_run}
use Rattle.run_attempts.proofs.Tried.{grows_one}
use Rattle.run_attempts.specs.Members.{AllBring}
use Rattle.run_outcomes.specs.exclusions.Sites.{HandSo}
use Rattle.run_outcomes.proofs.exclusions.Runs.{arrived_so, run_went}
use Rattle.run_outcomes.proofs.exclusions.Steps.{AllWent}
use Rattle.run_outcomes.proofs.exclusions.Told.{body_grows, site_grows}
use Rattle.run_history.proofs.WorldDevices.{write_keeps}
use Rattle.run_history.specs.Causes.{Hand}
use Rattle.run_history.specs.Happenings.{Commanded, Happening, IsPlain, MayAllHappen, MayHappen, all_happened, armed_by, commanded, commanded_at, happened, removed}
use Rattle.run_history.specs.Happenings.Happening.{Arrives, Begins, Commands, Loses, Misses, Notes as Notes_of, Refuses, Repeats, Speaks, Strays, Takes, Writes}
use Rattle.run_history.specs.Scenes.{Scene, adding, dropped_so, first_scene, telling, with_links}
use Rattle.run_history.specs.Stages.{Sized, Stage, site_of}
use Rattle.run_messages.proofs.Reaching.{IsReached, IsSmall, holds_of_each, stage_of}
use Rattle.run_messages.proofs.records.Arms.{After, after_command, due_keeps}
use Rattle.run_messages.proofs.records.Arrivals.{arrived_hand, arrived_kept}
use Rattle.run_messages.proofs.records.Moments.{delivered_known}
use Rattle.run_messages.proofs.records.Sizes.{header_sized}
use Rattle.run_messages.specs.records.Kept.{HandKept, KnownScene}
use Rattle.schedule_text.specs.declared.event.Event.{Event}
use Rattle.schedule_text.specs.declared.event.Event.TheVariants as event
use Rattle.status_report.specs.declared.entry.Entry.TheVariants as entry
use Rattle.status_report.specs.declared.packet_entry.PacketEntry.TheVariants as packet
use Rattle.world_model.specs.First.{first_cluster}
use Rattle.world_model.specs.Lines.{left_by}
use Rattle.run_outcomes.specs.panics.Laws.{ExclusionsAreToldInEachRun, PanicsExcluded}
use Rattle.run_outcomes.specs.panics.Sites.{AllJudged, IsPast}
use Rattle.run_outcomes.proofs.panics.Steps.{taking_judged}
use Rattle.run_outcomes.proofs.panics.Told.{Onward, all_onward}

-- ---- what comes

plain_sent : (w : Nodes) (i : Input) → IsPlain i → WasSent w i
plain_sent w (Packet_in from m) h = absurd h
plain_sent w _ h = tt

plain_fits : (i : Input) → IsPlain i → AnswersFit i
plain_fits (Packet_in from m) h = absurd h
plain_fits (Answered a) h = absurd h
plain_fits _ h = tt

plain_hand : (ms : List Moment) (n : ℕ) (i : Input) → IsPlain i → Hand ms n (delivered_by i)
plain_hand ms n (Packet_in from m) h = absurd h
plain_hand ms n _ h = tt

plain_kept : (ms : List Moment) (n : ℕ) (i : Input) → IsPlain i → arrived ms ≡ None → HandKept ms n (delivered_by i)
plain_kept ms n (Packet_in from m) h none = absurd h
plain_kept ms n _ h none = none

plain_so : (ms : List Moment) (n : ℕ) (i : Input) → IsPlain i → HandSo ms (delivered_by i)
plain_so ms n (Packet_in from m) h = absurd h
plain_so ms n _ h = tt

-- ---- lines of the world

-- what is proved of all moments so far, of the nodes as they are
abbrev SceneSo : Scene → Type 0
SceneSo s = AllJudged (site_of s.nodes) s.moments

dropped_scene : (o : Option (ℕ × DropCause)) (s : Scene) → SceneSo s → SceneSo (dropped_so o s)
dropped_scene None s h = h
dropped_scene (Some drop) s h = (record { says = tt; panics = tt }, h)

armed_onward : (v : Nodes) (n calls : ℕ) (choice : Choice) → Onward (site_of v) (site_of (record v { disk = put v.disk n (armed (v.disk n) calls choice) }))
armed_onward v n calls choice k e past =
    put_cases (λ j (d : DiskState). IsPast (site_of v j) e → IsPast (site (v.node j) d.kept) e) v.disk n (armed (v.disk n) calls choice) (λ h. h) (λ j ne h. h) k past

armed_so : (c : Cluster) (e : Event) (s : Scene) → SceneSo s → SceneSo (armed_by c e s)
armed_so c (event.Fault n d done) s h = h
armed_so c (event.CrashAt n calls choice) s h = all_onward (site_of s.nodes) _ s.moments (armed_onward s.nodes n calls (left_by choice)) h
armed_so c _ s h = h

commanded_so : (s : Scene) (n d : ℕ) (o : Option Device) (k : PrCommand) → SceneSo s → SceneSo (commanded_at s n d o k).scene
commanded_so s n d None k h = h
commanded_so s n d (Some x) k h = h

commanded_left : (s : Scene) (n d : ℕ) (o : Option Device) (k : PrCommand) → AllWent s.nodes s.moments → AllWent (commanded_at s n d o k).scene.nodes (commanded_at s n d o k).scene.moments
commanded_left s n d None k h = h
commanded_left s n d (Some x) k h = record { judged = h.judged; sites = h.sites }

-- a packet that is delivered is one line more
delivered_left : (s : Scene) (number from to : ℕ) → AllWent s.nodes s.moments → AllWent s.nodes (delivered number from to ∷ s.moments)
delivered_left s number from to h =
    let x : Moment = delivered number from to in
    record {
      judged = (record { says = tt; excluded = tt; rises = tt }, h.judged);
      sites = λ k. site_grows s.moments (x ∷ s.moments) k (site_of s.nodes k) (grows_one s.moments x tt) refl (h.sites k);
    }

-- ---- each thing that happens

happening_so : (c : Cluster) (s : Scene) (h : Happening) → Sized c → MayHappen c s h → KnownScene c s → Stage c (happened c s h) → AllBring s.moments → AllWent s.nodes s.moments → SceneSo s → SceneSo (happened c s h)
happening_so c s (Speaks e) sized may a after brings left so = armed_so c e (adding _ s) (record { says = tt; panics = tt }, so)
happening_so c s (Begins e) sized may a after brings left so = (record { says = tt; panics = tt }, so)
happening_so c s (Notes_of e) sized may a after brings left so = (record { says = tt; panics = tt }, so)
happening_so c s (Takes n now ends i) sized may a after brings left so =
    taking_judged c n now ends i s sized may.0 may.2 (plain_sent s.nodes i may.1) (plain_fits i may.1) (plain_hand s.moments n i may.1) (plain_kept s.moments n i may.1 may.3) a after (plain_so s.moments n i may.1) left so
happening_so c s (Arrives number x m now ends) sized may a after brings left so =
    let t : Scene = telling (entry.Packet (packet.Delivered number x.from x.to)) (removed s number) in
    taking_judged c x.to now ends (Packet_in x.from m) t sized may.3 may.5 may.4 tt (arrived_hand c s number x m may.0 may.1 a.stage) (arrived_kept c s number x m may.0 may.1 a) (delivered_known c s number x.from x.to a) after
    (body_grows s.moments t.moments x.from m.body (grows_one s.moments (delivered number x.from x.to) tt) (arrived_so c s number x m may.0 may.1 a brings left.judged)) (delivered_left s number x.from x.to left)
    (record { says = tt; panics = tt }, so)
happening_so c s (Strays number x) sized may a after brings left so = (record { says = tt; panics = tt }, so)
happening_so c s (Misses number x) sized may a after brings left so = (record { says = tt; panics = tt }, so)
happening_so c s (Loses number x) sized may a after brings left so = (record { says = tt; panics = tt }, so)
happening_so c s (Repeats number x) sized may a after brings left so =
    let o : links.Outcome = sending s.links x.from x.to x.bytes in
    let t : Scene = telling (entry.Packet (packet.Repeated number s.links.next)) (with_links s o.after) in
    dropped_scene o.sent.dropped t (record { says = tt; panics = tt }, so)
happening_so c s (Commands n d k now ends) sized may a after brings left so =
    let o : After c s (commanded s n d k) = after_command c s n d k (due_keeps c s n d k sized may.0.0 may.0.1 may.2 a.stage) a in
    taking_judged c n now ends (Answered (commanded s n d k).answer) (commanded s n d k).scene sized may.0 may.3 tt o.answer tt (o.apart ∙ may.4) o.known after tt (commanded_left s n d (slice_get s.devices (d - 1)) k left)
    (commanded_so s n d (slice_get s.devices (d - 1)) k so)
happening_so c s (Writes n d value now ends) sized may a after brings left so =
    let z : Commanded = commanded s n d (command.Write value) in
    let o : After c s z = after_command c s n d (command.Write value) (λ x fit. write_keeps n value x fit) a in
    taking_judged c n now ends (Wrote d value z.answer) z.scene sized may.0 may.2 tt tt tt (o.apart ∙ may.3) o.known after tt (commanded_left s n d (slice_get s.devices (d - 1)) (command.Write value) left)
    (commanded_so s n d (slice_get s.devices (d - 1)) (command.Write value) so)
happening_so c s (Refuses n d value cause) sized may a after brings left so = (record { says = tt; panics = tt }, so)

-- ---- runs

brings_scene : (h : Header) (cells : ℕ) (s : Scene) → IsSmall h → IsReached h cells s → AllBring s.moments
brings_scene h cells s size r = subst (λ (z : Scene). AllBring z.moments) r.is (installs_bring_members_in_each_run h cells r.happenings size.few size.small r.may)

left_scene : (h : Header) (cells : ℕ) (s : Scene) → IsSmall h → IsReached h cells s → AllWent s.nodes s.moments
left_scene h cells s size r = subst (λ (z : Scene). AllWent z.nodes z.moments) r.is (run_went h cells r.happenings size.few size.small r.may)

first_so : (h : Header) (cells : ℕ) → SceneSo (first_scene h cells)
unfolding first_scene
first_so h cells = tt

run_so : (h : Header) (cells : ℕ) (hs : List Happening) → length h.devices ≤ most_devices → h.cluster < 2 ^ 32 → MayAllHappen (first_cluster h) (first_scene h cells) hs → SceneSo (all_happened (first_cluster h) (first_scene h cells) hs)
run_so h cells hs few small may =
    let size : IsSmall h = record { few = few; small = small } in
    holds_of_each h cells SceneSo
    (λ s x now at more so. happening_so (first_cluster h) s x (header_sized h few small) now (known_scene h cells s size at) (stage_of h cells _ size more) (brings_scene h cells s size at) (left_scene h cells s size at) so) (first_so h cells) hs may

-- ---- the law

each : (v : ℕ → Site) (ms : List Moment) → AllJudged v ms → Always PanicsExcluded ms
each v [] h = tt
each v (x ∷ before) h = (h.0.panics, each v before h.1)

pub exclusions_are_told_in_each_run : ExclusionsAreToldInEachRun
exclusions_are_told_in_each_run h cells hs few small may =
    let s : Scene = all_happened (first_cluster h) (first_scene h cells) hs in
    each (site_of s.nodes) s.moments (run_so h cells hs few small may)
