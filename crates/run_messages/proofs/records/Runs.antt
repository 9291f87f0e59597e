-- What is known of records holds in each run.
use Rattle.cl_base.specs.Limits.{most_devices}
use Rattle.cl_base.specs.declared.header.Header.{Header}
use Rattle.history.specs.Letters.{arrived}
use Rattle.history.specs.Moment.{Moment, Part, Said}
use Rattle.node_model.specs.declared.cluster.Cluster.{Cluster}
use Rattle.node_model.specs.declared.input.Input.{Input}
use Rattle.node_model.specs.declared.input.Input.TheVariants.{Answered, Boot, Client, CommandDue, Commanded as Command_given, Crash, Packet as Packet_in, Reported, Tick, Wrote}
use Rattle.refinement.proofs.Handlers.{delivered_by}
use Rattle.refinement.specs.Runs.{AnswersFit, Nodes, WasSent}
use Rattle.run_history.proofs.ContactCalm.{calm_part, calm_said, more_laws}
use Rattle.run_history.proofs.ContactFlying.{flying_stays}
use Rattle.run_history.proofs.Reached.{kept_holds}
use Rattle.run_history.proofs.Runs.{run_stage}
use Rattle.run_history.proofs.WorldDevices.{write_keeps}
use Rattle.run_history.specs.Causes.{Hand}
use Rattle.run_history.specs.Happenings.{Commanded, Happening, IsPlain, MayAllHappen, MayHappen, all_happened, commanded, happened, removed}
use Rattle.run_history.specs.Happenings.Happening.{Arrives, Begins, Commands, Loses, Misses, Notes as Notes_of, Refuses, Repeats, Speaks, Strays, Takes, Writes}
use Rattle.run_history.specs.Scenes.{Scene, adding, first_scene, telling}
use Rattle.run_history.specs.Stages.{Sized, Stage}
use Rattle.run_messages.proofs.records.Grow.{bytes_stay}
use Rattle.run_messages.proofs.records.Steps.{step_known}
use Rattle.run_messages.proofs.records.Still.{Still, still_keeps, still_part, still_said}
use Rattle.run_messages.specs.records.Kept.{HandKept, KnownScene}
use Rattle.run_messages.specs.records.RecordRuns.{InstalledBaseOfEachRun, NewestBaseOfEachRun, NewestOfEachRun, RecordsOfEachRun}
use Rattle.std.proofs.Common.{refl, ◌∙◌}
use Rattle.std.specs.Prelude.{ℕ, ◌≡◌, ◌≤◌, ◌<◌, ◌^◌, List, [], None, length}
use Rattle.world_model.specs.First.{first_cluster}
use Rattle.cl_base.specs.declared.packet.DropCause.TheVariants as drop
use Rattle.pgr_device.specs.declared.command.PrCommand.TheVariants as command
use Rattle.schedule_text.specs.declared.line.Line.TheVariants as line
use Rattle.status_report.specs.declared.device_entry.DeviceEntry.TheVariants as device
use Rattle.status_report.specs.declared.entry.Entry.TheVariants as entry
use Rattle.status_report.specs.declared.packet_entry.PacketEntry.TheVariants as packet
use Rattle.run_messages.proofs.records.Arms.{After, after_command, armed_known, due_keeps}
use Rattle.run_messages.proofs.records.Arrivals.{arrived_hand, arrived_kept}
use Rattle.run_messages.proofs.records.Moments.{calm_known, delivered_known, gone_known, moment_known, repeated_known, still_judged}
use Rattle.run_messages.proofs.records.Sizes.{header_sized}

-- ---- each thing that happens

plain_sent : (w : Nodes) (i : Input) → IsPlain i → WasSent w i
plain_sent w (Packet_in from m) h = absurd h
plain_sent w Boot h = tt
plain_sent w Crash h = tt
plain_sent w Tick h = tt
plain_sent w CommandDue h = tt
plain_sent w (Answered a) h = tt
plain_sent w (Wrote d value a) h = tt
plain_sent w (Command_given words) h = tt
plain_sent w (Reported r good) h = tt
plain_sent w (Client name client port) h = tt

plain_fits : (i : Input) → IsPlain i → AnswersFit i
plain_fits (Packet_in from m) h = absurd h
plain_fits Boot h = tt
plain_fits Crash h = tt
plain_fits Tick h = tt
plain_fits CommandDue h = tt
plain_fits (Answered a) h = absurd h
plain_fits (Wrote d value a) h = tt
plain_fits (Command_given words) h = tt
plain_fits (Reported r good) h = tt
plain_fits (Client name client port) h = tt

plain_hand : (ms : List Moment) (n : ℕ) (i : Input) → IsPlain i → Hand ms n (delivered_by i)
plain_hand ms n (Packet_in from m) h = absurd h
plain_hand ms n Boot h = tt
plain_hand ms n Crash h = tt
plain_hand ms n Tick h = tt
plain_hand ms n CommandDue h = tt
plain_hand ms n (Answered a) h = tt
plain_hand ms n (Wrote d value a) h = tt
plain_hand ms n (Command_given words) h = tt
plain_hand ms n (Reported r good) h = tt
plain_hand ms n (Client name client port) h = tt

plain_kept : (ms : List Moment) (n : ℕ) (i : Input) → IsPlain i → arrived ms ≡ None → HandKept ms n (delivered_by i)
plain_kept ms n (Packet_in from m) h none = absurd h
plain_kept ms n Boot h none = none
plain_kept ms n Crash h none = none
plain_kept ms n Tick h none = none
plain_kept ms n CommandDue h none = none
plain_kept ms n (Answered a) h none = none
plain_kept ms n (Wrote d value a) h none = none
plain_kept ms n (Command_given words) h none = none
plain_kept ms n (Reported r good) h none = none
plain_kept ms n (Client name client port) h none = none

happening_known : (c : Cluster) (s : Scene) (h : Happening) → Sized c → MayHappen c s h → KnownScene c s → KnownScene c (happened c s h)
happening_known c s (Speaks e) sized may a =
    let x : Moment = Said (line.Event e) in
    let h : Still s.moments x = still_said s.moments (line.Event e) in
    armed_known c e (adding x s) sized
    (moment_known c s s.links x (calm_said s.moments (line.Event e)) (more_laws s.moments x a.stage.laws tt tt tt tt tt) (flying_stays s.moments x s.links (λ q is. is) (λ p. refl) a.stage.flying)
    (λ n. still_keeps s.moments n x h) h.sound (still_judged s.moments x h a.judged) (bytes_stay s.moments x s.links.next s.links.packets h.letters a.bytes) a)
happening_known c s (Begins e) sized may a =
    let x : Moment = Part e in
    let h : Still s.moments x = still_part s.moments e in
    moment_known c s s.links x (calm_part s.moments e) (more_laws s.moments x a.stage.laws tt tt tt tt tt) (flying_stays s.moments x s.links (λ q is. is) (λ p. refl) a.stage.flying)
    (λ n. still_keeps s.moments n x h) h.sound (still_judged s.moments x h a.judged) (bytes_stay s.moments x s.links.next s.links.packets h.letters a.bytes) a
happening_known c s (Notes_of e) sized may a = calm_known c s (entry.Schedule e) tt tt a
happening_known c s (Takes n now ends i) sized may a =
    step_known c n now ends i s sized may.0 may.2 (plain_sent s.nodes i may.1) (plain_fits i may.1) (plain_hand s.moments n i may.1) (plain_kept s.moments n i may.1 may.3) a
happening_known c s (Arrives number x m now ends) sized may a =
    step_known c x.to now ends (Packet_in x.from m) (telling (entry.Packet (packet.Delivered number x.from x.to)) (removed s number)) sized may.3 may.5 may.4 tt
    (arrived_hand c s number x m may.0 may.1 a.stage) (arrived_kept c s number x m may.0 may.1 a) (delivered_known c s number x.from x.to a)
happening_known c s (Strays number x) sized may a = delivered_known c s number x.from x.to a
happening_known c s (Misses number x) sized may a = gone_known c s number (entry.Packet (packet.Dropped number drop.Down)) tt tt a
happening_known c s (Loses number x) sized may a = gone_known c s number (entry.Packet (packet.Lost number)) tt tt a
happening_known c s (Repeats number x) sized may a = repeated_known c s number x may.0 a
happening_known c s (Commands n d k now ends) sized may a =
    let o : After c s (commanded s n d k) = after_command c s n d k (due_keeps c s n d k sized may.0.0 may.0.1 may.2 a.stage) a in
    step_known c n now ends (Answered (commanded s n d k).answer) (commanded s n d k).scene sized may.0 may.3 tt o.answer tt (o.apart ∙ may.4) o.known
happening_known c s (Writes n d value now ends) sized may a =
    let z : Commanded = commanded s n d (command.Write value) in
    let o : After c s z = after_command c s n d (command.Write value) (λ x fit. write_keeps n value x fit) a in
    step_known c n now ends (Wrote d value z.answer) z.scene sized may.0 may.2 tt tt tt (o.apart ∙ may.3) o.known
happening_known c s (Refuses n d value cause) sized may a = calm_known c s (entry.Device (device.Refused n d value cause)) tt tt a

-- ---- runs

first_known : (h : Header) (cells : ℕ) → Stage (first_cluster h) (first_scene h cells) → KnownScene (first_cluster h) (first_scene h cells)
unfolding first_scene
first_known h cells b = record {
  stage = b;
  sound = tt;
  judged = record { records = tt; newest = tt; base = tt; newest_base = tt };
  bytes = tt;
  at = λ n. record { record_so = refl; installed = refl; up = tt };
}

pub run_known : (h : Header) (cells : ℕ) (hs : List Happening) → length h.devices ≤ most_devices → h.cluster < 2 ^ 32 → MayAllHappen (first_cluster h) (first_scene h cells) hs
    → KnownScene (first_cluster h) (all_happened (first_cluster h) (first_scene h cells) hs)
run_known h cells hs few small may =
    let c : Cluster = first_cluster h in
    let sized : Sized c = header_sized h few small in
    kept_holds c (KnownScene c) (λ s e m a. happening_known c s e sized m a) (first_scene h cells) hs may (first_known h cells (run_stage h cells [] few small tt))

pub installed_base_of_each_run : InstalledBaseOfEachRun
installed_base_of_each_run h cells hs few small may = (run_known h cells hs few small may).judged.base

pub records_of_each_run : RecordsOfEachRun
records_of_each_run h cells hs few small may = (run_known h cells hs few small may).judged.records

pub newest_of_each_run : NewestOfEachRun
newest_of_each_run h cells hs few small may = (run_known h cells hs few small may).judged.newest

pub newest_base_of_each_run : NewestBaseOfEachRun
newest_base_of_each_run h cells hs few small may = (run_known h cells hs few small may).judged.newest_base
