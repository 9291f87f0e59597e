-- In each run a node that is excluded was left out.
use Rattle.std.specs.Prelude.{ℕ, ◌-◌, ◌<◌, ◌^◌, ◌≡◌, ◌≢◌, ◌≤◌, ◌⊎◌, List, [], ◌∷◌, length, Option, None, Some, option_map, slice_get}
use Rattle.std.proofs.Common.{refl, sym, ap, subst, ◌∙◌, arith, inl, inr}
use Rattle.cl_base.specs.declared.header.Header.{Header}
use Rattle.history.specs.Letters.{arrived}
use Rattle.history.specs.Moment.{Moment, Part, Said, Told}
use Rattle.history.specs.Order.{Always}
use Rattle.interconnect.specs.Links as links
use Rattle.interconnect.specs.Links.{sending}
use Rattle.node_model.specs.declared.cluster.Cluster.{Cluster}
use Rattle.node_model.specs.declared.input.Input.{Input}
use Rattle.node_model.specs.declared.input.Input.TheVariants.{Answered, Packet as Packet_in, Wrote}
use Rattle.pgr_device.specs.Device.{Device}
use Rattle.pgr_device.specs.declared.command.PrCommand.{PrCommand}
use Rattle.pgr_device.specs.declared.command.PrCommand.TheVariants as command
use Rattle.refinement.proofs.Handlers.{delivered_by}
use Rattle.refinement.specs.Runs.{AnswersFit, Nodes, WasSent}
use Rattle.run_attempts.proofs.Known.{known_scene}
use Rattle.run_history.proofs.WorldDevices.{write_keeps}
use Rattle.run_history.specs.Causes.{Hand}
use Rattle.run_history.specs.Happenings.{Commanded, Happening, IsPlain, MayHappen, all_happened, armed_by, commanded, commanded_at, happened, removed}
use Rattle.run_history.specs.Happenings.Happening.{Arrives, Begins, Commands, Loses, Misses, Notes as Notes_of, Refuses, Repeats, Speaks, Strays, Takes, Writes}
use Rattle.run_history.specs.Scenes.{Scene, adding, first_scene, telling, with_links}
use Rattle.run_history.specs.Stages.{Sized}
use Rattle.run_messages.proofs.Reaching.{IsSmall, holds_of_each}
use Rattle.run_messages.proofs.records.Arms.{After, after_command, due_keeps}
use Rattle.run_messages.proofs.records.Arrivals.{arrived_hand, arrived_kept}
use Rattle.run_messages.proofs.records.Moments.{delivered_known}
use Rattle.run_messages.proofs.records.Sizes.{header_sized}
use Rattle.run_messages.specs.records.Kept.{Came, HandKept, KnownScene}
use Rattle.schedule_text.specs.declared.event.Event.{Event}
use Rattle.schedule_text.specs.declared.event.Event.TheVariants as event
use Rattle.status_report.specs.declared.entry.Entry.TheVariants as entry
use Rattle.status_report.specs.declared.packet_entry.PacketEntry.TheVariants as packet
use Rattle.world_model.specs.First.{first_cluster}
use Rattle.cl_base.specs.Limits.{most_devices}
use Rattle.cl_base.specs.declared.packet.DropCause.{DropCause}
use Rattle.cl_base.specs.declared.packet.DropCause.TheVariants as drop
use Rattle.cmm_attempt.proofs.Basics.{none_some, same_some}
use Rattle.history.specs.Contact.{IsNew}
use Rattle.history.specs.Member.{last_installed}
use Rattle.history.specs.Trace.{delivered}
use Rattle.interconnect.specs.Links.{Packet, packet_of}
use Rattle.local_disk.specs.declared.memory.Choice.{Choice}
use Rattle.machine_base.specs.Put.{put}
use Rattle.machine_base.proofs.Puts.{put_here, put_there, same_or_not}
use Rattle.record_disk.specs.Disks.{DiskState, armed}
use Rattle.refinement.specs.Doings.{site}
use Rattle.run_attempts.proofs.Runs.{installs_bring_members_in_each_run}
use Rattle.run_attempts.proofs.Tried.{Grows, grows_one, letter_brings}
use Rattle.run_attempts.specs.Laws.{InstallSo}
use Rattle.run_attempts.specs.Members.{AllBring}
use Rattle.run_history.specs.Happenings.{MayAllHappen}
use Rattle.run_history.specs.Scenes.{dropped_so}
use Rattle.run_history.specs.Stages.{Stage, site_of}
use Rattle.run_messages.proofs.Reaching.{IsReached, stage_of}
use Rattle.schedule_text.specs.declared.line.Line.TheVariants as line
use Rattle.status_report.specs.declared.device_entry.DeviceEntry.TheVariants as device
use Rattle.wire.specs.Reads.{whole_of}
use Rattle.wire.specs.declared.message.Body.{Body}
use Rattle.wire.specs.declared.message.Body.TheVariants as body
use Rattle.wire.specs.declared.message.Message.{Message}
use Rattle.world_model.specs.Lines.{left_by}
use Rattle.run_outcomes.specs.exclusions.Laws.{EndsExcluded, ExclusionsOfEachRun}
use Rattle.run_outcomes.specs.exclusions.Sites.{AllJudged, BodySo, BodyTold, HandSo, Rises, SaysSo, SiteSo}
use Rattle.run_outcomes.proofs.exclusions.Letters.{LetterSo, letter_so}
use Rattle.run_outcomes.proofs.exclusions.Steps.{AllWent, taking_went}
use Rattle.run_outcomes.proofs.exclusions.Told.{body_grows, site_grows, told_grows}

-- ---- what comes

plain_sent : (w : Nodes) (i : Input) → IsPlain i → WasSent w i
plain_sent w (Packet_in from m) h = absurd h
plain_sent w _ h = tt

plain_fits : (i : Input) → IsPlain i → AnswersFit i
plain_fits (Packet_in from m) h = absurd h
plain_fits (Answered a) h = absurd h
plain_fits _ h = tt

plain_hand : (ms : List Moment) (n : ℕ) (i : Input) → IsPlain i → Hand ms n (delivered_by i)
plain_hand ms n (Packet_in from m) h = absurd h
plain_hand ms n _ h = tt

plain_kept : (ms : List Moment) (n : ℕ) (i : Input) → IsPlain i → arrived ms ≡ None → HandKept ms n (delivered_by i)
plain_kept ms n (Packet_in from m) h none = absurd h
plain_kept ms n _ h none = none

plain_so : (ms : List Moment) (n : ℕ) (i : Input) → IsPlain i → HandSo ms (delivered_by i)
plain_so ms n (Packet_in from m) h = absurd h
plain_so ms n _ h = tt

-- what a letter says is so still
told_body : (before after : List Moment) (from : ℕ) (b : Body) → Grows before after → BodySo before from b → InstallSo after b → BodyTold after from b
told_body before after from (body.Promise e newest members valid flagged committed pending) g so install = told_grows before after from newest members g so.1
told_body before after from (body.Install i) g so install = install
told_body before after from _ g so install = tt

-- what a packet says that comes: its Install has the members of its attempt, and its Promise tells what its sender had installed
pub arrived_so : (c : Cluster) (s : Scene) (number : ℕ) (x : Packet) (m : Message) → packet_of s.links.packets number ≡ Some x → whole_of x.bytes ≡ Some m → KnownScene c s → AllBring s.moments → AllJudged s.moments → BodyTold s.moments x.from m.body
arrived_so c s number x m is whole a brings judged = subst (λ k. BodyTold s.moments k m.body) came.sender (by_whole (whole_of came.letter.bytes) refl came.read)
  where
    came : Came (delivered number x.from x.to ∷ s.moments) x.to x.from m.body
    came = arrived_kept c s number x m is whole a

    found : LetterSo came.letter × Grows came.letter.before s.moments
    found = letter_so number s.moments came.letter a.stage.laws.once judged came.here

    by_whole : (o : Option Message) → whole_of came.letter.bytes ≡ o → option_map (λ (z : Message). z.body) o ≡ Some m.body → BodyTold s.moments came.letter.from m.body
    by_whole None at e = absurd (none_some m.body e)
    by_whole (Some z) at e =
        subst (BodyTold s.moments came.letter.from) (same_some z.body m.body e)
        (told_body came.letter.before s.moments came.letter.from z.body found.1 (found.0 z at) (letter_brings number s.moments came.letter z a.stage.laws.once brings came.here at))

-- ---- lines of the world

still : (v : Nodes) (ms : List Moment) (x : Moment) → IsNew ms x → SaysSo ms x → EndsExcluded ms x → Rises ms x → ((k : ℕ) → last_installed k (x ∷ ms) ≡ last_installed k ms) → AllWent v ms → AllWent v (x ∷ ms)
still v ms x new says ends rises last h = record {
  judged = (record { says = says; excluded = ends; rises = rises }, h.judged);
  sites = λ k. site_grows ms (x ∷ ms) k (site_of v k) (grows_one ms x new) (last k) (h.sites k);
}

dropped_went : (o : Option (ℕ × DropCause)) (s : Scene) → AllWent s.nodes s.moments → AllWent (dropped_so o s).nodes (dropped_so o s).moments
dropped_went None s h = h
dropped_went (Some drop) s h = still s.nodes s.moments (Told (entry.Packet (packet.Dropped drop.0 drop.1))) tt tt tt tt (λ k. refl) h

armed_kept : (f : ℕ → DiskState) (n k calls : ℕ) (choice : Choice) → (put f n (armed (f n) calls choice) k).kept ≡ (f k).kept
armed_kept f n k calls choice = go (same_or_not k n)
  where
    go : (k ≡ n) ⊎ (k ≢ n) → (put f n (armed (f n) calls choice) k).kept ≡ (f k).kept
    go (inl e) = subst (λ j. (put f n (armed (f n) calls choice) j).kept ≡ (f j).kept) (sym e) (ap (λ (d : DiskState). d.kept) (put_here f n (armed (f n) calls choice)))
    go (inr ne) = ap (λ (d : DiskState). d.kept) (put_there f n (armed (f n) calls choice) k ne)

armed_went : (c : Cluster) (e : Event) (s : Scene) → AllWent s.nodes s.moments → AllWent (armed_by c e s).nodes (armed_by c e s).moments
armed_went c (event.Fault n d done) s h = record { judged = h.judged; sites = h.sites }
armed_went c (event.CrashAt n calls choice) s h = record { judged = h.judged; sites = λ k. subst (λ r. SiteSo s.moments k (site (s.nodes.node k) r)) (sym (armed_kept s.nodes.disk n k calls (left_by choice))) (h.sites k) }
armed_went c _ s h = h

commanded_went : (s : Scene) (n d : ℕ) (o : Option Device) (k : PrCommand) → AllWent s.nodes s.moments → AllWent (commanded_at s n d o k).scene.nodes (commanded_at s n d o k).scene.moments
commanded_went s n d None k h = h
commanded_went s n d (Some x) k h = record { judged = h.judged; sites = h.sites }

-- ---- each thing that happens

happening_went : (c : Cluster) (s : Scene) (h : Happening) → Sized c → MayHappen c s h → KnownScene c s → Stage c (happened c s h) → AllBring s.moments → AllWent s.nodes s.moments → AllWent (happened c s h).nodes (happened c s h).moments
happening_went c s (Speaks e) sized may a after brings so = armed_went c e (adding _ s) (still s.nodes s.moments (Said (line.Event e)) tt tt tt tt (λ k. refl) so)
happening_went c s (Begins e) sized may a after brings so = still s.nodes s.moments (Part e) tt tt tt tt (λ k. refl) so
happening_went c s (Notes_of e) sized may a after brings so = still s.nodes s.moments (Told (entry.Schedule e)) tt tt tt tt (λ k. refl) so
happening_went c s (Takes n now ends i) sized may a after brings so =
    taking_went c n now ends i s sized may.0 may.2 (plain_sent s.nodes i may.1) (plain_fits i may.1) (plain_hand s.moments n i may.1) (plain_kept s.moments n i may.1 may.3) a after (plain_so s.moments n i may.1) so
happening_went c s (Arrives number x m now ends) sized may a after brings so =
    let t : Scene = telling (entry.Packet (packet.Delivered number x.from x.to)) (removed s number) in
    taking_went c x.to now ends (Packet_in x.from m) t sized may.3 may.5 may.4 tt (arrived_hand c s number x m may.0 may.1 a.stage) (arrived_kept c s number x m may.0 may.1 a) (delivered_known c s number x.from x.to a) after
    (body_grows s.moments t.moments x.from m.body (grows_one s.moments (delivered number x.from x.to) tt) (arrived_so c s number x m may.0 may.1 a brings so.judged))
    (still s.nodes s.moments (delivered number x.from x.to) tt tt tt tt (λ k. refl) so)
happening_went c s (Strays number x) sized may a after brings so = still s.nodes s.moments (Told (entry.Packet (packet.Delivered number x.from x.to))) tt tt tt tt (λ k. refl) so
happening_went c s (Misses number x) sized may a after brings so = still s.nodes s.moments (Told (entry.Packet (packet.Dropped number drop.Down))) tt tt tt tt (λ k. refl) so
happening_went c s (Loses number x) sized may a after brings so = still s.nodes s.moments (Told (entry.Packet (packet.Lost number))) tt tt tt tt (λ k. refl) so
happening_went c s (Repeats number x) sized may a after brings so =
    let o : links.Outcome = sending s.links x.from x.to x.bytes in
    let t : Scene = telling (entry.Packet (packet.Repeated number s.links.next)) (with_links s o.after) in
    dropped_went o.sent.dropped t (still s.nodes s.moments (Told (entry.Packet (packet.Repeated number s.links.next))) tt tt tt tt (λ k. refl) so)
happening_went c s (Commands n d k now ends) sized may a after brings so =
    let o : After c s (commanded s n d k) = after_command c s n d k (due_keeps c s n d k sized may.0.0 may.0.1 may.2 a.stage) a in
    taking_went c n now ends (Answered (commanded s n d k).answer) (commanded s n d k).scene sized may.0 may.3 tt o.answer tt (o.apart ∙ may.4) o.known after tt (commanded_went s n d (slice_get s.devices (d - 1)) k so)
happening_went c s (Writes n d value now ends) sized may a after brings so =
    let z : Commanded = commanded s n d (command.Write value) in
    let o : After c s z = after_command c s n d (command.Write value) (λ x fit. write_keeps n value x fit) a in
    taking_went c n now ends (Wrote d value z.answer) z.scene sized may.0 may.2 tt tt tt (o.apart ∙ may.3) o.known after tt (commanded_went s n d (slice_get s.devices (d - 1)) (command.Write value) so)
happening_went c s (Refuses n d value cause) sized may a after brings so = still s.nodes s.moments (Told (entry.Device (device.Refused n d value cause))) tt tt tt tt (λ k. refl) so

-- ---- runs

first_went : (h : Header) (cells : ℕ) → AllWent (first_scene h cells).nodes (first_scene h cells).moments
unfolding first_scene
first_went h cells = record { judged = tt; sites = λ k. record { last = omega arith; disk = λ some. absurd (none_below some); node = tt } }
  where
    none_below : 0 < 0 → ⊥
    none_below e = grind arith

brings_scene : (h : Header) (cells : ℕ) (s : Scene) → IsSmall h → IsReached h cells s → AllBring s.moments
brings_scene h cells s size r = subst (λ (z : Scene). AllBring z.moments) r.is (installs_bring_members_in_each_run h cells r.happenings size.few size.small r.may)

pub run_went : (h : Header) (cells : ℕ) (hs : List Happening) → length h.devices ≤ most_devices → h.cluster < 2 ^ 32 → MayAllHappen (first_cluster h) (first_scene h cells) hs
    → (let s : Scene = all_happened (first_cluster h) (first_scene h cells) hs in AllWent s.nodes s.moments)
run_went h cells hs few small may =
    let size : IsSmall h = record { few = few; small = small } in
    holds_of_each h cells (λ s. AllWent s.nodes s.moments)
    (λ s x now at more so. happening_went (first_cluster h) s x (header_sized h few small) now (known_scene h cells s size at) (stage_of h cells _ size more) (brings_scene h cells s size at) so) (first_went h cells) hs may

-- ---- the law

each : (ms : List Moment) → AllJudged ms → Always EndsExcluded ms
each [] h = tt
each (x ∷ before) h = (h.0.excluded, each before h.1)

pub exclusions_of_each_run : ExclusionsOfEachRun
exclusions_of_each_run h cells hs few small may = each (all_happened (first_cluster h) (first_scene h cells) hs).moments (run_went h cells hs few small may).judged
