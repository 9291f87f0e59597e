-- In each run a node stops in a command at a device only where the rules let it save.
use Rattle.std.specs.Prelude.{ℕ, ◌-◌, ◌≡◌, ◌^◌, nat_lt, Bool, true, false, List, [], ◌∷◌, Option, None, Some, slice_get}
use Rattle.std.specs.List.{AllByRecursion}
use Rattle.std.proofs.Common.{refl, ap, ◌∙◌}
use Rattle.cl_base.specs.declared.header.Header.{Header}
use Rattle.cl_base.specs.declared.method.Outcome as method
use Rattle.cmm_attempt.proofs.Basics.{false_true}
use Rattle.history.specs.Moment.{Moment, Said}
use Rattle.history.specs.Order.{under_way}
use Rattle.history.specs.Setting.{Setting}
use Rattle.history_setting.specs.Settings.{setting_of}
use Rattle.interconnect.specs.Links as net
use Rattle.interconnect.specs.Links.{Packet, sending}
use Rattle.node_model.specs.declared.cluster.Cluster.{Cluster}
use Rattle.node_model.specs.declared.input.Input.{Input}
use Rattle.node_model.specs.declared.input.Input.TheVariants as input
use Rattle.pgr_device.specs.Device.{Device}
use Rattle.pgr_device.specs.declared.command.PrCommand.{PrCommand}
use Rattle.pgr_device.specs.declared.command.PrCommand.TheVariants as command
use Rattle.refinement.specs.Runs.{moved}
use Rattle.refinement.specs.Runs.Move.{Takes as Takes_in}
use Rattle.schedule_text.specs.declared.event.Event.{Event}
use Rattle.schedule_text.specs.declared.event.Event.TheVariants as event
use Rattle.schedule_text.specs.declared.line.Line.TheVariants as line
use Rattle.status_report.specs.declared.entry.Entry.TheVariants as entry
use Rattle.status_report.specs.declared.packet_entry.PacketEntry.TheVariants as packet
use Rattle.world_model.specs.First.{first_cluster}
use Rattle.run_history.specs.Bringing.{IsBrought, IsDelivery}
use Rattle.run_history.specs.Happenings.{Arrives, Begins, Commands, Happening, IsPlain, Loses, MayAllHappen, MayHappen, Misses, Notes, Refuses, Repeats, Speaks, Strays, Takes, Writes, all_happened, armed_by, commanded, commanded_at, given_by, happened, removed, taking}
use Rattle.run_history.specs.Scenes.{Scene, adding, first_scene, telling, with_links}
use Rattle.run_history.specs.Shapes.{Due, IsDue, ShapedFrom, due_after, nothing}
use Rattle.run_packets.specs.native.Laws.{BootsInHeader}
use Rattle.run_packets.specs.views.Laws.{NoneForeign}
use Rattle.run_outcomes.specs.stops.AtDevices.{DiskStopsOfEachRun, is_disk}
use Rattle.run_outcomes.specs.stops.Idle.{AllDisk}
use Rattle.run_outcomes.specs.stops.Inside.{CommandsAreIdle}
use Rattle.run_outcomes.specs.tasks.Laws.{QueuesAreTold}
use Rattle.run_outcomes.proofs.asks.Lines.{left_before}
use Rattle.run_outcomes.proofs.stops.DiskRules.{NoDisk, dropped_disk, other_disk}
use Rattle.run_outcomes.proofs.stops.Numbers.{all_next}
use Rattle.run_outcomes.proofs.points.Before.{first_before, one_more}
use Rattle.run_outcomes.proofs.stops.Points.{Fresh, next_fresh, take_first}
use Rattle.run_outcomes.proofs.stops.DiskSteps.{At, Run, answers, coordinator_idle, readies}

-- ---- each thing that happens

no_disk : (ms : List Moment) (e : Event) → is_disk (Some e) ≡ false → under_way ms ≡ Some e → NoDisk ms
no_disk ms e other way = ap is_disk way ∙ other

-- it is another event that brings this
brought_none : (ms : List Moment) (n : ℕ) (i : Input) → IsPlain i → (i ≡ input.CommandDue → ⊥) → IsBrought (under_way ms) n i → NoDisk ms
brought_none ms n input.Boot plain other is = no_disk ms (event.Boot n) refl is
brought_none ms n input.Crash plain other is = no_disk ms (event.Crash n) refl is
brought_none ms n input.Tick plain other is = no_disk ms (event.Tick n) refl is
brought_none ms n input.CommandDue plain other is = absurd (other refl)
brought_none ms n (input.Commanded words) plain other is = no_disk ms (event.Command n words) refl is
brought_none ms n (input.Reported r good) plain other is = no_disk ms (event.Probe n r good) refl is
brought_none ms n (input.Client address client port) plain other is = no_disk ms (event.Client n address client port) refl is
brought_none ms n (input.Packet from m) plain other is = absurd plain
brought_none ms n (input.Answered a) plain other is = absurd plain
brought_none ms n (input.Wrote d value a) plain other is = absurd plain

delivery_none : (packets : List Packet) (number : ℕ) (e : Option Event) → IsDelivery packets number e → is_disk e ≡ false
delivery_none packets number (Some (event.Deliver k)) h = refl
delivery_none packets number (Some (event.Next from to)) h = refl
delivery_none packets number _ h = absurd h

is_due_input : Input → Bool
is_due_input input.CommandDue = true
is_due_input _ = false

takes_disk : (h : Header) → Run h → (cells : ℕ) (d : Due) (s : Scene) (n now : ℕ) (ends : method.Outcome) (i : Input) → MayHappen (first_cluster h) s (Takes n now ends i) → IsDue s d (Takes n now ends i) → At h cells d s
    → nat_lt s.links.next (2 ^ 63) ≡ true → Fresh s.moments d.wants → AllDisk (setting_of h) s.moments → AllDisk (setting_of h) (taking (first_cluster h) n now ends i s).moments
unfolding is_due_input
takes_disk h b cells d s n now ends i may is r left fresh so = by_input i may is
  where
    c : Cluster
    c = first_cluster h

    other : (i : Input) → MayHappen c s (Takes n now ends i) → (i ≡ input.CommandDue → ⊥) → AllDisk (setting_of h) (taking c n now ends i s).moments
    other i may ne = other_disk (setting_of h) n (given_by c n now ends i s.nodes) (record s { nodes = moved c s.nodes (Takes_in n now ends i) }) (brought_none s.moments n i may.1 ne may.5) so

    by_input : (i : Input) → MayHappen c s (Takes n now ends i) → IsDue s d (Takes n now ends i) → AllDisk (setting_of h) (taking c n now ends i s).moments
    by_input input.CommandDue may is = readies h b cells d s n now ends r left may.5 (take_first s d.wants d.rounds n now ends input.CommandDue is fresh) so
    by_input input.Boot may is = other input.Boot may (λ e. false_true (ap is_due_input e))
    by_input input.Crash may is = other input.Crash may (λ e. false_true (ap is_due_input e))
    by_input input.Tick may is = other input.Tick may (λ e. false_true (ap is_due_input e))
    by_input (input.Commanded words) may is = other (input.Commanded words) may (λ e. false_true (ap is_due_input e))
    by_input (input.Reported x good) may is = other (input.Reported x good) may (λ e. false_true (ap is_due_input e))
    by_input (input.Client address client port) may is = other (input.Client address client port) may (λ e. false_true (ap is_due_input e))
    by_input (input.Packet from m) may is = absurd may.1
    by_input (input.Answered a) may is = absurd may.1
    by_input (input.Wrote e value a) may is = absurd may.1

speaks_disk : (S : Setting) (c : Cluster) (e : Event) (s : Scene) → AllDisk S s.moments → AllDisk S (armed_by c e (adding (Said (line.Event e)) s)).moments
speaks_disk S c (event.CrashAt n calls choice) s h = (tt, h)
speaks_disk S c (event.Fault n d done) s h = (tt, h)
speaks_disk S c _ s h = (tt, h)

commanded_none : (s : Scene) (n d : ℕ) (o : Option Device) (q : PrCommand) → NoDisk s.moments → NoDisk (commanded_at s n d o q).scene.moments
commanded_none s n d None q h = h
commanded_none s n d (Some x) q h = h

commanded_so : (S : Setting) (s : Scene) (n d : ℕ) (o : Option Device) (q : PrCommand) → AllDisk S s.moments → AllDisk S (commanded_at s n d o q).scene.moments
commanded_so S s n d None q h = h
commanded_so S s n d (Some x) q h = h

happening_disk : (h : Header) → Run h → (cells : ℕ) (d : Due) (s : Scene) (x : Happening) → MayHappen (first_cluster h) s x → IsDue s d x → At h cells d s → nat_lt s.links.next (2 ^ 63) ≡ true → Fresh s.moments d.wants
    → AllDisk (setting_of h) s.moments → AllDisk (setting_of h) (happened (first_cluster h) s x).moments
happening_disk h b cells d s (Speaks e) may is r left fresh so = speaks_disk (setting_of h) (first_cluster h) e s so
happening_disk h b cells d s (Begins e) may is r left fresh so = (tt, so)
happening_disk h b cells d s (Notes e) may is r left fresh so = (tt, so)
happening_disk h b cells d s (Takes n now ends i) may is r left fresh so = takes_disk h b cells d s n now ends i may is r left fresh so
happening_disk h b cells d s (Arrives number x m now ends) may is r left fresh so =
    let c : Cluster = first_cluster h in
    let i : Input = input.Packet x.from m in
    let t : Scene = telling (entry.Packet (packet.Delivered number x.from x.to)) (removed s number) in
    other_disk (setting_of h) x.to (given_by c x.to now ends i t.nodes) (record t { nodes = moved c t.nodes (Takes_in x.to now ends i) }) (delivery_none s.links.packets number (under_way s.moments) may.6) (tt, so)
happening_disk h b cells d s (Strays number x) may is r left fresh so = (tt, so)
happening_disk h b cells d s (Misses number x) may is r left fresh so = (tt, so)
happening_disk h b cells d s (Loses number x) may is r left fresh so = (tt, so)
happening_disk h b cells d s (Repeats number x) may is r left fresh so =
    let o : net.Outcome = sending s.links x.from x.to x.bytes in
    dropped_disk (setting_of h) o.sent.dropped (telling (entry.Packet (packet.Repeated number s.links.next)) (with_links s o.after)) (tt, so)
happening_disk h b cells d s (Commands n e q now ends) may is r left fresh so =
    answers h b cells d s n e now q ends (slice_get s.devices (e - 1)) r left may.0.1 may.5
    (λ x at replies v. coordinator_idle h cells b d s n e now q ends x replies v may r left at) so
happening_disk h b cells d s (Writes n e value now ends) may is r left fresh so =
    let c : Cluster = first_cluster h in
    let o : Option Device = slice_get s.devices (e - 1) in
    let q : PrCommand = command.Write value in
    let z : Scene = (commanded s n e q).scene in
    let i : Input = input.Wrote e value (commanded s n e q).answer in
    other_disk (setting_of h) n (given_by c n now ends i z.nodes) (record z { nodes = moved c z.nodes (Takes_in n now ends i) }) (commanded_none s n e o q (no_disk s.moments (event.Write n e value) refl may.4))
    (commanded_so (setting_of h) s n e o q so)
happening_disk h b cells d s (Refuses n e value why) may is r left fresh so = (tt, so)

-- ---- the run

run_on : (h : Header) → Run h → (cells : ℕ) (hs : List Happening) (s : Scene) (d last : Due) → MayAllHappen (first_cluster h) s hs → ShapedFrom (first_cluster h) s d hs last → NoneForeign (first_cluster h) s hs
    → AllByRecursion (BootsInHeader h) hs → nat_lt (all_happened (first_cluster h) s hs).links.next (2 ^ 63) ≡ true → At h cells d s → Fresh s.moments d.wants → AllDisk (setting_of h) s.moments → AllDisk (setting_of h) (all_happened (first_cluster h) s hs).moments
run_on h b cells [] s d last may shaped native boots left r fresh so = so
run_on h b cells (x ∷ hs) s d last may shaped native boots left r fresh so =
    let c : Cluster = first_cluster h in
    let t : Scene = happened c s x in
    run_on h b cells hs t (due_after c t d x) last may.1 shaped.1 native.1 boots.1 left (one_more c (first_scene h cells) d s x r may.0 shaped.0 native.0 boots.0) (next_fresh c s d.wants d.rounds x fresh)
    (happening_disk h b cells d s x may.0 shaped.0 r (left_before s.links.next (all_happened c t hs).links.next (all_next c s (x ∷ hs)) left) fresh so)

first_disk : (S : Setting) (h : Header) (cells : ℕ) → AllDisk S (first_scene h cells).moments
unfolding first_scene
first_disk S h cells = tt

pub disk_stops_from : QueuesAreTold → CommandsAreIdle → DiskStopsOfEachRun
disk_stops_from queues idle h cells hs last nodes few small disks may shaped native boots left =
    run_on h (record { queues = queues; idle = idle; few_nodes = nodes; few = few; small = small; disks = disks }) cells hs (first_scene h cells) nothing last may shaped native boots left
    (first_before (first_cluster h) (first_scene h cells)) tt (first_disk (setting_of h) h cells)
