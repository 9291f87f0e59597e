-- In each run a node stops in a tick only where the rules let it save.
use Rattle.std.specs.Prelude.{ℕ, ◌^◌, ◌≡◌, ◌≤◌, ◌<◌, ◌-◌, Bool, true, false, List, [], ◌∷◌, length, Option, None, Some, slice_get}
use Rattle.std.specs.List.{AllByRecursion}
use Rattle.std.proofs.Common.{refl, sym, ap, subst, ◌∙◌}
use Rattle.cl_base.specs.Limits.{most_devices, most_nodes}
use Rattle.cl_base.specs.declared.header.Header.{Header}
use Rattle.cl_base.specs.declared.method.Outcome as method
use Rattle.cmm_attempt.proofs.Basics.{false_true, same_number}
use Rattle.history.specs.Moment.{Moment, Said}
use Rattle.history.specs.Order.{Always, so_far, under_way}
use Rattle.history.specs.Saves.{may_save}
use Rattle.history.specs.Setting.{Setting}
use Rattle.history.specs.Trace.{stopped}
use Rattle.history_setting.specs.Settings.{setting_of}
use Rattle.interconnect.specs.Links as net
use Rattle.interconnect.specs.Links.{Packet, sending}
use Rattle.node_model.specs.Steps.{stepped}
use Rattle.node_model.specs.declared.cluster.Cluster.{Cluster}
use Rattle.node_model.specs.declared.input.Input.{Input}
use Rattle.node_model.specs.declared.input.Input.TheVariants as input
use Rattle.node_model.specs.declared.node.Node.{Node}
use Rattle.node_model.specs.declared.node.Node.TheVariants.{Down, Up}
use Rattle.pgr_device.specs.Device.{Device}
use Rattle.pgr_device.specs.declared.command.PrCommand.{PrCommand}
use Rattle.pgr_device.specs.declared.command.PrCommand.TheVariants as command
use Rattle.refinement.specs.Runs.{Nodes, moved}
use Rattle.refinement.specs.Runs.Move.{Takes as Takes_in}
use Rattle.refinement.specs.Steps.{disk_rules}
use Rattle.schedule_text.specs.declared.event.Event.{Event}
use Rattle.schedule_text.specs.declared.event.Event.TheVariants as event
use Rattle.schedule_text.specs.declared.line.Line.TheVariants as line
use Rattle.status_report.specs.declared.entry.Entry.TheVariants as entry
use Rattle.status_report.specs.declared.packet_entry.PacketEntry.TheVariants as packet
use Rattle.world_model.specs.First.{first_cluster}
use Rattle.run_history.specs.Bringing.{IsBrought, IsDelivery}
use Rattle.run_history.specs.Happenings.{Arrives, Begins, Commands, Happening, IsPlain, Loses, MayAllHappen, MayHappen, Misses, Notes, Refuses, Repeats, Speaks, Strays, Takes, Writes, all_happened, armed_by, commanded, commanded_at, given_by, happened, removed, taking}
use Rattle.run_history.specs.Scenes.{Scene, adding, first_scene, passing, telling, with_links}
use Rattle.run_packets.specs.admitted.Laws.{AttemptsBeginAsWanted}
use Rattle.run_downs.proofs.Promised.{known_at}
use Rattle.run_downs.proofs.Runs.{saves_of_each_run}
use Rattle.run_downs.specs.Laws.{SavesInEvent, is_of}
use Rattle.run_packets.specs.native.Laws.{BootsInHeader}
use Rattle.run_messages.proofs.Reaching.{IsReached}
use Rattle.run_outcomes.proofs.saves.Kept.{run_kept}
use Rattle.run_outcomes.specs.saves.Kept.{IsAt, KeptIn, Rests}
use Rattle.run_outcomes.specs.stops.Known.{AllStop, OwnStops, Traced}
use Rattle.run_outcomes.specs.stops.Laws.{TickStops, TickStopsOfEachRun, is_tick}
use Rattle.run_outcomes.proofs.stops.Behind.{NoTick, dropped_stop, other_stop}
use Rattle.run_outcomes.proofs.stops.Steps.{tick_stop}
use Rattle.run_outcomes.proofs.stops.Traces.{first_traced, traced_more}

-- ---- another event

is_tick_input : Input → Bool
is_tick_input input.Tick = true
is_tick_input _ = false

no_tick : (ms : List Moment) (e : Event) → is_tick (Some e) ≡ false → under_way ms ≡ Some e → NoTick ms
no_tick ms e other way n is = false_true (sym other ∙ (ap is_tick (sym way) ∙ ap is_tick is))

-- it is another that brings this
brought_none : (ms : List Moment) (n : ℕ) (i : Input) → IsPlain i → (i ≡ input.Tick → ⊥) → IsBrought (under_way ms) n i → NoTick ms
brought_none ms n input.Boot plain other is = no_tick ms (event.Boot n) refl is
brought_none ms n input.Crash plain other is = no_tick ms (event.Crash n) refl is
brought_none ms n input.Tick plain other is = absurd (other refl)
brought_none ms n input.CommandDue plain other is = no_tick ms (event.Disk n) refl is
brought_none ms n (input.Commanded words) plain other is = no_tick ms (event.Command n words) refl is
brought_none ms n (input.Reported r good) plain other is = no_tick ms (event.Probe n r good) refl is
brought_none ms n (input.Client address client port) plain other is = no_tick ms (event.Client n address client port) refl is
brought_none ms n (input.Packet from m) plain other is = absurd plain
brought_none ms n (input.Answered a) plain other is = absurd plain
brought_none ms n (input.Wrote d value a) plain other is = absurd plain

delivery_other : (packets : List Packet) (number : ℕ) (e : Option Event) → IsDelivery packets number e → is_tick e ≡ false
delivery_other packets number (Some (event.Deliver k)) h = refl
delivery_other packets number (Some (event.Next from to)) h = refl
delivery_other packets number _ h = absurd h

commanded_none : (s : Scene) (n d : ℕ) (o : Option Device) (q : PrCommand) → NoTick s.moments → NoTick (commanded_at s n d o q).scene.moments
commanded_none s n d None q h = h
commanded_none s n d (Some x) q h = h

commanded_so : (S : Setting) (s : Scene) (n d : ℕ) (o : Option Device) (q : PrCommand) → AllStop S s.moments → AllStop S (commanded_at s n d o q).scene.moments
commanded_so S s n d None q h = h
commanded_so S s n d (Some x) q h = h

speaks_so : (S : Setting) (c : Cluster) (e : Event) (s : Scene) → AllStop S s.moments → AllStop S (armed_by c e (adding (Said (line.Event e)) s)).moments
speaks_so S c (event.CrashAt n calls choice) s h = (tt, h)
speaks_so S c (event.Fault n d done) s h = (tt, h)
speaks_so S c _ s h = (tt, h)

-- ---- each thing that happens

record Here (h : Header) (cells : ℕ) (s : Scene) : Type 0 where
  nodes : h.nodes ≤ most_nodes
  few : length h.devices ≤ most_devices
  small : h.cluster < 2 ^ 32
  traced : Traced h cells s

reached : (h : Header) (cells : ℕ) (s : Scene) → Traced h cells s → IsReached h cells s
reached h cells s t = record { happenings = t.happenings; may = t.may; is = t.is }

ticking : AttemptsBeginAsWanted → (h : Header) (cells : ℕ) (s : Scene) (n now : ℕ) (ends : method.Outcome) → MayHappen (first_cluster h) s (Takes n now ends input.Tick) → Here h cells s → AllStop (setting_of h) s.moments
    → AllStop (setting_of h) (taking (first_cluster h) n now ends input.Tick s).moments
ticking law h cells s n now ends may b so = by_node (s.nodes.node n) refl
  where
    c : Cluster
    c = first_cluster h

    S : Setting
    S = setting_of h

    v : Nodes
    v = moved c s.nodes (Takes_in n now ends input.Tick)

    by_node : (node : Node) → s.nodes.node n ≡ node → AllStop S (passing n (stepped disk_rules c n now ends (s.nodes.node n) (s.nodes.disk n) input.Tick).given (record s { nodes = v })).moments
    by_node Down at = subst (λ w. AllStop S (passing n (stepped disk_rules c n now ends w (s.nodes.disk n) input.Tick).given (record s { nodes = v })).moments) (sym at) so
    by_node (Up x) at =
        subst (λ w. AllStop S (passing n (stepped disk_rules c n now ends w (s.nodes.disk n) input.Tick).given (record s { nodes = v })).moments) (sym at)
        (tick_stop law h cells s n now ends x v may.2 (record {
          nodes = b.nodes;
          few = b.few;
          small = b.small;
          traced = b.traced;
          at = at;
          known = known_at h cells s b.few b.small (reached h cells s b.traced);
          rests = subst (IsAt Rests) at ((subst KeptIn b.traced.is (run_kept h cells b.traced.happenings b.few b.small b.traced.may)).rests n);
          is_node = may.0;
          way = may.5;
        }) so)

takes_stop : AttemptsBeginAsWanted → (h : Header) (cells : ℕ) (s : Scene) (n now : ℕ) (ends : method.Outcome) (i : Input) → MayHappen (first_cluster h) s (Takes n now ends i) → Here h cells s → AllStop (setting_of h) s.moments
    → AllStop (setting_of h) (taking (first_cluster h) n now ends i s).moments
unfolding is_tick_input
takes_stop law h cells s n now ends i may b so = by_input i may
  where
    c : Cluster
    c = first_cluster h

    other : (i : Input) → MayHappen c s (Takes n now ends i) → (i ≡ input.Tick → ⊥) → AllStop (setting_of h) (taking c n now ends i s).moments
    other i may ne = other_stop (setting_of h) n (given_by c n now ends i s.nodes) (record s { nodes = moved c s.nodes (Takes_in n now ends i) }) (brought_none s.moments n i may.1 ne may.5) so

    by_input : (i : Input) → MayHappen c s (Takes n now ends i) → AllStop (setting_of h) (taking c n now ends i s).moments
    by_input input.Tick may = ticking law h cells s n now ends may b so
    by_input input.Boot may = other input.Boot may (λ e. false_true (ap is_tick_input e))
    by_input input.Crash may = other input.Crash may (λ e. false_true (ap is_tick_input e))
    by_input input.CommandDue may = other input.CommandDue may (λ e. false_true (ap is_tick_input e))
    by_input (input.Commanded words) may = other (input.Commanded words) may (λ e. false_true (ap is_tick_input e))
    by_input (input.Reported r good) may = other (input.Reported r good) may (λ e. false_true (ap is_tick_input e))
    by_input (input.Client address client port) may = other (input.Client address client port) may (λ e. false_true (ap is_tick_input e))
    by_input (input.Packet from m) may = absurd may.1
    by_input (input.Answered a) may = absurd may.1
    by_input (input.Wrote d value a) may = absurd may.1

happening_stop : AttemptsBeginAsWanted → (h : Header) (cells : ℕ) (s : Scene) (x : Happening) → MayHappen (first_cluster h) s x → Here h cells s → AllStop (setting_of h) s.moments → AllStop (setting_of h) (happened (first_cluster h) s x).moments
happening_stop law h cells s (Speaks e) may b so = speaks_so (setting_of h) (first_cluster h) e s so
happening_stop law h cells s (Begins e) may b so = (tt, so)
happening_stop law h cells s (Notes e) may b so = (tt, so)
happening_stop law h cells s (Takes n now ends i) may b so = takes_stop law h cells s n now ends i may b so
happening_stop law h cells s (Arrives number x m now ends) may b so =
    let c : Cluster = first_cluster h in
    let i : Input = input.Packet x.from m in
    let t : Scene = telling (entry.Packet (packet.Delivered number x.from x.to)) (removed s number) in
    other_stop (setting_of h) x.to (given_by c x.to now ends i t.nodes) (record t { nodes = moved c t.nodes (Takes_in x.to now ends i) })
    (λ n is. false_true (sym (delivery_other s.links.packets number (under_way s.moments) may.6) ∙ ap is_tick is)) (tt, so)
happening_stop law h cells s (Strays number x) may b so = (tt, so)
happening_stop law h cells s (Misses number x) may b so = (tt, so)
happening_stop law h cells s (Loses number x) may b so = (tt, so)
happening_stop law h cells s (Repeats number x) may b so =
    let o : net.Outcome = sending s.links x.from x.to x.bytes in
    dropped_stop (setting_of h) o.sent.dropped (telling (entry.Packet (packet.Repeated number s.links.next)) (with_links s o.after)) (tt, so)
happening_stop law h cells s (Commands n d q now ends) may b so =
    let c : Cluster = first_cluster h in
    let o : Option Device = slice_get s.devices (d - 1) in
    let z : Scene = (commanded s n d q).scene in
    let i : Input = input.Answered (commanded s n d q).answer in
    other_stop (setting_of h) n (given_by c n now ends i z.nodes) (record z { nodes = moved c z.nodes (Takes_in n now ends i) }) (commanded_none s n d o q (no_tick s.moments (event.Disk n) refl may.5)) (commanded_so (setting_of h) s n d o q so)
happening_stop law h cells s (Writes n d value now ends) may b so =
    let c : Cluster = first_cluster h in
    let o : Option Device = slice_get s.devices (d - 1) in
    let q : PrCommand = command.Write value in
    let z : Scene = (commanded s n d q).scene in
    let i : Input = input.Wrote d value (commanded s n d q).answer in
    other_stop (setting_of h) n (given_by c n now ends i z.nodes) (record z { nodes = moved c z.nodes (Takes_in n now ends i) }) (commanded_none s n d o q (no_tick s.moments (event.Write n d value) refl may.4)) (commanded_so (setting_of h) s n d o q so)
happening_stop law h cells s (Refuses n d value why) may b so = (tt, so)

-- ---- runs

run_on : AttemptsBeginAsWanted → (h : Header) (cells : ℕ) (s : Scene) (hs : List Happening) → Here h cells s → MayAllHappen (first_cluster h) s hs → AllByRecursion (BootsInHeader h) hs → AllStop (setting_of h) s.moments
    → AllStop (setting_of h) (all_happened (first_cluster h) s hs).moments
run_on law h cells s [] b may boots so = so
run_on law h cells s (x ∷ hs) b may boots so =
    run_on law h cells (happened (first_cluster h) s x) hs (record { nodes = b.nodes; few = b.few; small = b.small; traced = traced_more h cells s x b.traced may.0 boots.0 }) may.1 boots.1
    (happening_stop law h cells s x may.0 b so)

first_stop : (S : Setting) (h : Header) (cells : ℕ) → AllStop S (first_scene h cells).moments
unfolding first_scene
first_stop S h cells = tt

-- ---- the law

by_event : (S : Setting) (n : ℕ) (ms : List Moment) (e : Option Event) → under_way ms ≡ e → is_of n e (so_far ms) ≡ true → OwnStops S ms (stopped n) → is_tick e ≡ true → may_save S n ms ≡ true
by_event S n ms (Some (event.Tick m)) way own so tick = so (way ∙ ap (λ k. Some (event.Tick k)) (same_number m n own))
by_event S n ms _ way own so tick = absurd (false_true tick)

one : (S : Setting) (ms : List Moment) (x : Moment) → OwnStops S ms x → SavesInEvent ms x → TickStops S ms x
one S ms (stopped n) so own = λ tick. by_event S n ms (under_way ms) refl own so tick
one S ms _ so own = tt

each : (S : Setting) (ms : List Moment) → AllStop S ms → Always SavesInEvent ms → Always (TickStops S) ms
each S [] so own = tt
each S (x ∷ ms) so own = (one S ms x so.0 own.0, each S ms so.1 own.1)

pub tick_stops_of_each_run : AttemptsBeginAsWanted → TickStopsOfEachRun
tick_stops_of_each_run law h cells hs nodes few small may boots =
    each (setting_of h) _
    (run_on law h cells (first_scene h cells) hs (record { nodes = nodes; few = few; small = small; traced = first_traced h cells }) may boots (first_stop (setting_of h) h cells))
    (saves_of_each_run h cells hs few small may)
