-- Each thing that happens leaves each stop armed as the lines leave it; so does each run.
use Rattle.std.specs.Prelude.{ℕ, ◌-◌, ◌==◌, ◌≡◌, ◌≢◌, ◌⊎◌, ◌||◌, Bool, true, false, List, [], ◌∷◌, Option, None, Some, slice_get}
use Rattle.std.specs.List.{list_any}
use Rattle.std.proofs.Common.{refl, sym, ap, subst, ◌∙◌, arith, inl, inr}
use Rattle.cl_base.specs.declared.header.Header.{Header}
use Rattle.cl_base.specs.declared.method.Outcome as method
use Rattle.cl_base.specs.declared.packet.DropCause.TheVariants as drop
use Rattle.cmm_attempt.proofs.Basics.{same_some}
use Rattle.history.specs.Downs.{calls_left, stops_here, stops_next}
use Rattle.history.specs.Moment.{Moment, Part, Said, Told}
use Rattle.history.specs.Order.{Always, so_far, under_way}
use Rattle.interconnect.specs.Links as links
use Rattle.interconnect.specs.Links.{Packet, sending}
use Rattle.machine_base.specs.Put.{put}
use Rattle.machine_base.proofs.Puts.{put_here, put_there, same_or_not}
use Rattle.node_model.specs.declared.cluster.Cluster.{Cluster}
use Rattle.node_model.specs.declared.input.Input.{Input}
use Rattle.node_model.specs.declared.input.Input.TheVariants as input
use Rattle.node_model.specs.Steps.{Outcome, stepped}
use Rattle.pgr_device.specs.Device.{Device}
use Rattle.pgr_device.specs.declared.command.PrCommand.{PrCommand}
use Rattle.pgr_device.specs.declared.command.PrCommand.TheVariants as command
use Rattle.record_disk.specs.Disks.{DiskState, armed}
use Rattle.refinement.specs.Runs.{Nodes, moved}
use Rattle.refinement.specs.Runs.Move.{Takes as Takes_in}
use Rattle.refinement.specs.Steps.{disk_rules}
use Rattle.schedule_text.specs.declared.event.Event.{Event}
use Rattle.schedule_text.specs.declared.event.Event.TheVariants as event
use Rattle.schedule_text.specs.declared.line.Line.TheVariants as line
use Rattle.status_report.specs.declared.device_entry.DeviceEntry.TheVariants as device
use Rattle.status_report.specs.declared.entry.Entry.TheVariants as entry
use Rattle.status_report.specs.declared.node_entry.NodeEntry.TheVariants as note
use Rattle.status_report.specs.declared.packet_entry.PacketEntry.{PacketEntry}
use Rattle.status_report.specs.declared.packet_entry.PacketEntry.TheVariants as packet
use Rattle.world_model.specs.First.{first_cluster}
use Rattle.world_model.specs.Lines.{left_by}
use Rattle.run_history.specs.Bringing.{IsBrought, IsDelivery}
use Rattle.run_history.specs.Happenings.{Arrives, Begins, Commands, Happening, IsPlain, Loses, MayAllHappen, MayHappen, Misses, Notes, Refuses, Repeats, Speaks, Strays, Takes, Writes, all_happened, armed_by, commanded, commanded_at, happened, removed, taking}
use Rattle.run_history.specs.Scenes.{Scene, adding, dropped_so, first_scene, passing, telling, with_links}
use Rattle.run_history.proofs.Idle.{if_false, if_true, passing_nodes}
use Rattle.run_history.proofs.Reached.{kept_holds}
use Rattle.run_downs.proofs.Lines.{Stays, none_comes, packet_stays, stays_by}
use Rattle.run_downs.proofs.Steps.{AtEvent, step_passed}
use Rattle.run_downs.specs.Calls.{AreArmed, GoesSo, Passed, calls_in}
use Rattle.run_downs.specs.Laws.{BootIsSaid, BootsOfEachRun, CrashIsSaid, CrashesOfEachRun, FencedByWrite, FencesOfEachRun, IsInOwnEvent, NoStopIsDue, SavesInEvent, SavesOfEachRun, StopComes, StopsAtStop, StopsComeInEachRun, StopsOfEachRun, comes_to, is_of}

-- ---- what says nothing of stops

stays_armed : (s t : Scene) → t.nodes ≡ s.nodes → Stays s.moments t.moments → AreArmed s → AreArmed t
stays_armed s t nodes stays h = record {
  calls = λ n. stays.calls n ∙ (h.calls n ∙ ap (λ (v : Nodes). calls_in (v.disk n).stop) (sym nodes));
  due = stays.due h.due;
  so = stays.so h.due h.so;
}

packet_armed : (e : PacketEntry) (s t : Scene) → t.nodes ≡ s.nodes → t.moments ≡ Told (entry.Packet e) ∷ s.moments → AreArmed s → AreArmed t
packet_armed e s t nodes moments h = stays_armed s t nodes (subst (Stays s.moments) (sym moments) (packet_stays e s.moments)) h

dropped_armed : (o : _) (s : Scene) → AreArmed s → AreArmed (dropped_so o s)
dropped_armed None s h = h
dropped_armed (Some x) s h = packet_armed (packet.Dropped x.0 x.1) s (dropped_so (Some x) s) refl refl h

-- ---- a line

said_stays : (e : Event) (ms : List Moment) → ((j : ℕ) → calls_left j (Said (line.Event e) ∷ ms) ≡ calls_left j ms) → Stays ms (Said (line.Event e) ∷ ms)
said_stays e ms same = stays_by (Said (line.Event e)) ms (λ c. record { boots = tt; crashes = tt; fences = tt; stops = tt; saves = tt; comes = c }) same refl (λ j. refl)

same_number : (m n : ℕ) → m ≡ n → (n == m) ≡ true
same_number m n e = grind arith

other_number : (j n : ℕ) → j ≢ n → (n == j) ≡ false
other_number j n ne = grind arith

speaks_armed : (c : Cluster) (e : Event) (s : Scene) → AreArmed s → AreArmed (armed_by c e (adding (Said (line.Event e)) s))
speaks_armed c (event.CrashAt n calls choice) s h = record {
  calls = λ j. by_node j (same_or_not j n);
  due = refl;
  so = (record { boots = tt; crashes = tt; fences = tt; stops = tt; saves = tt; comes = none_comes s.moments (Said (line.Event (event.CrashAt n calls choice))) h.due }, h.so);
}
  where
    disk : DiskState
    disk = armed (s.nodes.disk n) calls (left_by choice)

    by_node : (j : ℕ) → (j ≡ n) ⊎ (j ≢ n) → calls_left j (Said (line.Event (event.CrashAt n calls choice)) ∷ s.moments) ≡ calls_in (put s.nodes.disk n disk j).stop
    by_node j (inl e) =
        if_true (n == j) (Some calls) (calls_left j s.moments) (same_number j n e)
        ∙ ap (λ (d : DiskState). calls_in d.stop) (sym (ap (λ m. put s.nodes.disk n disk m) e ∙ put_here s.nodes.disk n disk))
    by_node j (inr ne) =
        if_false (n == j) (Some calls) (calls_left j s.moments) (other_number j n ne)
        ∙ (h.calls j ∙ ap (λ (d : DiskState). calls_in d.stop) (sym (put_there s.nodes.disk n disk j ne)))
speaks_armed c (event.Fault n d done) s h = stays_armed s _ refl (said_stays (event.Fault n d done) s.moments (λ j. refl)) h
speaks_armed c _ s h = stays_armed s _ refl (said_stays _ s.moments (λ j. refl)) h

-- ---- a node takes something

taking_armed : (c : Cluster) (n now : ℕ) (ends : method.Outcome) (i : Input) (s : Scene) → AtEvent i n s.moments → AreArmed s → AreArmed (taking c n now ends i s)
taking_armed c n now ends i s at h = record { calls = λ j. subst (λ (v : Nodes). calls_left j ms ≡ calls_in (v.disk j).stop) (sym (passing_nodes n o.given t)) (by_node j (same_or_not j n)); due = p.due; so = p.so }
  where
    o : Outcome DiskState
    o = stepped disk_rules c n now ends (s.nodes.node n) (s.nodes.disk n) i

    t : Scene
    t = record s { nodes = moved c s.nodes (Takes_in n now ends i) }

    ms : List Moment
    ms = (passing n o.given t).moments

    p : Passed n (calls_in o.disk.stop) s.moments ms
    p = step_passed c n now ends i (s.nodes.node n) (s.nodes.disk n) t at (h.calls n) h.due h.so

    by_node : (j : ℕ) → (j ≡ n) ⊎ (j ≢ n) → calls_left j ms ≡ calls_in (put s.nodes.disk n o.disk j).stop
    by_node j (inl e) =
        ap (λ m. calls_left m ms) e ∙ (p.left ∙ ap (λ (d : DiskState). calls_in d.stop) (sym (ap (λ m. put s.nodes.disk n o.disk m) e ∙ put_here s.nodes.disk n o.disk)))
    by_node j (inr ne) = p.others j ne ∙ (h.calls j ∙ ap (λ (d : DiskState). calls_in d.stop) (sym (put_there s.nodes.disk n o.disk j ne)))

-- ---- the event under way

abbrev NoBoot : Event → Type 0
NoBoot (event.Boot n) = ⊥
NoBoot _ = Unit {0}

-- where no boot is under way no node has just come up
not_up : (n : ℕ) (ms : List Moment) (e : Event) → under_way ms ≡ Some e → NoBoot e → Always GoesSo ms → stops_here n ms ≡ stops_next n ms
not_up n [] e is other so = refl
not_up n (Said l ∷ ms) e is other so = refl
not_up n (Part p ∷ ms) e is other so = refl
not_up n (Told (entry.Node m note.Up) ∷ ms) e is other so = absurd (subst NoBoot (sym (same_some (event.Boot m) e (sym so.0.boots ∙ is))) other)
not_up n (Told _ ∷ ms) e is other so = refl

own_by : (n : ℕ) (e : Event) (ms : List Moment) → under_way ms ≡ Some e → is_of n (Some e) (so_far ms) ≡ true → IsInOwnEvent n ms
own_by n e ms is own = subst (λ o. is_of n o (so_far ms) ≡ true) (sym is) own

at_event : (n : ℕ) (i : Input) (ms : List Moment) → IsPlain i → IsBrought (under_way ms) n i → Always GoesSo ms → AtEvent i n ms
at_event n input.Boot ms plain is so = is
at_event n input.Crash ms plain is so = is
at_event n input.Tick ms plain is so = (not_up n ms (event.Tick n) is tt so, own_by n (event.Tick n) ms is (same_number n n refl))
at_event n input.CommandDue ms plain is so = (not_up n ms (event.Disk n) is tt so, own_by n (event.Disk n) ms is (same_number n n refl))
at_event n (input.Commanded words) ms plain is so = (not_up n ms (event.Command n words) is tt so, own_by n (event.Command n words) ms is (same_number n n refl))
at_event n (input.Reported r good) ms plain is so = (not_up n ms (event.Probe n r good) is tt so, own_by n (event.Probe n r good) ms is (same_number n n refl))
at_event n (input.Client address client port) ms plain is so = not_up n ms (event.Client n address client port) is tt so
at_event n (input.Packet from m) ms plain is so = absurd plain
at_event n (input.Answered a) ms plain is so = absurd plain
at_event n (input.Wrote d value a) ms plain is so = absurd plain

first_true : (a b : Bool) → a ≡ true → (a || b) ≡ true
first_true true b h = refl
first_true false b h = cc

-- the delivery of a packet is an event of the node to which it goes
delivery_own : (packets : List Packet) (number n : ℕ) (e : Option Event) (x : Moment) (here : List Moment) → IsDelivery packets number e → comes_to n x ≡ true → is_of n e (x ∷ here) ≡ true
delivery_own packets number n (Some (event.Deliver k)) x here is to = first_true (comes_to n x) (list_any (comes_to n) here) to
delivery_own packets number n (Some (event.Next from at)) x here is to = first_true (comes_to n x) (list_any (comes_to n) here) to
delivery_own packets number n _ x here is to = absurd is

-- ---- a command at a device

commanded_armed : (s : Scene) (n d : ℕ) (o : Option Device) (k : PrCommand) → AreArmed s → AreArmed (commanded_at s n d o k).scene
commanded_armed s n d None k h = h
commanded_armed s n d (Some x) k h = record { calls = h.calls; due = h.due; so = h.so }

commanded_own : (s : Scene) (n d j : ℕ) (o : Option Device) (k : PrCommand) → IsInOwnEvent j s.moments → IsInOwnEvent j (commanded_at s n d o k).scene.moments
commanded_own s n d j None k h = h
commanded_own s n d j (Some x) k h = h

commanded_under : (s : Scene) (n d j : ℕ) (o : Option Device) (k : PrCommand) (e : Event) → under_way s.moments ≡ Some e → NoBoot e → Always GoesSo s.moments
    → stops_here j (commanded_at s n d o k).scene.moments ≡ stops_next j (commanded_at s n d o k).scene.moments
commanded_under s n d j None k e is other so = not_up j s.moments e is other so
commanded_under s n d j (Some x) k e is other so = not_up j s.moments e is other so

-- ---- each thing that happens

happening_armed : (c : Cluster) (s : Scene) (x : Happening) → MayHappen c s x → AreArmed s → AreArmed (happened c s x)
happening_armed c s (Speaks e) may h = speaks_armed c e s h
happening_armed c s (Begins e) may h =
    stays_armed s (adding (Part e) s) refl (stays_by (Part e) s.moments (λ k. record { boots = tt; crashes = tt; fences = tt; stops = tt; saves = tt; comes = k }) (λ j. refl) refl (λ j. refl)) h
happening_armed c s (Notes e) may h =
    stays_armed s (telling (entry.Schedule e) s) refl
    (stays_by (Told (entry.Schedule e)) s.moments (λ k. record { boots = tt; crashes = tt; fences = tt; stops = tt; saves = tt; comes = k }) (λ j. refl) refl (λ j. refl)) h
happening_armed c s (Takes n now ends i) may h = taking_armed c n now ends i s (at_event n i s.moments may.1 may.5 h.so) h
happening_armed c s (Arrives number x m now ends) may h =
    let e : PacketEntry = packet.Delivered number x.from x.to in
    let t : Scene = telling (entry.Packet e) (removed s number) in
    taking_armed c x.to now ends (input.Packet x.from m) t
    (refl, delivery_own s.links.packets number x.to (under_way s.moments) (Told (entry.Packet e)) (so_far s.moments) may.6 (same_number x.to x.to refl)) (packet_armed e s t refl refl h)
happening_armed c s (Strays number x) may h = packet_armed (packet.Delivered number x.from x.to) s _ refl refl h
happening_armed c s (Misses number x) may h = packet_armed (packet.Dropped number drop.Down) s _ refl refl h
happening_armed c s (Loses number x) may h = packet_armed (packet.Lost number) s _ refl refl h
happening_armed c s (Repeats number x) may h =
    let o : links.Outcome = sending s.links x.from x.to x.bytes in
    let e : PacketEntry = packet.Repeated number s.links.next in
    let t : Scene = telling (entry.Packet e) (with_links s o.after) in
    dropped_armed o.sent.dropped t (packet_armed e s t refl refl h)
happening_armed c s (Commands n d k now ends) may h =
    let o : Option Device = slice_get s.devices (d - 1) in
    taking_armed c n now ends (input.Answered (commanded s n d k).answer) (commanded s n d k).scene
    (commanded_under s n d n o k (event.Disk n) may.5 tt h.so, commanded_own s n d n o k (own_by n (event.Disk n) s.moments may.5 (same_number n n refl))) (commanded_armed s n d o k h)
happening_armed c s (Writes n d value now ends) may h =
    let o : Option Device = slice_get s.devices (d - 1) in
    let k : PrCommand = command.Write value in
    taking_armed c n now ends (input.Wrote d value (commanded s n d k).answer) (commanded s n d k).scene (commanded_under s n d n o k (event.Write n d value) may.4 tt h.so) (commanded_armed s n d o k h)
happening_armed c s (Refuses n d value why) may h =
    let e : _ = entry.Device (device.Refused n d value why) in
    stays_armed s (telling e s) refl (stays_by (Told e) s.moments (λ k. record { boots = tt; crashes = tt; fences = tt; stops = tt; saves = tt; comes = k }) (λ j. refl) refl (λ j. refl)) h

-- ---- runs

first_armed : (h : Header) (cells : ℕ) → AreArmed (first_scene h cells)
unfolding first_scene
first_armed h cells = record { calls = λ n. refl; due = refl; so = tt }

run_armed : (h : Header) (cells : ℕ) (hs : List Happening) → MayAllHappen (first_cluster h) (first_scene h cells) hs → AreArmed (all_happened (first_cluster h) (first_scene h cells) hs)
run_armed h cells hs may = kept_holds (first_cluster h) AreArmed (λ s x now a. happening_armed (first_cluster h) s x now a) (first_scene h cells) hs may (first_armed h cells)

always : (P Q : List Moment → Moment → Type 0) → ((before : List Moment) (x : Moment) → P before x → Q before x) → (ms : List Moment) → Always P ms → Always Q ms
always P Q f [] h = tt
always P Q f (x ∷ ms) h = (f ms x h.0, always P Q f ms h.1)

pub boots_of_each_run : BootsOfEachRun
boots_of_each_run h cells hs few small may = always GoesSo BootIsSaid (λ b x g. g.boots) _ (run_armed h cells hs may).so

pub crashes_of_each_run : CrashesOfEachRun
crashes_of_each_run h cells hs few small may = always GoesSo CrashIsSaid (λ b x g. g.crashes) _ (run_armed h cells hs may).so

pub fences_of_each_run : FencesOfEachRun
fences_of_each_run h cells hs few small may = always GoesSo FencedByWrite (λ b x g. g.fences) _ (run_armed h cells hs may).so

pub stops_of_each_run : StopsOfEachRun
stops_of_each_run h cells hs few small may = always GoesSo StopsAtStop (λ b x g. g.stops) _ (run_armed h cells hs may).so

pub saves_of_each_run : SavesOfEachRun
saves_of_each_run h cells hs few small may = always GoesSo SavesInEvent (λ b x g. g.saves) _ (run_armed h cells hs may).so

pub stops_come_in_each_run : StopsComeInEachRun
stops_come_in_each_run h cells hs few small may = always GoesSo StopComes (λ b x g. g.comes) _ (run_armed h cells hs may).so

pub no_stop_is_due : NoStopIsDue
no_stop_is_due h cells hs few small may = (run_armed h cells hs may).due
