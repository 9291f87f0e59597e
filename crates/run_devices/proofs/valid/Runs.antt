-- Each thing that happens leaves the seizers engaged, and so does each run.
use Rattle.std.specs.Prelude.{ℕ, ◌-◌, ◌≡◌, ◌≤◌, ◌<◌, ◌^◌, ◌⊎◌, List, [], ◌∷◌, length, None, Option, Some, is_ok, slice_get, true}
use Rattle.std.proofs.Common.{refl, sym, subst, ◌∙◌, inl, inr}
use Rattle.cl_base.specs.Limits.{most_devices}
use Rattle.cl_base.specs.declared.header.Header.{Header}
use Rattle.cl_base.specs.declared.method.Outcome as method
use Rattle.cl_base.specs.declared.packet.DropCause.TheVariants as drop
use Rattle.cluster_machine.proofs.Whole.{InOrder}
use Rattle.cluster_machine.specs.Cluster.{Cluster as Whole}
use Rattle.cluster_ties.proofs.First.{in_order}
use Rattle.cmm_attempt.proofs.Basics.{none_some}
use Rattle.interconnect.specs.Links.{sending}
use Rattle.pgr_device.specs.Device.{Device}
use Rattle.pgr_device.specs.declared.command.PrCommand.{PrCommand}
use Rattle.pgr_device.specs.declared.command.PrCommand.TheVariants as command
use Rattle.schedule_text.specs.declared.event.Event.{Event}
use Rattle.schedule_text.specs.declared.event.Event.TheVariants as event
use Rattle.schedule_text.specs.declared.line.Line.TheVariants as line
use Rattle.status_report.specs.declared.device_entry.DeviceEntry.TheVariants as device
use Rattle.status_report.specs.declared.entry.Entry.TheVariants as entry
use Rattle.status_report.specs.declared.packet_entry.PacketEntry.TheVariants as packet
use Rattle.history.specs.Moment.{Moment, Part, Said, Told}
use Rattle.history.specs.Seizing.{keys_seized}
use Rattle.node_model.specs.Devices.{answer_told, may_write_as}
use Rattle.node_model.specs.declared.cluster.Cluster.{Cluster}
use Rattle.node_model.specs.declared.input.Input.{Input}
use Rattle.node_model.specs.declared.input.Input.TheVariants as input
use Rattle.refinement.specs.Ties.{setting_of}
use Rattle.world_model.specs.First.{first_cluster}
use Rattle.run_history.proofs.DeedRuns.{runs_are_cut}
use Rattle.run_history.proofs.DevicesRun.{due_tells, packet_quiet, plain_quiet, write_tells}
use Rattle.run_history.proofs.LineSteps.{commands_are_told}
use Rattle.run_history.proofs.Reached.{Reached, reached_more}
use Rattle.run_history.proofs.WholeEachRun.{first_whole_so, happens}
use Rattle.run_history.proofs.WholeScenes.{Follows}
use Rattle.run_history.specs.CommandLines.{CommandFirst}
use Rattle.run_history.specs.Cuts.{Cuts, events_of}
use Rattle.run_history.specs.Happenings.{Commanded, Happening, MayAllHappen, MayHappen, all_happened, armed_by, commanded_at, given_by, happened, taking}
use Rattle.run_history.specs.Happenings.Happening.{Arrives, Begins, Commands, Loses, Misses, Notes, Refuses, Repeats, Speaks, Strays, Takes, Writes}
use Rattle.run_history.specs.Scenes.{Scene, adding, first_scene, passing, telling}
use Rattle.run_history.specs.Wholes.{IsWhole}
use Rattle.run_devices.proofs.readings.Runs.{run_reads}
use Rattle.run_devices.specs.readings.Sites.{IsReading}
use Rattle.run_devices.specs.valid.Engaged.{Engaged, SeizersEngaged}
use Rattle.run_devices.specs.valid.Laws.{OneSeizerInEachRun}
use Rattle.run_devices.proofs.valid.Dues.{due_engaged}
use Rattle.run_devices.proofs.valid.Lines.{Lasts, Newly, command_shows, dropped_lasts, passing_lasts, same_keys}
use Rattle.run_devices.proofs.valid.Machine.{engaged_stays, one_engaged}

-- ---- what is told as a thing happens

line_lasts : (h : Header) (W : Whole) → Lasts (SeizersEngaged h W)
line_lasts h W x ms none k = λ n e d keys is. k n e d keys (sym (same_keys h n e d x ms none) ∙ is)

armed_lasts : (P : List Moment → Type 0) (c : Cluster) (e : Event) (s : Scene) → P s.moments → P (armed_by c e s).moments
armed_lasts P c (event.CrashAt n calls choice) s k = k
armed_lasts P c (event.Fault n d done) s k = k
armed_lasts P c _ s k = k

-- what is known of a scene of a run
pub record Known (h : Header) (s : Scene) (w : IsWhole (first_cluster h) s) : Type 0 where
  pub order : InOrder (setting_of (first_cluster h)) w.machine
  pub reading : IsReading h s

-- the line of a command at a device
abbrev CommandTold : ℕ → ℕ → PrCommand → Commanded → Moment
CommandTold n d k z = Told (entry.Device (device.Command n d k (answer_told z.answer)))

-- a node's command at a device, and what it tells behind it
command_lasts : (P : List Moment → Type 0) → Lasts P → (c : Cluster) (s : Scene) (n d : ℕ) (k : PrCommand) (now : ℕ) (ends : method.Outcome) (o : Option Device) (f : Commanded → Input)
    → ((z : Commanded) → CommandFirst n d k z.answer (given_by c n now ends (f z) s.nodes)) → ((z : Commanded) → P (CommandTold n d k z ∷ s.moments))
    → P (taking c n now ends (f (commanded_at s n d o k)) (commanded_at s n d o k).scene).moments
command_lasts P lasts c s n d k now ends o f told shown = by_device o
  where
    behind : (z : Commanded) (t : Scene) → t.moments ≡ s.moments → P (passing n (given_by c n now ends (f z) s.nodes) t).moments
    behind z t same =
        let first : CommandFirst n d k z.answer (given_by c n now ends (f z) s.nodes) = told z in
        subst (λ os. P (passing n os t).moments) (sym first.first)
        (passing_lasts P lasts n first.others (telling (entry.Device (device.Command n d k (answer_told z.answer))) t) first.quiet
        (subst (λ ms. P (CommandTold n d k z ∷ ms)) (sym same) (shown z)))

    by_device : (o : Option Device) → P (taking c n now ends (f (commanded_at s n d o k)) (commanded_at s n d o k).scene).moments
    by_device None = behind (commanded_at s n d None k) _ refl
    by_device (Some x) = behind (commanded_at s n d (Some x) k) _ refl

due_told : (h : Header) (W : Whole) (ms : List Moment) (n d : ℕ) (k : PrCommand) → ((m e j : ℕ) → Newly h ms n d m e j → Engaged (W.device d) n e) → SeizersEngaged h W ms
    → (z : Commanded) → SeizersEngaged h W (CommandTold n d k z ∷ ms)
due_told h W ms n d k new old z m e j keys is = by_line (command_shows h ms n d k (answer_told z.answer) m e j)
  where
    by_line : (keys_seized h m e j (CommandTold n d k z ∷ ms) ≡ keys_seized h m e j ms) ⊎ Newly h ms n d m e j → Engaged (W.device j) m e
    by_line (inl same) = old m e j keys (sym same ∙ is)
    by_line (inr newly) =
        subst (λ y. Engaged (W.device y) m e) newly.device (subst (λ y. Engaged (W.device d) y e) newly.node (new m e j newly))

pub lines_engaged : (h : Header) (s : Scene) (w : IsWhole (first_cluster h) s) (x : Happening) → MayHappen (first_cluster h) s x → Known h s w
    → SeizersEngaged h w.machine s.moments → SeizersEngaged h w.machine (happened (first_cluster h) s x).moments
lines_engaged h s w x may b k = by_happening x may
  where
    c : Cluster
    c = first_cluster h

    P : List Moment → Type 0
    P ms = SeizersEngaged h w.machine ms

    lasts : Lasts P
    lasts = line_lasts h w.machine

    by_happening : (x : Happening) → MayHappen c s x → P (happened c s x).moments
    by_happening (Speaks e) m = armed_lasts P c e (adding (Said (line.Event e)) s) (lasts (Said (line.Event e)) s.moments tt k)
    by_happening (Begins e) m = lasts (Part e) s.moments tt k
    by_happening (Notes e) m = lasts (Told (entry.Schedule e)) s.moments tt k
    by_happening (Takes n now ends i) m =
        passing_lasts P lasts n (given_by c n now ends i s.nodes) _
        (plain_quiet n (s.nodes.node n) i (given_by c n now ends i s.nodes) m.1 (commands_are_told c n now ends (s.nodes.node n) (s.nodes.disk n) i)) k
    by_happening (Arrives number y m now ends) may =
        passing_lasts P lasts y.to (given_by c y.to now ends (input.Packet y.from m) s.nodes) _
        (packet_quiet y.to (s.nodes.node y.to) y.from m (given_by c y.to now ends (input.Packet y.from m) s.nodes)
        (commands_are_told c y.to now ends (s.nodes.node y.to) (s.nodes.disk y.to) (input.Packet y.from m)))
        (lasts (Told (entry.Packet (packet.Delivered number y.from y.to))) s.moments tt k)
    by_happening (Strays number y) m = lasts (Told (entry.Packet (packet.Delivered number y.from y.to))) s.moments tt k
    by_happening (Misses number y) m = lasts (Told (entry.Packet (packet.Dropped number drop.Down))) s.moments tt k
    by_happening (Loses number y) m = lasts (Told (entry.Packet (packet.Lost number))) s.moments tt k
    by_happening (Repeats number y) m =
        dropped_lasts P lasts (sending s.links y.from y.to y.bytes).sent.dropped _ (lasts (Told (entry.Packet (packet.Repeated number s.links.next))) s.moments tt k)
    by_happening (Commands n d q now ends) m =
        command_lasts P lasts c s n d q now ends (slice_get s.devices (d - 1)) (λ o. input.Answered o.answer) (due_tells h s n d q now ends (s.nodes.node n) refl m.2)
        (due_told h w.machine s.moments n d q
        (λ a e j new. due_engaged h c w.machine s.moments n d e q (s.nodes.disk n).kept (s.nodes.node n) new.seen b.order (w.sites n) (b.reading.sites n).up m.2 new.acts new.saw) k)
    by_happening (Writes n d value now ends) m =
        command_lasts P lasts c s n d (command.Write value) now ends (slice_get s.devices (d - 1)) (λ o. input.Wrote d value o.answer)
        (write_tells h s n d value now ends (s.nodes.node n) (λ x. is_ok (may_write_as c n d x.seat) ≡ true) refl m.1) (λ z. k)
    by_happening (Refuses n d value why) m = lasts (Told (entry.Device (device.Refused n d value why))) s.moments tt k

-- ---- runs

pub record Comes (h : Header) (cells : ℕ) (s : Scene) : Type 0 where
  pub reached : Reached (first_cluster h) (first_scene h cells) s
  pub whole : IsWhole (first_cluster h) s
  pub engaged : SeizersEngaged h whole.machine s.moments

reading_at : (h : Header) (cells : ℕ) (s : Scene) → length h.devices ≤ most_devices → h.cluster < 2 ^ 32 → Reached (first_cluster h) (first_scene h cells) s → IsReading h s
reading_at h cells s few small r = subst (IsReading h) r.is (run_reads h cells r.happenings few small r.may).reading

run_comes : (h : Header) (cells : ℕ) → length h.devices ≤ most_devices → h.cluster < 2 ^ 32 → (s : Scene) (xs : List Happening) → Cuts (first_cluster h) s xs
    → MayAllHappen (first_cluster h) s xs → Comes h cells s → Comes h cells (all_happened (first_cluster h) s xs)
run_comes h cells few small s [] cuts may k = k
run_comes h cells few small s (x ∷ xs) cuts may k =
    let c : Cluster = first_cluster h in
    let order : InOrder (setting_of c) k.whole.machine = in_order (setting_of c) k.whole.machine k.whole.reached in
    let f : Follows c s k.whole (happened c s x) (events_of c s x cuts.0) = happens c s k.whole x cuts.0 may.0 in
    let told : SeizersEngaged h k.whole.machine (happened c s x).moments =
    lines_engaged h s k.whole x may.0 (record { order = order; reading = reading_at h cells s few small k.reached }) k.engaged in
    run_comes h cells few small (happened c s x) xs cuts.1 may.1 (record {
      reached = reached_more c (first_scene h cells) s x k.reached may.0;
      whole = f.next;
      engaged = λ n e d keys is. engaged_stays (setting_of c) k.whole.machine f.next.machine f.steps n e d order f.whole_run (told n e d keys is);
    })

first_comes : (h : Header) (cells : ℕ) → length h.devices ≤ most_devices → h.cluster < 2 ^ 32 → Comes h cells (first_scene h cells)
unfolding first_scene
first_comes h cells few small = record {
  reached = record { happenings = []; may = tt; is = refl };
  whole = first_whole_so h cells few small;
  engaged = λ n e d keys is. absurd (none_some keys is);
}

pub run_engages : (h : Header) (cells : ℕ) (xs : List Happening) → length h.devices ≤ most_devices → h.cluster < 2 ^ 32 → MayAllHappen (first_cluster h) (first_scene h cells) xs
    → Comes h cells (all_happened (first_cluster h) (first_scene h cells) xs)
run_engages h cells xs few small may = run_comes h cells few small (first_scene h cells) xs (runs_are_cut h cells xs) may (first_comes h cells few small)

-- ---- the laws

pub one_seizer_in_each_run : OneSeizerInEachRun
one_seizer_in_each_run h cells xs few small may m k e d one other a b =
    let z : Comes h cells (all_happened (first_cluster h) (first_scene h cells) xs) = run_engages h cells xs few small may in
    one_engaged (z.whole.machine.device d) m k e ((in_order (setting_of (first_cluster h)) z.whole.machine z.whole.reached).device d) (z.engaged m e d one a) (z.engaged k e d other b)
