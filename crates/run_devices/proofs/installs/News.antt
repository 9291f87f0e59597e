-- Who newly seized a device as a thing happens: by its line that node has seized a device whose seizing had not ended, and that was engaged there.
use Rattle.std.specs.Prelude.{ℕ, ◌-◌, ◌≡◌, ◌⊎◌, List, ◌∷◌, None, Option, Some, is_ok, slice_get, true}
use Rattle.std.proofs.Common.{refl, sym, subst, inl, inr}
use Rattle.cl_base.specs.declared.header.Header.{Header}
use Rattle.cl_base.specs.declared.method.Outcome as method
use Rattle.cl_base.specs.declared.packet.DropCause.TheVariants as drop
use Rattle.cluster_machine.proofs.Whole.{InOrder}
use Rattle.cluster_machine.specs.Cluster.{Cluster as Whole}
use Rattle.interconnect.specs.Links.{sending}
use Rattle.pgr_device.specs.Device.{Device}
use Rattle.pgr_device.specs.declared.command.PrCommand.{PrCommand}
use Rattle.pgr_device.specs.declared.command.PrCommand.TheVariants as command
use Rattle.schedule_text.specs.declared.event.Event.{Event}
use Rattle.schedule_text.specs.declared.event.Event.TheVariants as event
use Rattle.schedule_text.specs.declared.line.Line.TheVariants as line
use Rattle.status_report.specs.declared.device_entry.DeviceEntry.TheVariants as device
use Rattle.status_report.specs.declared.entry.Entry.TheVariants as entry
use Rattle.status_report.specs.declared.packet_entry.PacketEntry.TheVariants as packet
use Rattle.history.specs.Moment.{Moment, Part, Said, Told}
use Rattle.history.specs.Seizing.{keys_seized}
use Rattle.node_model.specs.Devices.{answer_told, may_write_as}
use Rattle.node_model.specs.declared.cluster.Cluster.{Cluster}
use Rattle.node_model.specs.declared.input.Input.{Input}
use Rattle.node_model.specs.declared.input.Input.TheVariants as input
use Rattle.refinement.specs.Ties.{setting_of}
use Rattle.world_model.specs.First.{first_cluster}
use Rattle.run_history.proofs.DevicesRun.{due_tells, packet_quiet, plain_quiet, write_tells}
use Rattle.run_history.proofs.LineSteps.{commands_are_told}
use Rattle.run_history.specs.CommandLines.{CommandFirst}
use Rattle.run_history.specs.Happenings.{Commanded, Happening, MayHappen, armed_by, commanded_at, given_by, happened, taking}
use Rattle.run_history.specs.Happenings.Happening.{Arrives, Begins, Commands, Loses, Misses, Notes, Refuses, Repeats, Speaks, Strays, Takes, Writes}
use Rattle.run_history.specs.Scenes.{Scene, adding, passing, telling}
use Rattle.run_history.specs.Wholes.{IsWhole}
use Rattle.run_devices.specs.readings.Sites.{IsReading}
use Rattle.run_devices.proofs.valid.Dues.{due_engaged}
use Rattle.run_devices.proofs.valid.Lines.{Lasts, Newly, command_shows, dropped_lasts, passing_lasts, same_keys}
use Rattle.world_model.specs.Devices.{due_at}
use Rattle.run_devices.specs.valid.Engaged.{Engaged}
use Rattle.run_devices.proofs.installs.Dues.{Runs, due_runs}

-- Each node has seized what it had, or it is engaged in a seizing that has not ended.
abbrev pub NewSeizers : Header → Whole → List Moment → List Moment → Type 0
NewSeizers h W ms later =
    (m e j : ℕ) → (keys_seized h m e j later ≡ keys_seized h m e j ms) ⊎ (Runs (W.device j) m e × Engaged (W.device j) m e)

line_lasts : (h : Header) (W : Whole) (ms : List Moment) → Lasts (NewSeizers h W ms)
line_lasts h W before x ms none k = λ m e j. subst (λ o. (o ≡ keys_seized h m e j before) ⊎ (Runs (W.device j) m e × Engaged (W.device j) m e))
    (sym (same_keys h m e j x ms none)) (k m e j)

armed_lasts : (P : List Moment → Type 0) (c : Cluster) (e : Event) (s : Scene) → P s.moments → P (armed_by c e s).moments
armed_lasts P c (event.CrashAt n calls choice) s k = k
armed_lasts P c (event.Fault n d done) s k = k
armed_lasts P c _ s k = k

-- the line of a command at a device
abbrev CommandTold : ℕ → ℕ → PrCommand → Commanded → Moment
CommandTold n d k z = Told (entry.Device (device.Command n d k (answer_told z.answer)))

-- a node's command at a device, and what it tells behind it
command_lasts : (P : List Moment → Type 0) → Lasts P → (c : Cluster) (s : Scene) (n d : ℕ) (k : PrCommand) (now : ℕ) (ends : method.Outcome) (o : Option Device) (f : Commanded → Input)
    → ((z : Commanded) → CommandFirst n d k z.answer (given_by c n now ends (f z) s.nodes)) → ((z : Commanded) → P (CommandTold n d k z ∷ s.moments))
    → P (taking c n now ends (f (commanded_at s n d o k)) (commanded_at s n d o k).scene).moments
command_lasts P lasts c s n d k now ends o f told shown = by_device o
  where
    behind : (z : Commanded) (t : Scene) → t.moments ≡ s.moments → P (passing n (given_by c n now ends (f z) s.nodes) t).moments
    behind z t same =
        let first : CommandFirst n d k z.answer (given_by c n now ends (f z) s.nodes) = told z in
        subst (λ os. P (passing n os t).moments) (sym first.first)
        (passing_lasts P lasts n first.others (telling (entry.Device (device.Command n d k (answer_told z.answer))) t) first.quiet
        (subst (λ ms. P (CommandTold n d k z ∷ ms)) (sym same) (shown z)))

    by_device : (o : Option Device) → P (taking c n now ends (f (commanded_at s n d o k)) (commanded_at s n d o k).scene).moments
    by_device None = behind (commanded_at s n d None k) _ refl
    by_device (Some x) = behind (commanded_at s n d (Some x) k) _ refl

due_new : (h : Header) (W : Whole) (ms : List Moment) (n d : ℕ) (k : PrCommand)
    → ((m e j : ℕ) → Newly h ms n d m e j → Runs (W.device d) n e × Engaged (W.device d) n e)
    → (z : Commanded) → NewSeizers h W ms (CommandTold n d k z ∷ ms)
due_new h W ms n d k new z m e j = by_line (command_shows h ms n d k (answer_told z.answer) m e j)
  where
    by_line : (keys_seized h m e j (CommandTold n d k z ∷ ms) ≡ keys_seized h m e j ms) ⊎ Newly h ms n d m e j
        → (keys_seized h m e j (CommandTold n d k z ∷ ms) ≡ keys_seized h m e j ms) ⊎ (Runs (W.device j) m e × Engaged (W.device j) m e)
    by_line (inl same) = inl same
    by_line (inr newly) =
        inr (subst (λ y. Runs (W.device y) m e × Engaged (W.device y) m e) newly.device
        (subst (λ y. Runs (W.device d) y e × Engaged (W.device d) y e) newly.node (new m e j newly)))

pub lines_new : (h : Header) (s : Scene) (w : IsWhole (first_cluster h) s) (x : Happening) → MayHappen (first_cluster h) s x → InOrder (setting_of (first_cluster h)) w.machine → IsReading h s
    → NewSeizers h w.machine s.moments (happened (first_cluster h) s x).moments
lines_new h s w x may order reading = by_happening x may
  where
    c : Cluster
    c = first_cluster h

    P : List Moment → Type 0
    P ms = NewSeizers h w.machine s.moments ms

    k : P s.moments
    k = λ m e j. inl refl

    lasts : Lasts P
    lasts = line_lasts h w.machine s.moments

    by_happening : (x : Happening) → MayHappen c s x → P (happened c s x).moments
    by_happening (Speaks e) m = armed_lasts P c e (adding (Said (line.Event e)) s) (lasts (Said (line.Event e)) s.moments tt k)
    by_happening (Begins e) m = lasts (Part e) s.moments tt k
    by_happening (Notes e) m = lasts (Told (entry.Schedule e)) s.moments tt k
    by_happening (Takes n now ends i) m =
        passing_lasts P lasts n (given_by c n now ends i s.nodes) _
        (plain_quiet n (s.nodes.node n) i (given_by c n now ends i s.nodes) m.1 (commands_are_told c n now ends (s.nodes.node n) (s.nodes.disk n) i)) k
    by_happening (Arrives number y m now ends) may =
        passing_lasts P lasts y.to (given_by c y.to now ends (input.Packet y.from m) s.nodes) _
        (packet_quiet y.to (s.nodes.node y.to) y.from m (given_by c y.to now ends (input.Packet y.from m) s.nodes)
        (commands_are_told c y.to now ends (s.nodes.node y.to) (s.nodes.disk y.to) (input.Packet y.from m)))
        (lasts (Told (entry.Packet (packet.Delivered number y.from y.to))) s.moments tt k)
    by_happening (Strays number y) m = lasts (Told (entry.Packet (packet.Delivered number y.from y.to))) s.moments tt k
    by_happening (Misses number y) m = lasts (Told (entry.Packet (packet.Dropped number drop.Down))) s.moments tt k
    by_happening (Loses number y) m = lasts (Told (entry.Packet (packet.Lost number))) s.moments tt k
    by_happening (Repeats number y) m =
        dropped_lasts P lasts (sending s.links y.from y.to y.bytes).sent.dropped _ (lasts (Told (entry.Packet (packet.Repeated number s.links.next))) s.moments tt k)
    by_happening (Commands n d q now ends) m =
        command_lasts P lasts c s n d q now ends (slice_get s.devices (d - 1)) (λ o. input.Answered o.answer) (due_tells h s n d q now ends (s.nodes.node n) refl m.2)
        (due_new h w.machine s.moments n d q
        (λ m e j new. (
          due_runs h c w.machine s.moments n d e q (s.nodes.disk n).kept (s.nodes.node n) new.seen order (w.sites n) (reading.sites n).up m2 new.acts new.saw,
          due_engaged h c w.machine s.moments n d e q (s.nodes.disk n).kept (s.nodes.node n) new.seen order (w.sites n) (reading.sites n).up m2 new.acts new.saw,
        )))
      where
        m2 : due_at (Some (s.nodes.node n)) ≡ Some (d, q)
        m2 = m.2
    by_happening (Writes n d value now ends) m =
        command_lasts P lasts c s n d (command.Write value) now ends (slice_get s.devices (d - 1)) (λ o. input.Wrote d value o.answer)
        (write_tells h s n d value now ends (s.nodes.node n) (λ x. is_ok (may_write_as c n d x.seat) ≡ true) refl m.1) (λ z. λ m e j. inl refl)
    by_happening (Refuses n d value why) m = lasts (Told (entry.Device (device.Refused n d value why))) s.moments tt k
