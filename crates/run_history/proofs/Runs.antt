-- Each thing that happens, and each run.
use Rattle.std.specs.Prelude.{ℕ, suc, ◌+◌, ◌-◌, ◌≡◌, ◌≢◌, ◌≤◌, ◌<◌, ◌^◌, ◌⊎◌, All, Bool, true, false, List, [], ◌∷◌, Option, None, Some, length, slice_get, slice_set}
use Rattle.std.proofs.Common.{refl, sym, ap, subst, ◌∙◌, arith, inl, inr}
use Rattle.std.proofs.lemmas.List.Elements.{All-cons, All-nil}
use Rattle.cl_base.specs.Limits.{most_devices}
use Rattle.cl_base.specs.declared.header.Header.{Header}
use Rattle.cl_base.specs.declared.header.HeaderDevice.{HeaderDevice}
use Rattle.cl_base.specs.declared.packet.DropCause.{DropCause}
use Rattle.cl_base.specs.declared.packet.DropCause.TheVariants as drop
use Rattle.cmm_attempt.specs.Calls.{IsDevice}
use Rattle.cmm_attempt.proofs.Basics.{same_some}
use Rattle.cmm_member.specs.Records.{NodeRecord}
use Rattle.machine_base.specs.Put.{put}
use Rattle.machine_base.proofs.Puts.{put_here, put_there, same_or_not}
use Rattle.refinement.specs.node_widths.Widths.{NodeFits}
use Rattle.refinement.proofs.node_widths.Sets.{first_valid_fits}
use Rattle.refinement.proofs.Lines.{few_attached}
use Rattle.refinement.specs.Ties.{setting_of}
use Rattle.interconnect.specs.Links as links
use Rattle.interconnect.specs.Links.{Links, Packet, packet_of, removing, sending}
use Rattle.membership_machine.specs.State.{first_memberships}
use Rattle.membership_machine.proofs.Preserved.{first_holds}
use Rattle.refinement.specs.node_widths.Widths.{AnswerFits}
use Rattle.pgr_device.specs.Device.{Device}
use Rattle.pgr_device.specs.declared.command.PrCommand.{PrCommand}
use Rattle.pgr_device.specs.declared.command.PrCommand.TheVariants as command
use Rattle.record_disk.specs.Disks.{DiskState, armed}
use Rattle.schedule_text.specs.declared.event.Event.{Event}
use Rattle.schedule_text.specs.declared.event.Event.TheVariants as event
use Rattle.schedule_text.specs.declared.line.Line.TheVariants as line
use Rattle.status_report.specs.declared.device_entry.DeviceEntry.TheVariants as device
use Rattle.status_report.specs.declared.entry.Entry.{Entry}
use Rattle.status_report.specs.declared.entry.Entry.TheVariants as entry
use Rattle.status_report.specs.declared.packet_entry.PacketEntry.TheVariants as packet
use Rattle.wire.specs.Reads.{whole_of}
use Rattle.wire.specs.declared.message.Message.{Message}
use Rattle.history.specs.Letters.{Letter, letter_of, passes, reached}
use Rattle.history.specs.Moment.{Moment, Part, Said, Told}
use Rattle.history.specs.Trace.{delivered, repeated}
use Rattle.node_model.specs.declared.cluster.Cluster.{Cluster}
use Rattle.node_model.specs.declared.input.Input.{Input}
use Rattle.node_model.specs.declared.input.Input.TheVariants.{Answered, Boot, Client, CommandDue, Commanded as Command_given, Crash, Packet as Packet_in, Reported, Tick, Wrote}
use Rattle.node_model.specs.declared.node.Node.{Node}
use Rattle.refinement.specs.Runs.{AnswersFit, Nodes, WasSent}
use Rattle.refinement.specs.Runs.Move.{Arms}
use Rattle.refinement.specs.Whole.{Stands}
use Rattle.refinement.specs.Worlds.{DeviceFits, Keeps as Keeps_at}
use Rattle.refinement.proofs.DeviceWidths.{command_keeps, first_devices_fit}
use Rattle.refinement.proofs.Handlers.{delivered_by}
use Rattle.refinement.proofs.Logs.{no_updates}
use Rattle.refinement.proofs.Worlds.{set_other, set_same}
use Rattle.world_model.specs.Devices.{Executed, due_at, executed}
use Rattle.world_model.specs.First.{attached_from, first_cluster}
use Rattle.world_model.specs.Lines.{left_by}
use Rattle.run_history.proofs.WorldDevices.{write_keeps}
use Rattle.run_history.proofs.Reached.{kept_holds}
use Rattle.run_history.specs.Happenings.{Commanded, Happening, IsPlain, MayAllHappen, MayHappen, all_happened, armed_by, commanded, commanded_at, copying, happened, removed}
use Rattle.run_history.specs.Happenings.Happening.{Arrives, Begins, Commands, Loses, Misses, Notes as Notes_of, Refuses, Repeats, Speaks, Strays, Takes, Writes}
use Rattle.run_history.specs.Scenes.{Scene, adding, dropped_so, fault_in, first_scene, telling, with_links}
use Rattle.run_history.specs.Causes.{Brought, Flying, Hand, Posted}
use Rattle.run_history.specs.Noted.{Laws, Notes}
use Rattle.run_history.specs.ContactRuns.{InstalledOfEachRun, OnceOfEachRun, PreparedOfEachRun, ReadyOfEachRun, ToldOfEachRun}
use Rattle.run_history.specs.Stages.{Sized, Stage, site_of}
use Rattle.run_history.proofs.ContactCalm.{Calm, IsCalm, Quiet, calm_laws, calm_part, calm_said, calm_so, more_laws, quiet_delivered, quiet_repeated}
use Rattle.run_history.proofs.ContactFlying.{flying_stays, found_posted, number_found, removing_posted, repeated_posted}
use Rattle.run_history.proofs.ContactStays.{lasting_stays, notes_stay, or_left, quiet_keeps, started_stays, tried_stays}
use Rattle.run_history.proofs.Steps.{step_stage}
use Rattle.run_history.proofs.Walk.{quiet_starts}
use Rattle.run_history.proofs.ContactWidths.{fits_move, node_due}

-- ---- one moment more, and other links

moment_stage : (c : Cluster) (s : Scene) (l : Links) (x : Moment) → Quiet s.moments x → Laws (x ∷ s.moments) → Flying (x ∷ s.moments) l → Stage c s → Stage c (adding x (with_links s l))
moment_stage c s l x q laws flying b = record {
  machine = b.machine;
  holds = b.holds;
  stands = b.stands;
  sent = b.sent;
  fits = b.fits;
  devices = b.devices;
  laws = laws;
  tried = tried_stays b.machine s.moments x q b.tried;
  started = started_stays b.machine s.moments x q b.started;
  notes = λ n. notes_stay s.moments n x (site_of s.nodes n) (quiet_keeps s.moments n x q) (b.notes n);
  flying = flying;
}

calm_stage : (c : Cluster) (s : Scene) (e : Entry) → IsCalm e → Stage c s → Stage c (telling e s)
calm_stage c s e is b =
    let k : Calm s.moments (Told e) = calm_so s.moments e is in
    moment_stage c s s.links (Told e) k.quiet (calm_laws s.moments (Told e) k b.laws) (flying_stays s.moments (Told e) s.links (quiet_starts s.moments (Told e) k.quiet) k.letters b.flying) b

-- a packet is taken out, and this told of it
removed_stage : (c : Cluster) (s : Scene) (number : ℕ) (e : Entry) → Quiet s.moments (Told e) → ((p : ℕ) → letter_of p (Told e ∷ s.moments) ≡ letter_of p s.moments) → Laws (Told e ∷ s.moments)
    → Stage c s → Stage c (telling e (removed s number))
removed_stage c s number e q letters laws b =
    moment_stage c s (removing s.links number) (Told e) q laws (flying_stays s.moments (Told e) (removing s.links number) (quiet_starts s.moments (Told e) q) letters (removing_posted s.moments s.links number b.flying)) b

gone_stage : (c : Cluster) (s : Scene) (number : ℕ) (e : Entry) → IsCalm e → Stage c s → Stage c (telling e (removed s number))
gone_stage c s number e is b =
    let k : Calm s.moments (Told e) = calm_so s.moments e is in
    removed_stage c s number e k.quiet k.letters (calm_laws s.moments (Told e) k b.laws) b

delivered_stage : (c : Cluster) (s : Scene) (number from to : ℕ) → Stage c s → Stage c (telling (entry.Packet (packet.Delivered number from to)) (removed s number))
delivered_stage c s number from to b =
    removed_stage c s number (entry.Packet (packet.Delivered number from to)) (quiet_delivered s.moments number from to) (λ p. refl)
    (more_laws s.moments (delivered number from to) b.laws tt tt tt tt tt) b

dropped_stage : (c : Cluster) (s : Scene) (o : Option (ℕ × DropCause)) → Stage c s → Stage c (dropped_so o s)
dropped_stage c s None b = b
dropped_stage c s (Some drop) b = calm_stage c s (entry.Packet (packet.Dropped drop.0 drop.1)) tt b

repeated_stage : (c : Cluster) (s : Scene) (number : ℕ) (x : Packet) → packet_of s.links.packets number ≡ Some x → Stage c s → Stage c (copying number (sending s.links x.from x.to x.bytes) s)
repeated_stage c s number x is b =
    let o : links.Outcome = sending s.links x.from x.to x.bytes in
    dropped_stage c _ o.sent.dropped
    (moment_stage c s o.after (repeated number s.links.next) (quiet_repeated s.moments number s.links.next) (more_laws s.moments (repeated number s.links.next) b.laws tt tt tt tt tt)
    (repeated_posted s.moments s.links number x is b.flying) b)

-- the message that comes is in hand
arrived_hand : (c : Cluster) (s : Scene) (number : ℕ) (x : Packet) (m : Message) → packet_of s.links.packets number ≡ Some x → whole_of x.bytes ≡ Some m → Stage c s
    → Brought (delivered number x.from x.to ∷ s.moments) x.to x.from m.body
arrived_hand c s number x m is whole b =
    let found : Posted s.moments s.links.next x = found_posted s.moments s.links number x b.flying is in
    let at : letter_of number s.moments ≡ Some found.letter = ap (λ k. letter_of k s.moments) (sym (number_found s.links number x is)) ∙ found.sent_so in
    record {
      letter = found.letter;
      here = at;
      reached_so = λ test so. or_left (passes test (letter_of number s.moments)) (reached test s.moments) (ap (λ (o : Option Letter). passes test o) at ∙ so);
      sender = found.sender;
      receiver = found.receiver;
      called = (found.says m whole).0;
      caused = (found.says m whole).1;
      lasting = lasting_stays s.moments (delivered number x.from x.to) m.body (λ e so. so) (found.says m whole).2;
    }

-- ---- a line of the schedule

armed_stage : (c : Cluster) (e : Event) (s : Scene) → Sized c → Stage c s → Stage c (armed_by c e s)
armed_stage c (event.CrashAt n calls choice) s sized b =
    let disk : DiskState = armed (s.nodes.disk n) calls (left_by choice) in
    record {
      machine = b.machine;
      holds = b.holds;
      stands = arm_all (λ k node kept. Stands c b.machine k node kept) s.nodes n disk refl b.stands;
      sent = b.sent;
      fits = fits_move c sized.fits s.nodes (Arms n calls (left_by choice)) tt tt b.fits;
      devices = b.devices;
      laws = b.laws;
      tried = b.tried;
      started = b.started;
      notes = arm_all (λ k node kept. Notes s.moments k (record { node = node; disk = kept })) s.nodes n disk refl b.notes;
      flying = b.flying;
    }
  where
    arm_all : (P : ℕ → Node → NodeRecord → Type 0) (v : Nodes) (k : ℕ) (d : DiskState) → d.kept ≡ (v.disk k).kept → ((j : ℕ) → P j (v.node j) (v.disk j).kept)
        → (j : ℕ) → P j (v.node j) (put v.disk k d j).kept
    arm_all P v k d same all j = go (same_or_not j k)
      where
        go : (j ≡ k) ⊎ (j ≢ k) → P j (v.node j) (put v.disk k d j).kept
        go (inl e) =
            subst (λ i. P i (v.node i) (put v.disk k d i).kept) (sym e)
            (subst (λ (z : DiskState). P k (v.node k) z.kept) (sym (put_here v.disk k d)) (subst (λ r. P k (v.node k) r) (sym same) (all k)))
        go (inr ne) = subst (λ (z : DiskState). P j (v.node j) z.kept) (sym (put_there v.disk k d j ne)) (all j)
armed_stage c (event.Fault n d done) s sized b = record {
  machine = b.machine;
  holds = b.holds;
  stands = b.stands;
  sent = b.sent;
  fits = b.fits;
  devices = b.devices;
  laws = b.laws;
  tried = b.tried;
  started = b.started;
  notes = b.notes;
  flying = b.flying;
}
armed_stage c (event.Boot n) s sized b = b
armed_stage c (event.Crash n) s sized b = b
armed_stage c (event.Tick n) s sized b = b
armed_stage c (event.Deliver number) s sized b = b
armed_stage c (event.Lose number) s sized b = b
armed_stage c (event.Repeat number) s sized b = b
armed_stage c (event.Next from to) s sized b = b
armed_stage c (event.Drop from to) s sized b = b
armed_stage c (event.Again from to) s sized b = b
armed_stage c (event.Disk n) s sized b = b
armed_stage c (event.Write n d value) s sized b = b
armed_stage c (event.Command n words) s sized b = b
armed_stage c (event.Outcome n resource method outcome) s sized b = b
armed_stage c (event.Probe n resource good) s sized b = b
armed_stage c (event.Clock second) s sized b = b
armed_stage c (event.Rounds count nodes) s sized b = b
armed_stage c (event.Client n address client port) s sized b = b

-- ---- a command at a device

-- the scene after it, and the answer's widths
record After (c : Cluster) (s : Scene) (o : Commanded) : Type 0 where
  stage : Stage c o.scene
  answer : AnswerFits o.answer
  nodes : o.scene.nodes ≡ s.nodes

abbrev AreFit : List Device → Type 0
AreFit ds = (d : ℕ) (device : Device) → slice_get ds d ≡ Some device → DeviceFits device

set_fit : (ds : List Device) (k : ℕ) (old new : Device) → slice_get ds k ≡ Some old → DeviceFits new → AreFit ds → AreFit (slice_set ds k new)
set_fit ds k old new was fit all d device e = go (same_or_not d k)
  where
    go : (d ≡ k) ⊎ (d ≢ k) → DeviceFits device
    go (inl same) = subst DeviceFits (set_same ds k old new device was (subst (λ j. slice_get (slice_set ds k new) j ≡ Some device) same e)) fit
    go (inr ne) = all d device (set_other ds k d new device ne e)

record Left (o : Executed) : Type 0 where
  device : DeviceFits o.device
  answer : AnswerFits o.answer

left_by_fault : (x : Device) (n : ℕ) (k : PrCommand) (fault : Option Bool) → DeviceFits x → Keeps_at x n k → Left (executed x n k fault)
left_by_fault x n k None fit h = record { device = h.0; answer = h.1 }
left_by_fault x n k (Some true) fit h = record { device = h.0; answer = tt }
left_by_fault x n k (Some false) fit h = record { device = fit; answer = tt }

after_at : (c : Cluster) (s : Scene) (n d : ℕ) (k : PrCommand) (o : Option Device) → slice_get s.devices (d - 1) ≡ o → ((x : Device) → DeviceFits x → Keeps_at x n k) → Stage c s → After c s (commanded_at s n d o k)
after_at c s n d k None is keeps b = record { stage = b; answer = tt; nodes = refl }
after_at c s n d k (Some x) is keeps b =
    let fit : DeviceFits x = b.devices (d - 1) x is in
    let left : Left (executed x n k (fault_in s n d)) = left_by_fault x n k (fault_in s n d) fit (keeps x fit) in
    record {
      stage = record {
        machine = b.machine;
        holds = b.holds;
        stands = b.stands;
        sent = b.sent;
        fits = b.fits;
        devices = set_fit s.devices (d - 1) x (executed x n k (fault_in s n d)).device is left.device b.devices;
        laws = b.laws;
        tried = b.tried;
        started = b.started;
        notes = b.notes;
        flying = b.flying;
      };
      answer = left.answer;
      nodes = refl;
    }

after_command : (c : Cluster) (s : Scene) (n d : ℕ) (k : PrCommand) → ((x : Device) → DeviceFits x → Keeps_at x n k) → Stage c s → After c s (commanded s n d k)
after_command c s n d k keeps b = after_at c s n d k (slice_get s.devices (d - 1)) refl keeps b

due_keeps : (c : Cluster) (s : Scene) (n d : ℕ) (k : PrCommand) → Sized c → 1 ≤ n → n ≤ 32 → due_at (Some (s.nodes.node n)) ≡ Some (d, k) → Stage c s → (x : Device) → DeviceFits x → Keeps_at x n k
due_keeps c s n d k sized low high due b x fit =
    command_keeps x n k low high (node_due c n d k (Some (s.nodes.node n)) sized.small high (λ node is. subst (λ z. NodeFits c n z) (same_some (s.nodes.node n) node is) (b.fits.nodes n)) due) fit

-- ---- each thing that happens

plain_sent : (w : Nodes) (i : Input) → IsPlain i → WasSent w i
plain_sent w (Packet_in from m) h = absurd h
plain_sent w Boot h = tt
plain_sent w Crash h = tt
plain_sent w Tick h = tt
plain_sent w CommandDue h = tt
plain_sent w (Answered a) h = tt
plain_sent w (Wrote d value a) h = tt
plain_sent w (Command_given words) h = tt
plain_sent w (Reported r good) h = tt
plain_sent w (Client name client port) h = tt

plain_fits : (i : Input) → IsPlain i → AnswersFit i
plain_fits (Packet_in from m) h = absurd h
plain_fits Boot h = tt
plain_fits Crash h = tt
plain_fits Tick h = tt
plain_fits CommandDue h = tt
plain_fits (Answered a) h = absurd h
plain_fits (Wrote d value a) h = tt
plain_fits (Command_given words) h = tt
plain_fits (Reported r good) h = tt
plain_fits (Client name client port) h = tt

plain_hand : (ms : List Moment) (n : ℕ) (i : Input) → IsPlain i → Hand ms n (delivered_by i)
plain_hand ms n (Packet_in from m) h = absurd h
plain_hand ms n Boot h = tt
plain_hand ms n Crash h = tt
plain_hand ms n Tick h = tt
plain_hand ms n CommandDue h = tt
plain_hand ms n (Answered a) h = tt
plain_hand ms n (Wrote d value a) h = tt
plain_hand ms n (Command_given words) h = tt
plain_hand ms n (Reported r good) h = tt
plain_hand ms n (Client name client port) h = tt

pub happening_stage : (c : Cluster) (s : Scene) (h : Happening) → Sized c → MayHappen c s h → Stage c s → Stage c (happened c s h)
happening_stage c s (Speaks e) sized may b =
    armed_stage c e (adding (Said (line.Event e)) s) sized
    (moment_stage c s s.links (Said (line.Event e)) (calm_said s.moments (line.Event e)) (more_laws s.moments (Said (line.Event e)) b.laws tt tt tt tt tt)
    (flying_stays s.moments (Said (line.Event e)) s.links (λ q is. is) (λ p. refl) b.flying) b)
happening_stage c s (Begins e) sized may b =
    moment_stage c s s.links (Part e) (calm_part s.moments e) (more_laws s.moments (Part e) b.laws tt tt tt tt tt) (flying_stays s.moments (Part e) s.links (λ q is. is) (λ p. refl) b.flying) b
happening_stage c s (Notes_of e) sized may b = calm_stage c s (entry.Schedule e) tt b
happening_stage c s (Takes n now ends i) sized may b = step_stage c n now ends i s sized may.0 may.2 (plain_sent s.nodes i may.1) (plain_fits i may.1) (plain_hand s.moments n i may.1) b
happening_stage c s (Arrives number x m now ends) sized may b =
    step_stage c x.to now ends (Packet_in x.from m) (telling (entry.Packet (packet.Delivered number x.from x.to)) (removed s number)) sized may.3 may.5 may.4 tt
    (arrived_hand c s number x m may.0 may.1 b) (delivered_stage c s number x.from x.to b)
happening_stage c s (Strays number x) sized may b = delivered_stage c s number x.from x.to b
happening_stage c s (Misses number x) sized may b = gone_stage c s number (entry.Packet (packet.Dropped number drop.Down)) tt b
happening_stage c s (Loses number x) sized may b = gone_stage c s number (entry.Packet (packet.Lost number)) tt b
happening_stage c s (Repeats number x) sized may b = repeated_stage c s number x may.0 b
happening_stage c s (Commands n d k now ends) sized may b =
    let a : After c s (commanded s n d k) = after_command c s n d k (due_keeps c s n d k sized may.0.0 may.0.1 may.2 b) b in
    step_stage c n now ends (Answered (commanded s n d k).answer) (commanded s n d k).scene sized may.0 may.3 tt a.answer tt a.stage
happening_stage c s (Writes n d value now ends) sized may b =
    let o : Commanded = commanded s n d (command.Write value) in
    let a : After c s o = after_command c s n d (command.Write value) (λ x fit. write_keeps n value x fit) b in
    step_stage c n now ends (Wrote d value o.answer) o.scene sized may.0 may.2 tt tt tt a.stage
happening_stage c s (Refuses n d value cause) sized may b = calm_stage c s (entry.Device (device.Refused n d value cause)) tt b

-- ---- runs

-- the devices of the header
attached_fit : (number : ℕ) (ds : List HeaderDevice) → 1 ≤ number → number + length ds ≤ 17 → All IsDevice (attached_from number ds)
attached_fit number [] low high = All-nil IsDevice
attached_fit number (d ∷ ds) low high =
    All-cons IsDevice _ _ (low, below number (length ds) high) (attached_fit (number + 1) ds (more number) (same number (length ds) high))
  where
    below : (a b : ℕ) → a + suc b ≤ 17 → a ≤ 16
    below a b h = omega arith

    more : (a : ℕ) → 1 ≤ a + 1
    more a = omega arith

    same : (a b : ℕ) → a + suc b ≤ 17 → (a + 1) + b ≤ 17
    same a b h = omega arith

header_sized : (h : Header) → length h.devices ≤ most_devices → h.cluster < 2 ^ 32 → Sized (first_cluster h)
header_sized h devices small = record {
  fits = record {
    devices = record { few = few_attached 1 h.devices devices; attached = attached_fit 1 h.devices one_is_low (numbers_high (length h.devices) devices) };
  };
  small = small;
}
  where
    one_is_low : 1 ≤ 1
    one_is_low = omega arith

    numbers_high : (k : ℕ) → k ≤ 16 → 1 + k ≤ 17
    numbers_high k l = omega arith

none_fits : 0 < 2 ^ 64
none_fits = omega arith

first_stage : (h : Header) (cells : ℕ) → Sized (first_cluster h) → Stage (first_cluster h) (first_scene h cells)
unfolding first_scene
first_stage h cells sized =
    let c : Cluster = first_cluster h in
    record {
      machine = first_memberships;
      holds = first_holds (setting_of c);
      stands = λ n. record { tied = (record { promised = refl; saved = refl; session = refl; member = refl }, no_updates c); joins = tt };
      sent = tt;
      fits = record {
        nodes = λ n. tt;
        disks = λ n. record { promised = none_fits; installed = none_fits; members = omega arith; valid = first_valid_fits c n sized.fits.devices; places = none_fits };
        sent = tt;
      };
      devices = first_devices_fit h h.devices sized.small;
      laws = record { once = tt; ready = tt; installed = tt; told = tt; prepared = tt };
      tried = λ e is. absurd (no_truth is);
      started = λ e is. absurd (no_truth is);
      notes = λ n. record { installed = λ some other. absurd (none_below some); up = tt };
      flying = tt;
    }
  where
    no_truth : false ≡ true → ⊥
    no_truth e = cc

    none_below : 0 < 0 → ⊥
    none_below e = omega (arith, e)

pub run_stage : (h : Header) (cells : ℕ) (hs : List Happening) → length h.devices ≤ most_devices → h.cluster < 2 ^ 32 → MayAllHappen (first_cluster h) (first_scene h cells) hs
    → Stage (first_cluster h) (all_happened (first_cluster h) (first_scene h cells) hs)
run_stage h cells hs few small may =
    let c : Cluster = first_cluster h in
    let sized : Sized c = header_sized h few small in
    kept_holds c (Stage c) (λ s e m b. happening_stage c s e sized m b) (first_scene h cells) hs may (first_stage h cells sized)

pub once_of_each_run : OnceOfEachRun
once_of_each_run h cells hs few small may = (run_stage h cells hs few small may).laws.once

pub installed_of_each_run : InstalledOfEachRun
installed_of_each_run h cells hs few small may = (run_stage h cells hs few small may).laws.installed

pub ready_of_each_run : ReadyOfEachRun
ready_of_each_run h cells hs few small may = (run_stage h cells hs few small may).laws.ready

pub told_of_each_run : ToldOfEachRun
told_of_each_run h cells hs few small may = (run_stage h cells hs few small may).laws.told

pub prepared_of_each_run : PreparedOfEachRun
prepared_of_each_run h cells hs few small may = (run_stage h cells hs few small may).laws.prepared
