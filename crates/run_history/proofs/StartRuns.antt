-- Each thing that happens keeps what the `start` lines tell, and so does each run.
use Rattle.std.specs.Prelude.{ℕ, suc, ◌+◌, ◌-◌, ◌≡◌, ◌≢◌, ◌≤◌, ◌⊎◌, All, List, [], ◌∷◌, length, slice_get, Option, None, Some}
use Rattle.std.specs.List.{AllByRecursion}
use Rattle.std.proofs.lemmas.List.Elements.{All-cons, All-nil}
use Rattle.std.proofs.Common.{refl, sym, subst, ◌∙◌, arith, inl, inr}
use Rattle.cl_base.specs.Limits.{most_devices}
use Rattle.cl_base.specs.declared.header.Header.{Header}
use Rattle.cl_base.specs.declared.header.HeaderDevice.{HeaderDevice}
use Rattle.cl_base.specs.declared.packet.DropCause.TheVariants as drop
use Rattle.cmm_attempt.specs.Calls.{IsDevice}
use Rattle.interconnect.specs.Links.{sending}
use Rattle.pgr_device.specs.Device.{Device}
use Rattle.pgr_device.specs.declared.command.PrCommand.{PrCommand}
use Rattle.pgr_device.specs.declared.command.PrCommand.TheVariants as command
use Rattle.record_disk.specs.Disks.{DiskState, armed}
use Rattle.schedule_text.specs.declared.event.Event.{Event}
use Rattle.schedule_text.specs.declared.event.Event.TheVariants as event
use Rattle.schedule_text.specs.declared.line.Line.TheVariants as line
use Rattle.status_report.specs.declared.device_entry.DeviceEntry.TheVariants as device
use Rattle.status_report.specs.declared.entry.Entry.{Entry}
use Rattle.status_report.specs.declared.entry.Entry.TheVariants as entry
use Rattle.status_report.specs.declared.packet_entry.PacketEntry.TheVariants as packet
use Rattle.history.specs.Moment.{Part, Said}
use Rattle.machine_base.specs.Put.{put}
use Rattle.machine_base.proofs.Puts.{put_here, put_there, same_or_not}
use Rattle.membership_machine.specs.Events.{Event as Step, Run, after}
use Rattle.membership_machine.specs.State.{Memberships, first_memberships}
use Rattle.membership_machine.specs.Votes.{Setting}
use Rattle.membership_machine.proofs.Preserved.{first_holds}
use Rattle.node_model.specs.declared.cluster.Cluster.{Cluster}
use Rattle.node_model.specs.declared.input.Input.{Input}
use Rattle.node_model.specs.declared.input.Input.TheVariants.{Answered, Boot, Client, CommandDue, Commanded as Command_given, Crash, Packet, Reported, Tick, Wrote}
use Rattle.refinement.specs.Runs.{Letter, Nodes, WasSent}
use Rattle.refinement.specs.Ties.{MessageTold, setting_of}
use Rattle.refinement.specs.Whole.{Stands}
use Rattle.refinement.proofs.Acts.{run_append}
use Rattle.refinement.proofs.Logs.{no_updates}
use Rattle.world_model.specs.First.{attached_from, first_cluster}
use Rattle.world_model.specs.Lines.{left_by}
use Rattle.run_history.specs.Happenings.{Happening, IsPlain, MayAllHappen, MayHappen, all_happened, armed_by, commanded, commanded_at, happened, removed, taking}
use Rattle.run_history.specs.Happenings.Happening.{Arrives, Begins, Commands, Loses, Misses, Notes, Refuses, Repeats, Speaks, Strays, Takes, Writes}
use Rattle.run_history.specs.Scenes.{Scene, adding, first_scene, telling}
use Rattle.seize.specs.Answers.{Answer}
use Rattle.cl_base.specs.declared.method.Outcome as method
use Rattle.run_history.specs.Cuts.{Cut, Cuts, StepCut, all_events, events_of, step_events}
use Rattle.run_history.specs.DeedLines.{Closed, IsAside, Passes}
use Rattle.run_history.proofs.Moments.{part_adds, said_adds}
use Rattle.run_history.proofs.DeedOutputs.{linked_passes, told_passes}
use Rattle.run_history.specs.Starts.{StartTold, StartsOfEachRun}
use Rattle.run_history.proofs.StartAttempts.{DeedTold, NodeHolds}
use Rattle.run_history.proofs.Complete.{starts_are_deeds, starts_in}
use Rattle.run_history.proofs.StartSteps.{ComesSo, Telling, step_tells}
use Rattle.history.specs.Deeds.{Acked, Deed, Proposed, Started, deeds}
use Rattle.history.specs.Starts.{starts}

-- ---- what has no step of a node

told_on : (c : Cluster) (s t : Scene) (M : Memberships) → Passes s t [] → Telling c s M → Telling c t M
told_on c s t M p b = record {
  holds = b.holds;
  stands = subst (λ (w : Nodes). (j : ℕ) → Stands c M j (w.node j) (w.disk j).kept) (sym p.nodes) b.stands;
  sent = subst (λ (w : Nodes). AllByRecursion (λ (l : Letter). MessageTold M l.from l.body) w.sent) (sym p.nodes) b.sent;
  closed = p.adds.closed;
  attempts = subst (λ (w : Nodes). (j : ℕ) → NodeHolds M (w.node j)) (sym p.nodes) b.attempts;
  told = subst (λ ds. AllByRecursion (DeedTold M) ds) (sym p.adds.deeds) b.told;
}

no_step : (c : Cluster) (t : Scene) (M : Memberships) → Telling c t M → ComesSo c t M []
no_step c t M b = record { machine = M; run = refl; telling = b }

aside_tells : (c : Cluster) (s t : Scene) (M : Memberships) → Passes s t [] → Telling c s M → ComesSo c t M []
aside_tells c s t M p b = no_step c t M (told_on c s t M p b)

-- ---- a line of the schedule

-- an armed stop changes no record
arm_stands : (c : Cluster) (M : Memberships) (w : Nodes) (n : ℕ) (disk : DiskState) → disk.kept ≡ (w.disk n).kept → ((k : ℕ) → Stands c M k (w.node k) (w.disk k).kept)
    → (k : ℕ) → Stands c M k (w.node k) (put w.disk n disk k).kept
arm_stands c M w n disk same all k = go (same_or_not k n)
  where
    go : (k ≡ n) ⊎ (k ≢ n) → Stands c M k (w.node k) (put w.disk n disk k).kept
    go (inl e) =
        subst (λ j. Stands c M j (w.node j) (put w.disk n disk j).kept) (sym e)
        (subst (λ (d : DiskState). Stands c M n (w.node n) d.kept) (sym (put_here w.disk n disk)) (subst (λ r. Stands c M n (w.node n) r) (sym same) (all n)))
    go (inr ne) = subst (λ (d : DiskState). Stands c M k (w.node k) d.kept) (sym (put_there w.disk n disk k ne)) (all k)

-- the fault, or the stop, that it names is armed
armed_telling : (c : Cluster) (e : Event) (s : Scene) (M : Memberships) → Telling c s M → Telling c (armed_by c e s) M
armed_telling c (event.CrashAt n calls choice) s M b = record {
  holds = b.holds;
  stands = arm_stands c M s.nodes n (armed (s.nodes.disk n) calls (left_by choice)) refl b.stands;
  sent = b.sent;
  closed = b.closed;
  attempts = b.attempts;
  told = b.told;
}
armed_telling c (event.Fault n d done) s M b = record { holds = b.holds; stands = b.stands; sent = b.sent; closed = b.closed; attempts = b.attempts; told = b.told }
armed_telling c (event.Boot n) s M b = b
armed_telling c (event.Crash n) s M b = b
armed_telling c (event.Tick n) s M b = b
armed_telling c (event.Deliver number) s M b = b
armed_telling c (event.Lose number) s M b = b
armed_telling c (event.Repeat number) s M b = b
armed_telling c (event.Next from to) s M b = b
armed_telling c (event.Drop from to) s M b = b
armed_telling c (event.Again from to) s M b = b
armed_telling c (event.Disk n) s M b = b
armed_telling c (event.Write n d value) s M b = b
armed_telling c (event.Command n words) s M b = b
armed_telling c (event.Outcome n resource method outcome) s M b = b
armed_telling c (event.Probe n resource good) s M b = b
armed_telling c (event.Clock second) s M b = b
armed_telling c (event.Rounds count nodes) s M b = b
armed_telling c (event.Client n address client port) s M b = b

-- ---- a command at a device

-- the node takes the answer to it
answered_tells : (c : Cluster) (s : Scene) (n d now : ℕ) (k : PrCommand) (ends : method.Outcome) (M : Memberships) (input : Answer → Input)
    (cut : StepCut c n now ends s.nodes (input (commanded s n d k).answer)) → n ≤ 32 → All IsDevice c.attached → WasSent s.nodes (input (commanded s n d k).answer) → Telling c s M
    → ComesSo c (taking c n now ends (input (commanded s n d k).answer) (commanded s n d k).scene) M (step_events c n now ends s.nodes (input (commanded s n d k).answer) cut)
answered_tells c s n d now k ends M input cut low fits sent b = go (slice_get s.devices (d - 1)) cut sent
  where
    go : (o : Option Device) (cut : StepCut c n now ends s.nodes (input (commanded_at s n d o k).answer)) → WasSent s.nodes (input (commanded_at s n d o k).answer)
        → ComesSo c (taking c n now ends (input (commanded_at s n d o k).answer) (commanded_at s n d o k).scene) M (step_events c n now ends s.nodes (input (commanded_at s n d o k).answer) cut)
    go None cut sent = step_tells c n now ends (input (commanded_at s n d None k).answer) s M cut low fits sent b
    go (Some x) cut sent =
        step_tells c n now ends (input (commanded_at s n d (Some x) k).answer) (commanded_at s n d (Some x) k).scene M cut low fits sent
        (record { holds = b.holds; stands = b.stands; sent = b.sent; closed = b.closed; attempts = b.attempts; told = b.told })

-- ---- each thing that happens

plain_sent : (w : Nodes) (i : Input) → IsPlain i → WasSent w i
plain_sent w (Packet from m) h = absurd h
plain_sent w Boot h = tt
plain_sent w Crash h = tt
plain_sent w Tick h = tt
plain_sent w CommandDue h = tt
plain_sent w (Answered a) h = tt
plain_sent w (Wrote d value a) h = tt
plain_sent w (Command_given words) h = tt
plain_sent w (Reported r good) h = tt
plain_sent w (Client name client port) h = tt

-- the packet is removed, and this told
removed_passes : (e : Entry) (s : Scene) (number : ℕ) → IsAside e → Closed s.moments → Passes s (telling e (removed s number)) []
removed_passes e s number is h = record { adds = (told_passes e s is h).adds; nodes = refl }

happening_tells : (c : Cluster) (s : Scene) (h : Happening) (M : Memberships) (cut : Cut c s h) → All IsDevice c.attached → MayHappen c s h → Telling c s M
    → ComesSo c (happened c s h) M (events_of c s h cut)
happening_tells c s (Speaks e) M cut fits may b =
    let t : Scene = adding (Said (line.Event e)) s in
    no_step c (armed_by c e t) M (armed_telling c e t M (told_on c s t M (record { adds = said_adds s.moments (line.Event e) b.closed; nodes = refl }) b))
happening_tells c s (Begins e) M cut fits may b = aside_tells c s (adding (Part e) s) M (record { adds = part_adds s.moments e b.closed; nodes = refl }) b
happening_tells c s (Notes e) M cut fits may b = aside_tells c s (telling (entry.Schedule e) s) M (told_passes (entry.Schedule e) s tt b.closed) b
happening_tells c s (Takes n now ends i) M cut fits may b = step_tells c n now ends i s M cut may.0.1 fits (plain_sent s.nodes i may.1) b
happening_tells c s (Arrives number x m now ends) M cut fits may b =
    let e : Entry = entry.Packet (packet.Delivered number x.from x.to) in
    let t : Scene = telling e (removed s number) in
    step_tells c x.to now ends (Packet x.from m) t M cut may.3.1 fits may.4 (told_on c s t M (removed_passes e s number tt b.closed) b)
happening_tells c s (Strays number x) M cut fits may b =
    let e : Entry = entry.Packet (packet.Delivered number x.from x.to) in
    aside_tells c s (telling e (removed s number)) M (removed_passes e s number tt b.closed) b
happening_tells c s (Misses number x) M cut fits may b =
    let e : Entry = entry.Packet (packet.Dropped number drop.Down) in
    aside_tells c s (telling e (removed s number)) M (removed_passes e s number tt b.closed) b
happening_tells c s (Loses number x) M cut fits may b =
    let e : Entry = entry.Packet (packet.Lost number) in
    aside_tells c s (telling e (removed s number)) M (removed_passes e s number tt b.closed) b
happening_tells c s (Repeats number x) M cut fits may b =
    aside_tells c s (happened c s (Repeats number x)) M (linked_passes (entry.Packet (packet.Repeated number s.links.next)) s (sending s.links x.from x.to x.bytes) tt b.closed) b
happening_tells c s (Commands n d k now ends) M cut fits may b = answered_tells c s n d now k ends M Answered cut may.0.1 fits tt b
happening_tells c s (Writes n d value now ends) M cut fits may b = answered_tells c s n d now (command.Write value) ends M (Wrote d value) cut may.0.1 fits tt b
happening_tells c s (Refuses n d value cause) M cut fits may b =
    aside_tells c s (telling (entry.Device (device.Refused n d value cause)) s) M (told_passes (entry.Device (device.Refused n d value cause)) s tt b.closed) b

-- ---- runs

all_tell : (c : Cluster) (s : Scene) (hs : List Happening) (M : Memberships) (cuts : Cuts c s hs) → All IsDevice c.attached → MayAllHappen c s hs → Telling c s M
    → ComesSo c (all_happened c s hs) M (all_events c s hs cuts)
all_tell c s [] M cuts fits may b = no_step c s M b
all_tell c s (h ∷ hs) M cuts fits may b =
    let g : ComesSo c (happened c s h) M (events_of c s h cuts.0) = happening_tells c s h M cuts.0 fits may.0 b in
    let k : ComesSo c (all_happened c (happened c s h) hs) g.machine (all_events c (happened c s h) hs cuts.1) = all_tell c (happened c s h) hs g.machine cuts.1 fits may.1 g.telling in
    record {
      machine = k.machine;
      run = run_append (setting_of c) M g.machine k.machine (events_of c s h cuts.0) (all_events c (happened c s h) hs cuts.1) g.run k.run;
      telling = k.telling;
    }

first_telling : (h : Header) (cells : ℕ) → Telling (first_cluster h) (first_scene h cells) first_memberships
unfolding first_scene
first_telling h cells = record {
  holds = first_holds (setting_of (first_cluster h));
  stands = λ n. record { tied = (record { promised = refl; saved = refl; session = refl; member = refl }, no_updates (first_cluster h)); joins = tt };
  sent = tt;
  closed = record { lines = tt; due = refl };
  attempts = λ n. tt;
  told = tt;
}

-- its devices are numbered from 1
attached_fit : (number : ℕ) (ds : List HeaderDevice) → 1 ≤ number → number + length ds ≤ 17 → All IsDevice (attached_from number ds)
attached_fit number [] low high = All-nil IsDevice
attached_fit number (d ∷ ds) low high =
    All-cons IsDevice _ _ (low, below number (length ds) high) (attached_fit (number + 1) ds (more number) (same number (length ds) high))
  where
    below : (a b : ℕ) → a + suc b ≤ 17 → a ≤ 16
    below a b h = omega arith

    more : (a : ℕ) → 1 ≤ a + 1
    more a = omega arith

    same : (a b : ℕ) → a + suc b ≤ 17 → (a + 1) + b ≤ 17
    same a b h = omega arith

attached_are : (h : Header) → length h.devices ≤ most_devices → All IsDevice (first_cluster h).attached
attached_are h few = attached_fit 1 h.devices one (high (length h.devices) few)
  where
    one : 1 ≤ 1
    one = omega arith

    high : (k : ℕ) → k ≤ 16 → 1 + k ≤ 17
    high k l = omega arith

-- the state that a run by these events comes to is one
same_run : (S : Setting) (M : Memberships) (events : List Step) (N L : Memberships) → Run S M events N → Run S M events L → N ≡ L
same_run S M [] N L h k = h ∙ sym k
same_run S M (e ∷ events) N L h k = same_run S (after M e) events N L h.1 k.1

-- ---- the law

run_tells : (h : Header) (cells : ℕ) (hs : List Happening) (cuts : Cuts (first_cluster h) (first_scene h cells) hs) → length h.devices ≤ most_devices
    → MayAllHappen (first_cluster h) (first_scene h cells) hs
    → ComesSo (first_cluster h) (all_happened (first_cluster h) (first_scene h cells) hs) first_memberships (all_events (first_cluster h) (first_scene h cells) hs cuts)
run_tells h cells hs cuts few may = all_tell (first_cluster h) (first_scene h cells) hs first_memberships cuts (attached_are h few) may (first_telling h cells)

deeds_tell : (M : Memberships) (ds : List Deed) → AllByRecursion (DeedTold M) ds → AllByRecursion (StartTold M) (starts_in ds)
deeds_tell M [] h = tt
deeds_tell M (Started s updates ∷ ds) h = (h.0, deeds_tell M ds h.1)
deeds_tell M (Proposed u ∷ ds) h = deeds_tell M ds h.1
deeds_tell M (Acked u ∷ ds) h = deeds_tell M ds h.1

pub starts_of_each_run : StartsOfEachRun
starts_of_each_run h cells hs cuts M few may run =
    let S : Setting = setting_of (first_cluster h) in
    let t : Scene = all_happened (first_cluster h) (first_scene h cells) hs in
    let b : ComesSo (first_cluster h) t first_memberships (all_events (first_cluster h) (first_scene h cells) hs cuts) = run_tells h cells hs cuts few may in
    let same : M ≡ b.machine = same_run S first_memberships (all_events (first_cluster h) (first_scene h cells) hs cuts) M b.machine run b.run in
    subst (λ N. AllByRecursion (StartTold N) (starts t.moments)) (sym same)
    (subst (λ xs. AllByRecursion (StartTold b.machine) xs) (sym (starts_are_deeds t.moments b.telling.closed.lines b.telling.closed.due))
    (deeds_tell b.machine (deeds t.moments) b.telling.told))
