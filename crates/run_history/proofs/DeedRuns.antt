-- Each thing that happens keeps the book, and so does each run.
use Rattle.std.specs.Prelude.{ℕ, suc, ◌+◌, ◌-◌, ◌≡◌, ◌≢◌, ◌≤◌, ◌⊎◌, All, List, [], ◌∷◌, length, slice_get, Option, None, Some}
use Rattle.std.specs.List.{AllByRecursion}
use Rattle.std.proofs.lemmas.List.Elements.{All-cons, All-nil}
use Rattle.std.proofs.Common.{refl, sym, subst, ◌∙◌, arith, inl, inr}
use Rattle.cl_base.specs.Limits.{most_devices}
use Rattle.cl_base.specs.declared.header.Header.{Header}
use Rattle.cl_base.specs.declared.header.HeaderDevice.{HeaderDevice}
use Rattle.cl_base.specs.declared.packet.DropCause.TheVariants as drop
use Rattle.cmm_attempt.specs.Calls.{IsDevice}
use Rattle.interconnect.specs.Links.{sending}
use Rattle.pgr_device.specs.Device.{Device}
use Rattle.pgr_device.specs.declared.command.PrCommand.{PrCommand}
use Rattle.pgr_device.specs.declared.command.PrCommand.TheVariants as command
use Rattle.record_disk.specs.Disks.{DiskState, armed}
use Rattle.schedule_text.specs.declared.event.Event.{Event}
use Rattle.schedule_text.specs.declared.event.Event.TheVariants as event
use Rattle.schedule_text.specs.declared.line.Line.TheVariants as line
use Rattle.status_report.specs.declared.device_entry.DeviceEntry.TheVariants as device
use Rattle.status_report.specs.declared.entry.Entry.{Entry}
use Rattle.status_report.specs.declared.entry.Entry.TheVariants as entry
use Rattle.status_report.specs.declared.packet_entry.PacketEntry.TheVariants as packet
use Rattle.history.specs.Moment.{Part, Said}
use Rattle.machine_base.specs.Put.{put}
use Rattle.machine_base.proofs.Puts.{put_here, put_there, same_or_not}
use Rattle.membership_machine.specs.Events.{Event as Step, Run, after}
use Rattle.membership_machine.specs.Starts.{DevicesMeet}
use Rattle.membership_machine.specs.State.{Memberships, first_memberships}
use Rattle.membership_machine.specs.Votes.{Setting}
use Rattle.membership_machine.proofs.Preserved.{first_holds}
use Rattle.node_model.specs.declared.cluster.Cluster.{Cluster}
use Rattle.node_model.specs.declared.input.Input.{Input}
use Rattle.node_model.specs.declared.input.Input.TheVariants.{Answered, Boot, Client, CommandDue, Commanded as Command_given, Crash, Packet, Reported, Tick, Wrote}
use Rattle.refinement.specs.Runs.{Letter, Nodes, WasSent}
use Rattle.refinement.specs.Steps.{disk_rules}
use Rattle.refinement.specs.Ties.{MessageTold, setting_of}
use Rattle.refinement.specs.Whole.{Stands}
use Rattle.refinement.proofs.Acts.{run_append}
use Rattle.refinement.proofs.Disks.{disks_keep_rules}
use Rattle.refinement.proofs.Logs.{no_updates}
use Rattle.refinement.proofs.Replies.{steps_are_cut}
use Rattle.world_model.specs.First.{attached_from, first_cluster}
use Rattle.world_model.specs.Lines.{left_by}
use Rattle.run_history.specs.Happenings.{Happening, IsPlain, MayAllHappen, MayHappen, all_happened, armed_by, commanded, commanded_at, happened, removed, taking}
use Rattle.run_history.specs.Happenings.Happening.{Arrives, Begins, Commands, Loses, Misses, Notes, Refuses, Repeats, Speaks, Strays, Takes, Writes}
use Rattle.run_history.specs.Scenes.{Scene, adding, first_scene, telling}
use Rattle.run_history.specs.Book.{Ledger}
use Rattle.run_history.specs.Booking.{Booking, Books}
use Rattle.seize.specs.Answers.{Answer}
use Rattle.cl_base.specs.declared.method.Outcome as method
use Rattle.run_history.specs.Cuts.{Cut, Cuts, StepCut, all_events, events_of, step_events}
use Rattle.run_history.specs.DeedLines.{Closed, IsAside, Passes}
use Rattle.run_history.specs.Runs.{EventsOfEachRun, NoBaseIsDue, PlacedInEachRun, RepositoryOfEachRun, RunsAreCut, StartLinesOfEachRun}
use Rattle.run_history.proofs.Ledgers.{first_ledger, repository_of}
use Rattle.run_history.proofs.Moments.{part_adds, said_adds}
use Rattle.run_history.proofs.DeedOutputs.{linked_passes, told_passes}
use Rattle.run_history.proofs.DeedSteps.{step_books}

-- ---- what has no step of a node

booked_on : (c : Cluster) (s t : Scene) (M : Memberships) → Passes s t [] → Booking c s M → Booking c t M
booked_on c s t M p b = record {
  holds = b.holds;
  stands = subst (λ (w : Nodes). (j : ℕ) → Stands c M j (w.node j) (w.disk j).kept) (sym p.nodes) b.stands;
  sent = subst (λ (w : Nodes). AllByRecursion (λ (l : Letter). MessageTold M l.from l.body) w.sent) (sym p.nodes) b.sent;
  closed = p.adds.closed;
  ledger = subst (λ ds. Ledger (setting_of c) M ds) (sym p.adds.deeds) b.ledger;
}

no_step : (c : Cluster) (t : Scene) (M : Memberships) → Booking c t M → Books c t M []
no_step c t M b = record { machine = M; run = refl; booking = b }

aside_books : (c : Cluster) (s t : Scene) (M : Memberships) → Passes s t [] → Booking c s M → Books c t M []
aside_books c s t M p b = no_step c t M (booked_on c s t M p b)

-- ---- a line of the schedule

-- an armed stop changes no record
arm_stands : (c : Cluster) (M : Memberships) (w : Nodes) (n : ℕ) (disk : DiskState) → disk.kept ≡ (w.disk n).kept → ((k : ℕ) → Stands c M k (w.node k) (w.disk k).kept)
    → (k : ℕ) → Stands c M k (w.node k) (put w.disk n disk k).kept
arm_stands c M w n disk same all k = go (same_or_not k n)
  where
    go : (k ≡ n) ⊎ (k ≢ n) → Stands c M k (w.node k) (put w.disk n disk k).kept
    go (inl e) =
        subst (λ j. Stands c M j (w.node j) (put w.disk n disk j).kept) (sym e)
        (subst (λ (d : DiskState). Stands c M n (w.node n) d.kept) (sym (put_here w.disk n disk)) (subst (λ r. Stands c M n (w.node n) r) (sym same) (all n)))
    go (inr ne) = subst (λ (d : DiskState). Stands c M k (w.node k) d.kept) (sym (put_there w.disk n disk k ne)) (all k)

-- the fault, or the stop, that it names is armed
armed_booking : (c : Cluster) (e : Event) (s : Scene) (M : Memberships) → Booking c s M → Booking c (armed_by c e s) M
armed_booking c (event.CrashAt n calls choice) s M b = record {
  holds = b.holds;
  stands = arm_stands c M s.nodes n (armed (s.nodes.disk n) calls (left_by choice)) refl b.stands;
  sent = b.sent;
  closed = b.closed;
  ledger = b.ledger;
}
armed_booking c (event.Fault n d done) s M b = record { holds = b.holds; stands = b.stands; sent = b.sent; closed = b.closed; ledger = b.ledger }
armed_booking c (event.Boot n) s M b = b
armed_booking c (event.Crash n) s M b = b
armed_booking c (event.Tick n) s M b = b
armed_booking c (event.Deliver number) s M b = b
armed_booking c (event.Lose number) s M b = b
armed_booking c (event.Repeat number) s M b = b
armed_booking c (event.Next from to) s M b = b
armed_booking c (event.Drop from to) s M b = b
armed_booking c (event.Again from to) s M b = b
armed_booking c (event.Disk n) s M b = b
armed_booking c (event.Write n d value) s M b = b
armed_booking c (event.Command n words) s M b = b
armed_booking c (event.Outcome n resource method outcome) s M b = b
armed_booking c (event.Probe n resource good) s M b = b
armed_booking c (event.Clock second) s M b = b
armed_booking c (event.Rounds count nodes) s M b = b
armed_booking c (event.Client n address client port) s M b = b

-- ---- a command at a device

-- the node takes the answer to it
answered_books : (c : Cluster) (s : Scene) (n d now : ℕ) (k : PrCommand) (ends : method.Outcome) (M : Memberships) (input : Answer → Input)
    (cut : StepCut c n now ends s.nodes (input (commanded s n d k).answer)) → n ≤ 32 → All IsDevice c.attached → WasSent s.nodes (input (commanded s n d k).answer) → Booking c s M
    → Books c (taking c n now ends (input (commanded s n d k).answer) (commanded s n d k).scene) M (step_events c n now ends s.nodes (input (commanded s n d k).answer) cut)
answered_books c s n d now k ends M input cut low fits sent b = go (slice_get s.devices (d - 1)) cut sent
  where
    go : (o : Option Device) (cut : StepCut c n now ends s.nodes (input (commanded_at s n d o k).answer)) → WasSent s.nodes (input (commanded_at s n d o k).answer)
        → Books c (taking c n now ends (input (commanded_at s n d o k).answer) (commanded_at s n d o k).scene) M (step_events c n now ends s.nodes (input (commanded_at s n d o k).answer) cut)
    go None cut sent = step_books c n now ends (input (commanded_at s n d None k).answer) s M cut low fits sent b
    go (Some x) cut sent =
        step_books c n now ends (input (commanded_at s n d (Some x) k).answer) (commanded_at s n d (Some x) k).scene M cut low fits sent
        (record { holds = b.holds; stands = b.stands; sent = b.sent; closed = b.closed; ledger = b.ledger })

-- ---- each thing that happens

plain_sent : (w : Nodes) (i : Input) → IsPlain i → WasSent w i
plain_sent w (Packet from m) h = absurd h
plain_sent w Boot h = tt
plain_sent w Crash h = tt
plain_sent w Tick h = tt
plain_sent w CommandDue h = tt
plain_sent w (Answered a) h = tt
plain_sent w (Wrote d value a) h = tt
plain_sent w (Command_given words) h = tt
plain_sent w (Reported r good) h = tt
plain_sent w (Client name client port) h = tt

-- the packet is removed, and this told
removed_passes : (e : Entry) (s : Scene) (number : ℕ) → IsAside e → Closed s.moments → Passes s (telling e (removed s number)) []
removed_passes e s number is h = record { adds = (told_passes e s is h).adds; nodes = refl }

happening_books : (c : Cluster) (s : Scene) (h : Happening) (M : Memberships) (cut : Cut c s h) → All IsDevice c.attached → MayHappen c s h → Booking c s M
    → Books c (happened c s h) M (events_of c s h cut)
happening_books c s (Speaks e) M cut fits may b =
    let t : Scene = adding (Said (line.Event e)) s in
    no_step c (armed_by c e t) M (armed_booking c e t M (booked_on c s t M (record { adds = said_adds s.moments (line.Event e) b.closed; nodes = refl }) b))
happening_books c s (Begins e) M cut fits may b = aside_books c s (adding (Part e) s) M (record { adds = part_adds s.moments e b.closed; nodes = refl }) b
happening_books c s (Notes e) M cut fits may b = aside_books c s (telling (entry.Schedule e) s) M (told_passes (entry.Schedule e) s tt b.closed) b
happening_books c s (Takes n now ends i) M cut fits may b = step_books c n now ends i s M cut may.0.1 fits (plain_sent s.nodes i may.1) b
happening_books c s (Arrives number x m now ends) M cut fits may b =
    let e : Entry = entry.Packet (packet.Delivered number x.from x.to) in
    let t : Scene = telling e (removed s number) in
    step_books c x.to now ends (Packet x.from m) t M cut may.3.1 fits may.4 (booked_on c s t M (removed_passes e s number tt b.closed) b)
happening_books c s (Strays number x) M cut fits may b =
    let e : Entry = entry.Packet (packet.Delivered number x.from x.to) in
    aside_books c s (telling e (removed s number)) M (removed_passes e s number tt b.closed) b
happening_books c s (Misses number x) M cut fits may b =
    let e : Entry = entry.Packet (packet.Dropped number drop.Down) in
    aside_books c s (telling e (removed s number)) M (removed_passes e s number tt b.closed) b
happening_books c s (Loses number x) M cut fits may b =
    let e : Entry = entry.Packet (packet.Lost number) in
    aside_books c s (telling e (removed s number)) M (removed_passes e s number tt b.closed) b
happening_books c s (Repeats number x) M cut fits may b =
    aside_books c s (happened c s (Repeats number x)) M (linked_passes (entry.Packet (packet.Repeated number s.links.next)) s (sending s.links x.from x.to x.bytes) tt b.closed) b
happening_books c s (Commands n d k now ends) M cut fits may b = answered_books c s n d now k ends M Answered cut may.0.1 fits tt b
happening_books c s (Writes n d value now ends) M cut fits may b = answered_books c s n d now (command.Write value) ends M (Wrote d value) cut may.0.1 fits tt b
happening_books c s (Refuses n d value cause) M cut fits may b =
    aside_books c s (telling (entry.Device (device.Refused n d value cause)) s) M (told_passes (entry.Device (device.Refused n d value cause)) s tt b.closed) b

-- ---- runs

all_book : (c : Cluster) (s : Scene) (hs : List Happening) (M : Memberships) (cuts : Cuts c s hs) → All IsDevice c.attached → MayAllHappen c s hs → Booking c s M
    → Books c (all_happened c s hs) M (all_events c s hs cuts)
all_book c s [] M cuts fits may b = no_step c s M b
all_book c s (h ∷ hs) M cuts fits may b =
    let g : Books c (happened c s h) M (events_of c s h cuts.0) = happening_books c s h M cuts.0 fits may.0 b in
    let k : Books c (all_happened c (happened c s h) hs) g.machine (all_events c (happened c s h) hs cuts.1) = all_book c (happened c s h) hs g.machine cuts.1 fits may.1 g.booking in
    record {
      machine = k.machine;
      run = run_append (setting_of c) M g.machine k.machine (events_of c s h cuts.0) (all_events c (happened c s h) hs cuts.1) g.run k.run;
      booking = k.booking;
    }

first_booking : (h : Header) (cells : ℕ) → Booking (first_cluster h) (first_scene h cells) first_memberships
unfolding first_scene
first_booking h cells = record {
  holds = first_holds (setting_of (first_cluster h));
  stands = λ n. record { tied = (record { promised = refl; saved = refl; session = refl; member = refl }, no_updates (first_cluster h)); joins = tt };
  sent = tt;
  closed = record { lines = tt; due = refl };
  ledger = first_ledger (setting_of (first_cluster h));
}

-- its devices are numbered from 1
attached_fit : (number : ℕ) (ds : List HeaderDevice) → 1 ≤ number → number + length ds ≤ 17 → All IsDevice (attached_from number ds)
attached_fit number [] low high = All-nil IsDevice
attached_fit number (d ∷ ds) low high =
    All-cons IsDevice _ _ (low, below number (length ds) high) (attached_fit (number + 1) ds (more number) (same number (length ds) high))
  where
    below : (a b : ℕ) → a + suc b ≤ 17 → a ≤ 16
    below a b h = omega arith

    more : (a : ℕ) → 1 ≤ a + 1
    more a = omega arith

    same : (a b : ℕ) → a + suc b ≤ 17 → (a + 1) + b ≤ 17
    same a b h = omega arith

attached_are : (h : Header) → length h.devices ≤ most_devices → All IsDevice (first_cluster h).attached
attached_are h few = attached_fit 1 h.devices one (high (length h.devices) few)
  where
    one : 1 ≤ 1
    one = omega arith

    high : (k : ℕ) → k ≤ 16 → 1 + k ≤ 17
    high k l = omega arith

-- the state that a run by these events comes to is one
same_run : (S : Setting) (M : Memberships) (events : List Step) (N L : Memberships) → Run S M events N → Run S M events L → N ≡ L
same_run S M [] N L h k = h ∙ sym k
same_run S M (e ∷ events) N L h k = same_run S (after M e) events N L h.1 k.1

-- ---- the laws

step_cut : (c : Cluster) (s : Scene) (h : Happening) → Cut c s h
step_cut c s (Speaks e) = tt
step_cut c s (Begins e) = tt
step_cut c s (Notes e) = tt
step_cut c s (Takes n now ends i) = steps_are_cut disk_rules disks_keep_rules c n now ends (s.nodes.node n) (s.nodes.disk n) i
step_cut c s (Arrives number x m now ends) = steps_are_cut disk_rules disks_keep_rules c x.to now ends (s.nodes.node x.to) (s.nodes.disk x.to) (Packet x.from m)
step_cut c s (Strays number x) = tt
step_cut c s (Misses number x) = tt
step_cut c s (Loses number x) = tt
step_cut c s (Repeats number x) = tt
step_cut c s (Commands n d k now ends) = steps_are_cut disk_rules disks_keep_rules c n now ends (s.nodes.node n) (s.nodes.disk n) (Answered (commanded s n d k).answer)
step_cut c s (Writes n d value now ends) =
    steps_are_cut disk_rules disks_keep_rules c n now ends (s.nodes.node n) (s.nodes.disk n) (Wrote d value (commanded s n d (command.Write value)).answer)
step_cut c s (Refuses n d value cause) = tt

all_cut : (c : Cluster) (s : Scene) (hs : List Happening) → Cuts c s hs
all_cut c s [] = tt
all_cut c s (h ∷ hs) = (step_cut c s h, all_cut c (happened c s h) hs)

pub runs_are_cut : RunsAreCut
runs_are_cut h cells hs = all_cut (first_cluster h) (first_scene h cells) hs

pub run_books : (h : Header) (cells : ℕ) (hs : List Happening) (cuts : Cuts (first_cluster h) (first_scene h cells) hs) → length h.devices ≤ most_devices
    → MayAllHappen (first_cluster h) (first_scene h cells) hs
    → Books (first_cluster h) (all_happened (first_cluster h) (first_scene h cells) hs) first_memberships (all_events (first_cluster h) (first_scene h cells) hs cuts)
run_books h cells hs cuts few may = all_book (first_cluster h) (first_scene h cells) hs first_memberships cuts (attached_are h few) may (first_booking h cells)

pub start_lines_of_each_run : StartLinesOfEachRun
start_lines_of_each_run h cells hs few may = (run_books h cells hs (runs_are_cut h cells hs) few may).booking.closed.lines

pub no_base_is_due : NoBaseIsDue
no_base_is_due h cells hs few may = (run_books h cells hs (runs_are_cut h cells hs) few may).booking.closed.due

pub placed_in_each_run : PlacedInEachRun
placed_in_each_run h cells hs few may = (run_books h cells hs (runs_are_cut h cells hs) few may).booking.ledger.booked.placed

pub events_of_each_run : EventsOfEachRun
events_of_each_run h cells hs cuts few may =
    let b : Books (first_cluster h) (all_happened (first_cluster h) (first_scene h cells) hs) first_memberships (all_events (first_cluster h) (first_scene h cells) hs cuts) =
    run_books h cells hs cuts few may in
    record { machine = b.machine; run = b.run }

pub repository_of_each_run : RepositoryOfEachRun
repository_of_each_run h cells hs cuts M few may run meet =
    let S : Setting = setting_of (first_cluster h) in
    let t : Scene = all_happened (first_cluster h) (first_scene h cells) hs in
    let b : Books (first_cluster h) t first_memberships (all_events (first_cluster h) (first_scene h cells) hs cuts) = run_books h cells hs cuts few may in
    let same : M ≡ b.machine = same_run S first_memberships (all_events (first_cluster h) (first_scene h cells) hs cuts) M b.machine run b.run in
    repository_of S b.machine t.moments b.booking.holds (subst (λ N. DevicesMeet S N) same meet) b.booking.ledger
