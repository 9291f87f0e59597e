-- What is said and told, and a command at a device, leave what nodes have of seizings.
use Rattle.std.specs.Prelude.{ℕ, ◌-◌, ◌≡◌, ◌≢◌, ◌≤◌, ◌⊎◌, nat_le, Bool, true, false, List, [], ◌∷◌, Option, None, Some, option_and_then, option_map, Ok, slice_get, if◌then◌else◌}
use Rattle.std.specs.List.{AllByRecursion}
use Rattle.std.proofs.Common.{refl, sym, ap, subst, ◌∙◌, arith, inl, inr}
use Rattle.cl_base.specs.Sets.{has}
use Rattle.cl_base.specs.declared.header.Header.{Header}
use Rattle.cl_base.specs.declared.packet.DropCause.{DropCause}
use Rattle.cmm_attempt.proofs.Basics.{none_some, same_some}
use Rattle.cmm_member.specs.Records.{NodeRecord}
use Rattle.device_queue.specs.Queue.{due_device, first_of, next_of}
use Rattle.device_queue.specs.Tasks.{is_queued}
use Rattle.device_queue.specs.declared.task.Task.{Task}
use Rattle.device_ties.specs.Devices.{OwnKeys}
use Rattle.interconnect.specs.Links as links
use Rattle.interconnect.specs.Links.{Links, Packet, packet_of, removing, sending}
use Rattle.machine_base.proofs.Puts.{put_here, put_there, same_or_not}
use Rattle.machine_base.specs.Put.{put}
use Rattle.refinement.specs.node_widths.Widths.{AnswerFits, NodeFits, TaskFits}
use Rattle.pgr_device.specs.Device.{Device}
use Rattle.pgr_device.specs.declared.registration.Registration.{Registration}
use Rattle.pgr_device.specs.Registered.{keys_of}
use Rattle.pgr_device.specs.Spc as spc
use Rattle.pgr_device.specs.declared.command.PrAnswer.TheVariants as given
use Rattle.pgr_device.specs.declared.command.PrCommand.{PrCommand}
use Rattle.pgr_device.specs.declared.command.PrCommand.TheVariants as command
use Rattle.record_disk.specs.Disks.{DiskState, armed}
use Rattle.schedule_text.specs.declared.event.Event.{Event}
use Rattle.schedule_text.specs.declared.event.Event.TheVariants as event
use Rattle.schedule_text.specs.declared.line.Line.TheVariants as line
use Rattle.seize.specs.Answers.{keys_told}
use Rattle.status_report.specs.declared.entry.Entry.{Entry}
use Rattle.status_report.specs.declared.entry.Entry.TheVariants as entry
use Rattle.status_report.specs.declared.packet_entry.PacketEntry.TheVariants as packet
use Rattle.history.specs.Contact.{IsHeld, IsNew}
use Rattle.history.specs.Contents.{IsKnownHeld}
use Rattle.history.specs.Letters.{arrived}
use Rattle.history.specs.Moment.{Moment, Part, Said, Told}
use Rattle.history.specs.Trace.{repeated}
use Rattle.node_model.specs.declared.cluster.Cluster.{Cluster}
use Rattle.node_model.specs.declared.input.Input.{Input}
use Rattle.node_model.specs.declared.input.Input.TheVariants as input
use Rattle.node_model.specs.declared.node.Node.{Node}
use Rattle.node_model.specs.declared.node.Node.TheVariants.{Down, Up}
use Rattle.refinement.proofs.Handlers.{delivered_by}
use Rattle.refinement.specs.Runs.{AnswersFit, Nodes, WasSent}
use Rattle.refinement.specs.Worlds.{Keeps}
use Rattle.run_history.proofs.AtSteps.{IsNoAnswer, task_device}
use Rattle.run_history.proofs.WholeDevices.{device_there}
use Rattle.run_history.specs.Happenings.{Commanded, IsPlain, armed_by, commanded, commanded_at, copying, removed}
use Rattle.run_history.specs.Scenes.{Scene, adding, dropped_so, fault_in, telling, with_links}
use Rattle.run_history.specs.Stages.{site_of}
use Rattle.run_history.specs.Wholes.{IsWhole}
use Rattle.world_model.specs.Devices.{due_at, executed}
use Rattle.world_model.specs.First.{first_cluster}
use Rattle.world_model.specs.Lines.{left_by}
use Rattle.run_seizings.specs.Sites.{Carried, InHand, IsSeizing, SiteSo}
use Rattle.run_seizings.proofs.Letters.{carried_stays, removing_carried, repeated_carried}
use Rattle.run_seizings.proofs.Stages.{AreOwn}
use Rattle.run_seizings.proofs.Stays.{site_stays}
use Rattle.run_seizings.proofs.Steps.{Ground, OwnKeysOnly}
use Rattle.run_seizings.proofs.Stills.{Still, still}

-- ---- one moment more, and other links

pub moment_seizes : (h : Header) (s : Scene) (l : Links) (x : Moment) → IsNew s.moments x → ((n : ℕ) → Still h s.moments n x) → Carried h (x ∷ s.moments) l
    → IsHeld h s.moments x → IsKnownHeld h s.moments x → IsSeizing h s
    → IsSeizing h (adding x (with_links s l))
moment_seizes h s l x new same carried held known k =
    record { sites = λ n. site_stays h s.moments x n (site_of s.nodes n) new (same n) (k.sites n); carried = carried; held = (held, k.held); known = (known, k.known) }

-- a line of the schedule, or a part
pub said_seizes : (h : Header) (s : Scene) (e : Event) → IsSeizing h s → IsSeizing h (adding (Said (line.Event e)) s)
said_seizes h s e k =
    moment_seizes h s s.links (Said (line.Event e)) tt (λ n. record { last = refl; session = refl; progress = λ e d. refl; installs = λ e. refl })
    (carried_stays h s.moments (Said (line.Event e)) s.links tt (λ p. refl) k.carried) tt tt k

pub part_seizes : (h : Header) (s : Scene) (e : Event) → IsSeizing h s → IsSeizing h (adding (Part e) s)
part_seizes h s e k =
    moment_seizes h s s.links (Part e) tt (λ n. record { last = refl; session = refl; progress = λ e d. refl; installs = λ e. refl })
    (carried_stays h s.moments (Part e) s.links tt (λ p. refl) k.carried) tt tt k

pub lost_seizes : (h : Header) (s : Scene) (number : ℕ) (why : DropCause) → IsSeizing h s
    → IsSeizing h (telling (entry.Packet (packet.Dropped number why)) (removed s number))
lost_seizes h s number why k =
    let e : Entry = entry.Packet (packet.Dropped number why) in
    moment_seizes h s (removing s.links number) (Told e) tt (λ n. still h s.moments n e tt)
    (carried_stays h s.moments (Told e) (removing s.links number) tt (λ p. refl) (removing_carried h s.moments s.links number k.carried)) tt tt k

pub gone_seizes : (h : Header) (s : Scene) (number : ℕ) → IsSeizing h s → IsSeizing h (telling (entry.Packet (packet.Lost number)) (removed s number))
gone_seizes h s number k =
    let e : Entry = entry.Packet (packet.Lost number) in
    moment_seizes h s (removing s.links number) (Told e) tt (λ n. still h s.moments n e tt)
    (carried_stays h s.moments (Told e) (removing s.links number) tt (λ p. refl) (removing_carried h s.moments s.links number k.carried)) tt tt k

pub delivered_seizes : (h : Header) (s : Scene) (number from to : ℕ) → IsSeizing h s → IsSeizing h
    (telling (entry.Packet (packet.Delivered number from to)) (removed s number))
delivered_seizes h s number from to k =
    let e : Entry = entry.Packet (packet.Delivered number from to) in
    moment_seizes h s (removing s.links number) (Told e) tt (λ n. still h s.moments n e tt)
    (carried_stays h s.moments (Told e) (removing s.links number) tt (λ p. refl) (removing_carried h s.moments s.links number k.carried)) tt tt k

dropped_seizes : (h : Header) (s : Scene) (o : Option (ℕ × DropCause)) → IsSeizing h s → IsSeizing h (dropped_so o s)
dropped_seizes h s None k = k
dropped_seizes h s (Some drop) k =
    let e : Entry = entry.Packet (packet.Dropped drop.0 drop.1) in
    moment_seizes h s s.links (Told e) tt (λ n. still h s.moments n e tt) (carried_stays h s.moments (Told e) s.links tt (λ p. refl) k.carried) tt tt k

pub repeated_seizes : (h : Header) (s : Scene) (number : ℕ) (x : Packet) → packet_of s.links.packets number ≡ Some x → IsSeizing h s
    → IsSeizing h (copying number (sending s.links x.from x.to x.bytes) s)
repeated_seizes h s number x is k =
    let o : links.Outcome = sending s.links x.from x.to x.bytes in
    dropped_seizes h _ o.sent.dropped
    (moment_seizes h s o.after (repeated number s.links.next) tt (λ n. still h s.moments n (entry.Packet (packet.Repeated number s.links.next)) tt)
    (repeated_carried h s.moments s.links number x is k.carried) tt tt k)

arm_all : (P : ℕ → Node → NodeRecord → Type 0) (v : Nodes) (n : ℕ) (d : DiskState) → d.kept ≡ (v.disk n).kept → ((j : ℕ) → P j (v.node j) (v.disk j).kept)
    → (j : ℕ) → P j (v.node j) (put v.disk n d j).kept
arm_all P v n d same all j = go (same_or_not j n)
  where
    go : (j ≡ n) ⊎ (j ≢ n) → P j (v.node j) (put v.disk n d j).kept
    go (inl e) =
        subst (λ i. P i (v.node i) (put v.disk n d i).kept) (sym e)
        (subst (λ (z : DiskState). P n (v.node n) z.kept) (sym (put_here v.disk n d)) (subst (λ r. P n (v.node n) r) (sym same) (all n)))
    go (inr ne) = subst (λ (z : DiskState). P j (v.node j) z.kept) (sym (put_there v.disk n d j ne)) (all j)

pub armed_seizes : (h : Header) (c : Cluster) (e : Event) (s : Scene) → IsSeizing h s → IsSeizing h (armed_by c e s)
armed_seizes h c (event.CrashAt n calls choice) s k = record {
  sites = arm_all (λ j node kept. SiteSo h s.moments j (record { node = node; disk = kept })) s.nodes n (armed (s.nodes.disk n) calls (left_by choice)) refl k.sites;
  carried = k.carried;
  held = k.held;
  known = k.known;
}
armed_seizes h c (event.Fault n d done) s k = record { sites = k.sites; carried = k.carried; held = k.held; known = k.known }
armed_seizes h c (event.Boot n) s k = k
armed_seizes h c (event.Crash n) s k = k
armed_seizes h c (event.Tick n) s k = k
armed_seizes h c (event.Deliver number) s k = k
armed_seizes h c (event.Lose number) s k = k
armed_seizes h c (event.Repeat number) s k = k
armed_seizes h c (event.Next from to) s k = k
armed_seizes h c (event.Drop from to) s k = k
armed_seizes h c (event.Again from to) s k = k
armed_seizes h c (event.Disk n) s k = k
armed_seizes h c (event.Write n d value) s k = k
armed_seizes h c (event.Command n words) s k = k
armed_seizes h c (event.Outcome n resource method outcome) s k = k
armed_seizes h c (event.Probe n resource good) s k = k
armed_seizes h c (event.Clock second) s k = k
armed_seizes h c (event.Rounds count nodes) s k = k
armed_seizes h c (event.Client n address client port) s k = k

-- ---- a command at a device

-- what it leaves, beside the device, is as before
pub record Left (h : Header) (c : Cluster) (s : Scene) (o : Commanded) : Type 0 where
  pub seizing : IsSeizing h o.scene
  pub ground : Ground c o.scene.nodes
  pub nodes : o.scene.nodes ≡ s.nodes
  pub moments : o.scene.moments ≡ s.moments

pub left_at : (h : Header) (c : Cluster) (s : Scene) (n d : ℕ) (k : PrCommand) (o : Option Device) → Ground c s.nodes → IsSeizing h s → Left h c s (commanded_at s n d o k)
left_at h c s n d k None g z = record { seizing = z; ground = g; nodes = refl; moments = refl }
left_at h c s n d k (Some x) g z =
    record { seizing = record { sites = z.sites; carried = z.carried; held = z.held; known = z.known }; ground = g; nodes = refl; moments = refl }

-- the keys of registrations are those of nodes
low_so : (k : ℕ) → k ≤ 32 → nat_le k 32 ≡ true
low_so k h = grind arith

own_keys : (cluster : ℕ) (rs : List Registration) → OwnKeys cluster rs → AreOwn cluster (keys_of rs)
own_keys cluster [] own = tt
own_keys cluster (r ∷ rs) own = (record { node = r.node; high = low_so r.node own.1; is = own.2 }, own_keys cluster rs own.4)

reads_own : (h : Header) (x : Device) (n : ℕ) (fault : Option Bool) (ks : List ℕ) → OwnKeys h.cluster x.registrations
    → keys_told (executed x n command.Keys fault).answer ≡ Some ks → AreOwn h.cluster ks
reads_own h x n (Some true) ks own is = absurd (none_some ks is)
reads_own h x n (Some false) ks own is = absurd (none_some ks is)
reads_own h x n None ks own is = by_path (has x.paths n) is
  where
    by_path : (b : Bool) → keys_told (Ok (if b then spc.carried_out x n command.Keys else spc.answers x given.NoPath).answer) ≡ Some ks → AreOwn h.cluster ks
    by_path true e = subst (λ js. AreOwn h.cluster js) (same_some (keys_of x.registrations) ks e) (own_keys h.cluster x.registrations own)
    by_path false e = absurd (none_some ks e)

answer_own : (h : Header) (s : Scene) (n d : ℕ) (o : Option Device) (ks : List ℕ) → ((x : Device) → o ≡ Some x → OwnKeys h.cluster x.registrations)
    → keys_told (commanded_at s n d o command.Keys).answer ≡ Some ks → AreOwn h.cluster ks
answer_own h s n d None ks own is = absurd (none_some ks is)
answer_own h s n d (Some x) ks own is = reads_own h x n (fault_in s n d) ks (own x refl) is

-- the device at its place is the machine's
device_own : (h : Header) (s : Scene) (d : ℕ) (device : Device) → 1 ≤ d → IsWhole (first_cluster h) s → slice_get s.devices (d - 1) ≡ Some device
    → OwnKeys h.cluster device.registrations
device_own h s d device low w is = subst (λ (z : Device). OwnKeys h.cluster z.registrations) (device_there s.devices d device low is) (w.devices_so d).own

-- the widths of its answer
pub answer_fits : (c : Cluster) (s : Scene) (n d : ℕ) (k : PrCommand) (o : Option Device) → ((x : Device) → o ≡ Some x → Keeps x n k)
    → AnswerFits (commanded_at s n d o k).answer
answer_fits c s n d k None keeps = tt
answer_fits c s n d k (Some x) keeps = by_fault (fault_in s n d)
  where
    by_fault : (f : Option Bool) → AnswerFits (executed x n k f).answer
    by_fault None = (keeps x refl).1
    by_fault (Some true) = tt
    by_fault (Some false) = tt

due_so : (o : Option ℕ) (q : Option PrCommand) (d : ℕ) (k : PrCommand)
    → option_and_then {U = ℕ × PrCommand} (λ e. option_and_then {U = ℕ × PrCommand} (λ (j : PrCommand). Some (e, j)) q) o ≡ Some (d, k) → (o ≡ Some d) × (q ≡ Some k)
due_so None q d k h = absurd (none_some (d, k) h)
due_so (Some e) None d k h = absurd (none_some (d, k) h)
due_so (Some e) (Some j) d k h =
    let same : (e, j) ≡ (d, k) = same_some (e, j) (d, k) h in
    (ap (λ (z : ℕ × PrCommand). Some z.0) same, ap (λ (z : ℕ × PrCommand). Some z.1) same)

-- keys that the due command reads
pub due_own : (h : Header) (s : Scene) (n d : ℕ) (k : PrCommand) (node : Node) → IsWhole (first_cluster h) s → due_at (Some node) ≡ Some (d, k) → 1 ≤ d
    → OwnKeysOnly h node (commanded s n d k).answer
due_own h s n d k Down w due low = tt
due_own h s n d k (Up x) w due low = λ reads ks is.
    answer_own h s n d (slice_get s.devices (d - 1)) ks (λ device at. device_own h s d device low w at)
    (ap (λ j. keys_told (commanded s n d j).answer) (sym (same_some k command.Keys (sym (due_so (due_device x.tasks) (next_of x.tasks) d k due).1 ∙ reads)))
    ∙ ap keys_told is)

due_is_low : (c : Cluster) (n : ℕ) (tasks : List Task) (d : ℕ) → AllByRecursion (TaskFits c n) tasks → due_device tasks ≡ Some d → 1 ≤ d
due_is_low c n tasks d fit is = by_task (first_of tasks) refl is
  where
    by_task : (o : Option Task) → first_of tasks ≡ o → option_map (λ (t : Task). t.device) o ≡ Some d → 1 ≤ d
    by_task None found e = absurd (none_some d e)
    by_task (Some t) found e = subst (λ z. 1 ≤ z) (same_some t.device d e) (task_device c n is_queued tasks t fit found).0

pub due_low : (c : Cluster) (n : ℕ) (node : Node) (d : ℕ) (k : PrCommand) → NodeFits c n node → due_at (Some node) ≡ Some (d, k) → 1 ≤ d
due_low c n Down d k fit due = absurd (none_some (d, k) due)
due_low c n (Up x) d k fit due = due_is_low c n x.tasks d fit.all_tasks (due_so (due_device x.tasks) (next_of x.tasks) d k due).0

-- ---- inputs

pub plain_sent : (w : Nodes) (i : Input) → IsPlain i → WasSent w i
plain_sent w (input.Packet from m) k = absurd k
plain_sent w input.Boot k = tt
plain_sent w input.Crash k = tt
plain_sent w input.Tick k = tt
plain_sent w input.CommandDue k = tt
plain_sent w (input.Answered a) k = tt
plain_sent w (input.Wrote d value a) k = tt
plain_sent w (input.Commanded words) k = tt
plain_sent w (input.Reported r good) k = tt
plain_sent w (input.Client name client port) k = tt

pub plain_fits : (i : Input) → IsPlain i → AnswersFit i
plain_fits (input.Packet from m) k = absurd k
plain_fits (input.Answered a) k = absurd k
plain_fits input.Boot k = tt
plain_fits input.Crash k = tt
plain_fits input.Tick k = tt
plain_fits input.CommandDue k = tt
plain_fits (input.Wrote d value a) k = tt
plain_fits (input.Commanded words) k = tt
plain_fits (input.Reported r good) k = tt
plain_fits (input.Client name client port) k = tt

pub plain_no : (i : Input) → IsPlain i → IsNoAnswer i
plain_no (input.Packet from m) k = absurd k
plain_no (input.Answered a) k = absurd k
plain_no (input.Wrote d value a) k = absurd k
plain_no input.Boot k = tt
plain_no input.Crash k = tt
plain_no input.Tick k = tt
plain_no input.CommandDue k = tt
plain_no (input.Commanded words) k = tt
plain_no (input.Reported r good) k = tt
plain_no (input.Client name client port) k = tt

pub plain_hand : (h : Header) (ms : List Moment) (n : ℕ) (i : Input) → IsPlain i → arrived ms ≡ None → InHand h ms n (delivered_by i)
plain_hand h ms n (input.Packet from m) k apart = absurd k
plain_hand h ms n input.Boot k apart = apart
plain_hand h ms n input.Crash k apart = apart
plain_hand h ms n input.Tick k apart = apart
plain_hand h ms n input.CommandDue k apart = apart
plain_hand h ms n (input.Answered a) k apart = apart
plain_hand h ms n (input.Wrote d value a) k apart = apart
plain_hand h ms n (input.Commanded words) k apart = apart
plain_hand h ms n (input.Reported r good) k apart = apart
plain_hand h ms n (input.Client name client port) k apart = apart
