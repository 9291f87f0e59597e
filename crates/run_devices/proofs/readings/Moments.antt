-- What is said and told, and a command at a device, leave what nodes have of seizings.
use Rattle.std.specs.Prelude.{List, None, Option, Some, ℕ, ◌∷◌, ◌≡◌, ◌≢◌, ◌⊎◌}
use Rattle.std.proofs.Common.{inl, inr, refl, subst, sym}
use Rattle.cl_base.specs.declared.header.Header.{Header}
use Rattle.cl_base.specs.declared.packet.DropCause.{DropCause}
use Rattle.cmm_member.specs.Records.{NodeRecord}
use Rattle.history.specs.Contact.{IsNew}
use Rattle.history.specs.Letters.{arrived}
use Rattle.history.specs.Moment.{Moment, Part, Said, Told}
use Rattle.history.specs.Trace.{repeated}
use Rattle.interconnect.specs.Links.{Links, Packet, packet_of, removing, sending}
use Rattle.interconnect.specs.Links as links
use Rattle.machine_base.proofs.Puts.{put_here, put_there, same_or_not}
use Rattle.machine_base.specs.Put.{put}
use Rattle.node_model.specs.declared.cluster.Cluster.{Cluster}
use Rattle.node_model.specs.declared.input.Input.{Input}
use Rattle.node_model.specs.declared.input.Input.TheVariants as input
use Rattle.node_model.specs.declared.node.Node.{Node}
use Rattle.pgr_device.specs.Device.{Device}
use Rattle.pgr_device.specs.declared.command.PrCommand.{PrCommand}
use Rattle.record_disk.specs.Disks.{DiskState, armed}
use Rattle.refinement.proofs.Handlers.{delivered_by}
use Rattle.refinement.specs.Runs.{Nodes}
use Rattle.run_history.specs.Happenings.{Commanded, IsPlain, armed_by, commanded_at, copying, removed}
use Rattle.run_history.specs.Scenes.{Scene, adding, dropped_so, telling, with_links}
use Rattle.run_history.specs.Stages.{site_of}
use Rattle.schedule_text.specs.declared.event.Event.{Event}
use Rattle.schedule_text.specs.declared.event.Event.TheVariants as event
use Rattle.schedule_text.specs.declared.line.Line.TheVariants as line
use Rattle.status_report.specs.declared.entry.Entry.{Entry}
use Rattle.status_report.specs.declared.entry.Entry.TheVariants as entry
use Rattle.status_report.specs.declared.packet_entry.PacketEntry.TheVariants as packet
use Rattle.world_model.specs.Lines.{left_by}
use Rattle.run_seizings.proofs.Steps.{Ground}
use Rattle.run_seizings.proofs.Stills.{Still, still}
use Rattle.run_devices.proofs.readings.Letters.{carried_stays, removing_carried, repeated_carried}
use Rattle.run_devices.proofs.readings.Stays.{site_stays}
use Rattle.run_devices.specs.readings.Laws.{BringsWhatWasRead, SaysWhatWasRead}
use Rattle.run_devices.specs.readings.Sites.{Carried, InHand, IsReading, SiteSo}

-- ---- one moment more, and other links

pub moment_reads : (h : Header) (s : Scene) (l : Links) (x : Moment) → IsNew s.moments x → ((n : ℕ) → Still h s.moments n x) → Carried h (x ∷ s.moments) l
    → SaysWhatWasRead h s.moments x → BringsWhatWasRead h s.moments x → IsReading h s
    → IsReading h (adding x (with_links s l))
moment_reads h s l x new same carried says brings k = record {
  sites = λ n. site_stays h s.moments x n (site_of s.nodes n) new (same n) (k.sites n);
  carried = carried;
  says = (says, k.says);
  brings = (brings, k.brings);
}

-- a line of the schedule, or a part
pub said_reads : (h : Header) (s : Scene) (e : Event) → IsReading h s → IsReading h (adding (Said (line.Event e)) s)
said_reads h s e k =
    moment_reads h s s.links (Said (line.Event e)) tt (λ n. record { last = refl; session = refl; progress = λ e d. refl; installs = λ e. refl })
    (carried_stays h s.moments (Said (line.Event e)) s.links tt (λ p. refl) k.carried) tt tt k

pub part_reads : (h : Header) (s : Scene) (e : Event) → IsReading h s → IsReading h (adding (Part e) s)
part_reads h s e k =
    moment_reads h s s.links (Part e) tt (λ n. record { last = refl; session = refl; progress = λ e d. refl; installs = λ e. refl })
    (carried_stays h s.moments (Part e) s.links tt (λ p. refl) k.carried) tt tt k

pub lost_reads : (h : Header) (s : Scene) (number : ℕ) (why : DropCause) → IsReading h s
    → IsReading h (telling (entry.Packet (packet.Dropped number why)) (removed s number))
lost_reads h s number why k =
    let e : Entry = entry.Packet (packet.Dropped number why) in
    moment_reads h s (removing s.links number) (Told e) tt (λ n. still h s.moments n e tt)
    (carried_stays h s.moments (Told e) (removing s.links number) tt (λ p. refl) (removing_carried h s.moments s.links number k.carried)) tt tt k

pub gone_reads : (h : Header) (s : Scene) (number : ℕ) → IsReading h s → IsReading h (telling (entry.Packet (packet.Lost number)) (removed s number))
gone_reads h s number k =
    let e : Entry = entry.Packet (packet.Lost number) in
    moment_reads h s (removing s.links number) (Told e) tt (λ n. still h s.moments n e tt)
    (carried_stays h s.moments (Told e) (removing s.links number) tt (λ p. refl) (removing_carried h s.moments s.links number k.carried)) tt tt k

pub delivered_reads : (h : Header) (s : Scene) (number from to : ℕ) → IsReading h s → IsReading h
    (telling (entry.Packet (packet.Delivered number from to)) (removed s number))
delivered_reads h s number from to k =
    let e : Entry = entry.Packet (packet.Delivered number from to) in
    moment_reads h s (removing s.links number) (Told e) tt (λ n. still h s.moments n e tt)
    (carried_stays h s.moments (Told e) (removing s.links number) tt (λ p. refl) (removing_carried h s.moments s.links number k.carried)) tt tt k

dropped_reads : (h : Header) (s : Scene) (o : Option (ℕ × DropCause)) → IsReading h s → IsReading h (dropped_so o s)
dropped_reads h s None k = k
dropped_reads h s (Some drop) k =
    let e : Entry = entry.Packet (packet.Dropped drop.0 drop.1) in
    moment_reads h s s.links (Told e) tt (λ n. still h s.moments n e tt) (carried_stays h s.moments (Told e) s.links tt (λ p. refl) k.carried) tt tt k

pub repeated_reads : (h : Header) (s : Scene) (number : ℕ) (x : Packet) → packet_of s.links.packets number ≡ Some x → IsReading h s
    → IsReading h (copying number (sending s.links x.from x.to x.bytes) s)
repeated_reads h s number x is k =
    let o : links.Outcome = sending s.links x.from x.to x.bytes in
    dropped_reads h _ o.sent.dropped
    (moment_reads h s o.after (repeated number s.links.next) tt (λ n. still h s.moments n (entry.Packet (packet.Repeated number s.links.next)) tt)
    (repeated_carried h s.moments s.links number x is k.carried) tt tt k)

arm_all : (P : ℕ → Node → NodeRecord → Type 0) (v : Nodes) (n : ℕ) (d : DiskState) → d.kept ≡ (v.disk n).kept → ((j : ℕ) → P j (v.node j) (v.disk j).kept)
    → (j : ℕ) → P j (v.node j) (put v.disk n d j).kept
arm_all P v n d same all j = go (same_or_not j n)
  where
    go : (j ≡ n) ⊎ (j ≢ n) → P j (v.node j) (put v.disk n d j).kept
    go (inl e) =
        subst (λ i. P i (v.node i) (put v.disk n d i).kept) (sym e)
        (subst (λ (z : DiskState). P n (v.node n) z.kept) (sym (put_here v.disk n d)) (subst (λ r. P n (v.node n) r) (sym same) (all n)))
    go (inr ne) = subst (λ (z : DiskState). P j (v.node j) z.kept) (sym (put_there v.disk n d j ne)) (all j)

pub armed_reads : (h : Header) (c : Cluster) (e : Event) (s : Scene) → IsReading h s → IsReading h (armed_by c e s)
armed_reads h c (event.CrashAt n calls choice) s k = record {
  sites = arm_all (λ j node kept. SiteSo h s.moments j (record { node = node; disk = kept })) s.nodes n (armed (s.nodes.disk n) calls (left_by choice)) refl k.sites;
  carried = k.carried;
  says = k.says;
  brings = k.brings;
}
armed_reads h c (event.Fault n d done) s k = record { sites = k.sites; carried = k.carried; says = k.says; brings = k.brings }
armed_reads h c (event.Boot n) s k = k
armed_reads h c (event.Crash n) s k = k
armed_reads h c (event.Tick n) s k = k
armed_reads h c (event.Deliver number) s k = k
armed_reads h c (event.Lose number) s k = k
armed_reads h c (event.Repeat number) s k = k
armed_reads h c (event.Next from to) s k = k
armed_reads h c (event.Drop from to) s k = k
armed_reads h c (event.Again from to) s k = k
armed_reads h c (event.Disk n) s k = k
armed_reads h c (event.Write n d value) s k = k
armed_reads h c (event.Command n words) s k = k
armed_reads h c (event.Outcome n resource method outcome) s k = k
armed_reads h c (event.Probe n resource good) s k = k
armed_reads h c (event.Clock second) s k = k
armed_reads h c (event.Rounds count nodes) s k = k
armed_reads h c (event.Client n address client port) s k = k

-- ---- a command at a device

-- what it leaves, beside the device, is as before
pub record Left (h : Header) (c : Cluster) (s : Scene) (o : Commanded) : Type 0 where
  pub reading : IsReading h o.scene
  pub ground : Ground c o.scene.nodes
  pub nodes : o.scene.nodes ≡ s.nodes
  pub moments : o.scene.moments ≡ s.moments

pub left_at : (h : Header) (c : Cluster) (s : Scene) (n d : ℕ) (k : PrCommand) (o : Option Device) → Ground c s.nodes → IsReading h s → Left h c s (commanded_at s n d o k)
left_at h c s n d k None g z = record { reading = z; ground = g; nodes = refl; moments = refl }
left_at h c s n d k (Some x) g z =
    record { reading = record { sites = z.sites; carried = z.carried; says = z.says; brings = z.brings }; ground = g; nodes = refl; moments = refl }

-- ---- inputs

pub plain_hand : (h : Header) (ms : List Moment) (n : ℕ) (i : Input) → IsPlain i → arrived ms ≡ None → InHand h ms n (delivered_by i)
plain_hand h ms n (input.Packet from m) k apart = absurd k
plain_hand h ms n input.Boot k apart = apart
plain_hand h ms n input.Crash k apart = apart
plain_hand h ms n input.Tick k apart = apart
plain_hand h ms n input.CommandDue k apart = apart
plain_hand h ms n (input.Answered a) k apart = apart
plain_hand h ms n (input.Wrote d value a) k apart = apart
plain_hand h ms n (input.Commanded words) k apart = apart
plain_hand h ms n (input.Reported r good) k apart = apart
plain_hand h ms n (input.Client name client port) k apart = apart
