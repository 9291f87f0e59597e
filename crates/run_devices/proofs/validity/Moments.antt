-- Each thing that happens keeps what is told of valid devices.
use Rattle.std.specs.Prelude.{ℕ, ◌-◌, ◌≡◌, ◌≢◌, ◌≤◌, ◌⊎◌, ◌==◌, ◌&&◌, true, false, List, length, Option, None, Some, slice_get}
use Rattle.std.proofs.Common.{refl, sym, ap, subst, ◌∙◌, inl, inr}
use Rattle.cl_base.specs.Limits.{most_devices}
use Rattle.cl_base.specs.declared.header.Header.{Header}
use Rattle.cl_base.specs.declared.method.Outcome as method
use Rattle.cl_base.specs.declared.packet.DropCause.{DropCause}
use Rattle.cluster_ties.proofs.First.{in_order}
use Rattle.cmm_attempt.proofs.Basics.{same_some}
use Rattle.cmm_member.specs.Records.{NodeRecord}
use Rattle.interconnect.specs.Links as links
use Rattle.interconnect.specs.Links.{Links, Packet, sending}
use Rattle.machine_base.proofs.Puts.{put_here, put_there, same_or_not}
use Rattle.machine_base.specs.Put.{put}
use Rattle.refinement.specs.node_widths.Widths.{NodeFits}
use Rattle.pgr_device.specs.Device.{Device}
use Rattle.pgr_device.specs.declared.command.PrCommand.{PrCommand}
use Rattle.pgr_device.specs.declared.command.PrCommand.TheVariants as command
use Rattle.record_disk.specs.Disks.{DiskState, armed}
use Rattle.schedule_text.specs.declared.event.Event.{Event}
use Rattle.schedule_text.specs.declared.event.Event.TheVariants as event
use Rattle.schedule_text.specs.declared.line.Line.TheVariants as line
use Rattle.status_report.specs.declared.entry.Entry.{Entry}
use Rattle.status_report.specs.declared.entry.Entry.TheVariants as entry
use Rattle.status_report.specs.declared.packet_entry.PacketEntry.TheVariants as packet
use Rattle.wire.specs.declared.message.Body.{Body}
use Rattle.wire.specs.declared.message.Body.TheVariants as body
use Rattle.wire.specs.declared.message.Message.{Message}
use Rattle.history.specs.Contact.{AttemptsDiffer}
use Rattle.history.specs.Letters.{arrived, passes}
use Rattle.history.specs.Member.{in_collect}
use Rattle.history.specs.Moment.{Moment, Part, Said, Told}
use Rattle.history.specs.Names as name
use Rattle.history.specs.Names.{named, same_name}
use Rattle.node_model.specs.declared.cluster.Cluster.{Cluster}
use Rattle.node_model.specs.declared.input.Input.{Input}
use Rattle.node_model.specs.declared.input.Input.TheVariants as input
use Rattle.node_model.specs.declared.node.Node.{Node}
use Rattle.refinement.proofs.DeviceWidths.{command_keeps}
use Rattle.refinement.proofs.Handlers.{delivered_by}
use Rattle.refinement.specs.Runs.{Nodes}
use Rattle.refinement.specs.Ties.{setting_of}
use Rattle.refinement.specs.Worlds.{Keeps}
use Rattle.world_model.specs.First.{first_cluster}
use Rattle.world_model.specs.Lines.{left_by}
use Rattle.world_model.specs.Sends.{name_of}
use Rattle.run_history.proofs.ContactWidths.{node_due}
use Rattle.run_history.specs.Causes.{Brought}
use Rattle.run_history.proofs.Heard.{low_number}
use Rattle.run_history.specs.Happenings.{Commanded, Happening, IsPlain, MayHappen, armed_by, commanded, commanded_at, copying, happened, removed}
use Rattle.run_history.specs.Happenings.Happening.{Arrives, Commands, Takes, Writes}
use Rattle.run_history.specs.Scenes.{Scene, adding, dropped_so, telling, with_links}
use Rattle.run_history.specs.Stages.{Sized, Stage, site_of}
use Rattle.run_history.specs.Wholes.{IsWhole}
use Rattle.run_messages.proofs.records.Arrivals.{arrived_hand}
use Rattle.run_seizings.proofs.Changes.{NotCollect}
use Rattle.run_seizings.specs.Sites.{IsSeizing}
use Rattle.run_seizings.proofs.Letters as letters
use Rattle.run_seizings.proofs.Moments as lines
use Rattle.run_seizings.proofs.Moments.{answer_fits, due_low, due_own, plain_fits, plain_no, plain_sent}
use Rattle.run_seizings.proofs.Promising.{and_both, same_so}
use Rattle.run_seizings.proofs.Steps.{Ground, OwnKeysOnly, answer_may, ground_of, plain_may}
use Rattle.run_devices.proofs.installs.Stepping.{Standing, arrives_install, commands_install, takes_install, writes_install}
use Rattle.run_devices.specs.validity.Kept.{NoExcuse, SiteSo, readying}
use Rattle.run_devices.specs.validity.Laws.{ShowsValidity}
use Rattle.run_devices.proofs.validity.Courses.{IsTrusting}
use Rattle.run_devices.proofs.validity.Doings.{Fixed}
use Rattle.run_devices.proofs.validity.Dues.{first_in}
use Rattle.run_devices.proofs.validity.Goes.{HandSo, IsCollect}
use Rattle.run_devices.proofs.validity.Steps.{Around, StepAgrees, Strict, readying_step, trusting_step}
use Rattle.run_devices.proofs.validity.Commands.{FirstIn, answer_step}
use Rattle.run_devices.proofs.validity.Stills.{Still, entered_more, site_stays, still}

-- ---- what is said and told

moment_strict : (h : Header) (s : Scene) (l : Links) (x : Moment) → ((n : ℕ) → Still h s.moments n x) → ShowsValidity h s.moments x → Strict h s → Strict h (adding x (with_links s l))
moment_strict h s l x same shown k = record { sites = λ n. site_stays h s.moments x n NoExcuse (site_of s.nodes n) (same n) (k.sites n); shown = (shown, k.shown) }

pub said_strict : (h : Header) (s : Scene) (e : Event) → Strict h s → Strict h (adding (Said (line.Event e)) s)
said_strict h s e k =
    moment_strict h s s.links (Said (line.Event e))
    (λ n. record { valid = λ d. refl; moved = refl; last = refl; entered = λ d q is. entered_more s.moments n d q (Said (line.Event e)) refl is }) tt k

pub part_strict : (h : Header) (s : Scene) (e : Event) → Strict h s → Strict h (adding (Part e) s)
part_strict h s e k =
    moment_strict h s s.links (Part e) (λ n. record { valid = λ d. refl; moved = refl; last = refl; entered = λ d q is. entered_more s.moments n d q (Part e) refl is }) tt k

-- a line that is told of no node's step
pub told_strict : (h : Header) (s : Scene) (l : Links) (e : Entry) → ((n : ℕ) → Still h s.moments n (Told e)) → ShowsValidity h s.moments (Told e) → Strict h s
    → Strict h (telling e (with_links s l))
told_strict h s l e same shown k = moment_strict h s l (Told e) same shown k

pub delivered_strict : (h : Header) (s : Scene) (number from to : ℕ) → Strict h s → Strict h (telling (entry.Packet (packet.Delivered number from to)) (removed s number))
delivered_strict h s number from to k =
    let e : Entry = entry.Packet (packet.Delivered number from to) in
    moment_strict h s (links.removing s.links number) (Told e) (λ n. still h s.moments n e tt) tt k

dropped_strict : (h : Header) (s : Scene) (o : Option (ℕ × DropCause)) → Strict h s → Strict h (dropped_so o s)
dropped_strict h s None k = k
dropped_strict h s (Some drop) k =
    let e : Entry = entry.Packet (packet.Dropped drop.0 drop.1) in
    moment_strict h s s.links (Told e) (λ n. still h s.moments n e tt) tt k

pub repeated_strict : (h : Header) (s : Scene) (number : ℕ) (x : Packet) → Strict h s → Strict h (copying number (sending s.links x.from x.to x.bytes) s)
repeated_strict h s number x k =
    let o : links.Outcome = sending s.links x.from x.to x.bytes in
    let e : Entry = entry.Packet (packet.Repeated number s.links.next) in
    dropped_strict h (telling e (with_links s o.after)) o.sent.dropped (moment_strict h s o.after (Told e) (λ n. still h s.moments n e tt) tt k)

arm_all : (P : ℕ → Node → NodeRecord → Type 0) (v : Nodes) (n : ℕ) (d : DiskState) → d.kept ≡ (v.disk n).kept → ((j : ℕ) → P j (v.node j) (v.disk j).kept)
    → (j : ℕ) → P j (v.node j) (put v.disk n d j).kept
arm_all P v n d same all j = go (same_or_not j n)
  where
    go : (j ≡ n) ⊎ (j ≢ n) → P j (v.node j) (put v.disk n d j).kept
    go (inl e) =
        subst (λ i. P i (v.node i) (put v.disk n d i).kept) (sym e)
        (subst (λ (z : DiskState). P n (v.node n) z.kept) (sym (put_here v.disk n d)) (subst (λ r. P n (v.node n) r) (sym same) (all n)))
    go (inr ne) = subst (λ (z : DiskState). P j (v.node j) z.kept) (sym (put_there v.disk n d j ne)) (all j)

pub armed_strict : (h : Header) (c : Cluster) (e : Event) (s : Scene) → Strict h s → Strict h (armed_by c e s)
armed_strict h c (event.CrashAt n calls choice) s k = record {
  sites = arm_all (λ j node kept. SiteSo h s.moments j NoExcuse (record { node = node; disk = kept })) s.nodes n (armed (s.nodes.disk n) calls (left_by choice)) refl k.sites;
  shown = k.shown;
}
armed_strict h c (event.Fault n d done) s k = record { sites = k.sites; shown = k.shown }
armed_strict h c _ s k = k

-- ---- what is in hand

nobody : (ms : List Moment) (n : ℕ) → arrived ms ≡ None → HandSo ms n None
nobody ms n none = record { collects = λ is. absurd is; calm = λ is. ap (λ o. passes (λ l. same_name l.name name.Collect && (l.to == n)) o) none }

plain_hand : (ms : List Moment) (n : ℕ) (i : Input) → IsPlain i → arrived ms ≡ None → HandSo ms n (delivered_by i)
plain_hand ms n (input.Packet from m) k none = absurd k
plain_hand ms n input.Boot k none = nobody ms n none
plain_hand ms n input.Crash k none = nobody ms n none
plain_hand ms n input.Tick k none = nobody ms n none
plain_hand ms n input.CommandDue k none = nobody ms n none
plain_hand ms n (input.Answered a) k none = nobody ms n none
plain_hand ms n (input.Wrote d value a) k none = nobody ms n none
plain_hand ms n (input.Commanded words) k none = nobody ms n none
plain_hand ms n (input.Reported r good) k none = nobody ms n none
plain_hand ms n (input.Client address client port) k none = nobody ms n none

collect_not : (b : Body) → NotCollect b → same_name (named (name_of b)) name.Collect ≡ false
collect_not (body.Collect p members) is = absurd is
collect_not _ is = refl

collect_so : (b : Body) → IsCollect b → same_name (named (name_of b)) name.Collect ≡ true
collect_so (body.Collect p members) is = refl
collect_so _ is = absurd is

brought_hand : (ms : List Moment) (n from : ℕ) (m : Message) → Brought ms n from m.body → HandSo ms n (Some (from, m))
brought_hand ms n from m b =
    let here : in_collect n ms ≡ (same_name b.letter.name name.Collect && (b.letter.to == n)) =
    ap (λ o. passes (λ l. same_name l.name name.Collect && (l.to == n)) o) b.here in
    record {
      collects = λ is.
          here ∙ and_both (same_name b.letter.name name.Collect) (b.letter.to == n) (ap (λ z. same_name z name.Collect) b.called ∙ collect_so m.body is)
          (same_so b.letter.to n b.receiver);
      calm = λ is. here ∙ ap (λ t. t && (b.letter.to == n)) (ap (λ z. same_name z name.Collect) b.called ∙ collect_not m.body is);
    }

-- ---- steps of nodes

-- what is known of a scene of a run
pub record Known (h : Header) (s : Scene) : Type 0 where
  pub stage : Stage (first_cluster h) s
  pub whole : IsWhole (first_cluster h) s
  pub seizing : IsSeizing h s
  pub many : length h.devices ≤ most_devices
  pub standing : Standing h s

sized_of : (h : Header) (s : Scene) → Known h s → Sized (first_cluster h)
sized_of h s b = record { fits = b.whole.cluster.fits; small = b.whole.cluster.small }

fixed_of : (h : Header) (s : Scene) (n : ℕ) → Known h s → n ≤ 32 → Fixed h (first_cluster h) n
fixed_of h s n b low = record { id = refl; low = low_number n low; few = low; many = b.many }

-- attempts differ once it has happened
abbrev pub Differs : Header → Scene → Happening → Type 0
Differs h s x = AttemptsDiffer (happened (first_cluster h) s x).moments

-- what a node installs then, it does with the record that the lines tell
abbrev pub AgreesAt : Header → Scene → Happening → Type 0
AgreesAt h s (Takes n now ends i) = StepAgrees h (first_cluster h) n now ends i s
AgreesAt h s (Arrives number x m now ends) =
    StepAgrees h (first_cluster h) x.to now ends (input.Packet x.from m) (telling (entry.Packet (packet.Delivered number x.from x.to)) (removed s number))
AgreesAt h s (Commands n d q now ends) = StepAgrees h (first_cluster h) n now ends (input.Answered (commanded s n d q).answer) (commanded s n d q).scene
AgreesAt h s (Writes n d value now ends) =
    StepAgrees h (first_cluster h) n now ends (input.Wrote d value (commanded s n d (command.Write value)).answer) (commanded s n d (command.Write value)).scene
AgreesAt h s _ = Unit {0}

pub takes_strict : (h : Header) (s : Scene) (n now : ℕ) (ends : method.Outcome) (i : Input) → MayHappen (first_cluster h) s (Takes n now ends i) → Known h s
    → Differs h s (Takes n now ends i) → IsTrusting i → Strict h s
    → Strict h (happened (first_cluster h) s (Takes n now ends i)) × AgreesAt h s (Takes n now ends i)
takes_strict h s n now ends i may b differ trusts k =
    let c : Cluster = first_cluster h in
    trusting_step h c n now ends i s (sized_of h s b) (ground_of c s b.stage) may.0 may.2 (plain_sent s.nodes i may.1) (plain_fits i may.1)
    (plain_hand s.moments n i may.1 may.3) trusts
    (plain_may h c n now ends (s.nodes.node n) (s.nodes.disk n).kept i (plain_no i may.1) may.2 (b.stage.fits.nodes n))
    (record { fixed = fixed_of h s n b may.0.1; seizing = b.seizing; hand = lines.plain_hand h s.moments n i may.1 may.3; differ = differ; installs = takes_install h s n now ends i b.standing may differ }) k

pub arrives_strict : (h : Header) (s : Scene) (number : ℕ) (x : Packet) (m : Message) (now : ℕ) (ends : method.Outcome)
    → MayHappen (first_cluster h) s (Arrives number x m now ends) → Known h s → Differs h s (Arrives number x m now ends) → Strict h s
    → Strict h (happened (first_cluster h) s (Arrives number x m now ends)) × AgreesAt h s (Arrives number x m now ends)
arrives_strict h s number x m now ends may b differ k =
    let c : Cluster = first_cluster h in
    let t : Scene = telling (entry.Packet (packet.Delivered number x.from x.to)) (removed s number) in
    trusting_step h c x.to now ends (input.Packet x.from m) t (sized_of h s b) (ground_of c s b.stage) may.3 may.5 may.4 tt
    (brought_hand t.moments x.to x.from m (arrived_hand c s number x m may.0 may.1 b.stage)) tt
    (plain_may h c x.to now ends (s.nodes.node x.to) (s.nodes.disk x.to).kept (input.Packet x.from m) tt may.5 (b.stage.fits.nodes x.to))
    (record {
      fixed = fixed_of h s x.to b may.3.1;
      seizing = lines.delivered_seizes h s number x.from x.to b.seizing;
      hand = letters.arrived_hand h s.moments s.links number x m may.0 may.1 b.seizing.carried;
      differ = differ;
      installs = arrives_install h s number x m now ends b.standing may differ;
    })
    (delivered_strict h s number x.from x.to k)

-- a command at a device leaves nodes and lines
left_strict : (h : Header) (s : Scene) (n d : ℕ) (k : PrCommand) (o : Option Device) → Strict h s → Strict h (commanded_at s n d o k).scene
left_strict h s n d k None l = l
left_strict h s n d k (Some x) l = record { sites = l.sites; shown = l.shown }

left_around : (h : Header) (s : Scene) (n d : ℕ) (k : PrCommand) (o : Option Device) → Around h s n (readying (site_of s.nodes n))
    → Around h (commanded_at s n d o k).scene n (readying (site_of (commanded_at s n d o k).scene.nodes n))
left_around h s n d k None l = l
left_around h s n d k (Some x) l = record { here = l.here; there = l.there; shown = l.shown }

left_nodes : (s : Scene) (n d : ℕ) (k : PrCommand) (o : Option Device) → (commanded_at s n d o k).scene.nodes ≡ s.nodes
left_nodes s n d k None = refl
left_nodes s n d k (Some x) = refl

left_moments : (s : Scene) (n d : ℕ) (k : PrCommand) (o : Option Device) → (commanded_at s n d o k).scene.moments ≡ s.moments
left_moments s n d k None = refl
left_moments s n d k (Some x) = refl

pub writes_strict : (h : Header) (s : Scene) (n d value now : ℕ) (ends : method.Outcome) → MayHappen (first_cluster h) s (Writes n d value now ends) → Known h s
    → Differs h s (Writes n d value now ends) → Strict h s
    → Strict h (happened (first_cluster h) s (Writes n d value now ends)) × AgreesAt h s (Writes n d value now ends)
writes_strict h s n d value now ends may b differ k =
    let c : Cluster = first_cluster h in
    let o : Commanded = commanded s n d (command.Write value) in
    let device : Option Device = slice_get s.devices (d - 1) in
    let nodes : o.scene.nodes ≡ s.nodes = left_nodes s n d (command.Write value) device in
    let ground : Ground c o.scene.nodes = subst (Ground c) (sym nodes) (ground_of c s b.stage) in
    trusting_step h c n now ends (input.Wrote d value o.answer) o.scene (sized_of h s b) ground may.0 may.2 tt tt
    (nobody o.scene.moments n (ap arrived (left_moments s n d (command.Write value) device) ∙ may.3)) tt
    (plain_may h c n now ends (o.scene.nodes.node n) (o.scene.nodes.disk n).kept (input.Wrote d value o.answer) tt may.2 (ground.fits.nodes n))
    (record {
      fixed = fixed_of h s n b may.0.1;
      seizing = (lines.left_at h c s n d (command.Write value) device (ground_of c s b.stage) b.seizing).seizing;
      hand = ap arrived (left_moments s n d (command.Write value) device) ∙ may.3;
      differ = differ;
      installs = writes_install h s n d value now ends b.standing may differ;
    })
    (left_strict h s n d (command.Write value) device k)

pub readies_around : (h : Header) (s : Scene) (n now : ℕ) (ends : method.Outcome) → MayHappen (first_cluster h) s (Takes n now ends input.CommandDue) → Known h s
    → Differs h s (Takes n now ends input.CommandDue) → Strict h s
    → Around h (happened (first_cluster h) s (Takes n now ends input.CommandDue)) n (readying (site_of (happened (first_cluster h) s (Takes n now ends input.CommandDue)).nodes n))
    × AgreesAt h s (Takes n now ends input.CommandDue)
readies_around h s n now ends may b differ k =
    let c : Cluster = first_cluster h in
    readying_step h c n now ends s (sized_of h s b) (ground_of c s b.stage) may.0 may.2 (b.whole.sites n).valid (nobody s.moments n may.3)
    (plain_may h c n now ends (s.nodes.node n) (s.nodes.disk n).kept input.CommandDue tt may.2 (b.stage.fits.nodes n))
    (record { fixed = fixed_of h s n b may.0.1; seizing = b.seizing; hand = may.3; differ = differ; installs = takes_install h s n now ends input.CommandDue b.standing may differ }) k

pub commands_strict : (h : Header) (s : Scene) (n d : ℕ) (q : PrCommand) (now : ℕ) (ends : method.Outcome) → MayHappen (first_cluster h) s (Commands n d q now ends) → Known h s
    → Differs h s (Commands n d q now ends) → Around h s n (readying (site_of s.nodes n))
    → Strict h (happened (first_cluster h) s (Commands n d q now ends)) × AgreesAt h s (Commands n d q now ends)
commands_strict h s n d q now ends may b differ k =
    let c : Cluster = first_cluster h in
    let o : Commanded = commanded s n d q in
    let device : Option Device = slice_get s.devices (d - 1) in
    let nodes : o.scene.nodes ≡ s.nodes = left_nodes s n d q device in
    let ground : Ground c o.scene.nodes = subst (Ground c) (sym nodes) (ground_of c s b.stage) in
    let low : 1 ≤ d = due_low c n (s.nodes.node n) d q (b.stage.fits.nodes n) may.2 in
    let keeps : (x : Device) → slice_get s.devices (d - 1) ≡ Some x → Keeps x n q =
    λ x is. command_keeps x n q may.0.0 may.0.1
    (node_due c n d q (Some (s.nodes.node n)) b.whole.cluster.small may.0.1
    (λ node at. subst (λ z. NodeFits c n z) (same_some (s.nodes.node n) node at) (b.stage.fits.nodes n)) may.2)
    (b.stage.devices (d - 1) x is) in
    answer_step h c n now d q ends o.answer o.scene (sized_of h s b) ground may.0 may.3 (answer_fits c s n d q device keeps)
    (nobody o.scene.moments n (ap arrived (left_moments s n d q device) ∙ may.4))
    (answer_may h c n now ends (o.scene.nodes.node n) (o.scene.nodes.disk n).kept o.answer
    (subst (λ (v : Nodes). OwnKeysOnly h (v.node n) o.answer) (sym nodes) (due_own h s n d q (s.nodes.node n) b.whole may.2 low)))
    (record {
      fixed = fixed_of h s n b may.0.1;
      seizing = (lines.left_at h c s n d q device (ground_of c s b.stage) b.seizing).seizing;
      hand = ap arrived (left_moments s n d q device) ∙ may.4;
      differ = differ;
      installs = commands_install h s n d q now ends b.standing may differ;
    })
    (subst (λ (v : Nodes). FirstIn d q (v.node n)) (sym nodes)
    (first_in c b.whole.machine n d q (s.nodes.disk n).kept (s.nodes.node n) (in_order (setting_of c) b.whole.machine b.whole.reached) (b.whole.sites n) (b.stage.fits.nodes n) may.1 may.2))
    (left_around h s n d q device k)
