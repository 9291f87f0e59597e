-- Each thing that happens.
use Rattle.std.specs.Prelude.{ℕ, ◌≡◌, ◌≤◌, ◌-◌, ◌⊎◌, List, length, Option, None, Some, slice_get}
use Rattle.std.proofs.Common.{refl, sym, ap, subst, ◌∙◌, inl, inr}
use Rattle.cl_base.specs.Limits.{most_devices}
use Rattle.cl_base.specs.declared.method.Outcome as method
use Rattle.cl_base.specs.declared.packet.DropCause.TheVariants as drop
use Rattle.cmm_attempt.proofs.Basics.{same_some}
use Rattle.interconnect.specs.Links.{Packet, removing}
use Rattle.pgr_device.specs.Device.{Device}
use Rattle.pgr_device.specs.declared.command.PrCommand.{PrCommand}
use Rattle.pgr_device.specs.declared.command.PrCommand.TheVariants as command
use Rattle.schedule_text.specs.declared.line.Line.TheVariants as line
use Rattle.status_report.specs.declared.device_entry.DeviceEntry.TheVariants as device
use Rattle.status_report.specs.declared.entry.Entry.{Entry}
use Rattle.status_report.specs.declared.entry.Entry.TheVariants as entry
use Rattle.status_report.specs.declared.packet_entry.PacketEntry.TheVariants as packet
use Rattle.wire.specs.declared.message.Message.{Message}
use Rattle.history.specs.Contact.{AttemptsDiffer}
use Rattle.history.specs.Letters.{arrived}
use Rattle.history.specs.Moment.{Said}
use Rattle.run_devices.specs.queues.Views.{View}
use Rattle.node_model.specs.declared.cluster.Cluster.{Cluster}
use Rattle.node_model.specs.declared.input.Input.{Input}
use Rattle.node_model.specs.declared.input.Input.TheVariants as input
use Rattle.node_model.specs.declared.node.Node.{Node}
use Rattle.node_model.specs.declared.node.Node.TheVariants.{Down, Up}
use Rattle.refinement.specs.node_widths.Widths.{NodeFits}
use Rattle.refinement.proofs.DeviceWidths.{command_keeps}
use Rattle.refinement.specs.Courses.{Reply}
use Rattle.refinement.specs.Cuts.{doings}
use Rattle.refinement.specs.Doings.{after_all, given_all, site}
use Rattle.refinement.specs.Runs.{Nodes}
use Rattle.refinement.specs.Worlds.{Keeps}
use Rattle.world_model.specs.First.{first_cluster}
use Rattle.run_history.proofs.ContactWidths.{node_due}
use Rattle.run_history.proofs.Heard.{low_number}
use Rattle.run_history.specs.Happenings.{Commanded, Happening, IsUp, MayHappen, commanded, commanded_at, happened, removed}
use Rattle.run_history.specs.Happenings.Happening.{Arrives, Begins, Commands, Loses, Misses, Notes, Refuses, Repeats, Speaks, Strays, Takes, Writes}
use Rattle.run_history.specs.Scenes.{Scene, adding, passing, telling}
use Rattle.run_history.specs.Stages.{Sized, Stage, site_of}
use Rattle.run_history.specs.Wholes.{IsWhole}
use Rattle.run_seizings.proofs.Letters as letters
use Rattle.run_seizings.proofs.Moments as lines
use Rattle.run_seizings.proofs.Moments.{answer_fits, due_low, due_own, plain_fits, plain_no, plain_sent}
use Rattle.run_seizings.proofs.Steps.{Ground, OwnKeysOnly, answer_may, ground_of, plain_may}
use Rattle.run_seizings.specs.Sites.{IsSeizing}
use Rattle.run_devices.proofs.queues.Paths.{path_so}
use Rattle.run_devices.proofs.queues.Acts.{AsksBody}
use Rattle.run_devices.proofs.queues.Asking.{request_goes}
use Rattle.run_devices.proofs.queues.Changes.{Placed}
use Rattle.run_devices.proofs.validity.Moments.{AgreesAt}
use Rattle.run_devices.proofs.queues.Goes.{Goes}
use Rattle.run_devices.proofs.queues.Installing.{ShowsAt, calm_shows, no_packet, shows_of}
use Rattle.run_devices.proofs.queues.Moments.{IsRequest, TrustedAt, armed_strict, asked_around, asking_or, brought_hand, calm_strict, nobody, part_strict, pending_in, plain_calm, plain_hand, repeated_strict, said_strict, strays_strict, told_strict}
use Rattle.run_devices.proofs.queues.Steps.{Strict, plain_step, step_around}
use Rattle.run_devices.proofs.queues.Stills.{still}

-- what is known of a scene of a run
pub record Known (S : View) (s : Scene) : Type 0 where
  pub stage : Stage (first_cluster S.setting.header) s
  pub whole : IsWhole (first_cluster S.setting.header) s
  pub seizing : IsSeizing S.setting.header s
  pub many : length S.setting.header.devices ≤ most_devices

sized_of : (S : View) (s : Scene) → Known S s → Sized (first_cluster S.setting.header)
sized_of S s b = record { fits = b.whole.cluster.fits; small = b.whole.cluster.small }

placed_of : (S : View) (s : Scene) (n : ℕ) → Known S s → n ≤ 32 → Placed S (first_cluster S.setting.header) n
placed_of S s n b low = record { fixed = record { id = refl; low = low_number n low; few = low; many = b.many }; paths = λ d from. path_so S.setting.header n d from }

-- attempts differ once it has happened
abbrev pub Differs : View → Scene → Happening → Type 0
Differs S s x = AttemptsDiffer (happened (first_cluster S.setting.header) s x).moments

-- where a packet comes, its receiver holds valid what is told so
abbrev pub ValidAt : View → Scene → Happening → Type 0
ValidAt S s (Arrives number x m now ends) =
    TrustedAt S s.moments x.to m.body (s.nodes.node x.to) × ShowsAt S (telling (entry.Packet (packet.Delivered number x.from x.to)) (removed s number)).moments x.to m.body (s.nodes.node x.to)
ValidAt S s x = Unit {0}

-- ---- steps of nodes

takes_strict : (S : View) (s : Scene) (n now : ℕ) (ends : method.Outcome) (i : Input) → MayHappen (first_cluster S.setting.header) s (Takes n now ends i) → Known S s
    → Differs S s (Takes n now ends i) → AgreesAt S.setting.header s (Takes n now ends i) → Strict S s → Strict S (happened (first_cluster S.setting.header) s (Takes n now ends i))
takes_strict S s n now ends i may b differ agrees k =
    let c : Cluster = first_cluster S.setting.header in
    plain_step S c n now ends i s (sized_of S s b) (ground_of c s b.stage) may.0 may.2 (plain_sent s.nodes i may.1) (plain_fits i may.1) (plain_hand s.moments n i may.1 may.3)
    (plain_calm i may.1) (plain_may S.setting.header c n now ends (s.nodes.node n) (s.nodes.disk n).kept i (plain_no i may.1) may.2 (b.stage.fits.nodes n))
    (record { placed = placed_of S s n b may.0.1; seizing = b.seizing; hand = lines.plain_hand S.setting.header s.moments n i may.1 may.3; differ = differ; agrees = agrees; shows = λ replies w. no_packet S c n i (site_of s.nodes n) (doings c n now ends replies i (s.nodes.node n)) (record s { nodes = w }) may.1 }) k

-- the walk of a node that is up
request_walk : (S : View) (c : Cluster) (n now : ℕ) (ends : method.Outcome) (v w : Nodes) (node : Node) (replies : List Reply) (from : ℕ) (m : Message) (r : IsRequest m.body) (t : Scene)
    → IsUp node → Goes S n (Some (from, m)) v w (pending_in c n node r.kind r.epoch r.members r.device) node t
    → Goes S n (Some (from, m)) v w None (after_all c n (site node (v.disk n).kept) (doings c n now ends replies (input.Packet from m) node)).node
    (passing n (given_all c n (site node (v.disk n).kept) (doings c n now ends replies (input.Packet from m) node)) t)
request_walk S c n now ends v w Down replies from m r t is k = absurd is
request_walk S c n now ends v w (Up x) replies from m r t is k =
    request_goes S c n now ends (Some (from, m)) v w (v.disk n).kept x replies from r.epoch r.members r.device r.kind m t r.is k

arrives_strict : (S : View) (s : Scene) (number : ℕ) (x : Packet) (m : Message) (now : ℕ) (ends : method.Outcome)
    → MayHappen (first_cluster S.setting.header) s (Arrives number x m now ends) → Known S s → Differs S s (Arrives number x m now ends) → ValidAt S s (Arrives number x m now ends) → AgreesAt S.setting.header s (Arrives number x m now ends)
    → Strict S s
    → Strict S (happened (first_cluster S.setting.header) s (Arrives number x m now ends))
arrives_strict S s number x m now ends may b differ valid agrees k = by_body (asking_or m.body)
  where
    c : Cluster
    c = first_cluster S.setting.header

    t : Scene
    t = telling (entry.Packet (packet.Delivered number x.from x.to)) (removed s number)

    by_body : (AsksBody m.body → ⊥) ⊎ IsRequest m.body → Strict S (happened c s (Arrives number x m now ends))
    by_body (inl ban) =
        plain_step S c x.to now ends (input.Packet x.from m) t (sized_of S s b) (ground_of c s b.stage) may.3 may.5 may.4 tt
        (brought_hand S.setting.header t.moments x.to x.from m (letters.arrived_hand S.setting.header s.moments s.links number x m may.0 may.1 b.seizing.carried)) ban
        (plain_may S.setting.header c x.to now ends (s.nodes.node x.to) (s.nodes.disk x.to).kept (input.Packet x.from m) tt may.5 (b.stage.fits.nodes x.to))
        (record {
          placed = placed_of S s x.to b may.3.1;
          seizing = lines.delivered_seizes S.setting.header s number x.from x.to b.seizing;
          hand = letters.arrived_hand S.setting.header s.moments s.links number x m may.0 may.1 b.seizing.carried;
          differ = differ;
          agrees = agrees;
          shows = λ replies w.
              shows_of S c x.to now ends replies x.from m (s.nodes.node x.to) (s.nodes.disk x.to).kept (record t { nodes = w }) valid.1;
        })
        (calm_strict S s number x m may.0 may.1 ban b.seizing k)
    by_body (inr r) =
        step_around S c x.to now ends (input.Packet x.from m) t (pending_in c x.to (s.nodes.node x.to) r.kind r.epoch r.members r.device) (sized_of S s b) (ground_of c s b.stage)
        may.3 may.5 may.4 tt (brought_hand S.setting.header t.moments x.to x.from m (letters.arrived_hand S.setting.header s.moments s.links number x m may.0 may.1 b.seizing.carried))
        (plain_may S.setting.header c x.to now ends (s.nodes.node x.to) (s.nodes.disk x.to).kept (input.Packet x.from m) tt may.5 (b.stage.fits.nodes x.to))
        (record {
          placed = placed_of S s x.to b may.3.1;
          seizing = lines.delivered_seizes S.setting.header s number x.from x.to b.seizing;
          hand = letters.arrived_hand S.setting.header s.moments s.links number x m may.0 may.1 b.seizing.carried;
          differ = differ;
          agrees = agrees;
          shows = λ replies w.
              shows_of S c x.to now ends replies x.from m (s.nodes.node x.to) (s.nodes.disk x.to).kept (record t { nodes = w }) valid.1;
        })
        (λ replies w u small differs agree shows z l. request_walk S c x.to now ends s.nodes w (s.nodes.node x.to) replies x.from m r u may.2 l)
        (asked_around S s number x m r b.many may.0 may.1 valid.0 b.seizing k)

-- a command at a device leaves nodes and lines
left_strict : (S : View) (s : Scene) (n d : ℕ) (k : PrCommand) (o : Option Device) → Strict S s → Strict S (commanded_at s n d o k).scene
left_strict S s n d k None l = l
left_strict S s n d k (Some x) l = l

left_nodes : (s : Scene) (n d : ℕ) (k : PrCommand) (o : Option Device) → (commanded_at s n d o k).scene.nodes ≡ s.nodes
left_nodes s n d k None = refl
left_nodes s n d k (Some x) = refl

left_moments : (s : Scene) (n d : ℕ) (k : PrCommand) (o : Option Device) → (commanded_at s n d o k).scene.moments ≡ s.moments
left_moments s n d k None = refl
left_moments s n d k (Some x) = refl

writes_strict : (S : View) (s : Scene) (n d value now : ℕ) (ends : method.Outcome) → MayHappen (first_cluster S.setting.header) s (Writes n d value now ends) → Known S s
    → Differs S s (Writes n d value now ends) → AgreesAt S.setting.header s (Writes n d value now ends) → Strict S s → Strict S (happened (first_cluster S.setting.header) s (Writes n d value now ends))
writes_strict S s n d value now ends may b differ agrees k =
    let c : Cluster = first_cluster S.setting.header in
    let o : Commanded = commanded s n d (command.Write value) in
    let device : Option Device = slice_get s.devices (d - 1) in
    let nodes : o.scene.nodes ≡ s.nodes = left_nodes s n d (command.Write value) device in
    let ground : Ground c o.scene.nodes = subst (Ground c) (sym nodes) (ground_of c s b.stage) in
    let quiet : arrived o.scene.moments ≡ None = ap arrived (left_moments s n d (command.Write value) device) ∙ may.3 in
    plain_step S c n now ends (input.Wrote d value o.answer) o.scene (sized_of S s b) ground may.0 may.2 tt tt (nobody o.scene.moments n quiet) (λ z. z)
    (plain_may S.setting.header c n now ends (o.scene.nodes.node n) (o.scene.nodes.disk n).kept (input.Wrote d value o.answer) tt may.2 (ground.fits.nodes n))
    (record {
      placed = placed_of S s n b may.0.1;
      seizing = (lines.left_at S.setting.header c s n d (command.Write value) device (ground_of c s b.stage) b.seizing).seizing;
      hand = quiet;
      differ = differ;
      agrees = agrees;
      shows = λ replies w.
          calm_shows S c n None (site_of o.scene.nodes n) (doings c n now ends replies (input.Wrote d value o.answer) (o.scene.nodes.node n)) (record o.scene { nodes = w }) (λ besides i says. says);
    })
    (left_strict S s n d (command.Write value) device k)

commands_strict : (S : View) (s : Scene) (n d : ℕ) (q : PrCommand) (now : ℕ) (ends : method.Outcome) → MayHappen (first_cluster S.setting.header) s (Commands n d q now ends) → Known S s
    → Differs S s (Commands n d q now ends) → AgreesAt S.setting.header s (Commands n d q now ends) → Strict S s → Strict S (happened (first_cluster S.setting.header) s (Commands n d q now ends))
commands_strict S s n d q now ends may b differ agrees k =
    let c : Cluster = first_cluster S.setting.header in
    let o : Commanded = commanded s n d q in
    let device : Option Device = slice_get s.devices (d - 1) in
    let nodes : o.scene.nodes ≡ s.nodes = left_nodes s n d q device in
    let ground : Ground c o.scene.nodes = subst (Ground c) (sym nodes) (ground_of c s b.stage) in
    let quiet : arrived o.scene.moments ≡ None = ap arrived (left_moments s n d q device) ∙ may.4 in
    let low : 1 ≤ d = due_low c n (s.nodes.node n) d q (b.stage.fits.nodes n) may.2 in
    let keeps : (x : Device) → slice_get s.devices (d - 1) ≡ Some x → Keeps x n q =
    λ x is. command_keeps x n q may.0.0 may.0.1
    (node_due c n d q (Some (s.nodes.node n)) b.whole.cluster.small may.0.1
    (λ node at. subst (λ z. NodeFits c n z) (same_some (s.nodes.node n) node at) (b.stage.fits.nodes n)) may.2)
    (b.stage.devices (d - 1) x is) in
    plain_step S c n now ends (input.Answered o.answer) o.scene (sized_of S s b) ground may.0 may.3 tt (answer_fits c s n d q device keeps) (nobody o.scene.moments n quiet) (λ z. z)
    (answer_may S.setting.header c n now ends (o.scene.nodes.node n) (o.scene.nodes.disk n).kept o.answer
    (subst (λ (v : Nodes). OwnKeysOnly S.setting.header (v.node n) o.answer) (sym nodes) (due_own S.setting.header s n d q (s.nodes.node n) b.whole may.2 low)))
    (record {
      placed = placed_of S s n b may.0.1;
      seizing = (lines.left_at S.setting.header c s n d q device (ground_of c s b.stage) b.seizing).seizing;
      hand = quiet;
      differ = differ;
      agrees = agrees;
      shows = λ replies w.
          calm_shows S c n None (site_of o.scene.nodes n) (doings c n now ends replies (input.Answered o.answer) (o.scene.nodes.node n)) (record o.scene { nodes = w }) (λ besides i says. says);
    })
    (left_strict S s n d q device k)

-- ---- each

pub happening_strict : (S : View) (s : Scene) (x : Happening) → MayHappen (first_cluster S.setting.header) s x → Known S s → Differs S s x → ValidAt S s x → AgreesAt S.setting.header s x → Strict S s
    → Strict S (happened (first_cluster S.setting.header) s x)
happening_strict S s (Speaks e) may b differ valid agrees k = armed_strict S (first_cluster S.setting.header) e (adding (Said (line.Event e)) s) (said_strict S s e k)
happening_strict S s (Begins e) may b differ valid agrees k = part_strict S s e k
happening_strict S s (Notes e) may b differ valid agrees k = told_strict S s s.links (entry.Schedule e) (λ n. still S s.moments n (entry.Schedule e) tt) k
happening_strict S s (Takes n now ends i) may b differ valid agrees k = takes_strict S s n now ends i may b differ agrees k
happening_strict S s (Arrives number x m now ends) may b differ valid agrees k = arrives_strict S s number x m now ends may b differ valid agrees k
happening_strict S s (Strays number x) may b differ valid agrees k = strays_strict S s number x may.0 may.1 b.seizing k
happening_strict S s (Misses number x) may b differ valid agrees k =
    let e : Entry = entry.Packet (packet.Dropped number drop.Down) in
    told_strict S s (removing s.links number) e (λ n. still S s.moments n e tt) k
happening_strict S s (Loses number x) may b differ valid agrees k =
    let e : Entry = entry.Packet (packet.Lost number) in
    told_strict S s (removing s.links number) e (λ n. still S s.moments n e tt) k
happening_strict S s (Repeats number x) may b differ valid agrees k = repeated_strict S s number x k
happening_strict S s (Commands n d q now ends) may b differ valid agrees k = commands_strict S s n d q now ends may b differ agrees k
happening_strict S s (Writes n d value now ends) may b differ valid agrees k = writes_strict S s n d value now ends may b differ agrees k
happening_strict S s (Refuses n d value cause) may b differ valid agrees k =
    let e : Entry = entry.Device (device.Refused n d value cause) in
    told_strict S s s.links e (λ n. still S s.moments n e tt) k
