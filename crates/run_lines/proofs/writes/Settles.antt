-- Each thing that happens, and all of them.
use Rattle.std.specs.Prelude.{ℕ, ◌-◌, ◌^◌, ◌≡◌, ◌≢◌, ◌≤◌, ◌<◌, ◌⊎◌, true, List, [], ◌∷◌, Option, None, Some, length, slice_get}
use Rattle.std.specs.List.{AllByRecursion}
use Rattle.std.specs.Option.{option_and_then}
use Rattle.std.proofs.Common.{refl, sym, ap, subst, ◌∙◌, inl, inr}
use Rattle.cl_base.specs.Limits.{most_devices}
use Rattle.cl_base.specs.declared.header.Header.{Header}
use Rattle.cl_base.specs.declared.method.Outcome as method
use Rattle.cl_base.specs.declared.packet.DropCause.{DropCause}
use Rattle.cl_base.specs.declared.packet.DropCause.TheVariants as drop
use Rattle.cluster_machine.specs.Cluster.{Cluster as Whole}
use Rattle.cluster_ties.proofs.First.{in_order}
use Rattle.cluster_ties.specs.Ties.{NodeAt}
use Rattle.cmm_attempt.proofs.Basics.{none_some, same_some}
use Rattle.cmm_member.specs.Records.{NodeRecord}
use Rattle.cluster_machine.proofs.Whole.{InOrder}
use Rattle.device_queue.specs.Queue.{due_device, next_of}
use Rattle.history.specs.Deeds.{Acked, Deed, Proposed, Started, deeds}
use Rattle.history.specs.Moment.{Part, Said}
use Rattle.interconnect.specs.Links as links
use Rattle.interconnect.specs.Links.{Packet, sending}
use Rattle.machine_base.proofs.Puts.{put_here, put_there, same_or_not}
use Rattle.machine_base.specs.Put.{put}
use Rattle.membership_machine.proofs.Growth.{grows_same}
use Rattle.membership_machine.specs.Events.{Run}
use Rattle.membership_machine.specs.Growth.{Grows}
use Rattle.membership_machine.specs.State.{Memberships, first_memberships}
use Rattle.refinement.specs.node_widths.Widths.{NodeFits}
use Rattle.pgr_device.specs.Device.{Device}
use Rattle.pgr_device.specs.declared.command.PrCommand.{PrCommand}
use Rattle.pgr_device.specs.declared.command.PrCommand.TheVariants as command
use Rattle.record_disk.specs.Disks.{DiskState, armed}
use Rattle.schedule_text.specs.declared.event.Event.{Event}
use Rattle.schedule_text.specs.declared.event.Event.TheVariants as event
use Rattle.schedule_text.specs.declared.line.Line.TheVariants as line
use Rattle.seize.specs.Answers.{Answer}
use Rattle.status_report.specs.declared.device_entry.DeviceEntry.TheVariants as device
use Rattle.status_report.specs.declared.entry.Entry.{Entry}
use Rattle.status_report.specs.declared.entry.Entry.TheVariants as entry
use Rattle.status_report.specs.declared.packet_entry.PacketEntry.{PacketEntry}
use Rattle.status_report.specs.declared.packet_entry.PacketEntry.TheVariants as packet
use Rattle.node_model.specs.Clusters.{has_path}
use Rattle.node_model.specs.declared.cluster.Cluster.{Cluster}
use Rattle.node_model.specs.declared.input.Input.{Input}
use Rattle.node_model.specs.declared.input.Input.TheVariants as input
use Rattle.node_model.specs.declared.node.Node.{Node}
use Rattle.node_model.specs.declared.node.Node.TheVariants.{Down, Up}
use Rattle.refinement.proofs.Acts.{run_append}
use Rattle.refinement.proofs.Changes.{sees}
use Rattle.refinement.proofs.EveryRun.{is_true}
use Rattle.refinement.proofs.Facts.{known_by}
use Rattle.refinement.proofs.Handlers.{delivered_by}
use Rattle.refinement.specs.Cuts.{doings}
use Rattle.refinement.specs.Runs.{Nodes, WasSent}
use Rattle.refinement.specs.Ties.{NodeTied, setting_of}
use Rattle.world_model.specs.Devices.{due_at}
use Rattle.world_model.specs.First.{first_cluster}
use Rattle.world_model.specs.Lines.{left_by}
use Rattle.run_history.proofs.AtSteps.{IsNoAnswer}
use Rattle.run_history.proofs.DeedOutputs.{linked_passes, told_passes}
use Rattle.run_history.proofs.DevicesRun.{devices_of_each_run}
use Rattle.run_history.proofs.Moments.{part_adds, said_adds}
use Rattle.run_history.proofs.Reached.{Reached, reached_more}
use Rattle.run_history.proofs.Stays.{whole_holds}
use Rattle.run_history.proofs.WholeEachRun.{happens, runs_are_whole}
use Rattle.run_history.proofs.WholeScenes.{Follows}
use Rattle.run_history.specs.Cuts.{Cut, Cuts, StepCut, all_events, events_of, step_events}
use Rattle.run_history.specs.Happenings.{Happening, IsPlain, MayAllHappen, MayHappen, all_happened, armed_by, commanded, commanded_at, happened, removed, taking}
use Rattle.run_history.specs.Happenings.Happening.{Arrives, Begins, Commands, Loses, Misses, Notes, Refuses, Repeats, Speaks, Strays, Takes, Writes}
use Rattle.run_history.specs.Runs.{CutsOf}
use Rattle.run_history.specs.Scenes.{Scene, adding, dropped_so, first_scene, telling, with_links}
use Rattle.run_history.specs.Stages.{site_of}
use Rattle.run_history.specs.Wholes.{IsRunOfWhole, IsWhole}
use Rattle.run_history.specs.WorldLines.{AreDisks, IsAtDevices}
use Rattle.run_lines.specs.writes.Joins.{SiteDone, is_spoiled}
use Rattle.run_lines.specs.writes.Scenes.{DeedDone, DoneIn, Settled}
use Rattle.run_lines.specs.writes.Sites.{AllTake, IsFine, Ready}
use Rattle.run_lines.proofs.writes.Guards.{DueSo, answer_takes, device_fine, due_so, plain_takes}
use Rattle.run_lines.proofs.writes.Scenes.{Takes as Takes_so, letters_up, node_up, settled_on, step_settles}

-- ---- an armed stop changes no record

arm_done : (v : Nodes) (n : ℕ) (disk : DiskState) → disk.kept ≡ (v.disk n).kept → (k p : ℕ) → DoneIn v k p → DoneIn (record v { disk = put v.disk n disk }) k p
arm_done v n disk same k p h = by_node (same_or_not k n)
  where
    by_node : (k ≡ n) ⊎ (k ≢ n) → DoneIn (record v { disk = put v.disk n disk }) k p
    by_node (inl is) =
        subst (λ (d : DiskState). SiteDone (record { node = v.node k; disk = d.kept }) p) (sym (ap (put v.disk n disk) is ∙ put_here v.disk n disk))
        (subst (λ r. SiteDone (record { node = v.node k; disk = r }) p) (sym same) (subst (λ j. SiteDone (record { node = v.node k; disk = (v.disk j).kept }) p) is h))
    by_node (inr ne) = subst (λ (d : DiskState). SiteDone (record { node = v.node k; disk = d.kept }) p) (sym (put_there v.disk n disk k ne)) h

deeds_up : (K L : Ready) → ((n p : ℕ) → K n p → L n p) → (ds : List Deed) → AllByRecursion (DeedDone K) ds → AllByRecursion (DeedDone L) ds
deeds_up K L more [] h = tt
deeds_up K L more (Started s updates ∷ ds) h = ((λ m member. more m s.epoch (h.0 m member)), deeds_up K L more ds h.1)
deeds_up K L more (Proposed u ∷ ds) h = (tt, deeds_up K L more ds h.1)
deeds_up K L more (Acked u ∷ ds) h = (tt, deeds_up K L more ds h.1)

armed_settles : (c : Cluster) (M : Memberships) (e : Event) (s : Scene) → Settled c M s → Settled c M (armed_by c e s)
armed_settles c M (event.CrashAt n calls choice) s b =
    let disk : DiskState = armed (s.nodes.disk n) calls (left_by choice) in
    let more : ((k p : ℕ) → DoneIn s.nodes k p → DoneIn (record s.nodes { disk = put s.nodes.disk n disk }) k p) = arm_done s.nodes n disk refl in
    let K : Ready = DoneIn s.nodes in
    let L : Ready = DoneIn (record s.nodes { disk = put s.nodes.disk n disk }) in
    record {
      closed = b.closed;
      holds = b.holds;
      apart = b.apart;
      joins = b.joins;
      ready = λ k. node_up K L more (s.nodes.node k) (b.ready k);
      covers = b.covers;
      tells = letters_up K L more s.nodes.sent b.tells;
      deeds_so = deeds_up K L more (deeds s.moments) b.deeds_so;
    }
armed_settles c M (event.Fault n d done) s b =
    record { closed = b.closed; holds = b.holds; apart = b.apart; joins = b.joins; ready = b.ready; covers = b.covers; tells = b.tells; deeds_so = b.deeds_so }
armed_settles c M _ s b = b

-- ---- what is known where a node takes what comes

takes_so : (c : Cluster) (s : Scene) (w : IsWhole c s) (n : ℕ) (i : Input) → n ≤ 32 → WasSent s.nodes i → Takes_so c w.machine.memberships s.nodes n (delivered_by i)
takes_so c s w n i low was = record {
  low = low;
  fits = w.cluster.fits.devices.attached;
  apart = w.cluster.apart;
  holds = whole_holds (setting_of c) w.machine w.reached;
  known = known_by w.machine.memberships i (is_true w.machine.memberships s.nodes i was w.sent);
  tied = (w.sites n).tied;
  tasks = (w.sites n).joins;
}

-- the command that is due is the one that happens
due_is : (P : ℕ → PrCommand → Type 0) (o : Option ℕ) (q : Option PrCommand) (d : ℕ) (k : PrCommand) (e : ℕ) (j : PrCommand) → (let both : ℕ → PrCommand → ℕ × PrCommand = λ x y. (x, y) in option_and_then (λ x. option_and_then (λ y. Some (both x y)) q) o ≡ Some (both d k)) → o ≡ Some e
    → q ≡ Some j → P d k → P e j
due_is P None q d k e j due device next h = absurd (none_some (d, k) due)
due_is P (Some x) None d k e j due device next h = absurd (none_some (d, k) due)
due_is P (Some x) (Some y) d k e j due device next h =
    let pair : (x, y) ≡ (d, k) = same_some (x, y) (d, k) due in
    subst (λ z. P z j) (same_some x e device) (subst (λ z. P x z) (same_some y j next) (subst (λ (z : ℕ × PrCommand). P z.0 z.1) (sym pair) h))

due_at_node : (c : Cluster) (W : Whole) (n d : ℕ) (k : PrCommand) (a : Answer) (node : Node) (disk : NodeRecord) → InOrder (setting_of c) W → NodeTied c W.memberships n disk node → NodeAt c W n disk node → NodeFits c n node
    → due_at (Some node) ≡ Some (d, k) → (has_path c.attached n d ≡ true → IsFine k a) → DueSo c n a node
due_at_node c W n d k a Down disk order tied at fits due fine = tt
due_at_node c W n d k a (Up x) disk order tied at fits due fine =
    due_so c W n x disk a order (sees c W.memberships n disk x.attempt x.seat tied.0) at.tasks fits.all_tasks
    (λ e j device next. due_is (λ z q. has_path c.attached n z ≡ true → IsFine q a) (due_device x.tasks) (next_of x.tasks) d k e j due device next fine)

-- ---- a command at a device

answered_settles : (c : Cluster) (s : Scene) (n d now : ℕ) (k : PrCommand) (ends : method.Outcome) (M N : Memberships) (i : Answer → Input) (cut : StepCut c n now ends s.nodes (i (commanded s n d k).answer))
    → Takes_so c M s.nodes n (delivered_by (i (commanded s n d k).answer)) → WasSent s.nodes (i (commanded s n d k).answer)
    → AllTake c n (site_of s.nodes n) (doings c n now ends cut.replies (i (commanded s n d k).answer) (s.nodes.node n))
    → Run (setting_of c) M (step_events c n now ends s.nodes (i (commanded s n d k).answer) cut) N → Settled c M s → Settled c N (taking c n now ends (i (commanded s n d k).answer) (commanded s n d k).scene)
answered_settles c s n d now k ends M N i cut know was take run b = go (slice_get s.devices (d - 1)) cut know was take run
  where
    go : (o : Option Device) (cut : StepCut c n now ends s.nodes (i (commanded_at s n d o k).answer)) → Takes_so c M s.nodes n (delivered_by (i (commanded_at s n d o k).answer))
        → WasSent s.nodes (i (commanded_at s n d o k).answer) → AllTake c n (site_of s.nodes n) (doings c n now ends cut.replies (i (commanded_at s n d o k).answer) (s.nodes.node n))
        → Run (setting_of c) M (step_events c n now ends s.nodes (i (commanded_at s n d o k).answer) cut) N
        → Settled c N (taking c n now ends (i (commanded_at s n d o k).answer) (commanded_at s n d o k).scene)
    go None q known sent takes by = step_settles c n now ends (i (commanded_at s n d None k).answer) s M N q known sent takes by b
    go (Some x) q known sent takes by =
        step_settles c n now ends (i (commanded_at s n d (Some x) k).answer) (commanded_at s n d (Some x) k).scene M N q known sent takes by
        (record { closed = b.closed; holds = b.holds; apart = b.apart; joins = b.joins; ready = b.ready; covers = b.covers; tells = b.tells; deeds_so = b.deeds_so })

-- ---- each thing that happens

plain_never : (i : Input) → IsPlain i → IsNoAnswer i
plain_never (input.Packet from m) h = absurd h
plain_never (input.Answered a) h = absurd h
plain_never (input.Wrote d value a) h = absurd h
plain_never _ h = tt

plain_sent : (v : Nodes) (i : Input) → IsPlain i → WasSent v i
plain_sent v (input.Packet from m) h = absurd h
plain_sent v (input.Answered a) h = absurd h
plain_sent v (input.Wrote d value a) h = absurd h
plain_sent v _ h = tt

-- the packet is removed, and this told
removed_settles : (c : Cluster) (M : Memberships) (s : Scene) (number : ℕ) (e : PacketEntry) → Grows M M → Settled c M s → Settled c M (telling (entry.Packet e) (removed s number))
removed_settles c M s number e g b =
    settled_on c M s (telling (entry.Packet e) (removed s number)) (record { adds = (told_passes (entry.Packet e) s tt b.closed).adds; nodes = refl }) (λ n d f. refl) g b

repeated_says : (n : ℕ) (e : Entry) (s : Scene) (o : Option (ℕ × DropCause)) → ((d f : ℕ) → is_spoiled n d f (telling e s).moments ≡ is_spoiled n d f s.moments) → (d f : ℕ)
    → is_spoiled n d f (dropped_so o (telling e s)).moments ≡ is_spoiled n d f s.moments
repeated_says n e s None say d f = say d f
repeated_says n e s (Some drop) say d f = say d f

grows_now : (h : Header) (s : Scene) (w : IsWhole (first_cluster h) s) → Grows w.machine.memberships w.machine.memberships
grows_now h s w = grows_same (setting_of (first_cluster h)) w.machine.memberships (whole_holds (setting_of (first_cluster h)) w.machine w.reached)

pub happening_settles : (h : Header) (s : Scene) (w : IsWhole (first_cluster h) s) (g : Happening) (cut : Cut (first_cluster h) s g) (N : Memberships) → length h.devices ≤ 16 → IsAtDevices h s
    → MayHappen (first_cluster h) s g → Run (setting_of (first_cluster h)) w.machine.memberships (events_of (first_cluster h) s g cut) N → Settled (first_cluster h) w.machine.memberships s
    → Settled (first_cluster h) N (happened (first_cluster h) s g)
happening_settles h s w (Speaks e) cut N few at may run b =
    let c : Cluster = first_cluster h in
    let M : Memberships = w.machine.memberships in
    let t : Scene = adding (Said (line.Event e)) s in
    subst (λ Z. Settled c Z (armed_by c e t)) (sym run)
    (armed_settles c M e t (settled_on c M s t (record { adds = said_adds s.moments (line.Event e) b.closed; nodes = refl }) (λ n d f. refl) (grows_now h s w) b))
happening_settles h s w (Begins e) cut N few at may run b =
    let c : Cluster = first_cluster h in
    subst (λ Z. Settled c Z (adding (Part e) s)) (sym run)
    (settled_on c w.machine.memberships s (adding (Part e) s) (record { adds = part_adds s.moments e b.closed; nodes = refl }) (λ n d f. refl) (grows_now h s w) b)
happening_settles h s w (Notes e) cut N few at may run b =
    let c : Cluster = first_cluster h in
    subst (λ Z. Settled c Z (telling (entry.Schedule e) s)) (sym run)
    (settled_on c w.machine.memberships s (telling (entry.Schedule e) s) (told_passes (entry.Schedule e) s tt b.closed) (λ n d f. refl) (grows_now h s w) b)
happening_settles h s w (Takes n now ends i) cut N few at may run b =
    let c : Cluster = first_cluster h in
    let was : WasSent s.nodes i = plain_sent s.nodes i may.1 in
    step_settles c n now ends i s w.machine.memberships N cut (takes_so c s w n i may.0.1 was) was
    (plain_takes c n now ends (s.nodes.node n) (s.nodes.disk n).kept cut.replies i (plain_never i may.1) may.2 (w.fits.nodes n)) run b
happening_settles h s w (Arrives number x m now ends) cut N few at may run b =
    let c : Cluster = first_cluster h in
    let i : Input = input.Packet x.from m in
    let t : Scene = telling (entry.Packet (packet.Delivered number x.from x.to)) (removed s number) in
    step_settles c x.to now ends i t w.machine.memberships N cut (takes_so c s w x.to i may.3.1 may.4) may.4
    (plain_takes c x.to now ends (s.nodes.node x.to) (s.nodes.disk x.to).kept cut.replies i tt may.5 (w.fits.nodes x.to)) run
    (removed_settles c w.machine.memberships s number (packet.Delivered number x.from x.to) (grows_now h s w) b)
happening_settles h s w (Strays number x) cut N few at may run b =
    let c : Cluster = first_cluster h in
    subst (λ Z. Settled c Z (happened c s (Strays number x))) (sym run) (removed_settles c w.machine.memberships s number (packet.Delivered number x.from x.to) (grows_now h s w) b)
happening_settles h s w (Misses number x) cut N few at may run b =
    let c : Cluster = first_cluster h in
    subst (λ Z. Settled c Z (happened c s (Misses number x))) (sym run) (removed_settles c w.machine.memberships s number (packet.Dropped number drop.Down) (grows_now h s w) b)
happening_settles h s w (Loses number x) cut N few at may run b =
    let c : Cluster = first_cluster h in
    subst (λ Z. Settled c Z (happened c s (Loses number x))) (sym run) (removed_settles c w.machine.memberships s number (packet.Lost number) (grows_now h s w) b)
happening_settles h s w (Repeats number x) cut N few at may run b =
    let c : Cluster = first_cluster h in
    let o : links.Outcome = sending s.links x.from x.to x.bytes in
    let e : Entry = entry.Packet (packet.Repeated number s.links.next) in
    subst (λ Z. Settled c Z (happened c s (Repeats number x))) (sym run)
    (settled_on c w.machine.memberships s (happened c s (Repeats number x)) (linked_passes e s o tt b.closed)
    (λ n d f. repeated_says n e (with_links s o.after) o.sent.dropped (λ j k. refl) d f) (grows_now h s w) b)
happening_settles h s w (Commands n d k now ends) cut N few at may run b =
    let c : Cluster = first_cluster h in
    let a : Answer = (commanded s n d k).answer in
    answered_settles c s n d now k ends w.machine.memberships N input.Answered cut (takes_so c s w n (input.Answered a) may.0.1 tt) tt
    (answer_takes c n now ends (s.nodes.node n) (s.nodes.disk n).kept cut.replies a
    (due_at_node c w.machine n d k a (s.nodes.node n) (s.nodes.disk n).kept (in_order (setting_of c) w.machine w.reached) (w.sites n).tied (w.sites n).at (w.fits.nodes n) may.2
    (device_fine h w.machine s n d k few at w.devices_so))) run b
happening_settles h s w (Writes n d value now ends) cut N few at may run b =
    let c : Cluster = first_cluster h in
    let a : Answer = (commanded s n d (command.Write value)).answer in
    answered_settles c s n d now (command.Write value) ends w.machine.memberships N (input.Wrote d value) cut (takes_so c s w n (input.Wrote d value a) may.0.1 tt) tt
    (plain_takes c n now ends (s.nodes.node n) (s.nodes.disk n).kept cut.replies (input.Wrote d value a) tt may.2 (w.fits.nodes n)) run b
happening_settles h s w (Refuses n d value cause) cut N few at may run b =
    let c : Cluster = first_cluster h in
    subst (λ Z. Settled c Z (happened c s (Refuses n d value cause))) (sym run)
    (settled_on c w.machine.memberships s (happened c s (Refuses n d value cause)) (told_passes (entry.Device (device.Refused n d value cause)) s tt b.closed) (λ m e f. refl) (grows_now h s w) b)

-- ---- all of them

-- the scene that they come to, by these events of the machine of memberships
pub record Settles (c : Cluster) (M : Memberships) (s : Scene) (hs : List Happening) (cuts : Cuts c s hs) : Type 0 where
  pub scene : IsWhole c (all_happened c s hs)
  pub run : Run (setting_of c) M (all_events c s hs cuts) scene.machine.memberships
  pub settled : Settled c scene.machine.memberships (all_happened c s hs)

all_settle : (h : Header) (cells : ℕ) → length h.devices ≤ most_devices → AreDisks h → (hs : List Happening) (s : Scene) (w : IsWhole (first_cluster h) s) (cuts : Cuts (first_cluster h) s hs)
    → Reached (first_cluster h) (first_scene h cells) s → MayAllHappen (first_cluster h) s hs → Settled (first_cluster h) w.machine.memberships s → Settles (first_cluster h) w.machine.memberships s hs cuts
all_settle h cells few disks [] s w cuts r may b = record { scene = w; run = refl; settled = b }
all_settle h cells few disks (g ∷ hs) s w cuts r may b =
    let c : Cluster = first_cluster h in
    let f : Follows c s w (happened c s g) (events_of c s g cuts.0) = happens c s w g cuts.0 may.0 in
    let at : IsAtDevices h s = subst (λ z. IsAtDevices h z) r.is (devices_of_each_run h cells r.happenings few disks r.may) in
    let next : Settled c f.next.machine.memberships (happened c s g) = happening_settles h s w g cuts.0 f.next.machine.memberships few at may.0 f.run b in
    let k : Settles c f.next.machine.memberships (happened c s g) hs cuts.1 =
    all_settle h cells few disks hs (happened c s g) f.next cuts.1 (reached_more c (first_scene h cells) s g r may.0) may.1 next in
    record {
      scene = k.scene;
      run = run_append (setting_of c) w.machine.memberships f.next.machine.memberships k.scene.machine.memberships (events_of c s g cuts.0) (all_events c (happened c s g) hs cuts.1) f.run k.run;
      settled = k.settled;
    }

first_settled : (h : Header) (cells : ℕ) → Settled (first_cluster h) first_memberships (first_scene h cells)
unfolding first_scene
first_settled h cells = record {
  closed = record { lines = tt; due = refl };
  holds = λ n. tt;
  apart = λ n. tt;
  joins = λ n. tt;
  ready = λ n. tt;
  covers = tt;
  tells = tt;
  deeds_so = tt;
}

pub each_run_settles : (h : Header) (cells : ℕ) (hs : List Happening) (cuts : CutsOf h cells hs) → length h.devices ≤ most_devices → h.cluster < 2 ^ 32 → AreDisks h
    → MayAllHappen (first_cluster h) (first_scene h cells) hs → Settles (first_cluster h) first_memberships (first_scene h cells) hs cuts
each_run_settles h cells hs cuts few small disks may =
    let c : Cluster = first_cluster h in
    let first : IsRunOfWhole h cells [] tt = runs_are_whole h cells [] tt few small tt in
    subst (λ Z. Settles c Z (first_scene h cells) hs cuts) first.memberships
    (all_settle h cells few disks hs (first_scene h cells) first.scene cuts (record { happenings = []; may = tt; is = refl }) may
    (subst (λ Z. Settled c Z (first_scene h cells)) (sym first.memberships) (first_settled h cells)))
