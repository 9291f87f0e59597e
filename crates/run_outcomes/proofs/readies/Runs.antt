-- In each run a node's Ready has a packet's size.
use Rattle.std.specs.Prelude.{ℕ, ◌-◌, ◌≡◌, ◌++◌, All, List, [], ◌∷◌, Option, None, Some, slice_get}
use Rattle.std.proofs.Common.{refl, sym, ap, subst}
use Rattle.std.specs.List.{AllByRecursion}
use Rattle.ccr_commit.specs.Entries.{texts_of}
use Rattle.cl_base.specs.declared.header.Header.{Header}
use Rattle.cl_base.specs.declared.method.Outcome as method
use Rattle.cl_base.specs.declared.packet.DropCause.{DropCause}
use Rattle.cmm_attempt.specs.Calls.{IsDevice}
use Rattle.cmm_member.specs.Records.{NodeRecord}
use Rattle.interconnect.specs.Links.{sending}
use Rattle.history.specs.Moment.{Said}
use Rattle.interconnect.specs.Links as links
use Rattle.local_disk.specs.declared.memory.Choice.{Choice}
use Rattle.machine_base.proofs.Puts.{put_cases}
use Rattle.membership_machine.proofs.Preserved.{first_holds}
use Rattle.membership_machine.specs.Growth.{Grows}
use Rattle.membership_machine.specs.Invariant.{Holds}
use Rattle.membership_machine.specs.Records.{Saved}
use Rattle.membership_machine.specs.State.{Memberships, first_memberships}
use Rattle.node_model.specs.Seats.{record_of, state_of}
use Rattle.node_model.specs.Steps.{Outcome, stepped}
use Rattle.node_model.specs.declared.cluster.Cluster.{Cluster}
use Rattle.node_model.specs.declared.input.Input.{Input}
use Rattle.node_model.specs.declared.input.Input.TheVariants as input
use Rattle.node_model.specs.declared.node.Node.TheVariants.{Up}
use Rattle.node_model.specs.declared.node.UpNode.{UpNode}
use Rattle.node_model.specs.declared.output.Output.{Output}
use Rattle.node_model.specs.declared.output.Output.TheVariants.{Sends, Tells}
use Rattle.pgr_device.specs.Device.{Device}
use Rattle.pgr_device.specs.declared.command.PrCommand.{PrCommand}
use Rattle.pgr_device.specs.declared.command.PrCommand.TheVariants as command
use Rattle.record_disk.specs.Disks.{DiskState, armed}
use Rattle.refinement.proofs.Changes.{Sees, sees}
use Rattle.refinement.proofs.Disks.{disks_keep_rules}
use Rattle.refinement.proofs.EveryRun.{is_true}
use Rattle.refinement.proofs.Facts.{known_by, step_may, steps_go}
use Rattle.refinement.proofs.Handlers.{delivered_by}
use Rattle.refinement.proofs.Logs.{no_updates}
use Rattle.refinement.proofs.Replies.{steps_are_cut}
use Rattle.refinement.proofs.Ties.{message_stays, node_stays}
use Rattle.refinement.specs.Cuts.{doings}
use Rattle.refinement.specs.Doings.{after_all, given_all, site}
use Rattle.refinement.specs.Facts.{JoinsIn}
use Rattle.refinement.specs.Guards.{MayAll}
use Rattle.refinement.specs.Runs.{Letter, Nodes, WasSent, letters_of, moved}
use Rattle.refinement.specs.Runs.Move.{Arms, Takes as Takes_in}
use Rattle.refinement.specs.Steps.{IsCut, disk_rules}
use Rattle.refinement.specs.Ties.{AllTold, MessageTold, NodeTied, SiteTied, setting_of}
use Rattle.refinement.specs.Whole.{IsTrue, Stands}
use Rattle.run_history.proofs.Idle.{passing_nodes}
use Rattle.run_history.specs.Happenings.{Happening, MayAllHappen, MayHappen, all_happened, armed_by, commanded, commanded_at, happened, removed, taking}
use Rattle.run_history.specs.Happenings.Happening.{Arrives, Begins, Commands, Loses, Misses, Notes, Refuses, Repeats, Speaks, Strays, Takes, Writes}
use Rattle.run_history.specs.Scenes.{Scene, adding, dropped_so, first_scene, telling, with_links}
use Rattle.run_messages.proofs.Reaching.{IsSmall, holds_of_each}
use Rattle.run_messages.proofs.records.Sizes.{header_sized}
use Rattle.run_messages.proofs.records.Steps.{put_all}
use Rattle.run_packets.specs.fits.Rooms.{HasRoom}
use Rattle.run_seizings.proofs.Moments.{plain_sent}
use Rattle.schedule_text.specs.declared.event.Event.{Event}
use Rattle.schedule_text.specs.declared.event.Event.TheVariants as event
use Rattle.schedule_text.specs.declared.line.Line.TheVariants as line
use Rattle.status_report.specs.declared.entry.Entry.TheVariants as entry
use Rattle.status_report.specs.declared.packet_entry.PacketEntry.TheVariants as packet
use Rattle.wire.specs.Spelling.{IsNode}
use Rattle.world_model.specs.First.{first_cluster}
use Rattle.world_model.specs.Lines.{left_by}
use Rattle.run_outcomes.proofs.readies.Logs.{LogsHaveRoom, first_logs, part_room}
use Rattle.run_outcomes.proofs.readies.Reports.{ready_short}
use Rattle.run_outcomes.proofs.readies.Steps.{Went, all_went}
use Rattle.run_outcomes.specs.reports.Laws.{ReadiesAreShort}

-- ---- all nodes

abbrev AllTrue : Memberships → List Letter → Type 0
AllTrue M letters = AllByRecursion (λ (l : Letter). MessageTold M l.from l.body) letters

all_stay : (c : Cluster) (M N : Memberships) (letters : List Letter) → Holds (setting_of c) M → Grows M N → AllTrue M letters → AllTrue N letters
all_stay c M N [] i g h = tt
all_stay c M N (l ∷ letters) i g h = (message_stays c M N l.from l.body i g h.0, all_stay c M N letters i g h.1)

more_true : (M : Memberships) (n : ℕ) (os : List Output) (letters : List Letter) → AllTold M n os → AllTrue M letters → AllTrue M (letters_of n os ++ letters)
more_true M n [] letters h k = k
more_true M n (Tells e ∷ os) letters h k = more_true M n os letters h.1 k
more_true M n (Sends to b ∷ os) letters h k = (h.0, more_true M n os letters h.1 k)

-- they are tied in a machine in which each log has room
record Roomy (c : Cluster) (v : Nodes) : Type 0 where
  machine : Memberships
  holds : Holds (setting_of c) machine
  stands : (n : ℕ) → Stands c machine n (v.node n) (v.disk n).kept
  sent : AllTrue machine v.sent
  rooms : LogsHaveRoom c.nodes c.devices machine

-- ---- a step

moved_roomy : (c : Cluster) (n now : ℕ) (ends : method.Outcome) (i : Input) (v : Nodes) → All IsDevice c.attached → IsNode n → WasSent v i → Roomy c v → Roomy c (moved c v (Takes_in n now ends i))
moved_roomy c n now ends i v fits is was g =
    let M : Memberships = g.machine in
    let disk : NodeRecord = (v.disk n).kept in
    let o : Outcome DiskState = stepped disk_rules c n now ends (v.node n) (v.disk n) i in
    let cut : IsCut disk_rules c n now ends (v.node n) (v.disk n) i [] o = steps_are_cut disk_rules disks_keep_rules c n now ends (v.node n) (v.disk n) i in
    let truth : IsTrue M i = is_true M v i was g.sent in
    let may : MayAll c n (delivered_by i) (site (v.node n) disk) (doings c n now ends cut.replies i (v.node n)) =
    step_may c M n now ends (v.node n) disk i cut.replies is.1 fits g.holds (g.stands n).tied (g.stands n).joins in
    let k : Went c M n (after_all c n (site (v.node n) disk) (doings c n now ends cut.replies i (v.node n))) (given_all c n (site (v.node n) disk) (doings c n now ends cut.replies i (v.node n))) =
    all_went c M n (delivered_by i) (site (v.node n) disk) (doings c n now ends cut.replies i (v.node n)) fits g.holds (known_by M i truth) (g.stands n).tied may g.rooms in
    let N : Memberships = k.machine in
    let joins : JoinsIn o.after = (steps_go disk_rules disks_keep_rules c M n now ends (v.node n) (v.disk n) i is.1 fits g.holds truth (g.stands n)).stands.joins in
    record {
      machine = N;
      holds = k.holds;
      stands = put_all (λ j node disk. Stands c N j node disk) v n o.after o.disk (record { tied = subst (SiteTied c N n) cut.comes.left k.tied; joins = joins })
          (λ j ne. record { tied = node_stays c M N j (v.disk j).kept (v.node j) g.holds k.grows (k.others j ne) (g.stands j).tied; joins = (g.stands j).joins });
      sent = more_true N n o.given v.sent (subst (AllTold N n) cut.comes.given k.said) (all_stay c M N v.sent g.holds k.grows g.sent);
      rooms = k.rooms;
    }

taking_roomy : (c : Cluster) (n now : ℕ) (ends : method.Outcome) (i : Input) (s : Scene) → All IsDevice c.attached → IsNode n → WasSent s.nodes i → Roomy c s.nodes → Roomy c (taking c n now ends i s).nodes
taking_roomy c n now ends i s fits is was g =
    subst (Roomy c) (sym (passing_nodes n (stepped disk_rules c n now ends (s.nodes.node n) (s.nodes.disk n) i).given (record s { nodes = moved c s.nodes (Takes_in n now ends i) })))
    (moved_roomy c n now ends i s.nodes fits is was g)

-- ---- each thing that happens

-- a stop that is armed leaves the record
arms_roomy : (c : Cluster) (v : Nodes) (n calls : ℕ) (choice : Choice) → Roomy c v → Roomy c (moved c v (Arms n calls choice))
arms_roomy c v n calls choice g = record {
  machine = g.machine;
  holds = g.holds;
  stands = put_cases (λ k (d : DiskState). Stands c g.machine k (v.node k) d.kept) v.disk n (armed (v.disk n) calls choice) (g.stands n) (λ k ne. g.stands k);
  sent = g.sent;
  rooms = g.rooms;
}

armed_roomy : (c : Cluster) (e : Event) (s : Scene) → Roomy c s.nodes → Roomy c (armed_by c e s).nodes
armed_roomy c (event.CrashAt n calls choice) s g = arms_roomy c s.nodes n calls (left_by choice) g
armed_roomy c (event.Fault n d done) s g = g
armed_roomy c _ s g = g

dropped_roomy : (c : Cluster) (o : Option (ℕ × DropCause)) (s : Scene) → Roomy c s.nodes → Roomy c (dropped_so o s).nodes
dropped_roomy c None s g = g
dropped_roomy c (Some drop) s g = g

commanded_roomy : (c : Cluster) (s : Scene) (n d : ℕ) (o : Option Device) (q : PrCommand) → Roomy c s.nodes → Roomy c (commanded_at s n d o q).scene.nodes
commanded_roomy c s n d None q g = g
commanded_roomy c s n d (Some x) q g = g

happening_roomy : (c : Cluster) (s : Scene) (x : Happening) → All IsDevice c.attached → MayHappen c s x → Roomy c s.nodes → Roomy c (happened c s x).nodes
happening_roomy c s (Speaks e) fits may g = armed_roomy c e (adding (Said (line.Event e)) s) g
happening_roomy c s (Begins e) fits may g = g
happening_roomy c s (Notes e) fits may g = g
happening_roomy c s (Takes n now ends i) fits may g = taking_roomy c n now ends i s fits may.0 (plain_sent s.nodes i may.1) g
happening_roomy c s (Arrives number x m now ends) fits may g =
    taking_roomy c x.to now ends (input.Packet x.from m) (telling (entry.Packet (packet.Delivered number x.from x.to)) (removed s number)) fits may.3 may.4 g
happening_roomy c s (Strays number x) fits may g = g
happening_roomy c s (Misses number x) fits may g = g
happening_roomy c s (Loses number x) fits may g = g
happening_roomy c s (Repeats number x) fits may g =
    let o : links.Outcome = sending s.links x.from x.to x.bytes in
    dropped_roomy c o.sent.dropped (telling (entry.Packet (packet.Repeated number s.links.next)) (with_links s o.after)) g
happening_roomy c s (Commands n d q now ends) fits may g =
    taking_roomy c n now ends (input.Answered (commanded s n d q).answer) (commanded s n d q).scene fits may.0 tt (commanded_roomy c s n d (slice_get s.devices (d - 1)) q g)
happening_roomy c s (Writes n d value now ends) fits may g =
    taking_roomy c n now ends (input.Wrote d value (commanded s n d (command.Write value)).answer) (commanded s n d (command.Write value)).scene fits may.0 tt
    (commanded_roomy c s n d (slice_get s.devices (d - 1)) (command.Write value) g)
happening_roomy c s (Refuses n d value cause) fits may g = g

-- ---- runs

first_roomy : (h : Header) (cells : ℕ) → Roomy (first_cluster h) (first_scene h cells).nodes
unfolding first_scene
first_roomy h cells =
    let c : Cluster = first_cluster h in
    record {
      machine = first_memberships;
      holds = first_holds (setting_of c);
      stands = λ n. record { tied = (record { promised = refl; saved = refl; session = refl; member = refl }, no_updates c); joins = tt };
      sent = tt;
      rooms = first_logs c.nodes c.devices;
    }

run_roomy : (h : Header) (cells : ℕ) (hs : List Happening) → IsSmall h → MayAllHappen (first_cluster h) (first_scene h cells) hs → Roomy (first_cluster h) (all_happened (first_cluster h) (first_scene h cells) hs).nodes
run_roomy h cells hs size may =
    holds_of_each h cells (λ s. Roomy (first_cluster h) s.nodes) (λ s x now at more g. happening_roomy (first_cluster h) s x (header_sized h size.few size.small).fits.devices.attached now g) (first_roomy h cells) hs may

-- the updates of a node that is up have room
room_of : (c : Cluster) (v : Nodes) (n : ℕ) (x : UpNode) → v.node n ≡ Up x → Roomy c v → HasRoom c.nodes c.devices (texts_of (record_of x).entries)
room_of c v n x at g =
    let disk : NodeRecord = (v.disk n).kept in
    let tied : NodeTied c g.machine n disk (Up x) = subst (NodeTied c g.machine n disk) at (g.stands n).tied in
    let seen : Sees g.machine n disk (state_of x.seat) = sees c g.machine n disk x.attempt x.seat tied.0 in
    subst (HasRoom c.nodes c.devices) (ap (λ (z : Saved). z.entries) seen.saved) (part_room c.nodes c.devices g.machine (g.machine.node n).saved (g.holds.node n).fits g.rooms)

pub readies_are_short : ReadiesAreShort
readies_are_short h cells hs last few small disks may shaped native n x at =
    ready_short (first_cluster h) n x
    (room_of (first_cluster h) (all_happened (first_cluster h) (first_scene h cells) hs).nodes n x at (run_roomy h cells hs (record { few = few; small = small }) may))
