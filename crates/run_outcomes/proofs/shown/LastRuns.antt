-- In each run the last Promise of a node that is in a session of another's shows what its record has.
use Rattle.std.specs.Prelude.{ℕ, ◌-◌, ◌^◌, ◌≡◌, ◌≤◌, ◌⊎◌, Bool, true, false, List, [], ◌∷◌, None, Option, Some, length, slice_get}
use Rattle.std.specs.List.{AllByRecursion}
use Rattle.std.proofs.Common.{refl, sym, ap, subst, ◌∙◌, inl, inr, arith}
use Rattle.ccr_commit.specs.Entries.{texts_of}
use Rattle.cl_base.specs.Sets.{has}
use Rattle.cl_base.specs.declared.header.Header.{Header}
use Rattle.cl_base.specs.declared.packet.DropCause.{DropCause}
use Rattle.cmm_attempt.proofs.Basics.{false_true, same_some}
use Rattle.cmm_member.specs.Records.{NodeRecord}
use Rattle.history.specs.Moment.{Part, Said}
use Rattle.history.specs.Queue.{shown_valid}
use Rattle.interconnect.specs.Links as links
use Rattle.interconnect.specs.Links.{sending}
use Rattle.node_model.specs.Seats.{record_of, session_of, state_of}
use Rattle.node_model.specs.declared.cluster.Cluster.{Cluster}
use Rattle.node_model.specs.declared.input.Input.TheVariants as input
use Rattle.node_model.specs.declared.node.Node.{Node}
use Rattle.node_model.specs.declared.node.Node.TheVariants.{Down, Up}
use Rattle.pgr_device.specs.Device.{Device}
use Rattle.pgr_device.specs.declared.command.PrCommand.{PrCommand}
use Rattle.pgr_device.specs.declared.command.PrCommand.TheVariants as command
use Rattle.refinement.proofs.Changes.{Sees, sees}
use Rattle.refinement.proofs.DeviceWidths.{command_keeps}
use Rattle.refinement.specs.Doings.{site}
use Rattle.refinement.specs.Runs.{IsAmong, Nodes}
use Rattle.refinement.specs.Ties.{NodeTied}
use Rattle.refinement.specs.Worlds.{Keeps}
use Rattle.refinement.specs.node_widths.Widths.{NodeFits}
use Rattle.run_commands.proofs.acknowledged.Numbers.{sending_next}
use Rattle.run_history.proofs.ContactWidths.{node_due}
use Rattle.run_history.proofs.Reached.{reached_more}
use Rattle.run_history.specs.Happenings.{Commanded, Happening, MayAllHappen, MayHappen, all_happened, armed_by, commanded, commanded_at, happened, removed}
use Rattle.run_history.specs.Happenings.Happening.{Arrives, Begins, Commands, Loses, Misses, Notes, Refuses, Repeats, Speaks, Strays, Takes, Writes}
use Rattle.run_history.specs.Scenes.{Scene, adding, dropped_so, first_scene, telling, with_links}
use Rattle.run_history.specs.Stages.{Sized, Stage}
use Rattle.run_history.specs.Wholes.{IsWhole}
use Rattle.run_messages.proofs.Reaching.{IsReached, IsSmall, stage_of}
use Rattle.run_messages.proofs.records.Sizes.{header_sized}
use Rattle.run_packets.proofs.fits.Doings.{record_sound}
use Rattle.run_packets.proofs.fits.Runs.{Fitting, first_fits, happening_fits, sized}
use Rattle.run_packets.proofs.fits.Steps.{Grown}
use Rattle.run_packets.proofs.native.Runs.{Known as Bound, first_named, happening_named, whole_at}
use Rattle.run_packets.specs.fits.Known.{IfUp}
use Rattle.run_packets.specs.fits.Rooms.{HasRoom}
use Rattle.run_packets.specs.native.Laws.{BootsInHeader}
use Rattle.run_packets.specs.native.Named.{SceneNamed}
use Rattle.run_seizings.proofs.Moments.{answer_fits, due_low, due_own, plain_fits, plain_no, plain_sent}
use Rattle.run_seizings.proofs.Steps.{Ground, OwnKeysOnly, answer_may, ground_of, plain_may}
use Rattle.schedule_text.specs.declared.event.Event.{Event}
use Rattle.schedule_text.specs.declared.event.Event.TheVariants as event
use Rattle.schedule_text.specs.declared.line.Line.TheVariants as line
use Rattle.status_report.specs.declared.entry.Entry.TheVariants as entry
use Rattle.status_report.specs.declared.packet_entry.PacketEntry.TheVariants as packet
use Rattle.world_model.specs.First.{first_cluster}
use Rattle.run_outcomes.specs.tasks.Laws.{ShownValid, seizes_plainly}
use Rattle.run_outcomes.specs.tasks.Shown.{FollowsSo, InRange, SceneSo, UpIn}
use Rattle.run_outcomes.proofs.shown.Last.{LastSo, NodeLast, node_still}
use Rattle.run_outcomes.proofs.shown.Steps.{run_so}
use Rattle.run_outcomes.proofs.shown.LastSteps.{AllLast, lower, no_less, Roomy, step_last}

-- ---- each thing that happens

-- with other packets and lines
again_last : (s t : Scene) → ((n : ℕ) → t.nodes.node n ≡ s.nodes.node n) → t.nodes.sent ≡ s.nodes.sent → ((n : ℕ) → shown_valid n t.moments ≡ shown_valid n s.moments) → s.links.next ≤ t.links.next → AllLast s → AllLast t
again_last s t nodes sent same more k = λ left n.
    subst (NodeLast t.nodes.sent n t.moments) (sym (nodes n))
    (node_still s.nodes.sent t.nodes.sent n s.moments t.moments (s.nodes.node n) (λ from b z. subst (λ ls. IsAmong from b ls) (sym sent) z) (same n) (k (lower s.links.next t.links.next (2 ^ 63) more left) n))

plain_last : (s t : Scene) → t.nodes ≡ s.nodes → ((n : ℕ) → shown_valid n t.moments ≡ shown_valid n s.moments) → s.links.next ≤ t.links.next → AllLast s → AllLast t
plain_last s t is = again_last s t (λ n. ap (λ (v : Nodes). v.node n) is) (ap (λ (v : Nodes). v.sent) is)

armed_last : (c : Cluster) (e : Event) (s : Scene) → AllLast s → AllLast (armed_by c e s)
armed_last c (event.CrashAt n calls choice) s k = k
armed_last c (event.Fault n d done) s k = k
armed_last c _ s k = k

-- what a command at a device leaves
record Left (c : Cluster) (s : Scene) (o : Commanded) : Type 0 where
  last : AllLast o.scene
  ground : Ground c o.scene.nodes
  nodes : o.scene.nodes ≡ s.nodes

left_at : (c : Cluster) (s : Scene) (n d : ℕ) (k : PrCommand) (o : Option Device) → Ground c s.nodes → AllLast s → Left c s (commanded_at s n d o k)
left_at c s n d k None g z = record { last = z; ground = g; nodes = refl }
left_at c s n d k (Some x) g z = record { last = z; ground = g; nodes = refl }

dropped_last : (o : Option (ℕ × DropCause)) (t : Scene) → AllLast t → AllLast (dropped_so o t)
dropped_last None t k = k
dropped_last (Some d) t k = plain_last t (dropped_so (Some d) t) refl (λ n. refl) (no_less t.links.next) k

happening_last : (h : Header) (s : Scene) (x : Happening) → MayHappen (first_cluster h) s x → Sized (first_cluster h) → Stage (first_cluster h) s → IsWhole (first_cluster h) s
    → ((j : ℕ) → IfUp (Roomy (first_cluster h)) (s.nodes.node j)) → AllLast s → AllLast (happened (first_cluster h) s x)
happening_last h s (Speaks e) may sized b w room k = armed_last (first_cluster h) e (adding (Said (line.Event e)) s) (plain_last s (adding (Said (line.Event e)) s) refl (λ n. refl) (no_less s.links.next) k)
happening_last h s (Begins e) may sized b w room k = plain_last s (adding (Part e) s) refl (λ n. refl) (no_less s.links.next) k
happening_last h s (Notes e) may sized b w room k = plain_last s (telling (entry.Schedule e) s) refl (λ n. refl) (no_less s.links.next) k
happening_last h s (Takes n now ends i) may sized b w room k =
    let c : Cluster = first_cluster h in
    step_last h c n now ends i s sized (ground_of c s b) may.0 may.2 (plain_sent s.nodes i may.1) (plain_fits i may.1) room
    (plain_may h c n now ends (s.nodes.node n) (s.nodes.disk n).kept i (plain_no i may.1) may.2 (b.fits.nodes n)) k
happening_last h s (Arrives number x m now ends) may sized b w room k =
    let c : Cluster = first_cluster h in
    let t : Scene = telling (entry.Packet (packet.Delivered number x.from x.to)) (removed s number) in
    step_last h c x.to now ends (input.Packet x.from m) t sized (ground_of c s b) may.3 may.5 may.4 tt room
    (plain_may h c x.to now ends (s.nodes.node x.to) (s.nodes.disk x.to).kept (input.Packet x.from m) tt may.5 (b.fits.nodes x.to))
    (plain_last s t refl (λ n. refl) (no_less s.links.next) k)
happening_last h s (Strays number x) may sized b w room k = plain_last s (happened (first_cluster h) s (Strays number x)) refl (λ n. refl) (no_less s.links.next) k
happening_last h s (Misses number x) may sized b w room k = plain_last s (happened (first_cluster h) s (Misses number x)) refl (λ n. refl) (no_less s.links.next) k
happening_last h s (Loses number x) may sized b w room k = plain_last s (happened (first_cluster h) s (Loses number x)) refl (λ n. refl) (no_less s.links.next) k
happening_last h s (Repeats number x) may sized b w room k =
    let o : links.Outcome = sending s.links x.from x.to x.bytes in
    let t : Scene = telling (entry.Packet (packet.Repeated number s.links.next)) (with_links s o.after) in
    dropped_last o.sent.dropped t (plain_last s t refl (λ n. refl) (sending_next s.links x.from x.to x.bytes) k)
happening_last h s (Commands n d q now ends) may sized b w room k =
    let c : Cluster = first_cluster h in
    let o : Commanded = commanded s n d q in
    let l : Left c s o = left_at c s n d q (slice_get s.devices (d - 1)) (ground_of c s b) k in
    let low : 1 ≤ d = due_low c n (s.nodes.node n) d q (b.fits.nodes n) may.2 in
    let keeps : (y : Device) → slice_get s.devices (d - 1) ≡ Some y → Keeps y n q =
    λ y is. command_keeps y n q may.0.0 may.0.1
    (node_due c n d q (Some (s.nodes.node n)) w.cluster.small may.0.1 (λ node at. subst (λ z. NodeFits c n z) (same_some (s.nodes.node n) node at) (b.fits.nodes n)) may.2)
    (b.devices (d - 1) y is) in
    step_last h c n now ends (input.Answered o.answer) o.scene sized l.ground may.0 may.3 tt (answer_fits c s n d q (slice_get s.devices (d - 1)) keeps)
    (subst (λ (v : Nodes). (j : ℕ) → IfUp (Roomy c) (v.node j)) (sym l.nodes) room)
    (answer_may h c n now ends (o.scene.nodes.node n) (o.scene.nodes.disk n).kept o.answer
    (subst (λ (v : Nodes). OwnKeysOnly h (v.node n) o.answer) (sym l.nodes) (due_own h s n d q (s.nodes.node n) w may.2 low))) l.last
happening_last h s (Writes n d value now ends) may sized b w room k =
    let c : Cluster = first_cluster h in
    let o : Commanded = commanded s n d (command.Write value) in
    let l : Left c s o = left_at c s n d (command.Write value) (slice_get s.devices (d - 1)) (ground_of c s b) k in
    step_last h c n now ends (input.Wrote d value o.answer) o.scene sized l.ground may.0 may.2 tt tt (subst (λ (v : Nodes). (j : ℕ) → IfUp (Roomy c) (v.node j)) (sym l.nodes) room)
    (plain_may h c n now ends (o.scene.nodes.node n) (o.scene.nodes.disk n).kept (input.Wrote d value o.answer) tt may.2 (l.ground.fits.nodes n)) l.last
happening_last h s (Refuses n d value cause) may sized b w room k = plain_last s (happened (first_cluster h) s (Refuses n d value cause)) refl (λ n. refl) (no_less s.links.next) k

-- ---- runs

-- the updates of a node that is up have room
room_of : (c : Cluster) (s : Scene) (n : ℕ) (node : Node) → s.nodes.node n ≡ node → Grown c s.nodes → IfUp (Roomy c) node
room_of c s n Down at g = tt
room_of c s n (Up w) at g =
    let disk : NodeRecord = (s.nodes.disk n).kept in
    let tied : NodeTied c g.machine n disk (Up w) = subst (NodeTied c g.machine n disk) at (g.stands n).tied in
    let seen : Sees g.machine n disk (state_of w.seat) = sees c g.machine n disk w.attempt w.seat tied.0 in
    subst (λ (r : NodeRecord). HasRoom c.nodes c.devices (texts_of r.entries)) seen.disk_so
    (record_sound c g.machine n (site (s.nodes.node n) disk) g.holds (g.stands n).tied g.rooms (g.records n)).room

along : (h : Header) (cells : ℕ) (s : Scene) (hs : List Happening) → h.nodes ≤ 32 → IsSmall h → IsReached h cells s → MayAllHappen (first_cluster h) s hs → AllByRecursion (BootsInHeader h) hs → SceneNamed (first_cluster h) s
    → Fitting (first_cluster h) s.nodes s.moments → AllLast s → AllLast (all_happened (first_cluster h) s hs)
along h cells s [] nodes size at may boots named f k = k
along h cells s (x ∷ hs) nodes size at may boots named f k =
    let c : Cluster = first_cluster h in
    let next : IsReached h cells (happened c s x) = reached_more c (first_scene h cells) s x at may.0 in
    let b : Bound h s x = record { stage = stage_of h cells s size at; whole = whole_at h cells s size at; next = stage_of h cells (happened c s x) size next } in
    along h cells (happened c s x) hs nodes size next may.1 boots.1 (happening_named h s x nodes size may.0 boots.0 b named) (happening_fits c s x (sized h size) may.0 named f)
    (happening_last h s x may.0 (header_sized h size.few size.small) b.stage b.whole (λ j. room_of c s j (s.nodes.node j) refl f.grown) k)

first_last : (h : Header) (cells : ℕ) → AllLast (first_scene h cells)
unfolding first_scene
first_last h cells left n = tt

bools : (a b : Bool) → (b ≡ true → a ≡ true) → (a ≡ true → b ≡ true) → a ≡ b
bools true b f g = sym (g refl)
bools false true f g = f refl
bools false false f g = refl

within : (a b : ℕ) → a ≤ b → b ≤ 16 → a ≤ 32
within a b l m = omega (arith, l, m)

pub last_shows_valid : ShownValid
last_shows_valid h cells hs nodes few small may boots left n x at some fresh other d is plain =
    let c : Cluster = first_cluster h in
    let size : IsSmall h = record { few = few; small = small } in
    let s : Scene = all_happened c (first_scene h cells) hs in
    let k : SceneSo s = run_so h cells hs size may in
    let all : AllLast s = along h cells (first_scene h cells) hs nodes size (record { happenings = []; may = tt; is = refl }) may boots (first_named h cells) (first_fits h cells size) (first_last h cells) in
    let last : LastSo s.nodes.sent n (session_of x) s.moments = subst (NodeLast s.nodes.sent n s.moments) at (all left n) some other in
    let up : UpIn s.nodes.sent n (s.nodes.disk n).kept (Up x) = subst (UpIn s.nodes.sent n (s.nodes.disk n).kept) at (k.sites n).up in
    let so : FollowsSo s.nodes.sent n x = up.1.follows (record { some = some; other = other; fresh = fresh }) in
    let range : InRange d = (is.0, within d (length h.devices) is.1 few) in
    ap (λ v. has v d) last.last
    ∙ bools (has last.valid d) (has (record_of x).valid d) (so.shown last.valid d range last.shown) (λ e. held so (so.held last.valid d range last.shown e))
  where
    held : FollowsSo (all_happened (first_cluster h) (first_scene h cells) hs).nodes.sent n x → (has (record_of x).valid d ≡ true) ⊎ (seizes_plainly d x.tasks ≡ true) → has (record_of x).valid d ≡ true
    held so (inl z) = z
    held so (inr z) = absurd (false_true (sym plain ∙ z))
