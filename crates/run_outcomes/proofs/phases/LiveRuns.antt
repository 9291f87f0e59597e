-- In each run no attempt that a node has is over.
use Rattle.std.specs.Prelude.{ℕ, ◌-◌, ◌==◌, ◌≡◌, ◌≤◌, ◌<◌, ◌^◌, false, true, List, Option, None, Some, length, slice_get, Bool, nat_le, ◌&&◌}
use Rattle.std.proofs.Common.{arith, refl, sym, subst, ap, inl, inr, ◌∙◌}
use Rattle.cl_base.specs.Limits.{most_devices}
use Rattle.cl_base.specs.Sets.{has}
use Rattle.cl_base.specs.declared.header.Header.{Header}
use Rattle.cl_base.specs.declared.method.Outcome as method
use Rattle.cl_base.specs.declared.packet.DropCause.{DropCause}
use Rattle.cmm_attempt.specs.Attempts.{AttemptState}
use Rattle.cmm_member.specs.Records.{NodeRecord}
use Rattle.history.specs.Moment.{Said}
use Rattle.interconnect.specs.Links as net
use Rattle.interconnect.specs.Links.{sending}
use Rattle.machine_base.proofs.Puts.{put_cases}
use Rattle.node_model.specs.Steps.{stepped}
use Rattle.node_model.specs.declared.cluster.Cluster.{Cluster}
use Rattle.node_model.specs.declared.input.Input.{Input}
use Rattle.node_model.specs.declared.input.Input.TheVariants as input
use Rattle.node_model.specs.declared.node.Node.{Node}
use Rattle.node_model.specs.declared.node.Node.TheVariants.{Down, Up}
use Rattle.node_model.specs.declared.node.UpNode.{UpNode}
use Rattle.pgr_device.specs.Device.{Device}
use Rattle.pgr_device.specs.declared.command.PrCommand.{PrCommand}
use Rattle.pgr_device.specs.declared.command.PrCommand.TheVariants as command
use Rattle.refinement.specs.Runs.{Nodes, moved}
use Rattle.refinement.specs.Runs.Move.{Takes as Takes_in}
use Rattle.refinement.specs.Steps.{disk_rules}
use Rattle.run_attempts.proofs.Known.{known_scene}
use Rattle.run_history.proofs.Idle.{passing_nodes}
use Rattle.run_history.specs.Happenings.{Arrives, Commands, Happening, MayAllHappen, Repeats, Speaks, Takes as Takes_plain, Writes, all_happened, armed_by, commanded, commanded_at, given_by, happened, removed, taking}
use Rattle.run_history.specs.Scenes.{Scene, adding, dropped_so, first_scene, telling, with_links}
use Rattle.run_messages.proofs.Reaching.{holds_of_each}
use Rattle.run_messages.specs.records.Kept.{KnownScene}
use Rattle.run_outcomes.specs.saves.Kept.{IsAt}
use Rattle.schedule_text.specs.declared.event.Event.{Event}
use Rattle.schedule_text.specs.declared.event.Event.TheVariants as event
use Rattle.schedule_text.specs.declared.line.Line.TheVariants as line
use Rattle.status_report.specs.declared.entry.Entry.TheVariants as entry
use Rattle.status_report.specs.declared.packet_entry.PacketEntry.TheVariants as packet
use Rattle.world_model.specs.First.{first_cluster}
use Rattle.run_outcomes.specs.phases.Kept.{In}
use Rattle.run_outcomes.proofs.phases.Leading.{Has}
use Rattle.membership_machine.specs.Invariant.{Holds, NodeOk}
use Rattle.membership_machine.specs.State.{Memberships}
use Rattle.node_model.specs.declared.seat.Seat.{Seat}
use Rattle.node_model.specs.declared.seat.Seat.TheVariants.{Forming, Member}
use Rattle.refinement.specs.Ties.{AttemptTied, Coordinates, NodeTied, SeatTied, setting_of}
use Rattle.cmm_attempt.proofs.Basics.{false_true, none_some}
use Rattle.run_outcomes.proofs.phases.Live.{IsLive}
use Rattle.run_outcomes.proofs.phases.LiveCourses.{Ends, starts_at}
use Rattle.run_outcomes.proofs.phases.LiveSteps.{step_ends}
use Rattle.run_outcomes.specs.phases.Laws.{NoneIsOver}
use Rattle.run_outcomes.proofs.phases.Promised.{HasIt, has_it}

-- ---- the seat of a node whose attempt has its own part done is in the session, which it has installed

starts_so : (e session installed : ℕ) → 0 < e → e ≡ session → installed ≡ e → (nat_le 1 e && (session == e) && (installed == e)) ≡ true
starts_so e session installed some same is = grind arith

between : (e installed promised session : ℕ) → e ≤ installed → installed ≤ promised → session ≡ promised → e ≡ session → installed ≡ e
between e installed promised session low high same at = omega (arith, low, high, same, at)

seat_starts : (c : Cluster) (M : Memberships) (n : ℕ) (disk : NodeRecord) (seat : Seat) (o : Option AttemptState) (b : AttemptState) → Holds (setting_of c) M → SeatTied c M n disk o seat → o ≡ Some b → b.own_ready ≡ true → starts_at seat b.plan.epoch ≡ true
seat_starts c M n disk (Forming s) o b holds tied has own =
    let co : Coordinates c M n s b = subst (AttemptTied c M n s) has tied.2 in
    let e : ℕ = b.plan.epoch in
    let node : NodeOk M.epoch n (M.node n) = holds.node n in
    let some : 0 < e = (holds.epoch e).tried_positive co.has.tried in
    let ready : (M.node n).ready e ≡ true = subst (λ k. (M.node k).ready e ≡ true) co.coordinator (co.has.own_ready own) in
    let session : (M.node n).session ≡ s.session = tied.0.session in
    starts_so e s.session s.saved.installed some co.epoch
    (sym (ap (λ r. r.installed) tied.0.saved) ∙ between e (M.node n).saved.installed (M.node n).promised (M.node n).session (node.ready_installed e ready) node.installed (node.session (subst (λ k. 0 < k) (co.epoch ∙ sym session) some)) (co.epoch ∙ sym session))
seat_starts c M n disk (Member s) o b holds tied has own = absurd (none_some b (sym tied.2 ∙ has))

not_both : (b : Bool) → b ≡ true → b ≡ false → ⊥
not_both true h k = false_true (sym k)
not_both false h k = false_true h

settle_up : (c : Cluster) (M : Memberships) (n : ℕ) (disk : NodeRecord) (y : UpNode) → Holds (setting_of c) M → NodeTied c M n disk (Up y) → Ends y → Has IsLive y
settle_up c M n disk y holds tied (inl live) = live
settle_up c M n disk y holds tied (inr stuck) = by_attempt y.attempt refl stuck
  where
    by_attempt : (o : Option AttemptState) → y.attempt ≡ o → In (λ b. (b.own_ready ≡ true) × (starts_at y.seat b.plan.epoch ≡ false)) o → In IsLive o
    by_attempt None is h = tt
    by_attempt (Some b) is h = absurd (not_both (starts_at y.seat b.plan.epoch) (seat_starts c M n disk y.seat y.attempt b holds tied.0 is h.0) h.1)

settle_node : (c : Cluster) (M : Memberships) (n : ℕ) (disk : NodeRecord) (node : Node) → Holds (setting_of c) M → NodeTied c M n disk node → IsAt Ends node → IsAt (Has IsLive) node
settle_node c M n disk Down holds tied h = tt
settle_node c M n disk (Up y) holds tied h = settle_up c M n disk y holds tied h

-- ---- each thing that happens

abbrev pub AllLive : Scene → Type 0
AllLive s = (n : ℕ) → IsAt (Has IsLive) (s.nodes.node n)

abbrev EndsIn : Nodes → Type 0
EndsIn v = (n : ℕ) → IsAt Ends (v.node n)

settle : (c : Cluster) (s : Scene) → KnownScene c s → EndsIn s.nodes → AllLive s
settle c s k h n = settle_node c k.stage.machine n (s.nodes.disk n).kept (s.nodes.node n) k.stage.holds (k.stage.stands n).tied (h n)

live_ends : (node : Node) → IsAt (Has IsLive) node → IsAt Ends node
live_ends Down h = tt
live_ends (Up x) h = inl h

taking_ends : (c : Cluster) (s t : Scene) (n now : ℕ) (ends : method.Outcome) (i : Input) → t.nodes ≡ s.nodes → AllLive s → EndsIn (taking c n now ends i t).nodes
taking_ends c s t n now ends i same h =
    subst EndsIn (sym (passing_nodes n (given_by c n now ends i t.nodes) (record t { nodes = moved c t.nodes (Takes_in n now ends i) })))
    (subst (λ v. EndsIn (moved c v (Takes_in n now ends i))) (sym same)
    (put_cases (λ j z. IsAt Ends z) s.nodes.node n (stepped disk_rules c n now ends (s.nodes.node n) (s.nodes.disk n) i).after (step_ends c n now ends (s.nodes.node n) (s.nodes.disk n) i (h n)) (λ j ne. live_ends (s.nodes.node j) (h j))))

dropped_nodes : (o : Option (ℕ × DropCause)) (s : Scene) → (dropped_so o s).nodes ≡ s.nodes
dropped_nodes None s = refl
dropped_nodes (Some x) s = refl

commanded_nodes : (s : Scene) (n d : ℕ) (o : Option Device) (k : PrCommand) → (commanded_at s n d o k).scene.nodes ≡ s.nodes
commanded_nodes s n d None k = refl
commanded_nodes s n d (Some x) k = refl

armed_ends : (c : Cluster) (e : Event) (s : Scene) → AllLive s → EndsIn (armed_by c e (adding (Said (line.Event e)) s)).nodes
armed_ends c (event.CrashAt n calls choice) s h = λ j. live_ends (s.nodes.node j) (h j)
armed_ends c (event.Fault n d done) s h = λ j. live_ends (s.nodes.node j) (h j)
armed_ends c _ s h = λ j. live_ends (s.nodes.node j) (h j)

happening_ends : (c : Cluster) (s : Scene) (x : Happening) → AllLive s → EndsIn (happened c s x).nodes
happening_ends c s (Speaks e) h = armed_ends c e s h
happening_ends c s (Takes_plain n now ends i) h = taking_ends c s s n now ends i refl h
happening_ends c s (Arrives number x m now ends) h = taking_ends c s (telling (entry.Packet (packet.Delivered number x.from x.to)) (removed s number)) x.to now ends (input.Packet x.from m) refl h
happening_ends c s (Repeats number x) h =
    let o : net.Outcome = sending s.links x.from x.to x.bytes in
    subst EndsIn (sym (dropped_nodes o.sent.dropped (telling (entry.Packet (packet.Repeated number s.links.next)) (with_links s o.after)))) (λ j. live_ends (s.nodes.node j) (h j))
happening_ends c s (Commands n d q now ends) h = taking_ends c s (commanded s n d q).scene n now ends (input.Answered (commanded s n d q).answer) (commanded_nodes s n d (slice_get s.devices (d - 1)) q) h
happening_ends c s (Writes n d value now ends) h =
    let q : PrCommand = command.Write value in
    taking_ends c s (commanded s n d q).scene n now ends (input.Wrote d value (commanded s n d q).answer) (commanded_nodes s n d (slice_get s.devices (d - 1)) q) h
happening_ends c s _ h = λ j. live_ends (s.nodes.node j) (h j)

first_live : (h : Header) (cells : ℕ) → AllLive (first_scene h cells)
unfolding first_scene
first_live h cells n = tt

pub run_live : (h : Header) (cells : ℕ) (hs : List Happening) → length h.devices ≤ most_devices → h.cluster < 2 ^ 32 → MayAllHappen (first_cluster h) (first_scene h cells) hs → AllLive (all_happened (first_cluster h) (first_scene h cells) hs)
run_live h cells hs few small may =
    holds_of_each h cells AllLive
    (λ s x now at more so. settle (first_cluster h) (happened (first_cluster h) s x) (known_scene h cells (happened (first_cluster h) s x) (record { few = few; small = small }) more) (happening_ends (first_cluster h) s x so))
    (first_live h cells) hs may

pub none_is_over : NoneIsOver
none_is_over h cells hs few small may n a at =
    let s : Scene = all_happened (first_cluster h) (first_scene h cells) hs in
    let it : HasIt (s.nodes.node n) a = has_it (s.nodes.node n) a at in
    subst (In IsLive) it.has (subst (IsAt (Has IsLive)) it.up (run_live h cells hs few small may n))
