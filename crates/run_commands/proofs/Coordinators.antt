-- In each run the coordinator of a member's session is a node: numbers of no node stay down, and promise nothing.
use Rattle.std.specs.Prelude.{ℕ, ◌%◌, ◌-◌, ◌≡◌, ◌≢◌, ◌≤◌, ◌<◌, ◌⊎◌, ◌&&◌, nat_le, Bool, true, false, List, Option, None, Some, is_some, slice_get, if◌then◌else◌}
use Rattle.std.proofs.Common.{refl, sym, subst, ◌∙◌, inl, inr, arith}
use Rattle.cl_base.specs.Limits.{most_nodes}
use Rattle.cl_base.specs.declared.header.Header.{Header}
use Rattle.cl_base.specs.declared.method.Outcome as method
use Rattle.cl_base.specs.declared.packet.DropCause.{DropCause}
use Rattle.cmm_attempt.proofs.Basics.{false_true}
use Rattle.cmm_member.specs.Machine.{ShowsMember}
use Rattle.cmm_member.specs.Nodes.{NodeState}
use Rattle.cmm_member.specs.Records.{NodeRecord}
use Rattle.interconnect.specs.Links as links
use Rattle.interconnect.specs.Links.{sending}
use Rattle.machine_base.specs.Epochs.{coordinator}
use Rattle.machine_base.specs.Put.{put}
use Rattle.machine_base.proofs.Puts.{put_here, put_there, same_or_not}
use Rattle.membership_machine.specs.Invariant.{EpochOk}
use Rattle.membership_machine.specs.State.{Memberships}
use Rattle.node_model.specs.Seats.{is_member, node_numbered, state_of}
use Rattle.node_model.specs.Steps.{Outcome, stepped}
use Rattle.node_model.specs.declared.cluster.Cluster.{Cluster}
use Rattle.node_model.specs.declared.input.Input.{Input}
use Rattle.node_model.specs.declared.input.Input.TheVariants as input
use Rattle.node_model.specs.declared.node.Node.{Node}
use Rattle.node_model.specs.declared.node.Node.TheVariants.{Down, Up}
use Rattle.node_model.specs.declared.node.UpNode.{UpNode}
use Rattle.node_model.specs.declared.seat.Seat.{Seat}
use Rattle.node_model.specs.declared.seat.Seat.TheVariants.{Forming, Member}
use Rattle.pgr_device.specs.Device.{Device}
use Rattle.pgr_device.specs.declared.command.PrCommand.{PrCommand}
use Rattle.pgr_device.specs.declared.command.PrCommand.TheVariants as command
use Rattle.record_disk.specs.Disks.{DiskState, armed}
use Rattle.refinement.specs.Runs.{Nodes, moved}
use Rattle.refinement.specs.Runs.Move.{Takes as Takes_in}
use Rattle.refinement.specs.Steps.{disk_rules}
use Rattle.refinement.specs.Ties.{NodeTied, SeatTied, setting_of}
use Rattle.schedule_text.specs.declared.event.Event.{Event}
use Rattle.schedule_text.specs.declared.event.Event.TheVariants as event
use Rattle.schedule_text.specs.declared.line.Line.TheVariants as line
use Rattle.status_report.specs.declared.entry.Entry.TheVariants as entry
use Rattle.status_report.specs.declared.packet_entry.PacketEntry.TheVariants as packet
use Rattle.world_model.specs.First.{first_cluster}
use Rattle.world_model.specs.Lines.{left_by}
use Rattle.history.specs.Moment.{Said}
use Rattle.run_history.proofs.Idle.{passing_nodes}
use Rattle.run_history.specs.Happenings.{Arrives, Begins, Commands, Happening, IsNode, Loses, MayAllHappen, MayHappen, Misses, Notes, Refuses, Repeats, Speaks, Strays, Takes, Writes, all_happened, armed_by, commanded, commanded_at, given_by, happened, removed, taking}
use Rattle.run_history.specs.Scenes.{Scene, adding, dropped_so, first_scene, telling, with_links}
use Rattle.run_history.specs.Stages.{Stage}
use Rattle.run_messages.proofs.Reaching.{IsReached, IsSmall, holds_of_each, stage_of}
use Rattle.run_commands.specs.Guards.{IsLed}

-- a number of no node is down, and has promised nothing
abbrev BareAt : ℕ → Node → DiskState → Type 0
BareAt k node disk = IsNode k ⊎ ((node ≡ Down) × (disk.kept.promised ≡ 0))

abbrev AreBare : Nodes → Type 0
AreBare v = (k : ℕ) → BareAt k (v.node k) (v.disk k)

abbrev BareIn : Scene → Type 0
BareIn s = AreBare s.nodes

-- ---- each thing that happens

bare_put : (v : Nodes) (n : ℕ) (node : Node) (disk : DiskState) → IsNode n → AreBare v → (k : ℕ) → BareAt k (put v.node n node k) (put v.disk n disk k)
bare_put v n node disk is h k = go (same_or_not k n)
  where
    go : (k ≡ n) ⊎ (k ≢ n) → BareAt k (put v.node n node k) (put v.disk n disk k)
    go (inl e) = inl (subst IsNode (sym e) is)
    go (inr ne) = subst (λ x. BareAt k x (put v.disk n disk k)) (sym (put_there v.node n node k ne)) (subst (λ d. BareAt k (v.node k) d) (sym (put_there v.disk n disk k ne)) (h k))

taking_bare : (c : Cluster) (s : Scene) (n now : ℕ) (ends : method.Outcome) (i : Input) → IsNode n → BareIn s → BareIn (taking c n now ends i s)
taking_bare c s n now ends i is h =
    let o : Outcome DiskState = stepped disk_rules c n now ends (s.nodes.node n) (s.nodes.disk n) i in
    subst AreBare (sym (passing_nodes n (given_by c n now ends i s.nodes) (record s { nodes = moved c s.nodes (Takes_in n now ends i) }))) (bare_put s.nodes n o.after o.disk is h)

-- a disk with the same record
same_bare : (v : Nodes) (n : ℕ) (disk : DiskState) → disk.kept.promised ≡ (v.disk n).kept.promised → AreBare v → (k : ℕ) → BareAt k (v.node k) (put v.disk n disk k)
same_bare v n disk same h k = go (same_or_not k n)
  where
    here : BareAt n (v.node n) (v.disk n) → BareAt n (v.node n) disk
    here (inl is) = inl is
    here (inr b) = inr (b.0, same ∙ b.1)

    go : (k ≡ n) ⊎ (k ≢ n) → BareAt k (v.node k) (put v.disk n disk k)
    go (inl e) = subst (λ j. BareAt j (v.node j) (put v.disk n disk j)) (sym e) (subst (λ d. BareAt n (v.node n) d) (sym (put_here v.disk n disk)) (here (h n)))
    go (inr ne) = subst (λ d. BareAt k (v.node k) d) (sym (put_there v.disk n disk k ne)) (h k)

armed_bare : (c : Cluster) (e : Event) (s : Scene) → BareIn s → BareIn (armed_by c e s)
armed_bare c (event.Fault n d done) s h = h
armed_bare c (event.CrashAt n calls choice) s h = same_bare s.nodes n (armed (s.nodes.disk n) calls (left_by choice)) refl h
armed_bare c _ s h = h

dropped_bare : (o : Option (ℕ × DropCause)) (s : Scene) → BareIn s → BareIn (dropped_so o s)
dropped_bare None s h = h
dropped_bare (Some drop) s h = h

commanded_bare : (s : Scene) (n d : ℕ) (o : Option Device) (k : PrCommand) → BareIn s → BareIn (commanded_at s n d o k).scene
commanded_bare s n d None k h = h
commanded_bare s n d (Some x) k h = h

happening_bare : (c : Cluster) (s : Scene) (x : Happening) → MayHappen c s x → BareIn s → BareIn (happened c s x)
happening_bare c s (Speaks e) may h = armed_bare c e (adding (Said (line.Event e)) s) h
happening_bare c s (Begins e) may h = h
happening_bare c s (Notes e) may h = h
happening_bare c s (Takes n now ends i) may h = taking_bare c s n now ends i may.0 h
happening_bare c s (Arrives number x m now ends) may h =
    taking_bare c (telling (entry.Packet (packet.Delivered number x.from x.to)) (removed s number)) x.to now ends (input.Packet x.from m) may.3 h
happening_bare c s (Strays number x) may h = h
happening_bare c s (Misses number x) may h = h
happening_bare c s (Loses number x) may h = h
happening_bare c s (Repeats number x) may h =
    let o : links.Outcome = sending s.links x.from x.to x.bytes in
    dropped_bare o.sent.dropped (telling (entry.Packet (packet.Repeated number s.links.next)) (with_links s o.after)) h
happening_bare c s (Commands n d k now ends) may h =
    taking_bare c (commanded s n d k).scene n now ends (input.Answered (commanded s n d k).answer) may.0 (commanded_bare s n d (slice_get s.devices (d - 1)) k h)
happening_bare c s (Writes n d value now ends) may h =
    let k : PrCommand = command.Write value in
    taking_bare c (commanded s n d k).scene n now ends (input.Wrote d value (commanded s n d k).answer) may.0 (commanded_bare s n d (slice_get s.devices (d - 1)) k h)
happening_bare c s (Refuses n d value cause) may h = h

first_bare : (h : Header) (cells : ℕ) → BareIn (first_scene h cells)
unfolding first_scene
first_bare h cells = λ k. inr (refl, refl)

bare_in_each : (h : Header) (cells : ℕ) (hs : List Happening) → MayAllHappen (first_cluster h) (first_scene h cells) hs → BareIn (all_happened (first_cluster h) (first_scene h cells) hs)
bare_in_each h cells hs may = holds_of_each h cells BareIn (λ s x now at more b. happening_bare (first_cluster h) s x now b) (first_bare h cells) hs may

-- ---- the coordinator of a member's session

low_is : (k : ℕ) → 1 ≤ k → k ≤ 32 → (nat_le 1 k ≡ true) × (nat_le k most_nodes ≡ true)
low_is k low high = (grind arith, grind arith)

numbered_node : (k : ℕ) → IsNode k → is_some (node_numbered k) ≡ true
numbered_node k is = by_tests (nat_le 1 k) (nat_le k most_nodes) (low_is k is.0 is.1).0 (low_is k is.0 is.1).1
  where
    by_tests : (a b : Bool) → a ≡ true → b ≡ true → is_some (if a && b then Some k else None) ≡ true
    by_tests true true e f = refl
    by_tests true false e f = cc
    by_tests false b e f = cc

-- who has promised something is a node
promised_by_node : (c : Cluster) (M : Memberships) (k e : ℕ) (node : Node) (disk : DiskState) → 0 < e → e ≤ (M.node k).promised → NodeTied c M k disk.kept node → BareAt k node disk → IsNode k
promised_by_node c M k e node disk above low tied (inl is) = is
promised_by_node c M k e node disk above low tied (inr bare) =
    absurd (nothing e (M.node k).promised above low ((subst (λ z. NodeTied c M k disk.kept z) bare.0 tied).0.promised ∙ bare.1))
  where
    nothing : (a b : ℕ) → 0 < a → a ≤ b → b ≡ 0 → ⊥
    nothing a b h l z = grind arith

member_led : (c : Cluster) (s : Scene) (n : ℕ) (t : NodeState) (b : Stage c s) → BareIn s → ShowsMember t (b.machine.node n) → IsNode (coordinator t.session)
member_led c s n t b bare shows =
    let M : Memberships = b.machine in
    let e : ℕ = (M.node n).session in
    let ok : EpochOk (setting_of c) M.node e (M.epoch e) = b.holds.epoch e in
    let tried : (M.epoch e).tried ≡ true = ok.counted_tried (ok.started_counted ((b.holds.node n).member_started shows.member)) in
    let k : ℕ = coordinator e in
    subst (λ z. IsNode (coordinator z)) shows.session
    (promised_by_node c M k e (s.nodes.node k) (s.nodes.disk k) (ok.tried_positive tried) (ok.tried_promised tried) (b.stands k).tied (bare k))

up_led : (c : Cluster) (s : Scene) (n : ℕ) (x : UpNode) (disk : NodeRecord) (b : Stage c s) → BareIn s → NodeTied c b.machine n disk (Up x) → IsLed x
unfolding coordinator
up_led c s n x disk b bare tied = by_seat x.seat tied.0
  where
    by_seat : (seat : Seat) → SeatTied c b.machine n disk x.attempt seat → is_member seat ≡ true → is_some (node_numbered ((state_of seat).session % 64)) ≡ true
    by_seat (Forming t) tie is = absurd (false_true is)
    by_seat (Member t) tie is = numbered_node (t.session % 64) (member_led c s n t b bare tie.0)

abbrev pub NodeLed : Node → Type 0
NodeLed Down = Unit {0}
NodeLed (Up x) = IsLed x

abbrev pub AreLed : Scene → Type 0
AreLed s = (n : ℕ) → NodeLed (s.nodes.node n)

node_led : (c : Cluster) (s : Scene) (n : ℕ) (node : Node) (disk : NodeRecord) (b : Stage c s) → BareIn s → NodeTied c b.machine n disk node → NodeLed node
node_led c s n Down disk b bare tied = tt
node_led c s n (Up x) disk b bare tied = up_led c s n x disk b bare tied

pub commanded_led : (s : Scene) (n d : ℕ) (o : Option Device) (k : PrCommand) → AreLed s → AreLed (commanded_at s n d o k).scene
commanded_led s n d None k h = h
commanded_led s n d (Some x) k h = h

pub led_at : (h : Header) (cells : ℕ) (s : Scene) → IsSmall h → IsReached h cells s → AreLed s
led_at h cells s size r n =
    let b : Stage (first_cluster h) s = stage_of h cells s size r in
    node_led (first_cluster h) s n (s.nodes.node n) (s.nodes.disk n).kept b (subst BareIn r.is (bare_in_each h cells r.happenings r.may)) (b.stands n).tied
