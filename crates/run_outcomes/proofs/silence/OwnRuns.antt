-- In each run a coordinator's own part is done, while its attempt installs, exactly where no joining is queued.
use Rattle.std.specs.Prelude.{ℕ, ◌-◌, ◌==◌, ◌≡◌, nat_le, true, Option, None, Some, List, slice_get}
use Rattle.std.proofs.Common.{arith, refl, sym, ap, subst, ◌∙◌}
use Rattle.cl_base.specs.declared.header.Header.{Header}
use Rattle.cl_base.specs.declared.method.Outcome as method
use Rattle.cl_base.specs.declared.packet.DropCause.{DropCause}
use Rattle.cmm_attempt.proofs.Basics.{and_cases, same_number}
use Rattle.cmm_attempt.specs.Attempts.{AttemptState}
use Rattle.cmm_attempt.specs.declared.phase.Phase.TheVariants.{Installing}
use Rattle.cmm_member.specs.Nodes.{NodeState}
use Rattle.cmm_member.specs.Records.{NodeRecord}
use Rattle.history.specs.Moment.{Said}
use Rattle.interconnect.specs.Links as net
use Rattle.interconnect.specs.Links.{sending}
use Rattle.machine_base.proofs.Puts.{put_cases}
use Rattle.membership_machine.specs.State.{Memberships}
use Rattle.node_model.specs.Seats.{coordinator_of, is_in, session_of, state_of}
use Rattle.node_model.specs.Steps.{stepped}
use Rattle.node_model.specs.declared.cluster.Cluster.{Cluster}
use Rattle.node_model.specs.declared.input.Input.{Input}
use Rattle.node_model.specs.declared.input.Input.TheVariants as input
use Rattle.node_model.specs.declared.node.Node.{Node}
use Rattle.node_model.specs.declared.node.Node.TheVariants.{Down, Up}
use Rattle.node_model.specs.declared.node.UpNode.{UpNode}
use Rattle.node_model.specs.declared.seat.Seat.{Seat}
use Rattle.node_model.specs.declared.seat.Seat.TheVariants.{Forming}
use Rattle.pgr_device.specs.Device.{Device}
use Rattle.pgr_device.specs.declared.command.PrCommand.{PrCommand}
use Rattle.pgr_device.specs.declared.command.PrCommand.TheVariants as command
use Rattle.refinement.specs.Runs.{Nodes, moved}
use Rattle.refinement.specs.Runs.Move.{Takes as Takes_in}
use Rattle.refinement.specs.Steps.{disk_rules}
use Rattle.refinement.specs.Ties.{CountedIn, NodeTied, SeatTied}
use Rattle.schedule_text.specs.declared.event.Event.{Event}
use Rattle.schedule_text.specs.declared.event.Event.TheVariants as event
use Rattle.schedule_text.specs.declared.line.Line.TheVariants as line
use Rattle.status_report.specs.declared.entry.Entry.TheVariants as entry
use Rattle.status_report.specs.declared.packet_entry.PacketEntry.TheVariants as packet
use Rattle.world_model.specs.First.{first_cluster}
use Rattle.run_history.proofs.Idle.{passing_nodes}
use Rattle.run_history.specs.Happenings.{Arrives, Commands, Happening, MayAllHappen, Repeats, Speaks, Takes as Takes_plain, Writes, all_happened, armed_by, commanded, commanded_at, given_by, happened, removed, taking}
use Rattle.run_history.specs.Scenes.{Scene, adding, dropped_so, first_scene, telling, with_links}
use Rattle.run_history.specs.Stages.{Stage}
use Rattle.run_messages.proofs.Reaching.{IsReached, IsSmall, holds_of_each, stage_of}
use Rattle.run_outcomes.specs.phases.Kept.{In}
use Rattle.run_outcomes.specs.saves.Kept.{IsAt}
use Rattle.run_outcomes.specs.silence.OwnPart.{PartSo, Parted, Seated, Sits}
use Rattle.run_outcomes.specs.tasks.Own.{IsOrdered, Leads}
use Rattle.run_outcomes.proofs.own_tasks.Grounds.{leads_at}
use Rattle.run_outcomes.proofs.silence.OwnInputs.{step_parted}

-- ---- where a node sits

itself : (a b : ℕ) → a ≡ b → (a == b) ≡ true
itself a b h = grind arith

installed_so : (c : Cluster) (M : Memberships) (n : ℕ) (disk : NodeRecord) (x : UpNode) (a : AttemptState) → NodeTied c M n disk (Up x) → x.attempt ≡ Some a → a.phase ≡ Installing → (s : NodeState) → x.seat ≡ Forming s → (i : ℕ) → is_in x i ≡ true
    → (s.saved.installed == i) ≡ true
installed_so c M n disk x a tied has at s seat i here =
    let forming : SeatTied c M n disk (Some a) (Forming s) = subst (λ o. SeatTied c M n disk o (Forming s)) has (subst (SeatTied c M n disk x.attempt) seat tied.0) in
    let counted : CountedIn M s a Installing = subst (CountedIn M s a) at forming.2.counted in
    let session : session_of x ≡ s.session = ap (λ (z : Seat). (state_of z).session) seat in
    itself s.saved.installed i (counted.0 ∙ (forming.2.epoch ∙ (sym session ∙ same_number (session_of x) i (and_cases (nat_le 1 i) (session_of x == i) here).1)))

seated_at : (h : Header) (cells : ℕ) (s : Scene) (n : ℕ) → IsSmall h → IsReached h cells s → IsAt (Seated n) (s.nodes.node n)
seated_at h cells s n size r = by_node (s.nodes.node n) refl (leads_at h cells s n size r)
  where
    c : Cluster
    c = first_cluster h

    b : Stage c s
    b = stage_of h cells s size r

    by_attempt : (x : UpNode) → s.nodes.node n ≡ Up x → (o : Option AttemptState) → x.attempt ≡ o → Leads n x → In (Sits n x) o
    by_attempt x up None is leads = tt
    by_attempt x up (Some a) is leads = record {
      leads = (subst (In (λ (z : AttemptState). IsOrdered n z × (coordinator_of x ≡ Some n))) is leads).1;
      installed = λ at t seat i here. installed_so c b.machine n (s.nodes.disk n).kept x a (subst (NodeTied c b.machine n (s.nodes.disk n).kept) up (b.stands n).tied) is at t seat i here;
    }

    by_node : (node : Node) → s.nodes.node n ≡ node → IsAt (Leads n) node → IsAt (Seated n) node
    by_node Down is leads = tt
    by_node (Up x) is leads = by_attempt x is x.attempt refl leads

-- ---- each thing that happens

abbrev pub AllParted : Scene → Type 0
AllParted s = (n : ℕ) → IsAt Parted (s.nodes.node n)

taking_parted : (c : Cluster) (s t : Scene) (n now : ℕ) (ends : method.Outcome) (i : Input) → t.nodes ≡ s.nodes → IsAt (Seated n) (s.nodes.node n) → AllParted s → AllParted (taking c n now ends i t)
taking_parted c s t n now ends i same sits h =
    subst (λ (v : Nodes). (j : ℕ) → IsAt Parted (v.node j)) (sym (passing_nodes n (given_by c n now ends i t.nodes) (record t { nodes = moved c t.nodes (Takes_in n now ends i) })))
    (subst (λ (v : Nodes). (j : ℕ) → IsAt Parted ((moved c v (Takes_in n now ends i)).node j)) (sym same)
    (put_cases (λ j z. IsAt Parted z) s.nodes.node n (stepped disk_rules c n now ends (s.nodes.node n) (s.nodes.disk n) i).after (step_parted c n now ends (s.nodes.node n) (s.nodes.disk n) i sits (h n)) (λ j ne. h j)))

dropped_nodes : (o : Option (ℕ × DropCause)) (s : Scene) → (dropped_so o s).nodes ≡ s.nodes
dropped_nodes None s = refl
dropped_nodes (Some x) s = refl

commanded_nodes : (s : Scene) (n d : ℕ) (o : Option Device) (k : PrCommand) → (commanded_at s n d o k).scene.nodes ≡ s.nodes
commanded_nodes s n d None k = refl
commanded_nodes s n d (Some x) k = refl

armed_parted : (c : Cluster) (e : Event) (s : Scene) → AllParted s → AllParted (armed_by c e (adding (Said (line.Event e)) s))
armed_parted c (event.CrashAt n calls choice) s h = h
armed_parted c (event.Fault n d done) s h = h
armed_parted c _ s h = h

happening_parted : (h : Header) (cells : ℕ) (s : Scene) (x : Happening) → IsSmall h → IsReached h cells s → AllParted s → AllParted (happened (first_cluster h) s x)
happening_parted h cells s (Speaks e) size r own = armed_parted (first_cluster h) e s own
happening_parted h cells s (Takes_plain n now ends i) size r own = taking_parted (first_cluster h) s s n now ends i refl (seated_at h cells s n size r) own
happening_parted h cells s (Arrives number x m now ends) size r own =
    taking_parted (first_cluster h) s (telling (entry.Packet (packet.Delivered number x.from x.to)) (removed s number)) x.to now ends (input.Packet x.from m) refl (seated_at h cells s x.to size r) own
happening_parted h cells s (Repeats number x) size r own =
    let o : net.Outcome = sending s.links x.from x.to x.bytes in
    subst (λ (v : Nodes). (j : ℕ) → IsAt Parted (v.node j)) (sym (dropped_nodes o.sent.dropped (telling (entry.Packet (packet.Repeated number s.links.next)) (with_links s o.after)))) own
happening_parted h cells s (Commands n d q now ends) size r own =
    taking_parted (first_cluster h) s (commanded s n d q).scene n now ends (input.Answered (commanded s n d q).answer) (commanded_nodes s n d (slice_get s.devices (d - 1)) q) (seated_at h cells s n size r) own
happening_parted h cells s (Writes n d value now ends) size r own =
    let q : PrCommand = command.Write value in
    taking_parted (first_cluster h) s (commanded s n d q).scene n now ends (input.Wrote d value (commanded s n d q).answer) (commanded_nodes s n d (slice_get s.devices (d - 1)) q) (seated_at h cells s n size r) own
happening_parted h cells s _ size r own = own

first_parted : (h : Header) (cells : ℕ) → AllParted (first_scene h cells)
unfolding first_scene
first_parted h cells n = tt

run_parted : (h : Header) (cells : ℕ) (hs : List Happening) → IsSmall h → MayAllHappen (first_cluster h) (first_scene h cells) hs → AllParted (all_happened (first_cluster h) (first_scene h cells) hs)
run_parted h cells hs size may = holds_of_each h cells AllParted (λ s x now at more own. happening_parted h cells s x size at own) (first_parted h cells) hs may

pub part_at : (h : Header) (cells : ℕ) (hs : List Happening) → IsSmall h → MayAllHappen (first_cluster h) (first_scene h cells) hs → (n : ℕ) (x : UpNode) (a : AttemptState)
    → (all_happened (first_cluster h) (first_scene h cells) hs).nodes.node n ≡ Up x → x.attempt ≡ Some a → PartSo x.tasks a
part_at h cells hs size may n x a up has = subst (In (PartSo x.tasks)) has (subst (IsAt Parted) up (run_parted h cells hs size may n))
