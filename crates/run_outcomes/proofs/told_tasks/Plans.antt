-- An attempt is over the devices of the cluster, in each run, and is of its number.
use Rattle.attempt_laws.proofs.Stays.{plan_begins, plan_stays}
use Rattle.attempt_laws.specs.Staying.{IsOf}
use Rattle.cmm_attempt.specs.declared.plan.Plan.{Plan}
use Rattle.std.specs.Prelude.{ℕ, ◌-◌, ◌≡◌, ◌≤◌, ◌<◌, ◌^◌, All, List, [], ◌∷◌, Option, None, Some, length, slice_get}
use Rattle.std.proofs.Common.{refl, sym, subst}
use Rattle.cl_base.specs.Limits.{most_devices}
use Rattle.cl_base.specs.Sets.{has}
use Rattle.cl_base.specs.declared.header.Header.{Header}
use Rattle.cl_base.specs.declared.method.Outcome as method
use Rattle.cl_base.specs.declared.packet.DropCause.{DropCause}
use Rattle.cmm_attempt.proofs.Basics.{if_either}
use Rattle.cmm_attempt.specs.Attempts.{AttemptState, beginning}
use Rattle.cmm_attempt.specs.Calls.{Call, IsDevice, May as May_call, turn}
use Rattle.cmm_member.specs.Records.{NodeRecord}
use Rattle.device_queue.specs.Queue.{after_seize}
use Rattle.history.specs.Moment.{Said}
use Rattle.interconnect.specs.Links as net
use Rattle.interconnect.specs.Links.{sending}
use Rattle.machine_base.proofs.Puts.{put_cases}
use Rattle.node_model.specs.Attempts.{own_promise}
use Rattle.node_model.specs.Members.{rested_by}
use Rattle.node_model.specs.Seats.{promising, record_of}
use Rattle.node_model.specs.Steps.{Outcome, stepped}
use Rattle.node_model.specs.declared.cluster.Cluster.{Cluster}
use Rattle.node_model.specs.declared.input.Input.{Input}
use Rattle.node_model.specs.declared.input.Input.TheVariants as input
use Rattle.node_model.specs.declared.node.Node.{Node}
use Rattle.node_model.specs.declared.node.Node.TheVariants.{Down, Up}
use Rattle.node_model.specs.declared.node.UpNode.{UpNode}
use Rattle.pgr_device.specs.Device.{Device}
use Rattle.pgr_device.specs.declared.command.PrCommand.{PrCommand}
use Rattle.pgr_device.specs.declared.command.PrCommand.TheVariants as command
use Rattle.record_disk.specs.Disks.{DiskState}
use Rattle.refinement.proofs.Attempts.{may_be_called}
use Rattle.refinement.proofs.Disks.{disks_keep_rules}
use Rattle.refinement.proofs.Facts.{step_may}
use Rattle.refinement.proofs.Handlers.{delivered_by}
use Rattle.refinement.specs.Cuts.{doings}
use Rattle.refinement.specs.Doings.{Act, Change, Doing, Site, acted, after_all, changed, effect, site}
use Rattle.refinement.specs.Doings.Act.{Ends, Goes_on, Makes, Queues}
use Rattle.refinement.specs.Doings.Change.{Counts, Leads, Promises, Starts}
use Rattle.refinement.specs.Doings.Doing.{Comes_up, Does, Forgets, Goes_down, Loses, Saves}
use Rattle.refinement.specs.Guards.{May, MayAct, MayAll, MayChange}
use Rattle.refinement.specs.Runs.{Nodes, moved}
use Rattle.refinement.specs.Runs.Move.{Takes as Takes_in}
use Rattle.refinement.specs.Steps.{disk_rules}
use Rattle.refinement.specs.Ties.{Delivered}
use Rattle.run_attempts.proofs.Known.{known_scene}
use Rattle.run_history.proofs.Idle.{passing_nodes}
use Rattle.run_history.proofs.MemberRuns.{first_fit}
use Rattle.run_history.specs.Happenings.{Arrives, Begins, Commands, Happening, Loses as Loses_packet, MayAllHappen, MayHappen, Misses, Notes, Refuses, Repeats, Speaks, Strays, Takes as Takes_plain, Writes, all_happened, armed_by, commanded, commanded_at, given_by, happened, removed, taking}
use Rattle.run_history.specs.Scenes.{Scene, adding, dropped_so, first_scene, telling, with_links}
use Rattle.run_messages.proofs.Reaching.{holds_of_each}
use Rattle.run_messages.proofs.records.Replies.{CutSo, steps_are_cut_so}
use Rattle.run_messages.specs.records.Kept.{KnownScene}
use Rattle.run_outcomes.specs.saves.Kept.{IsAt}
use Rattle.schedule_text.specs.declared.event.Event.{Event}
use Rattle.schedule_text.specs.declared.event.Event.TheVariants as event
use Rattle.schedule_text.specs.declared.line.Line.TheVariants as line
use Rattle.seize.specs.Seizing as seizing
use Rattle.status_report.specs.declared.entry.Entry.TheVariants as entry
use Rattle.status_report.specs.declared.packet_entry.PacketEntry.TheVariants as packet
use Rattle.world_model.specs.First.{first_cluster}
use Rattle.run_outcomes.specs.phases.Kept.{In}
use Rattle.run_outcomes.proofs.phases.Leading.{Has}

abbrev pub PlanSo : Cluster → AttemptState → Type 0
PlanSo c a = (a.plan.attached ≡ c.attached) × (a.plan.cluster ≡ c.id)

call_plan : (c : Cluster) (told : Delivered) (a : AttemptState) (k : Call) → May_call a k → PlanSo c a → PlanSo c (turn a k).after
call_plan c told a k may h = subst (λ (p : Plan). (p.attached ≡ c.attached) × (p.cluster ≡ c.id)) (sym (plan_stays a k may)) h

begun_plan : (c : Cluster) (me : ℕ) (x : UpNode) (p members : ℕ) → PlanSo c (beginning p members (own_promise me x p) c.attached c.id).after
begun_plan c me x p members =
    let b : IsOf (beginning p members (own_promise me x p) c.attached c.id).after p members (own_promise me x p) c.attached c.id = plan_begins p members (own_promise me x p) c.attached c.id in
    (b.of_attached, b.of_cluster)

-- ---- each small step

rested_plan : (c : Cluster) (x : UpNode) (p : ℕ) (o : Option AttemptState) → Has (PlanSo c) (rested_by (promising x p) o)
rested_plan c x p None = tt
rested_plan c x p (Some a) = tt

attempt_plan : (c : Cluster) (x : UpNode) (a : AttemptState) → x.attempt ≡ Some a → Has (PlanSo c) x → (PlanSo c) a
attempt_plan c x a is h = subst (In (PlanSo c)) is h

change_plan : (c : Cluster) (me : ℕ) (told : Delivered) (x : UpNode) (change : Change) → MayChange c me told x change → Has (PlanSo c) x → Has (PlanSo c) (changed c me x change)
change_plan c me told x (Promises p) may h = rested_plan c x p x.attempt
change_plan c me told x (Leads p members) may h = begun_plan c me (record (promising x p) { greatest = p }) p members
change_plan c me told x (Counts a k s i) may h = call_plan c told a k (may_be_called c told a k may.2) (attempt_plan c x a may.0 h)
change_plan c me told x (Starts a k s) may h = tt
change_plan c me told x _ may h = h

act_plan : (c : Cluster) (me : ℕ) (told : Delivered) (x : UpNode) (a : Act) → MayAct c me told x a → Has (PlanSo c) x → Has (PlanSo c) (acted c me x a)
act_plan c me told x (Goes_on a k) may h = call_plan c told a k (may_be_called c told a k may.1) (attempt_plan c x a may.0 h)
act_plan c me told x (Ends a e) may h = tt
act_plan c me told x (Makes change) may h = change_plan c me told x change may.0 h
act_plan c me told x (Queues a d kind) may h =
    if_either (Has (PlanSo c)) (has a.plan.members me) (record x { tasks = after_seize x.tasks d (seizing.begun kind a.plan.epoch a.plan.members me c.id (has (record_of x).valid d)) }) x h h
act_plan c me told x _ may h = h

doing_plan : (c : Cluster) (me : ℕ) (told : Delivered) (node : Node) (disk : NodeRecord) (d : Doing) → May c me told (site node disk) d → IsAt (Has (PlanSo c)) node → IsAt (Has (PlanSo c)) (effect c me (site node disk) d).node
doing_plan c me told Down disk Comes_up may h = tt
doing_plan c me told Down disk (Goes_down why) may h = tt
doing_plan c me told Down disk (Does a) may h = tt
doing_plan c me told Down disk (Saves change) may h = tt
doing_plan c me told Down disk (Loses change why) may h = tt
doing_plan c me told Down disk (Forgets change why) may h = tt
doing_plan c me told (Up x) disk Comes_up may h = h
doing_plan c me told (Up x) disk (Goes_down why) may h = tt
doing_plan c me told (Up x) disk (Does a) may h = act_plan c me told x a may h
doing_plan c me told (Up x) disk (Saves change) may h = change_plan c me told x change may h
doing_plan c me told (Up x) disk (Loses change why) may h = tt
doing_plan c me told (Up x) disk (Forgets change why) may h = tt

all_plan : (c : Cluster) (me : ℕ) (told : Delivered) (x : Site) (ds : List Doing) → MayAll c me told x ds → IsAt (Has (PlanSo c)) x.node → IsAt (Has (PlanSo c)) (after_all c me x ds).node
all_plan c me told x [] may h = h
all_plan c me told x (d ∷ ds) may h = all_plan c me told (effect c me x d) ds may.1 (doing_plan c me told x.node x.disk d may.0 h)

step_plan : (c : Cluster) (s t : Scene) (n now : ℕ) (ends : method.Outcome) (i : Input) → n ≤ 32 → All IsDevice c.attached → KnownScene c s → t.nodes ≡ s.nodes → IsAt (Has (PlanSo c)) (s.nodes.node n) → IsAt (Has (PlanSo c)) (stepped disk_rules c n now ends (s.nodes.node n) (s.nodes.disk n) i).after
step_plan c s t n now ends i high fits k same h =
    let o : Outcome DiskState = stepped disk_rules c n now ends (s.nodes.node n) (s.nodes.disk n) i in
    let cut : CutSo disk_rules c n now ends (s.nodes.node n) (s.nodes.disk n) i [] o = steps_are_cut_so disk_rules disks_keep_rules c n now ends (s.nodes.node n) (s.nodes.disk n) i in
    let x : Site = site (s.nodes.node n) (s.nodes.disk n).kept in
    let ds : List Doing = doings c n now ends cut.replies i (s.nodes.node n) in
    let may : MayAll c n (delivered_by i) x ds =
    step_may c k.stage.machine n now ends (s.nodes.node n) (s.nodes.disk n).kept i cut.replies high fits k.stage.holds (k.stage.stands n).tied (k.stage.stands n).joins in
    subst (λ (z : Site). IsAt (Has (PlanSo c)) z.node) cut.comes.left (all_plan c n (delivered_by i) x ds may h)

-- ---- each thing that happens

abbrev pub AllPlanned : Cluster → Scene → Type 0
AllPlanned c s = (n : ℕ) → IsAt (Has (PlanSo c)) (s.nodes.node n)

abbrev PlannedIn : Cluster → Nodes → Type 0
PlannedIn c v = (n : ℕ) → IsAt (Has (PlanSo c)) (v.node n)

taking_plan : (c : Cluster) (s t : Scene) (n now : ℕ) (ends : method.Outcome) (i : Input) → n ≤ 32 → All IsDevice c.attached → KnownScene c s → t.nodes ≡ s.nodes → AllPlanned c s → AllPlanned c (taking c n now ends i t)
taking_plan c s t n now ends i high fits k same h =
    subst (PlannedIn c) (sym (passing_nodes n (given_by c n now ends i t.nodes) (record t { nodes = moved c t.nodes (Takes_in n now ends i) })))
    (subst (λ v. PlannedIn c (moved c v (Takes_in n now ends i))) (sym same)
    (put_cases (λ j z. IsAt (Has (PlanSo c)) z) s.nodes.node n (stepped disk_rules c n now ends (s.nodes.node n) (s.nodes.disk n) i).after (step_plan c s t n now ends i high fits k same (h n)) (λ j ne. h j)))

dropped_nodes : (o : Option (ℕ × DropCause)) (s : Scene) → (dropped_so o s).nodes ≡ s.nodes
dropped_nodes None s = refl
dropped_nodes (Some x) s = refl

commanded_nodes : (s : Scene) (n d : ℕ) (o : Option Device) (k : PrCommand) → (commanded_at s n d o k).scene.nodes ≡ s.nodes
commanded_nodes s n d None k = refl
commanded_nodes s n d (Some x) k = refl

armed_plan : (c : Cluster) (e : Event) (s : Scene) → AllPlanned c s → AllPlanned c (armed_by c e (adding (Said (line.Event e)) s))
armed_plan c (event.CrashAt n calls choice) s h = h
armed_plan c (event.Fault n d done) s h = h
armed_plan c _ s h = h

happening_plan : (c : Cluster) (s : Scene) (x : Happening) → All IsDevice c.attached → MayHappen c s x → KnownScene c s → AllPlanned c s → AllPlanned c (happened c s x)
happening_plan c s (Speaks e) fits may k h = armed_plan c e s h
happening_plan c s (Begins e) fits may k h = h
happening_plan c s (Notes e) fits may k h = h
happening_plan c s (Takes_plain n now ends i) fits may k h = taking_plan c s s n now ends i may.0.1 fits k refl h
happening_plan c s (Arrives number x m now ends) fits may k h =
    taking_plan c s (telling (entry.Packet (packet.Delivered number x.from x.to)) (removed s number)) x.to now ends (input.Packet x.from m) may.3.1 fits k refl h
happening_plan c s (Strays number x) fits may k h = h
happening_plan c s (Misses number x) fits may k h = h
happening_plan c s (Loses_packet number x) fits may k h = h
happening_plan c s (Repeats number x) fits may k h =
    let o : net.Outcome = sending s.links x.from x.to x.bytes in
    subst (PlannedIn c) (sym (dropped_nodes o.sent.dropped (telling (entry.Packet (packet.Repeated number s.links.next)) (with_links s o.after)))) h
happening_plan c s (Commands n d q now ends) fits may k h =
    taking_plan c s (commanded s n d q).scene n now ends (input.Answered (commanded s n d q).answer) may.0.1 fits k (commanded_nodes s n d (slice_get s.devices (d - 1)) q) h
happening_plan c s (Writes n d value now ends) fits may k h =
    let q : PrCommand = command.Write value in
    taking_plan c s (commanded s n d q).scene n now ends (input.Wrote d value (commanded s n d q).answer) may.0.1 fits k (commanded_nodes s n d (slice_get s.devices (d - 1)) q) h
happening_plan c s (Refuses n d value why) fits may k h = h

first_plan : (h : Header) (cells : ℕ) → AllPlanned (first_cluster h) (first_scene h cells)
unfolding first_scene
first_plan h cells n = tt

pub run_plan : (h : Header) (cells : ℕ) (hs : List Happening) → length h.devices ≤ most_devices → h.cluster < 2 ^ 32 → MayAllHappen (first_cluster h) (first_scene h cells) hs → AllPlanned (first_cluster h) (all_happened (first_cluster h) (first_scene h cells) hs)
run_plan h cells hs few small may =
    holds_of_each h cells (AllPlanned (first_cluster h)) (λ s x now at more so. happening_plan (first_cluster h) s x (first_fit h few) now (known_scene h cells s (record { few = few; small = small }) at) so) (first_plan h cells) hs may
