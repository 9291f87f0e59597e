-- An attempt has its coordinator's own Promise, in each run.
use Rattle.std.specs.Prelude.{ℕ, ◌-◌, ◌==◌, ◌||◌, ◌≡◌, ◌≤◌, ◌<◌, ◌^◌, All, false, true, List, [], ◌∷◌, Option, None, Some, length, slice_get}
use Rattle.std.proofs.Common.{arith, refl, sym, subst}
use Rattle.attempt_laws.proofs.Steady.{Steady, begun_keeps, call_keeps}
use Rattle.cl_base.specs.Limits.{most_devices}
use Rattle.cl_base.specs.Sets.{has}
use Rattle.cl_base.specs.declared.header.Header.{Header}
use Rattle.cl_base.specs.declared.method.Outcome as method
use Rattle.cl_base.specs.declared.packet.DropCause.{DropCause}
use Rattle.cmm_attempt.proofs.Basics.{if_either}
use Rattle.cmm_attempt.specs.Attempts.{AttemptState, beginning, first_state, promises_of}
use Rattle.cmm_attempt.specs.Calls.{Call, IsDevice, May as May_call, Tick, turn}
use Rattle.cmm_attempt.specs.Promises.{has_promised, promised_by, shown_by}
use Rattle.cmm_member.specs.Records.{NodeRecord}
use Rattle.device_queue.specs.Queue.{after_seize}
use Rattle.history.specs.Moment.{Said}
use Rattle.interconnect.specs.Links as net
use Rattle.interconnect.specs.Links.{sending}
use Rattle.machine_base.proofs.Puts.{put_cases}
use Rattle.node_model.specs.Attempts.{own_promise}
use Rattle.node_model.specs.Members.{rested_by}
use Rattle.node_model.specs.Seats.{promising, record_of}
use Rattle.node_model.specs.Steps.{Outcome, stepped}
use Rattle.node_model.specs.declared.cluster.Cluster.{Cluster}
use Rattle.node_model.specs.declared.input.Input.{Input}
use Rattle.node_model.specs.declared.input.Input.TheVariants as input
use Rattle.node_model.specs.declared.node.Node.{Node}
use Rattle.node_model.specs.declared.node.Node.TheVariants.{Down, Up}
use Rattle.node_model.specs.declared.node.UpNode.{UpNode}
use Rattle.pgr_device.specs.Device.{Device}
use Rattle.pgr_device.specs.declared.command.PrCommand.{PrCommand}
use Rattle.pgr_device.specs.declared.command.PrCommand.TheVariants as command
use Rattle.record_disk.specs.Disks.{DiskState}
use Rattle.refinement.proofs.Attempts.{may_be_called}
use Rattle.refinement.proofs.Disks.{disks_keep_rules}
use Rattle.refinement.proofs.Facts.{step_may}
use Rattle.refinement.proofs.Handlers.{delivered_by}
use Rattle.refinement.specs.Cuts.{doings}
use Rattle.refinement.specs.Doings.{Act, Change, Doing, Site, acted, after_all, changed, effect, site}
use Rattle.refinement.specs.Doings.Act.{Ends, Goes_on, Makes, Queues}
use Rattle.refinement.specs.Doings.Change.{Counts, Leads, Promises, Starts}
use Rattle.refinement.specs.Doings.Doing.{Comes_up, Does, Forgets, Goes_down, Loses, Saves}
use Rattle.refinement.specs.Guards.{May, MayAct, MayAll, MayChange}
use Rattle.refinement.specs.Runs.{Nodes, moved}
use Rattle.refinement.specs.Runs.Move.{Takes as Takes_in}
use Rattle.refinement.specs.Steps.{disk_rules}
use Rattle.refinement.specs.Ties.{Delivered}
use Rattle.run_attempts.proofs.Known.{known_scene}
use Rattle.run_history.proofs.Idle.{passing_nodes}
use Rattle.run_history.proofs.MemberRuns.{first_fit}
use Rattle.run_history.specs.Happenings.{Arrives, Begins, Commands, Happening, Loses as Loses_packet, MayAllHappen, MayHappen, Misses, Notes, Refuses, Repeats, Speaks, Strays, Takes as Takes_plain, Writes, all_happened, armed_by, commanded, commanded_at, given_by, happened, removed, taking}
use Rattle.run_history.specs.Scenes.{Scene, adding, dropped_so, first_scene, telling, with_links}
use Rattle.run_messages.proofs.Reaching.{holds_of_each}
use Rattle.run_messages.proofs.records.Replies.{CutSo, steps_are_cut_so}
use Rattle.run_messages.specs.records.Kept.{KnownScene}
use Rattle.run_outcomes.specs.saves.Kept.{IsAt}
use Rattle.schedule_text.specs.declared.event.Event.{Event}
use Rattle.schedule_text.specs.declared.event.Event.TheVariants as event
use Rattle.schedule_text.specs.declared.line.Line.TheVariants as line
use Rattle.seize.specs.Seizing as seizing
use Rattle.status_report.specs.declared.entry.Entry.TheVariants as entry
use Rattle.status_report.specs.declared.packet_entry.PacketEntry.TheVariants as packet
use Rattle.world_model.specs.First.{first_cluster}
use Rattle.run_outcomes.specs.phases.Kept.{In}
use Rattle.run_outcomes.proofs.phases.Gathering.{any_first}
use Rattle.run_outcomes.proofs.phases.Leading.{Has}

abbrev pub HasOwn : AttemptState → Type 0
HasOwn a = has_promised a.promises a.plan.coordinator ≡ true

own_steady : (c : Call) → Steady c HasOwn HasOwn
own_steady c = record {
  within = λ s i. i;
  ticked = λ s i. i;
  over = λ s k. k;
  promise = λ s from m p is awaited of promised i. any_first (λ q. q.shown.summary.node == s.plan.coordinator) s.promises (p ∷ []) i;
  collecting = λ s is all k. k;
  no_newest = λ s is all none k. k;
  chosen = λ s newest is all some k. k;
  votes = λ s both is i. i;
  entries = λ s is k. k;
  result = λ s d from r is tells i. i;
  next = λ s d m x kind r is found i. i;
  seizing = λ s is all k. k;
  counted = λ s is h k. k;
  others = λ s is ne k. k;
  installs = λ s is k. k;
  ready = λ s from m is at of ready_body i. i;
  own = λ s is at i. i;
  installing = λ s is h k. k;
}

call_own : (c : Cluster) (told : Delivered) (a : AttemptState) (k : Call) → May_call a k → HasOwn a → HasOwn (turn a k).after
call_own c told a k may h = call_keeps HasOwn HasOwn a k (own_steady k) may h

itself : (n : ℕ) → ((n == n) || false) ≡ true
itself n = grind arith

begun_own : (c : Cluster) (me : ℕ) (x : UpNode) (p members : ℕ) → HasOwn (beginning p members (own_promise me x p) c.attached c.id).after
unfolding beginning
begun_own c me x p members =
    begun_keeps Tick HasOwn HasOwn (own_steady Tick) (first_state p members (own_promise me x p) c.attached c.id (promises_of (promised_by (own_promise me x p) (shown_by me (own_promise me x p).body)))) refl (itself me)

-- ---- each small step

rested_own : (x : UpNode) (p : ℕ) (o : Option AttemptState) → Has HasOwn (rested_by (promising x p) o)
rested_own x p None = tt
rested_own x p (Some a) = tt

attempt_own : (x : UpNode) (a : AttemptState) → x.attempt ≡ Some a → Has HasOwn x → HasOwn a
attempt_own x a is h = subst (In HasOwn) is h

change_own : (c : Cluster) (me : ℕ) (told : Delivered) (x : UpNode) (change : Change) → MayChange c me told x change → Has HasOwn x → Has HasOwn (changed c me x change)
change_own c me told x (Promises p) may h = rested_own x p x.attempt
change_own c me told x (Leads p members) may h = begun_own c me (record (promising x p) { greatest = p }) p members
change_own c me told x (Counts a k s i) may h = call_own c told a k (may_be_called c told a k may.2) (attempt_own x a may.0 h)
change_own c me told x (Starts a k s) may h = tt
change_own c me told x _ may h = h

act_own : (c : Cluster) (me : ℕ) (told : Delivered) (x : UpNode) (a : Act) → MayAct c me told x a → Has HasOwn x → Has HasOwn (acted c me x a)
act_own c me told x (Goes_on a k) may h = call_own c told a k (may_be_called c told a k may.1) (attempt_own x a may.0 h)
act_own c me told x (Ends a e) may h = tt
act_own c me told x (Makes change) may h = change_own c me told x change may.0 h
act_own c me told x (Queues a d kind) may h =
    if_either (Has HasOwn) (has a.plan.members me) (record x { tasks = after_seize x.tasks d (seizing.begun kind a.plan.epoch a.plan.members me c.id (has (record_of x).valid d)) }) x h h
act_own c me told x _ may h = h

doing_own : (c : Cluster) (me : ℕ) (told : Delivered) (node : Node) (disk : NodeRecord) (d : Doing) → May c me told (site node disk) d → IsAt (Has HasOwn) node → IsAt (Has HasOwn) (effect c me (site node disk) d).node
doing_own c me told Down disk Comes_up may h = tt
doing_own c me told Down disk (Goes_down why) may h = tt
doing_own c me told Down disk (Does a) may h = tt
doing_own c me told Down disk (Saves change) may h = tt
doing_own c me told Down disk (Loses change why) may h = tt
doing_own c me told Down disk (Forgets change why) may h = tt
doing_own c me told (Up x) disk Comes_up may h = h
doing_own c me told (Up x) disk (Goes_down why) may h = tt
doing_own c me told (Up x) disk (Does a) may h = act_own c me told x a may h
doing_own c me told (Up x) disk (Saves change) may h = change_own c me told x change may h
doing_own c me told (Up x) disk (Loses change why) may h = tt
doing_own c me told (Up x) disk (Forgets change why) may h = tt

all_own : (c : Cluster) (me : ℕ) (told : Delivered) (x : Site) (ds : List Doing) → MayAll c me told x ds → IsAt (Has HasOwn) x.node → IsAt (Has HasOwn) (after_all c me x ds).node
all_own c me told x [] may h = h
all_own c me told x (d ∷ ds) may h = all_own c me told (effect c me x d) ds may.1 (doing_own c me told x.node x.disk d may.0 h)

step_own : (c : Cluster) (s t : Scene) (n now : ℕ) (ends : method.Outcome) (i : Input) → n ≤ 32 → All IsDevice c.attached → KnownScene c s → t.nodes ≡ s.nodes → IsAt (Has HasOwn) (s.nodes.node n) → IsAt (Has HasOwn) (stepped disk_rules c n now ends (s.nodes.node n) (s.nodes.disk n) i).after
step_own c s t n now ends i high fits k same h =
    let o : Outcome DiskState = stepped disk_rules c n now ends (s.nodes.node n) (s.nodes.disk n) i in
    let cut : CutSo disk_rules c n now ends (s.nodes.node n) (s.nodes.disk n) i [] o = steps_are_cut_so disk_rules disks_keep_rules c n now ends (s.nodes.node n) (s.nodes.disk n) i in
    let x : Site = site (s.nodes.node n) (s.nodes.disk n).kept in
    let ds : List Doing = doings c n now ends cut.replies i (s.nodes.node n) in
    let may : MayAll c n (delivered_by i) x ds =
    step_may c k.stage.machine n now ends (s.nodes.node n) (s.nodes.disk n).kept i cut.replies high fits k.stage.holds (k.stage.stands n).tied (k.stage.stands n).joins in
    subst (λ (z : Site). IsAt (Has HasOwn) z.node) cut.comes.left (all_own c n (delivered_by i) x ds may h)

-- ---- each thing that happens

abbrev pub AllOwn : Scene → Type 0
AllOwn s = (n : ℕ) → IsAt (Has HasOwn) (s.nodes.node n)

abbrev OwnIn : Nodes → Type 0
OwnIn v = (n : ℕ) → IsAt (Has HasOwn) (v.node n)

taking_own : (c : Cluster) (s t : Scene) (n now : ℕ) (ends : method.Outcome) (i : Input) → n ≤ 32 → All IsDevice c.attached → KnownScene c s → t.nodes ≡ s.nodes → AllOwn s → AllOwn (taking c n now ends i t)
taking_own c s t n now ends i high fits k same h =
    subst OwnIn (sym (passing_nodes n (given_by c n now ends i t.nodes) (record t { nodes = moved c t.nodes (Takes_in n now ends i) })))
    (subst (λ v. OwnIn (moved c v (Takes_in n now ends i))) (sym same)
    (put_cases (λ j z. IsAt (Has HasOwn) z) s.nodes.node n (stepped disk_rules c n now ends (s.nodes.node n) (s.nodes.disk n) i).after (step_own c s t n now ends i high fits k same (h n)) (λ j ne. h j)))

pub dropped_nodes : (o : Option (ℕ × DropCause)) (s : Scene) → (dropped_so o s).nodes ≡ s.nodes
dropped_nodes None s = refl
dropped_nodes (Some x) s = refl

commanded_nodes : (s : Scene) (n d : ℕ) (o : Option Device) (k : PrCommand) → (commanded_at s n d o k).scene.nodes ≡ s.nodes
commanded_nodes s n d None k = refl
commanded_nodes s n d (Some x) k = refl

armed_own : (c : Cluster) (e : Event) (s : Scene) → AllOwn s → AllOwn (armed_by c e (adding (Said (line.Event e)) s))
armed_own c (event.CrashAt n calls choice) s h = h
armed_own c (event.Fault n d done) s h = h
armed_own c _ s h = h

happening_own : (c : Cluster) (s : Scene) (x : Happening) → All IsDevice c.attached → MayHappen c s x → KnownScene c s → AllOwn s → AllOwn (happened c s x)
happening_own c s (Speaks e) fits may k h = armed_own c e s h
happening_own c s (Begins e) fits may k h = h
happening_own c s (Notes e) fits may k h = h
happening_own c s (Takes_plain n now ends i) fits may k h = taking_own c s s n now ends i may.0.1 fits k refl h
happening_own c s (Arrives number x m now ends) fits may k h =
    taking_own c s (telling (entry.Packet (packet.Delivered number x.from x.to)) (removed s number)) x.to now ends (input.Packet x.from m) may.3.1 fits k refl h
happening_own c s (Strays number x) fits may k h = h
happening_own c s (Misses number x) fits may k h = h
happening_own c s (Loses_packet number x) fits may k h = h
happening_own c s (Repeats number x) fits may k h =
    let o : net.Outcome = sending s.links x.from x.to x.bytes in
    subst OwnIn (sym (dropped_nodes o.sent.dropped (telling (entry.Packet (packet.Repeated number s.links.next)) (with_links s o.after)))) h
happening_own c s (Commands n d q now ends) fits may k h =
    taking_own c s (commanded s n d q).scene n now ends (input.Answered (commanded s n d q).answer) may.0.1 fits k (commanded_nodes s n d (slice_get s.devices (d - 1)) q) h
happening_own c s (Writes n d value now ends) fits may k h =
    let q : PrCommand = command.Write value in
    taking_own c s (commanded s n d q).scene n now ends (input.Wrote d value (commanded s n d q).answer) may.0.1 fits k (commanded_nodes s n d (slice_get s.devices (d - 1)) q) h
happening_own c s (Refuses n d value why) fits may k h = h

first_own : (h : Header) (cells : ℕ) → AllOwn (first_scene h cells)
unfolding first_scene
first_own h cells n = tt

pub run_own : (h : Header) (cells : ℕ) (hs : List Happening) → length h.devices ≤ most_devices → h.cluster < 2 ^ 32 → MayAllHappen (first_cluster h) (first_scene h cells) hs → AllOwn (all_happened (first_cluster h) (first_scene h cells) hs)
run_own h cells hs few small may =
    holds_of_each h cells AllOwn (λ s x now at more so. happening_own (first_cluster h) s x (first_fit h few) now (known_scene h cells s (record { few = few; small = small }) at) so) (first_own h cells) hs may
