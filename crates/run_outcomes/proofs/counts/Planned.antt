-- The attempt of a node is over the devices of the cluster, in each small step and in each scene.
use Rattle.std.specs.Prelude.{ℕ, ◌-◌, ◌≡◌, ◌≤◌, List, [], ◌∷◌, Option, None, Some, slice_get}
use Rattle.std.proofs.Common.{refl, sym, subst}
use Rattle.attempt_laws.proofs.Stays.{plan_begins, plan_stays}
use Rattle.cl_base.specs.Sets.{has}
use Rattle.cl_base.specs.declared.method.Outcome as method
use Rattle.cl_base.specs.declared.packet.DropCause.{DropCause}
use Rattle.cmm_attempt.proofs.Basics.{if_either}
use Rattle.cmm_attempt.specs.Attempts.{AttemptState}
use Rattle.cmm_attempt.specs.Calls.{Call, turn}
use Rattle.cmm_attempt.specs.declared.plan.Plan.{Plan}
use Rattle.cmm_member.specs.Records.{NodeRecord}
use Rattle.device_queue.specs.Queue.{after_seize}
use Rattle.interconnect.specs.Links as links
use Rattle.interconnect.specs.Links.{sending}
use Rattle.node_model.specs.Attempts.{own_promise}
use Rattle.node_model.specs.Members.{rested_by}
use Rattle.node_model.specs.Seats.{promising, record_of}
use Rattle.node_model.specs.Steps.{Outcome, stepped}
use Rattle.node_model.specs.declared.cluster.Cluster.{Cluster}
use Rattle.node_model.specs.declared.input.Input.{Input}
use Rattle.node_model.specs.declared.input.Input.TheVariants.{Answered, Packet as Packet_in, Wrote}
use Rattle.node_model.specs.declared.node.Node.{Node}
use Rattle.node_model.specs.declared.node.Node.TheVariants.{Down, Up}
use Rattle.node_model.specs.declared.node.UpNode.{UpNode}
use Rattle.pgr_device.specs.Device.{Device}
use Rattle.pgr_device.specs.declared.command.PrCommand.{PrCommand}
use Rattle.pgr_device.specs.declared.command.PrCommand.TheVariants as command
use Rattle.record_disk.specs.Disks.{DiskState}
use Rattle.refinement.proofs.Attempts.{may_be_called}
use Rattle.refinement.proofs.Disks.{disks_keep_rules}
use Rattle.refinement.proofs.Facts.{step_may}
use Rattle.refinement.proofs.Handlers.{delivered_by}
use Rattle.refinement.specs.Cuts.{doings}
use Rattle.refinement.specs.Doings.{Act, Change, Doing, Site, acted, after_all, changed, effect, site}
use Rattle.refinement.specs.Doings.Act.{Accepts, Dates, Ends, Gives, Goes_on, Hears, Makes, Minds, Notes, Queues, Spreads, Stores, Takes, Ticks, Waits, Works, Writes}
use Rattle.refinement.specs.Doings.Change.{Acks, Admits, Commits, Counts, Distrusts, Installs, Leads, Prepares, Promises, Proposes, Sits, Starts}
use Rattle.refinement.specs.Doings.Doing.{Comes_up, Does, Forgets, Goes_down, Loses, Saves}
use Rattle.refinement.specs.Guards.{May, MayAct, MayAll, MayCall, MayChange}
use Rattle.refinement.specs.Runs.{Nodes, moved}
use Rattle.refinement.specs.Runs.Move.{Takes as Takes_in}
use Rattle.refinement.specs.Steps.{disk_rules}
use Rattle.refinement.specs.Ties.{Delivered}
use Rattle.seize.specs.Seizing as seizing
use Rattle.run_history.proofs.Idle.{passing_nodes}
use Rattle.run_history.proofs.Steps.{put_all}
use Rattle.run_history.specs.Happenings.{Happening, MayHappen, armed_by, commanded, commanded_at, given_by, happened, taking}
use Rattle.run_history.specs.Happenings.Happening.{Arrives, Begins, Commands, Loses as Loses_packet, Misses, Notes as Notes_of, Refuses, Repeats, Speaks, Strays, Takes as Takes_it, Writes as Writes_it}
use Rattle.run_history.specs.Scenes.{Scene, adding, dropped_so}
use Rattle.run_history.specs.Stages.{Sized, Stage, site_of}
use Rattle.run_messages.proofs.records.Replies.{CutSo, steps_are_cut_so}
use Rattle.schedule_text.specs.declared.event.Event.{Event}
use Rattle.schedule_text.specs.declared.event.Event.TheVariants as event
use Rattle.run_outcomes.specs.counts.Shorts.{AttemptPlanned, NodePlanned}

-- ---- a small step

turned_planned : (c : Cluster) (told : Delivered) (a : AttemptState) (k : Call) (o : Option AttemptState) → o ≡ Some a → MayCall c told a k → AttemptPlanned c o → AttemptPlanned c (Some (turn a k).after)
turned_planned c told a k o own may h = subst (λ (p : Plan). p.attached ≡ c.attached) (sym (plan_stays a k (may_be_called c told a k may))) (subst (AttemptPlanned c) own h)

rested_planned : (c : Cluster) (x : UpNode) (p : ℕ) (o : Option AttemptState) → AttemptPlanned c (rested_by (promising x p) o).attempt
rested_planned c x p None = tt
rested_planned c x p (Some a) = tt

change_planned : (c : Cluster) (n : ℕ) (told : Delivered) (x : UpNode) (ch : Change) → MayChange c n told x ch → AttemptPlanned c x.attempt → AttemptPlanned c (changed c n x ch).attempt
change_planned c n told x (Promises p) may h = rested_planned c x p x.attempt
change_planned c n told x (Leads p members) may h = (plan_begins p members (own_promise n (record (promising x p) { greatest = p }) p) c.attached c.id).of_attached
change_planned c n told x (Counts a k s i) may h = turned_planned c told a k x.attempt may.0 may.2 h
change_planned c n told x (Starts a k s) may h = tt
change_planned c n told x (Installs s i) may h = h
change_planned c n told x (Sits s e) may h = h
change_planned c n told x (Distrusts d) may h = h
change_planned c n told x (Admits at command a d) may h = h
change_planned c n told x (Proposes s p text) may h = h
change_planned c n told x (Acks s p q left text) may h = h
change_planned c n told x (Prepares s text) may h = h
change_planned c n told x (Commits s) may h = h

act_planned : (c : Cluster) (n : ℕ) (told : Delivered) (x : UpNode) (a : Act) → MayAct c n told x a → AttemptPlanned c x.attempt → AttemptPlanned c (acted c n x a).attempt
act_planned c n told x (Goes_on a k) may h = turned_planned c told a k x.attempt may.0 may.1 h
act_planned c n told x (Ends a e) may h = tt
act_planned c n told x (Queues a d kind) may h =
    if_either (λ (z : UpNode). AttemptPlanned c z.attempt) (has a.plan.members n)
    (record x { tasks = after_seize x.tasks d (seizing.begun kind a.plan.epoch a.plan.members n c.id (has (record_of x).valid d)) }) x h h
act_planned c n told x (Makes change) may h = change_planned c n told x change may.0 h
act_planned c n told x (Accepts kind e members d) may h = h
act_planned c n told x (Takes at command a) may h = h
act_planned c n told x (Hears from b) may h = h
act_planned c n told x Ticks may h = h
act_planned c n told x Waits may h = h
act_planned c n told x (Stores d value a) may h = h
act_planned c n told x (Writes to b) may h = h
act_planned c n told x (Gives os) may h = h
act_planned c n told x (Spreads receivers b) may h = h
act_planned c n told x (Minds q p) may h = h
act_planned c n told x (Notes from place p) may h = h
act_planned c n told x (Dates now) may h = h
act_planned c n told x (Works w) may h = h

pub doing_planned : (c : Cluster) (n : ℕ) (told : Delivered) (node : Node) (disk : NodeRecord) (d : Doing) → May c n told (site node disk) d → NodePlanned c node → NodePlanned c (effect c n (site node disk) d).node
doing_planned c n told Down disk Comes_up may h = tt
doing_planned c n told (Up x) disk Comes_up may h = absurd may
doing_planned c n told node disk (Goes_down why) may h = tt
doing_planned c n told Down disk (Does a) may h = absurd may
doing_planned c n told (Up x) disk (Does a) may h = act_planned c n told x a may h
doing_planned c n told Down disk (Saves ch) may h = absurd may
doing_planned c n told (Up x) disk (Saves ch) may h = change_planned c n told x ch may h
doing_planned c n told node disk (Loses ch why) may h = tt
doing_planned c n told node disk (Forgets ch why) may h = tt

all_planned : (c : Cluster) (n : ℕ) (told : Delivered) (x : Site) (small : List Doing) → MayAll c n told x small → NodePlanned c x.node → NodePlanned c (after_all c n x small).node
all_planned c n told x [] may h = h
all_planned c n told x (d ∷ small) may h = all_planned c n told (effect c n x d) small may.1 (doing_planned c n told x.node x.disk d may.0 h)

-- ---- a step

-- .. of all nodes
abbrev pub ArePlanned : Cluster → Nodes → Type 0
ArePlanned c v = (n : ℕ) → NodePlanned c (v.node n)

abbrev pub ScenePlanned : Cluster → Scene → Type 0
ScenePlanned c s = ArePlanned c s.nodes

taking_planned : (c : Cluster) (n now : ℕ) (ends : method.Outcome) (i : Input) (s t : Scene) → Sized c → n ≤ 32 → Stage c s → t.nodes ≡ s.nodes → ScenePlanned c s → ScenePlanned c (taking c n now ends i t)
taking_planned c n now ends i s t sized low b same h =
    subst (ArePlanned c) (sym (passing_nodes n (given_by c n now ends i t.nodes) (record t { nodes = moved c t.nodes (Takes_in n now ends i) }))) (subst (λ z. ArePlanned c (moved c z (Takes_in n now ends i))) (sym same) all)
  where
    v : Nodes
    v = s.nodes

    o : Outcome DiskState
    o = stepped disk_rules c n now ends (v.node n) (v.disk n) i

    cut : CutSo disk_rules c n now ends (v.node n) (v.disk n) i [] o
    cut = steps_are_cut_so disk_rules disks_keep_rules c n now ends (v.node n) (v.disk n) i

    small : List Doing
    small = doings c n now ends cut.replies i (v.node n)

    may : MayAll c n (delivered_by i) (site_of v n) small
    may = step_may c b.machine n now ends (v.node n) (v.disk n).kept i cut.replies low sized.fits.devices.attached b.holds (b.stands n).tied (b.stands n).joins

    here : NodePlanned c o.after
    here = subst (λ (z : Site). NodePlanned c z.node) cut.comes.left (all_planned c n (delivered_by i) (site_of v n) small may (h n))

    all : ArePlanned c (moved c v (Takes_in n now ends i))
    all = put_all (λ k node disk. NodePlanned c node) v n o.after o.disk here (λ k ne. h k)

-- ---- each thing that happens

armed_planned : (c : Cluster) (e : Event) (s : Scene) → ScenePlanned c s → ScenePlanned c (armed_by c e s)
armed_planned c (event.Fault n d done) s h = h
armed_planned c (event.CrashAt n calls choice) s h = h
armed_planned c _ s h = h

commanded_nodes : (s : Scene) (n d : ℕ) (o : Option Device) (k : PrCommand) → (commanded_at s n d o k).scene.nodes ≡ s.nodes
commanded_nodes s n d None k = refl
commanded_nodes s n d (Some x) k = refl

dropped_nodes : (o : Option (ℕ × DropCause)) (s : Scene) → (dropped_so o s).nodes ≡ s.nodes
dropped_nodes None s = refl
dropped_nodes (Some drop) s = refl

pub happening_planned : (c : Cluster) (s : Scene) (h : Happening) → Sized c → MayHappen c s h → Stage c s → ScenePlanned c s → ScenePlanned c (happened c s h)
happening_planned c s (Speaks e) sized may b h = armed_planned c e (adding _ s) h
happening_planned c s (Begins e) sized may b h = h
happening_planned c s (Notes_of e) sized may b h = h
happening_planned c s (Takes_it n now ends i) sized may b h = taking_planned c n now ends i s s sized may.0.1 b refl h
happening_planned c s (Arrives number x m now ends) sized may b h = taking_planned c x.to now ends (Packet_in x.from m) s _ sized may.3.1 b refl h
happening_planned c s (Strays number x) sized may b h = h
happening_planned c s (Misses number x) sized may b h = h
happening_planned c s (Loses_packet number x) sized may b h = h
happening_planned c s (Repeats number x) sized may b h =
    let o : links.Outcome = sending s.links x.from x.to x.bytes in
    subst (ArePlanned c) (sym (dropped_nodes o.sent.dropped _)) h
happening_planned c s (Commands n d k now ends) sized may b h =
    taking_planned c n now ends (Answered (commanded s n d k).answer) s (commanded s n d k).scene sized may.0.1 b (commanded_nodes s n d (slice_get s.devices (d - 1)) k) h
happening_planned c s (Writes_it n d value now ends) sized may b h =
    taking_planned c n now ends (Wrote d value (commanded s n d (command.Write value)).answer) s (commanded s n d (command.Write value)).scene sized may.0.1 b
    (commanded_nodes s n d (slice_get s.devices (d - 1)) (command.Write value)) h
happening_planned c s (Refuses n d value cause) sized may b h = h
