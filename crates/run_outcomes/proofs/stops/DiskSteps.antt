-- A command at a device in a scene of a run: as the node readies itself for it, and as it takes the answer.
use Rattle.std.specs.Prelude.{ℕ, ◌-◌, ◌≡◌, ◌≤◌, ◌<◌, ◌^◌, nat_lt, true, false, List, [], length, Option, None, Some, slice_get}
use Rattle.std.specs.List.{list_any}
use Rattle.std.proofs.Common.{refl, sym, ap, subst, ◌∙◌}
use Rattle.cl_base.specs.Limits.{most_devices, most_nodes}
use Rattle.cl_base.specs.Sets.{has}
use Rattle.cl_base.specs.declared.header.Header.{Header}
use Rattle.cl_base.specs.declared.method.Outcome as method
use Rattle.cmm_attempt.specs.Attempts.{AttemptState}
use Rattle.cmm_attempt.specs.declared.phase.Phase.TheVariants.{Installing}
use Rattle.device_queue.specs.Queue.{begins_plainly, due_device, next_of}
use Rattle.history.specs.Moment.{Moment}
use Rattle.history.specs.Order.{under_way}
use Rattle.history.specs.Queue as told
use Rattle.history.specs.Saves.{is_command_of}
use Rattle.history.specs.Setting.{Setting}
use Rattle.history.specs.Validated.{validity}
use Rattle.history_setting.specs.Settings.{setting_of}
use Rattle.membership_machine.specs.Invariant.{Holds}
use Rattle.membership_machine.specs.State.{Memberships}
use Rattle.node_model.specs.Seats.{record_of, session_of}
use Rattle.node_model.specs.Steps.{at_second, stepped}
use Rattle.node_model.specs.declared.cluster.Cluster.{Cluster}
use Rattle.node_model.specs.declared.input.Input.{Input}
use Rattle.node_model.specs.declared.input.Input.TheVariants as input
use Rattle.node_model.specs.declared.node.Node.{Node}
use Rattle.node_model.specs.declared.node.Node.TheVariants.{Down, Up}
use Rattle.node_model.specs.declared.node.UpNode.{UpNode}
use Rattle.pgr_device.specs.Device.{Device}
use Rattle.pgr_device.specs.declared.command.PrCommand.{PrCommand}
use Rattle.record_disk.specs.Disks.{DiskState}
use Rattle.refinement.proofs.Disks.{disks_keep_rules}
use Rattle.refinement.proofs.Facts.{step_may}
use Rattle.refinement.proofs.Handlers.{delivered_by}
use Rattle.refinement.proofs.Replies.{steps_are_cut}
use Rattle.refinement.specs.Courses.{Reply}
use Rattle.refinement.specs.Cuts.{doings}
use Rattle.refinement.specs.Doings.{site}
use Rattle.refinement.specs.Runs.{Nodes, moved}
use Rattle.refinement.specs.Runs.Move.{Takes as Takes_in}
use Rattle.refinement.specs.Steps.{IsCut, disk_rules}
use Rattle.refinement.specs.Ties as Ties
use Rattle.refinement.specs.Whole.{Stands}
use Rattle.schedule_text.specs.declared.event.Event.TheVariants as event
use Rattle.seize.specs.Answers.{Answer}
use Rattle.world_model.specs.First.{first_cluster}
use Rattle.run_history.specs.Happenings.{Commands, MayHappen, commanded, commanded_at, taking}
use Rattle.run_history.specs.Sites.{SiteAt}
use Rattle.run_history.specs.Scenes.{Scene, first_scene, passing}
use Rattle.run_history.specs.Shapes.{Due}
use Rattle.run_history.specs.WorldLines.{AreDisks, IsDevice}
use Rattle.run_history.proofs.LineSteps.{doings_small}
use Rattle.run_history.proofs.MemberRuns.{first_fit}
use Rattle.run_messages.proofs.Reaching.{IsReached}
use Rattle.run_messages.specs.records.Kept.{KnownScene, NodeKept}
use Rattle.run_attempts.specs.endings.Laws.{HaveTheirAttempts}
use Rattle.run_attempts.proofs.endings.Runs.{nodes_have_their_attempts_in_each_run}
use Rattle.run_seizings.specs.Seized.{has_installed}
use Rattle.run_seizings.specs.Sites.{SiteSo, UpIn, UpSo}
use Rattle.run_devices.proofs.queues.Ends.{only_joins}
use Rattle.run_devices.proofs.validity.Runs.{validity_of_each_run}
use Rattle.run_devices.specs.validity.Laws.{Agrees, InMemory}
use Rattle.run_downs.proofs.Promised.{known_at}
use Rattle.run_outcomes.specs.saves.Kept.{IsOnWay}
use Rattle.run_outcomes.specs.stops.Idle.{AllDisk, AllIdle}
use Rattle.run_outcomes.specs.stops.Inside.{CommandsAreIdle, IdleAsItSaves}
use Rattle.run_outcomes.specs.tasks.Laws.{NodeQueue, QueuesAreTold}
use Rattle.run_messages.proofs.Reaching.{IsSmall}
use Rattle.run_outcomes.proofs.own_tasks.Grounds.{Ground, ground_at, seizing_at}
use Rattle.run_outcomes.proofs.saves.Letters.{on_way}
use Rattle.run_outcomes.proofs.stops.Commanded.{Comes, IsTold, answered_disk}
use Rattle.run_outcomes.proofs.stops.Ended.{Leads, answered_idle}
use Rattle.run_outcomes.proofs.stops.Named.{first_task_device}
use Rattle.run_outcomes.proofs.stops.Readied.{Trusts, readied_disk}
use Rattle.run_outcomes.proofs.stops.Starting.{acts_none}
use Rattle.run_outcomes.proofs.stops.Unled.{unled_idle}
use Rattle.run_outcomes.proofs.points.Before.{Before}
use Rattle.run_outcomes.proofs.stops.Points.{IsFirst}

-- ---- what is known of a node

-- what holds of the run, and what is known of its end
pub record Run (h : Header) : Type 0 where
  pub queues : QueuesAreTold
  pub idle : CommandsAreIdle
  pub few_nodes : h.nodes ≤ most_nodes
  pub few : length h.devices ≤ most_devices
  pub small : h.cluster < 2 ^ 32
  pub disks : AreDisks h

reached : (h : Header) (cells : ℕ) (d : Due) (s : Scene) → Before (first_cluster h) (first_scene h cells) d s → IsReached h cells s
reached h cells d s r = record { happenings = r.happenings; may = r.may; is = r.is }

queue_of : (S : Setting) (n : ℕ) (x : UpNode) (node : Node) (ms : List Moment) → node ≡ Up x → (told.queue_is_open S n ms ≡ false → NodeQueue node (told.queued_of S n ms)) → IsTold S n x ms
queue_of S n x node ms at k = λ shut. subst (λ z. NodeQueue z (told.queued_of S n ms)) at (k shut)

queue_at : (h : Header) → Run h → (cells : ℕ) (d : Due) (s : Scene) (n : ℕ) (x : UpNode) → Before (first_cluster h) (first_scene h cells) d s → nat_lt s.links.next (2 ^ 63) ≡ true → s.nodes.node n ≡ Up x
    → IsTold (setting_of h) n x s.moments
queue_at h b cells d s n x r left at =
    queue_of (setting_of h) n x (s.nodes.node n) s.moments at
    (subst (λ (t : Scene). nat_lt t.links.next (2 ^ 63) ≡ true → told.queue_is_open (setting_of h) n t.moments ≡ false → NodeQueue (t.nodes.node n) (told.queued_of (setting_of h) n t.moments)) r.is
    (λ more shut. b.queues h cells r.happenings d b.few_nodes b.few b.small b.disks r.may r.shaped r.native r.boots more n shut) left)

way_at : (h : Header) → Run h → (cells : ℕ) (d : Due) (s : Scene) (n : ℕ) (x : UpNode) → Before (first_cluster h) (first_scene h cells) d s → s.nodes.node n ≡ Up x → IsOnWay n s.moments (Up x)
way_at h b cells d s n x r at =
    let k : KnownScene (first_cluster h) s = known_at h cells s b.few b.small (reached h cells d s r) in
    on_way k.stage.machine s.nodes s.moments n (Up x) (subst (λ z. HaveTheirAttempts z) r.is (nodes_have_their_attempts_in_each_run h cells r.happenings b.few b.small r.may)) at
    (subst (NodeKept k.stage.machine s.moments n) at (k.at n).up)

comes_at : (h : Header) → Run h → (cells : ℕ) (d : Due) (s : Scene) (n : ℕ) (x : UpNode) → Before (first_cluster h) (first_scene h cells) d s → nat_lt s.links.next (2 ^ 63) ≡ true → s.nodes.node n ≡ Up x
    → under_way s.moments ≡ Some (event.Disk n) → AllDisk (setting_of h) s.moments → Comes (setting_of h) n x s.moments
comes_at h b cells d s n x r left at here so = record { stops = so; way = way_at h b cells d s n x r at; here = here; queue = queue_at h b cells d s n x r left at }

agrees_in : (h : Header) (n d : ℕ) (x : UpNode) (node : Node) (ms : List Moment) → node ≡ Up x → InMemory (validity h n d ms) d node → Agrees (validity h n d ms) (has (record_of x).valid d)
agrees_in h n d x node ms at k = subst (λ z. InMemory (validity h n d ms) d z) at k

trusts_at : (h : Header) → Run h → (cells : ℕ) (d : Due) (s : Scene) (n : ℕ) (x : UpNode) → Before (first_cluster h) (first_scene h cells) d s → s.nodes.node n ≡ Up x → IsFirst s.moments n d.wants
    → Trusts (setting_of h) n x s.moments
trusts_at h b cells d s n x r at first = record {
  none = ap (λ ms. list_any (is_command_of n) ms) first.none;
  agrees = λ t is.
      let device : IsDevice h t.device = first_task_device h cells r.happenings n x t b.few (ap (λ (z : Scene). z.nodes.node n) r.is ∙ at) is in
      agrees_in h n t.device x (s.nodes.node n) s.moments at
      (subst (λ (z : Scene). InMemory (validity h n t.device z.moments) t.device (z.nodes.node n)) r.is
      (validity_of_each_run h cells r.happenings d b.few b.small b.disks r.may r.shaped n t.device device first.unready).memory);
}

-- ---- the steps

readying : (h : Header) (n now : ℕ) (ends : method.Outcome) (x : UpNode) (disk : DiskState) (t : Scene) → Trusts (setting_of h) n x t.moments → Comes (setting_of h) n x t.moments
    → AllDisk (setting_of h) (passing n (stepped disk_rules (first_cluster h) n now ends (Up x) disk input.CommandDue).given t).moments
readying h n now ends x disk t trusts comes =
    let c : Cluster = first_cluster h in
    let S : Setting = setting_of h in
    let y : UpNode = at_second now x in
    let cut : IsCut disk_rules c n now ends (Up x) disk input.CommandDue [] (stepped disk_rules c n now ends (Up x) disk input.CommandDue) = steps_are_cut disk_rules disks_keep_rules c n now ends (Up x) disk input.CommandDue in
    subst (λ os. AllDisk S (passing n os t).moments) cut.comes.given
    (readied_disk S c n y disk.kept (begins_plainly y.tasks) cut.replies t refl (record { none = trusts.none; agrees = trusts.agrees }) (record { stops = comes.stops; way = comes.way; here = comes.here; queue = comes.queue }))

answering : (h : Header) (M : Memberships) (n now : ℕ) (ends : method.Outcome) (x : UpNode) (disk : DiskState) (a : Answer) (t : Scene) → n ≤ 32 → length h.devices ≤ most_devices → Holds (Ties.setting_of (first_cluster h)) M → Stands (first_cluster h) M n (Up x) disk.kept
    → ((replies : List Reply) → AllIdle (setting_of h) (first_cluster h) n (site (Up x) disk.kept) (doings (first_cluster h) n now ends replies (input.Answered a) (Up x)) t) → Comes (setting_of h) n x t.moments
    → AllDisk (setting_of h) (passing n (stepped disk_rules (first_cluster h) n now ends (Up x) disk (input.Answered a)).given t).moments
answering h M n now ends x disk a t low few holds stands idle comes =
    let c : Cluster = first_cluster h in
    let S : Setting = setting_of h in
    let i : Input = input.Answered a in
    let y : UpNode = at_second now x in
    let cut : IsCut disk_rules c n now ends (Up x) disk i [] (stepped disk_rules c n now ends (Up x) disk i) = steps_are_cut disk_rules disks_keep_rules c n now ends (Up x) disk i in
    subst (λ os. AllDisk S (passing n os t).moments) cut.comes.given
    (answered_disk S c n (delivered_by i) y disk.kept a (due_device y.tasks) (next_of y.tasks) cut.replies t refl
    (step_may c M n now ends (Up x) disk.kept i cut.replies low (first_fit h few) holds stands.tied stands.joins).1 (doings_small c n now ends cut.replies i (Up x) disk.kept).1 (idle cut.replies).1
    (record { stops = comes.stops; way = comes.way; here = comes.here; queue = comes.queue }))

-- ---- each thing that happens

abbrev pub At : Header → ℕ → Due → Scene → Type 0
At h cells d s = Before (first_cluster h) (first_scene h cells) d s

pub readies : (h : Header) → Run h → (cells : ℕ) (d : Due) (s : Scene) (n now : ℕ) (ends : method.Outcome) → At h cells d s → nat_lt s.links.next (2 ^ 63) ≡ true → under_way s.moments ≡ Some (event.Disk n) → IsFirst s.moments n d.wants
    → AllDisk (setting_of h) s.moments → AllDisk (setting_of h) (taking (first_cluster h) n now ends input.CommandDue s).moments
readies h b cells d s n now ends r left here first so = by_node (s.nodes.node n) refl
  where
    c : Cluster
    c = first_cluster h

    S : Setting
    S = setting_of h

    t : Scene
    t = record s { nodes = moved c s.nodes (Takes_in n now ends input.CommandDue) }

    by_node : (node : Node) → s.nodes.node n ≡ node → AllDisk S (passing n (stepped disk_rules c n now ends (s.nodes.node n) (s.nodes.disk n) input.CommandDue).given t).moments
    by_node Down at = subst (λ w. AllDisk S (passing n (stepped disk_rules c n now ends w (s.nodes.disk n) input.CommandDue).given t).moments) (sym at) so
    by_node (Up x) at =
        subst (λ w. AllDisk S (passing n (stepped disk_rules c n now ends w (s.nodes.disk n) input.CommandDue).given t).moments) (sym at)
        (readying h n now ends x (s.nodes.disk n) t (trusts_at h b cells d s n x r at first) (comes_at h b cells d s n x r left at here so))

pub idle_at : (h : Header) → Run h → (cells : ℕ) (d : Due) (s : Scene) → At h cells d s → nat_lt s.links.next (2 ^ 63) ≡ true → IdleAsItSaves h s
idle_at h b cells d s r left =
    subst (IdleAsItSaves h) r.is
    (b.idle h cells r.happenings d b.few_nodes b.few b.small b.disks r.may r.shaped r.native r.boots (subst (λ (t : Scene). nat_lt t.links.next (2 ^ 63) ≡ true) (sym r.is) left))

-- what is known of a coordinator
leads_at : (h : Header) → Run h → (cells : ℕ) (d : Due) (s : Scene) (n : ℕ) (x : UpNode) (a : AttemptState) → At h cells d s → nat_lt s.links.next (2 ^ 63) ≡ true → s.nodes.node n ≡ Up x → x.attempt ≡ Some a
    → Leads (setting_of h) n x a s.moments
leads_at h b cells d s n x a r left at has_it = record {
  has = has_it;
  queue = queue_at h b cells d s n x r left at;
  acts = λ phase. acts_none n (session_of x) s.moments (seizes.session (site_so.first (session_of x) (done phase)).0) (done phase);
  only = λ same. only_joins c g.whole.machine n (s.nodes.disk n).kept x g.order (subst (λ z. SiteAt c g.whole.machine n (site z (s.nodes.disk n).kept)) at (g.whole.sites n)) same;
}
  where
    c : Cluster
    c = first_cluster h

    size : IsSmall h
    size = record { few = b.few; small = b.small }

    g : Ground h s n x a
    g = ground_at h cells s n x a size (reached h cells d s r) at has_it

    site_so : SiteSo h s.moments n (site (s.nodes.node n) (s.nodes.disk n).kept)
    site_so = (seizing_at h cells s size (reached h cells d s r)).sites n

    seizes : UpSo h s.moments n x
    seizes = subst (UpIn h s.moments n) at site_so.up

    done : a.phase ≡ Installing → has_installed n (session_of x) s.moments ≡ true
    done phase = subst (λ e. has_installed n e s.moments ≡ true) g.so.epoch (g.so.installs phase)

pub commanded_moments : (s : Scene) (n d : ℕ) (o : Option Device) (q : PrCommand) → s.moments ≡ (commanded_at s n d o q).scene.moments
commanded_moments s n d None q = refl
commanded_moments s n d (Some x) q = refl

-- without an attempt it saves nothing of one, and where a joining ends it starts with no work alone
pub coordinator_idle : (h : Header) (cells : ℕ) → Run h → (d : Due) (s : Scene) (n e now : ℕ) (q : PrCommand) (ends : method.Outcome) (x : UpNode) (replies : List Reply) (v : Nodes) → MayHappen (first_cluster h) s (Commands n e q now ends) → At h cells d s
    → nat_lt s.links.next (2 ^ 63) ≡ true → s.nodes.node n ≡ Up x
    → AllIdle (setting_of h) (first_cluster h) n (site (Up x) (s.nodes.disk n).kept) (doings (first_cluster h) n now ends replies (input.Answered (commanded s n e q).answer) (Up x)) (record (commanded s n e q).scene { nodes = v })
coordinator_idle h cells b d s n e now q ends x replies v may r left at = by_attempt x.attempt refl
  where
    c : Cluster
    c = first_cluster h

    S : Setting
    S = setting_of h

    t : Scene
    t = record (commanded s n e q).scene { nodes = v }

    y : UpNode
    y = at_second now x

    answer : Answer
    answer = (commanded s n e q).answer

    by_attempt : (o : Option AttemptState) → x.attempt ≡ o → AllIdle S c n (site (Up x) (s.nodes.disk n).kept) (doings c n now ends replies (input.Answered answer) (Up x)) t
    by_attempt None none = unled_idle S c n now ends x (s.nodes.disk n).kept answer replies t none
    by_attempt (Some a) has_it =
        let k : Leads S n x a t.moments = subst (Leads S n x a) (commanded_moments s n e (slice_get s.devices (e - 1)) q) (leads_at h b cells d s n x a r left at has_it) in (
          tt,
          answered_idle S c n y (s.nodes.disk n).kept a answer (due_device y.tasks) (next_of y.tasks) replies t refl (record { has = k.has; queue = k.queue; acts = k.acts; only = k.only })
              (λ f result is. (idle_at h b cells d s r left n e now q ends x a may at has_it f result is replies v).1),
        )

-- it is done at the device, or there is none
pub answers : (h : Header) → Run h → (cells : ℕ) (due : Due) (s : Scene) (n d now : ℕ) (q : PrCommand) (ends : method.Outcome) (o : Option Device) → At h cells due s → nat_lt s.links.next (2 ^ 63) ≡ true → n ≤ 32 → under_way s.moments ≡ Some (event.Disk n)
    → ((x : UpNode) → s.nodes.node n ≡ Up x → (replies : List Reply) (v : Nodes)
    → AllIdle (setting_of h) (first_cluster h) n (site (Up x) (s.nodes.disk n).kept) (doings (first_cluster h) n now ends replies (input.Answered (commanded_at s n d o q).answer) (Up x)) (record (commanded_at s n d o q).scene { nodes = v }))
    → AllDisk (setting_of h) s.moments → AllDisk (setting_of h) (taking (first_cluster h) n now ends (input.Answered (commanded_at s n d o q).answer) (commanded_at s n d o q).scene).moments
answers h b cells due s n d now q ends o r left low here idle so = by_device o idle
  where
    c : Cluster
    c = first_cluster h

    S : Setting
    S = setting_of h

    k : KnownScene c s
    k = known_at h cells s b.few b.small (reached h cells due s r)

    by_node : (a : Answer) (t : Scene) → t.moments ≡ s.moments → (node : Node) → s.nodes.node n ≡ node
        → ((x : UpNode) → s.nodes.node n ≡ Up x → (replies : List Reply) → AllIdle S c n (site (Up x) (s.nodes.disk n).kept) (doings c n now ends replies (input.Answered a) (Up x)) t)
        → AllDisk S (passing n (stepped disk_rules c n now ends (s.nodes.node n) (s.nodes.disk n) (input.Answered a)).given t).moments
    by_node a t same Down at idle = subst (λ w. AllDisk S (passing n (stepped disk_rules c n now ends w (s.nodes.disk n) (input.Answered a)).given t).moments) (sym at) (subst (AllDisk S) (sym same) so)
    by_node a t same (Up x) at idle =
        subst (λ w. AllDisk S (passing n (stepped disk_rules c n now ends w (s.nodes.disk n) (input.Answered a)).given t).moments) (sym at)
        (answering h k.stage.machine n now ends x (s.nodes.disk n) a t low b.few k.stage.holds (subst (λ z. Stands c k.stage.machine n z (s.nodes.disk n).kept) at (k.stage.stands n)) (idle x at)
        (subst (Comes S n x) (sym same) (comes_at h b cells due s n x r left at here so)))

    by_device : (o : Option Device)
        → ((x : UpNode) → s.nodes.node n ≡ Up x → (replies : List Reply) (v : Nodes)
        → AllIdle S c n (site (Up x) (s.nodes.disk n).kept) (doings c n now ends replies (input.Answered (commanded_at s n d o q).answer) (Up x)) (record (commanded_at s n d o q).scene { nodes = v }))
        → AllDisk S (taking c n now ends (input.Answered (commanded_at s n d o q).answer) (commanded_at s n d o q).scene).moments
    by_device None idle =
        let z : Scene = (commanded_at s n d None q).scene in
        let a : Answer = (commanded_at s n d None q).answer in
        let v : Nodes = moved c z.nodes (Takes_in n now ends (input.Answered a)) in
        by_node a (record z { nodes = v }) refl (s.nodes.node n) refl (λ x at replies. idle x at replies v)
    by_device (Some g) idle =
        let z : Scene = (commanded_at s n d (Some g) q).scene in
        let a : Answer = (commanded_at s n d (Some g) q).answer in
        let v : Nodes = moved c z.nodes (Takes_in n now ends (input.Answered a)) in
        by_node a (record z { nodes = v }) refl (s.nodes.node n) refl (λ x at replies. idle x at replies v)
