-- In each run nothing is queued at a coordinator whose attempt collects.
use Rattle.std.specs.Prelude.{ℕ, ◌≡◌, ◌≢◌, ◌<◌, ◌≤◌, ◌^◌, not, true, false, List, [], ◌∷◌, length, Option, None, Some, is_some, if◌then◌else◌}
use Rattle.std.specs.List.{AllByRecursion, find}
use Rattle.std.specs.Option.{option_and_then, option_map}
use Rattle.std.proofs.Common.{refl, sym, ap, subst, ◌∙◌}
use Rattle.attempt_laws.specs.Asking.{HasIn}
use Rattle.attempt_laws.specs.Staying.{IsBefore}
use Rattle.cl_base.specs.Limits.{most_devices}
use Rattle.cl_base.specs.declared.header.Header.{Header}
use Rattle.cl_base.specs.Seizings.{SeizeResult}
use Rattle.cluster_machine.specs.Cluster.{Cluster as Whole}
use Rattle.cluster_ties.specs.Ties.{AttemptAt, NodeAt, SeizingAt, TaskAt, UpAt, WorkAt}
use Rattle.cmm_attempt.proofs.Basics.{false_true}
use Rattle.cmm_attempt.specs.Attempts.{AttemptState}
use Rattle.cmm_attempt.specs.declared.phase.Phase.TheVariants.{Collecting}
use Rattle.device_machine.specs.Sharing.{Sharing}
use Rattle.device_queue.specs.Queue.{first_of}
use Rattle.device_queue.specs.Tasks.{command_in, is_joining, is_over_in, is_queued}
use Rattle.device_queue.specs.declared.task.Task.{Task}
use Rattle.device_queue.specs.declared.task.Work.{Work}
use Rattle.device_queue.specs.declared.task.Work.TheVariants as work
use Rattle.history.specs.Moment.{Moment}
use Rattle.history_setting.specs.Settings.{setting_of}
use Rattle.node_model.specs.Seats.{installed_of, session_of}
use Rattle.node_model.specs.declared.cluster.Cluster.{Cluster}
use Rattle.node_model.specs.declared.node.UpNode.{UpNode}
use Rattle.seize.specs.Seizing as seizing
use Rattle.seize.specs.declared.step.SeizeStep.{SeizeStep}
use Rattle.seize.specs.declared.step.SeizeStep.TheVariants as step
use Rattle.run_history.specs.Happenings.{Happening, MayAllHappen, all_happened, happened}
use Rattle.run_history.specs.Scenes.{Scene, first_scene}
use Rattle.run_history.specs.Shapes.{Due, ShapedFrom, due_after, nothing}
use Rattle.run_packets.proofs.native.Runs.{whole_at}
use Rattle.run_devices.specs.queues.Kept as queue
use Rattle.run_devices.specs.queues.Kept.{NoJoins, NodeSo}
use Rattle.run_devices.proofs.queues.Alone.{lines_of}
use Rattle.run_devices.proofs.queues.Runs.{Comes_to, comes_more, first_comes}
use Rattle.run_seizings.specs.Seized.{AttemptIn, AttemptSo, Either, Fresh, TasksSo, WorkSo, has_installed}
use Rattle.run_seizings.specs.Sites.{UpIn, UpSo}
use Rattle.run_seizings.proofs.Runs.{run_seizes}
use Rattle.world_model.specs.Devices.{due_at, due_of}
use Rattle.world_model.specs.First.{first_cluster}
use Rattle.run_outcomes.specs.phases.Laws.{CollectorsHaveNothingDue}
use Rattle.run_outcomes.proofs.phases.Promised.{HasIt, has_it}

-- ---- tasks

-- nothing was begun of this attempt
abbrev IsUnbegun : Whole → ℕ → Type 0
IsUnbegun W e = (d : ℕ) → ((W.device d).attempt e).collected ≡ false

true_false : true ≡ false → ⊥
true_false h = false_true (sym h)

seizing_none : (cluster n e : ℕ) (s : Sharing) (t : seizing.SeizeState) (k : SeizeStep) → t.step ≡ k → t.epoch ≡ e → (s.attempt e).collected ≡ false → SeizingAt cluster n s t k → is_over_in (work.Seizing t) ≡ true
seizing_none cluster n e s t (step.Ended r) at of none h = ap (λ (o : Option SeizeResult). is_some o) (ap seizing.result_at at)
seizing_none cluster n e s t _ at of none h = absurd (true_false (sym h.0.collected ∙ (ap (λ q. (s.attempt q).collected) of ∙ none)))

work_none : (h : Header) (ms : List Moment) (c : Cluster) (W : Whole) (n q d : ℕ) (w : Work) → IsUnbegun W q → is_joining w ≡ false → WorkSo h ms n q d w → WorkAt c.id n (W.device d) w → is_over_in w ≡ true
work_none h ms c W n q d (work.Seizing t) none plain so at = seizing_none c.id n q (W.device d) t t.step refl so.0.epoch (none d) at
work_none h ms c W n q d (work.Joining j) none plain so at = absurd (true_false plain)

none_first : (h : Header) (ms : List Moment) (c : Cluster) (W : Whole) (n q : ℕ) (ts : List Task) → IsUnbegun W q → NoJoins ts → TasksSo h ms n q ts → AllByRecursion (TaskAt c W n) ts → first_of ts ≡ None
none_first h ms c W n q [] none plain so at = refl
none_first h ms c W n q (t ∷ ts) none plain so at =
    let over : is_over_in t.work ≡ true = work_none h ms c W n q t.device t.work none plain.0 so.0 at.0 in
    ap (λ b. if not b then Some t else find is_queued ts) over ∙ none_first h ms c W n q ts none plain.1 (subst (λ b. Either (not b) (AllByRecursion (Fresh h ms n q) ts) (TasksSo h ms n q ts)) over so.1) at.1

-- ---- the attempt

collects_none : (W : Whole) (a : AttemptState) → a.phase ≡ Collecting → AttemptAt W (Some a) → IsUnbegun W a.plan.epoch
collects_none W a at h d = (subst (HasIn (W.device d) a.plan a.promises a.devices d) at (h d).has).0.collected

-- ---- at each point of a run

run_on : (h : Header) (cells : ℕ) → length h.devices ≤ most_devices → h.cluster < 2 ^ 32 → (hs : List Happening) (s : Scene) (d last : Due) → MayAllHappen (first_cluster h) s hs → ShapedFrom (first_cluster h) s d hs last
    → Comes_to (lines_of (setting_of h)) cells s d.wants → Comes_to (lines_of (setting_of h)) cells (all_happened (first_cluster h) s hs) last.wants
run_on h cells few small [] s d last may shaped k = subst (λ (z : Due). Comes_to (lines_of (setting_of h)) cells s z.wants) shaped k
run_on h cells few small (x ∷ hs) s d last may shaped k =
    let c : Cluster = first_cluster h in
    run_on h cells few small hs (happened c s x) (due_after c (happened c s x) d x) last may.1 shaped.1 (comes_more (lines_of (setting_of h)) cells refl few small s d x may.0 shaped.0 k)

due_none : (x : UpNode) → first_of x.tasks ≡ None → due_of x ≡ None
due_none x none = ap (λ (o : Option Task). option_and_then (λ d. option_and_then (λ k. Some (d, k)) (option_and_then (λ (t : Task). command_in t.work) (first_of x.tasks))) (option_map (λ (t : Task). t.device) o)) none

pub collectors_have_nothing_due : CollectorsHaveNothingDue
collectors_have_nothing_due h cells hs last few small disks may shaped n a at collects =
    subst (λ z. due_at (Some z) ≡ None) (sym it.up) (due_none it.x (none_first h s.moments c W n (session_of it.x) it.x.tasks (subst (IsUnbegun W) so.epoch (collects_none W a collects (subst (AttemptAt W) it.has ups.attempt))) (queued.plain unlike) (up.tasks fresh) ups.tasks))
  where
    c : Cluster
    c = first_cluster h

    s : Scene
    s = all_happened c (first_scene h cells) hs

    W : Whole
    W = (whole_at h cells s (record { few = few; small = small }) (record { happenings = hs; may = may; is = refl })).machine

    it : HasIt (s.nodes.node n) a
    it = has_it (s.nodes.node n) a at

    ups : UpAt c W n it.x
    ups = subst (NodeAt c W n (s.nodes.disk n).kept) it.up ((whole_at h cells s (record { few = few; small = small }) (record { happenings = hs; may = may; is = refl })).sites n).at

    up : UpSo h s.moments n it.x
    up = subst (UpIn h s.moments n) it.up ((run_seizes h cells hs few small may).seizing.sites n).up

    so : AttemptSo h s.moments n (session_of it.x) a
    so = subst (AttemptIn h s.moments n (session_of it.x)) it.has up.attempt

    queued : queue.UpSo (lines_of (setting_of h)) s.moments n None it.x
    queued = subst (NodeSo (lines_of (setting_of h)) s.moments n None) it.up ((run_on h cells few small hs (first_scene h cells) nothing last may shaped (first_comes (lines_of (setting_of h)) cells few disks)).so n)

    fresh : has_installed n (session_of it.x) s.moments ≡ false
    fresh = ap (λ q. has_installed n q s.moments) (sym so.epoch) ∙ so.before (subst IsBefore (sym collects) tt)

    unlike : installed_of it.x ≢ session_of it.x
    unlike same = true_false (sym (queued.done (subst (λ q. 0 < q) so.epoch so.some) same) ∙ fresh)
