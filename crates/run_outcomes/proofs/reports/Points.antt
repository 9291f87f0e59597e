-- What holds at each point of a run holds along it.
use Rattle.std.specs.Prelude.{ℕ, ◌<◌, ◌≡◌, ◌≤◌, ◌^◌, List, [], ◌∷◌, None, filter, length}
use Rattle.std.proofs.Common.{refl, subst}
use Rattle.std.specs.List.{AllByRecursion}
use Rattle.cl_base.specs.Limits.{most_devices, most_nodes}
use Rattle.cl_base.specs.declared.header.Header.{Header}
use Rattle.cluster_ties.proofs.First.{in_order}
use Rattle.device_queue.specs.Tasks.{is_queued}
use Rattle.history_setting.specs.Settings.{setting_of}
use Rattle.node_model.specs.Seats.{installed_of, session_of}
use Rattle.node_model.specs.declared.node.Node.{Node}
use Rattle.node_model.specs.declared.node.Node.TheVariants.{Up}
use Rattle.node_model.specs.declared.node.UpNode.{UpNode}
use Rattle.refinement.specs.Doings.{site}
use Rattle.refinement.specs.Ties.{setting_of as cluster_setting}
use Rattle.run_devices.proofs.queues.Ends.{only_joins}
use Rattle.run_devices.proofs.queues.Alone.{lines_of}
use Rattle.run_devices.proofs.queues.Runs.{Comes_to, comes_more, first_comes}
use Rattle.run_devices.specs.queues.Kept.{NodeSo, joins_in}
use Rattle.run_packets.proofs.native.Runs.{whole_at}
use Rattle.node_model.specs.declared.cluster.Cluster.{Cluster}
use Rattle.run_devices.proofs.readings.Runs.{run_reads}
use Rattle.run_history.proofs.Reached.{Reached, reached_more}
use Rattle.run_history.specs.Happenings.{Happening, MayAllHappen, all_happened, happened}
use Rattle.run_history.specs.Scenes.{Scene, first_scene}
use Rattle.run_history.specs.Shapes.{Due, IsShaped, ShapedFrom, due_after, nothing}
use Rattle.run_history.specs.WorldLines.{AreDisks}
use Rattle.run_history.specs.Sites.{SiteAt}
use Rattle.run_history.specs.Wholes.{IsWhole}
use Rattle.run_messages.proofs.Reaching.{IsReached, IsSmall}
use Rattle.run_packets.proofs.replies.Delivered.{known_of}
use Rattle.run_packets.specs.repeats.Events.{AlongRun}
use Rattle.run_outcomes.specs.tasks.Laws.{QueuesAreTold}
use Rattle.run_packets.specs.native.Laws.{BootsInHeader}
use Rattle.run_packets.specs.views.Laws.{NoneForeign}
use Rattle.world_model.specs.First.{first_cluster}
use Rattle.run_outcomes.specs.reports.Facts.{AtPoint, Facts, InstallFacts, InstallsAt}
use Rattle.run_outcomes.specs.reports.Laws.{InstallsHaveCome, ReadiesAreShort, RequestsAreOfAttempts}
use Rattle.run_outcomes.proofs.points.Before.{Before, first_before, one_more}
use Rattle.run_outcomes.proofs.reports.Events.{linked_of}
use Rattle.run_outcomes.proofs.reports.Few.{results_are_few}

-- P of each point of a run in which nodes of the header alone boot
abbrev pub OfEachHere : (Header → Scene → Type 0) → Type 0
OfEachHere P = (h : Header) (cells : ℕ) (hs : List Happening) (last : Due) → h.nodes ≤ most_nodes → length h.devices ≤ most_devices → h.cluster < 2 ^ 32 → AreDisks h
    → MayAllHappen (first_cluster h) (first_scene h cells) hs → ShapedFrom (first_cluster h) (first_scene h cells) nothing hs last → NoneForeign (first_cluster h) (first_scene h cells) hs
    → AllByRecursion (BootsInHeader h) hs → P h (all_happened (first_cluster h) (first_scene h cells) hs)

module _ (P : Header → Scene → Type 0) (law : OfEachHere P) (h : Header) (cells : ℕ) (nodes : h.nodes ≤ most_nodes) (few : length h.devices ≤ most_devices) (small : h.cluster < 2 ^ 32) (disks : AreDisks h) where
  point_so : (s : Scene) (d : Due) → Before (first_cluster h) (first_scene h cells) d s → P h s
  point_so s d r = subst (P h) r.is (law h cells r.happenings d nodes few small disks r.may r.shaped r.native r.boots)

  along_from : (hs : List Happening) (s : Scene) (d last : Due) → Before (first_cluster h) (first_scene h cells) d s → MayAllHappen (first_cluster h) s hs → ShapedFrom (first_cluster h) s d hs last → NoneForeign (first_cluster h) s hs
      → AllByRecursion (BootsInHeader h) hs → AlongRun (P h) (first_cluster h) s hs
  along_from [] s d last r may shaped native boots = point_so s d r
  along_from (g ∷ hs) s d last r may shaped native boots =
      let c : Cluster = first_cluster h in
      (point_so s d r, along_from hs (happened c s g) (due_after c (happened c s g) d g) last (one_more c (first_scene h cells) d s g r may.0 shaped.0 native.0 boots.0) may.1 shaped.1 native.1 boots.1)

  pub along_points : (hs : List Happening) → MayAllHappen (first_cluster h) (first_scene h cells) hs → IsShaped (first_cluster h) (first_scene h cells) hs → NoneForeign (first_cluster h) (first_scene h cells) hs
      → AllByRecursion (BootsInHeader h) hs → AlongRun (P h) (first_cluster h) (first_scene h cells) hs
  along_points hs may shaped native boots = along_from hs (first_scene h cells) nothing nothing (first_before (first_cluster h) (first_scene h cells)) may shaped native boots

-- ---- the kinds of tasks

comes_on : (h : Header) (cells : ℕ) → length h.devices ≤ most_devices → h.cluster < 2 ^ 32 → (hs : List Happening) (s : Scene) (d last : Due) → MayAllHappen (first_cluster h) s hs → ShapedFrom (first_cluster h) s d hs last
    → Comes_to (lines_of (setting_of h)) cells s d.wants → Comes_to (lines_of (setting_of h)) cells (all_happened (first_cluster h) s hs) last.wants
comes_on h cells few small [] s d last may shaped k = subst (λ (z : Due). Comes_to (lines_of (setting_of h)) cells s z.wants) shaped k
comes_on h cells few small (x ∷ hs) s d last may shaped k =
    let c : Cluster = first_cluster h in
    comes_on h cells few small hs (happened c s x) (due_after c (happened c s x) d x) last may.1 shaped.1 (comes_more (lines_of (setting_of h)) cells refl few small s d x may.0 shaped.0 k)

pub only_so : (h : Header) (cells : ℕ) (s : Scene) (n : ℕ) (x : UpNode) → IsSmall h → IsReached h cells s → s.nodes.node n ≡ Up x → installed_of x ≡ session_of x → filter is_queued x.tasks ≡ filter is_queued (joins_in x.tasks)
only_so h cells s n x size r at same =
    let c : Cluster = first_cluster h in
    let w : IsWhole c s = whole_at h cells s size r in
    only_joins c w.machine n (s.nodes.disk n).kept x (in_order (cluster_setting c) w.machine w.reached)
    (subst (λ (z : Node). SiteAt c w.machine n (site z (s.nodes.disk n).kept)) at (w.sites n)) same

-- ---- what is known of each scene

pub at_points : QueuesAreTold → RequestsAreOfAttempts → ReadiesAreShort → OfEachHere AtPoint
at_points queues asks ready h cells hs last nodes few small disks may shaped native boots = let s : Scene = all_happened (first_cluster h) (first_scene h cells) hs in record {
  queues = λ left. queues h cells hs last nodes few small disks may shaped native boots left;
  asks = asks h cells hs few small may;
  few = results_are_few h cells hs last few small disks may shaped native;
  ready = ready h cells hs last few small disks may shaped native;
  reading = (run_reads h cells hs few small may).reading;
  plain = λ n x at. (subst (NodeSo (lines_of (setting_of h)) s.moments n None) at ((comes_on h cells few small hs (first_scene h cells) nothing last may shaped (first_comes (lines_of (setting_of h)) cells few disks)).so n)).plain;
  joins = λ n x at. only_so h cells s n x (record { few = few; small = small }) (record { happenings = hs; may = may; is = refl }) at;
}

along_facts : (h : Header) (cells : ℕ) → IsSmall h → (hs : List Happening) (s : Scene) → Reached (first_cluster h) (first_scene h cells) s → MayAllHappen (first_cluster h) s hs → AlongRun (AtPoint h) (first_cluster h) s hs → AlongRun (Facts h cells) (first_cluster h) s hs
along_facts h cells size [] s r may all = record { known = known_of h cells size s r; linked = linked_of h cells s r; at = all }
along_facts h cells size (g ∷ hs) s r may all = (
  record { known = known_of h cells size s r; linked = linked_of h cells s r; at = all.0 },
  along_facts h cells size hs (happened (first_cluster h) s g) (reached_more (first_cluster h) (first_scene h cells) s g r may.0) may.1 all.1,
)

pub facts_along : QueuesAreTold → RequestsAreOfAttempts → ReadiesAreShort → (h : Header) (cells : ℕ) (hs : List Happening) → h.nodes ≤ most_nodes → length h.devices ≤ most_devices → h.cluster < 2 ^ 32 → AreDisks h
    → MayAllHappen (first_cluster h) (first_scene h cells) hs → IsShaped (first_cluster h) (first_scene h cells) hs → NoneForeign (first_cluster h) (first_scene h cells) hs → AllByRecursion (BootsInHeader h) hs → AlongRun (Facts h cells) (first_cluster h) (first_scene h cells) hs
facts_along queues asks ready h cells hs nodes few small disks may shaped native boots =
    along_facts h cells (record { few = few; small = small }) hs (first_scene h cells) (record { happenings = []; may = tt; is = refl }) may
    (along_points AtPoint (at_points queues asks ready) h cells nodes few small disks hs may shaped native boots)

along_both : (P Q : Scene → Type 0) (c : Cluster) (s : Scene) (hs : List Happening) → AlongRun P c s hs → AlongRun Q c s hs → AlongRun (λ z. P z × Q z) c s hs
along_both P Q c s [] h k = (h, k)
along_both P Q c s (g ∷ hs) h k = ((h.0, k.0), along_both P Q c (happened c s g) hs h.1 k.1)

pub installs_along : QueuesAreTold → RequestsAreOfAttempts → ReadiesAreShort → InstallsHaveCome → (h : Header) (cells : ℕ) (hs : List Happening) → h.nodes ≤ most_nodes → length h.devices ≤ most_devices → h.cluster < 2 ^ 32 → AreDisks h
    → MayAllHappen (first_cluster h) (first_scene h cells) hs → IsShaped (first_cluster h) (first_scene h cells) hs → NoneForeign (first_cluster h) (first_scene h cells) hs → AllByRecursion (BootsInHeader h) hs → AlongRun (InstallFacts h cells) (first_cluster h) (first_scene h cells) hs
installs_along queues asks ready came h cells hs nodes few small disks may shaped native boots =
    along_both (Facts h cells) (InstallsAt h) (first_cluster h) (first_scene h cells) hs (facts_along queues asks ready h cells hs nodes few small disks may shaped native boots)
    (along_points InstallsAt (λ k j xs d n f t e m z g b. came k j xs d f t e m z g) h cells nodes few small disks hs may shaped native boots)
