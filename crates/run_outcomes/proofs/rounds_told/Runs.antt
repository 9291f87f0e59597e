-- The parts of rounds of each run, by its queues.
use Rattle.std.specs.Prelude.{ℕ, ◌≡◌, ◌<◌, ◌≤◌, ◌^◌, List, [], ◌∷◌, Some, length, is_some}
use Rattle.std.specs.List.{AllByRecursion}
use Rattle.std.proofs.Common.{sym, subst}
use Rattle.cl_base.specs.Limits.{most_devices, most_nodes}
use Rattle.cl_base.specs.declared.header.Header.{Header}
use Rattle.history.specs.Moment.{Moment}
use Rattle.history.specs.Queue as told
use Rattle.history.specs.Setting.{Setting}
use Rattle.history_setting.specs.Settings.{setting_of}
use Rattle.node_model.specs.declared.cluster.Cluster.{Cluster}
use Rattle.node_model.specs.declared.node.Node.{Node}
use Rattle.node_model.specs.declared.node.Node.TheVariants.{Down, Up}
use Rattle.run_devices.proofs.queues.Queues.{work_same}
use Rattle.run_history.specs.Happenings.{Happening, IsUp, MayAllHappen, all_happened, happened}
use Rattle.run_history.specs.Happenings.Happening.{Begins, Notes}
use Rattle.run_history.specs.Scenes.{Scene, first_scene}
use Rattle.run_history.specs.Shapes.{Due, IsShaped, ShapedFrom, due_after, nothing}
use Rattle.run_history.specs.WorldLines.{AreDisks}
use Rattle.run_lines.proofs.rounds.Runs.{none_left_by_queues, parts_by_queues}
use Rattle.run_lines.specs.rounds.Laws.{AtEachPart, AtPart, QueuesTold}
use Rattle.run_packets.specs.native.Laws.{BootsInHeader}
use Rattle.run_packets.specs.views.Laws.{NoneForeign}
use Rattle.status_report.specs.declared.schedule_entry.ScheduleEntry.TheVariants as schedule
use Rattle.world_model.specs.Devices.{due_at}
use Rattle.world_model.specs.First.{first_cluster}
use Rattle.run_outcomes.specs.rounds_told.Laws.{NoRoundIsLeft, RoundsAreTold}
use Rattle.run_outcomes.specs.tasks.AsksGiven.{IsLeft}
use Rattle.run_outcomes.specs.tasks.Laws.{NodeQueue, QueuesAreTold}
use Rattle.run_outcomes.proofs.points.Before.{Before, first_before, one_more}
use Rattle.run_outcomes.proofs.rounds_told.Numbers.{left_here, run_left}

-- a node has a command due where a task is told
node_told : (S : Setting) (ms : List Moment) (n : ℕ) (node : Node) → IsUp node → NodeQueue node (told.queued_of S n ms) → told.has_work S n ms ≡ is_some (due_at (Some node))
node_told S ms n Down up k = absurd up
node_told S ms n (Up x) up k = work_same x.tasks (told.queued_of S n ms) k

-- ---- each point at which a part comes

part_so : (P : Scene → Type 0) (s : Scene) (g : Happening) → P s → AtPart P s g
part_so P s (Begins e) p = p
part_so P s (Notes schedule.RoundsDone) p = p
part_so P s _ p = tt

told_at : QueuesAreTold → (h : Header) (cells : ℕ) (s : Scene) (d : Due) → h.nodes ≤ most_nodes → length h.devices ≤ most_devices → h.cluster < 2 ^ 32 → AreDisks h
    → Before (first_cluster h) (first_scene h cells) d s → IsLeft s.links.next → QueuesTold (setting_of h) s
told_at queues h cells s d nodes few small disks r left =
    subst (QueuesTold (setting_of h)) r.is (λ n up shut.
    let t : Scene = all_happened (first_cluster h) (first_scene h cells) r.happenings in
    node_told (setting_of h) t.moments n (t.nodes.node n) up (queues h cells r.happenings d nodes few small disks r.may r.shaped r.native r.boots (subst (λ (z : Scene). IsLeft z.links.next) (sym r.is) left) n shut))

each_told : QueuesAreTold → (h : Header) (cells : ℕ) (hs : List Happening) (s : Scene) (d last : Due) → h.nodes ≤ most_nodes → length h.devices ≤ most_devices → h.cluster < 2 ^ 32 → AreDisks h
    → Before (first_cluster h) (first_scene h cells) d s → MayAllHappen (first_cluster h) s hs → ShapedFrom (first_cluster h) s d hs last → NoneForeign (first_cluster h) s hs
    → AllByRecursion (BootsInHeader h) hs → IsLeft (all_happened (first_cluster h) s hs).links.next → AtEachPart (QueuesTold (setting_of h)) (first_cluster h) s hs
each_told queues h cells [] s d last nodes few small disks r may shaped native boots left = tt
each_told queues h cells (g ∷ hs) s d last nodes few small disks r may shaped native boots left =
    let c : Cluster = first_cluster h in (
      part_so (QueuesTold (setting_of h)) s g (told_at queues h cells s d nodes few small disks r (left_here c s (g ∷ hs) left)),
      each_told queues h cells hs (happened c s g) (due_after c (happened c s g) d g) last nodes few small disks (one_more c (first_scene h cells) d s g r may.0 shaped.0 native.0 boots.0) may.1 shaped.1 native.1 boots.1 left,
    )

-- ---- the run

run_told : QueuesAreTold → (h : Header) (cells : ℕ) (hs : List Happening) → h.nodes ≤ most_nodes → length h.devices ≤ most_devices → h.cluster < 2 ^ 32 → AreDisks h
    → MayAllHappen (first_cluster h) (first_scene h cells) hs → IsShaped (first_cluster h) (first_scene h cells) hs → NoneForeign (first_cluster h) (first_scene h cells) hs
    → AllByRecursion (BootsInHeader h) hs → IsLeft (all_happened (first_cluster h) (first_scene h cells) hs).links.next → AtEachPart (QueuesTold (setting_of h)) (first_cluster h) (first_scene h cells) hs
run_told queues h cells hs nodes few small disks may shaped native boots left =
    each_told queues h cells hs (first_scene h cells) nothing nothing nodes few small disks (first_before (first_cluster h) (first_scene h cells)) may shaped native boots left

pub rounds_from : QueuesAreTold → RoundsAreTold
rounds_from queues h cells hs nodes few small disks same may shaped native boots asks short =
    parts_by_queues h cells hs (setting_of h) few small same may shaped asks
    (run_told queues h cells hs nodes few small disks may shaped native boots (run_left h cells hs few small same may shaped short))

pub none_left_from : QueuesAreTold → NoRoundIsLeft
none_left_from queues h cells hs nodes few small disks same may shaped native boots asks short =
    none_left_by_queues h cells hs (setting_of h) few small same may shaped asks
    (run_told queues h cells hs nodes few small disks may shaped native boots (run_left h cells hs few small same may shaped short))
