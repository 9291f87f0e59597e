-- Each run: each line is answered, where the lines tell the queue of each node.
use Rattle.std.specs.Prelude.{ℕ, ◌<◌, ◌≤◌, ◌^◌, List, [], ◌∷◌, length}
use Rattle.std.specs.List.{AllByRecursion}
use Rattle.std.proofs.Common.{refl, sym, subst}
use Rattle.cl_base.specs.Limits.{most_devices, most_nodes}
use Rattle.cl_base.specs.declared.header.Header.{Header}
use Rattle.history.specs.Links.{links_after}
use Rattle.history.specs.Moment.{Moment, lines_of}
use Rattle.history.specs.Order.{EachEvent}
use Rattle.history.specs.Setting.{Setting}
use Rattle.history_setting.specs.Settings.{setting_of}
use Rattle.node_model.specs.declared.cluster.Cluster.{Cluster}
use Rattle.run_commands.proofs.taken.Laws.{clients_are_answered_in_each_run}
use Rattle.run_devices.proofs.queues.Opens.{awaits_more, first_awaits}
use Rattle.run_devices.proofs.queues.Wanted.{Awaits}
use Rattle.run_history.proofs.MemberScenes.{members_of_each_run}
use Rattle.run_history.specs.Happenings.{Happening, MayAllHappen, all_happened, happened}
use Rattle.run_history.specs.Scenes.{Scene, first_scene}
use Rattle.run_history.specs.Shapes.{Due, IsShaped, ShapedFrom, due_after, nothing}
use Rattle.run_history.specs.WorldLines.{AreDisks}
use Rattle.run_lines.proofs.Runs.{lines_of_each_run}
use Rattle.run_lines.proofs.writes.Runs.{writes_of_each_run}
use Rattle.run_messages.proofs.Runs.{memberships_of_each_run}
use Rattle.run_packets.proofs.fits.Lines.{all_lines, no_disk_fails_by_lines}
use Rattle.run_packets.proofs.native.Boots.{boots_are_of_the_header}
use Rattle.run_packets.specs.fits.Laws.{IsOfHeader}
use Rattle.run_packets.specs.native.Laws.{BootsInHeader}
use Rattle.run_packets.specs.views.Laws.{NoneForeign}
use Rattle.schedule_text.specs.declared.event.Event.TheVariants as event
use Rattle.schedule_text.specs.declared.line.Line.{Line}
use Rattle.schedule_text.specs.declared.line.Line.TheVariants as line
use Rattle.world_model.specs.First.{first_cluster}
use Rattle.run_outcomes.specs.lines.Done.{IsRest}
use Rattle.run_outcomes.specs.lines.Laws.{IsFitting, LinesAreAnswered}
use Rattle.run_outcomes.specs.tasks.AsksGiven.{IsLeft}
use Rattle.run_outcomes.specs.tasks.Laws.{QueuesAreTold}
use Rattle.run_outcomes.proofs.lines.Answered.{all_answered}
use Rattle.run_outcomes.proofs.lines.Disks.{SceneTold, rest_opens}
use Rattle.run_outcomes.proofs.rounds_told.Numbers.{left_here, run_left, told_left}
use Rattle.run_outcomes.proofs.points.Before.{Before, first_before, one_more}

-- ---- what the laws before this one do not speak of

told_there : QueuesAreTold → (h : Header) (cells : ℕ) (d : Due) (xs : List Happening) → h.nodes ≤ most_nodes → length h.devices ≤ most_devices → h.cluster < 2 ^ 32 → AreDisks h
    → MayAllHappen (first_cluster h) (first_scene h cells) xs → ShapedFrom (first_cluster h) (first_scene h cells) nothing xs d → NoneForeign (first_cluster h) (first_scene h cells) xs
    → AllByRecursion (BootsInHeader h) xs → IsLeft (all_happened (first_cluster h) (first_scene h cells) xs).links.next → SceneTold (setting_of h) (all_happened (first_cluster h) (first_scene h cells) xs)
told_there queues h cells d xs nodes few small disks may shaped native boots left n = record {
  lines = (members_of_each_run h cells xs few may).nodes n;
  seated = memberships_of_each_run h cells xs few small may n;
  queue = λ shut. queues h cells xs d nodes few small disks may shaped native boots left n shut;
}

told_at : QueuesAreTold → (h : Header) (cells : ℕ) (s : Scene) (d : Due) → h.nodes ≤ most_nodes → length h.devices ≤ most_devices → h.cluster < 2 ^ 32 → AreDisks h
    → Before (first_cluster h) (first_scene h cells) d s → IsLeft s.links.next → SceneTold (setting_of h) s
told_at queues h cells s d nodes few small disks r left =
    subst (SceneTold (setting_of h)) r.is
    (told_there queues h cells d r.happenings nodes few small disks r.may r.shaped r.native r.boots (subst (λ (z : Scene). IsLeft z.links.next) (sym r.is) left))

run_rest : QueuesAreTold → (h : Header) (cells : ℕ) (hs : List Happening) (s : Scene) (d last : Due) → h.nodes ≤ most_nodes → length h.devices ≤ most_devices → h.cluster < 2 ^ 32 → AreDisks h
    → Before (first_cluster h) (first_scene h cells) d s → MayAllHappen (first_cluster h) s hs → ShapedFrom (first_cluster h) s d hs last → NoneForeign (first_cluster h) s hs
    → AllByRecursion (BootsInHeader h) hs → IsLeft (all_happened (first_cluster h) s hs).links.next → Awaits (IsRest (setting_of h)) s d.wants
    → Awaits (IsRest (setting_of h)) (all_happened (first_cluster h) s hs) last.wants
run_rest queues h cells [] s d last nodes few small disks r may shaped native boots left k = subst (λ (z : Due). Awaits (IsRest (setting_of h)) s z.wants) shaped k
run_rest queues h cells (g ∷ hs) s d last nodes few small disks r may shaped native boots left k =
    let c : Cluster = first_cluster h in
    run_rest queues h cells hs (happened c s g) (due_after c (happened c s g) d g) last nodes few small disks (one_more c (first_scene h cells) d s g r may.0 shaped.0 native.0 boots.0) may.1 shaped.1 native.1 boots.1 left
    (awaits_more (IsRest (setting_of h)) h s d.wants d.rounds g
    (rest_opens (setting_of h) c s (told_at queues h cells s d nodes few small disks r (left_here c s (g ∷ hs) left))) may.0 shaped.0 k)

rest_of_each_run : QueuesAreTold → (h : Header) (cells : ℕ) (hs : List Happening) → h.nodes ≤ most_nodes → length h.devices ≤ most_devices → h.cluster < 2 ^ 32 → AreDisks h
    → MayAllHappen (first_cluster h) (first_scene h cells) hs → IsShaped (first_cluster h) (first_scene h cells) hs → NoneForeign (first_cluster h) (first_scene h cells) hs
    → AllByRecursion (BootsInHeader h) hs → IsLeft (all_happened (first_cluster h) (first_scene h cells) hs).links.next
    → EachEvent (IsRest (setting_of h)) (all_happened (first_cluster h) (first_scene h cells) hs).moments
rest_of_each_run queues h cells hs nodes few small disks may shaped native boots left =
    (run_rest queues h cells hs (first_scene h cells) nothing nothing nodes few small disks (first_before (first_cluster h) (first_scene h cells)) may shaped native boots left
    (first_awaits (IsRest (setting_of h)) h cells)).events [] refl

-- ---- the law

-- such a line is of the header
of_header : (h : Header) (l : Line) → IsFitting h l → IsOfHeader h l
of_header h (line.Event (event.Write n d value)) fits = tt
of_header h (line.Event e) fits = fits
of_header h _ fits = tt

pub all_of_header : (h : Header) (ls : List Line) → AllByRecursion (IsFitting h) ls → AllByRecursion (IsOfHeader h) ls
all_of_header h [] fits = tt
all_of_header h (l ∷ ls) fits = (of_header h l fits.0, all_of_header h ls fits.1)

pub lines_by_queues : QueuesAreTold → LinesAreAnswered
lines_by_queues queues h cells hs nodes few small disks same may shaped native fits short =
    let S : Setting = setting_of h in
    let ms : List Moment = (all_happened (first_cluster h) (first_scene h cells) hs).moments in
    let boots : AllByRecursion (BootsInHeader h) hs = boots_are_of_the_header h cells hs shaped (all_lines h (first_cluster h) (first_scene h cells) hs (all_of_header h (lines_of ms) fits)).1 in
    all_answered S [] ms (lines_of_each_run h cells hs S few small same may shaped) (writes_of_each_run h cells hs S few small refl disks may shaped)
    (clients_are_answered_in_each_run h cells hs few small may shaped)
    (rest_of_each_run queues h cells hs nodes few small disks may shaped native boots (run_left h cells hs few small same may shaped short))
    (subst (λ k. IsLeft (links_after k ms).next) (sym same) (told_left h cells hs few small same may shaped short))
    (no_disk_fails_by_lines h cells hs nodes few small may shaped (all_of_header h (lines_of ms) fits) short) fits tt
