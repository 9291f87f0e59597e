-- Each run: the lines, and the parts of rounds, in which nodes do their commands at devices.
use Rattle.std.specs.Prelude.{ℕ, ◌≡◌, ◌≤◌, ◌<◌, ◌^◌, nat_lt, true, List, [], ◌∷◌, length, Option, None, Some, is_some}
use Rattle.std.proofs.Common.{refl, sym, ap, subst, ◌∙◌}
use Rattle.cl_base.specs.Limits.{most_devices}
use Rattle.cl_base.specs.declared.header.Header.{Header}
use Rattle.cmm_attempt.proofs.Basics.{false_true}
use Rattle.device_queue.specs.Queue.{first_of}
use Rattle.pgr_device.specs.declared.command.PrCommand.{PrCommand}
use Rattle.schedule_text.specs.declared.event.Event.{Event}
use Rattle.schedule_text.specs.declared.event.Event.TheVariants as event
use Rattle.schedule_text.specs.declared.line.Line.TheVariants as line
use Rattle.history.specs.Lines.{skip_disk}
use Rattle.history.specs.Member.{is_up}
use Rattle.history.specs.Moment.{Moment, Part, Said}
use Rattle.history.specs.Order.{EachEvent}
use Rattle.history.specs.Queue as told
use Rattle.history.specs.Queue.{due_of}
use Rattle.history.specs.Setting.{Setting}
use Rattle.node_model.specs.declared.cluster.Cluster.{Cluster}
use Rattle.node_model.specs.declared.node.Node.{Node}
use Rattle.node_model.specs.declared.node.Node.TheVariants.{Down, Up}
use Rattle.world_model.specs.Devices.{due_at}
use Rattle.world_model.specs.First.{first_cluster}
use Rattle.run_history.proofs.MemberScenes.{members_of_each_run}
use Rattle.run_history.specs.Happenings.{Happening, MayAllHappen, all_happened, armed_by, happened}
use Rattle.run_history.specs.WorldLines.{AreDisks}
use Rattle.run_history.specs.Members.{NodeLines}
use Rattle.run_history.specs.Scenes.{Scene, adding, first_scene}
use Rattle.run_history.specs.Shapes.{Due, IsShaped, ShapedFrom, Want, brings, commanding, due_after, if_up, nothing}
use Rattle.run_lines.specs.Entries.{MayBegin}
use Rattle.run_devices.specs.queues.Laws.{DiskLinesOfEachRun, DoesDue, HasTold, IsDiskOf, IsDone, NodeHas, queued, skip_of}
use Rattle.run_devices.proofs.queues.Opens.{Opening, awaits_more, due_for, first_awaits}
use Rattle.run_devices.proofs.queues.Queues.{due_in, due_same, listed, some_same}
use Rattle.run_devices.proofs.queues.Alone.{lines_of, same_told}
use Rattle.run_devices.proofs.queues.Runs.{Comes_to, comes_more, first_comes, has_told}
use Rattle.run_devices.proofs.queues.Wanted.{Awaits, Leaves}

-- ---- a line, or a part of a round

-- of a node that is up, whose tasks are told
due_done : (n : ℕ) (tasks : List told.Task) (later : List Moment) (o : Option (ℕ × PrCommand)) → due_of (queued tasks) ≡ listed o → nat_lt 0 (length (queued tasks)) ≡ is_some o
    → Leaves (listed o) (commanding n o) later → IsDiskOf n tasks later (skip_of tasks)
due_done n tasks later o due some leaves = subst (λ b. IsDiskOf n tasks later (skip_disk true b)) (sym some) (by_due o due leaves)
  where
    by_due : (o : Option (ℕ × PrCommand)) → due_of (queued tasks) ≡ listed o → Leaves (listed o) (commanding n o) later → IsDiskOf n tasks later (skip_disk true (is_some o))
    by_due None is l = l
    by_due (Some found) is l = subst (λ z. DoesDue n z later) (sym is) l

node_done : (S : Setting) (n : ℕ) (ms later : List Moment) (z : Node) (tasks : List told.Task) → NodeLines n z ms → is_up n ms ≡ true → NodeHas z tasks
    → Leaves (listed (due_at (Some z))) (if_up z (λ x. commanding n (due_at (Some z)))) later → IsDiskOf n tasks later (skip_of tasks)
node_done S n ms later Down tasks lines on has leaves = absurd (false_true (sym lines ∙ on))
node_done S n ms later (Up x) tasks lines on has leaves =
    due_done n tasks later (due_in (first_of x.tasks)) (due_same x.tasks (queued tasks) has.queue) (some_same x.tasks (queued tasks) has.queue) leaves

-- what the lines say of a scene
record Ties (S : Setting) (s : Scene) : Type 0 where
  nodes : (n : ℕ) → NodeLines n (s.nodes.node n) s.moments
  told : (n : ℕ) → HasTold S s n

line_done : (S : Setting) (s : Scene) (e : Event) (later : List Moment) → Ties S s
    → (let t : Scene = adding (Said (line.Event e)) s in Leaves (due_for (armed_by (first_cluster S.header) e t) e) (brings (first_cluster S.header) (armed_by (first_cluster S.header) e t) e) later
    → IsDone S s.moments (Said (line.Event e)) later)
line_done S s (event.Disk n) later ties leaves = λ on tasks is. node_done S n s.moments later (s.nodes.node n) tasks (ties.nodes n) on (ties.told n tasks is) leaves
line_done S s _ later ties leaves = tt

-- a part of a round is not skipped
never_skipped : (tasks : List told.Task) (o : Option (ℕ × PrCommand)) → nat_lt 0 (length (queued tasks)) ≡ is_some o → is_some o ≡ true → skip_of tasks ≡ None
never_skipped tasks o some is = ap (skip_disk true) (some ∙ is)

node_part : (S : Setting) (n : ℕ) (ms later : List Moment) (z : Node) (tasks : List told.Task) → is_some (due_at (Some z)) ≡ true → NodeHas z tasks
    → Leaves (listed (due_at (Some z))) (if_up z (λ x. commanding n (due_at (Some z)))) later → (skip_of tasks ≡ None) × DoesDue n (due_of (queued tasks)) later
node_part S n ms later Down tasks some has leaves = absurd (false_true some)
node_part S n ms later (Up x) tasks some has leaves =
    let o : Option (ℕ × PrCommand) = due_in (first_of x.tasks) in
    let none : skip_of tasks ≡ None = never_skipped tasks o (some_same x.tasks (queued tasks) has.queue) some in (
      none,
      subst (λ z. IsDiskOf n tasks later z) none
          (due_done n tasks later o (due_same x.tasks (queued tasks) has.queue) (some_same x.tasks (queued tasks) has.queue) leaves),
    )

part_done : (S : Setting) (s : Scene) (e : Event) (later : List Moment) → Ties S s → MayBegin s e
    → (let t : Scene = adding (Part e) s in Leaves (due_for t e) (brings (first_cluster S.header) t e) later → IsDone S s.moments (Part e) later)
part_done S s (event.Disk n) later ties may leaves = λ on tasks is. node_part S n s.moments later (s.nodes.node n) tasks may (ties.told n tasks is) leaves
part_done S s _ later ties may leaves = tt

opening_so : (S : Setting) (s : Scene) → Ties S s → Opening (IsDone S) (first_cluster S.header) s
opening_so S s ties = record { line_so = λ e later leaves. line_done S s e later ties leaves; part_so = λ e later may leaves. part_done S s e later ties may leaves }

-- ---- the run

ties_at : (S : Setting) (cells : ℕ) (s : Scene) (wants : List Want) → length S.header.devices ≤ most_devices → S.header.cluster < 2 ^ 32 → Comes_to (lines_of S) cells s wants → Ties S s
ties_at S cells s wants few small k = record {
  nodes = subst (λ (z : Scene). (n : ℕ) → NodeLines n (z.nodes.node n) z.moments) k.reached.is (members_of_each_run S.header cells k.reached.happenings few k.reached.may).nodes;
  told = λ n ts is. has_told (lines_of S) cells s wants n few small k ts (same_told S n s.moments ∙ is);
}

run_done : (S : Setting) (cells : ℕ) → length S.header.devices ≤ most_devices → S.header.cluster < 2 ^ 32 → (xs : List Happening) (s : Scene) (d last : Due)
    → MayAllHappen (first_cluster S.header) s xs → ShapedFrom (first_cluster S.header) s d xs last → Comes_to (lines_of S) cells s d.wants → Awaits (IsDone S) s d.wants
    → Awaits (IsDone S) (all_happened (first_cluster S.header) s xs) last.wants
run_done S cells few small [] s d last may shaped z k = subst (λ (y : Due). Awaits (IsDone S) s y.wants) shaped k
run_done S cells few small (x ∷ xs) s d last may shaped z k =
    let c : Cluster = first_cluster S.header in
    run_done S cells few small xs (happened c s x) (due_after c (happened c s x) d x) last may.1 shaped.1 (comes_more (lines_of S) cells refl few small s d x may.0 shaped.0 z)
    (awaits_more (IsDone S) S.header s d.wants d.rounds x (opening_so S s (ties_at S cells s d.wants few small z)) may.0 shaped.0 k)

disks_so : (S : Setting) (cells : ℕ) (xs : List Happening) → length S.header.devices ≤ most_devices → S.header.cluster < 2 ^ 32 → AreDisks S.header
    → MayAllHappen (first_cluster S.header) (first_scene S.header cells) xs → IsShaped (first_cluster S.header) (first_scene S.header cells) xs
    → EachEvent (IsDone S) (all_happened (first_cluster S.header) (first_scene S.header cells) xs).moments
disks_so S cells xs few small disks may shaped =
    (run_done S cells few small xs (first_scene S.header cells) nothing nothing may shaped (first_comes (lines_of S) cells few disks) (first_awaits (IsDone S) S.header cells)).events [] refl

pub disk_lines_of_each_run : DiskLinesOfEachRun
disk_lines_of_each_run h cells xs S few small same =
    subst
    (λ (g : Header). length g.devices ≤ most_devices → g.cluster < 2 ^ 32 → AreDisks g → MayAllHappen (first_cluster g) (first_scene g cells) xs
    → IsShaped (first_cluster g) (first_scene g cells) xs → EachEvent (IsDone S) (all_happened (first_cluster g) (first_scene g cells) xs).moments) same
    (disks_so S cells xs) few small
