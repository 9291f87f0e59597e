-- A node's step where its command is due: it readies itself, and takes the answer.
use Rattle.std.specs.Prelude.{ℕ, ◌+◌, ◌≡◌, ◌≤◌, List, [], ◌∷◌, Option, None, Some, Err, find}
use Rattle.std.specs.Option.{option_and_then, option_map}
use Rattle.std.specs.List.{AllByRecursion}
use Rattle.std.proofs.Common.{refl, sym, ap, subst, arith}
use Rattle.std.proofs.lemmas.Bool.{cond_both}
use Rattle.cl_base.specs.Sets.{has}
use Rattle.cl_base.specs.declared.method.Outcome as method
use Rattle.cmm_attempt.proofs.Basics.{none_some, same_some}
use Rattle.cmm_member.specs.Records.{NodeRecord}
use Rattle.device_queue.specs.Queue.{after_answer, begins_plainly, due_device, first_of, next_of, progress_after}
use Rattle.device_queue.specs.Tasks.{is_queued}
use Rattle.device_queue.specs.declared.progress.Progress.{Progress}
use Rattle.device_queue.specs.declared.progress.Progress.TheVariants.{GoesOn, Joined, Seized}
use Rattle.device_queue.specs.declared.task.Task.{Task}
use Rattle.node_model.specs.Devices.{joining_so}
use Rattle.node_model.specs.Seats.{coordinator_of, record_of}
use Rattle.node_model.specs.Steps.{Outcome, at_second, stepped}
use Rattle.node_model.specs.declared.cluster.Cluster.{Cluster}
use Rattle.node_model.specs.declared.input.Input.TheVariants as input
use Rattle.node_model.specs.declared.node.Node.{Node}
use Rattle.node_model.specs.declared.node.Node.TheVariants.{Down, Up}
use Rattle.node_model.specs.declared.node.UpNode.{UpNode}
use Rattle.pgr_device.specs.declared.command.PrCommand.{PrCommand}
use Rattle.record_disk.specs.Disks.{DiskState}
use Rattle.refinement.proofs.Disks.{disks_keep_rules}
use Rattle.refinement.proofs.Replies.{steps_are_cut}
use Rattle.refinement.specs.Courses.{Course, Reply, under}
use Rattle.refinement.specs.Courses.Course.{Keeps, Stops}
use Rattle.refinement.specs.Courses.Reply.{Done, Lost_new, Lost_old}
use Rattle.refinement.specs.Cuts.{answered_course, distrusting_course, doings, joined_course, progress_course, seized_course}
use Rattle.refinement.specs.Doings.{Site, after_all, answered_so, site}
use Rattle.refinement.specs.Doings.Change.{Distrusts}
use Rattle.refinement.specs.Guards.{MayAll}
use Rattle.refinement.specs.Steps.{IsCut, disk_rules}
use Rattle.refinement.specs.node_widths.Widths.{NodeFits, TaskFits}
use Rattle.run_history.proofs.AtSteps.{joined_course_to, seized_here_to, task_device}
use Rattle.run_history.proofs.WholeSteps.{at_under}
use Rattle.seize.specs.Answers.{Answer}
use Rattle.seize.specs.declared.kind.JoinResult.TheVariants as join
use Rattle.wire.specs.Spelling.{IsDevice}
use Rattle.world_model.specs.Devices.{due_at, due_of}
use Rattle.run_lines.specs.few.Counts.{NodeAlone, TellsWord, left_in, node_left, seizes}
use Rattle.run_lines.proofs.few.Acts.{NodeTries, Tries, all_left}
use Rattle.run_lines.proofs.few.Courses.{joined_free, seized_free, under_free}
use Rattle.run_lines.proofs.few.Left.{taken_less}

-- ---- it readies itself

-- with the same tasks, and the same attempt; or it is down
abbrev pub SameTasks : UpNode → Node → Type 0
SameTasks x Down = Unit {0}
SameTasks x (Up y) = (y.tasks ≡ x.tasks) × (y.attempt ≡ x.attempt)

distrusted_same : (c : Cluster) (n : ℕ) (x y : UpNode) (disk : NodeRecord) (replies : List Reply) (o : Option ℕ) → y.tasks ≡ x.tasks → y.attempt ≡ x.attempt
    → SameTasks x (after_all c n (site (Up y) disk) (under replies (distrusting_course y o))).node
distrusted_same c n x y disk replies None tasks tries = (tasks, tries)
distrusted_same c n x y disk replies (Some d) tasks tries =
    cond_both (has (record_of y).valid d) (Keeps (Distrusts d) Stops) Stops (λ k. SameTasks x (after_all c n (site (Up y) disk) (under replies k)).node) (λ e. by_replies replies) (λ e. (tasks, tries))
  where
    by_replies : (rs : List Reply) → SameTasks x (after_all c n (site (Up y) disk) (under rs (Keeps (Distrusts d) Stops))).node
    by_replies [] = tt
    by_replies (Done ∷ rs) = (tasks, tries)
    by_replies (Lost_new why ∷ rs) = tt
    by_replies (Lost_old why ∷ rs) = tt

pub readied_same : (c : Cluster) (n now : ℕ) (ends : method.Outcome) (x : UpNode) (disk : DiskState) → SameTasks x (stepped disk_rules c n now ends (Up x) disk input.CommandDue).after
readied_same c n now ends x disk =
    let o : Outcome DiskState = stepped disk_rules c n now ends (Up x) disk input.CommandDue in
    let cut : IsCut disk_rules c n now ends (Up x) disk input.CommandDue [] o = steps_are_cut disk_rules disks_keep_rules c n now ends (Up x) disk input.CommandDue in
    let y : UpNode = at_second now x in
    subst (λ (z : Site). SameTasks x z.node) cut.comes.left (distrusted_same c n x y disk.kept cut.replies (begins_plainly y.tasks) refl refl)

-- ---- it takes the answer

no_more : (k : ℕ) → k ≤ k
no_more k = omega arith

none_left : (k : ℕ) → 0 ≤ k
none_left k = omega arith

progress_left : (c : Cluster) (n : ℕ) (word : ℕ → ℕ) (y : UpNode) (disk : NodeRecord) (d : ℕ) (k : PrCommand) (a : Answer) (replies : List Reply) (p : Progress) → progress_after y.tasks a ≡ p
    → MayAll c n None (site (Up y) disk) (under replies (progress_course c n y d k a p)) → Tries y.attempt
    → node_left word (after_all c n (site (Up y) disk) (under replies (progress_course c n y d k a p))).node ≤ left_in word (seizes y.attempt) (after_answer y.tasks a)
progress_left c n word y disk d k a replies GoesOn is may t = no_more (left_in word (seizes y.attempt) (after_answer y.tasks a))
progress_left c n word y disk d k a replies (Seized e r) is may t =
    let z : UpNode = answered_so y a in
    let rest : Course = seized_course c n z e r (coordinator_of z) in
    all_left c n None word (site (Up z) disk) (under replies rest) may.1 (at_under c n None None z disk replies rest (seized_here_to c n None y a e r is)) (under_free replies rest (seized_free c n z e r (coordinator_of z))) t
progress_left c n word y disk d k a replies (Joined e (join.Late w)) is may t =
    let z : UpNode = answered_so y a in
    let rest : Course = joined_course c n z (coordinator_of z) in
    all_left c n None word (site (Up z) disk) (under replies rest) may.1 (at_under c n None None z disk replies rest (joined_course_to c n None z (coordinator_of z))) (under_free replies rest (joined_free c n z (coordinator_of z))) t
progress_left c n word y disk d k a replies (Joined e join.Fault) is may t =
    let z : UpNode = answered_so y a in
    let rest : Course = joined_course c n z (coordinator_of z) in
    all_left c n None word (site (Up z) disk) (under replies rest) may.1 (at_under c n None None z disk replies rest (joined_course_to c n None z (coordinator_of z))) (under_free replies rest (joined_free c n z (coordinator_of z))) t
progress_left c n word y disk d k a replies (Joined e join.Joined) is may t = by_replies replies may
  where
    left : ℕ
    left = left_in word (seizes y.attempt) (after_answer y.tasks a)

    by_replies : (rs : List Reply) → MayAll c n None (site (Up y) disk) (under rs (progress_course c n y d k a (Joined e join.Joined)))
        → node_left word (after_all c n (site (Up y) disk) (under rs (progress_course c n y d k a (Joined e join.Joined)))).node ≤ left
    by_replies [] m = none_left left
    by_replies (Done ∷ rs) m =
        let z : UpNode = joining_so (answered_so y a) e in
        let rest : Course = joined_course c n z (coordinator_of z) in
        all_left c n None word (site (Up z) (record_of z)) (under rs rest) m.1 (at_under c n None None z (record_of z) rs rest (joined_course_to c n None z (coordinator_of z)))
        (under_free rs rest (joined_free c n z (coordinator_of z))) t
    by_replies (Lost_new why ∷ rs) m = none_left left
    by_replies (Lost_old why ∷ rs) m = none_left left

answered_left : (c : Cluster) (n : ℕ) (word : ℕ → ℕ) (y : UpNode) (disk : NodeRecord) (d : ℕ) (k : PrCommand) (a : Answer) (replies : List Reply) (o : Option ℕ) (q : Option PrCommand) → o ≡ Some d → q ≡ Some k
    → MayAll c n None (site (Up y) disk) (under replies (answered_course c n y a o q)) → Tries y.attempt
    → node_left word (after_all c n (site (Up y) disk) (under replies (answered_course c n y a o q))).node ≤ left_in word (seizes y.attempt) (after_answer y.tasks a)
answered_left c n word y disk d k a replies None q is at may t = absurd (none_some d is)
answered_left c n word y disk d k a replies (Some e) None is at may t = absurd (none_some k at)
answered_left c n word y disk d k a replies (Some e) (Some j) is at may t = progress_left c n word y disk e j a replies (progress_after y.tasks a) refl may t

-- ---- the command that is due

due_parts : (o : Option ℕ) (q : Option PrCommand) (d : ℕ) (k : PrCommand)
    → option_and_then {U = ℕ × PrCommand} (λ e. option_and_then {U = ℕ × PrCommand} (λ (j : PrCommand). Some (e, j)) q) o ≡ Some (d, k) → (o ≡ Some d) × (q ≡ Some k)
due_parts None q d k h = absurd (none_some (d, k) h)
due_parts (Some e) None d k h = absurd (none_some (d, k) h)
due_parts (Some e) (Some j) d k h =
    let same : (e, j) ≡ (d, k) = same_some (e, j) (d, k) h in
    (ap (λ (z : ℕ × PrCommand). Some z.0) same, ap (λ (z : ℕ × PrCommand). Some z.1) same)

-- it is of the first task
record First (ts : List Task) (d : ℕ) : Type 0 where
  task : Task
  first : find is_queued ts ≡ Some task
  device : task.device ≡ d

first_due : (ts : List Task) (d : ℕ) (o : Option Task) → first_of ts ≡ o → option_map (λ (t : Task). t.device) o ≡ Some d → First ts d
first_due ts d None is due = absurd (none_some d due)
first_due ts d (Some t) is due = record { task = t; first = is; device = same_some t.device d due }

one_less : (a b d : ℕ) → a ≤ b → b + 1 ≤ d → a + 1 ≤ d
one_less a b d h l = omega (arith, h, l)

up_less : (c : Cluster) (n now : ℕ) (ends : method.Outcome) (x : UpNode) (disk : DiskState) (d : ℕ) (k : PrCommand) (a : Answer) (before after : ℕ → ℕ)
    → ((replies : List Reply) → MayAll c n None (site (Up x) disk.kept) (doings c n now ends replies (input.Answered a) (Up x))) → due_of x ≡ Some (d, k) → NodeAlone (Up x) → Tries x.attempt
    → AllByRecursion (TaskFits c n) x.tasks → TellsWord (before d) (after d) a → node_left after (stepped disk_rules c n now ends (Up x) disk (input.Answered a)).after + 1 ≤ node_left before (Up x)
up_less c n now ends x disk d k a before after may due alone t fit tells =
    let o : Outcome DiskState = stepped disk_rules c n now ends (Up x) disk (input.Answered a) in
    let cut : IsCut disk_rules c n now ends (Up x) disk (input.Answered a) [] o = steps_are_cut disk_rules disks_keep_rules c n now ends (Up x) disk (input.Answered a) in
    let y : UpNode = at_second now x in
    let at : (due_device x.tasks ≡ Some d) × (next_of x.tasks ≡ Some k) = due_parts (due_device x.tasks) (next_of x.tasks) d k due in
    let first : First x.tasks d = first_due x.tasks d (first_of x.tasks) refl at.0 in
    let task : Task = first.task in
    let place : IsDevice task.device = task_device c n is_queued x.tasks task fit first.first in
    one_less (node_left after o.after) (left_in after (seizes x.attempt) (after_answer x.tasks a)) (node_left before (Up x))
    (subst (λ (z : Site). node_left after z.node ≤ left_in after (seizes x.attempt) (after_answer x.tasks a)) cut.comes.left
    (answered_left c n after y disk.kept d k a cut.replies (due_device y.tasks) (next_of y.tasks) at.0 at.1 (may cut.replies).1 t))
    (taken_less before after (seizes x.attempt) x.tasks a task first.first (alone task.device).0 (alone task.device).1 place.0 place.1
    (subst (λ e. TellsWord (before e) (after e) a) (sym first.device) tells))

pub command_less : (c : Cluster) (n now : ℕ) (ends : method.Outcome) (node : Node) (disk : DiskState) (d : ℕ) (k : PrCommand) (a : Answer) (before after : ℕ → ℕ)
    → ((replies : List Reply) → MayAll c n None (site node disk.kept) (doings c n now ends replies (input.Answered a) node)) → due_at (Some node) ≡ Some (d, k) → NodeAlone node → NodeTries node
    → NodeFits c n node → TellsWord (before d) (after d) a → node_left after (stepped disk_rules c n now ends node disk (input.Answered a)).after + 1 ≤ node_left before node
command_less c n now ends Down disk d k a before after may due alone t fit tells = absurd (none_some (d, k) due)
command_less c n now ends (Up x) disk d k a before after may due alone t fit tells = up_less c n now ends x disk d k a before after may due alone t fit.all_tasks tells

-- where a command is due, one is left
pub some_left : (c : Cluster) (n : ℕ) (word : ℕ → ℕ) (node : Node) (d : ℕ) (k : PrCommand) → due_at (Some node) ≡ Some (d, k) → NodeAlone node → NodeFits c n node → 1 ≤ node_left word node
some_left c n word Down d k due alone fit = absurd (none_some (d, k) due)
some_left c n word (Up x) d k due alone fit =
    let at : (due_device x.tasks ≡ Some d) × (next_of x.tasks ≡ Some k) = due_parts (due_device x.tasks) (next_of x.tasks) d k due in
    let first : First x.tasks d = first_due x.tasks d (first_of x.tasks) refl at.0 in
    let task : Task = first.task in
    let place : IsDevice task.device = task_device c n is_queued x.tasks task fit.all_tasks first.first in
    one (left_in word (seizes x.attempt) (after_answer x.tasks (Err (record {})))) (node_left word (Up x))
    (taken_less word word (seizes x.attempt) x.tasks (Err (record {})) task first.first (alone task.device).0 (alone task.device).1 place.0 place.1 tt)
  where
    one : (a b : ℕ) → a + 1 ≤ b → 1 ≤ b
    one a b h = omega (arith, h)
