-- Each step of a node.
use Rattle.std.specs.Prelude.{ℕ, ◌++◌, List, [], ◌∷◌, Option, None, Some, IfSome, Ok}
use Rattle.std.proofs.Common.{refl, subst}
use Rattle.std.specs.List.{AllByRecursion}
use Rattle.std.specs.Option.{option_and_then}
use Rattle.cl_base.specs.declared.method.Outcome.{Outcome}
use Rattle.cmm_attempt.specs.declared.attached.AttachedDevice.{AttachedDevice}
use Rattle.cmm_attempt.specs.declared.seizing.Seizing.{Seizing}
use Rattle.cmm_attempt.specs.Attempts.{AttemptState}
use Rattle.cmm_member.specs.Records.{NodeRecord}
use Rattle.device_queue.specs.declared.task.Task.{Task}
use Rattle.device_queue.specs.Queue.{begins_plainly, due_device, next_of, progress_after}
use Rattle.pgr_device.specs.declared.command.PrCommand.{PrCommand}
use Rattle.pgr_device.specs.declared.command.PrAnswer.TheVariants as given
use Rattle.record_disk.specs.Disks.{DiskState}
use Rattle.seize.specs.Answers.{Answer}
use Rattle.node_model.specs.declared.cluster.Cluster.{Cluster}
use Rattle.node_model.specs.declared.input.Input.{Input}
use Rattle.node_model.specs.declared.input.Input.TheVariants.{Boot, Crash, Tick, Packet, CommandDue, Answered, Wrote, Commanded, Reported, Client}
use Rattle.node_model.specs.declared.node.Node.{Node}
use Rattle.node_model.specs.declared.node.Node.TheVariants.{Down, Up}
use Rattle.node_model.specs.declared.node.UpNode.{UpNode}
use Rattle.node_model.specs.declared.output.Output.{Output}
use Rattle.node_model.specs.Steps.{at_second, stepped}
use Rattle.refinement.specs.Courses.{Course, Reply, under}
use Rattle.refinement.specs.Courses.Reply.{Done, Lost_new, Lost_old}
use Rattle.refinement.specs.Cuts as cuts
use Rattle.refinement.specs.Cuts.{boot_doings, course_of, doings, down_doings}
use Rattle.refinement.specs.Doings.{Doing, Site, after_all, given_all, site, write_lines}
use Rattle.refinement.specs.Steps.{IsCut, disk_rules}
use Rattle.refinement.proofs.Disks.{disks_keep_rules}
use Rattle.refinement.proofs.Replies.{steps_are_cut}
use Rattle.run_history.specs.NodeLines.{CommandsAreTold, DevicesAreKnown}
use Rattle.run_history.specs.CommandLines.{AllQuiet, GivesQuiet, NodeTells, TellsDue, UpTells}
use Rattle.run_history.specs.Names.{AttachedOf, AttemptNames, IsListed, NodeNames, SeizingOf, TaskOf, UpNames}
use Rattle.run_history.proofs.Given.{answer_first, answer_names, course_names, course_quiet}
use Rattle.run_history.proofs.Handlers.{distrusting_is, packet_is, progress_is, tick_is}
use Rattle.run_history.proofs.Lists.{both}
use Rattle.run_history.proofs.Ordinary.{IsOrdinary, Knows}
use Rattle.run_history.proofs.Small.{AllSmall, answer_small, course_small}
use Rattle.run_history.proofs.Requests.{client_is, command_is, report_is}

-- What holds of the outputs of a node that was x, and is y as its small steps begin, and of the node after them.
record Ends (D : ℕ → Type 0) (c : Cluster) (me : ℕ) (x : UpNode) (i : Input) (y : Site) (ds : List Doing) : Type 0 where
  tells : UpTells me x i (given_all c me y ds)
  names : NodeNames D (after_all c me y ds).node
  small : AllSmall ds

ordinary : (D : ℕ → Type 0) (c : Cluster) (me : ℕ) (x y : UpNode) (disk : NodeRecord) (replies : List Reply) (i : Input) (k : Course) → Knows c D → UpNames D y → IsOrdinary D k
    → ((os : List Output) → AllQuiet os → UpTells me x i os) → Ends D c me x i (site (Up y) disk) (under replies k)
ordinary D c me x y disk replies i k K n h f =
    record { tells = f _ (course_quiet D c me y disk replies k h); names = course_names D c me y disk replies k K n h; small = course_small D replies k h }

answered_tells : (D : ℕ → Type 0) (c : Cluster) (me : ℕ) (y : UpNode) (disk : NodeRecord) (replies : List Reply) (a : Answer) (o : Option ℕ) (k : Option PrCommand) → Knows c D → UpNames D y
    → TellsDue me a (option_and_then (λ d. option_and_then (λ z. Some (d, z)) k) o) (given_all c me (site (Up y) disk) (under replies (cuts.answered_course c me y a o k)))
answered_tells D c me y disk replies a None k K n = tt
answered_tells D c me y disk replies a (Some device) None K n = tt
answered_tells D c me y disk replies a (Some device) (Some k) K n =
    answer_first D c me y disk replies device k a (cuts.progress_course c me y device k a (progress_after y.tasks a)) (progress_is D c me y device k a (progress_after y.tasks a) K n)

answered_names : (D : ℕ → Type 0) (c : Cluster) (me : ℕ) (y : UpNode) (disk : NodeRecord) (replies : List Reply) (a : Answer) (o : Option ℕ) (k : Option PrCommand) → Knows c D → UpNames D y
    → NodeNames D (after_all c me (site (Up y) disk) (under replies (cuts.answered_course c me y a o k))).node
answered_names D c me y disk replies a None k K n = n
answered_names D c me y disk replies a (Some device) None K n = n
answered_names D c me y disk replies a (Some device) (Some k) K n =
    answer_names D c me y disk replies device k a (cuts.progress_course c me y device k a (progress_after y.tasks a)) K n (progress_is D c me y device k a (progress_after y.tasks a) K n)

answered_small : (D : ℕ → Type 0) (c : Cluster) (me : ℕ) (y : UpNode) (replies : List Reply) (a : Answer) (o : Option ℕ) (k : Option PrCommand) → Knows c D → UpNames D y
    → AllSmall (under replies (cuts.answered_course c me y a o k))
answered_small D c me y replies a None k K n = tt
answered_small D c me y replies a (Some device) None K n = tt
answered_small D c me y replies a (Some device) (Some k) K n =
    answer_small D replies device k a (cuts.progress_course c me y device k a (progress_after y.tasks a)) (progress_is D c me y device k a (progress_after y.tasks a) K n)

write_quiet : (me : ℕ) (x : UpNode) (d value : ℕ) (a : Answer) → AllQuiet (write_lines me x d value a)
write_quiet me x d value (Ok given.Good) = (tt, tt)
write_quiet me x d value (Ok given.Conflict) = (tt, tt)
write_quiet me x d value _ = (tt, tt)

-- after a write: the node stays, or goes down where it is fenced

fenced_quiet : (c : Cluster) (me : ℕ) (y : UpNode) (disk : NodeRecord) (replies : List Reply) (d : ℕ) (a : Answer)
    → AllQuiet (given_all c me (site (Up y) disk) (under replies (cuts.fenced_course d a)))
fenced_quiet c me y disk replies d (Ok given.Good) = tt
fenced_quiet c me y disk replies d (Ok given.Conflict) = (tt, tt)
fenced_quiet c me y disk replies d _ = tt

fenced_names : (D : ℕ → Type 0) (c : Cluster) (me : ℕ) (y : UpNode) (disk : NodeRecord) (replies : List Reply) (d : ℕ) (a : Answer) → UpNames D y
    → NodeNames D (after_all c me (site (Up y) disk) (under replies (cuts.fenced_course d a))).node
fenced_names D c me y disk replies d (Ok given.Good) n = n
fenced_names D c me y disk replies d (Ok given.Conflict) n = tt
fenced_names D c me y disk replies d _ n = n

fenced_small : (replies : List Reply) (d : ℕ) (a : Answer) → AllSmall (under replies (cuts.fenced_course d a))
fenced_small replies d (Ok given.Good) = tt
fenced_small replies d (Ok given.Conflict) = (tt, tt)
fenced_small replies d _ = tt

written : (D : ℕ → Type 0) (c : Cluster) (me : ℕ) (ends : Outcome) (x y : UpNode) (disk : NodeRecord) (replies : List Reply) (d value : ℕ) (a : Answer) → Knows c D → UpNames D y
    → Ends D c me x (Wrote d value a) (site (Up y) disk) (under replies (course_of c me ends y (Wrote d value a)))
written D c me ends x y disk replies d value a K n =
    let rest : List Output = given_all c me (site (Up y) disk) (under replies (cuts.fenced_course d a)) in
    record {
      tells = record {
        others = write_lines me y d value a ++ rest;
        first = refl;
        quiet = both GivesQuiet (write_lines me y d value a) rest (write_quiet me y d value a) (fenced_quiet c me y disk replies d a);
      };
      names = fenced_names D c me y disk replies d a n;
      small = (tt, fenced_small replies d a);
    }

up_ends : (D : ℕ → Type 0) (c : Cluster) (me now : ℕ) (ends : Outcome) (x : UpNode) (disk : NodeRecord) (replies : List Reply) (i : Input) → Knows c D → UpNames D x
    → Ends D c me x i (site (Up (at_second now x)) disk) (under replies (course_of c me ends (at_second now x) i))
up_ends D c me now ends x disk replies Boot K n = record { tells = tt; names = n; small = tt }
up_ends D c me now ends x disk replies Crash K n = record { tells = (tt, tt); names = tt; small = (tt, tt) }
up_ends D c me now ends x disk replies Tick K n =
    ordinary D c me x (at_second now x) disk replies Tick (course_of c me ends (at_second now x) Tick) K n (tick_is D c me ends (at_second now x) K n) (λ os q. q)
up_ends D c me now ends x disk replies (Packet from m) K n =
    ordinary D c me x (at_second now x) disk replies (Packet from m) (course_of c me ends (at_second now x) (Packet from m)) K n
    (packet_is D c me ends (at_second now x) from m K n) (λ os q. q)
up_ends D c me now ends x disk replies CommandDue K n =
    ordinary D c me x (at_second now x) disk replies CommandDue (course_of c me ends (at_second now x) CommandDue) K n
    (distrusting_is D (at_second now x) (begins_plainly x.tasks)) (λ os q. q)
up_ends D c me now ends x disk replies (Answered a) K n = record {
  tells = answered_tells D c me (at_second now x) disk replies a (due_device x.tasks) (next_of x.tasks) K n;
  names = answered_names D c me (at_second now x) disk replies a (due_device x.tasks) (next_of x.tasks) K n;
  small = answered_small D c me (at_second now x) replies a (due_device x.tasks) (next_of x.tasks) K n;
}
up_ends D c me now ends x disk replies (Wrote d value a) K n = written D c me ends x (at_second now x) disk replies d value a K n
up_ends D c me now ends x disk replies (Commanded words) K n =
    ordinary D c me x (at_second now x) disk replies (Commanded words) (course_of c me ends (at_second now x) (Commanded words)) K n
    (command_is D c me (at_second now x) words) (λ os q. q)
up_ends D c me now ends x disk replies (Reported r good) K n =
    ordinary D c me x (at_second now x) disk replies (Reported r good) (course_of c me ends (at_second now x) (Reported r good)) K n
    (report_is D c me (at_second now x) r good) (λ os q. q)
up_ends D c me now ends x disk replies (Client name client port) K n =
    ordinary D c me x (at_second now x) disk replies (Client name client port) (course_of c me ends (at_second now x) (Client name client port)) K n
    (client_is D c (at_second now x) name client port) (λ os q. q)

-- A node that is down.

boot_quiet : (c : Cluster) (me : ℕ) (disk : NodeRecord) (replies : List Reply) → AllQuiet (given_all c me (site Down disk) (boot_doings replies))
boot_quiet c me disk [] = (tt, (tt, tt))
boot_quiet c me disk (Done ∷ replies) = (tt, tt)
boot_quiet c me disk (Lost_new why ∷ replies) = (tt, (tt, tt))
boot_quiet c me disk (Lost_old why ∷ replies) = (tt, (tt, tt))

boot_names : (D : ℕ → Type 0) (c : Cluster) (me : ℕ) (disk : NodeRecord) (replies : List Reply) → NodeNames D (after_all c me (site Down disk) (boot_doings replies)).node
boot_names D c me disk [] = tt
boot_names D c me disk (Done ∷ replies) = (tt, tt)
boot_names D c me disk (Lost_new why ∷ replies) = tt
boot_names D c me disk (Lost_old why ∷ replies) = tt

down_quiet : (c : Cluster) (me : ℕ) (disk : NodeRecord) (replies : List Reply) (i : Input) → AllQuiet (given_all c me (site Down disk) (down_doings replies i))
down_quiet c me disk replies Boot = boot_quiet c me disk replies
down_quiet c me disk replies _ = tt

down_names : (D : ℕ → Type 0) (c : Cluster) (me : ℕ) (disk : NodeRecord) (replies : List Reply) (i : Input) → NodeNames D (after_all c me (site Down disk) (down_doings replies i)).node
down_names D c me disk replies Boot = boot_names D c me disk replies
down_names D c me disk replies _ = tt

-- A step.

step_ends : (D : ℕ → Type 0) (c : Cluster) (me now : ℕ) (ends : Outcome) (node : Node) (disk : DiskState) (i : Input) → Knows c D → NodeNames D node
    → NodeTells me node i (stepped disk_rules c me now ends node disk i).given × NodeNames D (stepped disk_rules c me now ends node disk i).after
step_ends D c me now ends Down disk i K n =
    let cut : IsCut disk_rules c me now ends Down disk i [] (stepped disk_rules c me now ends Down disk i) = steps_are_cut disk_rules disks_keep_rules c me now ends Down disk i in
    (subst AllQuiet cut.comes.given (down_quiet c me disk.kept cut.replies i), subst (λ (s : Site). NodeNames D s.node) cut.comes.left (down_names D c me disk.kept cut.replies i))
step_ends D c me now ends (Up x) disk i K n =
    let cut : IsCut disk_rules c me now ends (Up x) disk i [] (stepped disk_rules c me now ends (Up x) disk i) = steps_are_cut disk_rules disks_keep_rules c me now ends (Up x) disk i in
    let e : Ends D c me x i (site (Up (at_second now x)) disk.kept) (under cut.replies (course_of c me ends (at_second now x) i)) = up_ends D c me now ends x disk.kept cut.replies i K n in
    (subst (λ os. UpTells me x i os) cut.comes.given e.tells, subst (λ (s : Site). NodeNames D s.node) cut.comes.left e.names)

-- The laws.

abbrev pub Any : ℕ → Type 0
Any d = Unit {0}

any_tasks : (ts : List Task) → AllByRecursion (TaskOf Any) ts
any_tasks [] = tt
any_tasks (t ∷ ts) = (tt, any_tasks ts)

any_attached : (attached : List AttachedDevice) → AllByRecursion (AttachedOf Any) attached
any_attached [] = tt
any_attached (a ∷ attached) = (tt, any_attached attached)

any_seizings : (es : List Seizing) → AllByRecursion (SeizingOf Any) es
any_seizings [] = tt
any_seizings (e ∷ es) = (tt, any_seizings es)

any_attempt : (o : Option AttemptState) → IfSome o (AttemptNames Any)
any_attempt None = tt
any_attempt (Some a) = (any_attached a.plan.attached, any_seizings a.devices)

pub any_node : (node : Node) → NodeNames Any node
any_node Down = tt
any_node (Up x) = (any_tasks x.tasks, any_attempt x.attempt)

pub any_known : (c : Cluster) → Knows c Any
any_known c = record { listed = λ d h. tt; attached = any_attached c.attached }

pub commands_are_told : CommandsAreTold
commands_are_told c n now ends node disk i =
    (step_ends Any c n now ends node disk i (any_known c) (any_node node)).0

-- each small step of each step
boot_small : (replies : List Reply) → AllSmall (boot_doings replies)
boot_small [] = (tt, (tt, tt))
boot_small (Done ∷ replies) = (tt, tt)
boot_small (Lost_new why ∷ replies) = (tt, (tt, tt))
boot_small (Lost_old why ∷ replies) = (tt, (tt, tt))

down_small : (replies : List Reply) (i : Input) → AllSmall (down_doings replies i)
down_small replies Boot = boot_small replies
down_small replies _ = tt

pub doings_small : (c : Cluster) (me now : ℕ) (ends : Outcome) (replies : List Reply) (i : Input) (node : Node) (disk : NodeRecord) → AllSmall (doings c me now ends replies i node)
doings_small c me now ends replies i Down disk = down_small replies i
doings_small c me now ends replies i (Up x) disk = (tt, (up_ends Any c me now ends x disk replies i (any_known c) (any_node (Up x))).small)

pub devices_are_known : DevicesAreKnown
devices_are_known c n now ends node disk i listed h = (step_ends (IsListed c) c n now ends node disk i (record { listed = λ d is. is; attached = listed }) h).1
