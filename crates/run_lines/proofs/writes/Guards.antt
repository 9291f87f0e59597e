-- What each small step of a node may do with an answer: one is taken only as the answer to the command that is due.
use Rattle.std.specs.Prelude.{ℕ, ◌-◌, ◌≡◌, ◌<◌, ◌≤◌, ◌^◌, not, Bool, true, false, List, [], ◌∷◌, Option, None, Some, Ok, Err, find, is_some, length, slice_get, if◌then◌else◌}
use Rattle.std.specs.List.{AllByRecursion}
use Rattle.std.specs.Option.{option_and_then, option_map}
use Rattle.std.proofs.Common.{refl, sym, ap, subst, ◌∙◌, arith}
use Rattle.cl_base.specs.Sets.{has}
use Rattle.cl_base.specs.declared.header.Header.{Header}
use Rattle.cl_base.specs.declared.method.Outcome as method
use Rattle.cluster_machine.proofs.Whole.{InOrder}
use Rattle.cluster_machine.specs.Agreement.{SameNode}
use Rattle.cluster_machine.specs.Cluster.{Cluster as Whole}
use Rattle.cluster_ties.specs.Ties.{DevicesTied, SeizingAt, TaskAt, WorkAt}
use Rattle.cmm_attempt.proofs.Basics.{false_true, none_some, same_some}
use Rattle.cmm_member.specs.Records.{NodeRecord}
use Rattle.device_machine.specs.Sharing.{Sharing}
use Rattle.device_queue.specs.Queue.{due_device, next_of, progress_after}
use Rattle.device_queue.specs.Tasks.{command_in, is_joining, is_queued}
use Rattle.device_queue.specs.declared.progress.Progress.{Progress}
use Rattle.device_queue.specs.declared.progress.Progress.TheVariants.{GoesOn, Joined, Seized}
use Rattle.device_queue.specs.declared.task.Task.{Task}
use Rattle.device_queue.specs.declared.task.Work.{Work}
use Rattle.device_queue.specs.declared.task.Work.TheVariants.{Joining, Seizing}
use Rattle.device_ties.proofs.Readings.{reads}
use Rattle.device_ties.specs.Devices.{DeviceTied}
use Rattle.pgr_device.specs.Device.{Device}
use Rattle.pgr_device.specs.Spc.{answers, carried_out, conflict, may_read, step}
use Rattle.pgr_device.specs.declared.command.PrAnswer.TheVariants as given
use Rattle.pgr_device.specs.declared.command.PrCommand.{PrCommand}
use Rattle.pgr_device.specs.declared.command.PrCommand.TheVariants as command
use Rattle.seize.specs.Answers.{Answer}
use Rattle.seize.specs.Seizing as seizing
use Rattle.seize.specs.declared.kind.JoinResult.TheVariants as join
use Rattle.seize.specs.declared.step.SeizeStep.{SeizeStep}
use Rattle.seize.specs.declared.step.SeizeStep.TheVariants as seize
use Rattle.history.specs.DeviceRun.{state_of as state_at}
use Rattle.node_model.specs.Clusters.{has_path}
use Rattle.node_model.specs.Devices.{joining_so}
use Rattle.node_model.specs.Seats.{coordinator_of, installed_of, record_of, session_of, state_of}
use Rattle.node_model.specs.Steps.{at_second}
use Rattle.node_model.specs.declared.cluster.Cluster.{Cluster}
use Rattle.node_model.specs.declared.input.Input.{Input}
use Rattle.node_model.specs.declared.input.Input.TheVariants as input
use Rattle.node_model.specs.declared.node.Node.{Node}
use Rattle.node_model.specs.declared.node.Node.TheVariants.{Down, Up}
use Rattle.node_model.specs.declared.node.UpNode.{UpNode}
use Rattle.refinement.specs.node_widths.Widths.{NodeFits, TaskFits}
use Rattle.refinement.proofs.Changes.{Sees}
use Rattle.refinement.proofs.Handlers.{delivered_by}
use Rattle.refinement.specs.Courses.{Course, Reply, under}
use Rattle.refinement.specs.Courses.Reply.{Done, Lost_new, Lost_old}
use Rattle.refinement.specs.Cuts.{answered_course, doings, joined_course, progress_course, seized_course}
use Rattle.refinement.specs.Doings.{Act, Change, Doing, Site, answered_so, effect, site}
use Rattle.refinement.specs.Doings.Act.{Makes, Takes}
use Rattle.refinement.specs.Doings.Change.{Admits, Sits, Starts}
use Rattle.refinement.specs.Doings.Doing.{Comes_up, Does, Forgets, Goes_down, Loses, Saves}
use Rattle.refinement.specs.Ties.{Delivered, setting_of}
use Rattle.world_model.specs.Devices.{executed}
use Rattle.world_model.specs.First.{first_cluster}
use Rattle.wire.specs.Spelling.{IsDevice}
use Rattle.run_history.proofs.AtSteps.{IsNoAnswer, joined_course_to, seized_here_to, task_device}
use Rattle.run_history.proofs.Kept.{path_named}
use Rattle.run_history.proofs.Known.{first_listed, listed_is}
use Rattle.run_history.proofs.WholeDevices.{device_there}
use Rattle.run_history.proofs.WholeScenes.{node_at}
use Rattle.run_history.proofs.WholeSteps.{at_under}
use Rattle.run_history.specs.Guards.{AtAct, AtAll, AtChange, AtDoing, Hand, MadeAt, hand_after}
use Rattle.run_history.specs.Happenings.{commanded, commanded_at}
use Rattle.run_history.specs.Names.{IsListed}
use Rattle.run_history.specs.Scenes.{Scene, fault_in}
use Rattle.run_history.specs.Wholes.{device_at}
use Rattle.run_history.specs.WorldLines.{IsAtDevices, IsDevice as IsDeviceOf}
use Rattle.run_lines.specs.writes.Sites.{ActTakes, AllTake, ChangeTakes, DoingTakes, IsFine, NotJoined, TakeSo}
use Rattle.run_lines.proofs.writes.Paths.{path_so, paths_stay}

-- ---- where no answer comes

made_takes : (c : Cluster) (n : ℕ) (y : UpNode) (ch : Change) → MadeAt ch → ChangeTakes c n y ch
made_takes c n y (Starts a k s) made = tt
made_takes c n y (Sits s e) made = tt
made_takes c n y _ made = absurd made

act_takes : (c : Cluster) (n : ℕ) (told : Delivered) (h : Hand) (y : UpNode) (a : Act) → AtAct n told h y a → ActTakes c n y a
act_takes c n told h y (Takes at k a) is = absurd is
act_takes c n told h y (Makes ch) is = made_takes c n y ch is
act_takes c n told h y _ is = tt

change_takes : (c : Cluster) (n : ℕ) (y : UpNode) (ch : Change) → AtChange y ch → ChangeTakes c n y ch
change_takes c n y (Admits at k a d) is = absurd is
change_takes c n y _ is = tt

doing_takes : (c : Cluster) (n : ℕ) (told : Delivered) (h : Hand) (node : Node) (disk : NodeRecord) (d : Doing) → AtDoing n told h (site node disk) d → DoingTakes c n (site node disk) d
doing_takes c n told h Down disk (Does a) is = absurd is
doing_takes c n told h (Up y) disk (Does a) is = act_takes c n told h y a is
doing_takes c n told h Down disk (Saves ch) is = absurd is
doing_takes c n told h (Up y) disk (Saves ch) is = change_takes c n y ch is
doing_takes c n told h node disk (Loses ch why) is = tt
doing_takes c n told h node disk (Forgets ch why) is = tt
doing_takes c n told h node disk Comes_up is = tt
doing_takes c n told h node disk (Goes_down why) is = tt

at_takes : (c : Cluster) (n : ℕ) (told : Delivered) (h : Hand) (x : Site) (ds : List Doing) → AtAll c n told h x ds → AllTake c n x ds
at_takes c n told h x [] is = tt
at_takes c n told h x (d ∷ ds) is = (doing_takes c n told h x.node x.disk d is.0, at_takes c n told (hand_after h d) (effect c n x d) ds is.1)

pub plain_takes : (c : Cluster) (n now : ℕ) (ends : method.Outcome) (node : Node) (disk : NodeRecord) (replies : List Reply) (i : Input) → IsNoAnswer i → now < 2 ^ 64 → NodeFits c n node
    → AllTake c n (site node disk) (doings c n now ends replies i node)
plain_takes c n now ends node disk replies i is time fit =
    at_takes c n (delivered_by i) None (site node disk) (doings c n now ends replies i node) (node_at c n now ends node disk replies i is time fit)

-- ---- the answer to the command that is due

-- a course without answers
rest_takes : (c : Cluster) (n : ℕ) (y : UpNode) (disk : NodeRecord) (replies : List Reply) (k : Course) → AtAll c n None None (site (Up y) disk) (under replies k) → AllTake c n (site (Up y) disk) (under replies k)
rest_takes c n y disk replies k is = at_takes c n None None (site (Up y) disk) (under replies k) is

answered_takes : (c : Cluster) (n d : ℕ) (k : PrCommand) (a : Answer) (x : UpNode) (disk : NodeRecord) (replies : List Reply) → TakeSo c n x d k a → (p : Progress) → progress_after x.tasks a ≡ p
    → AllTake c n (site (Up x) disk) (under replies (progress_course c n x d k a p))
answered_takes c n d k a x disk replies take GoesOn is = ((take, subst NotJoined (sym is) tt), tt)
answered_takes c n d k a x disk replies take (Seized e r) is =
    let y : UpNode = answered_so x a in
    let rest : Course = seized_course c n y e r (coordinator_of y) in (
      (take, subst NotJoined (sym is) tt),
      rest_takes c n y disk replies rest (at_under c n None None y disk replies rest (seized_here_to c n None x a e r is)),
    )
answered_takes c n d k a x disk replies take (Joined e (join.Late w)) is =
    let y : UpNode = answered_so x a in
    let rest : Course = joined_course c n y (coordinator_of y) in (
      (take, subst NotJoined (sym is) tt),
      rest_takes c n y disk replies rest (at_under c n None None y disk replies rest (joined_course_to c n None y (coordinator_of y))),
    )
answered_takes c n d k a x disk replies take (Joined e join.Fault) is =
    let y : UpNode = answered_so x a in
    let rest : Course = joined_course c n y (coordinator_of y) in (
      (take, subst NotJoined (sym is) tt),
      rest_takes c n y disk replies rest (at_under c n None None y disk replies rest (joined_course_to c n None y (coordinator_of y))),
    )
answered_takes c n d k a x disk [] take (Joined e join.Joined) is = (tt, tt)
answered_takes c n d k a x disk (Lost_new why ∷ replies) take (Joined e join.Joined) is = (tt, tt)
answered_takes c n d k a x disk (Lost_old why ∷ replies) take (Joined e join.Joined) is = (tt, tt)
answered_takes c n d k a x disk (Done ∷ replies) take (Joined e join.Joined) is =
    let y : UpNode = joining_so (answered_so x a) e in
    let rest : Course = joined_course c n y (coordinator_of y) in (
      (take, is),
      rest_takes c n y (record_of y) replies rest (at_under c n None None y (record_of y) replies rest (joined_course_to c n None y (coordinator_of y))),
    )

-- where a command is due, its answer is the one that comes
abbrev pub DueSo : Cluster → ℕ → Answer → Node → Type 0
DueSo c n a Down = Unit {0}
DueSo c n a (Up x) = (d : ℕ) (k : PrCommand) → due_device x.tasks ≡ Some d → next_of x.tasks ≡ Some k → TakeSo c n x d k a

-- at another second of the clock
take_later : (c : Cluster) (n now : ℕ) (x : UpNode) (d : ℕ) (k : PrCommand) (a : Answer) → TakeSo c n x d k a → TakeSo c n (at_second now x) d k a
take_later c n now x d k a t = record { task = t.task; first = t.first; device = t.device; due = t.due; place = t.place; joins = t.joins; fine = t.fine }

pub answer_takes : (c : Cluster) (n now : ℕ) (ends : method.Outcome) (node : Node) (disk : NodeRecord) (replies : List Reply) (a : Answer) → DueSo c n a node
    → AllTake c n (site node disk) (doings c n now ends replies (input.Answered a) node)
answer_takes c n now ends Down disk replies a due = tt
answer_takes c n now ends (Up x) disk replies a due = (tt, by_due (due_device y.tasks) (next_of y.tasks) refl refl)
  where
    y : UpNode
    y = at_second now x

    by_due : (o : Option ℕ) (q : Option PrCommand) → due_device y.tasks ≡ o → next_of y.tasks ≡ q → AllTake c n (site (Up y) disk) (under replies (answered_course c n y a o q))
    by_due None q device next = tt
    by_due (Some d) None device next = tt
    by_due (Some d) (Some k) device next = answered_takes c n d k a y disk replies (take_later c n now x d k a (due d k device next)) (progress_after y.tasks a) refl

-- ---- the task of the command

passes : (P : Task → Type 0) (f : Task → Bool) (ts : List Task) (t : Task) → AllByRecursion P ts → find f ts ≡ Some t → (f t ≡ true) × P t
passes P f [] t all is = absurd (none_some t is)
passes P f (u ∷ us) t all is = by_test (f u) refl is (λ e. passes P f us t all.1 e)
  where
    by_test : (b : Bool) → f u ≡ b → (if b then Some u else find f us) ≡ Some t → (find f us ≡ Some t → (f t ≡ true) × P t) → (f t ≡ true) × P t
    by_test true own some more = (subst (λ z. f z ≡ true) (same_some u t some) own, subst P (same_some u t some) all.0)
    by_test false own some more = more some

-- a seizing that is queued is of a session that is not installed
step_before : (cluster n : ℕ) (s : Sharing) (u : seizing.SeizeState) (q : SeizeStep) → SeizingAt cluster n s u q → not (is_some (seizing.result_at q)) ≡ true → (s.node n).installed < (s.node n).session
step_before cluster n s u (seize.Ended r) at queued = absurd (false_true queued)
step_before cluster n s u _ at queued = at.1

less_no : (a b : ℕ) → a < b → a ≡ b → ⊥
less_no a b l e = omega (arith, l, e)

is_join : (c : Cluster) (W : Whole) (n : ℕ) (x : UpNode) (disk : NodeRecord) (t : Task) (w : Work) → t.work ≡ w → InOrder (setting_of c) W → Sees W.memberships n disk (state_of x.seat) → WorkAt c.id n (W.device t.device) w
    → is_queued (record { device = t.device; work = w }) ≡ true → installed_of x ≡ session_of x → is_joining w ≡ true
is_join c W n x disk t (Joining j) at order sees work queued is = refl
is_join c W n x disk t (Seizing u) at order sees work queued is =
    let s : Sharing = W.device t.device in
    let same : SameNode (W.memberships.node n) (s.node n) = (order.agrees t.device).node n in
    let below : (s.node n).installed < (s.node n).session = step_before c.id n s u u.step work queued in
    absurd (less_no (installed_of x) (session_of x)
    (subst (λ z. z < session_of x) (same.installed ∙ ap (λ r. r.installed) sees.saved) (subst (λ z. (s.node n).installed < z) (same.session ∙ sees.session) below)) is)

first_task : (c : Cluster) (W : Whole) (n : ℕ) (x : UpNode) (disk : NodeRecord) (d : ℕ) (k : PrCommand) (a : Answer) → InOrder (setting_of c) W → Sees W.memberships n disk (state_of x.seat)
    → AllByRecursion (TaskAt c W n) x.tasks → AllByRecursion (TaskFits c n) x.tasks → (has_path c.attached n d ≡ true → IsFine k a) → (o : Option Task) → find is_queued x.tasks ≡ o
    → option_map (λ (t : Task). t.device) o ≡ Some d → option_and_then (λ (t : Task). command_in t.work) o ≡ Some k → TakeSo c n x d k a
first_task c W n x disk d k a order sees at fits fine None first device next = absurd (none_some d device)
first_task c W n x disk d k a order sees at fits fine (Some t) first device next =
    let own : (is_queued t ≡ true) × TaskAt c W n t = passes (TaskAt c W n) is_queued x.tasks t at first in
    record {
      task = t;
      first = first;
      device = same_some t.device d device;
      due = next;
      place = subst IsDevice (same_some t.device d device) (task_device c n is_queued x.tasks t fits first);
      joins = λ some is. is_join c W n x disk t t.work refl order sees own.1 own.0 is;
      fine = fine;
    }

pub due_so : (c : Cluster) (W : Whole) (n : ℕ) (x : UpNode) (disk : NodeRecord) (a : Answer) → InOrder (setting_of c) W → Sees W.memberships n disk (state_of x.seat) → AllByRecursion (TaskAt c W n) x.tasks
    → AllByRecursion (TaskFits c n) x.tasks
    → ((d : ℕ) (k : PrCommand) → due_device x.tasks ≡ Some d → next_of x.tasks ≡ Some k → has_path c.attached n d ≡ true → IsFine k a) → DueSo c n a (Up x)
due_so c W n x disk a order sees at fits fine d k device next = first_task c W n x disk d k a order sees at fits (fine d k device next) (find is_queued x.tasks) refl device next

-- ---- what the device answers

lost_fine : (k : PrCommand) → IsFine k (Err (record {}))
lost_fine (command.Ignore key) = tt
lost_fine command.Word = tt
lost_fine _ = tt

step_fine : (x : Device) (n : ℕ) (k : PrCommand) → has x.paths n ≡ true → may_read x.registrations n x.reservation ≡ true → IsFine k (Ok (step x n k).answer)
step_fine x n (command.Ignore key) path may = subst (λ b. IsFine (command.Ignore key) (Ok (if b then carried_out x n (command.Ignore key) else answers x given.NoPath).answer)) (sym path) tt
step_fine x n command.Word path may =
    subst (λ b. IsFine command.Word (Ok (if b then carried_out x n command.Word else answers x given.NoPath).answer)) (sym path)
    (subst (λ b. IsFine command.Word (Ok (if b then answers x (given.Word x.word) else conflict x).answer)) (sym may) tt)
step_fine x n _ path may = tt

executed_fine : (x : Device) (n : ℕ) (k : PrCommand) (f : Option Bool) → has x.paths n ≡ true → may_read x.registrations n x.reservation ≡ true → IsFine k (executed x n k f).answer
executed_fine x n k None path may = step_fine x n k path may
executed_fine x n k (Some true) path may = lost_fine k
executed_fine x n k (Some false) path may = lost_fine k

pub device_fine : (h : Header) (W : Whole) (s : Scene) (n d : ℕ) (k : PrCommand) → length h.devices ≤ 16 → IsAtDevices h s → DevicesTied (first_cluster h) (device_at s.devices) W
    → has_path (first_cluster h).attached n d ≡ true → IsFine k (commanded s n d k).answer
device_fine h W s n d k few at tied path =
    let c : Cluster = first_cluster h in
    let is : IsDeviceOf h d = listed_is h d few (path_named (IsListed c) c.attached n d (first_listed h few) path) in
    let x : Device = state_at h d s.moments in
    let there : slice_get s.devices (d - 1) ≡ Some x = at.states d is in
    let t : DeviceTied c.id x (W.device d).device = subst (λ z. DeviceTied c.id z (W.device d).device) (device_there s.devices d x is.0 there) (tied d) in
    let way : has x.paths n ≡ true = ap (λ p. has p n) (paths_stay h d s.moments) ∙ (sym (path_so h n d is.0) ∙ path) in
    subst (λ o. IsFine k (commanded_at s n d o k).answer) (sym there)
    (executed_fine x n k (fault_in s n d) way (reads x.registrations n x.reservation (W.device d).device.reserved (W.device d).device.holder t.held))
