-- A step of a node ends no seizing without votes but one that it had before.
use Rattle.std.specs.Prelude.{ℕ, ◌≡◌, ◌<◌, ◌^◌, List, [], ◌∷◌, Option, None, Some}
use Rattle.std.proofs.Common.{refl, sym, subst}
use Rattle.cl_base.specs.Sets.{has}
use Rattle.cl_base.specs.declared.method.Outcome as method
use Rattle.cmm_attempt.proofs.Basics.{if_either}
use Rattle.cmm_attempt.specs.Attempts.{AttemptState}
use Rattle.cmm_member.specs.Nodes.{installed_with}
use Rattle.cmm_member.specs.Records.{NodeRecord}
use Rattle.device_queue.specs.Queue.{after_answer, after_seize, due_device, next_of, progress_after}
use Rattle.device_queue.specs.declared.progress.Progress.{Progress}
use Rattle.device_queue.specs.declared.progress.Progress.TheVariants.{GoesOn, Joined, Seized}
use Rattle.device_queue.specs.declared.task.Task.{Task}
use Rattle.node_model.specs.Devices.{joining_so}
use Rattle.node_model.specs.Members.{rested_by}
use Rattle.node_model.specs.Seats.{coordinator_of, promising, record_of}
use Rattle.node_model.specs.Steps.{Outcome, at_second, stepped}
use Rattle.node_model.specs.declared.cluster.Cluster.{Cluster}
use Rattle.node_model.specs.declared.input.Input.{Input}
use Rattle.node_model.specs.declared.input.Input.TheVariants as input
use Rattle.node_model.specs.declared.node.Node.{Node}
use Rattle.node_model.specs.declared.node.Node.TheVariants.{Down, Up}
use Rattle.node_model.specs.declared.node.UpNode.{UpNode}
use Rattle.pgr_device.specs.declared.command.PrCommand.{PrCommand}
use Rattle.record_disk.specs.Disks.{DiskState}
use Rattle.refinement.proofs.Disks.{disks_keep_rules}
use Rattle.refinement.proofs.Handlers.{delivered_by}
use Rattle.refinement.proofs.Replies.{steps_are_cut}
use Rattle.refinement.specs.Courses.{Course, Reply, under}
use Rattle.refinement.specs.Courses.Reply.{Done, Lost_new, Lost_old}
use Rattle.refinement.specs.Cuts.{answered_course, doings, joined_course, progress_course, seized_course}
use Rattle.refinement.specs.Doings.{Act, Change, Doing, Site, acted, after_all, answered_so, changed, effect, site}
use Rattle.refinement.specs.Doings.Act.{Accepts, Dates, Ends, Gives, Goes_on, Hears, Makes, Minds, Notes, Queues, Spreads, Stores, Takes, Ticks, Waits, Works, Writes}
use Rattle.refinement.specs.Doings.Change.{Acks, Admits, Commits, Counts, Distrusts, Installs, Leads, Prepares, Promises, Proposes, Sits, Starts}
use Rattle.refinement.specs.Doings.Doing.{Comes_up, Does, Forgets, Goes_down, Loses, Saves}
use Rattle.refinement.specs.Runs.{Nodes, moved}
use Rattle.refinement.specs.Runs.Move.{Takes as Takes_in}
use Rattle.refinement.specs.Steps.{IsCut, disk_rules}
use Rattle.refinement.specs.Ties.{Delivered}
use Rattle.refinement.specs.node_widths.Widths.{NodeFits}
use Rattle.run_history.proofs.AtSteps.{IsNoAnswer, joined_course_to, seized_here_to}
use Rattle.run_history.proofs.Idle.{passing_nodes}
use Rattle.run_history.proofs.Steps.{put_all}
use Rattle.run_history.proofs.WholeScenes.{node_at}
use Rattle.run_history.proofs.WholeSteps.{at_under}
use Rattle.run_history.specs.Guards.{AtAct, AtAll, AtChange, AtDoing, Hand, hand_after}
use Rattle.run_history.specs.Happenings.{taking}
use Rattle.run_history.specs.Scenes.{Scene}
use Rattle.run_history.specs.Stages.{site_of}
use Rattle.seize.specs.Answers.{Answer}
use Rattle.seize.specs.Seizing as seizing
use Rattle.seize.specs.declared.kind.JoinResult.TheVariants as join
use Rattle.run_outcomes.proofs.others.Tasks.{EndsThere, KeepsEnded, answer_there, ended_plain, from_keeps, nothing_ends, seize_keeps}

-- a node that is down has none
abbrev pub tasks_in : Node → List Task
tasks_in Down = []
tasks_in (Up x) = x.tasks

-- ---- each change

none_rested : (x : UpNode) (p : ℕ) (xs : List Task) (o : Option AttemptState) → KeepsEnded xs (rested_by (promising x p) o).tasks
none_rested x p xs None = nothing_ends xs
none_rested x p xs (Some a) = nothing_ends xs

change_keeps : (c : Cluster) (n : ℕ) (x : UpNode) (change : Change) → AtChange x change → KeepsEnded x.tasks (changed c n x change).tasks
change_keeps c n x (Promises p) at = none_rested x p x.tasks x.attempt
change_keeps c n x (Leads p members) at = nothing_ends x.tasks
change_keeps c n x (Counts a q r i) at = λ d e h. nothing_ends x.tasks d e (from_keeps c n i.epoch (installed_with r i).joined [] i.readings d e h)
change_keeps c n x (Installs r i) at = from_keeps c n i.epoch (installed_with r i).joined x.tasks i.readings
change_keeps c n x (Starts a q r) at = λ d e h. h
change_keeps c n x (Sits r f) at = λ d e h. h
change_keeps c n x (Distrusts k) at = λ d e h. h
change_keeps c n x (Admits on command a k) at = absurd at
change_keeps c n x (Proposes r p text) at = λ d e h. h
change_keeps c n x (Acks r p q left text) at = λ d e h. h
change_keeps c n x (Prepares r text) at = λ d e h. h
change_keeps c n x (Commits r) at = λ d e h. h

made_keeps : (c : Cluster) (n : ℕ) (told : Delivered) (g : Hand) (x : UpNode) (change : Change) → AtAct n told g x (Makes change) → KeepsEnded x.tasks (changed c n x change).tasks
made_keeps c n told g x (Starts a q r) at = λ d e h. h
made_keeps c n told g x (Sits r f) at = λ d e h. h
made_keeps c n told g x _ at = absurd at

-- ---- each act, but an answer that is taken

act_keeps : (c : Cluster) (n : ℕ) (told : Delivered) (g : Hand) (x : UpNode) (a : Act) → AtAct n told g x a → KeepsEnded x.tasks (acted c n x a).tasks
act_keeps c n told g x (Queues a k kind) at =
    if_either (λ (y : UpNode). KeepsEnded x.tasks y.tasks) (has a.plan.members n) (record x { tasks = after_seize x.tasks k (seizing.begun kind a.plan.epoch a.plan.members n c.id (has (record_of x).valid k)) }) x
    (seize_keeps x.tasks k kind a.plan.epoch a.plan.members n c.id (has (record_of x).valid k)) (λ d e h. h)
act_keeps c n told g x (Accepts kind f members k) at = seize_keeps x.tasks k kind f members n c.id (has (record_of x).valid k)
act_keeps c n told g x (Takes on command a) at = absurd at
act_keeps c n told g x (Makes change) at = made_keeps c n told g x change at
act_keeps c n told g x (Hears from b) at = λ d e h. h
act_keeps c n told g x Ticks at = λ d e h. h
act_keeps c n told g x Waits at = λ d e h. h
act_keeps c n told g x (Goes_on a q) at = λ d e h. h
act_keeps c n told g x (Ends a why) at = λ d e h. h
act_keeps c n told g x (Stores k value a) at = λ d e h. h
act_keeps c n told g x (Writes to b) at = λ d e h. h
act_keeps c n told g x (Gives os) at = λ d e h. h
act_keeps c n told g x (Spreads receivers b) at = λ d e h. h
act_keeps c n told g x (Minds q p) at = λ d e h. h
act_keeps c n told g x (Notes from place p) at = λ d e h. h
act_keeps c n told g x (Dates now) at = λ d e h. h
act_keeps c n told g x (Works w) at = λ d e h. h

-- ---- small steps

doing_keeps : (c : Cluster) (n : ℕ) (told : Delivered) (g : Hand) (node : Node) (disk : NodeRecord) (d : Doing) → AtDoing n told g (site node disk) d → KeepsEnded (tasks_in node) (tasks_in (effect c n (site node disk) d).node)
doing_keeps c n told g (Up x) disk (Does a) at = act_keeps c n told g x a at
doing_keeps c n told g (Up x) disk (Saves change) at = change_keeps c n x change at
doing_keeps c n told g (Up x) disk Comes_up at = λ d e h. h
doing_keeps c n told g Down disk (Does a) at = nothing_ends []
doing_keeps c n told g Down disk (Saves change) at = nothing_ends []
doing_keeps c n told g Down disk Comes_up at = nothing_ends []
doing_keeps c n told g node disk (Goes_down why) at = nothing_ends (tasks_in node)
doing_keeps c n told g node disk (Loses change why) at = nothing_ends (tasks_in node)
doing_keeps c n told g node disk (Forgets change why) at = nothing_ends (tasks_in node)

all_keep : (c : Cluster) (n : ℕ) (told : Delivered) (g : Hand) (x : Site) (ds : List Doing) → AtAll c n told g x ds → KeepsEnded (tasks_in x.node) (tasks_in (after_all c n x ds).node)
all_keep c n told g x [] at = λ d e h. h
all_keep c n told g x (d ∷ ds) at = λ k e h.
    doing_keeps c n told g x.node x.disk d at.0 k e (all_keep c n told (hand_after g d) (effect c n x d) ds at.1 k e h)

-- ---- a step

abbrev Turns : Cluster → ℕ → Site → List Doing → Type 0
Turns c n x ds = EndsThere (tasks_in x.node) (tasks_in (after_all c n x ds).node)

keeps_turn : (xs ys : List Task) → KeepsEnded xs ys → EndsThere xs ys
keeps_turn xs ys k d e h = ended_plain d e xs (k d e h)

plain_turns : (c : Cluster) (n now : ℕ) (ends : method.Outcome) (node : Node) (disk : NodeRecord) (i : Input) → IsNoAnswer i → now < 2 ^ 64 → NodeFits c n node → (replies : List Reply)
    → Turns c n (site node disk) (doings c n now ends replies i node)
plain_turns c n now ends node disk i is time fit replies =
    keeps_turn (tasks_in node) (tasks_in (after_all c n (site node disk) (doings c n now ends replies i node)).node)
    (all_keep c n (delivered_by i) None (site node disk) (doings c n now ends replies i node) (node_at c n now ends node disk replies i is time fit))

-- behind an answer
behind : (c : Cluster) (n : ℕ) (x y : UpNode) (a : Answer) (disk : NodeRecord) (ds : List Doing) → y.tasks ≡ after_answer x.tasks a → AtAll c n None None (site (Up y) disk) ds
    → EndsThere x.tasks (tasks_in (after_all c n (site (Up y) disk) ds).node)
behind c n x y a disk ds same at d e h =
    subst (λ ts. EndsThere x.tasks ts) (sym same) (answer_there a x.tasks) d e (all_keep c n None None (site (Up y) disk) ds at d e h)

nothing_there : (xs : List Task) → EndsThere xs []
nothing_there xs = keeps_turn xs [] (nothing_ends xs)

answered_at : (c : Cluster) (n k : ℕ) (q : PrCommand) (a : Answer) (x : UpNode) (disk : NodeRecord) (replies : List Reply) (p : Progress) → progress_after x.tasks a ≡ p
    → Turns c n (site (Up x) disk) (under replies (progress_course c n x k q a p))
answered_at c n k q a x disk replies GoesOn is = answer_there a x.tasks
answered_at c n k q a x disk replies (Seized e r) is =
    let y : UpNode = answered_so x a in
    let rest : Course = seized_course c n y e r (coordinator_of y) in
    behind c n x y a disk (under replies rest) refl (at_under c n None None y disk replies rest (seized_here_to c n None x a e r is))
answered_at c n k q a x disk replies (Joined e (join.Late w)) is =
    let y : UpNode = answered_so x a in
    let rest : Course = joined_course c n y (coordinator_of y) in
    behind c n x y a disk (under replies rest) refl (at_under c n None None y disk replies rest (joined_course_to c n None y (coordinator_of y)))
answered_at c n k q a x disk replies (Joined e join.Fault) is =
    let y : UpNode = answered_so x a in
    let rest : Course = joined_course c n y (coordinator_of y) in
    behind c n x y a disk (under replies rest) refl (at_under c n None None y disk replies rest (joined_course_to c n None y (coordinator_of y)))
answered_at c n k q a x disk [] (Joined e join.Joined) is = nothing_there x.tasks
answered_at c n k q a x disk (Lost_new why ∷ replies) (Joined e join.Joined) is = nothing_there x.tasks
answered_at c n k q a x disk (Lost_old why ∷ replies) (Joined e join.Joined) is = nothing_there x.tasks
answered_at c n k q a x disk (Done ∷ replies) (Joined e join.Joined) is =
    let y : UpNode = joining_so (answered_so x a) e in
    let rest : Course = joined_course c n y (coordinator_of y) in
    behind c n x y a (record_of y) (under replies rest) refl (at_under c n None None y (record_of y) replies rest (joined_course_to c n None y (coordinator_of y)))

answer_turns : (c : Cluster) (n now : ℕ) (ends : method.Outcome) (node : Node) (disk : NodeRecord) (a : Answer) (replies : List Reply) → Turns c n (site node disk) (doings c n now ends replies (input.Answered a) node)
answer_turns c n now ends Down disk a replies = nothing_there []
answer_turns c n now ends (Up x) disk a replies = by_due (due_device y.tasks) (next_of y.tasks)
  where
    y : UpNode
    y = at_second now x

    by_due : (o : Option ℕ) (q : Option PrCommand) → Turns c n (site (Up y) disk) (under replies (answered_course c n y a o q))
    by_due None q = λ d e h. ended_plain d e y.tasks h
    by_due (Some k) None = λ d e h. ended_plain d e y.tasks h
    by_due (Some k) (Some q) = answered_at c n k q a y disk replies (progress_after y.tasks a) refl

-- ---- of all nodes

-- what a step leaves of each node
pub taking_turns : (c : Cluster) (n now : ℕ) (ends : method.Outcome) (i : Input) (s : Scene) → ((replies : List Reply) → Turns c n (site_of s.nodes n) (doings c n now ends replies i (s.nodes.node n)))
    → (k : ℕ) → EndsThere (tasks_in (s.nodes.node k)) (tasks_in ((taking c n now ends i s).nodes.node k))
taking_turns c n now ends i s turns =
    let v : Nodes = s.nodes in
    let o : Outcome DiskState = stepped disk_rules c n now ends (v.node n) (v.disk n) i in
    let cut : IsCut disk_rules c n now ends (v.node n) (v.disk n) i [] o = steps_are_cut disk_rules disks_keep_rules c n now ends (v.node n) (v.disk n) i in
    let here : EndsThere (tasks_in (v.node n)) (tasks_in o.after) = subst (λ (z : Site). EndsThere (tasks_in (v.node n)) (tasks_in z.node)) cut.comes.left (turns cut.replies) in
    subst (λ (w : Nodes). (k : ℕ) → EndsThere (tasks_in (v.node k)) (tasks_in (w.node k))) (sym (passing_nodes n o.given (record s { nodes = moved c v (Takes_in n now ends i) })))
    (put_all (λ k node disk. EndsThere (tasks_in (v.node k)) (tasks_in node)) v n o.after o.disk here (λ k ne d e h. ended_plain d e (tasks_in (v.node k)) h))

pub plainly_turns : (c : Cluster) (n now : ℕ) (ends : method.Outcome) (i : Input) (s : Scene) → IsNoAnswer i → now < 2 ^ 64 → NodeFits c n (s.nodes.node n)
    → (k : ℕ) → EndsThere (tasks_in (s.nodes.node k)) (tasks_in ((taking c n now ends i s).nodes.node k))
plainly_turns c n now ends i s is time fit = taking_turns c n now ends i s (plain_turns c n now ends (s.nodes.node n) (s.nodes.disk n).kept i is time fit)

pub answering_turns : (c : Cluster) (n now : ℕ) (ends : method.Outcome) (a : Answer) (s : Scene) → (k : ℕ) → EndsThere (tasks_in (s.nodes.node k)) (tasks_in ((taking c n now ends (input.Answered a) s).nodes.node k))
answering_turns c n now ends a s = taking_turns c n now ends (input.Answered a) s (answer_turns c n now ends (s.nodes.node n) (s.nodes.disk n).kept a)
