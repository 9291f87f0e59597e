-- A node admits a device only with the answer by which it has joined it.
use Rattle.std.specs.Prelude.{ℕ, ◌≡◌, ◌<◌, ◌^◌, List, [], ◌∷◌, Option, None, Some}
use Rattle.std.proofs.Common.{refl}
use Rattle.cl_base.specs.declared.method.Outcome as method
use Rattle.cmm_member.specs.Records.{NodeRecord}
use Rattle.device_queue.specs.Queue.{due_device, next_of, progress_after}
use Rattle.device_queue.specs.declared.progress.Progress.{Progress}
use Rattle.device_queue.specs.declared.progress.Progress.TheVariants.{GoesOn, Joined, Seized}
use Rattle.node_model.specs.Devices.{joining_so}
use Rattle.node_model.specs.Seats.{coordinator_of, record_of}
use Rattle.node_model.specs.Steps.{at_second}
use Rattle.node_model.specs.declared.cluster.Cluster.{Cluster}
use Rattle.node_model.specs.declared.input.Input.{Input}
use Rattle.node_model.specs.declared.input.Input.TheVariants as input
use Rattle.node_model.specs.declared.node.Node.{Node}
use Rattle.node_model.specs.declared.node.Node.TheVariants.{Down, Up}
use Rattle.node_model.specs.declared.node.UpNode.{UpNode}
use Rattle.pgr_device.specs.declared.command.PrCommand.{PrCommand}
use Rattle.refinement.specs.Courses.{Course, Reply, under}
use Rattle.refinement.specs.Courses.Reply.{Done, Lost_new, Lost_old}
use Rattle.refinement.specs.Cuts.{answered_course, doings, joined_course, progress_course, seized_course}
use Rattle.refinement.specs.Doings.{Change, Doing, Site, answered_so, effect, site}
use Rattle.refinement.specs.Doings.Change.{Acks, Admits, Commits, Counts, Distrusts, Installs, Leads, Prepares, Promises, Proposes, Sits, Starts}
use Rattle.refinement.specs.Doings.Doing.{Comes_up, Does, Forgets, Goes_down, Loses, Saves}
use Rattle.refinement.specs.Guards.{OfUp}
use Rattle.refinement.specs.Ties.{Delivered}
use Rattle.refinement.specs.node_widths.Widths.{NodeFits}
use Rattle.refinement.proofs.Handlers.{delivered_by}
use Rattle.run_history.proofs.AtSteps.{IsNoAnswer, joined_course_to, seized_here_to}
use Rattle.run_history.proofs.WholeScenes.{node_at}
use Rattle.run_history.proofs.WholeSteps.{at_under}
use Rattle.run_history.specs.Guards.{AtAll, AtChange, Hand, hand_after}
use Rattle.seize.specs.Answers.{Answer}
use Rattle.seize.specs.declared.kind.JoinResult.TheVariants as join
use Rattle.run_outcomes.proofs.shown.Deeds.{AdmitAt, AllAdmit}

change_admits : (x : UpNode) (ch : Change) → AtChange x ch → AdmitAt x ch
change_admits x (Admits on command a d) k = absurd k
change_admits x (Promises p) k = tt
change_admits x (Leads p members) k = tt
change_admits x (Counts a q s i) k = tt
change_admits x (Installs s i) k = tt
change_admits x (Starts a q s) k = tt
change_admits x (Sits s e) k = tt
change_admits x (Distrusts d) k = tt
change_admits x (Proposes s p text) k = tt
change_admits x (Acks s p q left text) k = tt
change_admits x (Prepares s text) k = tt
change_admits x (Commits s) k = tt

of_up : (node : Node) (P Q : UpNode → Type 0) → ((x : UpNode) → P x → Q x) → OfUp P node → OfUp Q node
of_up Down P Q f k = k
of_up (Up x) P Q f k = f x k

at_admits : (c : Cluster) (n : ℕ) (told : Delivered) (g : Hand) (x : Site) (ds : List Doing) → AtAll c n told g x ds → AllAdmit c n x ds
at_admits c n told g x [] k = tt
at_admits c n told g x (Saves ch ∷ ds) k =
    (of_up x.node (λ y. AtChange y ch) (λ y. AdmitAt y ch) (λ y z. change_admits y ch z) k.0, at_admits c n told (hand_after g (Saves ch)) (effect c n x (Saves ch)) ds k.1)
at_admits c n told g x (Does a ∷ ds) k = (tt, at_admits c n told (hand_after g (Does a)) (effect c n x (Does a)) ds k.1)
at_admits c n told g x (Comes_up ∷ ds) k = (tt, at_admits c n told g (effect c n x Comes_up) ds k.1)
at_admits c n told g x (Goes_down why ∷ ds) k = (tt, at_admits c n told g (effect c n x (Goes_down why)) ds k.1)
at_admits c n told g x (Loses ch why ∷ ds) k = (tt, at_admits c n told g (effect c n x (Loses ch why)) ds k.1)
at_admits c n told g x (Forgets ch why ∷ ds) k = (tt, at_admits c n told g (effect c n x (Forgets ch why)) ds k.1)

pub plain_admits : (c : Cluster) (n now : ℕ) (ends : method.Outcome) (node : Node) (disk : NodeRecord) (i : Input) → IsNoAnswer i → now < 2 ^ 64 → NodeFits c n node → (replies : List Reply)
    → AllAdmit c n (site node disk) (doings c n now ends replies i node)
plain_admits c n now ends node disk i is time fit replies =
    at_admits c n (delivered_by i) None (site node disk) (doings c n now ends replies i node) (node_at c n now ends node disk replies i is time fit)

answered_admits : (c : Cluster) (n d : ℕ) (k : PrCommand) (a : Answer) (x : UpNode) (disk : NodeRecord) (replies : List Reply) (p : Progress) → progress_after x.tasks a ≡ p
    → AllAdmit c n (site (Up x) disk) (under replies (progress_course c n x d k a p))
answered_admits c n d k a x disk replies GoesOn is = (tt, tt)
answered_admits c n d k a x disk replies (Seized e r) is =
    let y : UpNode = answered_so x a in
    let rest : Course = seized_course c n y e r (coordinator_of y) in
    (tt, at_admits c n None None (site (Up y) disk) (under replies rest) (at_under c n None None y disk replies rest (seized_here_to c n None x a e r is)))
answered_admits c n d k a x disk replies (Joined e (join.Late w)) is =
    let y : UpNode = answered_so x a in
    let rest : Course = joined_course c n y (coordinator_of y) in
    (tt, at_admits c n None None (site (Up y) disk) (under replies rest) (at_under c n None None y disk replies rest (joined_course_to c n None y (coordinator_of y))))
answered_admits c n d k a x disk replies (Joined e join.Fault) is =
    let y : UpNode = answered_so x a in
    let rest : Course = joined_course c n y (coordinator_of y) in
    (tt, at_admits c n None None (site (Up y) disk) (under replies rest) (at_under c n None None y disk replies rest (joined_course_to c n None y (coordinator_of y))))
answered_admits c n d k a x disk [] (Joined e join.Joined) is = (tt, tt)
answered_admits c n d k a x disk (Lost_new why ∷ replies) (Joined e join.Joined) is = (tt, tt)
answered_admits c n d k a x disk (Lost_old why ∷ replies) (Joined e join.Joined) is = (tt, tt)
answered_admits c n d k a x disk (Done ∷ replies) (Joined e join.Joined) is =
    let y : UpNode = joining_so (answered_so x a) e in
    let rest : Course = joined_course c n y (coordinator_of y) in
    (is, at_admits c n None None (site (Up y) (record_of y)) (under replies rest) (at_under c n None None y (record_of y) replies rest (joined_course_to c n None y (coordinator_of y))))

pub answer_admits : (c : Cluster) (n now : ℕ) (ends : method.Outcome) (node : Node) (disk : NodeRecord) (a : Answer) (replies : List Reply)
    → AllAdmit c n (site node disk) (doings c n now ends replies (input.Answered a) node)
answer_admits c n now ends Down disk a replies = tt
answer_admits c n now ends (Up x) disk a replies = (tt, by_due (due_device y.tasks) (next_of y.tasks))
  where
    y : UpNode
    y = at_second now x

    by_due : (o : Option ℕ) (q : Option PrCommand) → AllAdmit c n (site (Up y) disk) (under replies (answered_course c n y a o q))
    by_due None q = tt
    by_due (Some d) None = tt
    by_due (Some d) (Some k) = answered_admits c n d k a y disk replies (progress_after y.tasks a) refl
