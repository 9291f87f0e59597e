-- A node that has no attempt saves nothing of one.
use Rattle.std.specs.Prelude.{ℕ, ◌≡◌, ◌==◌, List, [], ◌∷◌, Option, None, Some}
use Rattle.std.proofs.Common.{sym, subst}
use Rattle.cl_base.specs.Seizings.{SeizeResult}
use Rattle.cl_base.specs.declared.method.Outcome as method
use Rattle.cmm_attempt.proofs.Basics.{if_either}
use Rattle.cmm_member.specs.Records.{NodeRecord}
use Rattle.device_queue.specs.Queue.{due_device, joins, next_of, progress_after}
use Rattle.device_queue.specs.declared.progress.Progress.{Progress}
use Rattle.device_queue.specs.declared.progress.Progress.TheVariants.{GoesOn, Joined, Seized}
use Rattle.history.specs.Moment.{Moment}
use Rattle.history.specs.Setting.{Setting}
use Rattle.node_model.specs.Devices.{joining_so}
use Rattle.node_model.specs.Members.{ready_of}
use Rattle.node_model.specs.Seats.{coordinator_of, session_of}
use Rattle.node_model.specs.Steps.{at_second}
use Rattle.node_model.specs.declared.cluster.Cluster.{Cluster}
use Rattle.node_model.specs.declared.input.Input.TheVariants as input
use Rattle.node_model.specs.declared.node.Node.TheVariants.{Up}
use Rattle.node_model.specs.declared.node.UpNode.{UpNode}
use Rattle.pgr_device.specs.declared.command.PrCommand.{PrCommand}
use Rattle.refinement.specs.Courses.{Course, Reply, under}
use Rattle.refinement.specs.Courses.Course.{Acts, Falls, Keeps, Stops}
use Rattle.refinement.specs.Courses.Reply.{Done, Lost_new, Lost_old}
use Rattle.refinement.specs.Cuts as cuts
use Rattle.refinement.specs.Cuts.{answered_course, doings, joined_course, progress_course, seized_course}
use Rattle.refinement.specs.Doings.{Change, acted, answered_so, changed, gives, site}
use Rattle.refinement.specs.Doings.Change.{Counts, Starts}
use Rattle.refinement.specs.Doings.Doing.{Does, Saves}
use Rattle.seize.specs.Answers.{Answer}
use Rattle.seize.specs.declared.kind.JoinResult.TheVariants as join
use Rattle.wire.specs.declared.message.Body.TheVariants as body
use Rattle.run_history.specs.Scenes.{Scene, passing}
use Rattle.run_outcomes.specs.stops.Idle.{AllIdle, LostIdle}

-- neither an install nor a start of its own attempt
abbrev pub NotTried : Change → Type 0
NotTried (Counts a k s i) = ⊥
NotTried (Starts a k s) = ⊥
NotTried _ = Unit {0}

abbrev pub Still : Course → Type 0
Still Stops = Unit {0}
Still (Acts a rest) = Still rest
Still (Keeps change rest) = NotTried change × Still rest
Still (Falls why) = Unit {0}

pub lost_none : (S : Setting) (n : ℕ) (change : Change) (ms : List Moment) → NotTried change → LostIdle S n change ms
lost_none S n (Counts a k s i) ms h = absurd h
lost_none S n (Starts a k s) ms h = absurd h
lost_none S n _ ms h = tt

pub still_idle : (S : Setting) (c : Cluster) (n : ℕ) (x : UpNode) (disk : NodeRecord) (k : Course) (replies : List Reply) (s : Scene) → Still k → AllIdle S c n (site (Up x) disk) (under replies k) s
still_idle S c n x disk Stops replies s h = tt
still_idle S c n x disk (Acts a rest) replies s h = (tt, still_idle S c n (acted c n x a) disk rest replies (passing n (gives c n (site (Up x) disk) (Does a)) s) h)
still_idle S c n x disk (Keeps change rest) [] s h = (lost_none S n change s.moments h.0, tt)
still_idle S c n x disk (Keeps change rest) (Done ∷ replies) s h = (tt, still_idle S c n (changed c n x change) _ rest replies (passing n (gives c n (site (Up x) disk) (Saves change)) s) h.1)
still_idle S c n x disk (Keeps change rest) (Lost_new why ∷ replies) s h = (lost_none S n change s.moments h.0, tt)
still_idle S c n x disk (Keeps change rest) (Lost_old why ∷ replies) s h = (lost_none S n change s.moments h.0, tt)
still_idle S c n x disk (Falls why) replies s h = (tt, tt)

-- ---- what it does with the answer to its command

readied_still : (c : Cluster) (n : ℕ) (x : UpNode) → x.attempt ≡ None → Still (cuts.own_ready_course c n x)
readied_still c n x none = if_either Still (joins x.tasks) Stops (cuts.readied_course c n x x.attempt) tt (subst (λ o. Still (cuts.readied_course c n x o)) (sym none) tt)

joined_still : (c : Cluster) (n : ℕ) (x : UpNode) (o : Option ℕ) → x.attempt ≡ None → Still (joined_course c n x o)
joined_still c n x None none = tt
joined_still c n x (Some m) none =
    if_either Still (m == n) (cuts.own_ready_course c n x) (cuts.readying_course c x m) (readied_still c n x none) (if_either Still (joins x.tasks) Stops (cuts.writing m (ready_of c x)) tt tt)

seized_still : (c : Cluster) (n : ℕ) (x : UpNode) (d : ℕ) (r : SeizeResult) (o : Option ℕ) → x.attempt ≡ None → Still (seized_course c n x d r o)
seized_still c n x d r None none = tt
seized_still c n x d r (Some m) none =
    if_either Still (m == n) (cuts.own_seized_course c n x d r x.attempt) (cuts.writing m (body.Seized (session_of x) d r)) (subst (λ o. Still (cuts.own_seized_course c n x d r o)) (sym none) tt) tt

progress_still : (c : Cluster) (n : ℕ) (x : UpNode) (at : ℕ) (q : PrCommand) (a : Answer) (g : Progress) → x.attempt ≡ None → Still (progress_course c n x at q a g)
progress_still c n x at q a GoesOn none = tt
progress_still c n x at q a (Seized d r) none = let y : UpNode = answered_so x a in seized_still c n y d r (coordinator_of y) none
progress_still c n x at q a (Joined d join.Joined) none = let z : UpNode = joining_so (answered_so x a) d in (tt, joined_still c n z (coordinator_of z) none)
progress_still c n x at q a (Joined d (join.Late w)) none = let y : UpNode = answered_so x a in joined_still c n y (coordinator_of y) none
progress_still c n x at q a (Joined d join.Fault) none = let y : UpNode = answered_so x a in joined_still c n y (coordinator_of y) none

answered_still : (c : Cluster) (n : ℕ) (x : UpNode) (a : Answer) (o : Option ℕ) (p : Option PrCommand) → x.attempt ≡ None → Still (answered_course c n x a o p)
answered_still c n x a None p none = tt
answered_still c n x a (Some at) None none = tt
answered_still c n x a (Some at) (Some q) none = progress_still c n x at q a (progress_after x.tasks a) none

pub unled_idle : (S : Setting) (c : Cluster) (n now : ℕ) (ends : method.Outcome) (x : UpNode) (disk : NodeRecord) (a : Answer) (replies : List Reply) (s : Scene) → x.attempt ≡ None
    → AllIdle S c n (site (Up x) disk) (doings c n now ends replies (input.Answered a) (Up x)) s
unled_idle S c n now ends x disk a replies s none =
    let y : UpNode = at_second now x in
    (tt, still_idle S c n y disk (answered_course c n y a (due_device y.tasks) (next_of y.tasks)) replies s (answered_still c n y a (due_device y.tasks) (next_of y.tasks) none))
