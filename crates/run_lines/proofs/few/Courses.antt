-- What follows an answer of a device begins no attempt.
use Rattle.std.specs.Prelude.{ℕ, ◌==◌, Bool, true, false, List, [], ◌∷◌, Option, None, Some, is_some, if◌then◌else◌}
use Rattle.std.specs.Option.{unwrap_or}
use Rattle.cl_base.specs.Seizings.{SeizeResult}
use Rattle.cmm_attempt.specs.Attempts.{AttemptState, newest_installed}
use Rattle.cmm_attempt.specs.Calls.{Call, Own_ready, Own_seized, With_votes, starts_in, turn}
use Rattle.cmm_attempt.specs.declared.step.AttemptEnd.{AttemptEnd}
use Rattle.cmm_attempt.specs.declared.step.Step.{Step}
use Rattle.cmm_attempt.specs.declared.step.Step.TheVariants as step
use Rattle.device_queue.specs.Queue.{joins}
use Rattle.node_model.specs.Attempts.{begins_install, installs_now, is_choosing, left_out_by, starts_now, votes_in}
use Rattle.node_model.specs.Deciding.{may_order}
use Rattle.node_model.specs.declared.cluster.Cluster.{Cluster}
use Rattle.node_model.specs.declared.node.UpNode.{UpNode}
use Rattle.node_model.specs.declared.presidency.Presidency.{Presidency}
use Rattle.node_model.specs.declared.seat.Seat.{Seat}
use Rattle.node_model.specs.declared.seat.Seat.TheVariants.{Forming, Member}
use Rattle.refinement.specs.Courses.{Course, Reply, joined, under}
use Rattle.refinement.specs.Courses.Course.{Acts, Falls, Keeps, Stops}
use Rattle.refinement.specs.Courses.Reply.{Done, Lost_new, Lost_old}
use Rattle.refinement.specs.Cuts as cuts
use Rattle.refinement.specs.Doings.{Change, Doing, acted, changed, going}
use Rattle.refinement.specs.Doings.Change.{Counts, Leads, Starts}
use Rattle.refinement.specs.Doings.Doing.{Comes_up, Saves}
use Rattle.seize.specs.declared.kind.SeizeKind.{SeizeKind}
use Rattle.wire.specs.declared.message.Install.{Install}

abbrev pub FreeChange : Change → Type 0
FreeChange (Leads p members) = ⊥
FreeChange _ = Unit {0}

abbrev pub Free : Course → Type 0
Free Stops = Unit {0}
Free (Acts a rest) = Free rest
Free (Keeps change rest) = FreeChange change × Free rest
Free (Falls why) = Unit {0}

-- .. and brings up no node
abbrev pub FreeDoing : Doing → Type 0
FreeDoing Comes_up = ⊥
FreeDoing (Saves change) = FreeChange change
FreeDoing _ = Unit {0}

abbrev pub AllFree : List Doing → Type 0
AllFree [] = Unit {0}
AllFree (d ∷ ds) = FreeDoing d × AllFree ds

pub under_free : (replies : List Reply) (k : Course) → Free k → AllFree (under replies k)
under_free replies Stops h = tt
under_free replies (Acts a rest) h = (tt, under_free replies rest h)
under_free [] (Keeps change rest) h = (tt, tt)
under_free (Done ∷ replies) (Keeps change rest) h = (h.0, under_free replies rest h.1)
under_free (Lost_new why ∷ replies) (Keeps change rest) h = (tt, tt)
under_free (Lost_old why ∷ replies) (Keeps change rest) h = (tt, tt)
under_free replies (Falls why) h = (tt, tt)

-- ---- courses

either_free : (b : Bool) (k l : Course) → Free k → Free l → Free (if b then k else l)
either_free true k l h i = h
either_free false k l h i = i

then_free : (c : Cluster) (me : ℕ) (x : UpNode) (k : Course) (next : UpNode → Course) → Free k → ((y : UpNode) → Free (next y)) → Free (joined c me x k next)
then_free c me x Stops next h i = i x
then_free c me x (Acts a rest) next h i = then_free c me (acted c me x a) rest next h i
then_free c me x (Keeps change rest) next h i = (h.0, then_free c me (changed c me x change) rest next h.1 i)
then_free c me x (Falls why) next h i = tt

deciding_by_free : (c : Cluster) (me : ℕ) (x : UpNode) (o : Option Presidency) → Free (cuts.deciding_by_course c me x o)
deciding_by_free c me x None = tt
deciding_by_free c me x (Some p) = either_free (may_order p.groups) _ _ tt tt

excluded_free : (me e newest : ℕ) (o : Option ℕ) → Free (cuts.excluded_course me e newest o)
excluded_free me e newest None = tt
excluded_free me e newest (Some m) = either_free (m == me) _ _ tt tt

ended_free : (me : ℕ) (e : AttemptEnd) (o : Option AttemptState) → Free (cuts.ended_course me e o)
ended_free me e None = tt
ended_free me e (Some a) = excluded_free me a.plan.epoch (unwrap_or (newest_installed a) 0) (left_out_by e)

queued_free : (d : ℕ) (kind : SeizeKind) (o : Option AttemptState) → Free (cuts.queued_course d kind o)
queued_free d kind None = tt
queued_free d kind (Some a) = tt

step_free : (me : ℕ) (x : UpNode) (s : Step) → Free (cuts.step_course me x s)
step_free me x (step.Send to m) = tt
step_free me x (step.SeizeHere d kind) = queued_free d kind x.attempt
step_free me x (step.NeedVotes n) = tt
step_free me x (step.InstallHere i) = tt
step_free me x step.StartHere = tt
step_free me x (step.Ended e) = ended_free me e x.attempt

steps_free : (c : Cluster) (me : ℕ) (x : UpNode) (steps : List Step) → Free (cuts.steps_course c me x steps)
steps_free c me x [] = tt
steps_free c me x (s ∷ steps) = then_free c me x (cuts.step_course me x s) (λ y. cuts.steps_course c me y steps) (step_free me x s) (λ y. steps_free c me y steps)

gone_free : (c : Cluster) (me : ℕ) (x : UpNode) (a : AttemptState) (k : Call) (steps : List Step) → Free (cuts.gone_on c me x a k steps)
gone_free c me x a k steps = steps_free c me (going x a k) steps

counted_free : (c : Cluster) (me : ℕ) (x : UpNode) (a : AttemptState) (k : Call) (i : Install) (rest : List Step) (seat : Seat) → Free (cuts.counted c me x a k i rest seat)
counted_free c me x a k i rest (Member s) = gone_free c me x a k rest
counted_free c me x a k i rest (Forming s) = either_free (installs_now s i) _ _ (tt, steps_free c me (changed c me x (Counts a k s i)) rest) (gone_free c me x a k rest)

started_free : (c : Cluster) (me : ℕ) (x : UpNode) (a : AttemptState) (k : Call) (rest : List Step) (seat : Seat) → Free (cuts.started c me x a k rest seat)
started_free c me x a k rest (Member s) = gone_free c me x a k rest
started_free c me x a k rest (Forming s) =
    either_free (starts_now s (turn a k).after.plan.epoch) _ _
    (either_free (is_some s.saved.entries.pending) _ _ (tt, steps_free c me (changed c me x (Starts a k s)) rest) (steps_free c me (changed c me x (Starts a k s)) rest))
    (gone_free c me x a k rest)

turned_by_free : (c : Cluster) (me : ℕ) (x : UpNode) (a : AttemptState) (k : Call) (steps : List Step) → Free (cuts.turned_by c me x a k steps)
turned_by_free c me x a k [] = gone_free c me x a k []
turned_by_free c me x a k (step.InstallHere i ∷ rest) = counted_free c me x a k i rest x.seat
turned_by_free c me x a k (step.StartHere ∷ rest) = started_free c me x a k rest x.seat
turned_by_free c me x a k (step.Send to m ∷ rest) = gone_free c me x a k (step.Send to m ∷ rest)
turned_by_free c me x a k (step.SeizeHere d kind ∷ rest) = gone_free c me x a k (step.SeizeHere d kind ∷ rest)
turned_by_free c me x a k (step.NeedVotes n ∷ rest) = gone_free c me x a k (step.NeedVotes n ∷ rest)
turned_by_free c me x a k (step.Ended e ∷ rest) = gone_free c me x a k (step.Ended e ∷ rest)

turned_all_free : (c : Cluster) (me : ℕ) (x : UpNode) (a : AttemptState) (k : Call) → Free (cuts.turned_all c me x a k)
turned_all_free c me x a k =
    then_free c me x (cuts.turned c me x a k) (cuts.if_started c me (turn a k).steps) (turned_by_free c me x a k (turn a k).steps)
    (λ y. either_free (starts_in (turn a k).steps) _ _ (deciding_by_free c me y y.presidency) tt)

readied_free : (c : Cluster) (me : ℕ) (x : UpNode) (o : Option AttemptState) → Free (cuts.readied_course c me x o)
readied_free c me x None = tt
readied_free c me x (Some a) = turned_all_free c me x a Own_ready

own_ready_free : (c : Cluster) (me : ℕ) (x : UpNode) → Free (cuts.own_ready_course c me x)
own_ready_free c me x = either_free (joins x.tasks) _ _ tt (readied_free c me x x.attempt)

called_free : (c : Cluster) (me : ℕ) (x : UpNode) (a : AttemptState) (k : Call) → Free (cuts.called c me x a k)
called_free c me x a k =
    then_free c me x (cuts.turned_all c me x a k) (cuts.if_installed c me (turn a k).steps) (turned_all_free c me x a k)
    (λ y. either_free (begins_install (turn a k).steps) _ _ (own_ready_free c me y) tt)

going_free : (c : Cluster) (me : ℕ) (x : UpNode) (a : AttemptState) (k : Call) → Free (cuts.going_course c me x a k)
going_free c me x a k =
    either_free (is_choosing (turn a k).after.phase) _ _ (called_free c me (going x a k) (turn a k).after (With_votes (votes_in c (turn a k).after))) (called_free c me x a k)

own_seized_free : (c : Cluster) (me : ℕ) (x : UpNode) (d : ℕ) (r : SeizeResult) (o : Option AttemptState) → Free (cuts.own_seized_course c me x d r o)
own_seized_free c me x d r None = tt
own_seized_free c me x d r (Some a) = going_free c me x a (Own_seized d r)

pub seized_free : (c : Cluster) (me : ℕ) (x : UpNode) (d : ℕ) (r : SeizeResult) (o : Option ℕ) → Free (cuts.seized_course c me x d r o)
seized_free c me x d r None = tt
seized_free c me x d r (Some k) = either_free (k == me) _ _ (own_seized_free c me x d r x.attempt) tt

pub joined_free : (c : Cluster) (me : ℕ) (x : UpNode) (o : Option ℕ) → Free (cuts.joined_course c me x o)
joined_free c me x None = tt
joined_free c me x (Some k) = either_free (k == me) _ _ (own_ready_free c me x) (either_free (joins x.tasks) _ _ tt tt)
