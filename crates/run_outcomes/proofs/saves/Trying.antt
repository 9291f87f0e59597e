-- Courses in which a node saves what its attempt changes alone: it installs, or starts.
use Rattle.std.specs.Prelude.{ℕ, ◌==◌, List, [], ◌∷◌, Option, None, Some, is_some}
use Rattle.std.specs.Option.{unwrap_or}
use Rattle.cl_base.specs.declared.method.Outcome as method
use Rattle.cl_base.specs.declared.panic.Panic.TheVariants as panic
use Rattle.cmm_attempt.proofs.Basics.{if_either}
use Rattle.cmm_attempt.specs.Attempts.{AttemptState, newest_installed}
use Rattle.cmm_attempt.specs.Calls.{Call, Own_ready, Take, With_votes, starts_in, turn}
use Rattle.cmm_attempt.specs.declared.step.AttemptEnd.{AttemptEnd}
use Rattle.cmm_attempt.specs.declared.step.Step.{Step}
use Rattle.cmm_attempt.specs.declared.step.Step.TheVariants as step
use Rattle.device_queue.specs.Queue.{joins}
use Rattle.node_model.specs.Attempts.{begins_install, installs_now, is_choosing, left_out_by, starts_now, votes_in}
use Rattle.node_model.specs.Deciding.{may_order}
use Rattle.node_model.specs.Members.{hearing, is_foreign}
use Rattle.node_model.specs.Steps.{at_second}
use Rattle.node_model.specs.declared.cluster.Cluster.{Cluster}
use Rattle.node_model.specs.declared.input.Input.TheVariants as input
use Rattle.node_model.specs.declared.node.UpNode.{UpNode}
use Rattle.node_model.specs.declared.presidency.Presidency.{Presidency}
use Rattle.node_model.specs.declared.seat.Seat.{Seat}
use Rattle.node_model.specs.declared.seat.Seat.TheVariants.{Forming, Member}
use Rattle.refinement.specs.Courses.{Course, Reply, joined, under}
use Rattle.refinement.specs.Courses.Course.{Acts, Falls, Keeps, Stops}
use Rattle.refinement.specs.Courses.Reply.{Done, Lost_new, Lost_old}
use Rattle.refinement.specs.Cuts as cuts
use Rattle.refinement.specs.Cuts.{course_at, deciding_course, if_installed, if_started, steps_course, turned}
use Rattle.refinement.specs.Doings.{Act, Change, Doing, acted, changed, going}
use Rattle.refinement.specs.Doings.Act.{Dates, Ends, Gives, Goes_on, Hears, Makes, Minds, Queues, Writes}
use Rattle.refinement.specs.Doings.Change.{Counts, Starts}
use Rattle.refinement.specs.Doings.Doing.{Comes_up, Does, Forgets, Goes_down, Loses, Saves}
use Rattle.seize.specs.declared.kind.SeizeKind.{SeizeKind}
use Rattle.status_report.specs.declared.node_entry.DownCause.TheVariants as down
use Rattle.wire.specs.declared.message.Body.{Body}
use Rattle.wire.specs.declared.message.Body.TheVariants as body
use Rattle.wire.specs.declared.message.Install.{Install}
use Rattle.wire.specs.declared.message.Message.{Message}
use Rattle.run_downs.proofs.Proposed.{IsNoStopCause}
use Rattle.run_outcomes.specs.saves.Courses.{IsTried}

-- what is done beside such changes
abbrev pub TriesAct : (Change → Type 0) → Act → Type 0
TriesAct P (Dates now) = Unit {0}
TriesAct P (Hears from b) = Unit {0}
TriesAct P (Goes_on a k) = Unit {0}
TriesAct P (Ends a e) = Unit {0}
TriesAct P (Queues a d kind) = Unit {0}
TriesAct P (Writes to b) = Unit {0}
TriesAct P (Gives os) = Unit {0}
TriesAct P (Minds q p) = Unit {0}
TriesAct P (Makes change) = P change
TriesAct P _ = ⊥

-- each change is one of these
abbrev pub Tries : (Change → Type 0) → Course → Type 0
Tries P Stops = Unit {0}
Tries P (Acts a rest) = TriesAct P a × Tries P rest
Tries P (Keeps change rest) = P change × Tries P rest
Tries P (Falls why) = IsNoStopCause why

-- .. and its small steps: where a save is lost, that is the last
abbrev pub IsLast : List Doing → Type 0
IsLast [] = Unit {0}
IsLast (d ∷ ds) = ⊥

abbrev pub AllTried : List Doing → Type 0
AllTried [] = Unit {0}
AllTried (Does a ∷ ds) = TriesAct IsTried a × AllTried ds
AllTried (Saves change ∷ ds) = IsTried change × AllTried ds
AllTried (Loses change why ∷ ds) = IsTried change × IsLast ds
AllTried (Forgets change why ∷ ds) = IsTried change × IsLast ds
AllTried (Goes_down why ∷ ds) = IsNoStopCause why × IsLast ds
AllTried (Comes_up ∷ ds) = ⊥

pub under_tried : (replies : List Reply) (k : Course) → Tries IsTried k → AllTried (under replies k)
under_tried replies Stops h = tt
under_tried replies (Acts a rest) h = (h.0, under_tried replies rest h.1)
under_tried [] (Keeps change rest) h = (h.0, tt)
under_tried (Done ∷ replies) (Keeps change rest) h = (h.0, under_tried replies rest h.1)
under_tried (Lost_new why ∷ replies) (Keeps change rest) h = (h.0, tt)
under_tried (Lost_old why ∷ replies) (Keeps change rest) h = (h.0, tt)
under_tried replies (Falls why) h = (h, tt)

pub joined_t : (P : Change → Type 0) (c : Cluster) (me : ℕ) (x : UpNode) (k : Course) (next : UpNode → Course) → Tries P k → ((y : UpNode) → Tries P (next y)) → Tries P (joined c me x k next)
joined_t P c me x Stops next h f = f x
joined_t P c me x (Acts a rest) next h f = (h.0, joined_t P c me (acted c me x a) rest next h.1 f)
joined_t P c me x (Keeps change rest) next h f = (h.0, joined_t P c me (changed c me x change) rest next h.1 f)
joined_t P c me x (Falls why) next h f = h

-- ---- the president decides

pub deciding_by_t : (P : Change → Type 0) (c : Cluster) (me : ℕ) (x : UpNode) (o : Option Presidency) → Tries P (cuts.deciding_by_course c me x o)
deciding_by_t P c me x None = tt
deciding_by_t P c me x (Some p) = if_either (Tries P) (may_order p.groups) _ Stops (tt, (tt, tt)) tt

pub deciding_t : (P : Change → Type 0) (c : Cluster) (me : ℕ) (x : UpNode) → Tries P (deciding_course c me x)
deciding_t P c me x = deciding_by_t P c me x x.presidency

-- ---- the steps of an attempt

pub excluded_t : (P : Change → Type 0) (me e newest : ℕ) (o : Option ℕ) → Tries P (cuts.excluded_course me e newest o)
excluded_t P me e newest None = tt
excluded_t P me e newest (Some m) = if_either (Tries P) (m == me) (Falls (down.Panic (panic.Excluded newest))) (cuts.writing m (body.Excluded e newest)) tt (tt, tt)

pub ended_t : (P : Change → Type 0) (me : ℕ) (e : AttemptEnd) (o : Option AttemptState) → Tries P (cuts.ended_course me e o)
ended_t P me e None = tt
ended_t P me e (Some a) = (tt, excluded_t P me a.plan.epoch (unwrap_or (newest_installed a) 0) (left_out_by e))

pub queued_t : (P : Change → Type 0) (d : ℕ) (kind : SeizeKind) (o : Option AttemptState) → Tries P (cuts.queued_course d kind o)
queued_t P d kind None = tt
queued_t P d kind (Some a) = (tt, tt)

pub step_t : (P : Change → Type 0) (me : ℕ) (x : UpNode) (s : Step) → Tries P (cuts.step_course me x s)
step_t P me x (step.Send to m) = (tt, tt)
step_t P me x (step.SeizeHere d kind) = queued_t P d kind x.attempt
step_t P me x (step.NeedVotes n) = tt
step_t P me x (step.InstallHere i) = tt
step_t P me x step.StartHere = tt
step_t P me x (step.Ended e) = ended_t P me e x.attempt

pub steps_t : (P : Change → Type 0) (c : Cluster) (me : ℕ) (x : UpNode) (steps : List Step) → Tries P (steps_course c me x steps)
steps_t P c me x [] = tt
steps_t P c me x (s ∷ steps) = joined_t P c me x (cuts.step_course me x s) (λ y. steps_course c me y steps) (step_t P me x s) (λ y. steps_t P c me y steps)

pub gone_t : (P : Change → Type 0) (c : Cluster) (me : ℕ) (x : UpNode) (a : AttemptState) (k : Call) (steps : List Step) → Tries P (cuts.gone_on c me x a k steps)
gone_t P c me x a k steps = (tt, steps_t P c me (going x a k) steps)

counted_t : (c : Cluster) (me : ℕ) (x : UpNode) (a : AttemptState) (k : Call) (i : Install) (rest : List Step) (seat : Seat) → Tries IsTried (cuts.counted c me x a k i rest seat)
counted_t c me x a k i rest (Member s) = gone_t IsTried c me x a k rest
counted_t c me x a k i rest (Forming s) =
    if_either (Tries IsTried) (installs_now s i) (Keeps (Counts a k s i) (steps_course c me (changed c me x (Counts a k s i)) rest)) (cuts.gone_on c me x a k rest)
    (tt, steps_t IsTried c me (changed c me x (Counts a k s i)) rest) (gone_t IsTried c me x a k rest)

started_t : (c : Cluster) (me : ℕ) (x : UpNode) (a : AttemptState) (k : Call) (rest : List Step) (seat : Seat) → Tries IsTried (cuts.started c me x a k rest seat)
started_t c me x a k rest (Member s) = gone_t IsTried c me x a k rest
started_t c me x a k rest (Forming s) =
    let more : Course = steps_course c me (changed c me x (Starts a k s)) rest in
    if_either (Tries IsTried) (starts_now s (turn a k).after.plan.epoch) (cuts.kept_if (is_some s.saved.entries.pending) (Starts a k s) more) (cuts.gone_on c me x a k rest)
    (if_either (Tries IsTried) (is_some s.saved.entries.pending) (Keeps (Starts a k s) more) (Acts (Makes (Starts a k s)) more)
    (tt, steps_t IsTried c me (changed c me x (Starts a k s)) rest) (tt, steps_t IsTried c me (changed c me x (Starts a k s)) rest)) (gone_t IsTried c me x a k rest)

turned_by_t : (c : Cluster) (me : ℕ) (x : UpNode) (a : AttemptState) (k : Call) (steps : List Step) → Tries IsTried (cuts.turned_by c me x a k steps)
turned_by_t c me x a k [] = gone_t IsTried c me x a k []
turned_by_t c me x a k (step.InstallHere i ∷ rest) = counted_t c me x a k i rest x.seat
turned_by_t c me x a k (step.StartHere ∷ rest) = started_t c me x a k rest x.seat
turned_by_t c me x a k (step.Send to m ∷ rest) = gone_t IsTried c me x a k (step.Send to m ∷ rest)
turned_by_t c me x a k (step.SeizeHere d kind ∷ rest) = gone_t IsTried c me x a k (step.SeizeHere d kind ∷ rest)
turned_by_t c me x a k (step.NeedVotes n ∷ rest) = gone_t IsTried c me x a k (step.NeedVotes n ∷ rest)
turned_by_t c me x a k (step.Ended e ∷ rest) = gone_t IsTried c me x a k (step.Ended e ∷ rest)

turned_all_t : (c : Cluster) (me : ℕ) (x : UpNode) (a : AttemptState) (k : Call) → Tries IsTried (cuts.turned_all c me x a k)
turned_all_t c me x a k =
    joined_t IsTried c me x (turned c me x a k) (if_started c me (turn a k).steps) (turned_by_t c me x a k (turn a k).steps)
    (λ y. if_either (Tries IsTried) (starts_in (turn a k).steps) (deciding_course c me y) Stops (deciding_t IsTried c me y) tt)

readied_t : (c : Cluster) (me : ℕ) (x : UpNode) (o : Option AttemptState) → Tries IsTried (cuts.readied_course c me x o)
readied_t c me x None = tt
readied_t c me x (Some a) = turned_all_t c me x a Own_ready

pub own_ready_t : (c : Cluster) (me : ℕ) (x : UpNode) → Tries IsTried (cuts.own_ready_course c me x)
own_ready_t c me x = if_either (Tries IsTried) (joins x.tasks) Stops (cuts.readied_course c me x x.attempt) tt (readied_t c me x x.attempt)

called_t : (c : Cluster) (me : ℕ) (x : UpNode) (a : AttemptState) (k : Call) → Tries IsTried (cuts.called c me x a k)
called_t c me x a k =
    joined_t IsTried c me x (cuts.turned_all c me x a k) (if_installed c me (turn a k).steps) (turned_all_t c me x a k)
    (λ y. if_either (Tries IsTried) (begins_install (turn a k).steps) (cuts.own_ready_course c me y) Stops (own_ready_t c me y) tt)

pub going_t : (c : Cluster) (me : ℕ) (x : UpNode) (a : AttemptState) (k : Call) → Tries IsTried (cuts.going_course c me x a k)
going_t c me x a k =
    let t : AttemptState = (turn a k).after in
    if_either (Tries IsTried) (is_choosing t.phase) (Acts (Goes_on a k) (cuts.called c me (going x a k) t (With_votes (votes_in c t)))) (cuts.called c me x a k)
    (tt, called_t c me (going x a k) t (With_votes (votes_in c t))) (called_t c me x a k)

-- ---- a message that answers its attempt

answer_t : (c : Cluster) (me : ℕ) (x : UpNode) (from : ℕ) (m : Message) (o : Option AttemptState) → Tries IsTried (cuts.answer_course c me x from m o)
answer_t c me x from m None = tt
answer_t c me x from m (Some a) = going_t c me x a (Take from m)

-- a Promise, and how a seizing ended
abbrev pub Answers : Body → Type 0
Answers (body.Promise e installed members valid flagged committed pending) = Unit {0}
Answers (body.Seized e d ended) = Unit {0}
Answers _ = ⊥

body_t : (c : Cluster) (me : ℕ) (ends : method.Outcome) (x : UpNode) (from : ℕ) (m : Message) (b : Body) → Answers b → Tries IsTried (cuts.body_course c me ends x from m b)
body_t c me ends x from m (body.Promise e installed members valid flagged committed pending) is = answer_t c me x from m x.attempt
body_t c me ends x from m (body.Seized e d ended) is = answer_t c me x from m x.attempt
body_t c me ends x from m _ is = absurd is

pub message_tries : (c : Cluster) (n now : ℕ) (ends : method.Outcome) (x : UpNode) (from : ℕ) (m : Message) → Answers m.body → Tries IsTried (course_at c n now ends x (input.Packet from m))
message_tries c n now ends x from m is =
    let y : UpNode = at_second now x in (
      tt,
      if_either (Tries IsTried) (is_foreign c n y m.body) Stops (Acts (Hears from m.body) (cuts.body_course c n ends (hearing y from m.body) from m m.body)) tt
          (tt, body_t c n ends (hearing y from m.body) from m m.body is),
    )
