-- What is kept by each call of an attempt is kept by each course of a node.
use Rattle.std.specs.Prelude.{ℕ, ◌≡◌, ◌==◌, true, List, [], ◌∷◌, Option, None, Some, is_some}
use Rattle.std.specs.Option.{unwrap_or}
use Rattle.std.proofs.Common.{refl}
use Rattle.cl_base.specs.Sets.{has}
use Rattle.cl_base.specs.declared.panic.Panic.TheVariants as panic
use Rattle.cmm_attempt.proofs.Basics.{false_true, if_either}
use Rattle.cmm_attempt.specs.Attempts.{AttemptState, newest_installed}
use Rattle.cmm_attempt.specs.Calls.{Call, May, Own_ready, With_votes, starts_in, turn}
use Rattle.cmm_attempt.specs.declared.phase.Phase.{Phase}
use Rattle.cmm_attempt.specs.declared.phase.Phase.TheVariants.{Choosing, Collecting, Installing, Over, SeizingOthers, SeizingVotes}
use Rattle.cmm_attempt.specs.declared.step.AttemptEnd.{AttemptEnd}
use Rattle.cmm_attempt.specs.declared.step.Step.{Step}
use Rattle.cmm_attempt.specs.declared.step.Step.TheVariants as step
use Rattle.device_queue.specs.Queue.{after_seize, joins}
use Rattle.node_model.specs.Attempts.{begins_install, installs_now, is_choosing, left_out_by, starts_now, votes_in}
use Rattle.node_model.specs.Deciding.{may_order}
use Rattle.node_model.specs.Members.{rested_by}
use Rattle.node_model.specs.Seats.{promising, record_of}
use Rattle.node_model.specs.declared.cluster.Cluster.{Cluster}
use Rattle.node_model.specs.declared.node.UpNode.{UpNode}
use Rattle.node_model.specs.declared.presidency.Presidency.{Presidency}
use Rattle.node_model.specs.declared.seat.Seat.{Seat}
use Rattle.node_model.specs.declared.seat.Seat.TheVariants.{Forming, Member}
use Rattle.refinement.specs.Courses.{Course}
use Rattle.refinement.specs.Courses.Course.{Acts, Falls, Keeps, Stops}
use Rattle.refinement.specs.Cuts as cuts
use Rattle.refinement.specs.Cuts.{deciding_course, if_installed, if_started, steps_course, turned}
use Rattle.refinement.specs.Doings.{Act, Change, acted, changed, going}
use Rattle.refinement.specs.Doings.Act.{Ends, Goes_on, Makes, Queues}
use Rattle.refinement.specs.Doings.Change.{Counts, Leads, Promises, Starts}
use Rattle.seize.specs.Seizing as seizing
use Rattle.seize.specs.declared.kind.SeizeKind.{SeizeKind}
use Rattle.status_report.specs.declared.node_entry.DownCause.TheVariants as down
use Rattle.wire.specs.declared.message.Body.TheVariants as body
use Rattle.wire.specs.declared.message.Install.{Install}
use Rattle.run_downs.proofs.Courses.{by_test}
use Rattle.run_outcomes.specs.saves.Courses.{LeadsTo, Leaves, LeavesAct, LeavesChange}
use Rattle.run_outcomes.proofs.saves.Rests.{joined_l, leads_joined}
use Rattle.run_outcomes.specs.phases.Kept.{In, IsOwnCall}

-- each call keeps it
abbrev pub IsKept : (AttemptState → Type 0) → Type 0
IsKept I = (a : AttemptState) (k : Call) → May a k → I a → I (turn a k).after

-- .. but one that takes a message
abbrev pub IsLed : (AttemptState → Type 0) → Type 0
IsLed I = (a : AttemptState) (k : Call) → May a k → IsOwnCall k → I a → I (turn a k).after

kept_led : (I : AttemptState → Type 0) → IsKept I → IsLed I
kept_led I keeps a k may own h = keeps a k may h

abbrev pub Has : (AttemptState → Type 0) → UpNode → Type 0
Has I x = In I x.attempt

-- ---- courses that leave the attempt, or end it

promised_has : (I : AttemptState → Type 0) (x : UpNode) (p : ℕ) (o : Option AttemptState) → Has I (rested_by (promising x p) o)
promised_has I x p None = tt
promised_has I x p (Some a) = tt

pub change_has : (I : AttemptState → Type 0) (c : Cluster) (me : ℕ) (x : UpNode) (change : Change) → LeavesChange change → Has I x → Has I (changed c me x change)
change_has I c me x (Counts a k s i) leaves h = absurd leaves
change_has I c me x (Leads p members) leaves h = absurd leaves
change_has I c me x (Promises p) leaves h = promised_has I x p x.attempt
change_has I c me x (Starts a k s) leaves h = tt
change_has I c me x _ leaves h = h

pub act_has : (I : AttemptState → Type 0) (c : Cluster) (me : ℕ) (x : UpNode) (a : Act) → LeavesAct a → Has I x → Has I (acted c me x a)
act_has I c me x (Goes_on a k) leaves h = absurd leaves
act_has I c me x (Ends a e) leaves h = tt
act_has I c me x (Makes change) leaves h = change_has I c me x change leaves h
act_has I c me x (Queues a d kind) leaves h =
    if_either (Has I) (has a.plan.members me) (record x { tasks = after_seize x.tasks d (seizing.begun kind a.plan.epoch a.plan.members me c.id (has (record_of x).valid d)) }) x h h
act_has I c me x _ leaves h = h

pub leaves_has : (I : AttemptState → Type 0) (c : Cluster) (me : ℕ) (x : UpNode) (k : Course) → Leaves k → Has I x → LeadsTo c me (Has I) x k
leaves_has I c me x Stops leaves h = h
leaves_has I c me x (Acts a rest) leaves h = leaves_has I c me (acted c me x a) rest leaves.1 (act_has I c me x a leaves.0 h)
leaves_has I c me x (Keeps change rest) leaves h = leaves_has I c me (changed c me x change) rest leaves.1 (change_has I c me x change leaves.0 h)
leaves_has I c me x (Falls why) leaves h = tt

pub deciding_by_l : (c : Cluster) (me : ℕ) (x : UpNode) (o : Option Presidency) → Leaves (cuts.deciding_by_course c me x o)
deciding_by_l c me x None = tt
deciding_by_l c me x (Some p) = if_either Leaves (may_order p.groups) _ Stops (tt, (tt, tt)) tt

pub excluded_l : (me e newest : ℕ) (o : Option ℕ) → Leaves (cuts.excluded_course me e newest o)
excluded_l me e newest None = tt
excluded_l me e newest (Some m) = if_either Leaves (m == me) (Falls (down.Panic (panic.Excluded newest))) (cuts.writing m (body.Excluded e newest)) tt (tt, tt)

ended_l : (me : ℕ) (e : AttemptEnd) (o : Option AttemptState) → Leaves (cuts.ended_course me e o)
ended_l me e None = tt
ended_l me e (Some a) = (tt, excluded_l me a.plan.epoch (unwrap_or (newest_installed a) 0) (left_out_by e))

queued_l : (d : ℕ) (kind : SeizeKind) (o : Option AttemptState) → Leaves (cuts.queued_course d kind o)
queued_l d kind None = tt
queued_l d kind (Some a) = (tt, tt)

step_l : (me : ℕ) (x : UpNode) (s : Step) → Leaves (cuts.step_course me x s)
step_l me x (step.Send to m) = (tt, tt)
step_l me x (step.SeizeHere d kind) = queued_l d kind x.attempt
step_l me x (step.NeedVotes n) = tt
step_l me x (step.InstallHere i) = tt
step_l me x step.StartHere = tt
step_l me x (step.Ended e) = ended_l me e x.attempt

pub steps_l : (c : Cluster) (me : ℕ) (x : UpNode) (steps : List Step) → Leaves (steps_course c me x steps)
steps_l c me x [] = tt
steps_l c me x (s ∷ steps) = joined_l c me x (cuts.step_course me x s) (λ y. steps_course c me y steps) (step_l me x s) (λ y. steps_l c me y steps)

pub steps_has : (I : AttemptState → Type 0) (c : Cluster) (me : ℕ) (x : UpNode) (steps : List Step) → Has I x → LeadsTo c me (Has I) x (steps_course c me x steps)
steps_has I c me x steps h = leaves_has I c me x (steps_course c me x steps) (steps_l c me x steps) h

-- ---- calls

gone_has : (I : AttemptState → Type 0) (c : Cluster) (me : ℕ) (x : UpNode) (a : AttemptState) (k : Call) (steps : List Step) → I (turn a k).after → LeadsTo c me (Has I) x (cuts.gone_on c me x a k steps)
gone_has I c me x a k steps h = steps_has I c me (going x a k) steps h

counted_has : (I : AttemptState → Type 0) (c : Cluster) (me : ℕ) (x : UpNode) (a : AttemptState) (k : Call) (i : Install) (rest : List Step) (seat : Seat) → I (turn a k).after → LeadsTo c me (Has I) x (cuts.counted c me x a k i rest seat)
counted_has I c me x a k i rest (Member s) h = gone_has I c me x a k rest h
counted_has I c me x a k i rest (Forming s) h =
    let y : UpNode = changed c me x (Counts a k s i) in
    if_either (LeadsTo c me (Has I) x) (installs_now s i) (Keeps (Counts a k s i) (steps_course c me y rest)) (cuts.gone_on c me x a k rest) (steps_has I c me y rest h) (gone_has I c me x a k rest h)

started_has : (I : AttemptState → Type 0) (c : Cluster) (me : ℕ) (x : UpNode) (a : AttemptState) (k : Call) (rest : List Step) (seat : Seat) → I (turn a k).after → LeadsTo c me (Has I) x (cuts.started c me x a k rest seat)
started_has I c me x a k rest (Member s) h = gone_has I c me x a k rest h
started_has I c me x a k rest (Forming s) h =
    let y : UpNode = changed c me x (Starts a k s) in
    let more : Course = steps_course c me y rest in
    if_either (LeadsTo c me (Has I) x) (starts_now s (turn a k).after.plan.epoch) (cuts.kept_if (is_some s.saved.entries.pending) (Starts a k s) more) (cuts.gone_on c me x a k rest)
    (if_either (LeadsTo c me (Has I) x) (is_some s.saved.entries.pending) (Keeps (Starts a k s) more) (Acts (Makes (Starts a k s)) more) (steps_has I c me y rest tt) (steps_has I c me y rest tt)) (gone_has I c me x a k rest h)

turned_by_has : (I : AttemptState → Type 0) (c : Cluster) (me : ℕ) (x : UpNode) (a : AttemptState) (k : Call) (steps : List Step) → I (turn a k).after → LeadsTo c me (Has I) x (cuts.turned_by c me x a k steps)
turned_by_has I c me x a k [] h = gone_has I c me x a k [] h
turned_by_has I c me x a k (step.InstallHere i ∷ rest) h = counted_has I c me x a k i rest x.seat h
turned_by_has I c me x a k (step.StartHere ∷ rest) h = started_has I c me x a k rest x.seat h
turned_by_has I c me x a k (step.Send to m ∷ rest) h = gone_has I c me x a k (step.Send to m ∷ rest) h
turned_by_has I c me x a k (step.SeizeHere d kind ∷ rest) h = gone_has I c me x a k (step.SeizeHere d kind ∷ rest) h
turned_by_has I c me x a k (step.NeedVotes n ∷ rest) h = gone_has I c me x a k (step.NeedVotes n ∷ rest) h
turned_by_has I c me x a k (step.Ended e ∷ rest) h = gone_has I c me x a k (step.Ended e ∷ rest) h

pub turned_all_has : (I : AttemptState → Type 0) (c : Cluster) (me : ℕ) (x : UpNode) (a : AttemptState) (k : Call) → I (turn a k).after → LeadsTo c me (Has I) x (cuts.turned_all c me x a k)
turned_all_has I c me x a k h =
    leads_joined c me (Has I) (Has I) x (turned c me x a k) (if_started c me (turn a k).steps) (turned_by_has I c me x a k (turn a k).steps h)
    (λ y kept. if_either (LeadsTo c me (Has I) y) (starts_in (turn a k).steps) (deciding_course c me y) Stops (leaves_has I c me y (deciding_course c me y) (deciding_by_l c me y y.presidency) kept) kept)

readied_has : (I : AttemptState → Type 0) (c : Cluster) (me : ℕ) (x : UpNode) (o : Option AttemptState) → IsLed I → In I o → Has I x → LeadsTo c me (Has I) x (cuts.readied_course c me x o)
readied_has I c me x None keeps here h = h
readied_has I c me x (Some a) keeps here h = turned_all_has I c me x a Own_ready (keeps a Own_ready tt tt here)

own_ready_leads : (I : AttemptState → Type 0) (c : Cluster) (me : ℕ) (x : UpNode) → IsLed I → Has I x → LeadsTo c me (Has I) x (cuts.own_ready_course c me x)
own_ready_leads I c me x keeps h = if_either (LeadsTo c me (Has I) x) (joins x.tasks) Stops (cuts.readied_course c me x x.attempt) h (readied_has I c me x x.attempt keeps h h)

pub own_ready_has : (I : AttemptState → Type 0) (c : Cluster) (me : ℕ) (x : UpNode) → IsKept I → Has I x → LeadsTo c me (Has I) x (cuts.own_ready_course c me x)
own_ready_has I c me x keeps h = own_ready_leads I c me x (kept_led I keeps) h

pub called_has : (I : AttemptState → Type 0) (c : Cluster) (me : ℕ) (x : UpNode) (a : AttemptState) (k : Call) → IsLed I → I (turn a k).after → LeadsTo c me (Has I) x (cuts.called c me x a k)
called_has I c me x a k keeps h =
    leads_joined c me (Has I) (Has I) x (cuts.turned_all c me x a k) (if_installed c me (turn a k).steps) (turned_all_has I c me x a k h)
    (λ y kept. if_either (LeadsTo c me (Has I) y) (begins_install (turn a k).steps) (cuts.own_ready_course c me y) Stops (own_ready_leads I c me y keeps kept) kept)

pub is_choice : (p : Phase) → is_choosing p ≡ true → p ≡ Choosing
is_choice Choosing is = refl
is_choice Collecting is = absurd (false_true is)
is_choice SeizingVotes is = absurd (false_true is)
is_choice SeizingOthers is = absurd (false_true is)
is_choice Installing is = absurd (false_true is)
is_choice Over is = absurd (false_true is)

-- a call of which it is known what it leaves
pub going_leads : (I : AttemptState → Type 0) (c : Cluster) (me : ℕ) (x : UpNode) (a : AttemptState) (k : Call) → IsLed I → I (turn a k).after → LeadsTo c me (Has I) x (cuts.going_course c me x a k)
going_leads I c me x a k keeps h =
    let t : AttemptState = (turn a k).after in
    by_test (LeadsTo c me (Has I) x) (is_choosing t.phase) (Acts (Goes_on a k) (cuts.called c me (going x a k) t (With_votes (votes_in c t)))) (cuts.called c me x a k)
    (λ chooses. called_has I c me (going x a k) t (With_votes (votes_in c t)) keeps (keeps t (With_votes (votes_in c t)) (is_choice t.phase chooses) tt h)) (λ rests. called_has I c me x a k keeps h)

pub going_has : (I : AttemptState → Type 0) (c : Cluster) (me : ℕ) (x : UpNode) (a : AttemptState) (k : Call) → IsKept I → I (turn a k).after → LeadsTo c me (Has I) x (cuts.going_course c me x a k)
going_has I c me x a k keeps h = going_leads I c me x a k (kept_led I keeps) h
