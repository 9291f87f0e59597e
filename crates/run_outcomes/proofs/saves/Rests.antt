-- Once a node has done what it does, its attempt asks for no votes: these are given at once. Courses that leave the attempt, or that end so.
use Rattle.std.specs.Prelude.{ℕ, ◌≡◌, ◌==◌, ◌&&◌, ◌++◌, nat_lt, length, map, false, List, [], ◌∷◌, Option, None, Some, is_some}
use Rattle.std.specs.List.{filter_map}
use Rattle.std.specs.Option.{unwrap_or}
use Rattle.std.proofs.Common.{refl, sym, subst}
use Rattle.cl_base.specs.Sets.{has}
use Rattle.cl_base.specs.declared.panic.Panic.TheVariants as panic
use Rattle.cmm_attempt.proofs.Basics.{if_either}
use Rattle.cmm_attempt.specs.Attempts.{AttemptState, Turn, admitted, all_ready, asked_plain, asked_votes, counted_by, counting, in_phase, installing, known, knowing, newest_installed, own_readying, own_readying_in, plain_devices, possible, seizing_others, seizing_votes, starting, voting, waits, with_steps}
use Rattle.cmm_attempt.specs.Calls.{Call, Own_ready, With_votes, starts_in, turn}
use Rattle.cmm_attempt.specs.Installs.{send_start}
use Rattle.cmm_attempt.specs.Plans.{others_of}
use Rattle.cmm_attempt.specs.Seizings.{all_settled, request_for}
use Rattle.cmm_attempt.specs.declared.counting.BothVotes.{BothVotes}
use Rattle.cmm_attempt.specs.declared.phase.Phase.{Phase}
use Rattle.cmm_attempt.specs.declared.phase.Phase.TheVariants.{Choosing, Collecting, Installing, Over, SeizingOthers, SeizingVotes}
use Rattle.cmm_attempt.specs.declared.seizing.Seizing.{Seizing}
use Rattle.cmm_attempt.specs.declared.step.AttemptEnd.{AttemptEnd}
use Rattle.cmm_attempt.specs.declared.step.Step.{Step}
use Rattle.cmm_attempt.specs.declared.step.Step.TheVariants as step
use Rattle.device_queue.specs.Queue.{after_seize, joins}
use Rattle.node_model.specs.Attempts.{begins_install, installs_now, is_choosing, left_out_by, starts_now, votes_in}
use Rattle.node_model.specs.Deciding.{may_order}
use Rattle.node_model.specs.Members.{rested_by}
use Rattle.node_model.specs.Seats.{promised_of, promising, record_of}
use Rattle.node_model.specs.declared.cluster.Cluster.{Cluster}
use Rattle.node_model.specs.declared.node.UpNode.{UpNode}
use Rattle.node_model.specs.declared.presidency.Presidency.{Presidency}
use Rattle.node_model.specs.declared.seat.Seat.{Seat}
use Rattle.node_model.specs.declared.seat.Seat.TheVariants.{Forming, Member}
use Rattle.refinement.specs.Courses.{Course, joined}
use Rattle.refinement.specs.Courses.Course.{Acts, Falls, Keeps, Stops}
use Rattle.refinement.specs.Cuts as cuts
use Rattle.refinement.specs.Cuts.{deciding_course, if_installed, if_started, steps_course, turned}
use Rattle.refinement.specs.Doings.{Act, Change, acted, changed, going}
use Rattle.refinement.specs.Doings.Act.{Ends, Goes_on, Makes, Queues}
use Rattle.refinement.specs.Doings.Change.{Counts, Leads, Promises, Starts}
use Rattle.seize.specs.Seizing as seizing
use Rattle.seize.specs.declared.kind.SeizeKind.{SeizeKind}
use Rattle.status_report.specs.declared.node_entry.DownCause.TheVariants as down
use Rattle.wire.specs.declared.message.Body.TheVariants as body
use Rattle.wire.specs.declared.message.Install.{Install}
use Rattle.run_downs.proofs.Courses.{by_test}
use Rattle.run_outcomes.specs.saves.Kept.{Rests, RestsIn}
use Rattle.run_outcomes.specs.saves.Courses.{LeadsTo, Leaves, LeavesAct, LeavesChange}

-- ---- where a course leads

abbrev pub Any : UpNode → Type 0
Any x = Unit {0}

pub leads_any : (c : Cluster) (me : ℕ) (x : UpNode) (k : Course) → LeadsTo c me Any x k
leads_any c me x Stops = tt
leads_any c me x (Acts a rest) = leads_any c me (acted c me x a) rest
leads_any c me x (Keeps change rest) = leads_any c me (changed c me x change) rest
leads_any c me x (Falls why) = tt

pub leads_joined : (c : Cluster) (me : ℕ) (P Q : UpNode → Type 0) (x : UpNode) (k : Course) (next : UpNode → Course) → LeadsTo c me P x k → ((y : UpNode) → P y → LeadsTo c me Q y (next y)) → LeadsTo c me Q x (joined c me x k next)
leads_joined c me P Q x Stops next h f = f x h
leads_joined c me P Q x (Acts a rest) next h f = leads_joined c me P Q (acted c me x a) rest next h f
leads_joined c me P Q x (Keeps change rest) next h f = leads_joined c me P Q (changed c me x change) rest next h f
leads_joined c me P Q x (Falls why) next h f = tt

-- ---- courses that leave the attempt, or end it

promised_rests : (x : UpNode) (p : ℕ) (o : Option AttemptState) → Rests (rested_by (promising x p) o)
promised_rests x p None = tt
promised_rests x p (Some a) = tt

change_rests : (c : Cluster) (me : ℕ) (x : UpNode) (change : Change) → LeavesChange change → Rests x → Rests (changed c me x change)
change_rests c me x (Counts a k s i) leaves h = absurd leaves
change_rests c me x (Leads p members) leaves h = absurd leaves
change_rests c me x (Promises p) leaves h = promised_rests x p x.attempt
change_rests c me x (Starts a k s) leaves h = tt
change_rests c me x _ leaves h = h

act_rests : (c : Cluster) (me : ℕ) (x : UpNode) (a : Act) → LeavesAct a → Rests x → Rests (acted c me x a)
act_rests c me x (Goes_on a k) leaves h = absurd leaves
act_rests c me x (Ends a e) leaves h = tt
act_rests c me x (Makes change) leaves h = change_rests c me x change leaves h
act_rests c me x (Queues a d kind) leaves h =
    if_either Rests (has a.plan.members me) (record x { tasks = after_seize x.tasks d (seizing.begun kind a.plan.epoch a.plan.members me c.id (has (record_of x).valid d)) }) x h h
act_rests c me x _ leaves h = h

pub leaves_rests : (c : Cluster) (me : ℕ) (x : UpNode) (k : Course) → Leaves k → Rests x → LeadsTo c me Rests x k
leaves_rests c me x Stops leaves h = h
leaves_rests c me x (Acts a rest) leaves h = leaves_rests c me (acted c me x a) rest leaves.1 (act_rests c me x a leaves.0 h)
leaves_rests c me x (Keeps change rest) leaves h = leaves_rests c me (changed c me x change) rest leaves.1 (change_rests c me x change leaves.0 h)
leaves_rests c me x (Falls why) leaves h = tt

pub joined_l : (c : Cluster) (me : ℕ) (x : UpNode) (k : Course) (next : UpNode → Course) → Leaves k → ((y : UpNode) → Leaves (next y)) → Leaves (joined c me x k next)
joined_l c me x Stops next h f = f x
joined_l c me x (Acts a rest) next h f = (h.0, joined_l c me (acted c me x a) rest next h.1 f)
joined_l c me x (Keeps change rest) next h f = (h.0, joined_l c me (changed c me x change) rest next h.1 f)
joined_l c me x (Falls why) next h f = tt

deciding_by_l : (c : Cluster) (me : ℕ) (x : UpNode) (o : Option Presidency) → Leaves (cuts.deciding_by_course c me x o)
deciding_by_l c me x None = tt
deciding_by_l c me x (Some p) = if_either Leaves (may_order p.groups) _ Stops (tt, (tt, tt)) tt

excluded_l : (me e newest : ℕ) (o : Option ℕ) → Leaves (cuts.excluded_course me e newest o)
excluded_l me e newest None = tt
excluded_l me e newest (Some m) = if_either Leaves (m == me) (Falls (down.Panic (panic.Excluded newest))) (cuts.writing m (body.Excluded e newest)) tt (tt, tt)

ended_l : (me : ℕ) (e : AttemptEnd) (o : Option AttemptState) → Leaves (cuts.ended_course me e o)
ended_l me e None = tt
ended_l me e (Some a) = (tt, excluded_l me a.plan.epoch (unwrap_or (newest_installed a) 0) (left_out_by e))

queued_l : (d : ℕ) (kind : SeizeKind) (o : Option AttemptState) → Leaves (cuts.queued_course d kind o)
queued_l d kind None = tt
queued_l d kind (Some a) = (tt, tt)

step_l : (me : ℕ) (x : UpNode) (s : Step) → Leaves (cuts.step_course me x s)
step_l me x (step.Send to m) = (tt, tt)
step_l me x (step.SeizeHere d kind) = queued_l d kind x.attempt
step_l me x (step.NeedVotes n) = tt
step_l me x (step.InstallHere i) = tt
step_l me x step.StartHere = tt
step_l me x (step.Ended e) = ended_l me e x.attempt

steps_l : (c : Cluster) (me : ℕ) (x : UpNode) (steps : List Step) → Leaves (steps_course c me x steps)
steps_l c me x [] = tt
steps_l c me x (s ∷ steps) = joined_l c me x (cuts.step_course me x s) (λ y. steps_course c me y steps) (step_l me x s) (λ y. steps_l c me y steps)

pub steps_rest : (c : Cluster) (me : ℕ) (x : UpNode) (steps : List Step) → Rests x → LeadsTo c me Rests x (steps_course c me x steps)
steps_rest c me x steps h = leaves_rests c me x (steps_course c me x steps) (steps_l c me x steps) h

-- ---- calls

abbrev RestsTurn : Turn → Type 0
RestsTurn t = is_choosing t.after.phase ≡ false

installing_rests : (a : AttemptState) → RestsTurn (installing a)
unfolding installing
installing_rests a = refl

plain_rests : (a : AttemptState) (more : List Seizing) → RestsTurn (asked_plain a more)
plain_rests a more = if_either RestsTurn (length more == 0) (installing a) (with_steps (record (in_phase a SeizingOthers) { devices = a.devices ++ more }) (filter_map (request_for a.plan) more)) (installing_rests a) refl

others_rest : (a : AttemptState) → RestsTurn (seizing_others a)
unfolding seizing_others
others_rest a = plain_rests a (plain_devices a)

counted_rests : (a : AttemptState) (o : Option AttemptEnd) → RestsTurn (counted_by a o)
counted_rests a (Some e) = refl
counted_rests a None = others_rest _

counting_rests : (a : AttemptState) → RestsTurn (counting a)
unfolding counting
counting_rests a = counted_rests a _

asked_rests : (a : AttemptState) → a.phase ≡ SeizingVotes → RestsTurn (asked_votes a)
unfolding asked_votes
asked_rests a is = if_either RestsTurn (all_settled a.devices) (counting a) (with_steps a (filter_map (request_for a.plan) a.devices)) (counting_rests a) (subst (λ p. is_choosing p ≡ false) (sym is) refl)

possible_rests : (a : AttemptState) (o : Option AttemptEnd) → a.phase ≡ SeizingVotes → RestsTurn (possible a o)
unfolding seizing_votes
possible_rests a (Some e) is = refl
possible_rests a None is = asked_rests _ is

known_rests : (a : AttemptState) (o : Option ℕ) → a.phase ≡ SeizingVotes → RestsTurn (known a o)
known_rests a (Some m) is = refl
known_rests a None is = possible_rests a _ is

admitted_rests : (a : AttemptState) (o : Option ℕ) → a.phase ≡ SeizingVotes → RestsTurn (admitted a o)
unfolding knowing
admitted_rests a (Some m) is = refl
admitted_rests a None is = known_rests a _ is

voting_rests : (a : AttemptState) (both : BothVotes) → RestsTurn (voting a both)
unfolding voting
voting_rests a both = admitted_rests _ _ refl

starting_rests : (a : AttemptState) → is_choosing a.phase ≡ false → RestsTurn (starting a)
unfolding starting
starting_rests a h = if_either RestsTurn (a.own_ready && all_ready a) (with_steps (record a { phase = Over }) (step.StartHere ∷ map (send_start a.plan) (others_of a.plan))) (waits a) refl h

own_readying_rests : (a : AttemptState) → is_choosing a.phase ≡ false → RestsTurn (own_readying a)
unfolding own_readying
own_readying_rests a h = by_phase a.phase
  where
    by_phase : (p : Phase) → RestsTurn (own_readying_in a p)
    by_phase Installing = starting_rests _ h
    by_phase Collecting = h
    by_phase Choosing = h
    by_phase SeizingVotes = h
    by_phase SeizingOthers = h
    by_phase Over = h

-- ---- what a node does by a call

gone_rests : (c : Cluster) (me : ℕ) (x : UpNode) (a : AttemptState) (k : Call) (steps : List Step) → RestsTurn (turn a k) → LeadsTo c me Rests x (cuts.gone_on c me x a k steps)
gone_rests c me x a k steps h = steps_rest c me (going x a k) steps h

counted_by_rests : (c : Cluster) (me : ℕ) (x : UpNode) (a : AttemptState) (k : Call) (i : Install) (rest : List Step) (seat : Seat) → RestsTurn (turn a k) → LeadsTo c me Rests x (cuts.counted c me x a k i rest seat)
counted_by_rests c me x a k i rest (Member s) h = gone_rests c me x a k rest h
counted_by_rests c me x a k i rest (Forming s) h =
    let y : UpNode = changed c me x (Counts a k s i) in
    if_either (LeadsTo c me Rests x) (installs_now s i) (Keeps (Counts a k s i) (steps_course c me y rest)) (cuts.gone_on c me x a k rest) (steps_rest c me y rest h) (gone_rests c me x a k rest h)

started_rests : (c : Cluster) (me : ℕ) (x : UpNode) (a : AttemptState) (k : Call) (rest : List Step) (seat : Seat) → RestsTurn (turn a k) → LeadsTo c me Rests x (cuts.started c me x a k rest seat)
started_rests c me x a k rest (Member s) h = gone_rests c me x a k rest h
started_rests c me x a k rest (Forming s) h =
    let y : UpNode = changed c me x (Starts a k s) in
    let more : Course = steps_course c me y rest in
    if_either (LeadsTo c me Rests x) (starts_now s (turn a k).after.plan.epoch) (cuts.kept_if (is_some s.saved.entries.pending) (Starts a k s) more) (cuts.gone_on c me x a k rest)
    (if_either (LeadsTo c me Rests x) (is_some s.saved.entries.pending) (Keeps (Starts a k s) more) (Acts (Makes (Starts a k s)) more) (steps_rest c me y rest tt) (steps_rest c me y rest tt)) (gone_rests c me x a k rest h)

turned_by_rests : (c : Cluster) (me : ℕ) (x : UpNode) (a : AttemptState) (k : Call) (steps : List Step) → RestsTurn (turn a k) → LeadsTo c me Rests x (cuts.turned_by c me x a k steps)
turned_by_rests c me x a k [] h = gone_rests c me x a k [] h
turned_by_rests c me x a k (step.InstallHere i ∷ rest) h = counted_by_rests c me x a k i rest x.seat h
turned_by_rests c me x a k (step.StartHere ∷ rest) h = started_rests c me x a k rest x.seat h
turned_by_rests c me x a k (step.Send to m ∷ rest) h = gone_rests c me x a k (step.Send to m ∷ rest) h
turned_by_rests c me x a k (step.SeizeHere d kind ∷ rest) h = gone_rests c me x a k (step.SeizeHere d kind ∷ rest) h
turned_by_rests c me x a k (step.NeedVotes n ∷ rest) h = gone_rests c me x a k (step.NeedVotes n ∷ rest) h
turned_by_rests c me x a k (step.Ended e ∷ rest) h = gone_rests c me x a k (step.Ended e ∷ rest) h

turned_all_rests : (c : Cluster) (me : ℕ) (x : UpNode) (a : AttemptState) (k : Call) → RestsTurn (turn a k) → LeadsTo c me Rests x (cuts.turned_all c me x a k)
turned_all_rests c me x a k h =
    leads_joined c me Rests Rests x (turned c me x a k) (if_started c me (turn a k).steps) (turned_by_rests c me x a k (turn a k).steps h)
    (λ y rests. if_either (LeadsTo c me Rests y) (starts_in (turn a k).steps) (deciding_course c me y) Stops (leaves_rests c me y (deciding_course c me y) (deciding_by_l c me y y.presidency) rests) rests)

readied_rests : (c : Cluster) (me : ℕ) (x : UpNode) (o : Option AttemptState) → RestsIn o → Rests x → LeadsTo c me Rests x (cuts.readied_course c me x o)
readied_rests c me x None has h = h
readied_rests c me x (Some a) has h = turned_all_rests c me x a Own_ready (own_readying_rests a has)

pub own_ready_rests : (c : Cluster) (me : ℕ) (x : UpNode) → Rests x → LeadsTo c me Rests x (cuts.own_ready_course c me x)
own_ready_rests c me x h = if_either (LeadsTo c me Rests x) (joins x.tasks) Stops (cuts.readied_course c me x x.attempt) h (readied_rests c me x x.attempt h h)

called_rests : (c : Cluster) (me : ℕ) (x : UpNode) (a : AttemptState) (k : Call) → RestsTurn (turn a k) → LeadsTo c me Rests x (cuts.called c me x a k)
called_rests c me x a k h =
    leads_joined c me Rests Rests x (cuts.turned_all c me x a k) (if_installed c me (turn a k).steps) (turned_all_rests c me x a k h)
    (λ y rests. if_either (LeadsTo c me Rests y) (begins_install (turn a k).steps) (cuts.own_ready_course c me y) Stops (own_ready_rests c me y rests) rests)

pub going_rests : (c : Cluster) (me : ℕ) (x : UpNode) (a : AttemptState) (k : Call) → LeadsTo c me Rests x (cuts.going_course c me x a k)
going_rests c me x a k =
    let t : AttemptState = (turn a k).after in
    by_test (LeadsTo c me Rests x) (is_choosing t.phase) (Acts (Goes_on a k) (cuts.called c me (going x a k) t (With_votes (votes_in c t)))) (cuts.called c me x a k)
    (λ chooses. called_rests c me (going x a k) t (With_votes (votes_in c t)) (voting_rests t (votes_in c t))) (λ rests. called_rests c me x a k rests)

-- an attempt begins
leading_rests : (c : Cluster) (me : ℕ) (x : UpNode) (p members : ℕ) → Rests x → LeadsTo c me Rests x (cuts.leading_course c me x p members)
leading_rests c me x p members h =
    let y : UpNode = changed c me x (Leads p members) in
    let t : Turn = cuts.first_turn c me x p members in
    if_either (LeadsTo c me Rests x) (nat_lt (promised_of x) p) (Keeps (Leads p members) (cuts.begun_course c me y t)) Stops
    (by_test (LeadsTo c me Rests y) (is_choosing t.after.phase) (cuts.called c me y t.after (With_votes (votes_in c t.after))) (steps_course c me y t.steps)
    (λ chooses. called_rests c me y t.after (With_votes (votes_in c t.after)) (voting_rests t.after (votes_in c t.after))) (λ rests. steps_rest c me y t.steps rests)) h

pub forming_rests : (c : Cluster) (me : ℕ) (x : UpNode) (o : Option ℕ) → Rests x → LeadsTo c me Rests x (cuts.forming_course c me x o)
forming_rests c me x None h = h
forming_rests c me x (Some members) h = leading_rests c me x _ members h
