-- What an attempt does is ordinary.
use Rattle.std.specs.Prelude.{ℕ, ◌==◌, nat_lt, Bool, List, [], ◌∷◌, Option, None, Some, IfSome, is_some}
use Rattle.std.specs.List.{AllByRecursion}
use Rattle.std.specs.Option.{unwrap_or}
use Rattle.cl_base.specs.declared.panic.Panic.TheVariants as panic
use Rattle.cmm_attempt.specs.declared.step.AttemptEnd.{AttemptEnd}
use Rattle.cmm_attempt.specs.declared.step.Step.{Step}
use Rattle.cmm_attempt.specs.declared.step.Step.TheVariants as step
use Rattle.cmm_attempt.specs.Attempts.{AttemptState, newest_installed}
use Rattle.cmm_attempt.specs.Calls.{Call, Own_ready, With_votes, starts_in, turn}
use Rattle.cmm_attempt.specs.Attempts.{Turn}
use Rattle.cmm_attempt.proofs.Basics.{and_cases, if_either, same_number}
use Rattle.attempt_laws.proofs.Walk.{if_with}
use Rattle.cmm_member.specs.Nodes.{NodeState}
use Rattle.std.specs.Prelude.{◌≡◌, ◌&&◌, nat_le, true}
use Rattle.std.proofs.Common.{refl}
use Rattle.device_queue.specs.Queue.{joins}
use Rattle.rgm_president.specs.Decisions as decisions
use Rattle.seize.specs.declared.kind.SeizeKind.{SeizeKind}
use Rattle.status_report.specs.declared.node_entry.DownCause.TheVariants as down
use Rattle.wire.specs.declared.message.Body.TheVariants as body
use Rattle.wire.specs.declared.message.Install.{Install}
use Rattle.wire.specs.declared.message.Order.{Order}
use Rattle.node_model.specs.declared.cluster.Cluster.{Cluster}
use Rattle.node_model.specs.declared.node.UpNode.{UpNode}
use Rattle.node_model.specs.declared.presidency.Presidency.{Presidency}
use Rattle.node_model.specs.declared.seat.Seat.{Seat}
use Rattle.node_model.specs.declared.seat.Seat.TheVariants.{Forming, Member}
use Rattle.node_model.specs.Attempts.{begins_install, installs_now, is_choosing, left_out_by, own_promise, starts_now, votes_in}
use Rattle.node_model.specs.Configurations.{in_force}
use Rattle.node_model.specs.Deciding.{is_held_up, may_order, order_sent, orders_sent}
use Rattle.node_model.specs.Seats.{promised_of, promising}
use Rattle.refinement.specs.Courses.{Course}
use Rattle.refinement.specs.Courses.Course.{Acts, Falls, Keeps, Stops}
use Rattle.refinement.specs.Cuts as cuts
use Rattle.refinement.specs.Cuts.{begun_course, called, counted, deciding_by_course, deciding_course, ended_course, excluded_course, going_course, gone_on, if_installed, if_started, kept_if, leading_course, own_ready_course, queued_course, readied_course, step_course, steps_course, turned, turned_all, turned_by, writing}
use Rattle.refinement.specs.Doings.{Change, changed, going}
use Rattle.refinement.specs.Doings.Act.{Goes_on, Makes}
use Rattle.refinement.specs.Doings.Change.{Counts, Leads, Starts}
use Rattle.run_history.specs.Names.{AttemptNames, UpNames}
use Rattle.run_history.proofs.LineAttempts.{AllSteps, StepNames, begun_names, turn_names}
use Rattle.run_history.proofs.Kept.{change_names, then_is}
use Rattle.run_history.proofs.Lists.{of_each}
use Rattle.run_history.proofs.Ordinary.{ChangesSo, GivesAside, IsOrdinary, Knows}

-- The president decides.

pub orders_aside : (me : ℕ) (orders : List (ℕ × Order)) → AllByRecursion GivesAside (orders_sent me orders)
unfolding orders_sent
orders_aside me orders = of_each GivesAside (order_sent me) orders (λ e. if_either (AllByRecursion GivesAside) (e.0 == me) [] _ tt (tt, tt))

deciding_by_is : (D : ℕ → Type 0) (c : Cluster) (me : ℕ) (x : UpNode) (o : Option Presidency) → IsOrdinary D (deciding_by_course c me x o)
deciding_by_is D c me x None = tt
deciding_by_is D c me x (Some p) =
    let t : decisions.Turn = decisions.decision (in_force c x) x.second (is_held_up p) p.groups in
    if_either (IsOrdinary D) (may_order p.groups) (cuts.decided_course me x p t) Stops (orders_aside me t.orders, (tt, tt)) tt

pub deciding_is : (D : ℕ → Type 0) (c : Cluster) (me : ℕ) (x : UpNode) → IsOrdinary D (deciding_course c me x)
deciding_is D c me x = deciding_by_is D c me x x.presidency

-- The steps of an attempt.

excluded_is : (D : ℕ → Type 0) (me e newest : ℕ) (o : Option ℕ) → IsOrdinary D (excluded_course me e newest o)
excluded_is D me e newest None = tt
excluded_is D me e newest (Some m) =
    if_either (IsOrdinary D) (m == me) (Falls (down.Panic (panic.Excluded newest))) (writing m (body.Excluded e newest)) tt (tt, tt)

ended_is : (D : ℕ → Type 0) (me : ℕ) (end : AttemptEnd) (o : Option AttemptState) → IsOrdinary D (ended_course me end o)
ended_is D me end None = tt
ended_is D me end (Some a) = (tt, excluded_is D me a.plan.epoch (unwrap_or (newest_installed a) 0) (left_out_by end))

queued_is : (D : ℕ → Type 0) (d : ℕ) (kind : SeizeKind) (o : Option AttemptState) → D d → IsOrdinary D (queued_course d kind o)
queued_is D d kind None h = tt
queued_is D d kind (Some a) h = (h, tt)

step_is : (D : ℕ → Type 0) (me : ℕ) (x : UpNode) (s : Step) → StepNames D s → IsOrdinary D (step_course me x s)
step_is D me x (step.Send to m) h = (tt, tt)
step_is D me x (step.SeizeHere d kind) h = queued_is D d kind x.attempt h
step_is D me x (step.NeedVotes n) h = tt
step_is D me x (step.InstallHere i) h = tt
step_is D me x step.StartHere h = tt
step_is D me x (step.Ended e) h = ended_is D me e x.attempt

steps_is : (D : ℕ → Type 0) (c : Cluster) (me : ℕ) (x : UpNode) (steps : List Step) → Knows c D → UpNames D x → AllSteps D steps → IsOrdinary D (steps_course c me x steps)
steps_is D c me x [] K n h = tt
steps_is D c me x (s ∷ steps) K n h =
    then_is D c me x (step_course me x s) (λ y. steps_course c me y steps) K n (step_is D me x s h.0) (λ y m. steps_is D c me y steps K m h.1)

-- A call.

kept_is : (D : ℕ → Type 0) (b : Bool) (change : Change) (rest : Course) → ChangesSo D change → IsOrdinary D rest → IsOrdinary D (kept_if b change rest)
kept_is D b change rest h k = if_either (IsOrdinary D) b (Keeps change rest) (Acts (Makes change) rest) (h, k) (h, k)

gone_is : (D : ℕ → Type 0) (c : Cluster) (me : ℕ) (x : UpNode) (a : AttemptState) (k : Call) (steps : List Step) → Knows c D → UpNames D x → AttemptNames D a → AllSteps D steps
    → IsOrdinary D (gone_on c me x a k steps)
gone_is D c me x a k steps K n h s = (h, steps_is D c me (going x a k) steps K (n.0, (turn_names D a k h).0) s)

counted_is : (D : ℕ → Type 0) (c : Cluster) (me : ℕ) (x : UpNode) (a : AttemptState) (k : Call) (i : Install) (rest : List Step) (seat : Seat) → Knows c D → UpNames D x → AttemptNames D a
    → AllSteps D rest → IsOrdinary D (counted c me x a k i rest seat)
counted_is D c me x a k i rest (Member s) K n h r = gone_is D c me x a k rest K n h r
counted_is D c me x a k i rest (Forming s) K n h r =
    if_either (IsOrdinary D) (installs_now s i) (Keeps (Counts a k s i) (steps_course c me (changed c me x (Counts a k s i)) rest)) (gone_on c me x a k rest)
    (h, steps_is D c me (changed c me x (Counts a k s i)) rest K (change_names D c me x (Counts a k s i) K h n) r) (gone_is D c me x a k rest K n h r)

-- a node starts, or sits, in its session alone
pub in_session : (s : NodeState) (e : ℕ) → starts_now s e ≡ true → s.session ≡ e
in_session s e now = same_number s.session e (and_cases (nat_le 1 e) (s.session == e) (and_cases (nat_le 1 e && (s.session == e)) (s.saved.installed == e) now).0).1

started_is : (D : ℕ → Type 0) (c : Cluster) (me : ℕ) (x : UpNode) (a : AttemptState) (k : Call) (rest : List Step) (seat : Seat) → Knows c D → UpNames D x → AttemptNames D a
    → AllSteps D rest → IsOrdinary D (cuts.started c me x a k rest seat)
started_is D c me x a k rest (Member s) K n h r = gone_is D c me x a k rest K n h r
started_is D c me x a k rest (Forming s) K n h r =
    let e : ℕ = (turn a k).after.plan.epoch in
    let y : UpNode = changed c me x (Starts a k s) in
    if_with (IsOrdinary D) (starts_now s e) (starts_now s e) (kept_if (is_some s.saved.entries.pending) (Starts a k s) (steps_course c me y rest)) (gone_on c me x a k rest) refl
    (λ now. kept_is D (is_some s.saved.entries.pending) (Starts a k s) (steps_course c me y rest) (in_session s e now) (steps_is D c me y rest K (n.0, tt) r))
    (λ now. gone_is D c me x a k rest K n h r)

turned_by_is : (D : ℕ → Type 0) (c : Cluster) (me : ℕ) (x : UpNode) (a : AttemptState) (k : Call) (steps : List Step) → Knows c D → UpNames D x → AttemptNames D a → AllSteps D steps
    → IsOrdinary D (turned_by c me x a k steps)
turned_by_is D c me x a k [] K n h s = gone_is D c me x a k [] K n h s
turned_by_is D c me x a k (step.InstallHere i ∷ rest) K n h s = counted_is D c me x a k i rest x.seat K n h s.1
turned_by_is D c me x a k (step.StartHere ∷ rest) K n h s = started_is D c me x a k rest x.seat K n h s.1
turned_by_is D c me x a k (step.Send to m ∷ rest) K n h s = gone_is D c me x a k (step.Send to m ∷ rest) K n h s
turned_by_is D c me x a k (step.SeizeHere d kind ∷ rest) K n h s = gone_is D c me x a k (step.SeizeHere d kind ∷ rest) K n h s
turned_by_is D c me x a k (step.NeedVotes v ∷ rest) K n h s = gone_is D c me x a k (step.NeedVotes v ∷ rest) K n h s
turned_by_is D c me x a k (step.Ended e ∷ rest) K n h s = gone_is D c me x a k (step.Ended e ∷ rest) K n h s

if_started_is : (D : ℕ → Type 0) (c : Cluster) (me : ℕ) (steps : List Step) (y : UpNode) → IsOrdinary D (if_started c me steps y)
if_started_is D c me steps y = if_either (IsOrdinary D) (starts_in steps) (deciding_course c me y) Stops (deciding_is D c me y) tt

turned_all_is : (D : ℕ → Type 0) (c : Cluster) (me : ℕ) (x : UpNode) (a : AttemptState) (k : Call) → Knows c D → UpNames D x → AttemptNames D a → IsOrdinary D (turned_all c me x a k)
turned_all_is D c me x a k K n h =
    then_is D c me x (turned c me x a k) (if_started c me (turn a k).steps) K n (turned_by_is D c me x a k (turn a k).steps K n h (turn_names D a k h).1)
    (λ y m. if_started_is D c me (turn a k).steps y)

readied_is : (D : ℕ → Type 0) (c : Cluster) (me : ℕ) (x : UpNode) (o : Option AttemptState) → Knows c D → UpNames D x → IfSome o (AttemptNames D) → IsOrdinary D (readied_course c me x o)
readied_is D c me x None K n h = tt
readied_is D c me x (Some a) K n h = turned_all_is D c me x a Own_ready K n h

pub own_ready_is : (D : ℕ → Type 0) (c : Cluster) (me : ℕ) (x : UpNode) → Knows c D → UpNames D x → IsOrdinary D (own_ready_course c me x)
own_ready_is D c me x K n =
    if_either (IsOrdinary D) (joins x.tasks) Stops (readied_course c me x x.attempt) tt (readied_is D c me x x.attempt K n n.1)

called_is : (D : ℕ → Type 0) (c : Cluster) (me : ℕ) (x : UpNode) (a : AttemptState) (k : Call) → Knows c D → UpNames D x → AttemptNames D a → IsOrdinary D (called c me x a k)
called_is D c me x a k K n h =
    then_is D c me x (turned_all c me x a k) (if_installed c me (turn a k).steps) K n (turned_all_is D c me x a k K n h)
    (λ y m. if_either (IsOrdinary D) (begins_install (turn a k).steps) (own_ready_course c me y) Stops (own_ready_is D c me y K m) tt)

pub going_is : (D : ℕ → Type 0) (c : Cluster) (me : ℕ) (x : UpNode) (a : AttemptState) (k : Call) → Knows c D → UpNames D x → AttemptNames D a → IsOrdinary D (going_course c me x a k)
going_is D c me x a k K n h =
    let t : AttemptState = (turn a k).after in
    let named : AttemptNames D t = (turn_names D a k h).0 in
    if_either (IsOrdinary D) (is_choosing t.phase) (Acts (Goes_on a k) (called c me (going x a k) t (With_votes (votes_in c t)))) (called c me x a k)
    (h, called_is D c me (going x a k) t (With_votes (votes_in c t)) K (n.0, named) named) (called_is D c me x a k K n h)

-- An attempt begins.

pub leading_is : (D : ℕ → Type 0) (c : Cluster) (me : ℕ) (x : UpNode) (p members : ℕ) → Knows c D → UpNames D x → IsOrdinary D (leading_course c me x p members)
leading_is D c me x p members K n =
    let y : UpNode = changed c me x (Leads p members) in
    let t : Turn = cuts.first_turn c me x p members in
    let m : UpNames D y = change_names D c me x (Leads p members) K tt n in
    let named : AttemptNames D t.after × AllSteps D t.steps =
    begun_names D p members (own_promise me (record (promising x p) { greatest = p }) p) c.attached c.id K.attached in
    if_either (IsOrdinary D) (nat_lt (promised_of x) p) (Keeps (Leads p members) (begun_course c me y t)) Stops (
      tt,
      if_either (IsOrdinary D) (is_choosing t.after.phase) (called c me y t.after (With_votes (votes_in c t.after))) (steps_course c me y t.steps)
          (called_is D c me y t.after (With_votes (votes_in c t.after)) K m named.0) (steps_is D c me y t.steps K m named.1),
    )
    tt
