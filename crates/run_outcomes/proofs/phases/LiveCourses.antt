-- The courses of a node leave its attempt so that it is not over; or it was to start, while its seat was not in its session, which it is in each run.
use Rattle.std.specs.Prelude.{ℕ, ◌≡◌, ◌⊎◌, nat_lt, Bool, true, false, List, [], ◌∷◌, Option, None, Some, is_some}
use Rattle.std.specs.Option.{unwrap_or}
use Rattle.std.proofs.Common.{refl, ap, ◌∙◌, inl, inr}
use Rattle.cmm_attempt.proofs.Basics.{false_true, if_either}
use Rattle.cmm_attempt.specs.declared.attached.AttachedDevice.{AttachedDevice}
use Rattle.cmm_attempt.specs.Attempts.{AttemptState, Turn, all_promised, beginning, choosing, chosen_by, collects, first_state, is_over, newest_installed, promises_of, with_steps}
use Rattle.cmm_attempt.specs.Promises.{newest_shown, promised_by, shown_by}
use Rattle.cmm_attempt.specs.declared.phase.Phase.{Phase}
use Rattle.cmm_attempt.specs.declared.phase.Phase.TheVariants.{Choosing, Collecting, Installing, Over, SeizingOthers, SeizingVotes}
use Rattle.cmm_attempt.specs.declared.promised.Shown.{Shown}
use Rattle.node_model.specs.Seats.{promised_of}
use Rattle.wire.specs.declared.message.Message.{Message}
use Rattle.cmm_attempt.specs.Calls.{Call, Own_ready, With_votes, turn}
use Rattle.cmm_attempt.specs.declared.step.AttemptEnd.{AttemptEnd}
use Rattle.cmm_attempt.specs.declared.step.Step.{Step}
use Rattle.cmm_attempt.specs.declared.step.Step.TheVariants as step
use Rattle.device_queue.specs.Queue.{joins}
use Rattle.node_model.specs.Attempts.{begins_install, is_choosing, left_out_by, resting, starts_now, votes_in}
use Rattle.node_model.specs.Deciding.{may_order}
use Rattle.node_model.specs.declared.cluster.Cluster.{Cluster}
use Rattle.node_model.specs.declared.node.UpNode.{UpNode}
use Rattle.node_model.specs.declared.presidency.Presidency.{Presidency}
use Rattle.node_model.specs.declared.seat.Seat.{Seat}
use Rattle.node_model.specs.declared.seat.Seat.TheVariants.{Forming, Member}
use Rattle.refinement.specs.Courses.{Course, joined}
use Rattle.refinement.specs.Courses.Course.{Acts, Falls, Keeps, Stops}
use Rattle.refinement.specs.Cuts as cuts
use Rattle.refinement.specs.Cuts.{deciding_course, if_installed, if_started, steps_course, turned}
use Rattle.refinement.specs.Doings.{acted, changed, going}
use Rattle.refinement.specs.Doings.Act.{Goes_on, Makes}
use Rattle.refinement.specs.Doings.Change.{Starts, Leads as Leads_change}
use Rattle.run_downs.proofs.Courses.{by_test}
use Rattle.run_outcomes.specs.saves.Courses.{LeadsTo, Leaves}
use Rattle.run_outcomes.proofs.saves.Rests.{leads_joined}
use Rattle.run_outcomes.specs.phases.Kept.{In}
use Rattle.run_outcomes.proofs.phases.Leading.{Has, deciding_by_l, excluded_l, leaves_has, steps_has, turned_all_has}
use Rattle.run_outcomes.proofs.phases.Live.{AreSends, EndsOnly, IsLive, Leads, StartsOnly, call_leads}

-- the seat is in this session, and has installed it
abbrev pub starts_at : Seat → ℕ → Bool
starts_at (Forming s) e = starts_now s e
starts_at (Member s) e = false

-- the attempt is over and has its coordinator's own part, but the seat is not there
abbrev pub Stuck : UpNode → Type 0
Stuck y = In (λ b. (b.own_ready ≡ true) × (starts_at y.seat b.plan.epoch ≡ false)) y.attempt

abbrev pub Ends : UpNode → Type 0
Ends y = Has IsLive y ⊎ Stuck y

pub leads_by : (c : Cluster) (me : ℕ) (A B : UpNode → Type 0) (x : UpNode) (k : Course) → ((y : UpNode) → A y → B y) → LeadsTo c me A x k → LeadsTo c me B x k
leads_by c me A B x Stops f h = f x h
leads_by c me A B x (Acts a rest) f h = leads_by c me A B (acted c me x a) rest f h
leads_by c me A B x (Keeps change rest) f h = leads_by c me A B (changed c me x change) rest f h
leads_by c me A B x (Falls why) f h = tt

pub live_leaves : (c : Cluster) (me : ℕ) (x : UpNode) (k : Course) → Leaves k → Has IsLive x → LeadsTo c me Ends x k
live_leaves c me x k leaves h = leads_by c me (Has IsLive) Ends x k (λ y live. inl live) (leaves_has IsLive c me x k leaves h)

-- ---- what leaves the attempt and the seat

sends_stuck : (c : Cluster) (me : ℕ) (x : UpNode) (steps : List Step) → AreSends steps → Stuck x → LeadsTo c me Stuck x (steps_course c me x steps)
sends_stuck c me x [] so h = h
sends_stuck c me x (step.Send to m ∷ steps) so h = sends_stuck c me x steps so h
sends_stuck c me x (step.SeizeHere d kind ∷ steps) so h = absurd so
sends_stuck c me x (step.NeedVotes n ∷ steps) so h = absurd so
sends_stuck c me x (step.InstallHere i ∷ steps) so h = absurd so
sends_stuck c me x (step.StartHere ∷ steps) so h = absurd so
sends_stuck c me x (step.Ended e ∷ steps) so h = absurd so

deciding_stuck : (c : Cluster) (me : ℕ) (x : UpNode) (o : Option Presidency) → Stuck x → LeadsTo c me Stuck x (cuts.deciding_by_course c me x o)
deciding_stuck c me x None h = h
deciding_stuck c me x (Some p) h = if_either (LeadsTo c me Stuck x) (may_order p.groups) _ Stops h h

deciding_ends : (c : Cluster) (me : ℕ) (x : UpNode) → Ends x → LeadsTo c me Ends x (deciding_course c me x)
deciding_ends c me x (inl live) = live_leaves c me x (deciding_course c me x) (deciding_by_l c me x x.presidency) live
deciding_ends c me x (inr stuck) = leads_by c me Stuck Ends x (deciding_course c me x) (λ y h. inr h) (deciding_stuck c me x x.presidency stuck)

-- ---- a turn that ends the attempt

ended_leads : (c : Cluster) (me : ℕ) (x : UpNode) (a : AttemptState) (k : Call) (e : AttemptEnd) → LeadsTo c me (Has IsLive) x (cuts.gone_on c me x a k (step.Ended e ∷ []))
ended_leads c me x a k e =
    let t : AttemptState = (turn a k).after in
    let rest : Course = cuts.excluded_course me t.plan.epoch (unwrap_or (newest_installed t) 0) (left_out_by e) in
    leads_joined c me (Has IsLive) (Has IsLive) (going x a k) (cuts.ended_course me e (Some t)) (λ y. Stops)
    (leaves_has IsLive c me (resting (going x a k)) rest (excluded_l me t.plan.epoch (unwrap_or (newest_installed t) 0) (left_out_by e)) tt) (λ y h. h)

-- the course of a call that gives these steps, and where it may install
abbrev turned_with : Cluster → ℕ → UpNode → AttemptState → Call → List Step → Course
turned_with c me x a k steps = joined c me x (cuts.turned_by c me x a k steps) (if_started c me steps)

abbrev called_with : Cluster → ℕ → UpNode → AttemptState → Call → List Step → Course
called_with c me x a k steps = joined c me x (turned_with c me x a k steps) (if_installed c me steps)

ended_turned : (c : Cluster) (me : ℕ) (x : UpNode) (a : AttemptState) (k : Call) (steps : List Step) → EndsOnly steps → LeadsTo c me Ends x (turned_with c me x a k steps)
ended_turned c me x a k (step.Ended e ∷ []) only = leads_joined c me (Has IsLive) Ends x (cuts.gone_on c me x a k (step.Ended e ∷ [])) (if_started c me (step.Ended e ∷ [])) (ended_leads c me x a k e) (λ y h. inl h)
ended_turned c me x a k _ only = absurd only

ended_called : (c : Cluster) (me : ℕ) (x : UpNode) (a : AttemptState) (k : Call) (steps : List Step) → EndsOnly steps → LeadsTo c me Ends x (turned_with c me x a k steps) → LeadsTo c me Ends x (called_with c me x a k steps)
ended_called c me x a k (step.Ended e ∷ []) only h = leads_joined c me Ends Ends x (turned_with c me x a k (step.Ended e ∷ [])) (if_installed c me (step.Ended e ∷ [])) h (λ y ends. ends)
ended_called c me x a k _ only h = absurd only

-- ---- a turn that starts the membership

started_leads : (c : Cluster) (me : ℕ) (x : UpNode) (a : AttemptState) (k : Call) (rest : List Step) (seat : Seat) → x.seat ≡ seat → AreSends rest → (turn a k).after.own_ready ≡ true → LeadsTo c me Ends x (cuts.started c me x a k rest seat)
started_leads c me x a k rest (Member s) is sends own =
    leads_by c me Stuck Ends (going x a k) (steps_course c me (going x a k) rest) (λ y h. inr h) (sends_stuck c me (going x a k) rest sends (own, ap (λ z. starts_at z (turn a k).after.plan.epoch) is))
started_leads c me x a k rest (Forming s) is sends own =
    let y : UpNode = changed c me x (Starts a k s) in
    let more : Course = steps_course c me y rest in
    let e : ℕ = (turn a k).after.plan.epoch in
    by_test (LeadsTo c me Ends x) (starts_now s e) (cuts.kept_if (is_some s.saved.entries.pending) (Starts a k s) more) (cuts.gone_on c me x a k rest)
    (λ now. leads_by c me (Has IsLive) Ends x (cuts.kept_if (is_some s.saved.entries.pending) (Starts a k s) more) (λ z h. inl h)
    (if_either (LeadsTo c me (Has IsLive) x) (is_some s.saved.entries.pending) (Keeps (Starts a k s) more) (Acts (Makes (Starts a k s)) more) (steps_has IsLive c me y rest tt) (steps_has IsLive c me y rest tt)))
    (λ never. leads_by c me Stuck Ends (going x a k) (steps_course c me (going x a k) rest) (λ z h. inr h) (sends_stuck c me (going x a k) rest sends (own, ap (λ z. starts_at z e) is ∙ never)))

started_turned : (c : Cluster) (me : ℕ) (x : UpNode) (a : AttemptState) (k : Call) (steps : List Step) → StartsOnly steps → (turn a k).after.own_ready ≡ true → LeadsTo c me Ends x (turned_with c me x a k steps)
started_turned c me x a k (step.StartHere ∷ rest) sends own =
    leads_joined c me Ends Ends x (cuts.started c me x a k rest x.seat) (if_started c me (step.StartHere ∷ rest)) (started_leads c me x a k rest x.seat refl sends own) (λ y h. deciding_ends c me y h)
started_turned c me x a k _ sends own = absurd sends

started_called : (c : Cluster) (me : ℕ) (x : UpNode) (a : AttemptState) (k : Call) (steps : List Step) → StartsOnly steps → LeadsTo c me Ends x (turned_with c me x a k steps) → LeadsTo c me Ends x (called_with c me x a k steps)
started_called c me x a k (step.StartHere ∷ rest) sends h = leads_joined c me Ends Ends x (turned_with c me x a k (step.StartHere ∷ rest)) (if_installed c me (step.StartHere ∷ rest)) h (λ y ends. ends)
started_called c me x a k _ sends h = absurd sends

-- ---- calls

turned_ends : (c : Cluster) (me : ℕ) (x : UpNode) (a : AttemptState) (k : Call) → Leads (turn a k) → LeadsTo c me Ends x (cuts.turned_all c me x a k)
turned_ends c me x a k (inl live) = leads_by c me (Has IsLive) Ends x (cuts.turned_all c me x a k) (λ y h. inl h) (turned_all_has IsLive c me x a k live)
turned_ends c me x a k (inr (inl only)) = ended_turned c me x a k (turn a k).steps only
turned_ends c me x a k (inr (inr starts)) = started_turned c me x a k (turn a k).steps starts.0 starts.1

readied_ends : (c : Cluster) (me : ℕ) (x : UpNode) (o : Option AttemptState) → In IsLive o → Has IsLive x → LeadsTo c me Ends x (cuts.readied_course c me x o)
readied_ends c me x None here h = inl h
readied_ends c me x (Some a) here h = turned_ends c me x a Own_ready (call_leads a Own_ready here)

pub own_ready_ends : (c : Cluster) (me : ℕ) (x : UpNode) → Has IsLive x → LeadsTo c me Ends x (cuts.own_ready_course c me x)
own_ready_ends c me x h = if_either (LeadsTo c me Ends x) (joins x.tasks) Stops (cuts.readied_course c me x x.attempt) (inl h) (readied_ends c me x x.attempt h h)

called_by : (c : Cluster) (me : ℕ) (x : UpNode) (a : AttemptState) (k : Call) → Leads (turn a k) → LeadsTo c me Ends x (cuts.called c me x a k)
called_by c me x a k (inl live) =
    leads_joined c me (Has IsLive) Ends x (cuts.turned_all c me x a k) (if_installed c me (turn a k).steps) (turned_all_has IsLive c me x a k live)
    (λ y h. if_either (LeadsTo c me Ends y) (begins_install (turn a k).steps) (cuts.own_ready_course c me y) Stops (own_ready_ends c me y h) (inl h))
called_by c me x a k (inr (inl only)) = ended_called c me x a k (turn a k).steps only (ended_turned c me x a k (turn a k).steps only)
called_by c me x a k (inr (inr starts)) = started_called c me x a k (turn a k).steps starts.0 (started_turned c me x a k (turn a k).steps starts.0 starts.1)

called_ends : (c : Cluster) (me : ℕ) (x : UpNode) (a : AttemptState) (k : Call) → IsLive a → LeadsTo c me Ends x (cuts.called c me x a k)
called_ends c me x a k h = called_by c me x a k (call_leads a k h)

chooses_live : (p : Phase) → is_choosing p ≡ true → is_over p ≡ false
chooses_live Choosing is = refl
chooses_live Collecting is = refl
chooses_live SeizingVotes is = refl
chooses_live SeizingOthers is = refl
chooses_live Installing is = refl
chooses_live Over is = absurd (false_true is)

pub going_ends : (c : Cluster) (me : ℕ) (x : UpNode) (a : AttemptState) (k : Call) → IsLive a → LeadsTo c me Ends x (cuts.going_course c me x a k)
going_ends c me x a k h =
    let t : AttemptState = (turn a k).after in
    by_test (LeadsTo c me Ends x) (is_choosing t.phase) (Acts (Goes_on a k) (cuts.called c me (going x a k) t (With_votes (votes_in c t)))) (cuts.called c me x a k)
    (λ chooses. called_ends c me (going x a k) t (With_votes (votes_in c t)) (chooses_live t.phase chooses)) (λ rests. called_ends c me x a k h)

-- ---- an attempt begins

chosen_live : (s : AttemptState) (o : Option Shown) → IsLive s → IsLive (chosen_by s o).after
chosen_live s None h = h
chosen_live s (Some newest) h = refl

choosing_is_live : (s : AttemptState) → IsLive s → IsLive (choosing s).after
unfolding choosing
choosing_is_live s h = chosen_live s (newest_shown s.promises) h

begun_live : (p members : ℕ) (own : Message) (attached : List AttachedDevice) (cluster : ℕ) → IsLive (beginning p members own attached cluster).after
unfolding beginning
begun_live p members own attached cluster =
    let s : AttemptState = first_state p members own attached cluster (promises_of (promised_by own (shown_by own.sender own.body))) in
    if_either (λ (t : Turn). IsLive t.after) (all_promised s) (choosing s) (with_steps s (collects s)) (choosing_is_live s refl) refl

leading_ends : (c : Cluster) (me : ℕ) (x : UpNode) (p members : ℕ) → Has IsLive x → LeadsTo c me Ends x (cuts.leading_course c me x p members)
leading_ends c me x p members h =
    let y : UpNode = changed c me x (Leads_change p members) in
    let t : Turn = cuts.first_turn c me x p members in
    let live : IsLive t.after = begun_live p members _ c.attached c.id in
    if_either (LeadsTo c me Ends x) (nat_lt (promised_of x) p) (Keeps (Leads_change p members) (cuts.begun_course c me y t)) Stops
    (if_either (LeadsTo c me Ends y) (is_choosing t.after.phase) (cuts.called c me y t.after (With_votes (votes_in c t.after))) (steps_course c me y t.steps)
    (called_ends c me y t.after (With_votes (votes_in c t.after)) live) (leads_by c me (Has IsLive) Ends y (steps_course c me y t.steps) (λ z k. inl k) (steps_has IsLive c me y t.steps live))) (inl h)

pub forming_ends : (c : Cluster) (me : ℕ) (x : UpNode) (o : Option ℕ) → Has IsLive x → LeadsTo c me Ends x (cuts.forming_course c me x o)
forming_ends c me x None h = inl h
forming_ends c me x (Some members) h = leading_ends c me x _ members h
