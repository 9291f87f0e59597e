-- The courses of a node with an attempt leave the tasks that match its entries.
use Rattle.std.specs.Prelude.{ℕ, ◌≡◌, nat_lt, Bool, true, false, List, [], ◌∷◌, Option, None, Some, is_some, if◌then◌else◌}
use Rattle.std.specs.Option.{unwrap_or}
use Rattle.std.proofs.Common.{refl, sym, subst}
use Rattle.attempt_laws.specs.Staying.{IsFinal}
use Rattle.cl_base.specs.Sets.{has}
use Rattle.cmm_attempt.proofs.Basics.{false_true, if_either}
use Rattle.cmm_attempt.specs.Attempts.{AttemptState, Turn, newest_installed}
use Rattle.cmm_attempt.specs.Calls.{Call, Own_ready, With_votes, starts_in, turn}
use Rattle.cmm_attempt.specs.declared.phase.Phase.{Phase}
use Rattle.cmm_attempt.specs.declared.phase.Phase.TheVariants.{Choosing, Collecting, Installing, Over, SeizingOthers, SeizingVotes}
use Rattle.cmm_attempt.specs.declared.step.AttemptEnd.{AttemptEnd}
use Rattle.cmm_attempt.specs.declared.step.Step.{Step}
use Rattle.cmm_attempt.specs.declared.step.Step.TheVariants as step
use Rattle.device_queue.specs.Queue.{after_seize, joins}
use Rattle.node_model.specs.Attempts.{begins_install, installs_now, is_choosing, left_out_by, resting, starts_now, votes_in}
use Rattle.node_model.specs.Deciding.{may_order}
use Rattle.node_model.specs.Seats.{promised_of, record_of}
use Rattle.node_model.specs.declared.cluster.Cluster.{Cluster}
use Rattle.node_model.specs.declared.node.UpNode.{UpNode}
use Rattle.node_model.specs.declared.presidency.Presidency.{Presidency}
use Rattle.node_model.specs.declared.seat.Seat.{Seat}
use Rattle.node_model.specs.declared.seat.Seat.TheVariants.{Forming, Member}
use Rattle.refinement.specs.Courses.{Course, joined}
use Rattle.refinement.specs.Courses.Course.{Acts, Keeps, Stops}
use Rattle.refinement.specs.Cuts as cuts
use Rattle.refinement.specs.Cuts.{deciding_course, if_installed, if_started, steps_course, turned}
use Rattle.refinement.specs.Doings.{changed, going}
use Rattle.refinement.specs.Doings.Act.{Goes_on, Makes}
use Rattle.refinement.specs.Doings.Change.{Counts, Leads, Starts}
use Rattle.seize.specs.Seizing as seizing
use Rattle.seize.specs.Seizing.{SeizeState}
use Rattle.seize.specs.declared.kind.SeizeKind.{SeizeKind}
use Rattle.seize.specs.declared.kind.SeizeKind.TheVariants.{Plain, Vote}
use Rattle.wire.specs.declared.message.Install.{Install}
use Rattle.run_downs.proofs.Courses.{by_test}
use Rattle.run_outcomes.specs.phases.Kept.{In}
use Rattle.run_outcomes.specs.saves.Courses.{LeadsTo}
use Rattle.run_outcomes.proofs.saves.Rests.{leads_joined}
use Rattle.run_outcomes.proofs.phases.Leading.{Has, excluded_l, leaves_has, steps_has}
use Rattle.run_outcomes.proofs.phases.LiveCourses.{leads_by}
use Rattle.run_outcomes.specs.tasks.Own.{CallSo, IsEarly, IsFinalWhere, Owned, Owns, OwnsAfter, begun_here, with_own}
use Rattle.run_outcomes.proofs.own_tasks.Turns.{final_owns}
use Rattle.run_outcomes.proofs.own_tasks.Calls.{before_none, beginning_owns, turn_owns}

-- ---- the seizings that node me begins for its attempt

abbrev pub begun_for : Cluster → ℕ → UpNode → AttemptState → ℕ → SeizeKind → SeizeState
begun_for c me x a d kind = seizing.begun kind a.plan.epoch a.plan.members me c.id (has (record_of x).valid d)

pub begun_none : (c : Cluster) (me : ℕ) (x : UpNode) (a : AttemptState) (d : ℕ) (kind : SeizeKind) → seizing.result_of (begun_for c me x a d kind) ≡ None
begun_none c me x a d Vote = refl
begun_none c me x a d Plain = refl

-- ---- steps

-- a node without an attempt
no_attempt : (me : ℕ) (y : UpNode) → Has (λ (a : AttemptState). ⊥) y → Owned me y
no_attempt me y h = by_attempt y.attempt h
  where
    by_attempt : (o : Option AttemptState) → In (λ (a : AttemptState). ⊥) o → In (Owns me y.tasks) o
    by_attempt None h = tt
    by_attempt (Some a) h = absurd h

pub over_owned : (c : Cluster) (me : ℕ) (x : UpNode) (steps : List Step) → Has (λ (a : AttemptState). ⊥) x → LeadsTo c me (Owned me) x (steps_course c me x steps)
over_owned c me x steps h = leads_by c me (Has (λ (a : AttemptState). ⊥)) (Owned me) x (steps_course c me x steps) (λ y k. no_attempt me y k) (steps_has (λ (a : AttemptState). ⊥) c me x steps h)

ended_owned : (c : Cluster) (me : ℕ) (x : UpNode) (e : AttemptEnd) (a : AttemptState) (steps : List Step) → LeadsTo c me (Owned me) x (joined c me x (cuts.ended_course me e (Some a)) (λ y. steps_course c me y steps))
ended_owned c me x e a steps =
    let out : Course = cuts.excluded_course me a.plan.epoch (unwrap_or (newest_installed a) 0) (left_out_by e) in
    leads_joined c me (Has (λ (b : AttemptState). ⊥)) (Owned me) (resting x) out (λ y. steps_course c me y steps)
    (leaves_has (λ (b : AttemptState). ⊥) c me (resting x) out (excluded_l me a.plan.epoch (unwrap_or (newest_installed a) 0) (left_out_by e)) tt) (λ y h. over_owned c me y steps h)

pub steps_owned : (c : Cluster) (me : ℕ) (x : UpNode) (a : AttemptState) (steps : List Step) → x.attempt ≡ Some a
    → Owns me (with_own (has a.plan.members me) (begun_for c me x a) steps x.tasks) a → LeadsTo c me (Owned me) x (steps_course c me x steps)
steps_owned c me x a [] is h = subst (In (Owns me x.tasks)) (sym is) h
steps_owned c me x a (step.Send to m ∷ steps) is h = steps_owned c me x a steps is h
steps_owned c me x a (step.NeedVotes n ∷ steps) is h = steps_owned c me x a steps is h
steps_owned c me x a (step.InstallHere i ∷ steps) is h = steps_owned c me x a steps is h
steps_owned c me x a (step.StartHere ∷ steps) is h = steps_owned c me x a steps is h
steps_owned c me x a (step.Ended e ∷ steps) is h =
    subst (λ o. LeadsTo c me (Owned me) x (joined c me x (cuts.ended_course me e o) (λ y. steps_course c me y steps))) (sym is) (ended_owned c me x e a steps)
steps_owned c me x a (step.SeizeHere d kind ∷ steps) is h =
    subst (λ o. LeadsTo c me (Owned me) x (joined c me x (cuts.queued_course d kind o) (λ y. steps_course c me y steps))) (sym is)
    (by_member (has a.plan.members me) refl h (λ k. steps_owned c me y a steps is k) (λ k. steps_owned c me x a steps is k))
  where
    y : UpNode
    y = record x { tasks = after_seize x.tasks d (begun_for c me x a d kind) }

    by_member : (b : Bool) → has a.plan.members me ≡ b → Owns me (with_own b (begun_for c me x a) steps (begun_here b (begun_for c me x a) d kind x.tasks)) a
        → (Owns me (with_own (has a.plan.members me) (begun_for c me x a) steps y.tasks) a → LeadsTo c me (Owned me) y (steps_course c me y steps))
        → (Owns me (with_own (has a.plan.members me) (begun_for c me x a) steps x.tasks) a → LeadsTo c me (Owned me) x (steps_course c me x steps))
        → LeadsTo c me (Owned me) (if b then y else x) (steps_course c me (if b then y else x) steps)
    by_member true member k there here = there (subst (λ b. Owns me (with_own b (begun_for c me x a) steps y.tasks) a) (sym member) k)
    by_member false other k there here = here (subst (λ b. Owns me (with_own b (begun_for c me x a) steps x.tasks) a) (sym other) k)

-- ---- a turn

gone_owned : (c : Cluster) (me : ℕ) (x : UpNode) (a : AttemptState) (k : Call) (steps : List Step)
    → Owns me (with_own (has (turn a k).after.plan.members me) (begun_for c me x (turn a k).after) steps x.tasks) (turn a k).after → LeadsTo c me (Owned me) x (cuts.gone_on c me x a k steps)
gone_owned c me x a k steps h = steps_owned c me (going x a k) (turn a k).after steps refl h

counted_owned : (c : Cluster) (me : ℕ) (x : UpNode) (a : AttemptState) (k : Call) (i : Install) (rest : List Step) (seat : Seat) → IsFinal (turn a k).after.phase → LeadsTo c me (Owned me) x (cuts.counted c me x a k i rest seat)
counted_owned c me x a k i rest (Member s) final = gone_owned c me x a k rest (final_owns me _ (turn a k).after final)
counted_owned c me x a k i rest (Forming s) final =
    let y : UpNode = changed c me x (Counts a k s i) in
    if_either (LeadsTo c me (Owned me) x) (installs_now s i) (Keeps (Counts a k s i) (steps_course c me y rest)) (cuts.gone_on c me x a k rest)
    (steps_owned c me y (turn a k).after rest refl (final_owns me _ (turn a k).after final)) (gone_owned c me x a k rest (final_owns me _ (turn a k).after final))

started_owned : (c : Cluster) (me : ℕ) (x : UpNode) (a : AttemptState) (k : Call) (rest : List Step) (seat : Seat) → IsFinal (turn a k).after.phase → LeadsTo c me (Owned me) x (cuts.started c me x a k rest seat)
started_owned c me x a k rest (Member s) final = gone_owned c me x a k rest (final_owns me _ (turn a k).after final)
started_owned c me x a k rest (Forming s) final =
    let y : UpNode = changed c me x (Starts a k s) in
    let more : Course = steps_course c me y rest in
    if_either (LeadsTo c me (Owned me) x) (starts_now s (turn a k).after.plan.epoch) (cuts.kept_if (is_some s.saved.entries.pending) (Starts a k s) more) (cuts.gone_on c me x a k rest)
    (if_either (LeadsTo c me (Owned me) x) (is_some s.saved.entries.pending) (Keeps (Starts a k s) more) (Acts (Makes (Starts a k s)) more) (over_owned c me y rest tt) (over_owned c me y rest tt))
    (gone_owned c me x a k rest (final_owns me _ (turn a k).after final))

turned_by_owned : (c : Cluster) (me : ℕ) (x : UpNode) (a : AttemptState) (k : Call) (steps : List Step)
    → Owns me (with_own (has (turn a k).after.plan.members me) (begun_for c me x (turn a k).after) steps x.tasks) (turn a k).after → IsFinalWhere steps (turn a k).after.phase
    → LeadsTo c me (Owned me) x (cuts.turned_by c me x a k steps)
turned_by_owned c me x a k [] h final = gone_owned c me x a k [] h
turned_by_owned c me x a k (step.InstallHere i ∷ rest) h final = counted_owned c me x a k i rest x.seat final
turned_by_owned c me x a k (step.StartHere ∷ rest) h final = started_owned c me x a k rest x.seat final
turned_by_owned c me x a k (step.Send to m ∷ rest) h final = gone_owned c me x a k (step.Send to m ∷ rest) h
turned_by_owned c me x a k (step.SeizeHere d kind ∷ rest) h final = gone_owned c me x a k (step.SeizeHere d kind ∷ rest) h
turned_by_owned c me x a k (step.NeedVotes n ∷ rest) h final = gone_owned c me x a k (step.NeedVotes n ∷ rest) h
turned_by_owned c me x a k (step.Ended e ∷ rest) h final = gone_owned c me x a k (step.Ended e ∷ rest) h

deciding_by_owned : (c : Cluster) (me : ℕ) (x : UpNode) (o : Option Presidency) → Owned me x → LeadsTo c me (Owned me) x (cuts.deciding_by_course c me x o)
deciding_by_owned c me x None h = h
deciding_by_owned c me x (Some p) h = if_either (LeadsTo c me (Owned me) x) (may_order p.groups) _ Stops h h

turned_all_owned : (c : Cluster) (me : ℕ) (x : UpNode) (a : AttemptState) (k : Call) → OwnsAfter me (begun_for c me x (turn a k).after) x.tasks (turn a k) → LeadsTo c me (Owned me) x (cuts.turned_all c me x a k)
turned_all_owned c me x a k h =
    leads_joined c me (Owned me) (Owned me) x (turned c me x a k) (if_started c me (turn a k).steps) (turned_by_owned c me x a k (turn a k).steps h.owns h.final)
    (λ y owned. if_either (LeadsTo c me (Owned me) y) (starts_in (turn a k).steps) (deciding_course c me y) Stops (deciding_by_owned c me y y.presidency owned) owned)

-- ---- calls

readied_owned : (c : Cluster) (me : ℕ) (x : UpNode) (o : Option AttemptState) → In (Owns me x.tasks) o → Owned me x → LeadsTo c me (Owned me) x (cuts.readied_course c me x o)
readied_owned c me x None here h = h
readied_owned c me x (Some a) here h =
    let t : AttemptState = (turn a Own_ready).after in
    turned_all_owned c me x a Own_ready (turn_owns me (begun_for c me x t) (begun_none c me x t) x.tasks a Own_ready here)

pub own_ready_owned : (c : Cluster) (me : ℕ) (x : UpNode) → Owned me x → LeadsTo c me (Owned me) x (cuts.own_ready_course c me x)
own_ready_owned c me x h = if_either (LeadsTo c me (Owned me) x) (joins x.tasks) Stops (cuts.readied_course c me x x.attempt) h (readied_owned c me x x.attempt h h)

called_owned : (c : Cluster) (me : ℕ) (x : UpNode) (a : AttemptState) (k : Call) → OwnsAfter me (begun_for c me x (turn a k).after) x.tasks (turn a k) → LeadsTo c me (Owned me) x (cuts.called c me x a k)
called_owned c me x a k h =
    leads_joined c me (Owned me) (Owned me) x (cuts.turned_all c me x a k) (if_installed c me (turn a k).steps) (turned_all_owned c me x a k h)
    (λ y owned. if_either (LeadsTo c me (Owned me) y) (begins_install (turn a k).steps) (cuts.own_ready_course c me y) Stops (own_ready_owned c me y owned) owned)

votes_owned : (c : Cluster) (me : ℕ) (x : UpNode) (a : AttemptState) → x.tasks ≡ [] → LeadsTo c me (Owned me) x (cuts.called c me x a (With_votes (votes_in c a)))
votes_owned c me x a idle =
    let k : Call = With_votes (votes_in c a) in
    called_owned c me x a k (turn_owns me (begun_for c me x (turn a k).after) (begun_none c me x (turn a k).after) x.tasks a k idle)

pub is_early : (p : Phase) → is_choosing p ≡ true → IsEarly p
is_early Choosing is = tt
is_early Collecting is = absurd (false_true is)
is_early SeizingVotes is = absurd (false_true is)
is_early SeizingOthers is = absurd (false_true is)
is_early Installing is = absurd (false_true is)
is_early Over is = absurd (false_true is)

pub going_owned : (c : Cluster) (me : ℕ) (x : UpNode) (a : AttemptState) (k : Call)
    → CallSo me x.tasks a k → LeadsTo c me (Owned me) x (cuts.going_course c me x a k)
going_owned c me x a k so =
    let t : AttemptState = (turn a k).after in
    let h : OwnsAfter me (begun_for c me x t) x.tasks (turn a k) = turn_owns me (begun_for c me x t) (begun_none c me x t) x.tasks a k so in
    by_test (LeadsTo c me (Owned me) x) (is_choosing t.phase) (Acts (Goes_on a k) (cuts.called c me (going x a k) t (With_votes (votes_in c t)))) (cuts.called c me x a k)
    (λ chooses. votes_owned c me (going x a k) t (before_none (has t.plan.members me) (begun_for c me x t) (turn a k).steps x.tasks (h.owns.idle (is_early t.phase chooses)))) (λ rests. called_owned c me x a k h)

-- ---- an attempt begins

leading_owned : (c : Cluster) (me : ℕ) (x : UpNode) (p members : ℕ) → Owned me x → LeadsTo c me (Owned me) x (cuts.leading_course c me x p members)
leading_owned c me x p members h =
    let y : UpNode = changed c me x (Leads p members) in
    let t : Turn = cuts.first_turn c me x p members in
    let first : OwnsAfter me (begun_for c me y t.after) [] t = beginning_owns me (begun_for c me y t.after) (begun_none c me y t.after) p members _ c.attached c.id in
    if_either (LeadsTo c me (Owned me) x) (nat_lt (promised_of x) p) (Keeps (Leads p members) (cuts.begun_course c me y t)) Stops
    (if_either (LeadsTo c me (Owned me) y) (is_choosing t.after.phase) (cuts.called c me y t.after (With_votes (votes_in c t.after))) (steps_course c me y t.steps)
    (votes_owned c me y t.after refl) (steps_owned c me y t.after t.steps refl first.owns)) h

pub forming_owned : (c : Cluster) (me : ℕ) (x : UpNode) (o : Option ℕ) → Owned me x → LeadsTo c me (Owned me) x (cuts.forming_course c me x o)
forming_owned c me x None h = h
forming_owned c me x (Some members) h = leading_owned c me x _ members h
