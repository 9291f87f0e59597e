-- An attempt gives its requests, Collects and Installs along the courses in which it takes a call, or begins.
use Rattle.std.specs.Prelude.{ℕ, nat_lt, Bool, true, List, [], ◌∷◌, Option, None, Some, is_some, if◌then◌else◌, false, ◌≡◌, nat_le}
use Rattle.std.proofs.Common.{refl, sym, subst}
use Rattle.cmm_attempt.specs.Attempts.{AttemptState, Turn}
use Rattle.cmm_attempt.specs.Calls.{Call, Own_ready, With_votes, starts_in, turn, Tick as Call_tick}
use Rattle.cmm_attempt.specs.declared.step.Step.{Step}
use Rattle.cmm_attempt.specs.declared.step.Step.TheVariants as step
use Rattle.device_queue.specs.Queue.{joins}
use Rattle.node_model.specs.Attempts.{begins_install, installs_now, is_choosing, starts_now, votes_in, next_epoch}
use Rattle.node_model.specs.Seats.{promised_of}
use Rattle.node_model.specs.Ticks.{members_to_form, waiting_less}
use Rattle.node_model.specs.declared.cluster.Cluster.{Cluster}
use Rattle.node_model.specs.declared.node.UpNode.{UpNode}
use Rattle.node_model.specs.declared.seat.Seat.{Seat}
use Rattle.node_model.specs.declared.seat.Seat.TheVariants.{Forming, Member}
use Rattle.refinement.specs.Courses.{Course, joined}
use Rattle.refinement.specs.Courses.Course.{Acts, Falls, Keeps, Stops}
use Rattle.refinement.specs.Cuts.{first_turn}
use Rattle.refinement.specs.Cuts as cuts
use Rattle.refinement.specs.Doings.{Act, Change, acted, changed, going}
use Rattle.refinement.specs.Doings.Act.{Goes_on, Spreads, Waits, Writes, Makes}
use Rattle.refinement.specs.Doings.Change.{Counts, Leads, Starts}
use Rattle.wire.specs.declared.message.Body.{Body}
use Rattle.wire.specs.declared.message.Install.{Install}
use Rattle.run_outcomes.proofs.requests.Beside.{ended_bare, queued_bare}
use Rattle.run_outcomes.proofs.requests.Presidents.{deciding_bare, either_bare}
use Rattle.run_outcomes.proofs.requests.Turns.{first_from, no_request, turn_from}
use Rattle.run_outcomes.specs.reports.Requests.{ActFrom, BareAct, BareChange, BodyFrom, GoesFrom, IsBare, IsNoRequest, StepsFrom, Tried, by_act, by_change, tried_by}

-- ---- beside attempts

body_bare : (o : Option Tried) (to : ℕ) (b : Body) → IsNoRequest b → BodyFrom o to b
body_bare None to b h = h
body_bare (Some t) to b h = no_request t to b h

change_bare : (me : ℕ) (o : Option Tried) (change : Change) → BareChange change → by_change me o change ≡ o
change_bare me o (Leads p members) h = absurd h
change_bare me o (Counts a k s i) h = absurd h
change_bare me o (Starts a k s) h = absurd h
change_bare me o _ h = refl

act_bare : (me : ℕ) (o : Option Tried) (a : Act) → BareAct a → (by_act me o a ≡ o) × ActFrom o a
act_bare me o (Goes_on a k) h = absurd h
act_bare me o (Makes change) h = (change_bare me o change h, tt)
act_bare me o (Writes to b) h = (refl, body_bare o to b h)
act_bare me o (Spreads receivers b) h = (refl, h)
act_bare me o _ h = (refl, tt)

-- a course beside, and what follows it under the same attempt
pub bare_then : (c : Cluster) (me : ℕ) (o : Option Tried) (x : UpNode) (k : Course) (next : UpNode → Course) → IsBare k → ((y : UpNode) → GoesFrom me o (next y)) → GoesFrom me o (joined c me x k next)
bare_then c me o x Stops next h f = f x
bare_then c me o x (Acts a rest) next h f =
    let two : (by_act me o a ≡ o) × ActFrom o a = act_bare me o a h.0 in
    (two.1, subst (λ t. GoesFrom me t (joined c me (acted c me x a) rest next)) (sym two.0) (bare_then c me o (acted c me x a) rest next h.1 f))
bare_then c me o x (Keeps change rest) next h f =
    subst (λ t. GoesFrom me t (joined c me (changed c me x change) rest next)) (sym (change_bare me o change h.0)) (bare_then c me o (changed c me x change) rest next h.1 f)
bare_then c me o x (Falls why) next h f = tt

pub bare_from : (me : ℕ) (o : Option Tried) (k : Course) → IsBare k → GoesFrom me o k
bare_from me o Stops h = tt
bare_from me o (Acts a rest) h =
    let two : (by_act me o a ≡ o) × ActFrom o a = act_bare me o a h.0 in
    (two.1, subst (λ t. GoesFrom me t rest) (sym two.0) (bare_from me o rest h.1))
bare_from me o (Keeps change rest) h = subst (λ t. GoesFrom me t rest) (sym (change_bare me o change h.0)) (bare_from me o rest h.1)
bare_from me o (Falls why) h = tt

-- a course, and what follows it whatever attempt gave its steps last
then_from : (c : Cluster) (me : ℕ) (o : Option Tried) (x : UpNode) (k : Course) (next : UpNode → Course) → GoesFrom me o k → ((t : Option Tried) (y : UpNode) → GoesFrom me t (next y)) → GoesFrom me o (joined c me x k next)
then_from c me o x Stops next h f = f o x
then_from c me o x (Acts a rest) next h f = (h.0, then_from c me (by_act me o a) (acted c me x a) rest next h.1 f)
then_from c me o x (Keeps change rest) next h f = then_from c me (by_change me o change) (changed c me x change) rest next h f
then_from c me o x (Falls why) next h f = tt

pub either_from : (me : ℕ) (o : Option Tried) (b : Bool) (k l : Course) → GoesFrom me o k → GoesFrom me o l → GoesFrom me o (if b then k else l)
either_from me o true k l h i = h
either_from me o false k l h i = i

-- ---- the steps of an attempt

module _ (c : Cluster) (me : ℕ) where
  steps_from : (t : Tried) (x : UpNode) (steps : List Step) → StepsFrom t steps → GoesFrom me (Some t) (cuts.steps_course c me x steps)
  steps_from t x [] h = tt
  steps_from t x (step.Send to m ∷ steps) h = (h.0, steps_from t x steps h.1)
  steps_from t x (step.SeizeHere d kind ∷ steps) h = bare_then c me (Some t) x (cuts.queued_course d kind x.attempt) (λ y. cuts.steps_course c me y steps) (queued_bare d kind x.attempt) (λ y. steps_from t y steps h.1)
  steps_from t x (step.NeedVotes n ∷ steps) h = steps_from t x steps h.1
  steps_from t x (step.InstallHere i ∷ steps) h = steps_from t x steps h.1
  steps_from t x (step.StartHere ∷ steps) h = steps_from t x steps h.1
  steps_from t x (step.Ended e ∷ steps) h = bare_then c me (Some t) x (cuts.ended_course me e x.attempt) (λ y. cuts.steps_course c me y steps) (ended_bare me e x.attempt) (λ y. steps_from t y steps h.1)

  kept_if_from : (o : Option Tried) (keeps : Bool) (change : Change) (rest : Course) → GoesFrom me (by_change me o change) rest → GoesFrom me o (cuts.kept_if keeps change rest)
  kept_if_from o true change rest h = h
  kept_if_from o false change rest h = (tt, h)

  -- ---- a call, whose steps are these

  gone_on_from : (o : Option Tried) (x : UpNode) (a : AttemptState) (k : Call) (steps : List Step) → StepsFrom (tried_by (turn a k).after) steps → GoesFrom me o (cuts.gone_on c me x a k steps)
  gone_on_from o x a k steps h = (tt, steps_from (tried_by (turn a k).after) (going x a k) steps h)

  counted_from : (o : Option Tried) (x : UpNode) (a : AttemptState) (k : Call) (i : Install) (rest : List Step) (seat : Seat) → StepsFrom (tried_by (turn a k).after) rest → GoesFrom me o (cuts.counted c me x a k i rest seat)
  counted_from o x a k i rest (Member s) h = gone_on_from o x a k rest h
  counted_from o x a k i rest (Forming s) h =
      either_from me o (installs_now s i) (Keeps (Counts a k s i) (cuts.steps_course c me (changed c me x (Counts a k s i)) rest)) (cuts.gone_on c me x a k rest)
      (steps_from (tried_by (turn a k).after) (changed c me x (Counts a k s i)) rest h) (gone_on_from o x a k rest h)

  started_from : (o : Option Tried) (x : UpNode) (a : AttemptState) (k : Call) (rest : List Step) (seat : Seat) → StepsFrom (tried_by (turn a k).after) rest → GoesFrom me o (cuts.started c me x a k rest seat)
  started_from o x a k rest (Member s) h = gone_on_from o x a k rest h
  started_from o x a k rest (Forming s) h =
      let more : Course = cuts.steps_course c me (changed c me x (Starts a k s)) rest in
      either_from me o (starts_now s (turn a k).after.plan.epoch) (cuts.kept_if (is_some s.saved.entries.pending) (Starts a k s) more) (cuts.gone_on c me x a k rest)
      (kept_if_from o (is_some s.saved.entries.pending) (Starts a k s) more (steps_from (tried_by (turn a k).after) (changed c me x (Starts a k s)) rest h)) (gone_on_from o x a k rest h)

  turned_by_from : (o : Option Tried) (x : UpNode) (a : AttemptState) (k : Call) (steps : List Step) → StepsFrom (tried_by (turn a k).after) steps → GoesFrom me o (cuts.turned_by c me x a k steps)
  turned_by_from o x a k [] h = gone_on_from o x a k [] h
  turned_by_from o x a k (step.InstallHere i ∷ rest) h = counted_from o x a k i rest x.seat h.1
  turned_by_from o x a k (step.StartHere ∷ rest) h = started_from o x a k rest x.seat h.1
  turned_by_from o x a k (step.Send to m ∷ rest) h = gone_on_from o x a k (step.Send to m ∷ rest) h
  turned_by_from o x a k (step.SeizeHere d kind ∷ rest) h = gone_on_from o x a k (step.SeizeHere d kind ∷ rest) h
  turned_by_from o x a k (step.NeedVotes n ∷ rest) h = gone_on_from o x a k (step.NeedVotes n ∷ rest) h
  turned_by_from o x a k (step.Ended e ∷ rest) h = gone_on_from o x a k (step.Ended e ∷ rest) h

  if_started_from : (o : Option Tried) (steps : List Step) (y : UpNode) → GoesFrom me o (cuts.if_started c me steps y)
  if_started_from o steps y = bare_from me o (cuts.if_started c me steps y) (either_bare (starts_in steps) (cuts.deciding_course c me y) Stops (deciding_bare c me y) tt)

  turned_all_from : (o : Option Tried) (x : UpNode) (a : AttemptState) (k : Call) → GoesFrom me o (cuts.turned_all c me x a k)
  turned_all_from o x a k =
      then_from c me o x (cuts.turned c me x a k) (cuts.if_started c me (turn a k).steps) (turned_by_from o x a k (turn a k).steps (turn_from a k)) (λ t y. if_started_from t (turn a k).steps y)

  readied_from : (o : Option Tried) (x : UpNode) (a : Option AttemptState) → GoesFrom me o (cuts.readied_course c me x a)
  readied_from o x None = tt
  readied_from o x (Some a) = turned_all_from o x a Own_ready

  pub own_ready_from : (o : Option Tried) (x : UpNode) → GoesFrom me o (cuts.own_ready_course c me x)
  own_ready_from o x = either_from me o (joins x.tasks) Stops (cuts.readied_course c me x x.attempt) tt (readied_from o x x.attempt)

  called_from : (o : Option Tried) (x : UpNode) (a : AttemptState) (k : Call) → GoesFrom me o (cuts.called c me x a k)
  called_from o x a k =
      then_from c me o x (cuts.turned_all c me x a k) (cuts.if_installed c me (turn a k).steps) (turned_all_from o x a k)
      (λ t y. either_from me t (begins_install (turn a k).steps) (cuts.own_ready_course c me y) Stops (own_ready_from t y) tt)

  pub going_from : (o : Option Tried) (x : UpNode) (a : AttemptState) (k : Call) → GoesFrom me o (cuts.going_course c me x a k)
  going_from o x a k =
      let b : AttemptState = (turn a k).after in
      let voted : Course = cuts.called c me (going x a k) b (With_votes (votes_in c b)) in
      either_from me o (is_choosing b.phase) (Acts (Goes_on a k) voted) (cuts.called c me x a k)
      (tt, called_from (Some (tried_by b)) (going x a k) b (With_votes (votes_in c b))) (called_from o x a k)

  -- ---- an attempt that begins

  leading_from : (o : Option Tried) (x : UpNode) (p members : ℕ) → GoesFrom me o (cuts.leading_course c me x p members)
  leading_from o x p members =
      let t : Turn = first_turn c me x p members in
      let y : UpNode = changed c me x (Leads p members) in
      let led : Option Tried = Some (record { epoch = p; coordinator = me }) in
      either_from me o (nat_lt (promised_of x) p) (Keeps (Leads p members) (cuts.begun_course c me y t)) Stops
      (either_from me led (is_choosing t.after.phase) (cuts.called c me y t.after (With_votes (votes_in c t.after))) (cuts.steps_course c me y t.steps)
      (called_from led y t.after (With_votes (votes_in c t.after))) (steps_from (record { epoch = p; coordinator = me }) y t.steps (first_from c me x p members))) tt

  forming_from : (o : Option Tried) (x : UpNode) (members : Option ℕ) → GoesFrom me o (cuts.forming_course c me x members)
  forming_from o x None = tt
  forming_from o x (Some members) = leading_from o x (next_epoch me x) members

  pub ticked_from : (o : Option Tried) (x : UpNode) (a : Option AttemptState) → GoesFrom me o (cuts.ticked_course c me x a)
  ticked_from o x (Some a) = going_from o x a Call_tick
  ticked_from o x None =
      let y : UpNode = waiting_less x in
      either_from me o (nat_le 1 x.beats.wait) (Acts Waits Stops) (Acts Waits (cuts.forming_course c me y (members_to_form c me y))) (tt, tt) (tt, forming_from o y (members_to_form c me y))
