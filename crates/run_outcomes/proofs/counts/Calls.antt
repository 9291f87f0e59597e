-- Where a node calls its attempt, an end is among the steps that the call gave.
use Rattle.std.specs.Option.{unwrap_or}
use Rattle.cl_base.specs.Sets.{has}
use Rattle.cmm_attempt.specs.declared.step.AttemptEnd.{AttemptEnd}
use Rattle.cmm_attempt.specs.declared.step.Step.{Step}
use Rattle.cmm_attempt.specs.declared.step.Step.TheVariants as step
use Rattle.cmm_attempt.specs.Attempts.{AttemptState, newest_installed}
use Rattle.cmm_attempt.specs.Calls.{Call, Own_ready, With_votes, end_in, turn}
use Rattle.device_queue.specs.Queue.{joins}
use Rattle.seize.specs.declared.kind.SeizeKind.{SeizeKind}
use Rattle.wire.specs.declared.message.Body.TheVariants as body
use Rattle.wire.specs.declared.message.Install.{Install}
use Rattle.node_model.specs.declared.cluster.Cluster.{Cluster}
use Rattle.node_model.specs.declared.node.UpNode.{UpNode}
use Rattle.node_model.specs.declared.seat.Seat.{Seat}
use Rattle.node_model.specs.declared.seat.Seat.TheVariants.{Forming, Member}
use Rattle.node_model.specs.Attempts.{begins_install, installs_now, is_choosing, left_out_by, resting, seizing_here, starts_now, votes_in}
use Rattle.refinement.specs.Courses.{Course, joined}
use Rattle.refinement.specs.Courses.Course.{Acts, Falls, Keeps, Stops}
use Rattle.refinement.specs.Cuts as cuts
use Rattle.std.specs.Prelude.{ℕ, ◌≡◌, ◌==◌, Bool, true, false, List, [], ◌∷◌, Option, None, Some, is_some, if◌then◌else◌}
use Rattle.std.proofs.Common.{refl, sym, ◌∙◌}
use Rattle.cmm_attempt.proofs.Basics.{if_either, none_some}
use Rattle.device_queue.specs.Queue.{after_seize}
use Rattle.seize.specs.Seizing as seizing
use Rattle.cl_base.specs.declared.panic.Panic.TheVariants as panic
use Rattle.status_report.specs.declared.node_entry.DownCause.TheVariants as down
use Rattle.node_model.specs.Seats.{record_of}
use Rattle.refinement.specs.Doings.{Act, Change, acted, changed, going}
use Rattle.refinement.specs.Doings.Act.{Ends}
use Rattle.refinement.specs.Doings.Change.{Counts, Starts}
use Rattle.run_outcomes.specs.Free.{IsFree, PlainAct}
use Rattle.run_outcomes.specs.counts.Ends.{ActFits, GoesFit, Last, last_by, last_by_change}
use Rattle.run_outcomes.proofs.free.Courses.{if_started_free}

-- its attempt, where it has one, is this
abbrev IsOf : AttemptState → Option AttemptState → Type 0
IsOf t None = Unit {0}
IsOf t (Some a) = a ≡ t

-- each end among these steps is that which the call gave
abbrev AreGiven : AttemptState → Call → List Step → Type 0
AreGiven a k steps = (why : AttemptEnd) → end_in steps ≡ Some why → end_in (turn a k).steps ≡ Some why

free_act : (last : Last) (x : UpNode) (a : Act) → PlainAct a → ActFits last x a
free_act last x (Ends a why) h = absurd h
free_act last x _ h = tt

module _ (c : Cluster) (me : ℕ) where
  pub free_fits : (last : Last) (x : UpNode) (k : Course) → IsFree k → GoesFit c me last x k
  free_fits last x Stops h = tt
  free_fits last x (Acts a rest) h = (free_act last x a h.0, free_fits (last_by last a) (acted c me x a) rest h.1)
  free_fits last x (Keeps change rest) h = (tt, free_fits (last_by_change last change) (changed c me x change) rest h.1)
  free_fits last x (Falls why) h = tt

  pub either_fits : (last : Last) (x : UpNode) (b : Bool) (k l : Course) → GoesFit c me last x k → GoesFit c me last x l → GoesFit c me last x (if b then k else l)
  either_fits last x true k l h i = h
  either_fits last x false k l h i = i

  then_fits : (last : Last) (x : UpNode) (k : Course) (next : UpNode → Course) → GoesFit c me last x k → ((l : Last) (y : UpNode) → GoesFit c me l y (next y)) → GoesFit c me last x (joined c me x k next)
  then_fits last x Stops next h i = i last x
  then_fits last x (Acts a rest) next h i = (h.0, then_fits (last_by last a) (acted c me x a) rest next h.1 i)
  then_fits last x (Keeps change rest) next h i = (tt, then_fits (last_by_change last change) (changed c me x change) rest next h.1 i)
  then_fits last x (Falls why) next h i = tt

  pub free_then : (last : Last) (x : UpNode) (k : Course) (next : UpNode → Course) → IsFree k → ((l : Last) (y : UpNode) → GoesFit c me l y (next y)) → GoesFit c me last x (joined c me x k next)
  free_then last x k next h i = then_fits last x k next (free_fits last x k h) i

  -- ---- the steps of an attempt, one after another

  excluded_then : (last : Last) (f newest : ℕ) (x : UpNode) (o : Option ℕ) (steps : List Step) → GoesFit c me last x (cuts.steps_course c me x steps)
      → GoesFit c me last x (joined c me x (cuts.excluded_course me f newest o) (λ y. cuts.steps_course c me y steps))
  excluded_then last f newest x None steps h = h
  excluded_then last f newest x (Some m) steps h = by_test (m == me)
    where
      by_test : (b : Bool) → GoesFit c me last x (joined c me x (if b then Falls (down.Panic (panic.Excluded newest)) else cuts.writing m (body.Excluded f newest)) (λ y. cuts.steps_course c me y steps))
      by_test true = tt
      by_test false = (tt, h)

  queued_then : (last : Last) (d : ℕ) (kind : SeizeKind) (x : UpNode) (o : Option AttemptState) (steps : List Step)
      → GoesFit c me last x (cuts.steps_course c me x steps) → ((a : AttemptState) → o ≡ Some a → GoesFit c me last (seizing_here c me x d kind (Some a)) (cuts.steps_course c me (seizing_here c me x d kind (Some a)) steps))
      → GoesFit c me last x (joined c me x (cuts.queued_course d kind o) (λ y. cuts.steps_course c me y steps))
  queued_then last d kind x None steps same queued = same
  queued_then last d kind x (Some a) steps same queued = (tt, queued a refl)

  -- where there is no attempt none ends
  over_then : (last : Last) (why : AttemptEnd) (x : UpNode) (o : Option AttemptState) (steps : List Step) → o ≡ None → GoesFit c me last x (cuts.steps_course c me x steps)
      → GoesFit c me last x (joined c me x (cuts.ended_course me why o) (λ y. cuts.steps_course c me y steps))
  over_then last why x None steps none h = h
  over_then last why x (Some a) steps none h = absurd (none_some a (sym none))

  over_fits : (last : Last) (x : UpNode) (steps : List Step) → x.attempt ≡ None → GoesFit c me last x (cuts.steps_course c me x steps)
  over_fits last x [] none = tt
  over_fits last x (step.Send to m ∷ steps) none = (tt, over_fits last x steps none)
  over_fits last x (step.SeizeHere d kind ∷ steps) none = queued_then last d kind x x.attempt steps (over_fits last x steps none) (λ a some. absurd (none_some a (sym none ∙ some)))
  over_fits last x (step.NeedVotes n ∷ steps) none = over_fits last x steps none
  over_fits last x (step.InstallHere i ∷ steps) none = over_fits last x steps none
  over_fits last x (step.StartHere ∷ steps) none = over_fits last x steps none
  over_fits last x (step.Ended why ∷ steps) none = over_then last why x x.attempt steps none (over_fits last x steps none)

  -- these steps end nothing
  pub calm_fits : (last : Last) (x : UpNode) (steps : List Step) → end_in steps ≡ None → GoesFit c me last x (cuts.steps_course c me x steps)
  calm_fits last x [] calm = tt
  calm_fits last x (step.Send to m ∷ steps) calm = (tt, calm_fits last x steps calm)
  calm_fits last x (step.SeizeHere d kind ∷ steps) calm = queued_then last d kind x x.attempt steps (calm_fits last x steps calm) (λ a some. calm_fits last (seizing_here c me x d kind (Some a)) steps calm)
  calm_fits last x (step.NeedVotes n ∷ steps) calm = calm_fits last x steps calm
  calm_fits last x (step.InstallHere i ∷ steps) calm = calm_fits last x steps calm
  calm_fits last x (step.StartHere ∷ steps) calm = calm_fits last x steps calm
  calm_fits last x (step.Ended why ∷ steps) calm = absurd (none_some why (sym calm))

  ended_then : (a : AttemptState) (k : Call) (why : AttemptEnd) (x : UpNode) (o : Option AttemptState) (steps : List Step) → x.attempt ≡ o → end_in (turn a k).steps ≡ Some why → IsOf (turn a k).after o
      → GoesFit c me (Some (a, k)) x (joined c me x (cuts.ended_course me why o) (λ y. cuts.steps_course c me y steps))
  ended_then a k why x None steps is gives of = over_fits (Some (a, k)) x steps is
  ended_then a k why x (Some b) steps is gives of =
      ((is, (of, gives)), excluded_then None b.plan.epoch (unwrap_or (newest_installed b) 0) (resting x) (left_out_by why) steps (over_fits None (resting x) steps refl))

  queued_of : (t : AttemptState) (d : ℕ) (kind : SeizeKind) (x : UpNode) (a : AttemptState) → IsOf t x.attempt → IsOf t (seizing_here c me x d kind (Some a)).attempt
  queued_of t d kind x a of =
      if_either (λ (y : UpNode). IsOf t y.attempt) (has a.plan.members me)
      (record x { tasks = after_seize x.tasks d (seizing.begun kind a.plan.epoch a.plan.members me c.id (has (record_of x).valid d)) }) x of of

  steps_fit : (a : AttemptState) (k : Call) (x : UpNode) (steps : List Step) → AreGiven a k steps → IsOf (turn a k).after x.attempt → GoesFit c me (Some (a, k)) x (cuts.steps_course c me x steps)
  steps_fit a k x [] given of = tt
  steps_fit a k x (step.Send to m ∷ steps) given of = (tt, steps_fit a k x steps given of)
  steps_fit a k x (step.SeizeHere d kind ∷ steps) given of =
      queued_then (Some (a, k)) d kind x x.attempt steps (steps_fit a k x steps given of) (λ b some. steps_fit a k (seizing_here c me x d kind (Some b)) steps given (queued_of (turn a k).after d kind x b of))
  steps_fit a k x (step.NeedVotes n ∷ steps) given of = steps_fit a k x steps given of
  steps_fit a k x (step.InstallHere i ∷ steps) given of = steps_fit a k x steps given of
  steps_fit a k x (step.StartHere ∷ steps) given of = steps_fit a k x steps given of
  steps_fit a k x (step.Ended why ∷ steps) given of = ended_then a k why x x.attempt steps refl (given why refl) of

  -- ---- a call

  kept_if_fits : (last : Last) (x : UpNode) (keeps : Bool) (change : Change) (rest : Course) → GoesFit c me (last_by_change last change) (changed c me x change) rest → GoesFit c me last x (cuts.kept_if keeps change rest)
  kept_if_fits last x true change rest k = (tt, k)
  kept_if_fits last x false change rest k = (tt, k)

  gone_on_fits : (last : Last) (x : UpNode) (a : AttemptState) (k : Call) (steps : List Step) → AreGiven a k steps → GoesFit c me last x (cuts.gone_on c me x a k steps)
  gone_on_fits last x a k steps given = (tt, steps_fit a k (going x a k) steps given refl)

  counted_fits : (last : Last) (x : UpNode) (a : AttemptState) (k : Call) (i : Install) (rest : List Step) (seat : Seat) → AreGiven a k rest → GoesFit c me last x (cuts.counted c me x a k i rest seat)
  counted_fits last x a k i rest (Member s) given = gone_on_fits last x a k rest given
  counted_fits last x a k i rest (Forming s) given =
      either_fits last x (installs_now s i) _ _ (tt, steps_fit a k (changed c me x (Counts a k s i)) rest given refl) (gone_on_fits last x a k rest given)

  started_fits : (last : Last) (x : UpNode) (a : AttemptState) (k : Call) (rest : List Step) (seat : Seat) → AreGiven a k rest → GoesFit c me last x (cuts.started c me x a k rest seat)
  started_fits last x a k rest (Member s) given = gone_on_fits last x a k rest given
  started_fits last x a k rest (Forming s) given =
      either_fits last x (starts_now s (turn a k).after.plan.epoch) _ _
      (kept_if_fits last x (is_some s.saved.entries.pending) (Starts a k s) (cuts.steps_course c me (changed c me x (Starts a k s)) rest) (steps_fit a k (changed c me x (Starts a k s)) rest given tt))
      (gone_on_fits last x a k rest given)

  turned_by_fits : (last : Last) (x : UpNode) (a : AttemptState) (k : Call) (steps : List Step) → AreGiven a k steps → GoesFit c me last x (cuts.turned_by c me x a k steps)
  turned_by_fits last x a k [] given = gone_on_fits last x a k [] given
  turned_by_fits last x a k (step.InstallHere i ∷ rest) given = counted_fits last x a k i rest x.seat given
  turned_by_fits last x a k (step.StartHere ∷ rest) given = started_fits last x a k rest x.seat given
  turned_by_fits last x a k (step.Send to m ∷ rest) given = gone_on_fits last x a k (step.Send to m ∷ rest) given
  turned_by_fits last x a k (step.SeizeHere d kind ∷ rest) given = gone_on_fits last x a k (step.SeizeHere d kind ∷ rest) given
  turned_by_fits last x a k (step.NeedVotes n ∷ rest) given = gone_on_fits last x a k (step.NeedVotes n ∷ rest) given
  turned_by_fits last x a k (step.Ended e ∷ rest) given = gone_on_fits last x a k (step.Ended e ∷ rest) given

  turned_all_fits : (last : Last) (x : UpNode) (a : AttemptState) (k : Call) → GoesFit c me last x (cuts.turned_all c me x a k)
  turned_all_fits last x a k =
      then_fits last x (cuts.turned c me x a k) (cuts.if_started c me (turn a k).steps) (turned_by_fits last x a k (turn a k).steps (λ why is. is))
      (λ l z. free_fits l z (cuts.if_started c me (turn a k).steps z) (if_started_free c me (turn a k).steps z))

  readied_fits : (last : Last) (x : UpNode) (o : Option AttemptState) → GoesFit c me last x (cuts.readied_course c me x o)
  readied_fits last x None = tt
  readied_fits last x (Some a) = turned_all_fits last x a Own_ready

  pub own_ready_fits : (last : Last) (x : UpNode) → GoesFit c me last x (cuts.own_ready_course c me x)
  own_ready_fits last x = either_fits last x (joins x.tasks) _ _ tt (readied_fits last x x.attempt)

  if_installed_fits : (last : Last) (steps : List Step) (y : UpNode) → GoesFit c me last y (cuts.if_installed c me steps y)
  if_installed_fits last steps y = either_fits last y (begins_install steps) _ _ (own_ready_fits last y) tt

  pub called_fits : (last : Last) (x : UpNode) (a : AttemptState) (k : Call) → GoesFit c me last x (cuts.called c me x a k)
  called_fits last x a k = then_fits last x (cuts.turned_all c me x a k) (cuts.if_installed c me (turn a k).steps) (turned_all_fits last x a k) (λ l z. if_installed_fits l (turn a k).steps z)

  pub going_fits : (last : Last) (x : UpNode) (a : AttemptState) (k : Call) → GoesFit c me last x (cuts.going_course c me x a k)
  going_fits last x a k =
      either_fits last x (is_choosing (turn a k).after.phase) _ _
      (tt, called_fits (Some (a, k)) (going x a k) (turn a k).after (With_votes (votes_in c (turn a k).after))) (called_fits last x a k)
