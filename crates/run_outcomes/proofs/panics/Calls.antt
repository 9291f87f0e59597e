-- Where an attempt of a node's own takes a call, an Excluded follows the line of its exclusion, and so does the node's own panic.
use Rattle.std.specs.Option.{unwrap_or}
use Rattle.std.specs.Prelude.{ℕ, ◌==◌, Bool, true, false, List, [], ◌∷◌, Option, None, Some, is_some, if◌then◌else◌}
use Rattle.std.specs.List.{AllByRecursion}
use Rattle.std.proofs.Common.{refl, inl}
use Rattle.attempt_laws.proofs.Walk.{if_with}
use Rattle.cl_base.specs.declared.panic.Panic.TheVariants as panic
use Rattle.cmm_attempt.proofs.Basics.{same_number}
use Rattle.cmm_attempt.specs.Attempts.{AttemptState, newest_installed}
use Rattle.cmm_attempt.specs.Calls.{Call, Own_ready, With_votes, turn}
use Rattle.cmm_attempt.specs.declared.step.AttemptEnd.{AttemptEnd}
use Rattle.cmm_attempt.specs.declared.step.AttemptEnd.TheVariants as end
use Rattle.cmm_attempt.specs.declared.step.Step.{Step}
use Rattle.cmm_attempt.specs.declared.step.Step.TheVariants as step
use Rattle.device_queue.specs.Queue.{joins}
use Rattle.node_model.specs.Attempts.{begins_install, installs_now, is_choosing, left_out_by, resting, starts_now, votes_in}
use Rattle.node_model.specs.declared.cluster.Cluster.{Cluster}
use Rattle.node_model.specs.declared.node.UpNode.{UpNode}
use Rattle.node_model.specs.declared.seat.Seat.{Seat}
use Rattle.node_model.specs.declared.seat.Seat.TheVariants.{Forming, Member}
use Rattle.refinement.proofs.Fits.{AllFit, AllSent, AllStart, FitsBody, FitsTurn, StartsBody, turn_fits}
use Rattle.refinement.specs.Courses.{Course, joined}
use Rattle.refinement.specs.Courses.Course.{Acts, Falls, Keeps, Stops}
use Rattle.refinement.specs.Cuts as cuts
use Rattle.refinement.specs.Doings.{Act, Change, acted, changed, going}
use Rattle.refinement.specs.Doings.Act.{Spreads, Writes}
use Rattle.refinement.specs.Doings.Change.{Counts, Starts}
use Rattle.refinement.specs.Ties.{Delivered}
use Rattle.seize.specs.declared.kind.SeizeKind.{SeizeKind}
use Rattle.status_report.specs.declared.node_entry.DownCause.{DownCause}
use Rattle.status_report.specs.declared.node_entry.DownCause.TheVariants as cause
use Rattle.wire.specs.declared.message.Body.{Body}
use Rattle.wire.specs.declared.message.Body.TheVariants as body
use Rattle.wire.specs.declared.message.Install.{Install}
use Rattle.run_outcomes.specs.Free.{IsFree, PlainAct}
use Rattle.run_outcomes.specs.panics.Notices.{ActSaid, BodySaid, FallSaid, FreeFall, GoesSaid, NoNotice, Notice, notice_by, notice_of}
use Rattle.run_outcomes.proofs.free.Courses.{if_started_free}

-- ---- what says nothing of it

body_said : (said : Option Notice) (to : ℕ) (b : Body) → NoNotice b → BodySaid said to b
body_said said to (body.Excluded e newest) h = absurd h
body_said said to _ h = tt

act_said : (said : Option Notice) (a : Act) → PlainAct a → ActSaid said a
act_said said (Writes to b) h = body_said said to b h
act_said said (Spreads receivers b) h = h
act_said said _ h = tt

fall_said : (me : ℕ) (told : Delivered) (said : Option Notice) (x : UpNode) (why : DownCause) → FreeFall why → FallSaid me told said x why
fall_said me told said x (cause.Panic (panic.Excluded f)) h = absurd h
fall_said me told said x _ h = tt

-- ---- the steps of an attempt

abbrev StepFree : Step → Type 0
StepFree (step.Send to m) = NoNotice m.body
StepFree s = Unit {0}

abbrev AreFree : List Step → Type 0
AreFree steps = AllByRecursion StepFree steps

fits_free : (t : AttemptState) (b : Body) → FitsBody t b → NoNotice b
fits_free t (body.Excluded e newest) h = h
fits_free t _ h = tt

starts_free : (p : ℕ) (b : Body) → StartsBody p b → NoNotice b
starts_free p (body.Excluded e newest) h = h
starts_free p _ h = tt

pub all_fit_free : (t : AttemptState) (steps : List Step) → AllFit t steps → AreFree steps
all_fit_free t [] h = tt
all_fit_free t (step.Send to m ∷ steps) h = (fits_free t m.body h.0, all_fit_free t steps h.2)
all_fit_free t (step.SeizeHere d kind ∷ steps) h = (tt, all_fit_free t steps h.2)
all_fit_free t (step.NeedVotes n ∷ steps) h = (tt, all_fit_free t steps h.2)
all_fit_free t (step.InstallHere i ∷ steps) h = absurd h.0
all_fit_free t (step.StartHere ∷ steps) h = absurd h.0
all_fit_free t (step.Ended e ∷ steps) h = (tt, all_fit_free t steps h.2)

all_start_free : (p : ℕ) (steps : List Step) → AllStart p steps → AreFree steps
all_start_free p [] h = tt
all_start_free p (step.Send to m ∷ steps) h = (starts_free p m.body h.0, all_start_free p steps h.1)
all_start_free p (step.SeizeHere d kind ∷ steps) h = absurd h.0
all_start_free p (step.NeedVotes n ∷ steps) h = absurd h.0
all_start_free p (step.InstallHere i ∷ steps) h = absurd h.0
all_start_free p (step.StartHere ∷ steps) h = absurd h.0
all_start_free p (step.Ended e ∷ steps) h = absurd h.0

all_sent_free : (t : AttemptState) (steps : List Step) → AllSent t steps → AreFree steps
all_sent_free t [] h = tt
all_sent_free t (step.Send to m ∷ steps) h = (fits_free t m.body h.0, all_sent_free t steps h.1)
all_sent_free t (step.SeizeHere d kind ∷ steps) h = absurd h
all_sent_free t (step.NeedVotes n ∷ steps) h = absurd h
all_sent_free t (step.InstallHere i ∷ steps) h = absurd h
all_sent_free t (step.StartHere ∷ steps) h = absurd h
all_sent_free t (step.Ended e ∷ steps) h = absurd h

turn_free : (t : AttemptState) (steps : List Step) → FitsTurn t steps → AreFree steps
turn_free t [] h = tt
turn_free t (step.StartHere ∷ rest) h = (tt, all_start_free t.plan.epoch rest h)
turn_free t (step.InstallHere i ∷ rest) h = (tt, all_sent_free t rest h)
turn_free t (step.Send to m ∷ rest) h = all_fit_free t (step.Send to m ∷ rest) h
turn_free t (step.SeizeHere d kind ∷ rest) h = all_fit_free t (step.SeizeHere d kind ∷ rest) h
turn_free t (step.NeedVotes n ∷ rest) h = all_fit_free t (step.NeedVotes n ∷ rest) h
turn_free t (step.Ended e ∷ rest) h = all_fit_free t (step.Ended e ∷ rest) h

module _ (c : Cluster) (me : ℕ) (told : Delivered) where
  pub free_said : (said : Option Notice) (x : UpNode) (k : Course) → IsFree k → GoesSaid c me told said x k
  free_said said x Stops h = tt
  free_said said x (Acts a rest) h = (act_said said a h.0, free_said (notice_by a) (acted c me x a) rest h.1)
  free_said said x (Keeps change rest) h = (tt, free_said None (changed c me x change) rest h.1)
  free_said said x (Falls why) h = fall_said me told said x why h

  pub either_said : (said : Option Notice) (x : UpNode) (b : Bool) (k l : Course) → GoesSaid c me told said x k → GoesSaid c me told said x l → GoesSaid c me told said x (if b then k else l)
  either_said said x true k l h i = h
  either_said said x false k l h i = i

  then_said : (said : Option Notice) (x : UpNode) (k : Course) (next : UpNode → Course) → GoesSaid c me told said x k → ((said_then : Option Notice) (y : UpNode) → GoesSaid c me told said_then y (next y)) → GoesSaid c me told said x (joined c me x k next)
  then_said said x Stops next h i = i said x
  then_said said x (Acts a rest) next h i = (h.0, then_said (notice_by a) (acted c me x a) rest next h.1 i)
  then_said said x (Keeps change rest) next h i = (tt, then_said None (changed c me x change) rest next h.1 i)
  then_said said x (Falls why) next h i = h

  pub free_then : (said : Option Notice) (x : UpNode) (k : Course) (next : UpNode → Course) → IsFree k → ((said_then : Option Notice) (y : UpNode) → GoesSaid c me told said_then y (next y)) → GoesSaid c me told said x (joined c me x k next)
  free_then said x k next h i = then_said said x k next (free_said said x k h) i

  excluded_said : (x : UpNode) (e newest m : ℕ) → GoesSaid c me told (Some (record { epoch = e; newest = newest; member = m })) x (cuts.excluded_course me e newest (Some m))
  excluded_said x e newest m =
      if_with (GoesSaid c me told (Some (record { epoch = e; newest = newest; member = m })) x) (m == me) (m == me) (Falls (cause.Panic (panic.Excluded newest))) (cuts.writing m (body.Excluded e newest)) refl
      (λ same. inl (same_number m me same, refl)) (λ other. (refl, tt))

  ending_said : (x : UpNode) (a : AttemptState) (why : AttemptEnd) → GoesSaid c me told (notice_of a why) (resting x) (cuts.excluded_course me a.plan.epoch (unwrap_or (newest_installed a) 0) (left_out_by why))
  ending_said x a (end.Excluded m) = excluded_said (resting x) a.plan.epoch (unwrap_or (newest_installed a) 0) m
  ending_said x a (end.Votes have need lacking) = tt
  ending_said x a (end.Superseded q) = tt
  ending_said x a (end.Silent m) = tt
  ending_said x a (end.Foreign m) = tt

  ended_said : (said : Option Notice) (x : UpNode) (why : AttemptEnd) (o : Option AttemptState) → GoesSaid c me told said x (cuts.ended_course me why o)
  ended_said said x why None = tt
  ended_said said x why (Some a) = (tt, ending_said x a why)

  queued_said : (said : Option Notice) (x : UpNode) (d : ℕ) (kind : SeizeKind) (o : Option AttemptState) → GoesSaid c me told said x (cuts.queued_course d kind o)
  queued_said said x d kind None = tt
  queued_said said x d kind (Some a) = (tt, tt)

  step_said : (said : Option Notice) (x : UpNode) (s : Step) → StepFree s → GoesSaid c me told said x (cuts.step_course me x s)
  step_said said x (step.Send to m) h = (body_said said to m.body h, tt)
  step_said said x (step.SeizeHere d kind) h = queued_said said x d kind x.attempt
  step_said said x (step.NeedVotes n) h = tt
  step_said said x (step.InstallHere i) h = tt
  step_said said x step.StartHere h = tt
  step_said said x (step.Ended why) h = ended_said said x why x.attempt

  pub steps_said : (said : Option Notice) (x : UpNode) (steps : List Step) → AreFree steps → GoesSaid c me told said x (cuts.steps_course c me x steps)
  steps_said said x [] h = tt
  steps_said said x (s ∷ steps) h = then_said said x (cuts.step_course me x s) (λ y. cuts.steps_course c me y steps) (step_said said x s h.0) (λ l y. steps_said l y steps h.1)

  -- ---- a call

  kept_if_said : (said : Option Notice) (x : UpNode) (keeps : Bool) (change : Change) (rest : Course) → GoesSaid c me told None (changed c me x change) rest → GoesSaid c me told said x (cuts.kept_if keeps change rest)
  kept_if_said said x true change rest k = (tt, k)
  kept_if_said said x false change rest k = (tt, k)

  gone_on_said : (said : Option Notice) (x : UpNode) (a : AttemptState) (k : Call) (steps : List Step) → AreFree steps → GoesSaid c me told said x (cuts.gone_on c me x a k steps)
  gone_on_said said x a k steps h = (tt, steps_said None (going x a k) steps h)

  counted_said : (said : Option Notice) (x : UpNode) (a : AttemptState) (k : Call) (i : Install) (rest : List Step) (seat : Seat) → AreFree rest → GoesSaid c me told said x (cuts.counted c me x a k i rest seat)
  counted_said said x a k i rest (Member s) h = gone_on_said said x a k rest h
  counted_said said x a k i rest (Forming s) h =
      either_said said x (installs_now s i) _ _ (tt, steps_said None (changed c me x (Counts a k s i)) rest h) (gone_on_said said x a k rest h)

  started_said : (said : Option Notice) (x : UpNode) (a : AttemptState) (k : Call) (rest : List Step) (seat : Seat) → AreFree rest → GoesSaid c me told said x (cuts.started c me x a k rest seat)
  started_said said x a k rest (Member s) h = gone_on_said said x a k rest h
  started_said said x a k rest (Forming s) h =
      either_said said x (starts_now s (turn a k).after.plan.epoch) _ _
      (kept_if_said said x (is_some s.saved.entries.pending) (Starts a k s) (cuts.steps_course c me (changed c me x (Starts a k s)) rest) (steps_said None (changed c me x (Starts a k s)) rest h))
      (gone_on_said said x a k rest h)

  turned_by_said : (said : Option Notice) (x : UpNode) (a : AttemptState) (k : Call) (steps : List Step) → AreFree steps → GoesSaid c me told said x (cuts.turned_by c me x a k steps)
  turned_by_said said x a k [] h = gone_on_said said x a k [] h
  turned_by_said said x a k (step.InstallHere i ∷ rest) h = counted_said said x a k i rest x.seat h.1
  turned_by_said said x a k (step.StartHere ∷ rest) h = started_said said x a k rest x.seat h.1
  turned_by_said said x a k (step.Send to m ∷ rest) h = gone_on_said said x a k (step.Send to m ∷ rest) h
  turned_by_said said x a k (step.SeizeHere d kind ∷ rest) h = gone_on_said said x a k (step.SeizeHere d kind ∷ rest) h
  turned_by_said said x a k (step.NeedVotes n ∷ rest) h = gone_on_said said x a k (step.NeedVotes n ∷ rest) h
  turned_by_said said x a k (step.Ended e ∷ rest) h = gone_on_said said x a k (step.Ended e ∷ rest) h

  turned_all_said : (said : Option Notice) (x : UpNode) (a : AttemptState) (k : Call) → GoesSaid c me told said x (cuts.turned_all c me x a k)
  turned_all_said said x a k =
      then_said said x (cuts.turned c me x a k) (cuts.if_started c me (turn a k).steps) (turned_by_said said x a k (turn a k).steps (turn_free (turn a k).after (turn a k).steps (turn_fits a k)))
      (λ l z. free_said l z (cuts.if_started c me (turn a k).steps z) (if_started_free c me (turn a k).steps z))

  readied_said : (said : Option Notice) (x : UpNode) (o : Option AttemptState) → GoesSaid c me told said x (cuts.readied_course c me x o)
  readied_said said x None = tt
  readied_said said x (Some a) = turned_all_said said x a Own_ready

  pub own_ready_said : (said : Option Notice) (x : UpNode) → GoesSaid c me told said x (cuts.own_ready_course c me x)
  own_ready_said said x = either_said said x (joins x.tasks) _ _ tt (readied_said said x x.attempt)

  if_installed_said : (said : Option Notice) (steps : List Step) (y : UpNode) → GoesSaid c me told said y (cuts.if_installed c me steps y)
  if_installed_said said steps y = either_said said y (begins_install steps) _ _ (own_ready_said said y) tt

  pub called_said : (said : Option Notice) (x : UpNode) (a : AttemptState) (k : Call) → GoesSaid c me told said x (cuts.called c me x a k)
  called_said said x a k = then_said said x (cuts.turned_all c me x a k) (cuts.if_installed c me (turn a k).steps) (turned_all_said said x a k) (λ l z. if_installed_said l (turn a k).steps z)

  pub going_said : (said : Option Notice) (x : UpNode) (a : AttemptState) (k : Call) → GoesSaid c me told said x (cuts.going_course c me x a k)
  going_said said x a k =
      either_said said x (is_choosing (turn a k).after.phase) _ _
      (tt, called_said None (going x a k) (turn a k).after (With_votes (votes_in c (turn a k).after))) (called_said said x a k)
