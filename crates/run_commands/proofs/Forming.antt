-- In each course of an attempt or a membership the commands that wait stay, or are answered as their membership ends.
use Rattle.std.specs.Option.{unwrap_or}
use Rattle.cl_base.specs.Seizings.{SeizeResult}
use Rattle.cmm_attempt.specs.declared.step.AttemptEnd.{AttemptEnd}
use Rattle.cmm_attempt.specs.declared.step.Step.{Step}
use Rattle.cmm_attempt.specs.declared.step.Step.TheVariants as step
use Rattle.cmm_attempt.specs.Attempts.{AttemptState, Turn, newest_installed}
use Rattle.cmm_attempt.specs.Calls.{Call, Own_ready, Tick as Call_tick, With_votes, starts_in, turn}
use Rattle.device_queue.specs.Queue.{joins, kept_of}
use Rattle.rgm_president.specs.Decisions as decisions
use Rattle.seize.specs.declared.kind.SeizeKind.{SeizeKind}
use Rattle.wire.specs.declared.message.Install.{Install}
use Rattle.node_model.specs.declared.cluster.Cluster.{Cluster}
use Rattle.node_model.specs.declared.node.UpNode.{UpNode}
use Rattle.node_model.specs.declared.presidency.Presidency.{Presidency}
use Rattle.node_model.specs.declared.seat.Seat.{Seat}
use Rattle.node_model.specs.declared.seat.Seat.TheVariants.{Forming, Member}
use Rattle.node_model.specs.Attempts.{begins_install, installs_now, is_choosing, left_out_by, next_epoch, starts_now, votes_in}
use Rattle.node_model.specs.Configurations.{in_force}
use Rattle.node_model.specs.Deciding.{is_held_up, may_order}
use Rattle.node_model.specs.Members.{awaits_start}
use Rattle.node_model.specs.Ticks.{members_to_form, waiting_less}
use Rattle.refinement.specs.Courses.{Course, joined}
use Rattle.refinement.specs.Courses.Course.{Acts, Falls, Keeps, Stops}
use Rattle.refinement.specs.Cuts as cuts
use Rattle.refinement.specs.Cuts.{acks_of, first_turn, left_answered}
use Rattle.node_model.specs.Seats.{installed_of, is_in, promised_of}
use Rattle.refinement.specs.Doings.{Change, acted, changed, going}
use Rattle.refinement.specs.Doings.Change.{Counts, Installs, Leads, Sits, Starts}
use Rattle.std.specs.Prelude.{ℕ, ◌≡◌, ◌==◌, nat_le, nat_lt, Bool, true, false, List, [], ◌∷◌, Option, None, Some, is_some, if◌then◌else◌}
use Rattle.std.proofs.Common.{refl, sym, subst}
use Rattle.node_model.specs.Attempts.{resting}
use Rattle.refinement.specs.Cuts.{queue_by}
use Rattle.run_commands.specs.Guards.{ChangeSo, GoesSo, Hand, IsFree, QueueGoes}
use Rattle.run_commands.specs.Guards.Hand.{Free, Held, Spent}
use Rattle.run_commands.specs.Guards.Move.{Stays}
use Rattle.run_commands.proofs.Asides.{orders_quiet, quiet_gives}

free_is : (h : Hand) → IsFree h → h ≡ Free
free_is Free is = refl
free_is (Held k) is = absurd is
free_is (Spent k) is = absurd is

-- the requests stay
pub unmoved : (x : UpNode) → QueueGoes Free x.requests x.requests Free
unmoved x = record { move = Stays; waiting = refl; asked = refl; may = (tt, refl) }

module _ (c : Cluster) (me : ℕ) where
  -- no command waits but those whose requests are in the queue, before the course and after it
  abbrev G : UpNode → Course → Type 0
  G x k = GoesSo c me Free x k

  pub either_so : (x : UpNode) (b : Bool) (k l : Course) → G x k → G x l → G x (if b then k else l)
  either_so x true k l p q = p
  either_so x false k l p q = q

  then_at : (h : Hand) (x : UpNode) (k : Course) (next : UpNode → Course) → GoesSo c me h x k → ((y : UpNode) → G y (next y)) → GoesSo c me h x (joined c me x k next)
  then_at h x Stops next p q = subst (λ g. GoesSo c me g x (next x)) (sym (free_is h p)) (q x)
  then_at h x (Acts a rest) next p q = (p.0, p.1, then_at p.0 (acted c me x a) rest next p.2 q)
  then_at h x (Keeps change rest) next p q = (p.0, p.1, then_at p.0 (changed c me x change) rest next p.2 q)
  then_at h x (Falls why) next p q = tt

  pub then_so : (x : UpNode) (k : Course) (next : UpNode → Course) → G x k → ((y : UpNode) → G y (next y)) → G x (joined c me x k next)
  then_so x k next p q = then_at Free x k next p q

  decided_so : (x : UpNode) (p : Presidency) (t : decisions.Turn) → G x (cuts.decided_course me x p t)
  decided_so x p t = (Free, quiet_gives me Free x.requests.waiting _ (orders_quiet me t.orders), (Free, unmoved x, tt))

  deciding_by_so : (x : UpNode) (o : Option Presidency) → G x (cuts.deciding_by_course c me x o)
  deciding_by_so x None = tt
  deciding_by_so x (Some p) = either_so x (may_order p.groups) _ _ (decided_so x p (decisions.decision (in_force c x) x.second (is_held_up p) p.groups)) tt

  pub deciding_so : (x : UpNode) → G x (cuts.deciding_course c me x)
  deciding_so x = deciding_by_so x x.presidency

  excluded_so : (x : UpNode) (e newest : ℕ) (o : Option ℕ) → G x (cuts.excluded_course me e newest o)
  excluded_so x e newest None = tt
  excluded_so x e newest (Some m) = either_so x (m == me) _ _ tt (Free, refl, tt)

  ended_so : (x : UpNode) (e : AttemptEnd) (o : Option AttemptState) → G x (cuts.ended_course me e o)
  ended_so x e None = tt
  ended_so x e (Some a) = (Free, refl, excluded_so (resting x) a.plan.epoch (unwrap_or (newest_installed a) 0) (left_out_by e))

  queued_so : (x : UpNode) (d : ℕ) (kind : SeizeKind) (o : Option AttemptState) → G x (cuts.queued_course d kind o)
  queued_so x d kind None = tt
  queued_so x d kind (Some a) = (Free, refl, tt)

  step_so : (x : UpNode) (s : Step) → G x (cuts.step_course me x s)
  step_so x (step.Send to m) = (Free, refl, tt)
  step_so x (step.SeizeHere d kind) = queued_so x d kind x.attempt
  step_so x (step.NeedVotes n) = tt
  step_so x (step.InstallHere i) = tt
  step_so x step.StartHere = tt
  step_so x (step.Ended e) = ended_so x e x.attempt

  steps_so : (x : UpNode) (steps : List Step) → G x (cuts.steps_course c me x steps)
  steps_so x [] = tt
  steps_so x (s ∷ steps) = then_so x _ _ (step_so x s) (λ y. steps_so y steps)

  kept_if_so : (x : UpNode) (keeps : Bool) (change : Change) (rest : Course) → ChangeSo Free x change Free → G (changed c me x change) rest → G x (cuts.kept_if keeps change rest)
  kept_if_so x true change rest k l = (Free, k, l)
  kept_if_so x false change rest k l = (Free, k, l)

  gone_on_so : (x : UpNode) (a : AttemptState) (k : Call) (steps : List Step) → G x (cuts.gone_on c me x a k steps)
  gone_on_so x a k steps = (Free, refl, steps_so (going x a k) steps)

  counted_so : (x : UpNode) (a : AttemptState) (k : Call) (i : Install) (rest : List Step) (seat : Seat) → G x (cuts.counted c me x a k i rest seat)
  counted_so x a k i rest (Member s) = gone_on_so x a k rest
  counted_so x a k i rest (Forming s) =
      either_so x (installs_now s i) _ _ (Free, (refl, refl), steps_so (changed c me x (Counts a k s i)) rest) (gone_on_so x a k rest)

  started_so : (x : UpNode) (a : AttemptState) (k : Call) (rest : List Step) (seat : Seat) → G x (cuts.started c me x a k rest seat)
  started_so x a k rest (Member s) = gone_on_so x a k rest
  started_so x a k rest (Forming s) =
      either_so x (starts_now s (turn a k).after.plan.epoch) _ _
      (kept_if_so x (is_some s.saved.entries.pending) (Starts a k s) (cuts.steps_course c me (changed c me x (Starts a k s)) rest) (refl, refl) (steps_so (changed c me x (Starts a k s)) rest))
      (gone_on_so x a k rest)

  turned_by_so : (x : UpNode) (a : AttemptState) (k : Call) (steps : List Step) → G x (cuts.turned_by c me x a k steps)
  turned_by_so x a k [] = gone_on_so x a k []
  turned_by_so x a k (step.InstallHere i ∷ rest) = counted_so x a k i rest x.seat
  turned_by_so x a k (step.StartHere ∷ rest) = started_so x a k rest x.seat
  turned_by_so x a k (step.Send to m ∷ rest) = gone_on_so x a k (step.Send to m ∷ rest)
  turned_by_so x a k (step.SeizeHere d kind ∷ rest) = gone_on_so x a k (step.SeizeHere d kind ∷ rest)
  turned_by_so x a k (step.NeedVotes n ∷ rest) = gone_on_so x a k (step.NeedVotes n ∷ rest)
  turned_by_so x a k (step.Ended e ∷ rest) = gone_on_so x a k (step.Ended e ∷ rest)

  turned_so : (x : UpNode) (a : AttemptState) (k : Call) → G x (cuts.turned c me x a k)
  turned_so x a k = turned_by_so x a k (turn a k).steps

  if_started_so : (steps : List Step) (y : UpNode) → G y (cuts.if_started c me steps y)
  if_started_so steps y = either_so y (starts_in steps) _ _ (deciding_so y) tt

  turned_all_so : (x : UpNode) (a : AttemptState) (k : Call) → G x (cuts.turned_all c me x a k)
  turned_all_so x a k = then_so x _ _ (turned_so x a k) (λ z. if_started_so (turn a k).steps z)

  readied_so : (x : UpNode) (o : Option AttemptState) → G x (cuts.readied_course c me x o)
  readied_so x None = tt
  readied_so x (Some a) = turned_all_so x a Own_ready

  pub own_ready_so : (x : UpNode) → G x (cuts.own_ready_course c me x)
  own_ready_so x = either_so x (joins x.tasks) _ _ tt (readied_so x x.attempt)

  if_installed_so : (steps : List Step) (y : UpNode) → G y (cuts.if_installed c me steps y)
  if_installed_so steps y = either_so y (begins_install steps) _ _ (own_ready_so y) tt

  called_so : (x : UpNode) (a : AttemptState) (k : Call) → G x (cuts.called c me x a k)
  called_so x a k = then_so x _ _ (turned_all_so x a k) (λ z. if_installed_so (turn a k).steps z)

  pub going_so : (x : UpNode) (a : AttemptState) (k : Call) → G x (cuts.going_course c me x a k)
  going_so x a k =
      either_so x (is_choosing (turn a k).after.phase) _ _
      (Free, refl, called_so (going x a k) (turn a k).after (With_votes (votes_in c (turn a k).after))) (called_so x a k)

  begun_so : (x : UpNode) (t : Turn) → G x (cuts.begun_course c me x t)
  begun_so x t = either_so x (is_choosing t.after.phase) _ _ (called_so x t.after (With_votes (votes_in c t.after))) (steps_so x t.steps)

  leading_so : (x : UpNode) (p members : ℕ) → G x (cuts.leading_course c me x p members)
  leading_so x p members =
      either_so x (nat_lt (promised_of x) p) _ _ (Free, (refl, refl), begun_so (changed c me x (Leads p members)) (first_turn c me x p members)) tt

  forming_so : (x : UpNode) (o : Option ℕ) → G x (cuts.forming_course c me x o)
  forming_so x None = tt
  forming_so x (Some members) = leading_so x (next_epoch me x) members

  pub ticked_so : (x : UpNode) (o : Option AttemptState) → G x (cuts.ticked_course c me x o)
  ticked_so x (Some a) = going_so x a Call_tick
  ticked_so x None = either_so x (nat_le 1 x.beats.wait) _ _ (Free, refl, tt) (Free, refl, forming_so (waiting_less x) (members_to_form c me (waiting_less x)))

  pub heartbeat_so : (x : UpNode) (from session : ℕ) (member : Bool) → G x (cuts.heartbeat_course me x from session member)
  heartbeat_so x from session member = either_so x (awaits_start me x from session member) _ _ (Free, refl, tt) tt

  pub collect_so : (x : UpNode) (from p : ℕ) → G x (cuts.collect_course x from p)
  collect_so x from p = either_so x (nat_lt (promised_of x) p) _ _ (Free, (refl, refl), (Free, refl, tt)) (either_so x (is_in x p) _ _ (Free, refl, tt) (Free, refl, tt))

  request_so : (x : UpNode) (from : ℕ) (kind : SeizeKind) (e members d : ℕ) (o : Option SeizeResult) → G x (cuts.request_course x from kind e members d o)
  request_so x from kind e members d (Some result) = (Free, refl, tt)
  request_so x from kind e members d None = either_so x (installed_of x == e) _ _ (Free, refl, tt) (Free, refl, tt)

  pub seizing_so : (x : UpNode) (from : ℕ) (kind : SeizeKind) (e members d : ℕ) → G x (cuts.seizing_course x from kind e members d)
  seizing_so x from kind e members d = either_so x (is_in x e) _ _ (request_so x from kind e members d (kept_of x.tasks d)) tt

  pub readying_so : (x : UpNode) (to : ℕ) → G x (cuts.readying_course c x to)
  readying_so x to = either_so x (joins x.tasks) _ _ tt (Free, refl, tt)

  installed_so : (x : UpNode) (from : ℕ) (i : Install) (seat : Seat) → G x (cuts.installed_course c me x from i seat)
  installed_so x from i (Member s) = readying_so x from
  installed_so x from i (Forming s) = either_so x (s.saved.installed == i.epoch) _ _ (readying_so x from) (Free, (refl, refl), readying_so (changed c me x (Installs s i)) from)

  pub install_so : (x : UpNode) (from : ℕ) (i : Install) → G x (cuts.install_course c me x from i)
  install_so x from i = either_so x (is_in x i.epoch) _ _ (installed_so x from i x.seat) (Free, refl, tt)

  pub start_so : (x : UpNode) (e : ℕ) (seat : Seat) → G x (cuts.start_course e seat)
  start_so x e (Member s) = tt
  start_so x e (Forming s) = either_so x (starts_now s e) _ _ (kept_if_so x (is_some s.saved.entries.pending) (Sits s e) Stops (refl, refl) tt) tt

  pub notice_so : (x : UpNode) (e newest : ℕ) → G x (cuts.notice_course x e newest)
  notice_so x e newest = either_so x (is_in x e) _ _ tt tt
