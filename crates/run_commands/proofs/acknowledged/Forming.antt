-- In each course of an attempt or a membership no answer is given, and nothing is due.
use Rattle.std.specs.Prelude.{ℕ, ◌≡◌, ◌==◌, nat_le, nat_lt, Bool, true, false, List, [], ◌∷◌, Option, None, Some, is_some, if◌then◌else◌}
use Rattle.std.specs.List.{AllByRecursion}
use Rattle.std.specs.Option.{unwrap_or}
use Rattle.std.proofs.Common.{refl, inl}
use Rattle.attempt_laws.proofs.Walk.{if_with}
use Rattle.cl_base.specs.Seizings.{SeizeResult}
use Rattle.cmm_attempt.specs.declared.step.AttemptEnd.{AttemptEnd}
use Rattle.cmm_attempt.specs.declared.step.Step.{Step}
use Rattle.cmm_attempt.specs.declared.step.Step.TheVariants as step
use Rattle.cmm_attempt.specs.Attempts.{AttemptState, Turn, newest_installed}
use Rattle.cmm_attempt.specs.Calls.{Call, May, Own_ready, Tick as Call_tick, With_votes, starts_in, turn}
use Rattle.device_queue.specs.Queue.{joins, kept_of}
use Rattle.rgm_president.specs.Decisions as decisions
use Rattle.seize.specs.declared.kind.SeizeKind.{SeizeKind}
use Rattle.wire.specs.declared.message.Install.{Install}
use Rattle.node_model.specs.Attempts.{begins_install, installs_now, is_choosing, left_out_by, next_epoch, promise_of, resting, starts_now, votes_in}
use Rattle.node_model.specs.Configurations.{in_force}
use Rattle.node_model.specs.Deciding.{is_held_up, may_order, with_turn}
use Rattle.node_model.specs.Members.{awaits_start}
use Rattle.node_model.specs.Seats.{installed_of, is_in, promised_of, promising}
use Rattle.node_model.specs.Ticks.{members_to_form, waiting_less}
use Rattle.node_model.specs.declared.cluster.Cluster.{Cluster}
use Rattle.node_model.specs.declared.input.Input.{Input}
use Rattle.node_model.specs.declared.node.UpNode.{UpNode}
use Rattle.node_model.specs.declared.presidency.Presidency.{Presidency}
use Rattle.node_model.specs.declared.seat.Seat.{Seat}
use Rattle.node_model.specs.declared.seat.Seat.TheVariants.{Forming, Member}
use Rattle.refinement.specs.Courses.{Course, joined}
use Rattle.refinement.specs.Courses.Course.{Stops}
use Rattle.refinement.specs.Cuts as cuts
use Rattle.refinement.specs.Cuts.{first_turn}
use Rattle.refinement.specs.Doings.{Change, changed, going}
use Rattle.refinement.specs.Doings.Change.{Counts, Installs, Leads, Sits, Starts}
use Rattle.run_commands.proofs.carried.Asides.{IsOther, choosing_is, first_other, turn_other}
use Rattle.run_commands.specs.acknowledged.Guards.{CauseOf}
use Rattle.run_commands.specs.acknowledged.Hands.{Stays_or_comes}
use Rattle.run_commands.specs.acknowledged.AnsweringGuards.{ChangeSo, GoesSo}
use Rattle.run_commands.specs.acknowledged.AnsweringGuards.Due.{Even}
use Rattle.run_commands.proofs.acknowledged.Dues.{at_office, orders_still, other_still, stays_so, then_from}

module _ (c : Cluster) (me : ℕ) (came : Input) (v : Option ℕ) where
  -- nothing is due before the course, nor after it
  abbrev G : UpNode → Course → Type 0
  G x k = GoesSo c came me v Even x k

  pub either_so : (x : UpNode) (b : Bool) (k l : Course) → G x k → G x l → G x (if b then k else l)
  either_so x true k l p q = p
  either_so x false k l p q = q

  pub then_so : (x : UpNode) (k : Course) (next : UpNode → Course) → G x k → ((y : UpNode) → G y (next y)) → G x (joined c me x k next)
  then_so x k next p q = then_from c came me v Even x k next p q

  decided_so : (x : UpNode) (p : Presidency) (t : decisions.Turn) → x.presidency ≡ Some p → G x (cuts.decided_course me x p t)
  decided_so x p t is =
      (Even, inl (orders_still me t.orders, refl), (Even, (at_office (Stays_or_comes (CauseOf came me v x)) x.presidency p (with_turn me p t) is (stays_so (CauseOf came me v x) p.proposals), refl), refl))

  deciding_by_so : (x : UpNode) (o : Option Presidency) → x.presidency ≡ o → G x (cuts.deciding_by_course c me x o)
  deciding_by_so x None is = refl
  deciding_by_so x (Some p) is = either_so x (may_order p.groups) _ _ (decided_so x p (decisions.decision (in_force c x) x.second (is_held_up p) p.groups) is) refl

  pub deciding_so : (x : UpNode) → G x (cuts.deciding_course c me x)
  deciding_so x = deciding_by_so x x.presidency refl

  excluded_so : (x : UpNode) (e newest : ℕ) (o : Option ℕ) → G x (cuts.excluded_course me e newest o)
  excluded_so x e newest None = refl
  excluded_so x e newest (Some m) = either_so x (m == me) _ _ tt (Even, (refl, inl tt, refl), refl)

  ended_so : (x : UpNode) (e : AttemptEnd) (o : Option AttemptState) → G x (cuts.ended_course me e o)
  ended_so x e None = refl
  ended_so x e (Some a) = (Even, (refl, refl), excluded_so (resting x) a.plan.epoch (unwrap_or (newest_installed a) 0) (left_out_by e))

  queued_so : (x : UpNode) (d : ℕ) (kind : SeizeKind) (o : Option AttemptState) → G x (cuts.queued_course d kind o)
  queued_so x d kind None = refl
  queued_so x d kind (Some a) = (Even, (refl, refl), refl)

  step_so : (x : UpNode) (s : Step) → IsOther s → G x (cuts.step_course me x s)
  step_so x (step.Send to m) is = (Even, (refl, inl (other_still to m.body is), refl), refl)
  step_so x (step.SeizeHere d kind) is = queued_so x d kind x.attempt
  step_so x (step.NeedVotes n) is = refl
  step_so x (step.InstallHere i) is = refl
  step_so x step.StartHere is = refl
  step_so x (step.Ended e) is = ended_so x e x.attempt

  steps_so : (x : UpNode) (steps : List Step) → AllByRecursion IsOther steps → G x (cuts.steps_course c me x steps)
  steps_so x [] all = refl
  steps_so x (s ∷ steps) all = then_so x _ _ (step_so x s all.0) (λ y. steps_so y steps all.1)

  kept_if_so : (x : UpNode) (keeps : Bool) (change : Change) (rest : Course) → ChangeSo c came me v x Even change Even → G (changed c me x change) rest
      → G x (cuts.kept_if keeps change rest)
  kept_if_so x true change rest k l = (Even, k, l)
  kept_if_so x false change rest k l = (Even, k, l)

  gone_on_so : (x : UpNode) (a : AttemptState) (k : Call) (steps : List Step) → AllByRecursion IsOther steps → G x (cuts.gone_on c me x a k steps)
  gone_on_so x a k steps all = (Even, (refl, refl), steps_so (going x a k) steps all)

  counted_so : (x : UpNode) (a : AttemptState) (k : Call) (i : Install) (rest : List Step) (seat : Seat) → AllByRecursion IsOther rest
      → G x (cuts.counted c me x a k i rest seat)
  counted_so x a k i rest (Member s) all = gone_on_so x a k rest all
  counted_so x a k i rest (Forming s) all =
      either_so x (installs_now s i) _ _ (Even, refl, steps_so (changed c me x (Counts a k s i)) rest all) (gone_on_so x a k rest all)

  started_so : (x : UpNode) (a : AttemptState) (k : Call) (rest : List Step) (seat : Seat) → AllByRecursion IsOther rest → G x (cuts.started c me x a k rest seat)
  started_so x a k rest (Member s) all = gone_on_so x a k rest all
  started_so x a k rest (Forming s) all =
      either_so x (starts_now s (turn a k).after.plan.epoch) _ _
      (kept_if_so x (is_some s.saved.entries.pending) (Starts a k s) (cuts.steps_course c me (changed c me x (Starts a k s)) rest) refl (steps_so (changed c me x (Starts a k s)) rest all))
      (gone_on_so x a k rest all)

  turned_by_so : (x : UpNode) (a : AttemptState) (k : Call) (steps : List Step) → AllByRecursion IsOther steps → G x (cuts.turned_by c me x a k steps)
  turned_by_so x a k [] all = gone_on_so x a k [] tt
  turned_by_so x a k (step.InstallHere i ∷ rest) all = counted_so x a k i rest x.seat all.1
  turned_by_so x a k (step.StartHere ∷ rest) all = started_so x a k rest x.seat all.1
  turned_by_so x a k (step.Send to m ∷ rest) all = gone_on_so x a k (step.Send to m ∷ rest) all
  turned_by_so x a k (step.SeizeHere d kind ∷ rest) all = gone_on_so x a k (step.SeizeHere d kind ∷ rest) all
  turned_by_so x a k (step.NeedVotes n ∷ rest) all = gone_on_so x a k (step.NeedVotes n ∷ rest) all
  turned_by_so x a k (step.Ended e ∷ rest) all = gone_on_so x a k (step.Ended e ∷ rest) all

  turned_so : (x : UpNode) (a : AttemptState) (k : Call) → May a k → G x (cuts.turned c me x a k)
  turned_so x a k may = turned_by_so x a k (turn a k).steps (turn_other a k may)

  if_started_so : (steps : List Step) (y : UpNode) → G y (cuts.if_started c me steps y)
  if_started_so steps y = either_so y (starts_in steps) _ _ (deciding_so y) refl

  turned_all_so : (x : UpNode) (a : AttemptState) (k : Call) → May a k → G x (cuts.turned_all c me x a k)
  turned_all_so x a k may = then_so x _ _ (turned_so x a k may) (λ z. if_started_so (turn a k).steps z)

  readied_so : (x : UpNode) (o : Option AttemptState) → G x (cuts.readied_course c me x o)
  readied_so x None = refl
  readied_so x (Some a) = turned_all_so x a Own_ready tt

  pub own_ready_so : (x : UpNode) → G x (cuts.own_ready_course c me x)
  own_ready_so x = either_so x (joins x.tasks) _ _ refl (readied_so x x.attempt)

  if_installed_so : (steps : List Step) (y : UpNode) → G y (cuts.if_installed c me steps y)
  if_installed_so steps y = either_so y (begins_install steps) _ _ (own_ready_so y) refl

  called_so : (x : UpNode) (a : AttemptState) (k : Call) → May a k → G x (cuts.called c me x a k)
  called_so x a k may = then_so x _ _ (turned_all_so x a k may) (λ z. if_installed_so (turn a k).steps z)

  pub going_so : (x : UpNode) (a : AttemptState) (k : Call) → May a k → G x (cuts.going_course c me x a k)
  going_so x a k may =
      if_with (λ z. G x z) (is_choosing (turn a k).after.phase) (is_choosing (turn a k).after.phase) _ _ refl
      (λ is. (Even, (refl, refl), called_so (going x a k) (turn a k).after (With_votes (votes_in c (turn a k).after)) (choosing_is (turn a k).after.phase is)))
      (λ is. called_so x a k may)

  begun_so : (x : UpNode) (t : Turn) → AllByRecursion IsOther t.steps → G x (cuts.begun_course c me x t)
  begun_so x t all =
      if_with (λ z. G x z) (is_choosing t.after.phase) (is_choosing t.after.phase) _ _ refl
      (λ is. called_so x t.after (With_votes (votes_in c t.after)) (choosing_is t.after.phase is)) (λ is. steps_so x t.steps all)

  leading_so : (x : UpNode) (p members : ℕ) → G x (cuts.leading_course c me x p members)
  leading_so x p members =
      either_so x (nat_lt (promised_of x) p) _ _ (
        Even,
        refl,
        begun_so (changed c me x (Leads p members)) (first_turn c me x p members)
            (first_other p members (record { sender = me; body = promise_of (record (promising x p) { greatest = p }) p }) c.attached c.id),
      ) refl

  forming_so : (x : UpNode) (o : Option ℕ) → G x (cuts.forming_course c me x o)
  forming_so x None = refl
  forming_so x (Some members) = leading_so x (next_epoch me x) members

  pub ticked_so : (x : UpNode) (o : Option AttemptState) → G x (cuts.ticked_course c me x o)
  ticked_so x (Some a) = going_so x a Call_tick tt
  ticked_so x None =
      either_so x (nat_le 1 x.beats.wait) _ _ (Even, (refl, refl), refl) (Even, (refl, refl), forming_so (waiting_less x) (members_to_form c me (waiting_less x)))

  pub heartbeat_so : (x : UpNode) (from session : ℕ) (member : Bool) → G x (cuts.heartbeat_course me x from session member)
  heartbeat_so x from session member = either_so x (awaits_start me x from session member) _ _ (Even, (refl, inl tt, refl), refl) refl

  pub collect_so : (x : UpNode) (from p : ℕ) → G x (cuts.collect_course x from p)
  collect_so x from p =
      either_so x (nat_lt (promised_of x) p) _ _ (Even, refl, (Even, (refl, inl tt, refl), refl))
      (either_so x (is_in x p) _ _ (Even, (refl, inl tt, refl), refl) (Even, (refl, inl tt, refl), refl))

  request_so : (x : UpNode) (from : ℕ) (kind : SeizeKind) (e members d : ℕ) (o : Option SeizeResult) → G x (cuts.request_course x from kind e members d o)
  request_so x from kind e members d (Some result) = (Even, (refl, inl tt, refl), refl)
  request_so x from kind e members d None = either_so x (installed_of x == e) _ _ (Even, (refl, inl tt, refl), refl) (Even, (refl, refl), refl)

  pub seizing_so : (x : UpNode) (from : ℕ) (kind : SeizeKind) (e members d : ℕ) → G x (cuts.seizing_course x from kind e members d)
  seizing_so x from kind e members d = either_so x (is_in x e) _ _ (request_so x from kind e members d (kept_of x.tasks d)) refl

  pub readying_so : (x : UpNode) (to : ℕ) → G x (cuts.readying_course c x to)
  readying_so x to = either_so x (joins x.tasks) _ _ refl (Even, (refl, inl tt, refl), refl)

  installed_so : (x : UpNode) (from : ℕ) (i : Install) (seat : Seat) → G x (cuts.installed_course c me x from i seat)
  installed_so x from i (Member s) = readying_so x from
  installed_so x from i (Forming s) = either_so x (s.saved.installed == i.epoch) _ _ (readying_so x from) (Even, refl, readying_so (changed c me x (Installs s i)) from)

  pub install_so : (x : UpNode) (from : ℕ) (i : Install) → G x (cuts.install_course c me x from i)
  install_so x from i = either_so x (is_in x i.epoch) _ _ (installed_so x from i x.seat) (Even, (refl, inl tt, refl), refl)

  pub start_so : (x : UpNode) (e : ℕ) (seat : Seat) → G x (cuts.start_course e seat)
  start_so x e (Member s) = refl
  start_so x e (Forming s) = either_so x (starts_now s e) _ _ (kept_if_so x (is_some s.saved.entries.pending) (Sits s e) Stops refl refl) refl

  pub notice_so : (x : UpNode) (e newest : ℕ) → G x (cuts.notice_course x e newest)
  notice_so x e newest = either_so x (is_in x e) _ _ tt refl
