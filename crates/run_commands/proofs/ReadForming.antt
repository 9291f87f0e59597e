-- In each course of an attempt or a membership what the node keeps stays read, and it answers nothing by itself.
use Rattle.std.specs.Option.{unwrap_or}
use Rattle.cl_base.specs.Seizings.{SeizeResult}
use Rattle.cmm_attempt.specs.declared.step.AttemptEnd.{AttemptEnd}
use Rattle.cmm_attempt.specs.declared.step.Step.{Step}
use Rattle.cmm_attempt.specs.declared.step.Step.TheVariants as step
use Rattle.cmm_attempt.specs.Attempts.{AttemptState, Turn, newest_installed}
use Rattle.cmm_attempt.specs.Calls.{Call, Own_ready, Tick as Call_tick, With_votes, starts_in, turn}
use Rattle.device_queue.specs.Queue.{joins, kept_of}
use Rattle.rgm_president.specs.Decisions as decisions
use Rattle.seize.specs.declared.kind.SeizeKind.{SeizeKind}
use Rattle.wire.specs.declared.message.Install.{Install}
use Rattle.node_model.specs.declared.cluster.Cluster.{Cluster}
use Rattle.node_model.specs.declared.input.Input.{Input}
use Rattle.node_model.specs.declared.node.UpNode.{UpNode}
use Rattle.node_model.specs.declared.presidency.Presidency.{Presidency}
use Rattle.node_model.specs.declared.seat.Seat.{Seat}
use Rattle.node_model.specs.declared.seat.Seat.TheVariants.{Forming, Member}
use Rattle.node_model.specs.Attempts.{begins_install, installs_now, is_choosing, left_out_by, next_epoch, starts_now, votes_in}
use Rattle.node_model.specs.Configurations.{in_force}
use Rattle.node_model.specs.Deciding.{is_held_up, may_order}
use Rattle.node_model.specs.Members.{awaits_start}
use Rattle.node_model.specs.Ticks.{members_to_form, waiting_less}
use Rattle.refinement.specs.Courses.{Course, joined}
use Rattle.refinement.specs.Courses.Course.{Acts, Falls, Keeps, Stops}
use Rattle.refinement.specs.Cuts as cuts
use Rattle.refinement.specs.Cuts.{acks_of, first_turn, left_answered}
use Rattle.attempt_laws.proofs.Walk.{if_with}
use Rattle.node_model.specs.Seats.{installed_of, is_in, promised_of, version_of}
use Rattle.refinement.specs.Doings.{Change, acted, changed, going}
use Rattle.refinement.specs.Doings.Change.{Counts, Installs, Leads, Sits, Starts}
use Rattle.std.specs.List.{AllByRecursion}
use Rattle.cmm_attempt.specs.Calls.{May}
use Rattle.node_model.specs.Attempts.{promise_of, resting}
use Rattle.node_model.specs.Seats.{promising}
use Rattle.std.specs.Prelude.{ℕ, ◌≡◌, ◌≤◌, ◌==◌, nat_le, nat_lt, Bool, true, false, List, [], ◌∷◌, Option, None, Some, is_some, if◌then◌else◌}
use Rattle.std.proofs.Common.{refl}
use Rattle.history.specs.Setting.{coordinator}
use Rattle.refinement.specs.Cuts.{with_committed}
use Rattle.run_commands.proofs.carried.Asides.{IsOther, choosing_is, first_other, turn_other}
use Rattle.run_commands.specs.Reads.{GoesRead, IsStarting, OwnReplies, collects}
use Rattle.run_commands.proofs.Hearing.{orders_so, other_so, own_next, starting_reads}
use Rattle.run_commands.proofs.Offices.{same_reads}

module _ (c : Cluster) (me : ℕ) (came : Input) (word : OwnReplies) where
  abbrev G : UpNode → Course → Type 0
  G x k = GoesRead c me came word x k

  pub either_so : (x : UpNode) (b : Bool) (k l : Course) → G x k → G x l → G x (if b then k else l)
  either_so x true k l p q = p
  either_so x false k l p q = q

  pub then_so : (x : UpNode) (k : Course) (next : UpNode → Course) → G x k → ((y : UpNode) → G y (next y)) → G x (joined c me x k next)
  then_so x Stops next p q = q x
  then_so x (Acts a rest) next p q = (p.0, then_so (acted c me x a) rest next p.1 q)
  then_so x (Keeps change rest) next p q = (p.0, then_so (changed c me x change) rest next p.1 q)
  then_so x (Falls why) next p q = tt

  decided_so : (x : UpNode) (p : Presidency) (t : decisions.Turn) → x.presidency ≡ Some p → G x (cuts.decided_course me x p t)
  decided_so x p t is = ((λ r. orders_so me word t.orders), ((λ r. same_reads (version_of c) x x.requests.waiting p _ is refl refl refl r), tt))

  deciding_by_so : (x : UpNode) (o : Option Presidency) → x.presidency ≡ o → G x (cuts.deciding_by_course c me x o)
  deciding_by_so x None is = tt
  deciding_by_so x (Some p) is = either_so x (may_order p.groups) _ _ (decided_so x p (decisions.decision (in_force c x) x.second (is_held_up p) p.groups) is) tt

  pub deciding_so : (x : UpNode) → G x (cuts.deciding_course c me x)
  deciding_so x = deciding_by_so x x.presidency refl

  excluded_so : (x : UpNode) (e newest : ℕ) (o : Option ℕ) → G x (cuts.excluded_course me e newest o)
  excluded_so x e newest None = tt
  excluded_so x e newest (Some m) = either_so x (m == me) _ _ tt ((λ r. tt), tt)

  ended_so : (x : UpNode) (e : AttemptEnd) (o : Option AttemptState) → G x (cuts.ended_course me e o)
  ended_so x e None = tt
  ended_so x e (Some a) = ((λ r. tt), excluded_so (resting x) a.plan.epoch (unwrap_or (newest_installed a) 0) (left_out_by e))

  queued_so : (x : UpNode) (d : ℕ) (kind : SeizeKind) (o : Option AttemptState) → G x (cuts.queued_course d kind o)
  queued_so x d kind None = tt
  queued_so x d kind (Some a) = ((λ r. tt), tt)

  step_so : (x : UpNode) (s : Step) → IsOther s → G x (cuts.step_course me x s)
  step_so x (step.Send to m) is = ((λ r. other_so m.body is), tt)
  step_so x (step.SeizeHere d kind) is = queued_so x d kind x.attempt
  step_so x (step.NeedVotes n) is = tt
  step_so x (step.InstallHere i) is = tt
  step_so x step.StartHere is = tt
  step_so x (step.Ended e) is = ended_so x e x.attempt

  steps_so : (x : UpNode) (steps : List Step) → AllByRecursion IsOther steps → G x (cuts.steps_course c me x steps)
  steps_so x [] all = tt
  steps_so x (s ∷ steps) all = then_so x _ _ (step_so x s all.0) (λ y. steps_so y steps all.1)

  kept_if_so : (x : UpNode) (keeps : Bool) (change : Change) (rest : Course) → IsStarting change → G (changed c me x change) rest → G x (cuts.kept_if keeps change rest)
  kept_if_so x true change rest k l = ((λ r. starting_reads c me came x change k), l)
  kept_if_so x false change rest k l = ((λ r. k), l)

  gone_on_so : (x : UpNode) (a : AttemptState) (k : Call) (steps : List Step) → AllByRecursion IsOther steps → G x (cuts.gone_on c me x a k steps)
  gone_on_so x a k steps all = ((λ r. tt), steps_so (going x a k) steps all)

  counted_so : (x : UpNode) (a : AttemptState) (k : Call) (i : Install) (rest : List Step) (seat : Seat) → AllByRecursion IsOther rest
      → G x (cuts.counted c me x a k i rest seat)
  counted_so x a k i rest (Member s) all = gone_on_so x a k rest all
  counted_so x a k i rest (Forming s) all =
      either_so x (installs_now s i) _ _ ((λ r. tt), steps_so (changed c me x (Counts a k s i)) rest all) (gone_on_so x a k rest all)

  started_so : (x : UpNode) (a : AttemptState) (k : Call) (rest : List Step) (seat : Seat) → AllByRecursion IsOther rest → G x (cuts.started c me x a k rest seat)
  started_so x a k rest (Member s) all = gone_on_so x a k rest all
  started_so x a k rest (Forming s) all =
      either_so x (starts_now s (turn a k).after.plan.epoch) _ _
      (kept_if_so x (is_some s.saved.entries.pending) (Starts a k s) (cuts.steps_course c me (changed c me x (Starts a k s)) rest) tt (steps_so (changed c me x (Starts a k s)) rest all))
      (gone_on_so x a k rest all)

  turned_by_so : (x : UpNode) (a : AttemptState) (k : Call) (steps : List Step) → AllByRecursion IsOther steps → G x (cuts.turned_by c me x a k steps)
  turned_by_so x a k [] all = gone_on_so x a k [] tt
  turned_by_so x a k (step.InstallHere i ∷ rest) all = counted_so x a k i rest x.seat all.1
  turned_by_so x a k (step.StartHere ∷ rest) all = started_so x a k rest x.seat all.1
  turned_by_so x a k (step.Send to m ∷ rest) all = gone_on_so x a k (step.Send to m ∷ rest) all
  turned_by_so x a k (step.SeizeHere d kind ∷ rest) all = gone_on_so x a k (step.SeizeHere d kind ∷ rest) all
  turned_by_so x a k (step.NeedVotes n ∷ rest) all = gone_on_so x a k (step.NeedVotes n ∷ rest) all
  turned_by_so x a k (step.Ended e ∷ rest) all = gone_on_so x a k (step.Ended e ∷ rest) all

  turned_so : (x : UpNode) (a : AttemptState) (k : Call) → May a k → G x (cuts.turned c me x a k)
  turned_so x a k may = turned_by_so x a k (turn a k).steps (turn_other a k may)

  if_started_so : (steps : List Step) (y : UpNode) → G y (cuts.if_started c me steps y)
  if_started_so steps y = either_so y (starts_in steps) _ _ (deciding_so y) tt

  turned_all_so : (x : UpNode) (a : AttemptState) (k : Call) → May a k → G x (cuts.turned_all c me x a k)
  turned_all_so x a k may = then_so x _ _ (turned_so x a k may) (λ z. if_started_so (turn a k).steps z)

  readied_so : (x : UpNode) (o : Option AttemptState) → G x (cuts.readied_course c me x o)
  readied_so x None = tt
  readied_so x (Some a) = turned_all_so x a Own_ready tt

  pub own_ready_so : (x : UpNode) → G x (cuts.own_ready_course c me x)
  own_ready_so x = either_so x (joins x.tasks) _ _ tt (readied_so x x.attempt)

  if_installed_so : (steps : List Step) (y : UpNode) → G y (cuts.if_installed c me steps y)
  if_installed_so steps y = either_so y (begins_install steps) _ _ (own_ready_so y) tt

  called_so : (x : UpNode) (a : AttemptState) (k : Call) → May a k → G x (cuts.called c me x a k)
  called_so x a k may = then_so x _ _ (turned_all_so x a k may) (λ z. if_installed_so (turn a k).steps z)

  pub going_so : (x : UpNode) (a : AttemptState) (k : Call) → May a k → G x (cuts.going_course c me x a k)
  going_so x a k may =
      if_with (λ z. G x z) (is_choosing (turn a k).after.phase) (is_choosing (turn a k).after.phase) _ _ refl
      (λ is. ((λ r. tt), called_so (going x a k) (turn a k).after (With_votes (votes_in c (turn a k).after)) (choosing_is (turn a k).after.phase is)))
      (λ is. called_so x a k may)

  begun_so : (x : UpNode) (t : Turn) → AllByRecursion IsOther t.steps → G x (cuts.begun_course c me x t)
  begun_so x t all =
      if_with (λ z. G x z) (is_choosing t.after.phase) (is_choosing t.after.phase) _ _ refl
      (λ is. called_so x t.after (With_votes (votes_in c t.after)) (choosing_is t.after.phase is)) (λ is. steps_so x t.steps all)

  leading_so : (x : UpNode) (p members : ℕ) → coordinator p ≡ me → G x (cuts.leading_course c me x p members)
  leading_so x p members own =
      either_so x (nat_lt (promised_of x) p) _ _ (
        (λ r. own),
        begun_so (changed c me x (Leads p members)) (first_turn c me x p members)
            (first_other p members (record { sender = me; body = promise_of (record (promising x p) { greatest = p }) p }) c.attached c.id),
      ) tt

  forming_so : me ≤ 32 → (x : UpNode) (o : Option ℕ) → G x (cuts.forming_course c me x o)
  forming_so low x None = tt
  forming_so low x (Some members) = leading_so x (next_epoch me x) members (own_next me x low)

  pub ticked_so : me ≤ 32 → (x : UpNode) (o : Option AttemptState) → G x (cuts.ticked_course c me x o)
  ticked_so low x (Some a) = going_so x a Call_tick tt
  ticked_so low x None = either_so x (nat_le 1 x.beats.wait) _ _ ((λ r. tt), tt) ((λ r. tt), forming_so low (waiting_less x) (members_to_form c me (waiting_less x)))

  pub heartbeat_so : (x : UpNode) (from session : ℕ) (member : Bool) → G x (cuts.heartbeat_course me x from session member)
  heartbeat_so x from session member = either_so x (awaits_start me x from session member) _ _ ((λ r. tt), tt) tt

  pub collect_so : (x : UpNode) (from p : ℕ) → collects came ≡ true → G x (cuts.collect_course x from p)
  collect_so x from p is = either_so x (nat_lt (promised_of x) p) _ _ ((λ r. is), ((λ r. tt), tt)) (either_so x (is_in x p) _ _ ((λ r. tt), tt) ((λ r. tt), tt))

  request_so : (x : UpNode) (from : ℕ) (kind : SeizeKind) (e members d : ℕ) (o : Option SeizeResult) → G x (cuts.request_course x from kind e members d o)
  request_so x from kind e members d (Some result) = ((λ r. tt), tt)
  request_so x from kind e members d None = either_so x (installed_of x == e) _ _ ((λ r. tt), tt) ((λ r. tt), tt)

  pub seizing_so : (x : UpNode) (from : ℕ) (kind : SeizeKind) (e members d : ℕ) → G x (cuts.seizing_course x from kind e members d)
  seizing_so x from kind e members d = either_so x (is_in x e) _ _ (request_so x from kind e members d (kept_of x.tasks d)) tt

  pub readying_so : (x : UpNode) (to : ℕ) → G x (cuts.readying_course c x to)
  readying_so x to = either_so x (joins x.tasks) _ _ tt ((λ r. tt), tt)

  installed_so : (x : UpNode) (from : ℕ) (i : Install) (seat : Seat) → G x (cuts.installed_course c me x from i seat)
  installed_so x from i (Member s) = readying_so x from
  installed_so x from i (Forming s) = either_so x (s.saved.installed == i.epoch) _ _ (readying_so x from) ((λ r. tt), readying_so (changed c me x (Installs s i)) from)

  pub install_so : (x : UpNode) (from : ℕ) (i : Install) → G x (cuts.install_course c me x from i)
  install_so x from i = either_so x (is_in x i.epoch) _ _ (installed_so x from i x.seat) ((λ r. tt), tt)

  pub start_so : (x : UpNode) (e : ℕ) (seat : Seat) → G x (cuts.start_course e seat)
  start_so x e (Member s) = tt
  start_so x e (Forming s) = either_so x (starts_now s e) _ _ (kept_if_so x (is_some s.saved.entries.pending) (Sits s e) Stops tt tt) tt

  pub notice_so : (x : UpNode) (e newest : ℕ) → G x (cuts.notice_course x e newest)
  notice_so x e newest = either_so x (is_in x e) _ _ tt tt
