-- In the courses of an attempt, Installs go to its nodes, and no Answer is sent.
use Rattle.std.specs.Option.{unwrap_or}
use Rattle.cl_base.specs.Seizings.{SeizeResult}
use Rattle.cmm_attempt.specs.declared.step.AttemptEnd.{AttemptEnd}
use Rattle.cmm_attempt.specs.declared.step.Step.{Step}
use Rattle.cmm_attempt.specs.declared.step.Step.TheVariants as step
use Rattle.cmm_attempt.specs.Attempts.{AttemptState, Turn, newest_installed}
use Rattle.cmm_attempt.specs.Calls.{Call, Own_ready, Tick as Call_tick, With_votes, starts_in, turn}
use Rattle.device_queue.specs.Queue.{joins, kept_of}
use Rattle.rgm_president.specs.Decisions as decisions
use Rattle.seize.specs.declared.kind.SeizeKind.{SeizeKind}
use Rattle.status_report.specs.declared.command_entry.Answer.{Answer}
use Rattle.wire.specs.declared.message.Body.{Body}
use Rattle.wire.specs.declared.message.Body.TheVariants as body
use Rattle.wire.specs.declared.message.Install.{Install}
use Rattle.node_model.specs.declared.cluster.Cluster.{Cluster}
use Rattle.node_model.specs.declared.node.UpNode.{UpNode}
use Rattle.node_model.specs.declared.presidency.Presidency.{Presidency}
use Rattle.node_model.specs.declared.seat.Seat.{Seat}
use Rattle.node_model.specs.declared.seat.Seat.TheVariants.{Forming, Member}
use Rattle.node_model.specs.Attempts.{begins_install, installs_now, is_choosing, left_out_by, next_epoch, starts_now, votes_in}
use Rattle.node_model.specs.Configurations.{in_force}
use Rattle.node_model.specs.Deciding.{is_held_up, may_order}
use Rattle.node_model.specs.Members.{awaits_start}
use Rattle.node_model.specs.Ticks.{members_to_form, waiting_less}
use Rattle.refinement.specs.Courses.{Course, joined}
use Rattle.refinement.specs.Courses.Course.{Acts, Falls, Keeps, Stops}
use Rattle.refinement.specs.Cuts as cuts
use Rattle.refinement.specs.Cuts.{first_turn}
use Rattle.std.specs.Prelude.{ℕ, ◌≡◌, ◌==◌, ◌⊎◌, nat_le, nat_lt, Bool, true, false, List, [], ◌∷◌, Option, None, Some, is_some, if◌then◌else◌}
use Rattle.std.proofs.Common.{refl, inl, inr}
use Rattle.node_model.specs.Seats.{installed_of, is_in, promised_of}
use Rattle.refinement.specs.Doings.{Change, acted, changed, going}
use Rattle.refinement.specs.Doings.Act.{Writes}
use Rattle.refinement.specs.Doings.Change.{Counts, Installs, Leads, Sits, Starts}
use Rattle.run_packets.specs.admitted.Guards.{ActFor, AreInstalls, ChangeFor, GoesFor, IsInstallTo, IsNoInstall, KeepsGood, NoInstalls}
use Rattle.run_packets.proofs.admitted.Offices.{orders_good, same_office}
use Rattle.run_packets.proofs.admitted.Installs.{first_asks, turn_asks}

module _ (c : Cluster) (me : ℕ) where
  pub either_so : (x : UpNode) (b : Bool) (k l : Course) → GoesFor c me x k → GoesFor c me x l → GoesFor c me x (if b then k else l)
  either_so x true k l h i = h
  either_so x false k l h i = i

  pub then_so : (x : UpNode) (k : Course) (next : UpNode → Course) → GoesFor c me x k → ((y : UpNode) → GoesFor c me y (next y)) → GoesFor c me x (joined c me x k next)
  then_so x Stops next h i = i x
  then_so x (Acts a rest) next h i = (h.0, then_so (acted c me x a) rest next h.1 i)
  then_so x (Keeps change rest) next h i = (h.0, then_so (changed c me x change) rest next h.1 i)
  then_so x (Falls why) next h i = tt

  -- Each course.

  decided_so : (x : UpNode) (p : Presidency) (t : decisions.Turn) → KeepsGood x (Some p) → GoesFor c me x (cuts.decided_course me x p t)
  decided_so x p t keeps = (orders_good me t.orders, (keeps, tt))

  deciding_by_so : (x : UpNode) (o : Option Presidency) → x.presidency ≡ o → GoesFor c me x (cuts.deciding_by_course c me x o)
  deciding_by_so x None at = tt
  deciding_by_so x (Some p) at = either_so _ (may_order p.groups) _ _ (decided_so x p (decisions.decision (in_force c x) x.second (is_held_up p) p.groups) (same_office x p at)) tt

  pub deciding_so : (x : UpNode) → GoesFor c me x (cuts.deciding_course c me x)
  deciding_so x = deciding_by_so x x.presidency refl

  excluded_so : (x : UpNode) (e newest : ℕ) (o : Option ℕ) → GoesFor c me x (cuts.excluded_course me e newest o)
  excluded_so x e newest None = tt
  excluded_so x e newest (Some m) = either_so _ (m == me) _ _ tt (tt, tt)

  ended_so : (x : UpNode) (e : AttemptEnd) (o : Option AttemptState) → GoesFor c me x (cuts.ended_course me e o)
  ended_so x e None = tt
  ended_so x e (Some a) = (tt, excluded_so _ a.plan.epoch (unwrap_or (newest_installed a) 0) (left_out_by e))

  queued_so : (x : UpNode) (d : ℕ) (kind : SeizeKind) (o : Option AttemptState) → GoesFor c me x (cuts.queued_course d kind o)
  queued_so x d kind None = tt
  queued_so x d kind (Some a) = (tt, tt)

  -- what is no Install, no Ready and no Answer
  sent_so : (x : UpNode) (to : ℕ) (b : Body) → IsNoInstall b → ActFor c x (Writes to b)
  sent_so x to (body.Promise e newest members valid flagged committed pending) none = tt
  sent_so x to (body.Collect e members) none = tt
  sent_so x to (body.Start p) none = tt
  sent_so x to (body.Prepared e v) none = tt
  sent_so x to (body.Heartbeat promised session is_one) none = tt
  sent_so x to (body.Nack e promised) none = tt
  sent_so x to (body.SeizeQuorum e members d) none = tt
  sent_so x to (body.SeizeData e members d) none = tt
  sent_so x to (body.Seized e d ended) none = tt
  sent_so x to (body.Install i) none = absurd none
  sent_so x to (body.Ready e joined_devices report) none = absurd none
  sent_so x to (body.Prepare e place text) none = tt
  sent_so x to (body.Commit e place) none = tt
  sent_so x to (body.Order o) none = tt
  sent_so x to (body.Done e number ended) none = tt
  sent_so x to (body.Request e number text) none = tt
  sent_so x to (body.Answer e number text) none = absurd none
  sent_so x to (body.Excluded e newest) none = tt

  step_so : (x : UpNode) (s : Step) → NoInstalls (s ∷ []) → GoesFor c me x (cuts.step_course me x s)
  step_so x (step.Send to m) none = (sent_so x to m.body none.0, tt)
  step_so x (step.SeizeHere d kind) none = queued_so x d kind x.attempt
  step_so x (step.NeedVotes n) none = tt
  step_so x (step.InstallHere i) none = tt
  step_so x step.StartHere none = tt
  step_so x (step.Ended e) none = ended_so x e x.attempt

  one_step : (s : Step) (steps : List Step) → NoInstalls (s ∷ steps) → NoInstalls (s ∷ []) × NoInstalls steps
  one_step (step.Send to m) steps h = ((h.0, tt), h.1)
  one_step (step.SeizeHere d kind) steps h = (tt, h)
  one_step (step.NeedVotes n) steps h = (tt, h)
  one_step (step.InstallHere i) steps h = (tt, h)
  one_step step.StartHere steps h = (tt, h)
  one_step (step.Ended e) steps h = (tt, h)

  nothing_so : (x : UpNode) (steps : List Step) → NoInstalls steps → GoesFor c me x (cuts.steps_course c me x steps)
  nothing_so x [] none = tt
  nothing_so x (s ∷ steps) none = then_so x _ _ (step_so x s (one_step s steps none).0) (λ y. nothing_so y steps (one_step s steps none).1)

  -- Installs alone, to nodes of its attempt
  installs_so : (x : UpNode) (steps : List Step) → AreInstalls x.attempt steps → GoesFor c me x (cuts.steps_course c me x steps)
  installs_so x [] all = tt
  installs_so x (step.Send to m ∷ steps) all = (install_told m.body all.0, installs_so x steps all.1)
    where
      install_told : (b : Body) → IsInstallTo x.attempt to b → ActFor c x (Writes to b)
      install_told (body.Collect p members) h = absurd h
      install_told (body.Promise e newest members valid flagged committed pending) h = absurd h
      install_told (body.Start p) h = absurd h
      install_told (body.Prepared e v) h = absurd h
      install_told (body.Heartbeat promised session is_one) h = absurd h
      install_told (body.Nack e promised) h = absurd h
      install_told (body.SeizeQuorum e members d) h = absurd h
      install_told (body.SeizeData e members d) h = absurd h
      install_told (body.Seized e d ended) h = absurd h
      install_told (body.Install i) h = h
      install_told (body.Ready e joined_devices report) h = absurd h
      install_told (body.Prepare e place text) h = absurd h
      install_told (body.Commit e place) h = absurd h
      install_told (body.Order o) h = absurd h
      install_told (body.Done e number ended) h = absurd h
      install_told (body.Request e number text) h = absurd h
      install_told (body.Answer e number text) h = absurd h
      install_told (body.Excluded e newest) h = absurd h
  installs_so x (step.SeizeHere d kind ∷ steps) all = absurd all
  installs_so x (step.NeedVotes n ∷ steps) all = absurd all
  installs_so x (step.InstallHere i ∷ steps) all = installs_so x steps all
  installs_so x (step.StartHere ∷ steps) all = absurd all
  installs_so x (step.Ended e ∷ steps) all = absurd all

  steps_so : (x : UpNode) (steps : List Step) → NoInstalls steps ⊎ AreInstalls x.attempt steps → GoesFor c me x (cuts.steps_course c me x steps)
  steps_so x steps (inl none) = nothing_so x steps none
  steps_so x steps (inr all) = installs_so x steps all

  kept_if_so : (x : UpNode) (keeps : Bool) (change : Change) (rest : Course) → ChangeFor c x change → GoesFor c me (changed c me x change) rest → GoesFor c me x (cuts.kept_if keeps change rest)
  kept_if_so x true change rest may k = (may, k)
  kept_if_so x false change rest may k = (tt, k)

  gone_on_so : (x : UpNode) (a : AttemptState) (k : Call) (steps : List Step) → NoInstalls steps ⊎ AreInstalls (Some (turn a k).after) steps → GoesFor c me x (cuts.gone_on c me x a k steps)
  gone_on_so x a k steps h = (tt, steps_so (going x a k) steps h)

  counted_so : (x : UpNode) (a : AttemptState) (k : Call) (i : Install) (rest : List Step) (seat : Seat) → NoInstalls rest ⊎ AreInstalls (Some (turn a k).after) rest
      → GoesFor c me x (cuts.counted c me x a k i rest seat)
  counted_so x a k i rest (Member s) h = gone_on_so x a k rest h
  counted_so x a k i rest (Forming s) h = either_so _ (installs_now s i) _ _ (tt, steps_so (changed c me x (Counts a k s i)) rest h) (gone_on_so x a k rest h)

  started_so : (x : UpNode) (a : AttemptState) (k : Call) (rest : List Step) (seat : Seat) → NoInstalls rest → GoesFor c me x (cuts.started c me x a k rest seat)
  started_so x a k rest (Member s) none = gone_on_so x a k rest (inl none)
  started_so x a k rest (Forming s) none =
      either_so _ (starts_now s (turn a k).after.plan.epoch) _ _
      (kept_if_so x (is_some s.saved.entries.pending) (Starts a k s) (cuts.steps_course c me (changed c me x (Starts a k s)) rest) tt (nothing_so (changed c me x (Starts a k s)) rest none))
      (gone_on_so x a k rest (inl none))

  start_rest : (rest : List Step) (o : Option AttemptState) → NoInstalls (step.StartHere ∷ rest) ⊎ AreInstalls o (step.StartHere ∷ rest) → NoInstalls rest
  start_rest rest o (inl none) = none
  start_rest rest o (inr all) = absurd all

  turned_by_so : (x : UpNode) (a : AttemptState) (k : Call) (steps : List Step) → NoInstalls steps ⊎ AreInstalls (Some (turn a k).after) steps → GoesFor c me x (cuts.turned_by c me x a k steps)
  turned_by_so x a k [] h = gone_on_so x a k [] h
  turned_by_so x a k (step.InstallHere i ∷ rest) h = counted_so x a k i rest x.seat h
  turned_by_so x a k (step.StartHere ∷ rest) h = started_so x a k rest x.seat (start_rest rest (Some (turn a k).after) h)
  turned_by_so x a k (step.Send to m ∷ rest) h = gone_on_so x a k (step.Send to m ∷ rest) h
  turned_by_so x a k (step.SeizeHere d kind ∷ rest) h = gone_on_so x a k (step.SeizeHere d kind ∷ rest) h
  turned_by_so x a k (step.NeedVotes n ∷ rest) h = gone_on_so x a k (step.NeedVotes n ∷ rest) h
  turned_by_so x a k (step.Ended e ∷ rest) h = gone_on_so x a k (step.Ended e ∷ rest) h

  turned_so : (x : UpNode) (a : AttemptState) (k : Call) → GoesFor c me x (cuts.turned c me x a k)
  turned_so x a k = turned_by_so x a k (turn a k).steps (turn_asks a k)

  if_started_so : (steps : List Step) (y : UpNode) → GoesFor c me y (cuts.if_started c me steps y)
  if_started_so steps y = either_so _ (starts_in steps) _ _ (deciding_so y) tt

  turned_all_so : (x : UpNode) (a : AttemptState) (k : Call) → GoesFor c me x (cuts.turned_all c me x a k)
  turned_all_so x a k = then_so x _ _ (turned_so x a k) (λ z. if_started_so (turn a k).steps z)

  readied_so : (x : UpNode) (o : Option AttemptState) → GoesFor c me x (cuts.readied_course c me x o)
  readied_so x None = tt
  readied_so x (Some a) = turned_all_so x a Own_ready

  pub own_ready_so : (x : UpNode) → GoesFor c me x (cuts.own_ready_course c me x)
  own_ready_so x = either_so _ (joins x.tasks) _ _ tt (readied_so x x.attempt)

  if_installed_so : (steps : List Step) (y : UpNode) → GoesFor c me y (cuts.if_installed c me steps y)
  if_installed_so steps y = either_so _ (begins_install steps) _ _ (own_ready_so y) tt

  called_so : (x : UpNode) (a : AttemptState) (k : Call) → GoesFor c me x (cuts.called c me x a k)
  called_so x a k = then_so x _ _ (turned_all_so x a k) (λ z. if_installed_so (turn a k).steps z)

  pub going_so : (x : UpNode) (a : AttemptState) (k : Call) → GoesFor c me x (cuts.going_course c me x a k)
  going_so x a k = either_so _ (is_choosing (turn a k).after.phase) _ _ (tt, called_so (going x a k) (turn a k).after (With_votes (votes_in c (turn a k).after))) (called_so x a k)

  begun_so : (x : UpNode) (t : Turn) → NoInstalls t.steps ⊎ AreInstalls x.attempt t.steps → GoesFor c me x (cuts.begun_course c me x t)
  begun_so x t h = either_so _ (is_choosing t.after.phase) _ _ (called_so x t.after (With_votes (votes_in c t.after))) (steps_so x t.steps h)

  leading_so : (x : UpNode) (p members : ℕ) → GoesFor c me x (cuts.leading_course c me x p members)
  leading_so x p members =
      either_so _ (nat_lt (promised_of x) p) _ _ (tt, begun_so (changed c me x (Leads p members)) (first_turn c me x p members) (first_asks p members _ c.attached c.id)) tt

  forming_so : (x : UpNode) (o : Option ℕ) → GoesFor c me x (cuts.forming_course c me x o)
  forming_so x None = tt
  forming_so x (Some members) = leading_so x (next_epoch me x) members

  pub ticked_so : (x : UpNode) (o : Option AttemptState) → GoesFor c me x (cuts.ticked_course c me x o)
  ticked_so x (Some a) = going_so x a Call_tick
  ticked_so x None = either_so _ (nat_le 1 x.beats.wait) _ _ (tt, tt) (tt, forming_so (waiting_less x) (members_to_form c me (waiting_less x)))

  pub heartbeat_so : (x : UpNode) (from session : ℕ) (member : Bool) → GoesFor c me x (cuts.heartbeat_course me x from session member)
  heartbeat_so x from session member = either_so _ (awaits_start me x from session member) _ _ (tt, tt) tt

  pub collect_so : (x : UpNode) (from p : ℕ) → GoesFor c me x (cuts.collect_course x from p)
  collect_so x from p = either_so _ (nat_lt (promised_of x) p) _ _ (tt, (tt, tt)) (either_so _ (is_in x p) _ _ (tt, tt) (tt, tt))

  request_so : (x : UpNode) (from : ℕ) (kind : SeizeKind) (e members d : ℕ) (o : Option SeizeResult) → GoesFor c me x (cuts.request_course x from kind e members d o)
  request_so x from kind e members d (Some result) = (tt, tt)
  request_so x from kind e members d None = either_so _ (installed_of x == e) _ _ (tt, tt) (tt, tt)

  pub seizing_so : (x : UpNode) (from : ℕ) (kind : SeizeKind) (e members d : ℕ) → GoesFor c me x (cuts.seizing_course x from kind e members d)
  seizing_so x from kind e members d = either_so _ (is_in x e) _ _ (request_so x from kind e members d (kept_of x.tasks d)) tt

  pub readying_so : (x : UpNode) (to : ℕ) → GoesFor c me x (cuts.readying_course c x to)
  readying_so x to = either_so _ (joins x.tasks) _ _ tt (refl, tt)

  installed_so : (x : UpNode) (from : ℕ) (i : Install) (seat : Seat) → GoesFor c me x (cuts.installed_course c me x from i seat)
  installed_so x from i (Member s) = readying_so x from
  installed_so x from i (Forming s) = either_so _ (s.saved.installed == i.epoch) _ _ (readying_so x from) (tt, readying_so (changed c me x (Installs s i)) from)

  pub install_so : (x : UpNode) (from : ℕ) (i : Install) → GoesFor c me x (cuts.install_course c me x from i)
  install_so x from i = either_so _ (is_in x i.epoch) _ _ (installed_so x from i x.seat) (tt, tt)

  pub start_so : (x : UpNode) (e : ℕ) (seat : Seat) → GoesFor c me x (cuts.start_course e seat)
  start_so x e (Member s) = tt
  start_so x e (Forming s) = either_so _ (starts_now s e) _ _ (kept_if_so _ (is_some s.saved.entries.pending) (Sits s e) Stops tt tt) tt

  pub notice_so : (x : UpNode) (e newest : ℕ) → GoesFor c me x (cuts.notice_course x e newest)
  notice_so x e newest = either_so _ (is_in x e) _ _ tt tt
