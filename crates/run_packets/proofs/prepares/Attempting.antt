-- What a node does with its attempt, and as president decides: what it tells besides is of its own doing, and an attempt that ends is the one that it has.
use Rattle.std.specs.Option.{unwrap_or}
use Rattle.cmm_attempt.specs.declared.step.AttemptEnd.{AttemptEnd}
use Rattle.cmm_attempt.specs.declared.step.Step.{Step}
use Rattle.cmm_attempt.specs.declared.step.Step.TheVariants as step
use Rattle.cmm_attempt.specs.Attempts.{AttemptState, Turn, newest_installed}
use Rattle.cmm_attempt.specs.Calls.{Call, Own_ready, Tick as Call_tick, With_votes, starts_in, turn}
use Rattle.device_queue.specs.Queue.{joins}
use Rattle.rgm_president.specs.Decisions as decisions
use Rattle.seize.specs.declared.kind.SeizeKind.{SeizeKind}
use Rattle.wire.specs.declared.message.Install.{Install}
use Rattle.node_model.specs.declared.cluster.Cluster.{Cluster}
use Rattle.node_model.specs.declared.node.UpNode.{UpNode}
use Rattle.node_model.specs.declared.presidency.Presidency.{Presidency}
use Rattle.node_model.specs.declared.seat.Seat.{Seat}
use Rattle.node_model.specs.declared.seat.Seat.TheVariants.{Forming, Member}
use Rattle.node_model.specs.Attempts.{begins_install, installs_now, is_choosing, left_out_by, next_epoch, resting, starts_now, votes_in}
use Rattle.node_model.specs.Configurations.{in_force}
use Rattle.node_model.specs.Deciding.{is_held_up, may_order}
use Rattle.node_model.specs.Ticks.{members_to_form, waiting_less}
use Rattle.refinement.specs.Courses.{Course, joined}
use Rattle.refinement.specs.Courses.Course.{Acts, Falls, Keeps, Stops}
use Rattle.refinement.specs.Cuts as cuts
use Rattle.refinement.specs.Cuts.{first_turn}
use Rattle.std.specs.Prelude.{ℕ, ◌≡◌, ◌==◌, nat_le, nat_lt, Bool, true, false, List, [], ◌∷◌, Option, None, Some, is_some, if◌then◌else◌}
use Rattle.std.proofs.Common.{refl}
use Rattle.node_model.specs.Seats.{promised_of}
use Rattle.refinement.specs.Doings.{Change, acted, changed, going}
use Rattle.refinement.specs.Doings.Act.{Spreads}
use Rattle.refinement.specs.Doings.Change.{Counts, Leads, Proposes, Starts}
use Rattle.run_packets.specs.prepares.Actors.{Follows, GoesOwn, NoProposal}
use Rattle.run_packets.proofs.prepares.Lines.{orders_are}

-- what comes behind a course leaves what follows a proposal
follows_then : (c : Cluster) (me : ℕ) (x y : UpNode) (change : Change) (k : Course) (next : UpNode → Course) → Follows me x change k → Follows me x change (joined c me y k next)
follows_then c me x y (Proposes s p text) (Acts (Spreads receivers b) rest) next h = h
follows_then c me x y (Proposes s p text) _ next h = absurd h
follows_then c me x y _ k next h = tt

module _ (c : Cluster) (me : ℕ) where
  pub either_so : (x : UpNode) (b : Bool) (k l : Course) → GoesOwn c me x k → GoesOwn c me x l → GoesOwn c me x (if b then k else l)
  either_so x true k l h i = h
  either_so x false k l h i = i

  pub then_so : (x : UpNode) (k : Course) (next : UpNode → Course) → GoesOwn c me x k → ((y : UpNode) → GoesOwn c me y (next y)) → GoesOwn c me x (joined c me x k next)
  then_so x Stops next h i = i x
  then_so x (Acts a rest) next h i = (h.0, then_so (acted c me x a) rest next h.1 i)
  then_so x (Keeps change rest) next h i = (follows_then c me x (changed c me x change) change rest next h.0, then_so (changed c me x change) rest next h.1 i)
  then_so x (Falls why) next h i = tt

  decided_so : (x : UpNode) (p : Presidency) (t : decisions.Turn) → GoesOwn c me x (cuts.decided_course me x p t)
  decided_so x p t = (orders_are me t.orders, (tt, tt))

  deciding_by_so : (x : UpNode) (o : Option Presidency) → GoesOwn c me x (cuts.deciding_by_course c me x o)
  deciding_by_so x None = tt
  deciding_by_so x (Some p) = either_so _ (may_order p.groups) _ _ (decided_so x p (decisions.decision (in_force c x) x.second (is_held_up p) p.groups)) tt

  pub deciding_so : (x : UpNode) → GoesOwn c me x (cuts.deciding_course c me x)
  deciding_so x = deciding_by_so x x.presidency

  excluded_so : (x : UpNode) (e newest : ℕ) (o : Option ℕ) → GoesOwn c me x (cuts.excluded_course me e newest o)
  excluded_so x e newest None = tt
  excluded_so x e newest (Some m) = either_so _ (m == me) _ _ tt (tt, tt)

  ended_so : (x : UpNode) (e : AttemptEnd) (o : Option AttemptState) → x.attempt ≡ o → GoesOwn c me x (cuts.ended_course me e o)
  ended_so x e None is = tt
  ended_so x e (Some a) is = (is, excluded_so (resting x) a.plan.epoch (unwrap_or (newest_installed a) 0) (left_out_by e))

  queued_so : (x : UpNode) (d : ℕ) (kind : SeizeKind) (o : Option AttemptState) → GoesOwn c me x (cuts.queued_course d kind o)
  queued_so x d kind None = tt
  queued_so x d kind (Some a) = (tt, tt)

  step_so : (x : UpNode) (s : Step) → GoesOwn c me x (cuts.step_course me x s)
  step_so x (step.Send to m) = (tt, tt)
  step_so x (step.SeizeHere d kind) = queued_so x d kind x.attempt
  step_so x (step.NeedVotes n) = tt
  step_so x (step.InstallHere i) = tt
  step_so x step.StartHere = tt
  step_so x (step.Ended e) = ended_so x e x.attempt refl

  steps_so : (x : UpNode) (steps : List Step) → GoesOwn c me x (cuts.steps_course c me x steps)
  steps_so x [] = tt
  steps_so x (s ∷ steps) = then_so x (cuts.step_course me x s) (λ y. cuts.steps_course c me y steps) (step_so x s) (λ y. steps_so y steps)

  pub kept_if_so : (x : UpNode) (keeps : Bool) (change : Change) (rest : Course) → Follows me x change rest → NoProposal change → GoesOwn c me (changed c me x change) rest
      → GoesOwn c me x (cuts.kept_if keeps change rest)
  kept_if_so x true change rest follows none k = (follows, k)
  kept_if_so x false change rest follows none k = (none, k)

  gone_on_so : (x : UpNode) (a : AttemptState) (k : Call) (steps : List Step) → GoesOwn c me x (cuts.gone_on c me x a k steps)
  gone_on_so x a k steps = (tt, steps_so (going x a k) steps)

  counted_so : (x : UpNode) (a : AttemptState) (k : Call) (i : Install) (rest : List Step) (seat : Seat) → GoesOwn c me x (cuts.counted c me x a k i rest seat)
  counted_so x a k i rest (Member s) = gone_on_so x a k rest
  counted_so x a k i rest (Forming s) = either_so _ (installs_now s i) _ _ (tt, steps_so (changed c me x (Counts a k s i)) rest) (gone_on_so x a k rest)

  started_so : (x : UpNode) (a : AttemptState) (k : Call) (rest : List Step) (seat : Seat) → GoesOwn c me x (cuts.started c me x a k rest seat)
  started_so x a k rest (Member s) = gone_on_so x a k rest
  started_so x a k rest (Forming s) =
      either_so _ (starts_now s (turn a k).after.plan.epoch) _ _
      (kept_if_so x (is_some s.saved.entries.pending) (Starts a k s) (cuts.steps_course c me (changed c me x (Starts a k s)) rest) tt tt (steps_so (changed c me x (Starts a k s)) rest))
      (gone_on_so x a k rest)

  turned_by_so : (x : UpNode) (a : AttemptState) (k : Call) (steps : List Step) → GoesOwn c me x (cuts.turned_by c me x a k steps)
  turned_by_so x a k [] = gone_on_so x a k []
  turned_by_so x a k (step.InstallHere i ∷ rest) = counted_so x a k i rest x.seat
  turned_by_so x a k (step.StartHere ∷ rest) = started_so x a k rest x.seat
  turned_by_so x a k (step.Send to m ∷ rest) = gone_on_so x a k (step.Send to m ∷ rest)
  turned_by_so x a k (step.SeizeHere d kind ∷ rest) = gone_on_so x a k (step.SeizeHere d kind ∷ rest)
  turned_by_so x a k (step.NeedVotes n ∷ rest) = gone_on_so x a k (step.NeedVotes n ∷ rest)
  turned_by_so x a k (step.Ended e ∷ rest) = gone_on_so x a k (step.Ended e ∷ rest)

  turned_so : (x : UpNode) (a : AttemptState) (k : Call) → GoesOwn c me x (cuts.turned c me x a k)
  turned_so x a k = turned_by_so x a k (turn a k).steps

  if_started_so : (steps : List Step) (y : UpNode) → GoesOwn c me y (cuts.if_started c me steps y)
  if_started_so steps y = either_so _ (starts_in steps) _ _ (deciding_so y) tt

  turned_all_so : (x : UpNode) (a : AttemptState) (k : Call) → GoesOwn c me x (cuts.turned_all c me x a k)
  turned_all_so x a k = then_so x _ _ (turned_so x a k) (λ z. if_started_so (turn a k).steps z)

  readied_so : (x : UpNode) (o : Option AttemptState) → GoesOwn c me x (cuts.readied_course c me x o)
  readied_so x None = tt
  readied_so x (Some a) = turned_all_so x a Own_ready

  pub own_ready_so : (x : UpNode) → GoesOwn c me x (cuts.own_ready_course c me x)
  own_ready_so x = either_so _ (joins x.tasks) _ _ tt (readied_so x x.attempt)

  if_installed_so : (steps : List Step) (y : UpNode) → GoesOwn c me y (cuts.if_installed c me steps y)
  if_installed_so steps y = either_so _ (begins_install steps) _ _ (own_ready_so y) tt

  called_so : (x : UpNode) (a : AttemptState) (k : Call) → GoesOwn c me x (cuts.called c me x a k)
  called_so x a k = then_so x _ _ (turned_all_so x a k) (λ z. if_installed_so (turn a k).steps z)

  pub going_so : (x : UpNode) (a : AttemptState) (k : Call) → GoesOwn c me x (cuts.going_course c me x a k)
  going_so x a k = either_so _ (is_choosing (turn a k).after.phase) _ _ (tt, called_so (going x a k) (turn a k).after (With_votes (votes_in c (turn a k).after))) (called_so x a k)

  begun_so : (x : UpNode) (t : Turn) → GoesOwn c me x (cuts.begun_course c me x t)
  begun_so x t = either_so _ (is_choosing t.after.phase) _ _ (called_so x t.after (With_votes (votes_in c t.after))) (steps_so x t.steps)

  leading_so : (x : UpNode) (p members : ℕ) → GoesOwn c me x (cuts.leading_course c me x p members)
  leading_so x p members = either_so _ (nat_lt (promised_of x) p) _ _ (tt, begun_so (changed c me x (Leads p members)) (first_turn c me x p members)) tt

  forming_so : (x : UpNode) (o : Option ℕ) → GoesOwn c me x (cuts.forming_course c me x o)
  forming_so x None = tt
  forming_so x (Some members) = leading_so x (next_epoch me x) members

  pub ticked_so : (x : UpNode) (o : Option AttemptState) → GoesOwn c me x (cuts.ticked_course c me x o)
  ticked_so x (Some a) = going_so x a Call_tick
  ticked_so x None = either_so _ (nat_le 1 x.beats.wait) _ _ (tt, tt) (tt, forming_so (waiting_less x) (members_to_form c me (waiting_less x)))
