-- What a node does with its attempt, and as president decides: what is proposed keeps its age, and no Prepare is sent.
use Rattle.std.specs.Option.{unwrap_or}
use Rattle.cmm_attempt.specs.declared.attached.AttachedDevice.{AttachedDevice}
use Rattle.cmm_attempt.specs.declared.step.AttemptEnd.{AttemptEnd}
use Rattle.cmm_attempt.specs.declared.step.Step.{Step}
use Rattle.cmm_attempt.specs.declared.step.Step.TheVariants as step
use Rattle.cmm_attempt.specs.Attempts.{AttemptState, Turn, beginning, newest_installed}
use Rattle.cmm_attempt.specs.Calls.{Call, May, Own_ready, Tick as Call_tick, With_votes, starts_in, turn}
use Rattle.attempt_laws.proofs.Sends.{first_sends_are_own, sends_are_own}
use Rattle.attempt_laws.proofs.Walk.{if_with}
use Rattle.attempt_laws.specs.Sending.{IsOwn, IsOwnStep}
use Rattle.cmm_attempt.specs.declared.phase.Phase.{Phase}
use Rattle.cmm_attempt.specs.declared.phase.Phase.TheVariants.{Choosing, Collecting, Installing, Over, SeizingOthers, SeizingVotes}
use Rattle.device_queue.specs.Queue.{joins}
use Rattle.rgm_president.specs.Decisions as decisions
use Rattle.seize.specs.declared.kind.SeizeKind.{SeizeKind}
use Rattle.wire.specs.declared.message.Body.{Body}
use Rattle.wire.specs.declared.message.Body.TheVariants as body
use Rattle.wire.specs.declared.message.Install.{Install}
use Rattle.wire.specs.declared.message.Message.{Message}
use Rattle.node_model.specs.declared.cluster.Cluster.{Cluster}
use Rattle.node_model.specs.declared.node.UpNode.{UpNode}
use Rattle.node_model.specs.declared.presidency.Presidency.{Presidency}
use Rattle.node_model.specs.declared.seat.Seat.{Seat}
use Rattle.node_model.specs.declared.seat.Seat.TheVariants.{Forming, Member}
use Rattle.node_model.specs.Attempts.{begins_install, installs_now, is_choosing, left_out_by, next_epoch, promise_of, resting, starts_now, votes_in}
use Rattle.node_model.specs.Configurations.{in_force}
use Rattle.node_model.specs.Deciding.{is_held_up, may_order, with_turn}
use Rattle.node_model.specs.Ticks.{members_to_form, waiting_less}
use Rattle.refinement.specs.Courses.{Course, joined}
use Rattle.refinement.specs.Courses.Course.{Acts, Falls, Keeps, Stops}
use Rattle.refinement.specs.Cuts as cuts
use Rattle.refinement.specs.Cuts.{first_turn}
use Rattle.std.specs.Prelude.{ℕ, ◌≡◌, ◌==◌, nat_le, nat_lt, All, Bool, true, false, List, [], ◌∷◌, Option, None, Some, is_some, if◌then◌else◌}
use Rattle.std.specs.List.{AllByRecursion}
use Rattle.std.proofs.Common.{refl, sym, subst}
use Rattle.std.proofs.lemmas.List.Elements.{All-head, All-tail}
use Rattle.node_model.specs.Seats.{promised_of, promising}
use Rattle.refinement.specs.Doings.{Change, acted, changed, going}
use Rattle.refinement.specs.Doings.Act.{Spreads}
use Rattle.refinement.specs.Doings.Change.{Counts, Leads, Proposes, Starts}
use Rattle.run_packets.specs.prepares.Actors.{Follows, NoProposal}
use Rattle.run_packets.specs.repeats.Ages.{AgeKept, GoesAged, NoPrepare}

-- ---- ages

pub same_age : (o : Option Presidency) (p q : Presidency) → o ≡ Some p → (is_some q.proposals.proposed ≡ true → q.proposals.age ≡ p.proposals.age) → AgeKept o (Some q)
same_age o p q is h = subst (λ z. AgeKept z (Some q)) (sym is) h

pub own_age : (o : Option Presidency) → AgeKept o o
own_age None = tt
own_age (Some p) = λ some. refl

-- ---- an attempt sends no Prepare

abbrev IsQuiet : Step → Type 0
IsQuiet (step.Send to m) = NoPrepare m.body
IsQuiet _ = Unit {0}

own_quiet : (t : AttemptState) (b : Body) → IsOwn t b → NoPrepare b
own_quiet t (body.Prepare e v text) h = absurd h
own_quiet t _ h = tt

step_quiet : (t : AttemptState) (s : Step) → IsOwnStep t s → IsQuiet s
step_quiet t (step.Send to m) h = own_quiet t m.body h.1
step_quiet t _ h = tt

all_quiet : (t : AttemptState) (steps : List Step) → All (IsOwnStep t) steps → AllByRecursion IsQuiet steps
all_quiet t [] h = tt
all_quiet t (s ∷ steps) h = (step_quiet t s (All-head (IsOwnStep t) s steps h), all_quiet t steps (All-tail (IsOwnStep t) s steps h))

turn_quiet : (a : AttemptState) (k : Call) → May a k → AllByRecursion IsQuiet (turn a k).steps
turn_quiet a k may = all_quiet (turn a k).after (turn a k).steps (sends_are_own a k may)

first_quiet : (p members : ℕ) (own : Message) (attached : List AttachedDevice) (cluster : ℕ) → AllByRecursion IsQuiet (beginning p members own attached cluster).steps
first_quiet p members own attached cluster =
    all_quiet (beginning p members own attached cluster).after (beginning p members own attached cluster).steps (first_sends_are_own p members own attached cluster)

choosing_is : (phase : Phase) → is_choosing phase ≡ true → phase ≡ Choosing
choosing_is Choosing h = refl
choosing_is Collecting h = cc
choosing_is SeizingVotes h = cc
choosing_is SeizingOthers h = cc
choosing_is Installing h = cc
choosing_is Over h = cc

-- ---- what follows a proposal

-- what comes behind a course leaves it
follows_then : (c : Cluster) (me : ℕ) (x y : UpNode) (change : Change) (k : Course) (next : UpNode → Course) → Follows me x change k → Follows me x change (joined c me y k next)
follows_then c me x y (Proposes s p text) (Acts (Spreads receivers b) rest) next h = h
follows_then c me x y (Proposes s p text) _ next h = absurd h
follows_then c me x y _ k next h = tt

follows_none : (me : ℕ) (x : UpNode) (change : Change) (rest : Course) → NoProposal change → Follows me x change rest
follows_none me x (Proposes s p text) rest h = absurd h
follows_none me x _ rest h = tt

module _ (c : Cluster) (me : ℕ) (again : Bool) where
  abbrev G : UpNode → Course → Type 0
  G x k = GoesAged c me again x k

  pub either_so : (x : UpNode) (b : Bool) (k l : Course) → G x k → G x l → G x (if b then k else l)
  either_so x true k l h i = h
  either_so x false k l h i = i

  pub then_so : (x : UpNode) (k : Course) (next : UpNode → Course) → G x k → ((y : UpNode) → G y (next y)) → G x (joined c me x k next)
  then_so x Stops next h i = i x
  then_so x (Acts a rest) next h i = (h.0, then_so (acted c me x a) rest next h.1 i)
  then_so x (Keeps change rest) next h i = (follows_then c me x (changed c me x change) change rest next h.0, then_so (changed c me x change) rest next h.1 i)
  then_so x (Falls why) next h i = tt

  decided_so : (x : UpNode) (p : Presidency) (t : decisions.Turn) → x.presidency ≡ Some p → G x (cuts.decided_course me x p t)
  decided_so x p t is = (tt, (same_age x.presidency p (with_turn me p t) is (λ some. refl), tt))

  deciding_by_so : (x : UpNode) (o : Option Presidency) → x.presidency ≡ o → G x (cuts.deciding_by_course c me x o)
  deciding_by_so x None is = tt
  deciding_by_so x (Some p) is = either_so x (may_order p.groups) _ _ (decided_so x p (decisions.decision (in_force c x) x.second (is_held_up p) p.groups) is) tt

  pub deciding_so : (x : UpNode) → G x (cuts.deciding_course c me x)
  deciding_so x = deciding_by_so x x.presidency refl

  excluded_so : (x : UpNode) (e newest : ℕ) (o : Option ℕ) → G x (cuts.excluded_course me e newest o)
  excluded_so x e newest None = tt
  excluded_so x e newest (Some m) = either_so x (m == me) _ _ tt (tt, tt)

  ended_so : (x : UpNode) (e : AttemptEnd) (o : Option AttemptState) → G x (cuts.ended_course me e o)
  ended_so x e None = tt
  ended_so x e (Some a) = (tt, excluded_so (resting x) a.plan.epoch (unwrap_or (newest_installed a) 0) (left_out_by e))

  queued_so : (x : UpNode) (d : ℕ) (kind : SeizeKind) (o : Option AttemptState) → G x (cuts.queued_course d kind o)
  queued_so x d kind None = tt
  queued_so x d kind (Some a) = (tt, tt)

  step_so : (x : UpNode) (s : Step) → IsQuiet s → G x (cuts.step_course me x s)
  step_so x (step.Send to m) is = (is, tt)
  step_so x (step.SeizeHere d kind) is = queued_so x d kind x.attempt
  step_so x (step.NeedVotes n) is = tt
  step_so x (step.InstallHere i) is = tt
  step_so x step.StartHere is = tt
  step_so x (step.Ended e) is = ended_so x e x.attempt

  steps_so : (x : UpNode) (steps : List Step) → AllByRecursion IsQuiet steps → G x (cuts.steps_course c me x steps)
  steps_so x [] all = tt
  steps_so x (s ∷ steps) all = then_so x _ _ (step_so x s all.0) (λ y. steps_so y steps all.1)

  pub kept_if_so : (x : UpNode) (keeps : Bool) (change : Change) (rest : Course) → NoProposal change → G (changed c me x change) rest → G x (cuts.kept_if keeps change rest)
  kept_if_so x true change rest k l = (follows_none me x change rest k, l)
  kept_if_so x false change rest k l = (k, l)

  gone_on_so : (x : UpNode) (a : AttemptState) (k : Call) (steps : List Step) → AllByRecursion IsQuiet steps → G x (cuts.gone_on c me x a k steps)
  gone_on_so x a k steps all = (tt, steps_so (going x a k) steps all)

  counted_so : (x : UpNode) (a : AttemptState) (k : Call) (i : Install) (rest : List Step) (seat : Seat) → AllByRecursion IsQuiet rest
      → G x (cuts.counted c me x a k i rest seat)
  counted_so x a k i rest (Member s) all = gone_on_so x a k rest all
  counted_so x a k i rest (Forming s) all =
      either_so x (installs_now s i) _ _ (tt, steps_so (changed c me x (Counts a k s i)) rest all) (gone_on_so x a k rest all)

  started_so : (x : UpNode) (a : AttemptState) (k : Call) (rest : List Step) (seat : Seat) → AllByRecursion IsQuiet rest → G x (cuts.started c me x a k rest seat)
  started_so x a k rest (Member s) all = gone_on_so x a k rest all
  started_so x a k rest (Forming s) all =
      either_so x (starts_now s (turn a k).after.plan.epoch) _ _
      (kept_if_so x (is_some s.saved.entries.pending) (Starts a k s) (cuts.steps_course c me (changed c me x (Starts a k s)) rest) tt (steps_so (changed c me x (Starts a k s)) rest all))
      (gone_on_so x a k rest all)

  turned_by_so : (x : UpNode) (a : AttemptState) (k : Call) (steps : List Step) → AllByRecursion IsQuiet steps → G x (cuts.turned_by c me x a k steps)
  turned_by_so x a k [] all = gone_on_so x a k [] tt
  turned_by_so x a k (step.InstallHere i ∷ rest) all = counted_so x a k i rest x.seat all.1
  turned_by_so x a k (step.StartHere ∷ rest) all = started_so x a k rest x.seat all.1
  turned_by_so x a k (step.Send to m ∷ rest) all = gone_on_so x a k (step.Send to m ∷ rest) all
  turned_by_so x a k (step.SeizeHere d kind ∷ rest) all = gone_on_so x a k (step.SeizeHere d kind ∷ rest) all
  turned_by_so x a k (step.NeedVotes n ∷ rest) all = gone_on_so x a k (step.NeedVotes n ∷ rest) all
  turned_by_so x a k (step.Ended e ∷ rest) all = gone_on_so x a k (step.Ended e ∷ rest) all

  turned_so : (x : UpNode) (a : AttemptState) (k : Call) → May a k → G x (cuts.turned c me x a k)
  turned_so x a k may = turned_by_so x a k (turn a k).steps (turn_quiet a k may)

  if_started_so : (steps : List Step) (y : UpNode) → G y (cuts.if_started c me steps y)
  if_started_so steps y = either_so y (starts_in steps) _ _ (deciding_so y) tt

  turned_all_so : (x : UpNode) (a : AttemptState) (k : Call) → May a k → G x (cuts.turned_all c me x a k)
  turned_all_so x a k may = then_so x _ _ (turned_so x a k may) (λ z. if_started_so (turn a k).steps z)

  readied_so : (x : UpNode) (o : Option AttemptState) → G x (cuts.readied_course c me x o)
  readied_so x None = tt
  readied_so x (Some a) = turned_all_so x a Own_ready tt

  pub own_ready_so : (x : UpNode) → G x (cuts.own_ready_course c me x)
  own_ready_so x = either_so x (joins x.tasks) _ _ tt (readied_so x x.attempt)

  if_installed_so : (steps : List Step) (y : UpNode) → G y (cuts.if_installed c me steps y)
  if_installed_so steps y = either_so y (begins_install steps) _ _ (own_ready_so y) tt

  called_so : (x : UpNode) (a : AttemptState) (k : Call) → May a k → G x (cuts.called c me x a k)
  called_so x a k may = then_so x _ _ (turned_all_so x a k may) (λ z. if_installed_so (turn a k).steps z)

  pub going_so : (x : UpNode) (a : AttemptState) (k : Call) → May a k → G x (cuts.going_course c me x a k)
  going_so x a k may =
      if_with (λ z. G x z) (is_choosing (turn a k).after.phase) (is_choosing (turn a k).after.phase) _ _ refl
      (λ is. (tt, called_so (going x a k) (turn a k).after (With_votes (votes_in c (turn a k).after)) (choosing_is (turn a k).after.phase is)))
      (λ is. called_so x a k may)

  begun_so : (x : UpNode) (t : Turn) → AllByRecursion IsQuiet t.steps → G x (cuts.begun_course c me x t)
  begun_so x t all =
      if_with (λ z. G x z) (is_choosing t.after.phase) (is_choosing t.after.phase) _ _ refl
      (λ is. called_so x t.after (With_votes (votes_in c t.after)) (choosing_is t.after.phase is)) (λ is. steps_so x t.steps all)

  leading_so : (x : UpNode) (p members : ℕ) → G x (cuts.leading_course c me x p members)
  leading_so x p members =
      either_so x (nat_lt (promised_of x) p) _ _ (
        tt,
        begun_so (changed c me x (Leads p members)) (first_turn c me x p members)
            (first_quiet p members (record { sender = me; body = promise_of (record (promising x p) { greatest = p }) p }) c.attached c.id),
      ) tt

  forming_so : (x : UpNode) (o : Option ℕ) → G x (cuts.forming_course c me x o)
  forming_so x None = tt
  forming_so x (Some members) = leading_so x (next_epoch me x) members

  pub ticked_so : (x : UpNode) (o : Option AttemptState) → G x (cuts.ticked_course c me x o)
  ticked_so x (Some a) = going_so x a Call_tick tt
  ticked_so x None = either_so x (nat_le 1 x.beats.wait) _ _ (tt, tt) (tt, forming_so (waiting_less x) (members_to_form c me (waiting_less x)))
