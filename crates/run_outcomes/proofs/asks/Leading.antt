-- Along the courses of its attempt a coordinator asks those that the entries of the attempt have.
use Rattle.std.specs.Prelude.{All, ℕ, ◌==◌, ◌≡◌, ◌++◌, nat_le, nat_lt, Bool, true, List, [], ◌∷◌, Option, None, Some, find, is_some, if◌then◌else◌}
use Rattle.std.specs.Option.{unwrap_or}
use Rattle.std.proofs.Common.{arith, refl, sym, ap, subst, ◌∙◌}
use Rattle.attempt_laws.proofs.Stays.{plan_begins, plan_stays}
use Rattle.attempt_laws.specs.Asking.{AreApart, numbers_of}
use Rattle.cl_base.specs.Sets.{has}
use Rattle.cmm_attempt.proofs.Basics.{if_either}
use Rattle.cmm_attempt.specs.Attempts.{AttemptState, Turn, beginning, first_state, newest_installed, promises_of}
use Rattle.cmm_attempt.specs.Calls.{Call, May, Own_ready, Tick as Call_tick, With_votes, starts_in, turn}
use Rattle.cmm_attempt.specs.Promises.{promised_by, shown_by}
use Rattle.cmm_attempt.specs.declared.attached.AttachedDevice.{AttachedDevice}
use Rattle.cmm_attempt.specs.declared.phase.Phase.TheVariants.{Choosing}
use Rattle.cmm_attempt.specs.declared.plan.Plan.{Plan}
use Rattle.cmm_attempt.specs.declared.step.AttemptEnd.{AttemptEnd}
use Rattle.cmm_attempt.specs.declared.step.Step.{Step}
use Rattle.cmm_attempt.specs.declared.step.Step.TheVariants as step
use Rattle.device_queue.specs.Queue.{after_seize, joins}
use Rattle.node_model.specs.Attempts.{begins_install, installs_now, is_choosing, left_out_by, next_epoch, promise_of, starts_now, votes_in}
use Rattle.node_model.specs.Entries.{unknown_lines}
use Rattle.node_model.specs.Seats.{promised_of, promising, record_of}
use Rattle.node_model.specs.Ticks.{members_to_form, waiting_less}
use Rattle.node_model.specs.declared.cluster.Cluster.{Cluster}
use Rattle.node_model.specs.declared.node.UpNode.{UpNode}
use Rattle.node_model.specs.declared.seat.Seat.{Seat}
use Rattle.node_model.specs.declared.seat.Seat.TheVariants.{Forming, Member}
use Rattle.refinement.specs.Courses.{Course, joined}
use Rattle.refinement.specs.Courses.Course.{Acts, Keeps, Stops}
use Rattle.refinement.specs.Cuts as cuts
use Rattle.refinement.specs.Cuts.{deciding_course, first_turn, if_installed, if_started, steps_course, turned}
use Rattle.refinement.specs.Doings.{acted, changed, first_lines, going, said, saved_lines}
use Rattle.refinement.specs.Doings.Act.{Ends, Goes_on, Makes, Queues, Waits}
use Rattle.refinement.specs.Doings.Change.{Counts, Leads, Starts}
use Rattle.run_attempts.proofs.Mild.{unknown_mild}
use Rattle.run_history.proofs.QuietCourses.{deciding}
use Rattle.seize.specs.Seizing as seizing
use Rattle.seize.specs.declared.kind.SeizeKind.{SeizeKind}
use Rattle.wire.specs.declared.message.Install.{Install}
use Rattle.wire.specs.declared.message.Message.{Message}
use Rattle.run_outcomes.specs.phases.Kept.{In}
use Rattle.run_outcomes.specs.tasks.Asks.{IsFirst, Sound, Told, TurnTold, asked_by_body, asked_by_steps}
use Rattle.run_outcomes.specs.Mute.{AskNone, GivesPlainly, GoesTo}
use Rattle.run_outcomes.specs.tasks.AsksCourses.{AttemptTold, HasTold, StepsTold, Tally, then_given}
use Rattle.run_outcomes.proofs.Mute.{Never, goes_if, goes_joined, mild_none, plain_first, quiet_mute}
use Rattle.run_outcomes.proofs.asks.Silent.{none_goes, same_asked, silent_goes}
use Rattle.run_outcomes.proofs.asks.Turns.{begun_told, call_told}
use Rattle.run_outcomes.proofs.phases.Leading.{deciding_by_l, excluded_l, is_choice, steps_l}
use Rattle.run_outcomes.proofs.results.Calm.{unknown_calm}
use Rattle.run_outcomes.proofs.saves.Rests.{joined_l}
use Rattle.run_outcomes.proofs.asks.Requested.{StepSeizing, first_seizing, none_asked, turn_seizing}

-- an attempt that asks for its votes asks nobody else
choosing_told : (g : Tally) (u : Turn) → u.after.phase ≡ Choosing → All (StepSeizing u.after) u.steps → StepsTold g u.steps u.after → AttemptTold g u.after
choosing_told g u is all h = λ first. ((h first).0, λ d. subst (λ xs. Told d xs u.after) (none_asked u.after d u.steps (g u.after.plan.epoch d) is all) ((h first).1 d))

-- ---- a call

pub after_call : (g : Tally) (a : AttemptState) (k : Call) → May a k → AttemptTold g a → StepsTold g (turn a k).steps (turn a k).after
after_call g a k may h first = ((call_told 0 (g e 0) a k may so.0 (so.1 0)).0, λ d. subst (λ q. Told d (asked_by_steps d (turn a k).steps (g q d)) (turn a k).after) (ap (λ (p : Plan). p.epoch) (sym same)) (call_told d (g e d) a k may so.0 (so.1 d)).1)
  where
    e : ℕ
    e = a.plan.epoch

    same : (turn a k).after.plan ≡ a.plan
    same = plan_stays a k may

    so : Sound a × ((d : ℕ) → Told d (g e d) a)
    so = h (subst IsFirst same first)

-- an attempt begins: nobody is asked
first_told : (p members : ℕ) (own : Message) (attached : List AttachedDevice) (cluster d : ℕ) → AreApart (numbers_of attached) → IsFirst (beginning p members own attached cluster).after.plan → TurnTold d [] (beginning p members own attached cluster)
unfolding beginning
first_told p members own attached cluster d apart first =
    let s : AttemptState = first_state p members own attached cluster (promises_of (promised_by own (shown_by own.sender own.body))) in
    begun_told d [] s refl (record { first = first_of; nodes = refl; attached = apart; apart = tt; early = λ early. refl }) (record { last = refl; each = λ m. refl; own = tt })
  where
    first_of : IsFirst (first_state p members own attached cluster (promises_of (promised_by own (shown_by own.sender own.body)))).plan
    first_of =
        subst (λ ns. (test : ℕ → Bool) → test own.sender ≡ true → find test ns ≡ Some own.sender) (plan_begins p members own attached cluster).of_nodes
        (subst (λ k. (test : ℕ → Bool) → test k ≡ true → find test (beginning p members own attached cluster).after.plan.nodes ≡ Some k) (plan_begins p members own attached cluster).of_coordinator first)

-- ---- courses of steps

attempt_in : (P : AttemptState → Type 0) (x y : UpNode) → y.attempt ≡ x.attempt → In P x.attempt → In P y.attempt
attempt_in P x y same h = subst (In P) (sym same) h

module _ (c : Cluster) (me : ℕ) where
  abbrev Goes : UpNode → Tally → Course → Type 0
  Goes x g k = GoesTo then_given c me HasTold x g k

  never_of : (o : Option AttemptState) → o ≡ None → In Never o
  never_of None h = tt
  never_of (Some a) h = cc

  -- a step that is no message asks nobody
  nobody_in : (g : Tally) (s : Step) (steps : List Step) → ((d : ℕ) (xs : List ℕ) → asked_by_steps d (s ∷ steps) xs ≡ asked_by_steps d steps xs) → (o : Option AttemptState) → In (StepsTold g (s ∷ steps)) o → In (StepsTold g steps) o
  nobody_in g s steps same None h = tt
  nobody_in g s steps same (Some a) h = λ first. ((h first).0, λ d. subst (λ xs. Told d xs a) (same d (g a.plan.epoch d)) ((h first).1 d))

  sent_in : (g : Tally) (to : ℕ) (m : Message) (steps : List Step) (o : Option AttemptState) → In (StepsTold g (step.Send to m ∷ steps)) o → In (StepsTold (λ e d. asked_by_body d to m.body (g e d)) steps) o
  sent_in g to m steps None h = tt
  sent_in g to m steps (Some a) h = h

  queued_told : (x : UpNode) (g : Tally) (d : ℕ) (kind : SeizeKind) (steps : List Step) (o : Option AttemptState) → ((y : UpNode) → In (StepsTold g steps) y.attempt → Goes y g (steps_course c me y steps)) → In (StepsTold g steps) x.attempt
      → Goes x g (joined c me x (cuts.queued_course d kind o) (λ y. steps_course c me y steps))
  queued_told x g d kind steps None rest h = rest x h
  queued_told x g d kind steps (Some a) rest h = rest (acted c me x (Queues a d kind)) (attempt_in (StepsTold g steps) x (acted c me x (Queues a d kind)) queued h)
    where
      queued : (acted c me x (Queues a d kind)).attempt ≡ x.attempt
      queued =
          if_either (λ (y : UpNode). y.attempt ≡ x.attempt) (has a.plan.members me)
          (record x { tasks = after_seize x.tasks d (seizing.begun kind a.plan.epoch a.plan.members me c.id (has (record_of x).valid d)) }) x refl refl

  ended_told : (x : UpNode) (g : Tally) (e : AttemptEnd) (steps : List Step) (o : Option AttemptState) → x.attempt ≡ o → Goes x g (joined c me x (cuts.ended_course me e o) (λ y. steps_course c me y steps))
  ended_told x g e steps None is = none_goes c me x g (steps_course c me x steps) (steps_l c me x steps) (never_of x.attempt is)
  ended_told x g e steps (Some a) is =
      let y : UpNode = acted c me x (Ends a e) in
      let k : Course = cuts.excluded_course me a.plan.epoch (unwrap_or (newest_installed a) 0) (left_out_by e) in
      none_goes c me y (then_given g (said c me x (Ends a e))) (joined c me y k (λ z. steps_course c me z steps))
      (joined_l c me y k (λ z. steps_course c me z steps) (excluded_l me a.plan.epoch (unwrap_or (newest_installed a) 0) (left_out_by e)) (λ z. steps_l c me z steps)) tt

  pub steps_told : (x : UpNode) (g : Tally) (steps : List Step) → In (StepsTold g steps) x.attempt → Goes x g (steps_course c me x steps)
  steps_told x g [] h = h
  steps_told x g (step.Send to m ∷ steps) h = steps_told x (λ e d. asked_by_body d to m.body (g e d)) steps (sent_in g to m steps x.attempt h)
  steps_told x g (step.SeizeHere d kind ∷ steps) h = queued_told x g d kind steps x.attempt (λ y told. steps_told y g steps told) (nobody_in g (step.SeizeHere d kind) steps (λ k xs. refl) x.attempt h)
  steps_told x g (step.NeedVotes n ∷ steps) h = steps_told x g steps (nobody_in g (step.NeedVotes n) steps (λ k xs. refl) x.attempt h)
  steps_told x g (step.InstallHere i ∷ steps) h = steps_told x g steps (nobody_in g (step.InstallHere i) steps (λ k xs. refl) x.attempt h)
  steps_told x g (step.StartHere ∷ steps) h = steps_told x g steps (nobody_in g step.StartHere steps (λ k xs. refl) x.attempt h)
  steps_told x g (step.Ended e ∷ steps) h = ended_told x g e steps x.attempt refl

  -- ---- calls

  gone_told : (x : UpNode) (g : Tally) (a : AttemptState) (k : Call) (steps : List Step) → StepsTold g steps (turn a k).after → Goes x g (cuts.gone_on c me x a k steps)
  gone_told x g a k steps h = steps_told (going x a k) g steps h

  counted_told : (x : UpNode) (g : Tally) (a : AttemptState) (k : Call) (i : Install) (rest : List Step) (seat : Seat) → StepsTold g rest (turn a k).after → Goes x g (cuts.counted c me x a k i rest seat)
  counted_told x g a k i rest (Member s) h = gone_told x g a k rest h
  counted_told x g a k i rest (Forming s) h =
      let y : UpNode = changed c me x (Counts a k s i) in
      if_either (Goes x g) (installs_now s i) (Keeps (Counts a k s i) (steps_course c me y rest)) (cuts.gone_on c me x a k rest) (steps_told y g rest h) (gone_told x g a k rest h)

  started_told : (x : UpNode) (g : Tally) (a : AttemptState) (k : Call) (rest : List Step) (seat : Seat) → StepsTold g rest (turn a k).after → Goes x g (cuts.started c me x a k rest seat)
  started_told x g a k rest (Member s) h = gone_told x g a k rest h
  started_told x g a k rest (Forming s) h =
      let y : UpNode = changed c me x (Starts a k s) in
      let more : Course = steps_course c me y rest in
      if_either (Goes x g) (starts_now s (turn a k).after.plan.epoch) (cuts.kept_if (is_some s.saved.entries.pending) (Starts a k s) more) (cuts.gone_on c me x a k rest)
      (if_either (Goes x g) (is_some s.saved.entries.pending) (Keeps (Starts a k s) more) (Acts (Makes (Starts a k s)) more)
      (none_goes c me y (then_given g (first_lines me (Starts a k s) ++ saved_lines c me x (Starts a k s))) more (steps_l c me y rest) tt)
      (none_goes c me y (then_given g (said c me x (Makes (Starts a k s)))) more (steps_l c me y rest) tt))
      (gone_told x g a k rest h)

  turned_by_told : (x : UpNode) (g : Tally) (a : AttemptState) (k : Call) (steps : List Step) → StepsTold g steps (turn a k).after → Goes x g (cuts.turned_by c me x a k steps)
  turned_by_told x g a k [] h = gone_told x g a k [] h
  turned_by_told x g a k (step.InstallHere i ∷ rest) h = counted_told x g a k i rest x.seat h
  turned_by_told x g a k (step.StartHere ∷ rest) h = started_told x g a k rest x.seat h
  turned_by_told x g a k (step.Send to m ∷ rest) h = gone_told x g a k (step.Send to m ∷ rest) h
  turned_by_told x g a k (step.SeizeHere d kind ∷ rest) h = gone_told x g a k (step.SeizeHere d kind ∷ rest) h
  turned_by_told x g a k (step.NeedVotes n ∷ rest) h = gone_told x g a k (step.NeedVotes n ∷ rest) h
  turned_by_told x g a k (step.Ended e ∷ rest) h = gone_told x g a k (step.Ended e ∷ rest) h

  turned_all_told : (x : UpNode) (g : Tally) (a : AttemptState) (k : Call) → May a k → GivesPlainly (cuts.turned_all c me x a k) → AttemptTold g a → Goes x g (cuts.turned_all c me x a k)
  turned_all_told x g a k may plain h =
      goes_joined then_given c me HasTold HasTold x g (turned c me x a k) (if_started c me (turn a k).steps) plain (turned_by_told x g a k (turn a k).steps (after_call g a k may h))
      (λ y f told left. goes_if then_given c me HasTold y f (starts_in (turn a k).steps) (deciding_course c me y) Stops left
      (λ _ more. silent_goes c me y f (deciding_course c me y) (deciding_by_l c me y y.presidency) (quiet_mute (deciding_course c me y) (deciding c me y)) more told) (λ _ _. told))

  readied_told : (x : UpNode) (g : Tally) (o : Option AttemptState) → GivesPlainly (cuts.readied_course c me x o) → In (AttemptTold g) o → HasTold x g → Goes x g (cuts.readied_course c me x o)
  readied_told x g None plain here h = h
  readied_told x g (Some a) plain here h = turned_all_told x g a Own_ready tt plain here

  pub own_ready_told : (x : UpNode) (g : Tally) → GivesPlainly (cuts.own_ready_course c me x) → HasTold x g → Goes x g (cuts.own_ready_course c me x)
  own_ready_told x g plain h = goes_if then_given c me HasTold x g (joins x.tasks) Stops (cuts.readied_course c me x x.attempt) plain (λ _ _. h) (λ _ more. readied_told x g x.attempt more h h)

  called_told : (x : UpNode) (g : Tally) (a : AttemptState) (k : Call) → May a k → GivesPlainly (cuts.called c me x a k) → AttemptTold g a → Goes x g (cuts.called c me x a k)
  called_told x g a k may plain h =
      goes_joined then_given c me HasTold HasTold x g (cuts.turned_all c me x a k) (if_installed c me (turn a k).steps) plain (turned_all_told x g a k may (plain_first c me x (cuts.turned_all c me x a k) (if_installed c me (turn a k).steps) plain) h)
      (λ y f told left. goes_if then_given c me HasTold y f (begins_install (turn a k).steps) (cuts.own_ready_course c me y) Stops left (λ _ more. own_ready_told y f more told) (λ _ _. told))

  pub going_told : (x : UpNode) (g : Tally) (a : AttemptState) (k : Call) → May a k → GivesPlainly (cuts.going_course c me x a k) → AttemptTold g a → Goes x g (cuts.going_course c me x a k)
  going_told x g a k may plain h =
      let t : AttemptState = (turn a k).after in
      goes_if then_given c me HasTold x g (is_choosing t.phase) (Acts (Goes_on a k) (cuts.called c me (going x a k) t (With_votes (votes_in c t)))) (cuts.called c me x a k) plain
      (λ is more. called_told (going x a k) g t (With_votes (votes_in c t)) (is_choice t.phase is) more.1 (choosing_told g (turn a k) (is_choice t.phase is) (turn_seizing a k may) (after_call g a k may h)))
      (λ _ more. called_told x g a k may more h)

  -- ---- an attempt begins

  begun_course_told : (x : UpNode) (g : Tally) (u : Turn) → x.attempt ≡ Some u.after → GivesPlainly (cuts.begun_course c me x u) → All (StepSeizing u.after) u.steps → StepsTold g u.steps u.after → Goes x g (cuts.begun_course c me x u)
  begun_course_told x g u has plain all h =
      goes_if then_given c me HasTold x g (is_choosing u.after.phase) (cuts.called c me x u.after (With_votes (votes_in c u.after))) (steps_course c me x u.steps) plain
      (λ is more. called_told x g u.after (With_votes (votes_in c u.after)) (is_choice u.after.phase is) more (choosing_told g u (is_choice u.after.phase is) all h))
      (λ _ more. steps_told x g u.steps (subst (In (StepsTold g u.steps)) (sym has) h))

  -- the lines of its beginning leave nobody asked
  led_asked : (x : UpNode) (g : Tally) (p members q d : ℕ) → q ≡ p → then_given g (first_lines me (Leads p members) ++ saved_lines c me x (Leads p members)) q d ≡ []
  led_asked x g p members q d is =
      same_asked q d (unknown_lines me x.requests.waiting) (if p == q then [] else g q d) (unknown_none x)
      ∙ ap (λ b. if b then [] else g q d) (itself p q is)
    where
      itself : (a b : ℕ) → b ≡ a → (a == b) ≡ true
      itself a b h = grind arith

      unknown_none : (x : UpNode) → AskNone (unknown_lines me x.requests.waiting)
      unknown_none x = mild_none (unknown_lines me x.requests.waiting) (unknown_mild me x.requests.waiting) (unknown_calm me x.requests.waiting)

  leading_told : (x : UpNode) (g : Tally) (p members : ℕ) → AreApart (numbers_of c.attached) → GivesPlainly (cuts.leading_course c me x p members) → HasTold x g → Goes x g (cuts.leading_course c me x p members)
  leading_told x g p members apart plain h =
      goes_if then_given c me HasTold x g (nat_lt (promised_of x) p) (Keeps (Leads p members) (cuts.begun_course c me (changed c me x (Leads p members)) (first_turn c me x p members))) Stops plain
      (λ _ more. begun_course_told y f u refl more (first_seizing p members own c.attached c.id) told) (λ _ _. h)
    where
      y : UpNode
      y = changed c me x (Leads p members)

      f : Tally
      f = then_given g (first_lines me (Leads p members) ++ saved_lines c me x (Leads p members))

      u : Turn
      u = first_turn c me x p members

      own : Message
      own = record { sender = me; body = promise_of (record (promising x p) { greatest = p }) p }

      epoch : u.after.plan.epoch ≡ p
      epoch = (plan_begins p members own c.attached c.id).of_epoch

      told : StepsTold f u.steps u.after
      told first = (
        (first_told p members own c.attached c.id 0 apart first).0,
        λ d. subst (λ xs. Told d (asked_by_steps d u.steps xs) u.after) (sym (led_asked x g p members u.after.plan.epoch d epoch)) (first_told p members own c.attached c.id d apart first).1,
      )

  pub forming_told : (x : UpNode) (g : Tally) (o : Option ℕ) → AreApart (numbers_of c.attached) → GivesPlainly (cuts.forming_course c me x o) → HasTold x g → Goes x g (cuts.forming_course c me x o)
  forming_told x g None apart plain h = h
  forming_told x g (Some members) apart plain h = leading_told x g (next_epoch me x) members apart plain h

  pub ticked_told : (x : UpNode) (g : Tally) (o : Option AttemptState) → x.attempt ≡ o → AreApart (numbers_of c.attached) → GivesPlainly (cuts.ticked_course c me x o) → In (AttemptTold g) o → Goes x g (cuts.ticked_course c me x o)
  ticked_told x g (Some a) is apart plain here = going_told x g a Call_tick tt plain here
  ticked_told x g None is apart plain here =
      let h : HasTold x g = subst (In (AttemptTold g)) (sym is) tt in
      goes_if then_given c me HasTold x g (nat_le 1 x.beats.wait) (Acts Waits Stops) (Acts Waits (cuts.forming_course c me (waiting_less x) (members_to_form c me (waiting_less x)))) plain
      (λ _ _. h) (λ _ more. forming_told (waiting_less x) g (members_to_form c me (waiting_less x)) apart more.1 h)
