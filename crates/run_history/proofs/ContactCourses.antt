-- What a node does with each input sends a Start or a Prepared only where it is led, or as it says.
use Rattle.std.specs.Option.{unwrap_or}
use Rattle.admin_commands.specs.declared.accepted.Accepted.{Accepted}
use Rattle.admin_commands.specs.declared.accepted.Accepted.TheVariants as accepted
use Rattle.admin_commands.specs.declared.error.CheckError.{CheckError}
use Rattle.admin_commands.specs.declared.error.CheckError.TheVariants as because
use Rattle.admin_words.specs.Commands.{command_of, request_of}
use Rattle.admin_words.specs.declared.error.WordError.{WordError}
use Rattle.admin_words.specs.declared.request.Request.TheVariants as asked
use Rattle.admin_words.specs.declared.request.Request as wanted
use Rattle.answer_words.specs.Answers.{answer_in}
use Rattle.ccr_commit.specs.Entries.{answer_for, texts_of}
use Rattle.ccr_commit.specs.declared.entries.Prepared.{Prepared}
use Rattle.ccr_commit.specs.declared.entries.Prepared.TheVariants.{Taken, Already, Gap}
use Rattle.ccr_tables.specs.State.{ConfigState}
use Rattle.ccr_tables.specs.declared.command.AdminCommand.{AdminCommand}
use Rattle.ccr_tables.specs.declared.command.AdminCommand.TheVariants as wish
use Rattle.cl_base.specs.Sets.{has}
use Rattle.cl_base.specs.declared.command.Ask.{Ask}
use Rattle.cl_base.specs.declared.method.Outcome.{Outcome}
use Rattle.cl_base.specs.Seizings.{SeizeResult}
use Rattle.cmm_attempt.specs.declared.step.AttemptEnd.{AttemptEnd}
use Rattle.cmm_attempt.specs.declared.step.Step.{Step}
use Rattle.cmm_attempt.specs.declared.step.Step.TheVariants as step
use Rattle.cmm_attempt.specs.Attempts.{AttemptState, Turn, newest_installed}
use Rattle.cmm_attempt.specs.Calls.{Call, Own_ready, Own_seized, Take, Tick as Call_tick, With_votes, starts_in, turn}
use Rattle.cmm_member.specs.Nodes.{NodeState}
use Rattle.device_queue.specs.declared.progress.Progress.{Progress}
use Rattle.device_queue.specs.declared.progress.Progress.TheVariants.{GoesOn, Seized, Joined}
use Rattle.device_queue.specs.Queue.{begins_plainly, due_device, joins, kept_of, next_of, progress_after}
use Rattle.pgr_device.specs.declared.command.PrAnswer.TheVariants as given
use Rattle.pgr_device.specs.declared.command.PrCommand.{PrCommand}
use Rattle.proposals.specs.Arrivals.{arrival_of, with_arrival}
use Rattle.proposals.specs.Proposing.{goes_again, is_prepared, prepared_by}
use Rattle.proposals.specs.State.{State, first_in, kept_at}
use Rattle.proposals.specs.declared.arrived.Arrival.{Arrival}
use Rattle.proposals.specs.declared.arrived.Arrival.TheVariants.{New, Waits as Waits_already, Answered as Answered_last, Past}
use Rattle.proposals.specs.declared.arrived.Arrived.{Arrived}
use Rattle.proposals.specs.declared.arrived.Kept.{Kept}
use Rattle.proposals.specs.declared.arrived.Proposed.{Proposed}
use Rattle.request_queue.specs.Queue as queue
use Rattle.request_queue.specs.Queue.{found, is_full, next_number, oldest}
use Rattle.request_queue.specs.declared.request.Request.{Request}
use Rattle.rgm_member.specs.Orders.{answer_to, outcome_in}
use Rattle.rgm_member.specs.Probes.{probed}
use Rattle.rgm_member.specs.declared.carried.Carried.{Carried}
use Rattle.rgm_member.specs.declared.carried.Carried.TheVariants as carried
use Rattle.rgm_member.specs.declared.probed.Probed.{Probed}
use Rattle.rgm_member.specs.declared.probed.Probed.TheVariants as probe
use Rattle.rgm_president.specs.Decisions as decisions
use Rattle.rgm_state.specs.Outcomes as order
use Rattle.seize.specs.Answers.{Answer as DeviceAnswer}
use Rattle.seize.specs.declared.kind.JoinResult.{JoinResult}
use Rattle.seize.specs.declared.kind.JoinResult.TheVariants as join
use Rattle.seize.specs.declared.kind.SeizeKind.{SeizeKind}
use Rattle.seize.specs.declared.kind.SeizeKind.TheVariants.{Vote, Plain}
use Rattle.status_report.specs.declared.command_entry.Answer.{Answer}
use Rattle.status_report.specs.declared.command_entry.Answer.TheVariants as answer
use Rattle.status_report.specs.declared.status_entry.StatusEntry.{StatusEntry}
use Rattle.update_words.specs.Words.{ask_words_of, words_of}
use Rattle.wire.specs.declared.message.Body.{Body}
use Rattle.wire.specs.declared.message.Body.TheVariants as body
use Rattle.wire.specs.declared.message.Install.{Install}
use Rattle.wire.specs.declared.message.Message.{Message}
use Rattle.wire.specs.declared.message.Order.{Order}
use Rattle.node_model.specs.Addresses.{request_for}
use Rattle.ccr_tables.specs.declared.address.Address.{Address}
use Rattle.rg_props.specs.Lookups.{named}
use Rattle.shared_address.specs.Choosing as serving
use Rattle.shared_address.specs.History as clients
use Rattle.node_model.specs.declared.cluster.Cluster.{Cluster}
use Rattle.node_model.specs.declared.input.Input.{Input}
use Rattle.node_model.specs.declared.input.Input.TheVariants.{Boot, Crash, Tick, Packet, CommandDue, Answered, Wrote, Commanded, Reported, Client}
use Rattle.node_model.specs.declared.node.Node.{Node}
use Rattle.node_model.specs.declared.node.Node.TheVariants.{Down, Up}
use Rattle.node_model.specs.declared.node.UpNode.{UpNode}
use Rattle.node_model.specs.declared.presidency.Presidency.{Presidency}
use Rattle.node_model.specs.declared.seat.Seat.{Seat}
use Rattle.node_model.specs.declared.seat.Seat.TheVariants.{Forming, Member}
use Rattle.node_model.specs.Attempts.{begins_install, installs_now, is_choosing, left_out_by, next_epoch, starts_now, votes_in}
use Rattle.node_model.specs.Configurations.{in_force, own_config}
use Rattle.node_model.specs.Deciding.{is_held_up, may_order}
use Rattle.node_model.specs.Devices.{joining_so}
use Rattle.node_model.specs.Groups.{asked_by, is_last, monitor_asked, orders_again, own_order, reported, with_ended}
use Rattle.node_model.specs.Members.{awaits_start, hearing, is_foreign}
use Rattle.node_model.specs.Presidents.{checked, is_busy, is_clear, others_of, own_arrival, proposed_by, query_lines, requests_of, with_act, with_proposals, word_answer}
use Rattle.node_model.specs.Requests.{is_idle, numbered, waiting_with}
use Rattle.node_model.specs.Ticks.{later, members_to_form, waiting_less}
use Rattle.node_model.specs.Steps.{at_second}
use Rattle.node_model.specs.Updates.{commits_now, is_of_member}
use Rattle.refinement.specs.Courses.{Course, Reply, joined, under}
use Rattle.refinement.specs.Courses.Reply.{Done, Lost_new, Lost_old}
use Rattle.refinement.specs.Courses.Course.{Acts, Falls, Keeps, Stops}
use Rattle.refinement.specs.Cuts as cuts
use Rattle.refinement.specs.Cuts.{acks_of, first_turn, left_answered}
use Rattle.std.specs.Prelude.{ℕ, zero, suc, ◌≡◌, ◌==◌, ◌&&◌, ◌%◌, nat_le, nat_lt, not, Bool, true, false, List, [], ◌∷◌, length, Option, None, Some, Result, Ok, Err, is_some, if◌then◌else◌}
use Rattle.std.proofs.Common.{refl, sym, subst, ◌∙◌, inl, inr}
use Rattle.attempt_laws.proofs.Walk.{if_with}
use Rattle.cmm_attempt.proofs.Basics.{and_cases, same_number}
use Rattle.node_model.specs.Seats.{coordinator_of, installed_of, is_in, is_member, promised_of, record_of, session_of, version_of}
use Rattle.refinement.specs.Doings.{Act, Change, acted, answered_so, changed, going}
use Rattle.refinement.specs.Doings.Act.{Accepts, Dates, Ends, Gives, Goes_on, Hears, Makes, Minds, Notes, Queues, Spreads, Stores, Takes, Ticks, Waits, Works, Writes}
use Rattle.refinement.specs.Doings.Change.{Acks, Admits, Commits, Counts, Distrusts, Installs, Leads, Prepares, Promises, Proposes, Sits, Starts}
use Rattle.refinement.specs.Guards.{Says}
use Rattle.refinement.specs.Ties.{Delivered}
use Rattle.refinement.proofs.Handlers.{delivered_by}
use Rattle.run_history.specs.Led.{AllLed, BodyLed, ChangeLed, GoesLed, IsPrepareOf, led_act, led_change}

module _ (own : ℕ) (hand : Delivered) where
  either_so : (led : Bool) (b : Bool) (k l : Course) → GoesLed own hand led k → GoesLed own hand led l → GoesLed own hand led (if b then k else l)
  either_so led true k l h i = h
  either_so led false k l h i = i

  then_so : (led : Bool) (c : Cluster) (me : ℕ) (x : UpNode) (k : Course) (next : UpNode → Course) → GoesLed own hand led k → ((flag : Bool) (y : UpNode) → GoesLed own hand flag (next y)) → GoesLed own hand led (joined c me x k next)
  then_so led c me x Stops next h i = i led x
  then_so led c me x (Acts a rest) next h i = (h.0, then_so (led_act led a) c me (acted c me x a) rest next h.1 i)
  then_so led c me x (Keeps change rest) next h i = (h.0, then_so (led_change led change) c me (changed c me x change) rest next h.1 i)
  then_so led c me x (Falls why) next h i = tt

  -- what an attempt sends
  sent_led : (b : Body) → BodyLed own hand true b
  sent_led (body.Start p) = inl refl
  sent_led (body.Prepared e v) = inl refl
  sent_led (body.Heartbeat promised session is_one) = tt
  sent_led (body.Collect e members) = tt
  sent_led (body.Promise e newest members valid flagged committed pending) = tt
  sent_led (body.Nack e promised) = tt
  sent_led (body.SeizeQuorum e members d) = tt
  sent_led (body.SeizeData e members d) = tt
  sent_led (body.Seized e d ended) = tt
  sent_led (body.Install i) = tt
  sent_led (body.Ready e joined_devices report) = tt
  sent_led (body.Prepare e place text) = tt
  sent_led (body.Commit e place) = tt
  sent_led (body.Order o) = tt
  sent_led (body.Done e number ended) = tt
  sent_led (body.Request e number text) = tt
  sent_led (body.Answer e number text) = tt
  sent_led (body.Excluded e newest) = tt

  -- the Prepare that is delivered
  prepare_of : (from : ℕ) (m : Message) (e place : ℕ) (text : List ℕ) → hand ≡ Some (from, m) → m.body ≡ body.Prepare e place text → Says (IsPrepareOf e place) hand
  prepare_of from m e place text told is = subst (λ t. Says (IsPrepareOf e place) t) (sym told) (subst (λ b. IsPrepareOf e place b) (sym is) (refl, refl))

  leads_of : (me : ℕ) (x : UpNode) (from session : ℕ) (member : Bool) → awaits_start me x from session member ≡ true → session_of x % 64 ≡ me
  leads_of me x from session member h = same_number (session_of x % 64) me (and_cases _ _ (and_cases _ _ (and_cases _ _ (and_cases _ _ h).0).0).0).1

  change_stays : (change : Change) → led_change true change ≡ true
  change_stays (Promises p) = refl
  change_stays (Leads p members) = refl
  change_stays (Counts a k s i) = refl
  change_stays (Installs s i) = refl
  change_stays (Starts a k s) = refl
  change_stays (Sits s e) = refl
  change_stays (Distrusts d) = refl
  change_stays (Admits on command a d) = refl
  change_stays (Proposes s p text) = refl
  change_stays (Acks s p q left text) = refl
  change_stays (Prepares s text) = refl
  change_stays (Commits s) = refl

  act_stays : (a : Act) → led_act true a ≡ true
  act_stays (Hears from b) = refl
  act_stays Ticks = refl
  act_stays Waits = refl
  act_stays (Goes_on a k) = refl
  act_stays (Ends a e) = refl
  act_stays (Queues a d kind) = refl
  act_stays (Accepts kind e members d) = refl
  act_stays (Takes on command a) = refl
  act_stays (Stores d value a) = refl
  act_stays (Writes to b) = refl
  act_stays (Gives os) = refl
  act_stays (Spreads receivers b) = refl
  act_stays (Minds q p) = refl
  act_stays (Notes from place p) = refl
  act_stays (Dates now) = refl
  act_stays (Works w) = refl
  act_stays (Makes change) = change_stays change

  -- led, and so led on
  then_true : (c : Cluster) (me : ℕ) (x : UpNode) (k : Course) (next : UpNode → Course) → GoesLed own hand true k → ((y : UpNode) → GoesLed own hand true (next y)) → GoesLed own hand true (joined c me x k next)
  then_true c me x Stops next h i = i x
  then_true c me x (Acts a rest) next h i = (
    h.0,
    subst (λ f. GoesLed own hand f (joined c me (acted c me x a) rest next)) (sym (act_stays a))
        (then_true c me (acted c me x a) rest next (subst (λ f. GoesLed own hand f rest) (act_stays a) h.1) i),
  )
  then_true c me x (Keeps change rest) next h i = (
    h.0,
    subst (λ f. GoesLed own hand f (joined c me (changed c me x change) rest next)) (sym (change_stays change))
        (then_true c me (changed c me x change) rest next (subst (λ f. GoesLed own hand f rest) (change_stays change) h.1) i),
  )
  then_true c me x (Falls why) next h i = tt

  -- Each course.

  decided_so : (led : Bool) (me : ℕ) (x : UpNode) (p : Presidency) (t : decisions.Turn) → GoesLed own hand led (cuts.decided_course me x p t)
  decided_so led me x p t = (tt, (tt, tt))

  deciding_by_so : (led : Bool) (c : Cluster) (me : ℕ) (x : UpNode) (o : Option Presidency) → GoesLed own hand led (cuts.deciding_by_course c me x o)
  deciding_by_so led c me x None = tt
  deciding_by_so led c me x (Some p) = either_so led (may_order p.groups) _ _ (decided_so led me x p (decisions.decision (in_force c x) x.second (is_held_up p) p.groups)) tt

  deciding_so : (led : Bool) (c : Cluster) (me : ℕ) (x : UpNode) → GoesLed own hand led (cuts.deciding_course c me x)
  deciding_so led c me x = deciding_by_so led c me x x.presidency

  excluded_so : (led : Bool) (me e newest : ℕ) (o : Option ℕ) → GoesLed own hand led (cuts.excluded_course me e newest o)
  excluded_so led me e newest None = tt
  excluded_so led me e newest (Some m) = either_so led (m == me) _ _ tt (tt, tt)

  ended_so : (led : Bool) (me : ℕ) (e : AttemptEnd) (o : Option AttemptState) → GoesLed own hand led (cuts.ended_course me e o)
  ended_so led me e None = tt
  ended_so led me e (Some a) = (tt, excluded_so led me a.plan.epoch (unwrap_or (newest_installed a) 0) (left_out_by e))

  queued_so : (led : Bool) (d : ℕ) (kind : SeizeKind) (o : Option AttemptState) → GoesLed own hand led (cuts.queued_course d kind o)
  queued_so led d kind None = tt
  queued_so led d kind (Some a) = (tt, tt)

  step_so : (me : ℕ) (x : UpNode) (s : Step) → GoesLed own hand true (cuts.step_course me x s)
  step_so me x (step.Send to m) = (sent_led m.body, tt)
  step_so me x (step.SeizeHere d kind) = queued_so true d kind x.attempt
  step_so me x (step.NeedVotes n) = tt
  step_so me x (step.InstallHere i) = tt
  step_so me x step.StartHere = tt
  step_so me x (step.Ended e) = ended_so true me e x.attempt

  steps_so : (c : Cluster) (me : ℕ) (x : UpNode) (steps : List Step) → GoesLed own hand true (cuts.steps_course c me x steps)
  steps_so c me x [] = tt
  steps_so c me x (s ∷ steps) = then_true c me x _ _ (step_so me x s) (λ y. steps_so c me y steps)

  kept_if_so : (led : Bool) (keeps : Bool) (change : Change) (rest : Course) → ChangeLed led change → GoesLed own hand (led_change led change) rest → GoesLed own hand led (cuts.kept_if keeps change rest)
  kept_if_so led true change rest h k = (h, k)
  kept_if_so led false change rest h k = (h, k)

  gone_on_so : (led : Bool) (c : Cluster) (me : ℕ) (x : UpNode) (a : AttemptState) (k : Call) (steps : List Step) → GoesLed own hand led (cuts.gone_on c me x a k steps)
  gone_on_so led c me x a k steps = (tt, steps_so c me (going x a k) steps)

  counted_so : (led : Bool) (c : Cluster) (me : ℕ) (x : UpNode) (a : AttemptState) (k : Call) (i : Install) (rest : List Step) (seat : Seat) → GoesLed own hand led (cuts.counted c me x a k i rest seat)
  counted_so led c me x a k i rest (Member s) = gone_on_so led c me x a k rest
  counted_so led c me x a k i rest (Forming s) = either_so led (installs_now s i) _ _ (tt, steps_so c me (changed c me x (Counts a k s i)) rest) (gone_on_so led c me x a k rest)

  started_so : (led : Bool) (c : Cluster) (me : ℕ) (x : UpNode) (a : AttemptState) (k : Call) (rest : List Step) (seat : Seat) → GoesLed own hand led (cuts.started c me x a k rest seat)
  started_so led c me x a k rest (Member s) = gone_on_so led c me x a k rest
  started_so led c me x a k rest (Forming s) = either_so led (starts_now s (turn a k).after.plan.epoch) _ _ (kept_if_so led (is_some s.saved.entries.pending) (Starts a k s) (cuts.steps_course c me (changed c me x (Starts a k s)) rest) tt (steps_so c me (changed c me x (Starts a k s)) rest)) (gone_on_so led c me x a k rest)

  turned_by_so : (led : Bool) (c : Cluster) (me : ℕ) (x : UpNode) (a : AttemptState) (k : Call) (steps : List Step) → GoesLed own hand led (cuts.turned_by c me x a k steps)
  turned_by_so led c me x a k [] = gone_on_so led c me x a k []
  turned_by_so led c me x a k (step.InstallHere i ∷ rest) = counted_so led c me x a k i rest x.seat
  turned_by_so led c me x a k (step.StartHere ∷ rest) = started_so led c me x a k rest x.seat
  turned_by_so led c me x a k (step.Send to m ∷ rest) = gone_on_so led c me x a k (step.Send to m ∷ rest)
  turned_by_so led c me x a k (step.SeizeHere d kind ∷ rest) = gone_on_so led c me x a k (step.SeizeHere d kind ∷ rest)
  turned_by_so led c me x a k (step.NeedVotes n ∷ rest) = gone_on_so led c me x a k (step.NeedVotes n ∷ rest)
  turned_by_so led c me x a k (step.Ended e ∷ rest) = gone_on_so led c me x a k (step.Ended e ∷ rest)

  turned_so : (led : Bool) (c : Cluster) (me : ℕ) (x : UpNode) (a : AttemptState) (k : Call) → GoesLed own hand led (cuts.turned c me x a k)
  turned_so led c me x a k = turned_by_so led c me x a k (turn a k).steps

  if_started_so : (led : Bool) (c : Cluster) (me : ℕ) (steps : List Step) (y : UpNode) → GoesLed own hand led (cuts.if_started c me steps y)
  if_started_so led c me steps y = either_so led (starts_in steps) _ _ (deciding_so led c me y) tt

  turned_all_so : (led : Bool) (c : Cluster) (me : ℕ) (x : UpNode) (a : AttemptState) (k : Call) → GoesLed own hand led (cuts.turned_all c me x a k)
  turned_all_so led c me x a k = then_so led c me x _ _ (turned_so led c me x a k) (λ flag z. if_started_so flag c me (turn a k).steps z)

  readied_so : (led : Bool) (c : Cluster) (me : ℕ) (x : UpNode) (o : Option AttemptState) → GoesLed own hand led (cuts.readied_course c me x o)
  readied_so led c me x None = tt
  readied_so led c me x (Some a) = turned_all_so led c me x a Own_ready

  own_ready_so : (led : Bool) (c : Cluster) (me : ℕ) (x : UpNode) → GoesLed own hand led (cuts.own_ready_course c me x)
  own_ready_so led c me x = either_so led (joins x.tasks) _ _ tt (readied_so led c me x x.attempt)

  if_installed_so : (led : Bool) (c : Cluster) (me : ℕ) (steps : List Step) (y : UpNode) → GoesLed own hand led (cuts.if_installed c me steps y)
  if_installed_so led c me steps y = either_so led (begins_install steps) _ _ (own_ready_so led c me y) tt

  called_so : (led : Bool) (c : Cluster) (me : ℕ) (x : UpNode) (a : AttemptState) (k : Call) → GoesLed own hand led (cuts.called c me x a k)
  called_so led c me x a k = then_so led c me x _ _ (turned_all_so led c me x a k) (λ flag z. if_installed_so flag c me (turn a k).steps z)

  going_so : (led : Bool) (c : Cluster) (me : ℕ) (x : UpNode) (a : AttemptState) (k : Call) → GoesLed own hand led (cuts.going_course c me x a k)
  going_so led c me x a k = either_so led (is_choosing (turn a k).after.phase) _ _ (tt, called_so true c me (going x a k) (turn a k).after (With_votes (votes_in c (turn a k).after))) (called_so led c me x a k)

  begun_so : (c : Cluster) (me : ℕ) (x : UpNode) (t : Turn) → GoesLed own hand true (cuts.begun_course c me x t)
  begun_so c me x t = either_so true (is_choosing t.after.phase) _ _ (called_so true c me x t.after (With_votes (votes_in c t.after))) (steps_so c me x t.steps)

  leading_so : (led : Bool) (c : Cluster) (me : ℕ) (x : UpNode) (p members : ℕ) → GoesLed own hand led (cuts.leading_course c me x p members)
  leading_so led c me x p members = either_so led (nat_lt (promised_of x) p) _ _ (tt, begun_so c me (changed c me x (Leads p members)) (first_turn c me x p members)) tt

  forming_so : (led : Bool) (c : Cluster) (me : ℕ) (x : UpNode) (o : Option ℕ) → GoesLed own hand led (cuts.forming_course c me x o)
  forming_so led c me x None = tt
  forming_so led c me x (Some members) = leading_so led c me x (next_epoch me x) members

  ticked_so : (led : Bool) (c : Cluster) (me : ℕ) (x : UpNode) (o : Option AttemptState) → GoesLed own hand led (cuts.ticked_course c me x o)
  ticked_so led c me x (Some a) = going_so led c me x a Call_tick
  ticked_so led c me x None = either_so led (nat_le 1 x.beats.wait) _ _ (tt, tt) (tt, forming_so led c me (waiting_less x) (members_to_form c me (waiting_less x)))

  heartbeat_so : (led : Bool) (me : ℕ) (x : UpNode) (from session : ℕ) (member : Bool) → me ≡ own → GoesLed own hand led (cuts.heartbeat_course me x from session member)
  heartbeat_so led me x from session member at =
      if_with (λ k. GoesLed own hand led k) (awaits_start me x from session member) (awaits_start me x from session member) _ Stops refl (λ is. (inr (leads_of me x from session member is ∙ at), tt)) (λ is. tt)

  collect_so : (x : UpNode) (from p : ℕ) → GoesLed own hand false (cuts.collect_course x from p)
  collect_so x from p = either_so false (nat_lt (promised_of x) p) _ _ (refl, (tt, tt)) (either_so false (is_in x p) _ _ (tt, tt) (tt, tt))

  request_so : (led : Bool) (x : UpNode) (from : ℕ) (kind : SeizeKind) (e members d : ℕ) (o : Option SeizeResult) → GoesLed own hand led (cuts.request_course x from kind e members d o)
  request_so led x from kind e members d (Some result) = (tt, tt)
  request_so led x from kind e members d None = either_so led (installed_of x == e) _ _ (tt, tt) (tt, tt)

  seizing_so : (led : Bool) (x : UpNode) (from : ℕ) (kind : SeizeKind) (e members d : ℕ) → GoesLed own hand led (cuts.seizing_course x from kind e members d)
  seizing_so led x from kind e members d = either_so led (is_in x e) _ _ (request_so led x from kind e members d (kept_of x.tasks d)) tt

  readying_so : (led : Bool) (c : Cluster) (x : UpNode) (to : ℕ) → GoesLed own hand led (cuts.readying_course c x to)
  readying_so led c x to = either_so led (joins x.tasks) _ _ tt (tt, tt)

  installed_so : (led : Bool) (c : Cluster) (me : ℕ) (x : UpNode) (from : ℕ) (i : Install) (seat : Seat) → GoesLed own hand led (cuts.installed_course c me x from i seat)
  installed_so led c me x from i (Member s) = readying_so led c x from
  installed_so led c me x from i (Forming s) = either_so led (s.saved.installed == i.epoch) _ _ (readying_so led c x from) (tt, readying_so led c (changed c me x (Installs s i)) from)

  install_so : (led : Bool) (c : Cluster) (me : ℕ) (x : UpNode) (from : ℕ) (i : Install) → GoesLed own hand led (cuts.install_course c me x from i)
  install_so led c me x from i = either_so led (is_in x i.epoch) _ _ (installed_so led c me x from i x.seat) (tt, tt)

  start_so : (led : Bool) (e : ℕ) (seat : Seat) → GoesLed own hand led (cuts.start_course e seat)
  start_so led e (Member s) = tt
  start_so led e (Forming s) = either_so led (starts_now s e) _ _ (kept_if_so led (is_some s.saved.entries.pending) (Sits s e) Stops tt tt) tt

  notice_so : (led : Bool) (x : UpNode) (e newest : ℕ) → GoesLed own hand led (cuts.notice_course x e newest)
  notice_so led x e newest = either_so led (is_in x e) _ _ tt tt

  answering_so : (led : Bool) (c : Cluster) (me : ℕ) (x : UpNode) (p : Presidency) (a : Arrived) (told : Answer) → GoesLed own hand led (cuts.answering_course c me x p a told)
  answering_so led c me x p a told = (tt, (tt, deciding_so led c me (left_answered me x p a told)))

  acknowledged_so : (led : Bool) (c : Cluster) (me : ℕ) (x : UpNode) (p : Presidency) (a : Arrived) (text : List ℕ) → (record_of x).entries.pending ≡ Some text → GoesLed own hand led (cuts.acknowledged_course c me x p a text)
  acknowledged_so led c me x p a text is = (tt, (tt, (tt, deciding_so led c me (changed c me x (acks_of c me x p a text)))))

  acknowledging_text_so : (led : Bool) (c : Cluster) (me : ℕ) (x : UpNode) (p : Presidency) (o : Option Arrived) (text : Option (List ℕ)) → (record_of x).entries.pending ≡ text → GoesLed own hand led (cuts.acknowledging_text_course c me x p o text)
  acknowledging_text_so led c me x p (Some a) (Some text) is = acknowledged_so led c me x p a text is
  acknowledging_text_so led c me x p None text is = tt
  acknowledging_text_so led c me x p (Some a) None is = tt

  acknowledging_by_so : (led : Bool) (c : Cluster) (me : ℕ) (x : UpNode) (o : Option Presidency) → GoesLed own hand led (cuts.acknowledging_by_course c me x o)
  acknowledging_by_so led c me x None = tt
  acknowledging_by_so led c me x (Some p) = acknowledging_text_so led c me x p (first_in p.proposals.arrived) (record_of x).entries.pending refl

  acknowledging_so : (led : Bool) (c : Cluster) (me : ℕ) (x : UpNode) → GoesLed own hand led (cuts.acknowledging_course c me x)
  acknowledging_so led c me x = acknowledging_by_so led c me x x.presidency

  proposing_so : (led : Bool) (c : Cluster) (me : ℕ) (x : UpNode) (p : Presidency) (text : List ℕ) → GoesLed own hand led (cuts.proposing_course c me x p text)
  proposing_so led c me x p text = (tt, (tt, either_so led (others_of me x == 0) _ _ (acknowledging_so led c me (proposed_by c me x p text)) tt))

  acting_so : (led : Bool) (c : Cluster) (me : ℕ) (x : UpNode) (p : Presidency) (a : Arrived) (ask : Ask) → GoesLed own hand led (cuts.acting_course c me x p a ask)
  acting_so led c me x p a ask = either_so led (may_order p.groups) _ _ (tt, answering_so led c me x (with_act c me x p a ask) a answer.Ok) tt

  taken_as_so : (led : Bool) (c : Cluster) (me : ℕ) (x : UpNode) (p : Presidency) (a : Arrived) (r : Result Accepted CheckError) → GoesLed own hand led (cuts.taken_as_course c me x p a r)
  taken_as_so led c me x p a (Ok (accepted.Change u)) = proposing_so led c me x p (words_of u)
  taken_as_so led c me x p a (Ok (accepted.Act ask)) = acting_so led c me x p a ask
  taken_as_so led c me x p a (Ok (accepted.Query q)) = answering_so led c me x p a answer.Ok
  taken_as_so led c me x p a (Err (because.Refused r)) = answering_so led c me x p a (answer.Refused r)
  taken_as_so led c me x p a (Err because.NoMemory) = tt

  taken_so : (led : Bool) (c : Cluster) (me : ℕ) (x : UpNode) (p : Presidency) (a : Arrived) (r : Result wanted.Request WordError) → GoesLed own hand led (cuts.taken_course c me x p a r)
  taken_so led c me x p a (Ok (asked.Change u)) = either_so led (is_busy p.groups) _ _ tt (taken_as_so led c me x p a (checked c x p (wish.Change u)))
  taken_so led c me x p a (Ok (asked.Act ask)) = either_so led (is_busy p.groups && is_clear ask) _ _ tt (taken_as_so led c me x p a (checked c x p (wish.Act ask)))
  taken_so led c me x p a (Err e) = answering_so led c me x p a (word_answer e)

  turn_of_so : (led : Bool) (c : Cluster) (me : ℕ) (x : UpNode) (p : Presidency) (o : Option Proposed) (first : Option Arrived) → GoesLed own hand led (cuts.turn_of_course c me x p o first)
  turn_of_so led c me x p None (Some a) = taken_so led c me x p a (request_of (version_of c) a.text)
  turn_of_so led c me x p None None = tt
  turn_of_so led c me x p (Some proposed) first = tt

  turn_by_so : (led : Bool) (c : Cluster) (me : ℕ) (x : UpNode) (o : Option Presidency) → GoesLed own hand led (cuts.turn_by_course c me x o)
  turn_by_so led c me x None = tt
  turn_by_so led c me x (Some p) = turn_of_so led c me x p p.proposals.proposed (first_in p.proposals.arrived)

  one_turn_so : (led : Bool) (c : Cluster) (me : ℕ) (x : UpNode) → GoesLed own hand led (cuts.one_turn_course c me x)
  one_turn_so led c me x = turn_by_so led c me x x.presidency

  turns_so : (led : Bool) (c : Cluster) (me : ℕ) (x : UpNode) (k : ℕ) → GoesLed own hand led (cuts.turns_course c me x k)
  turns_so led c me x zero = tt
  turns_so led c me x (suc k) = then_so led c me x _ _ (turns_so led c me x k) (λ flag z. one_turn_so flag c me z)

  handling_so : (led : Bool) (c : Cluster) (me : ℕ) (x : UpNode) → GoesLed own hand led (cuts.handling_course c me x)
  handling_so led c me x = turns_so led c me x (requests_of x x.presidency)

  kept_again_so : (led : Bool) (x : UpNode) (from : ℕ) (o : Option Kept) → GoesLed own hand led (cuts.kept_again_course x from o)
  kept_again_so led x from None = tt
  kept_again_so led x from (Some k) = (tt, tt)

  arrived_so : (led : Bool) (c : Cluster) (me : ℕ) (x : UpNode) (p : Presidency) (a : Arrived) (how : Arrival) → GoesLed own hand led (cuts.arrived_course c me x p a how)
  arrived_so led c me x p a New = let s : State = with_arrival p.proposals a New in (tt, handling_so led c me (with_proposals x p s))
  arrived_so led c me x p a Waits_already = tt
  arrived_so led c me x p a Answered_last = kept_again_so led x a.from (kept_at p.proposals.answers a.from)
  arrived_so led c me x p a Past = tt

  arriving_so : (led : Bool) (c : Cluster) (me : ℕ) (x : UpNode) (p : Presidency) (a : Arrived) → GoesLed own hand led (cuts.arriving_course c me x p a)
  arriving_so led c me x p a = arrived_so led c me x p a (arrival_of p.proposals a.from a.number)

  requested_so : (led : Bool) (c : Cluster) (me : ℕ) (x : UpNode) (from number : ℕ) (text : List ℕ) (o : Option Presidency) → GoesLed own hand led (cuts.requested_course c me x from number text o)
  requested_so led c me x from number text None = tt
  requested_so led c me x from number text (Some p) = arriving_so led c me x p (record { from = from; number = number; text = text })

  asked_so : (led : Bool) (c : Cluster) (me : ℕ) (x : UpNode) (from e number : ℕ) (text : List ℕ) → GoesLed own hand led (cuts.asked_course c me x from e number text)
  asked_so led c me x from e number text = either_so led (is_of_member x from e) _ _ (requested_so led c me x from number text x.presidency) tt

  request_to_so : (led : Bool) (x : UpNode) (r : Request) (o : Option ℕ) → GoesLed own hand led (cuts.request_to_course x r o)
  request_to_so led x r None = tt
  request_to_so led x r (Some president) = (tt, tt)

  asking_of_so : (led : Bool) (c : Cluster) (me : ℕ) (x : UpNode) (r : Request) (o : Option Presidency) → GoesLed own hand led (cuts.asking_of_course c me x r o)
  asking_of_so led c me x r None = request_to_so led x r (coordinator_of x)
  asking_of_so led c me x r (Some p) = arriving_so led c me x p (own_arrival me r)

  asking_for_so : (led : Bool) (c : Cluster) (me : ℕ) (x : UpNode) (o : Option Request) → GoesLed own hand led (cuts.asking_for_course c me x o)
  asking_for_so led c me x None = tt
  asking_for_so led c me x (Some r) = asking_of_so led c me x r x.presidency

  asking_so : (led : Bool) (c : Cluster) (me : ℕ) (x : UpNode) → GoesLed own hand led (cuts.asking_course c me x)
  asking_so led c me x = asking_for_so led c me x (oldest x.requests)

  replying_so : (led : Bool) (me number : ℕ) (told : Answer) → GoesLed own hand led (cuts.replying_course me number told)
  replying_so led me number told = (tt, tt)

  asking_if_so : (led : Bool) (alone : Bool) (c : Cluster) (me : ℕ) (x : UpNode) → GoesLed own hand led (cuts.asking_if_course alone c me x)
  asking_if_so led alone c me x = either_so led alone _ _ (asking_so led c me x) tt

  waiting_so : (led : Bool) (c : Cluster) (me : ℕ) (x : UpNode) (number : ℕ) (text : List ℕ) → GoesLed own hand led (cuts.waiting_course c me x number text)
  waiting_so led c me x number text = either_so led (is_full x.requests) _ _ (replying_so led me number answer.QueueFull) (tt, asking_if_so led (is_idle x.requests.waiting) c me (waiting_with x number text))

  elsewhere_so : (led : Bool) (me number : ℕ) (o : Option ℕ) → GoesLed own hand led (cuts.elsewhere_course me number o)
  elsewhere_so led me number None = tt
  elsewhere_so led me number (Some president) = replying_so led me number (answer.Ask president)

  telling_so : (led : Bool) (me number : ℕ) (lines : List StatusEntry) → GoesLed own hand led (cuts.telling_course me number lines)
  telling_so led me number lines = (tt, replying_so led me number answer.Ok)

  query_so : (led : Bool) (me : ℕ) (x : UpNode) (p : Presidency) (number : ℕ) (s : ConfigState) (r : Result Accepted CheckError) → GoesLed own hand led (cuts.query_course me x p number s r)
  query_so led me x p number s (Ok (accepted.Query q)) = telling_so led me number (query_lines x p s q)
  query_so led me x p number s (Ok (accepted.Change u)) = tt
  query_so led me x p number s (Ok (accepted.Act ask)) = tt
  query_so led me x p number s (Err (because.Refused r)) = replying_so led me number (answer.Refused r)
  query_so led me x p number s (Err because.NoMemory) = tt

  queried_so : (led : Bool) (c : Cluster) (me : ℕ) (x : UpNode) (number : ℕ) (question : AdminCommand) (o : Option Presidency) → GoesLed own hand led (cuts.queried_course c me x number question o)
  queried_so led c me x number question None = elsewhere_so led me number (coordinator_of x)
  queried_so led c me x number question (Some p) = either_so led (is_full x.requests) _ _ (replying_so led me number answer.QueueFull) (query_so led me x p number (in_force c x) (checked c x p question))

  commanded_so : (led : Bool) (c : Cluster) (me : ℕ) (x : UpNode) (number : ℕ) (o : AdminCommand) → GoesLed own hand led (cuts.commanded_course c me x number o)
  commanded_so led c me x number (wish.Change u) = waiting_so led c me x number (words_of u)
  commanded_so led c me x number (wish.Act a) = waiting_so led c me x number (ask_words_of a)
  commanded_so led c me x number (wish.Status q) = queried_so led c me x number (wish.Status q) x.presidency
  commanded_so led c me x number (wish.Rows table) = queried_so led c me x number (wish.Rows table) x.presidency

  worded_so : (led : Bool) (c : Cluster) (me : ℕ) (x : UpNode) (number : ℕ) (r : Result AdminCommand WordError) → GoesLed own hand led (cuts.worded_course c me x number r)
  worded_so led c me x number (Err e) = replying_so led me number (word_answer e)
  worded_so led c me x number (Ok command) = either_so led (is_member x.seat) _ _ (commanded_so led c me x number command) (replying_so led me number answer.NotMember)

  command_so : (led : Bool) (c : Cluster) (me : ℕ) (x : UpNode) (words : List ℕ) → GoesLed own hand led (cuts.command_course c me x words)
  command_so led c me x words = (tt, (tt, worded_so led c me (numbered x) (next_number x.requests) (command_of (version_of c) words)))

  replied_to_so : (led : Bool) (c : Cluster) (me : ℕ) (x : UpNode) (number : ℕ) (told : Answer) (o : Option Request) → GoesLed own hand led (cuts.replied_to_course c me x number told o)
  replied_to_so led c me x number told None = tt
  replied_to_so led c me x number told (Some r) = (tt, (tt, asking_so led c me (record x { requests = queue.answered x.requests number })))

  replied_so : (led : Bool) (c : Cluster) (me : ℕ) (x : UpNode) (number : ℕ) (o : Option Answer) → GoesLed own hand led (cuts.replied_course c me x number o)
  replied_so led c me x number None = tt
  replied_so led c me x number (Some told) = replied_to_so led c me x number told (found x.requests.waiting number)

  reply_so : (led : Bool) (c : Cluster) (me : ℕ) (x : UpNode) (e number : ℕ) (told : Option Answer) → GoesLed own hand led (cuts.reply_course c me x e number told)
  reply_so led c me x e number told = either_so led (is_member x.seat && is_in x e) _ _ (replied_so led c me x number told) tt

  preparing_so : (led : Bool) (from e place : ℕ) (s : NodeState) (text : List ℕ) (o : Prepared) → Says (IsPrepareOf e place) hand → GoesLed own hand led (cuts.preparing_course from e place s text o)
  preparing_so led from e place s text Taken h = (tt, (inr h, tt))
  preparing_so led from e place s text Already h = (inr h, tt)
  preparing_so led from e place s text (Gap k) h = tt

  prepare_so : (led : Bool) (x : UpNode) (from e place : ℕ) (text : List ℕ) (seat : Seat) → Says (IsPrepareOf e place) hand → GoesLed own hand led (cuts.prepare_course x from e place text seat)
  prepare_so led x from e place text (Forming s) h = tt
  prepare_so led x from e place text (Member s) h = either_so led (is_in x e) _ _ (preparing_so led from e place s text (answer_for (length (texts_of s.saved.entries)) place) h) tt

  prepared_all_so : (led : Bool) (c : Cluster) (me : ℕ) (x : UpNode) (p : Presidency) → GoesLed own hand led (cuts.prepared_all_course c me x p)
  prepared_all_so led c me x p = either_so led (is_prepared p.proposals) _ _ (then_so led c me x _ _ (acknowledging_so led c me x) (λ flag z. handling_so flag c me z)) tt

  prepared_at_so : (led : Bool) (c : Cluster) (me : ℕ) (x : UpNode) (from place : ℕ) (o : Option Presidency) → GoesLed own hand led (cuts.prepared_at_course c me x from place o)
  prepared_at_so led c me x from place None = tt
  prepared_at_so led c me x from place (Some p) = let s : State = prepared_by p.proposals from place in (tt, prepared_all_so led c me (with_proposals x p s) (record p { proposals = s }))

  prepared_so : (led : Bool) (c : Cluster) (me : ℕ) (x : UpNode) (from e place : ℕ) → GoesLed own hand led (cuts.prepared_course c me x from e place)
  prepared_so led c me x from e place = either_so led (is_of_member x from e) _ _ (prepared_at_so led c me x from place x.presidency) tt

  commit_so : (led : Bool) (x : UpNode) (e place : ℕ) (seat : Seat) → GoesLed own hand led (cuts.commit_course x e place seat)
  commit_so led x e place (Forming s) = tt
  commit_so led x e place (Member s) = either_so led (is_in x e && commits_now s place) _ _ (tt, tt) tt

  done_at_so : (led : Bool) (c : Cluster) (me : ℕ) (x : UpNode) (from number : ℕ) (outcome : Outcome) (o : Option Presidency) → GoesLed own hand led (cuts.done_at_course c me x from number outcome o)
  done_at_so led c me x from number outcome None = tt
  done_at_so led c me x from number outcome (Some p) = either_so led (order.is_due p.groups.view from number) _ _ (tt, then_so led c me (record x { presidency = Some (with_ended c x p from number outcome) }) _ _ (deciding_so led c me (record x { presidency = Some (with_ended c x p from number outcome) })) (λ flag z. handling_so flag c me z)) tt

  done_so : (led : Bool) (c : Cluster) (me : ℕ) (x : UpNode) (from e number : ℕ) (outcome : Outcome) → GoesLed own hand led (cuts.done_course c me x from e number outcome)
  done_so led c me x from e number outcome = either_so led (is_of_member x from e) _ _ (done_at_so led c me x from number outcome x.presidency) tt

  carrying_so : (led : Bool) (c : Cluster) (me : ℕ) (x : UpNode) (o : Order) (how : Carried) → GoesLed own hand led (cuts.carrying_course c me x o how)
  carrying_so led c me x o how = (tt, either_so led (is_last c x o how) _ _ tt (tt, tt))

  order_answered_so : (led : Bool) (from : ℕ) (o : Order) (how : Carried) (x : UpNode) → GoesLed own hand led (cuts.order_answered_course from o how x)
  order_answered_so led from o carried.Old x = tt
  order_answered_so led from o (carried.Called outcome) x = (tt, tt)
  order_answered_so led from o carried.Cleared x = (tt, tt)
  order_answered_so led from o (carried.Kept outcome) x = (tt, tt)

  obeying_so : (led : Bool) (c : Cluster) (me : ℕ) (x : UpNode) (from : ℕ) (o : Order) (how : Carried) → GoesLed own hand led (cuts.obeying_course c me x from o how)
  obeying_so led c me x from o how = then_so led c me x (cuts.carrying_course c me x o how) _ (carrying_so led c me x o how) (λ flag z. order_answered_so flag from o how z)

  order_so : (led : Bool) (c : Cluster) (me : ℕ) (outcome : Outcome) (x : UpNode) (from : ℕ) (o : Order) → GoesLed own hand led (cuts.order_course c me outcome x from o)
  order_so led c me outcome x from o = either_so led (is_member x.seat && is_in x o.epoch) _ _ (obeying_so led c me x from o (answer_to x.worker o outcome)) tt

  own_done_so : (led : Bool) (c : Cluster) (me : ℕ) (o : Order) (how : Carried) (x : UpNode) → GoesLed own hand led (cuts.own_done_course c me o how x)
  own_done_so led c me o how x = done_at_so led c me x me o.number (outcome_in how) x.presidency

  own_turn_so : (led : Bool) (c : Cluster) (me : ℕ) (outcome : Outcome) (x : UpNode) (o : Option Order) → GoesLed own hand led (cuts.own_turn_course c me outcome x o)
  own_turn_so led c me outcome x None = tt
  own_turn_so led c me outcome x (Some o) = then_so led c me x (cuts.carrying_course c me x o (answer_to x.worker o outcome)) _ (carrying_so led c me x o (answer_to x.worker o outcome)) (λ flag z. own_done_so flag c me o (answer_to x.worker o outcome) z)

  prepares_so : (led : Bool) (x : UpNode) (o : Option Proposed) (text : Option (List ℕ)) (rest : Course) → GoesLed own hand led rest → GoesLed own hand led (cuts.prepares_course x o text rest)
  prepares_so led x (Some p) (Some text) rest h = (tt, h)
  prepares_so led x None text rest h = h
  prepares_so led x (Some p) None rest h = h

  prepares_again_so : (led : Bool) (x : UpNode) (o : Option Presidency) (rest : Course) → GoesLed own hand led rest → GoesLed own hand led (cuts.prepares_again_course x o rest)
  prepares_again_so led x None rest h = h
  prepares_again_so led x (Some p) rest h = either_so led (goes_again p.proposals) _ _ (prepares_so led x p.proposals.proposed (record_of x).entries.pending rest h) h

  going_again_so : (led : Bool) (c : Cluster) (me : ℕ) (before x : UpNode) → GoesLed own hand led (cuts.going_again_course c me before x)
  going_again_so led c me before x = prepares_again_so led before before.presidency (Acts (Gives (orders_again before x)) (cuts.deciding_course c me x)) (tt, deciding_so led c me x)

  governing_so : (led : Bool) (c : Cluster) (me : ℕ) (outcome : Outcome) (before x : UpNode) → GoesLed own hand led (cuts.governing_course c me outcome before x)
  governing_so led c me outcome before x = then_so led c me x _ _ (own_turn_so led c me outcome x (own_order me x)) (λ flag z. going_again_so flag c me before z)

  tick_so : (led : Bool) (c : Cluster) (me : ℕ) (outcome : Outcome) (x : UpNode) → GoesLed own hand led (cuts.tick_course c me outcome x)
  tick_so led c me outcome x = (tt, then_so led c me (later c x) _ _ (governing_so led c me outcome x (later c x)) (λ flag y. ticked_so flag c me y y.attempt))

  asking_this_so : (led : Bool) (c : Cluster) (me : ℕ) (x : UpNode) (o : Option Ask) → GoesLed own hand led (cuts.asking_this_course c me x o)
  asking_this_so led c me x None = tt
  asking_this_so led c me x (Some ask) = either_so led (is_member x.seat && not (is_full x.requests)) _ _ (tt, asking_if_so led (is_idle x.requests.waiting) c me (monitor_asked x ask)) tt

  reporting_so : (led : Bool) (c : Cluster) (me : ℕ) (x : UpNode) (r : List ℕ) (how : Probed) → GoesLed own hand led (cuts.reporting_course c me x r how)
  reporting_so led c me x r probe.NoMonitor = tt
  reporting_so led c me x r probe.Good = (tt, (tt, tt))
  reporting_so led c me x r (probe.Failed a) = (tt, (tt, asking_this_so led c me (reported x c r (probe.Failed a)) (asked_by a r)))

  report_so : (led : Bool) (c : Cluster) (me : ℕ) (x : UpNode) (r : List ℕ) (good : Bool) → GoesLed own hand led (cuts.report_course c me x r good)
  report_so led c me x r good = reporting_so led c me x r (probed x.worker (own_config c x) r good x.second)

  serving_so : (led : Bool) (x : UpNode) (p : Presidency) (name : List ℕ) (client port : ℕ) (o : serving.Outcome) → GoesLed own hand led (cuts.serving_course x p name client port o)
  serving_so led x p name client port o = (tt, (tt, tt))

  serving_at_so : (led : Bool) (s : ConfigState) (x : UpNode) (p : Presidency) (name : List ℕ) (client port : ℕ) (o : Option Address) → GoesLed own hand led (cuts.serving_at_course s x p name client port o)
  serving_at_so led s x p name client port None = tt
  serving_at_so led s x p name client port (Some a) = serving_so led x p name client port (serving.chosen (clients.state_of p.balancer name) (request_for s p a client port))

  serving_by_so : (led : Bool) (c : Cluster) (x : UpNode) (name : List ℕ) (client port : ℕ) (o : Option Presidency) → GoesLed own hand led (cuts.serving_by_course c x name client port o)
  serving_by_so led c x name client port None = tt
  serving_by_so led c x name client port (Some p) = serving_at_so led (in_force c x) x p name client port (named (in_force c x).addresses name)

  client_so : (led : Bool) (c : Cluster) (x : UpNode) (name : List ℕ) (client port : ℕ) → GoesLed own hand led (cuts.client_course c x name client port)
  client_so led c x name client port = serving_by_so led c x name client port x.presidency

  answer_so : (led : Bool) (c : Cluster) (me : ℕ) (x : UpNode) (from : ℕ) (m : Message) (o : Option AttemptState) → GoesLed own hand led (cuts.answer_course c me x from m o)
  answer_so led c me x from m None = tt
  answer_so led c me x from m (Some a) = going_so led c me x a (Take from m)

  body_so : (c : Cluster) (me : ℕ) (outcome : Outcome) (x : UpNode) (from : ℕ) (m : Message) (b : Body) → me ≡ own → hand ≡ Some (from, m) → m.body ≡ b → GoesLed own hand false (cuts.body_course c me outcome x from m b)
  body_so c me outcome x from m (body.Heartbeat promised session member) at told is = heartbeat_so false me x from session member at
  body_so c me outcome x from m (body.Collect e members) at told is = collect_so x from e
  body_so c me outcome x from m (body.Promise e installed members valid flagged committed pending) at told is = answer_so false c me x from m x.attempt
  body_so c me outcome x from m (body.Nack e promised) at told is = answer_so false c me x from m x.attempt
  body_so c me outcome x from m (body.SeizeQuorum e members d) at told is = seizing_so false x from Vote e members d
  body_so c me outcome x from m (body.SeizeData e members d) at told is = seizing_so false x from Plain e members d
  body_so c me outcome x from m (body.Seized e d ended) at told is = answer_so false c me x from m x.attempt
  body_so c me outcome x from m (body.Install i) at told is = install_so false c me x from i
  body_so c me outcome x from m (body.Ready e joined_devices report) at told is = answer_so false c me x from m x.attempt
  body_so c me outcome x from m (body.Start e) at told is = start_so false e x.seat
  body_so c me outcome x from m (body.Excluded e newest) at told is = notice_so false x e newest
  body_so c me outcome x from m (body.Prepare e place text) at told is = prepare_so false x from e place text x.seat (prepare_of from m e place text told is)
  body_so c me outcome x from m (body.Prepared e place) at told is = prepared_so false c me x from e place
  body_so c me outcome x from m (body.Commit e place) at told is = commit_so false x e place x.seat
  body_so c me outcome x from m (body.Request e number text) at told is = asked_so false c me x from e number text
  body_so c me outcome x from m (body.Answer e number text) at told is = reply_so false c me x e number (answer_in text)
  body_so c me outcome x from m (body.Order o) at told is = order_so false c me outcome x from o
  body_so c me outcome x from m (body.Done e number ended) at told is = done_so false c me x from e number ended

  packet_so : (c : Cluster) (me : ℕ) (outcome : Outcome) (x : UpNode) (from : ℕ) (m : Message) → me ≡ own → hand ≡ Some (from, m) → GoesLed own hand false (cuts.packet_course c me outcome x from m)
  packet_so c me outcome x from m at told = either_so false (is_foreign c me x m.body) _ _ tt (tt, body_so c me outcome (hearing x from m.body) from m m.body at told refl)

  distrusting_so : (led : Bool) (x : UpNode) (o : Option ℕ) → GoesLed own hand led (cuts.distrusting_course x o)
  distrusting_so led x None = tt
  distrusting_so led x (Some d) = either_so led (has (record_of x).valid d) _ _ (tt, tt) tt

  own_seized_so : (led : Bool) (c : Cluster) (me : ℕ) (x : UpNode) (d : ℕ) (result : SeizeResult) (o : Option AttemptState) → GoesLed own hand led (cuts.own_seized_course c me x d result o)
  own_seized_so led c me x d result None = tt
  own_seized_so led c me x d result (Some a) = going_so led c me x a (Own_seized d result)

  seized_so : (led : Bool) (c : Cluster) (me : ℕ) (x : UpNode) (d : ℕ) (result : SeizeResult) (o : Option ℕ) → GoesLed own hand led (cuts.seized_course c me x d result o)
  seized_so led c me x d result None = tt
  seized_so led c me x d result (Some coordinator) = either_so led (coordinator == me) _ _ (own_seized_so led c me x d result x.attempt) (tt, tt)

  joined_so : (led : Bool) (c : Cluster) (me : ℕ) (x : UpNode) (o : Option ℕ) → GoesLed own hand led (cuts.joined_course c me x o)
  joined_so led c me x None = tt
  joined_so led c me x (Some coordinator) = either_so led (coordinator == me) _ _ (own_ready_so led c me x) (readying_so led c x coordinator)

  joins_device_so : (led : Bool) (c : Cluster) (me : ℕ) (x : UpNode) (at : ℕ) (command : PrCommand) (a : DeviceAnswer) (d : ℕ) (r : JoinResult) → GoesLed own hand led (cuts.joining_course c me x at command a d r)
  joins_device_so led c me x at command a d join.Joined = (tt, joined_so led c me (joining_so (answered_so x a) d) (coordinator_of (joining_so (answered_so x a) d)))
  joins_device_so led c me x at command a d (join.Late w) = (tt, joined_so led c me (answered_so x a) (coordinator_of (answered_so x a)))
  joins_device_so led c me x at command a d join.Fault = (tt, joined_so led c me (answered_so x a) (coordinator_of (answered_so x a)))

  progress_so : (led : Bool) (c : Cluster) (me : ℕ) (x : UpNode) (at : ℕ) (command : PrCommand) (a : DeviceAnswer) (p : Progress) → GoesLed own hand led (cuts.progress_course c me x at command a p)
  progress_so led c me x at command a GoesOn = (tt, tt)
  progress_so led c me x at command a (Seized d result) = (tt, seized_so led c me (answered_so x a) d result (coordinator_of (answered_so x a)))
  progress_so led c me x at command a (Joined d result) = joins_device_so led c me x at command a d result

  answer_taken_so : (led : Bool) (c : Cluster) (me : ℕ) (x : UpNode) (a : DeviceAnswer) (o : Option ℕ) (command : Option PrCommand) → GoesLed own hand led (cuts.answered_course c me x a o command)
  answer_taken_so led c me x a (Some d) (Some command) = progress_so led c me x d command a (progress_after x.tasks a)
  answer_taken_so led c me x a None command = tt
  answer_taken_so led c me x a (Some d) None = tt

  fenced_so : (led : Bool) (d : ℕ) (a : DeviceAnswer) → GoesLed own hand led (cuts.fenced_course d a)
  fenced_so led d (Ok given.Good) = tt
  fenced_so led d (Ok given.Conflict) = tt
  fenced_so led d (Ok given.InvalidRelease) = tt
  fenced_so led d (Ok given.NoPath) = tt
  fenced_so led d (Ok (given.Keys keys)) = tt
  fenced_so led d (Ok (given.Holder holder)) = tt
  fenced_so led d (Ok (given.Word w)) = tt
  fenced_so led d (Ok (given.Value v)) = tt
  fenced_so led d (Ok (given.Miscompare w)) = tt
  fenced_so led d (Err e) = tt

  course_of_so : (c : Cluster) (me : ℕ) (outcome : Outcome) (x : UpNode) (i : Input) → me ≡ own → hand ≡ delivered_by i → GoesLed own hand false (cuts.course_of c me outcome x i)
  course_of_so c me outcome x Boot at told = tt
  course_of_so c me outcome x Crash at told = tt
  course_of_so c me outcome x Tick at told = tick_so false c me outcome x
  course_of_so c me outcome x (Packet from message) at told = packet_so c me outcome x from message at told
  course_of_so c me outcome x CommandDue at told = distrusting_so false x (begins_plainly x.tasks)
  course_of_so c me outcome x (Answered a) at told = answer_taken_so false c me x a (due_device x.tasks) (next_of x.tasks)
  course_of_so c me outcome x (Wrote d value a) at told = (tt, fenced_so false d a)
  course_of_so c me outcome x (Commanded words) at told = command_so false c me x words
  course_of_so c me outcome x (Reported r good) at told = report_so false c me x r good
  course_of_so c me outcome x (Client name client port) at told = client_so false c x name client port

  pub course_at_so : (c : Cluster) (me now : ℕ) (outcome : Outcome) (x : UpNode) (i : Input) → me ≡ own → hand ≡ delivered_by i → GoesLed own hand false (cuts.course_at c me now outcome x i)
  course_at_so c me now outcome x i at told = (tt, course_of_so c me outcome (at_second now x) i at told)

-- Under all replies of the disk.

under_led : (own : ℕ) (hand : Delivered) (led : Bool) (replies : List Reply) (k : Course) → GoesLed own hand led k → AllLed own hand led (under replies k)
under_led own hand led replies Stops h = tt
under_led own hand led replies (Acts a rest) h = (h.0, under_led own hand (led_act led a) replies rest h.1)
under_led own hand led [] (Keeps change rest) h = (tt, tt)
under_led own hand led (Done ∷ replies) (Keeps change rest) h = (h.0, under_led own hand (led_change led change) replies rest h.1)
under_led own hand led (Lost_new why ∷ replies) (Keeps change rest) h = (tt, tt)
under_led own hand led (Lost_old why ∷ replies) (Keeps change rest) h = (tt, tt)
under_led own hand led replies (Falls why) h = (tt, tt)

boot_led : (own : ℕ) (hand : Delivered) (replies : List Reply) → AllLed own hand false (cuts.boot_doings replies)
boot_led own hand [] = (tt, (tt, tt))
boot_led own hand (Done ∷ replies) = (tt, tt)
boot_led own hand (Lost_new why ∷ replies) = (tt, (tt, tt))
boot_led own hand (Lost_old why ∷ replies) = (tt, (tt, tt))

pub doings_led : (c : Cluster) (me now : ℕ) (ends : Outcome) (replies : List Reply) (i : Input) (node : Node) → AllLed me (delivered_by i) false (cuts.doings c me now ends replies i node)
doings_led c me now ends replies i (Up x) = under_led me (delivered_by i) false replies (cuts.course_at c me now ends x i) (course_at_so me (delivered_by i) c me now ends x i refl refl)
doings_led c me now ends replies Boot Down = boot_led me None replies
doings_led c me now ends replies Crash Down = tt
doings_led c me now ends replies Tick Down = tt
doings_led c me now ends replies (Packet from m) Down = tt
doings_led c me now ends replies CommandDue Down = tt
doings_led c me now ends replies (Answered a) Down = tt
doings_led c me now ends replies (Wrote d value a) Down = tt
doings_led c me now ends replies (Commanded words) Down = tt
doings_led c me now ends replies (Reported r good) Down = tt
doings_led c me now ends replies (Client name client port) Down = tt
