-- Each course of a step sends Requests of the oldest that waits, Answers of a president, and tells answers for a cause.
use Rattle.std.specs.Option.{unwrap_or}
use Rattle.admin_commands.specs.declared.accepted.Accepted.{Accepted}
use Rattle.admin_commands.specs.declared.accepted.Accepted.TheVariants as accepted
use Rattle.admin_commands.specs.declared.error.CheckError.{CheckError}
use Rattle.admin_commands.specs.declared.error.CheckError.TheVariants as because
use Rattle.admin_words.specs.Commands.{request_of}
use Rattle.admin_words.specs.declared.error.WordError.{WordError}
use Rattle.admin_words.specs.declared.request.Request.TheVariants as asked
use Rattle.admin_words.specs.declared.request.Request as wanted
use Rattle.answer_words.specs.Answers.{answer_in}
use Rattle.ccr_commit.specs.Entries.{answer_for, texts_of}
use Rattle.ccr_commit.specs.declared.entries.Prepared.{Prepared}
use Rattle.ccr_commit.specs.declared.entries.Prepared.TheVariants.{Taken, Already, Gap}
use Rattle.ccr_tables.specs.State.{ConfigState}
use Rattle.ccr_tables.specs.declared.command.AdminCommand.{AdminCommand}
use Rattle.ccr_tables.specs.declared.command.AdminCommand.TheVariants as wish
use Rattle.cl_base.specs.Sets.{has}
use Rattle.cl_base.specs.declared.command.Ask.{Ask}
use Rattle.cl_base.specs.declared.method.Outcome.{Outcome}
use Rattle.cl_base.specs.Seizings.{SeizeResult}
use Rattle.cmm_attempt.specs.declared.step.AttemptEnd.{AttemptEnd}
use Rattle.cmm_attempt.specs.declared.step.Step.{Step}
use Rattle.cmm_attempt.specs.declared.step.Step.TheVariants as step
use Rattle.cmm_attempt.specs.Attempts.{AttemptState, Turn, newest_installed}
use Rattle.cmm_attempt.specs.Calls.{Call, Own_ready, Own_seized, Take, Tick as Call_tick, With_votes, starts_in, turn}
use Rattle.cmm_member.specs.Nodes.{NodeState}
use Rattle.device_queue.specs.declared.progress.Progress.{Progress}
use Rattle.device_queue.specs.declared.progress.Progress.TheVariants.{GoesOn, Seized, Joined}
use Rattle.device_queue.specs.Queue.{begins_plainly, due_device, joins, kept_of, next_of, progress_after}
use Rattle.pgr_device.specs.declared.command.PrAnswer.TheVariants as given
use Rattle.pgr_device.specs.declared.command.PrCommand.{PrCommand}
use Rattle.proposals.specs.Arrivals.{arrival_of, with_arrival}
use Rattle.proposals.specs.Proposing.{goes_again, is_prepared, prepared_by}
use Rattle.proposals.specs.State.{State, first_in, kept_at}
use Rattle.proposals.specs.declared.arrived.Arrival.{Arrival}
use Rattle.proposals.specs.declared.arrived.Arrival.TheVariants.{New, Waits as Waits_already, Answered as Answered_last, Past}
use Rattle.proposals.specs.declared.arrived.Arrived.{Arrived}
use Rattle.proposals.specs.declared.arrived.Kept.{Kept}
use Rattle.proposals.specs.declared.arrived.Proposed.{Proposed}
use Rattle.request_queue.specs.Queue as queue
use Rattle.request_queue.specs.Queue.{found, is_full, next_number, oldest}
use Rattle.request_queue.specs.declared.request.Request.{Request}
use Rattle.rgm_member.specs.Orders.{answer_to, outcome_in}
use Rattle.rgm_member.specs.declared.carried.Carried.{Carried}
use Rattle.rgm_member.specs.declared.carried.Carried.TheVariants as carried
use Rattle.rgm_president.specs.Decisions as decisions
use Rattle.rgm_state.specs.Outcomes as order
use Rattle.seize.specs.Answers.{Answer as DeviceAnswer}
use Rattle.seize.specs.declared.kind.JoinResult.{JoinResult}
use Rattle.seize.specs.declared.kind.JoinResult.TheVariants as join
use Rattle.seize.specs.declared.kind.SeizeKind.{SeizeKind}
use Rattle.seize.specs.declared.kind.SeizeKind.TheVariants.{Vote, Plain}
use Rattle.status_report.specs.declared.command_entry.Answer.{Answer}
use Rattle.status_report.specs.declared.command_entry.Answer.TheVariants as answer
use Rattle.status_report.specs.declared.status_entry.StatusEntry.{StatusEntry}
use Rattle.update_words.specs.Words.{ask_words_of, words_of}
use Rattle.wire.specs.declared.message.Body.{Body}
use Rattle.wire.specs.declared.message.Body.TheVariants as body
use Rattle.wire.specs.declared.message.Install.{Install}
use Rattle.wire.specs.declared.message.Message.{Message}
use Rattle.wire.specs.declared.message.Order.{Order}
use Rattle.node_model.specs.Addresses.{request_for}
use Rattle.ccr_tables.specs.declared.address.Address.{Address}
use Rattle.rg_props.specs.Lookups.{named}
use Rattle.shared_address.specs.Choosing as serving
use Rattle.shared_address.specs.History as clients
use Rattle.node_model.specs.declared.cluster.Cluster.{Cluster}
use Rattle.node_model.specs.declared.input.Input.{Input}
use Rattle.node_model.specs.declared.input.Input.TheVariants.{Boot, Crash, Tick, Packet, CommandDue, Answered, Wrote, Commanded, Reported, Client}
use Rattle.node_model.specs.declared.node.UpNode.{UpNode}
use Rattle.node_model.specs.declared.presidency.Presidency.{Presidency}
use Rattle.node_model.specs.declared.seat.Seat.{Seat}
use Rattle.node_model.specs.declared.seat.Seat.TheVariants.{Forming, Member}
use Rattle.node_model.specs.Attempts.{begins_install, installs_now, is_choosing, left_out_by, next_epoch, starts_now, votes_in}
use Rattle.node_model.specs.Configurations.{in_force}
use Rattle.node_model.specs.Deciding.{is_held_up, may_order}
use Rattle.node_model.specs.Devices.{joining_so}
use Rattle.node_model.specs.Groups.{is_last, orders_again, own_order, with_ended}
use Rattle.node_model.specs.Members.{awaits_start, hearing, is_foreign}
use Rattle.node_model.specs.Presidents.{checked, is_busy, is_clear, others_of, own_arrival, proposed_by, query_lines, requests_of, with_act, with_proposals, word_answer}
use Rattle.node_model.specs.Requests.{is_idle, waiting_with}
use Rattle.node_model.specs.Ticks.{later, members_to_form, waiting_less}
use Rattle.node_model.specs.Steps.{at_second}
use Rattle.node_model.specs.Updates.{commits_now, is_of_member}
use Rattle.refinement.specs.Courses.{Course, joined}
use Rattle.refinement.specs.Courses.Course.{Acts, Falls, Keeps, Stops}
use Rattle.refinement.specs.Cuts as cuts
use Rattle.refinement.specs.Cuts.{acks_of, first_turn, left_answered}
use Rattle.std.specs.Prelude.{ℕ, zero, suc, ◌≡◌, ◌==◌, ◌&&◌, nat_le, nat_lt, Bool, true, false, List, [], ◌∷◌, length, Option, None, Some, Result, Ok, Err, is_some, if◌then◌else◌}
use Rattle.std.proofs.Common.{refl, sym, ◌∙◌, inl, inr}
use Rattle.attempt_laws.proofs.Walk.{if_with}
use Rattle.node_model.specs.Seats.{coordinator_of, installed_of, is_in, is_member, promised_of, record_of, version_of}
use Rattle.refinement.specs.Doings.{Change, acted, answered_so, changed, going}
use Rattle.refinement.specs.Doings.Act.{Gives}
use Rattle.refinement.specs.Doings.Change.{Counts, Installs, Leads, Sits, Starts}
use Rattle.std.specs.List.{AllByRecursion}
use Rattle.std.specs.Option.{option_map}
use Rattle.cmm_attempt.specs.Calls.{May}
use Rattle.node_model.specs.Attempts.{promise_of, resting}
use Rattle.node_model.specs.Presidents.{orders_for}
use Rattle.node_model.specs.Seats.{promising}
use Rattle.run_commands.specs.carried.Guards.{Cause, ChangeAsk, Command, GoesAsk, IsNow, hand_act, hand_change, pair_of}
use Rattle.run_commands.specs.carried.Guards.Move.{Joins}
use Rattle.run_commands.proofs.carried.Asides as asides
use Rattle.run_commands.proofs.carried.Asides.{IsOther, choosing_is, first_other, found_number, other_ask, text_of, turn_other, word_silent}
use Rattle.std.proofs.Common.{ap}

module _ (c : Cluster) (me : ℕ) (came : Input) (word : Option Command) where
  abbrev G : Option ℕ → UpNode → Course → Type 0
  G h x k = GoesAsk c me came word h x k

  either_so : (h : Option ℕ) (x : UpNode) (b : Bool) (k l : Course) → G h x k → G h x l → G h x (if b then k else l)
  either_so h x true k l p q = p
  either_so h x false k l p q = q

  then_so : (h : Option ℕ) (x : UpNode) (k : Course) (next : UpNode → Course) → G h x k → ((g : Option ℕ) (y : UpNode) → G g y (next y)) → G h x (joined c me x k next)
  then_so h x Stops next p q = q h x
  then_so h x (Acts a rest) next p q = (p.0, then_so (hand_act x h a) (acted c me x a) rest next p.1 q)
  then_so h x (Keeps change rest) next p q = (p.0, then_so (hand_change x h change) (changed c me x change) rest next p.1 q)
  then_so h x (Falls why) next p q = tt

  decided_so : (h : Option ℕ) (x : UpNode) (p : Presidency) (t : decisions.Turn) → G h x (cuts.decided_course me x p t)
  decided_so h x p t = (asides.orders_ask me came word h x t.orders, (asides.same_queue word x x.requests refl refl, tt))

  deciding_by_so : (h : Option ℕ) (x : UpNode) (o : Option Presidency) → G h x (cuts.deciding_by_course c me x o)
  deciding_by_so h x None = tt
  deciding_by_so h x (Some p) = either_so h x (may_order p.groups) _ _ (decided_so h x p (decisions.decision (in_force c x) x.second (is_held_up p) p.groups)) tt

  deciding_so : (h : Option ℕ) (x : UpNode) → G h x (cuts.deciding_course c me x)
  deciding_so h x = deciding_by_so h x x.presidency

  excluded_so : (h : Option ℕ) (x : UpNode) (e newest : ℕ) (o : Option ℕ) → G h x (cuts.excluded_course me e newest o)
  excluded_so h x e newest None = tt
  excluded_so h x e newest (Some m) = either_so h x (m == me) _ _ tt (tt, tt)

  ended_so : (h : Option ℕ) (x : UpNode) (e : AttemptEnd) (o : Option AttemptState) → G h x (cuts.ended_course me e o)
  ended_so h x e None = tt
  ended_so h x e (Some a) = (tt, excluded_so h (resting x) a.plan.epoch (unwrap_or (newest_installed a) 0) (left_out_by e))

  queued_so : (h : Option ℕ) (x : UpNode) (d : ℕ) (kind : SeizeKind) (o : Option AttemptState) → G h x (cuts.queued_course d kind o)
  queued_so h x d kind None = tt
  queued_so h x d kind (Some a) = (tt, tt)

  step_so : (h : Option ℕ) (x : UpNode) (s : Step) → IsOther s → G h x (cuts.step_course me x s)
  step_so h x (step.Send to m) is = (other_ask x m.body is, tt)
  step_so h x (step.SeizeHere d kind) is = queued_so h x d kind x.attempt
  step_so h x (step.NeedVotes n) is = tt
  step_so h x (step.InstallHere i) is = tt
  step_so h x step.StartHere is = tt
  step_so h x (step.Ended e) is = ended_so h x e x.attempt

  steps_so : (h : Option ℕ) (x : UpNode) (steps : List Step) → AllByRecursion IsOther steps → G h x (cuts.steps_course c me x steps)
  steps_so h x [] all = tt
  steps_so h x (s ∷ steps) all = then_so h x _ _ (step_so h x s all.0) (λ g y. steps_so g y steps all.1)

  kept_if_so : (h : Option ℕ) (x : UpNode) (keeps : Bool) (change : Change) (rest : Course) → ChangeAsk word x change → G (hand_change x h change) (changed c me x change) rest
      → G h x (cuts.kept_if keeps change rest)
  kept_if_so h x true change rest k l = (k, l)
  kept_if_so h x false change rest k l = (k, l)

  gone_on_so : (h : Option ℕ) (x : UpNode) (a : AttemptState) (k : Call) (steps : List Step) → AllByRecursion IsOther steps → G h x (cuts.gone_on c me x a k steps)
  gone_on_so h x a k steps all = (tt, steps_so h (going x a k) steps all)

  counted_so : (h : Option ℕ) (x : UpNode) (a : AttemptState) (k : Call) (i : Install) (rest : List Step) (seat : Seat) → AllByRecursion IsOther rest
      → G h x (cuts.counted c me x a k i rest seat)
  counted_so h x a k i rest (Member s) all = gone_on_so h x a k rest all
  counted_so h x a k i rest (Forming s) all =
      either_so h x (installs_now s i) _ _ (tt, steps_so h (changed c me x (Counts a k s i)) rest all) (gone_on_so h x a k rest all)

  started_so : (h : Option ℕ) (x : UpNode) (a : AttemptState) (k : Call) (rest : List Step) (seat : Seat) → AllByRecursion IsOther rest → G h x (cuts.started c me x a k rest seat)
  started_so h x a k rest (Member s) all = gone_on_so h x a k rest all
  started_so h x a k rest (Forming s) all =
      either_so h x (starts_now s (turn a k).after.plan.epoch) _ _
      (kept_if_so h x (is_some s.saved.entries.pending) (Starts a k s) (cuts.steps_course c me (changed c me x (Starts a k s)) rest) tt (steps_so None (changed c me x (Starts a k s)) rest all))
      (gone_on_so h x a k rest all)

  turned_by_so : (h : Option ℕ) (x : UpNode) (a : AttemptState) (k : Call) (steps : List Step) → AllByRecursion IsOther steps → G h x (cuts.turned_by c me x a k steps)
  turned_by_so h x a k [] all = gone_on_so h x a k [] tt
  turned_by_so h x a k (step.InstallHere i ∷ rest) all = counted_so h x a k i rest x.seat all.1
  turned_by_so h x a k (step.StartHere ∷ rest) all = started_so h x a k rest x.seat all.1
  turned_by_so h x a k (step.Send to m ∷ rest) all = gone_on_so h x a k (step.Send to m ∷ rest) all
  turned_by_so h x a k (step.SeizeHere d kind ∷ rest) all = gone_on_so h x a k (step.SeizeHere d kind ∷ rest) all
  turned_by_so h x a k (step.NeedVotes n ∷ rest) all = gone_on_so h x a k (step.NeedVotes n ∷ rest) all
  turned_by_so h x a k (step.Ended e ∷ rest) all = gone_on_so h x a k (step.Ended e ∷ rest) all

  turned_so : (h : Option ℕ) (x : UpNode) (a : AttemptState) (k : Call) → May a k → G h x (cuts.turned c me x a k)
  turned_so h x a k may = turned_by_so h x a k (turn a k).steps (turn_other a k may)

  if_started_so : (h : Option ℕ) (steps : List Step) (y : UpNode) → G h y (cuts.if_started c me steps y)
  if_started_so h steps y = either_so h y (starts_in steps) _ _ (deciding_so h y) tt

  turned_all_so : (h : Option ℕ) (x : UpNode) (a : AttemptState) (k : Call) → May a k → G h x (cuts.turned_all c me x a k)
  turned_all_so h x a k may = then_so h x _ _ (turned_so h x a k may) (λ g z. if_started_so g (turn a k).steps z)

  readied_so : (h : Option ℕ) (x : UpNode) (o : Option AttemptState) → G h x (cuts.readied_course c me x o)
  readied_so h x None = tt
  readied_so h x (Some a) = turned_all_so h x a Own_ready tt

  own_ready_so : (h : Option ℕ) (x : UpNode) → G h x (cuts.own_ready_course c me x)
  own_ready_so h x = either_so h x (joins x.tasks) _ _ tt (readied_so h x x.attempt)

  if_installed_so : (h : Option ℕ) (steps : List Step) (y : UpNode) → G h y (cuts.if_installed c me steps y)
  if_installed_so h steps y = either_so h y (begins_install steps) _ _ (own_ready_so h y) tt

  called_so : (h : Option ℕ) (x : UpNode) (a : AttemptState) (k : Call) → May a k → G h x (cuts.called c me x a k)
  called_so h x a k may = then_so h x _ _ (turned_all_so h x a k may) (λ g z. if_installed_so g (turn a k).steps z)

  going_so : (h : Option ℕ) (x : UpNode) (a : AttemptState) (k : Call) → May a k → G h x (cuts.going_course c me x a k)
  going_so h x a k may =
      if_with (λ z. G h x z) (is_choosing (turn a k).after.phase) (is_choosing (turn a k).after.phase) _ _ refl
      (λ is. (tt, called_so h (going x a k) (turn a k).after (With_votes (votes_in c (turn a k).after)) (choosing_is (turn a k).after.phase is)))
      (λ is. called_so h x a k may)

  begun_so : (h : Option ℕ) (x : UpNode) (t : Turn) → AllByRecursion IsOther t.steps → G h x (cuts.begun_course c me x t)
  begun_so h x t all =
      if_with (λ z. G h x z) (is_choosing t.after.phase) (is_choosing t.after.phase) _ _ refl
      (λ is. called_so h x t.after (With_votes (votes_in c t.after)) (choosing_is t.after.phase is)) (λ is. steps_so h x t.steps all)

  leading_so : (h : Option ℕ) (x : UpNode) (p members : ℕ) → G h x (cuts.leading_course c me x p members)
  leading_so h x p members =
      either_so h x (nat_lt (promised_of x) p) _ _ (
        tt,
        begun_so None (changed c me x (Leads p members)) (first_turn c me x p members)
            (first_other p members (record { sender = me; body = promise_of (record (promising x p) { greatest = p }) p }) c.attached c.id),
      ) tt

  forming_so : (h : Option ℕ) (x : UpNode) (o : Option ℕ) → G h x (cuts.forming_course c me x o)
  forming_so h x None = tt
  forming_so h x (Some members) = leading_so h x (next_epoch me x) members

  ticked_so : (h : Option ℕ) (x : UpNode) (o : Option AttemptState) → G h x (cuts.ticked_course c me x o)
  ticked_so h x (Some a) = going_so h x a Call_tick tt
  ticked_so h x None = either_so h x (nat_le 1 x.beats.wait) _ _ (tt, tt) (tt, forming_so h (waiting_less x) (members_to_form c me (waiting_less x)))

  heartbeat_so : (h : Option ℕ) (x : UpNode) (from session : ℕ) (member : Bool) → G h x (cuts.heartbeat_course me x from session member)
  heartbeat_so h x from session member = either_so h x (awaits_start me x from session member) _ _ (tt, tt) tt

  collect_so : (h : Option ℕ) (x : UpNode) (from p : ℕ) → G h x (cuts.collect_course x from p)
  collect_so h x from p = either_so h x (nat_lt (promised_of x) p) _ _ (tt, (tt, tt)) (either_so h x (is_in x p) _ _ (tt, tt) (tt, tt))

  request_so : (h : Option ℕ) (x : UpNode) (from : ℕ) (kind : SeizeKind) (e members d : ℕ) (o : Option SeizeResult) → G h x (cuts.request_course x from kind e members d o)
  request_so h x from kind e members d (Some result) = (tt, tt)
  request_so h x from kind e members d None = either_so h x (installed_of x == e) _ _ (tt, tt) (tt, tt)

  seizing_so : (h : Option ℕ) (x : UpNode) (from : ℕ) (kind : SeizeKind) (e members d : ℕ) → G h x (cuts.seizing_course x from kind e members d)
  seizing_so h x from kind e members d = either_so h x (is_in x e) _ _ (request_so h x from kind e members d (kept_of x.tasks d)) tt

  readying_so : (h : Option ℕ) (x : UpNode) (to : ℕ) → G h x (cuts.readying_course c x to)
  readying_so h x to = either_so h x (joins x.tasks) _ _ tt (tt, tt)

  installed_so : (h : Option ℕ) (x : UpNode) (from : ℕ) (i : Install) (seat : Seat) → G h x (cuts.installed_course c me x from i seat)
  installed_so h x from i (Member s) = readying_so h x from
  installed_so h x from i (Forming s) = either_so h x (s.saved.installed == i.epoch) _ _ (readying_so h x from) (tt, readying_so h (changed c me x (Installs s i)) from)

  install_so : (h : Option ℕ) (x : UpNode) (from : ℕ) (i : Install) → G h x (cuts.install_course c me x from i)
  install_so h x from i = either_so h x (is_in x i.epoch) _ _ (installed_so h x from i x.seat) (tt, tt)

  start_so : (h : Option ℕ) (x : UpNode) (e : ℕ) (seat : Seat) → G h x (cuts.start_course e seat)
  start_so h x e (Member s) = tt
  start_so h x e (Forming s) = either_so h x (starts_now s e) _ _ (kept_if_so h x (is_some s.saved.entries.pending) (Sits s e) Stops tt tt) tt

  notice_so : (h : Option ℕ) (x : UpNode) (e newest : ℕ) → G h x (cuts.notice_course x e newest)
  notice_so h x e newest = either_so h x (is_in x e) _ _ tt tt

  -- Requests at their president.

  answering_so : (h : Option ℕ) (x : UpNode) (p : Presidency) (a : Arrived) (told : Answer) → is_some x.presidency ≡ true → G h x (cuts.answering_course c me x p a told)
  answering_so h x p a told pr = (asides.given_ask me came word h x a told pr, (asides.queue_ask me word x a, deciding_so h (left_answered me x p a told)))

  acknowledged_so : (h : Option ℕ) (x : UpNode) (p : Presidency) (a : Arrived) (text : List ℕ) → is_some x.presidency ≡ true → G h x (cuts.acknowledged_course c me x p a text)
  acknowledged_so h x p a text pr =
      (asides.queue_ask me word x a, (tt, (asides.acked_ask me came word x (changed c me x (acks_of c me x p a text)) a refl (asides.same_session x.seat _), deciding_so (hand_change x h (acks_of c me x p a text)) (changed c me x (acks_of c me x p a text)))))

  acknowledging_text_so : (h : Option ℕ) (x : UpNode) (p : Presidency) (o : Option Arrived) (text : Option (List ℕ)) → is_some x.presidency ≡ true
      → G h x (cuts.acknowledging_text_course c me x p o text)
  acknowledging_text_so h x p (Some a) (Some text) pr = acknowledged_so h x p a text pr
  acknowledging_text_so h x p None text pr = tt
  acknowledging_text_so h x p (Some a) None pr = tt

  acknowledging_by_so : (h : Option ℕ) (x : UpNode) (o : Option Presidency) → x.presidency ≡ o → G h x (cuts.acknowledging_by_course c me x o)
  acknowledging_by_so h x None is = tt
  acknowledging_by_so h x (Some p) is = acknowledging_text_so h x p (first_in p.proposals.arrived) (record_of x).entries.pending (ap is_some is)

  acknowledging_so : (h : Option ℕ) (x : UpNode) → G h x (cuts.acknowledging_course c me x)
  acknowledging_so h x = acknowledging_by_so h x x.presidency refl

  proposing_so : (h : Option ℕ) (x : UpNode) (p : Presidency) (text : List ℕ) → G h x (cuts.proposing_course c me x p text)
  proposing_so h x p text = (tt, (tt, either_so h (proposed_by c me x p text) (others_of me x == 0) _ _ (acknowledging_so h (proposed_by c me x p text)) tt))

  acting_so : (h : Option ℕ) (x : UpNode) (p : Presidency) (a : Arrived) (ask : Ask) → is_some x.presidency ≡ true → G h x (cuts.acting_course c me x p a ask)
  acting_so h x p a ask pr = either_so h x (may_order p.groups) _ _ (asides.orders_ask me came word h x (orders_for p.groups ask), answering_so h x (with_act c me x p a ask) a answer.Ok pr) tt

  taken_as_so : (h : Option ℕ) (x : UpNode) (p : Presidency) (a : Arrived) (r : Result Accepted CheckError) → is_some x.presidency ≡ true → G h x (cuts.taken_as_course c me x p a r)
  taken_as_so h x p a (Ok (accepted.Change u)) pr = proposing_so h x p (words_of u)
  taken_as_so h x p a (Ok (accepted.Act ask)) pr = acting_so h x p a ask pr
  taken_as_so h x p a (Ok (accepted.Query q)) pr = answering_so h x p a answer.Ok pr
  taken_as_so h x p a (Err (because.Refused r)) pr = answering_so h x p a (answer.Refused r) pr
  taken_as_so h x p a (Err because.NoMemory) pr = tt

  taken_so : (h : Option ℕ) (x : UpNode) (p : Presidency) (a : Arrived) (r : Result wanted.Request WordError) → is_some x.presidency ≡ true → G h x (cuts.taken_course c me x p a r)
  taken_so h x p a (Ok (asked.Change u)) pr = either_so h x (is_busy p.groups) _ _ tt (taken_as_so h x p a (checked c x p (wish.Change u)) pr)
  taken_so h x p a (Ok (asked.Act ask)) pr = either_so h x (is_busy p.groups && is_clear ask) _ _ tt (taken_as_so h x p a (checked c x p (wish.Act ask)) pr)
  taken_so h x p a (Err e) pr = answering_so h x p a (word_answer e) pr

  turn_of_so : (h : Option ℕ) (x : UpNode) (p : Presidency) (o : Option Proposed) (first : Option Arrived) → is_some x.presidency ≡ true → G h x (cuts.turn_of_course c me x p o first)
  turn_of_so h x p None (Some a) pr = taken_so h x p a (request_of (version_of c) a.text) pr
  turn_of_so h x p None None pr = tt
  turn_of_so h x p (Some proposed) first pr = tt

  turn_by_so : (h : Option ℕ) (x : UpNode) (o : Option Presidency) → x.presidency ≡ o → G h x (cuts.turn_by_course c me x o)
  turn_by_so h x None is = tt
  turn_by_so h x (Some p) is = turn_of_so h x p p.proposals.proposed (first_in p.proposals.arrived) (ap is_some is)

  one_turn_so : (h : Option ℕ) (x : UpNode) → G h x (cuts.one_turn_course c me x)
  one_turn_so h x = turn_by_so h x x.presidency refl

  turns_so : (h : Option ℕ) (x : UpNode) (k : ℕ) → G h x (cuts.turns_course c me x k)
  turns_so h x zero = tt
  turns_so h x (suc k) = then_so h x _ _ (turns_so h x k) (λ g z. one_turn_so g z)

  handling_so : (h : Option ℕ) (x : UpNode) → G h x (cuts.handling_course c me x)
  handling_so h x = turns_so h x (requests_of x x.presidency)

  kept_again_so : (h : Option ℕ) (x : UpNode) (from : ℕ) (o : Option Kept) → is_some x.presidency ≡ true → G h x (cuts.kept_again_course x from o)
  kept_again_so h x from None pr = tt
  kept_again_so h x from (Some k) pr = ((pr, refl), tt)

  arrived_so : (h : Option ℕ) (x : UpNode) (p : Presidency) (a : Arrived) (how : Arrival) → is_some x.presidency ≡ true → G h x (cuts.arrived_course c me x p a how)
  arrived_so h x p a New pr = let s : State = with_arrival p.proposals a New in (asides.same_queue word x x.requests refl refl, handling_so h (with_proposals x p s))
  arrived_so h x p a Waits_already pr = tt
  arrived_so h x p a Answered_last pr = kept_again_so h x a.from (kept_at p.proposals.answers a.from) pr
  arrived_so h x p a Past pr = tt

  arriving_so : (h : Option ℕ) (x : UpNode) (p : Presidency) (a : Arrived) → is_some x.presidency ≡ true → G h x (cuts.arriving_course c me x p a)
  arriving_so h x p a pr = arrived_so h x p a (arrival_of p.proposals a.from a.number) pr

  requested_so : (h : Option ℕ) (x : UpNode) (from number : ℕ) (text : List ℕ) (o : Option Presidency) → x.presidency ≡ o → G h x (cuts.requested_course c me x from number text o)
  requested_so h x from number text None is = tt
  requested_so h x from number text (Some p) is = arriving_so h x p (record { from = from; number = number; text = text }) (ap is_some is)

  asked_so : (h : Option ℕ) (x : UpNode) (from e number : ℕ) (text : List ℕ) → G h x (cuts.asked_course c me x from e number text)
  asked_so h x from e number text = either_so h x (is_of_member x from e) _ _ (requested_so h x from number text x.presidency refl) tt

  -- Requests at the node that asks.

  request_to_so : (h : Option ℕ) (x : UpNode) (r : Request) (o : Option ℕ) → oldest x.requests ≡ Some r → G h x (cuts.request_to_course x r o)
  request_to_so h x r None first = tt
  request_to_so h x r (Some president) first = (ap (λ o. option_map pair_of o) first, tt)

  asking_of_so : (h : Option ℕ) (x : UpNode) (r : Request) (o : Option Presidency) → oldest x.requests ≡ Some r → x.presidency ≡ o → G h x (cuts.asking_of_course c me x r o)
  asking_of_so h x r None first is = request_to_so h x r (coordinator_of x) first
  asking_of_so h x r (Some p) first is = arriving_so h x p (own_arrival me r) (ap is_some is)

  asking_for_so : (h : Option ℕ) (x : UpNode) (o : Option Request) → oldest x.requests ≡ o → G h x (cuts.asking_for_course c me x o)
  asking_for_so h x None first = tt
  asking_for_so h x (Some r) first = asking_of_so h x r x.presidency first refl

  asking_so : (h : Option ℕ) (x : UpNode) → G h x (cuts.asking_course c me x)
  asking_so h x = asking_for_so h x (oldest x.requests) refl

  pub asking_if_so : (h : Option ℕ) (alone : Bool) (x : UpNode) → G h x (cuts.asking_if_course alone c me x)
  asking_if_so h alone x = either_so h x alone _ _ (asking_so h x) tt

  -- A command, of this number and in this membership: an answer to it is of the node itself, or of the president.

  replying_so : (h : Option ℕ) (x : UpNode) (number : ℕ) (told : Answer) → Cause came word h x number told → G h x (cuts.replying_course me number told)
  replying_so h x number told why = (((refl, why), tt), tt)

  waiting_so : (h : Option ℕ) (x : UpNode) (number : ℕ) (text : List ℕ) (now : IsNow word x number) → now.command.text ≡ Some text → is_member x.seat ≡ true
      → G h x (cuts.waiting_course c me x number text)
  waiting_so h x number text now is at =
      either_so h x (is_full x.requests) _ _ (replying_so h x number answer.QueueFull (inl refl)) (
        record {
          move = Joins (record { number = number; text = text; told = true; second = x.second });
          waiting = refl;
          asked = refl;
          may = (now, is, refl, at);
        },
        asking_if_so h (is_idle x.requests.waiting) (waiting_with x number text),
      )

  elsewhere_so : (h : Option ℕ) (x : UpNode) (number : ℕ) (o : Option ℕ) → G h x (cuts.elsewhere_course me number o)
  elsewhere_so h x number None = tt
  elsewhere_so h x number (Some president) = replying_so h x number (answer.Ask president) (inl refl)

  telling_so : (h : Option ℕ) (x : UpNode) (number : ℕ) (lines : List StatusEntry) → Cause came word h x number answer.Ok → G h x (cuts.telling_course me number lines)
  telling_so h x number lines why = (asides.lines_ask me came word h x lines, replying_so h x number answer.Ok why)

  query_so : (h : Option ℕ) (x : UpNode) (p : Presidency) (number : ℕ) (s : ConfigState) (r : Result Accepted CheckError) → is_some x.presidency ≡ true → IsNow word x number
      → G h x (cuts.query_course me x p number s r)
  query_so h x p number s (Ok (accepted.Query q)) pr now = telling_so h x number (query_lines x p s q) (inr (inl (pr, inr (inl now))))
  query_so h x p number s (Ok (accepted.Change u)) pr now = tt
  query_so h x p number s (Ok (accepted.Act ask)) pr now = tt
  query_so h x p number s (Err (because.Refused r)) pr now = replying_so h x number (answer.Refused r) (inr (inl (pr, inr (inl now))))
  query_so h x p number s (Err because.NoMemory) pr now = tt

  queried_so : (h : Option ℕ) (x : UpNode) (number : ℕ) (question : AdminCommand) (o : Option Presidency) → x.presidency ≡ o → IsNow word x number
      → G h x (cuts.queried_course c me x number question o)
  queried_so h x number question None is now = elsewhere_so h x number (coordinator_of x)
  queried_so h x number question (Some p) is now =
      either_so h x (is_full x.requests) _ _ (replying_so h x number answer.QueueFull (inl refl)) (query_so h x p number (in_force c x) (checked c x p question) (ap is_some is) now)

  commanded_so : (h : Option ℕ) (x : UpNode) (number : ℕ) (o : AdminCommand) (now : IsNow word x number) → ((text : List ℕ) → text_of o ≡ Some text → now.command.text ≡ Some text)
      → is_member x.seat ≡ true → G h x (cuts.commanded_course c me x number o)
  commanded_so h x number (wish.Change u) now is at = waiting_so h x number (words_of u) now (is (words_of u) refl) at
  commanded_so h x number (wish.Act a) now is at = waiting_so h x number (ask_words_of a) now (is (ask_words_of a) refl) at
  commanded_so h x number (wish.Status q) now is at = queried_so h x number (wish.Status q) x.presidency refl now
  commanded_so h x number (wish.Rows table) now is at = queried_so h x number (wish.Rows table) x.presidency refl now

  pub worded_so : (h : Option ℕ) (x : UpNode) (number : ℕ) (r : Result AdminCommand WordError) (now : IsNow word x number)
      → ((command : AdminCommand) (text : List ℕ) → r ≡ Ok command → text_of command ≡ Some text → now.command.text ≡ Some text) → G h x (cuts.worded_course c me x number r)
  worded_so h x number (Err e) now is = replying_so h x number (word_answer e) (inl (word_silent e))
  worded_so h x number (Ok command) now is =
      if_with (λ z. G h x z) (is_member x.seat) (is_member x.seat) _ _ refl (λ at. commanded_so h x number command now (λ text. is command text refl) at)
      (λ at. replying_so h x number answer.NotMember (inl refl))

  -- The president's answer.

  replied_to_so : (h : Option ℕ) (x : UpNode) (number : ℕ) (told : Answer) (o : Option Request) → found x.requests.waiting number ≡ o
      → ((r : Request) → o ≡ Some r → r.told ≡ true → Cause came word h x r.number told) → G h x (cuts.replied_to_course c me x number told o)
  replied_to_so h x number told None is why = tt
  replied_to_so h x number told (Some r) is why =
      (asides.line_ask me came word h x told r (why r refl), (asides.answered_queue word x number, asking_so h (record x { requests = queue.answered x.requests number })))

  replied_so : (h : Option ℕ) (x : UpNode) (number : ℕ) (o : Option Answer) → ((told : Answer) (r : Request) → o ≡ Some told → found x.requests.waiting number ≡ Some r → r.told ≡ true → Cause came word h x r.number told)
      → G h x (cuts.replied_course c me x number o)
  replied_so h x number None why = tt
  replied_so h x number (Some told) why = replied_to_so h x number told (found x.requests.waiting number) refl (λ r is. why told r refl is)

  reply_so : (h : Option ℕ) (x : UpNode) (from : ℕ) (m : Message) (e number : ℕ) (text : List ℕ) → came ≡ Packet from m → m.body ≡ body.Answer e number text
      → G h x (cuts.reply_course c me x e number (answer_in text))
  reply_so h x from m e number text at says =
      if_with (λ z. G h x z) (is_member x.seat && is_in x e) (is_member x.seat && is_in x e) _ _ refl
      (λ here. replied_so h x number (answer_in text) (λ told r reads is so.
      inr (inr (record {
        from = from;
        message = m;
        input = at;
        epoch = e;
        text = text;
        says = says ∙ ap (λ k. body.Answer e k text) (sym (found_number x.requests.waiting number r is));
        reads = reads;
        here = here;
        waits = record { asked = number; request = r; is = is; told = so; number = refl };
      })))) (λ here. tt)

  preparing_so : (h : Option ℕ) (x : UpNode) (from e place : ℕ) (s : NodeState) (text : List ℕ) (o : Prepared) → G h x (cuts.preparing_course from e place s text o)
  preparing_so h x from e place s text Taken = (tt, (tt, tt))
  preparing_so h x from e place s text Already = (tt, tt)
  preparing_so h x from e place s text (Gap k) = tt

  prepare_so : (h : Option ℕ) (x : UpNode) (from e place : ℕ) (text : List ℕ) (seat : Seat) → G h x (cuts.prepare_course x from e place text seat)
  prepare_so h x from e place text (Forming s) = tt
  prepare_so h x from e place text (Member s) = either_so h x (is_in x e) _ _ (preparing_so h x from e place s text (answer_for (length (texts_of s.saved.entries)) place)) tt

  prepared_all_so : (h : Option ℕ) (x : UpNode) (p : Presidency) → G h x (cuts.prepared_all_course c me x p)
  prepared_all_so h x p = either_so h x (is_prepared p.proposals) _ _ (then_so h x _ _ (acknowledging_so h x) (λ g z. handling_so g z)) tt

  prepared_at_so : (h : Option ℕ) (x : UpNode) (from place : ℕ) (o : Option Presidency) → G h x (cuts.prepared_at_course c me x from place o)
  prepared_at_so h x from place None = tt
  prepared_at_so h x from place (Some p) = let s : State = prepared_by p.proposals from place in (tt, prepared_all_so h (with_proposals x p s) (record p { proposals = s }))

  prepared_so : (h : Option ℕ) (x : UpNode) (from e place : ℕ) → G h x (cuts.prepared_course c me x from e place)
  prepared_so h x from e place = either_so h x (is_of_member x from e) _ _ (prepared_at_so h x from place x.presidency) tt

  commit_so : (h : Option ℕ) (x : UpNode) (e place : ℕ) (seat : Seat) → G h x (cuts.commit_course x e place seat)
  commit_so h x e place (Forming s) = tt
  commit_so h x e place (Member s) = either_so h x (is_in x e && commits_now s place) _ _ (tt, tt) tt

  done_at_so : (h : Option ℕ) (x : UpNode) (from number : ℕ) (outcome : Outcome) (o : Option Presidency) → G h x (cuts.done_at_course c me x from number outcome o)
  done_at_so h x from number outcome None = tt
  done_at_so h x from number outcome (Some p) = either_so h x (order.is_due p.groups.view from number) _ _ (asides.same_queue word x x.requests refl refl, then_so h (record x { presidency = Some (with_ended c x p from number outcome) }) _ _ (deciding_so h (record x { presidency = Some (with_ended c x p from number outcome) })) (λ g z. handling_so g z)) tt

  done_so : (h : Option ℕ) (x : UpNode) (from e number : ℕ) (outcome : Outcome) → G h x (cuts.done_course c me x from e number outcome)
  done_so h x from e number outcome = either_so h x (is_of_member x from e) _ _ (done_at_so h x from number outcome x.presidency) tt

  carrying_so : (h : Option ℕ) (x : UpNode) (o : Order) (how : Carried) → G h x (cuts.carrying_course c me x o how)
  carrying_so h x o how = (asides.order_ask me came word h x o how, either_so h x (is_last c x o how) _ _ tt (tt, tt))

  order_answered_so : (h : Option ℕ) (from : ℕ) (o : Order) (how : Carried) (x : UpNode) → G h x (cuts.order_answered_course from o how x)
  order_answered_so h from o carried.Old x = tt
  order_answered_so h from o (carried.Called outcome) x = (tt, tt)
  order_answered_so h from o carried.Cleared x = (tt, tt)
  order_answered_so h from o (carried.Kept outcome) x = (tt, tt)

  obeying_so : (h : Option ℕ) (x : UpNode) (from : ℕ) (o : Order) (how : Carried) → G h x (cuts.obeying_course c me x from o how)
  obeying_so h x from o how = then_so h x (cuts.carrying_course c me x o how) _ (carrying_so h x o how) (λ g z. order_answered_so g from o how z)

  order_so : (h : Option ℕ) (outcome : Outcome) (x : UpNode) (from : ℕ) (o : Order) → G h x (cuts.order_course c me outcome x from o)
  order_so h outcome x from o = either_so h x (is_member x.seat && is_in x o.epoch) _ _ (obeying_so h x from o (answer_to x.worker o outcome)) tt

  own_done_so : (h : Option ℕ) (o : Order) (how : Carried) (x : UpNode) → G h x (cuts.own_done_course c me o how x)
  own_done_so h o how x = done_at_so h x me o.number (outcome_in how) x.presidency

  own_turn_so : (h : Option ℕ) (outcome : Outcome) (x : UpNode) (o : Option Order) → G h x (cuts.own_turn_course c me outcome x o)
  own_turn_so h outcome x None = tt
  own_turn_so h outcome x (Some o) = then_so h x (cuts.carrying_course c me x o (answer_to x.worker o outcome)) _ (carrying_so h x o (answer_to x.worker o outcome)) (λ g z. own_done_so g o (answer_to x.worker o outcome) z)

  prepares_so : (h : Option ℕ) (before x : UpNode) (o : Option Proposed) (text : Option (List ℕ)) (rest : Course) → G h x rest → G h x (cuts.prepares_course before o text rest)
  prepares_so h before x (Some p) (Some text) rest k = (tt, k)
  prepares_so h before x None text rest k = k
  prepares_so h before x (Some p) None rest k = k

  prepares_again_so : (h : Option ℕ) (before x : UpNode) (o : Option Presidency) (rest : Course) → G h x rest → G h x (cuts.prepares_again_course before o rest)
  prepares_again_so h before x None rest k = k
  prepares_again_so h before x (Some p) rest k = either_so h x (goes_again p.proposals) _ _ (prepares_so h before x p.proposals.proposed (record_of before).entries.pending rest k) k

  going_again_so : (h : Option ℕ) (before x : UpNode) → G h x (cuts.going_again_course c me before x)
  going_again_so h before x = prepares_again_so h before x before.presidency (Acts (Gives (orders_again before x)) (cuts.deciding_course c me x)) (asides.again_ask me came word h x before.presidency x.presidency, deciding_so h x)

  governing_so : (h : Option ℕ) (outcome : Outcome) (before x : UpNode) → G h x (cuts.governing_course c me outcome before x)
  governing_so h outcome before x = then_so h x _ _ (own_turn_so h outcome x (own_order me x)) (λ g z. going_again_so g before z)

  tick_so : (h : Option ℕ) (outcome : Outcome) (x : UpNode) → G h x (cuts.tick_course c me outcome x)
  tick_so h outcome x = (tt, then_so h (later c x) _ _ (governing_so h outcome x (later c x)) (λ g y. ticked_so g y y.attempt))

  serving_so : (h : Option ℕ) (x : UpNode) (p : Presidency) (name : List ℕ) (client port : ℕ) (o : serving.Outcome) → G h x (cuts.serving_course x p name client port o)
  serving_so h x p name client port o = (asides.served_ask me came word h x name client port o, (asides.same_queue word x x.requests refl refl, tt))

  serving_at_so : (h : Option ℕ) (s : ConfigState) (x : UpNode) (p : Presidency) (name : List ℕ) (client port : ℕ) (o : Option Address) → G h x (cuts.serving_at_course s x p name client port o)
  serving_at_so h s x p name client port None = tt
  serving_at_so h s x p name client port (Some a) = serving_so h x p name client port (serving.chosen (clients.state_of p.balancer name) (request_for s p a client port))

  serving_by_so : (h : Option ℕ) (x : UpNode) (name : List ℕ) (client port : ℕ) (o : Option Presidency) → G h x (cuts.serving_by_course c x name client port o)
  serving_by_so h x name client port None = tt
  serving_by_so h x name client port (Some p) = serving_at_so h (in_force c x) x p name client port (named (in_force c x).addresses name)

  client_so : (h : Option ℕ) (x : UpNode) (name : List ℕ) (client port : ℕ) → G h x (cuts.client_course c x name client port)
  client_so h x name client port = serving_by_so h x name client port x.presidency

  answer_so : (h : Option ℕ) (x : UpNode) (from : ℕ) (m : Message) (o : Option AttemptState) → G h x (cuts.answer_course c me x from m o)
  answer_so h x from m None = tt
  answer_so h x from m (Some a) = going_so h x a (Take from m) tt

  body_so : (h : Option ℕ) (outcome : Outcome) (x : UpNode) (from : ℕ) (m : Message) (b : Body) → came ≡ Packet from m → m.body ≡ b → G h x (cuts.body_course c me outcome x from m b)
  body_so h outcome x from m (body.Heartbeat promised session member) at is = heartbeat_so h x from session member
  body_so h outcome x from m (body.Collect e members) at is = collect_so h x from e
  body_so h outcome x from m (body.Promise e installed members valid flagged committed pending) at is = answer_so h x from m x.attempt
  body_so h outcome x from m (body.Nack e promised) at is = answer_so h x from m x.attempt
  body_so h outcome x from m (body.SeizeQuorum e members d) at is = seizing_so h x from Vote e members d
  body_so h outcome x from m (body.SeizeData e members d) at is = seizing_so h x from Plain e members d
  body_so h outcome x from m (body.Seized e d ended) at is = answer_so h x from m x.attempt
  body_so h outcome x from m (body.Install i) at is = install_so h x from i
  body_so h outcome x from m (body.Ready e joined_devices report) at is = answer_so h x from m x.attempt
  body_so h outcome x from m (body.Start e) at is = start_so h x e x.seat
  body_so h outcome x from m (body.Excluded e newest) at is = notice_so h x e newest
  body_so h outcome x from m (body.Prepare e place text) at is = prepare_so h x from e place text x.seat
  body_so h outcome x from m (body.Prepared e place) at is = prepared_so h x from e place
  body_so h outcome x from m (body.Commit e place) at is = commit_so h x e place x.seat
  body_so h outcome x from m (body.Request e number text) at is = asked_so h x from e number text
  body_so h outcome x from m (body.Answer e number text) at is = reply_so h x from m e number text at is
  body_so h outcome x from m (body.Order o) at is = order_so h outcome x from o
  body_so h outcome x from m (body.Done e number ended) at is = done_so h x from e number ended

  packet_so : (h : Option ℕ) (outcome : Outcome) (x : UpNode) (from : ℕ) (m : Message) → came ≡ Packet from m → G h x (cuts.packet_course c me outcome x from m)
  packet_so h outcome x from m at = either_so h x (is_foreign c me x m.body) _ _ tt (tt, body_so h outcome (hearing x from m.body) from m m.body at refl)

  distrusting_so : (h : Option ℕ) (x : UpNode) (o : Option ℕ) → G h x (cuts.distrusting_course x o)
  distrusting_so h x None = tt
  distrusting_so h x (Some d) = either_so h x (has (record_of x).valid d) _ _ (tt, tt) tt

  own_seized_so : (h : Option ℕ) (x : UpNode) (d : ℕ) (result : SeizeResult) (o : Option AttemptState) → G h x (cuts.own_seized_course c me x d result o)
  own_seized_so h x d result None = tt
  own_seized_so h x d result (Some a) = going_so h x a (Own_seized d result) tt

  seized_so : (h : Option ℕ) (x : UpNode) (d : ℕ) (result : SeizeResult) (o : Option ℕ) → G h x (cuts.seized_course c me x d result o)
  seized_so h x d result None = tt
  seized_so h x d result (Some coordinator) = either_so h x (coordinator == me) _ _ (own_seized_so h x d result x.attempt) (tt, tt)

  joined_so : (h : Option ℕ) (x : UpNode) (o : Option ℕ) → G h x (cuts.joined_course c me x o)
  joined_so h x None = tt
  joined_so h x (Some coordinator) = either_so h x (coordinator == me) _ _ (own_ready_so h x) (readying_so h x coordinator)

  joins_device_so : (h : Option ℕ) (x : UpNode) (at : ℕ) (command : PrCommand) (a : DeviceAnswer) (d : ℕ) (r : JoinResult) → G h x (cuts.joining_course c me x at command a d r)
  joins_device_so h x at command a d join.Joined = (tt, joined_so h (joining_so (answered_so x a) d) (coordinator_of (joining_so (answered_so x a) d)))
  joins_device_so h x at command a d (join.Late w) = (tt, joined_so h (answered_so x a) (coordinator_of (answered_so x a)))
  joins_device_so h x at command a d join.Fault = (tt, joined_so h (answered_so x a) (coordinator_of (answered_so x a)))

  progress_so : (h : Option ℕ) (x : UpNode) (at : ℕ) (command : PrCommand) (a : DeviceAnswer) (p : Progress) → G h x (cuts.progress_course c me x at command a p)
  progress_so h x at command a GoesOn = (tt, tt)
  progress_so h x at command a (Seized d result) = (tt, seized_so h (answered_so x a) d result (coordinator_of (answered_so x a)))
  progress_so h x at command a (Joined d result) = joins_device_so h x at command a d result

  answer_taken_so : (h : Option ℕ) (x : UpNode) (a : DeviceAnswer) (o : Option ℕ) (command : Option PrCommand) → G h x (cuts.answered_course c me x a o command)
  answer_taken_so h x a (Some d) (Some command) = progress_so h x d command a (progress_after x.tasks a)
  answer_taken_so h x a None command = tt
  answer_taken_so h x a (Some d) None = tt

  fenced_so : (h : Option ℕ) (x : UpNode) (d : ℕ) (a : DeviceAnswer) → G h x (cuts.fenced_course d a)
  fenced_so h x d (Ok given.Good) = tt
  fenced_so h x d (Ok given.Conflict) = tt
  fenced_so h x d (Ok given.InvalidRelease) = tt
  fenced_so h x d (Ok given.NoPath) = tt
  fenced_so h x d (Ok (given.Keys keys)) = tt
  fenced_so h x d (Ok (given.Holder holder)) = tt
  fenced_so h x d (Ok (given.Word w)) = tt
  fenced_so h x d (Ok (given.Value v)) = tt
  fenced_so h x d (Ok (given.Miscompare w)) = tt
  fenced_so h x d (Err e) = tt

  -- what is plain command
  abbrev pub IsNoCommand : Input → Type 0
  IsNoCommand (Commanded words) = ⊥
  IsNoCommand (Reported r good) = ⊥
  IsNoCommand _ = Unit {0}

  course_of_so : (outcome : Outcome) (x : UpNode) (i : Input) → came ≡ i → IsNoCommand i → G None x (cuts.course_of c me outcome x i)
  course_of_so outcome x Boot at plain = tt
  course_of_so outcome x Crash at plain = tt
  course_of_so outcome x Tick at plain = tick_so None outcome x
  course_of_so outcome x (Packet from message) at plain = packet_so None outcome x from message at
  course_of_so outcome x CommandDue at plain = distrusting_so None x (begins_plainly x.tasks)
  course_of_so outcome x (Answered a) at plain = answer_taken_so None x a (due_device x.tasks) (next_of x.tasks)
  course_of_so outcome x (Wrote d value a) at plain = (tt, fenced_so None x d a)
  course_of_so outcome x (Commanded words) at plain = absurd plain
  course_of_so outcome x (Reported r good) at plain = absurd plain
  course_of_so outcome x (Client name client port) at plain = client_so None x name client port

  pub course_at_so : (now : ℕ) (outcome : Outcome) (x : UpNode) (i : Input) → came ≡ i → IsNoCommand i → G None x (cuts.course_at c me now outcome x i)
  course_at_so now outcome x i at plain = (tt, course_of_so outcome (at_second now x) i at plain)
