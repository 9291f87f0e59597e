-- Each course of a step sends its Requests away, and a president's queue goes with what it has in hand.
use Rattle.std.specs.Option.{unwrap_or}
use Rattle.admin_commands.specs.declared.accepted.Accepted.{Accepted}
use Rattle.admin_commands.specs.declared.accepted.Accepted.TheVariants as accepted
use Rattle.admin_commands.specs.declared.error.CheckError.{CheckError}
use Rattle.admin_commands.specs.declared.error.CheckError.TheVariants as because
use Rattle.admin_words.specs.Commands.{request_of}
use Rattle.admin_words.specs.declared.error.WordError.{WordError}
use Rattle.admin_words.specs.declared.request.Request.TheVariants as asked
use Rattle.admin_words.specs.declared.request.Request as wanted
use Rattle.answer_words.specs.Answers.{answer_in}
use Rattle.ccr_commit.specs.Entries.{answer_for, texts_of}
use Rattle.ccr_commit.specs.declared.entries.Prepared.{Prepared}
use Rattle.ccr_commit.specs.declared.entries.Prepared.TheVariants.{Taken, Already, Gap}
use Rattle.ccr_tables.specs.State.{ConfigState}
use Rattle.ccr_tables.specs.declared.command.AdminCommand.{AdminCommand}
use Rattle.ccr_tables.specs.declared.command.AdminCommand.TheVariants as wish
use Rattle.cl_base.specs.Sets.{has}
use Rattle.cl_base.specs.declared.command.Ask.{Ask}
use Rattle.cl_base.specs.declared.method.Outcome.{Outcome}
use Rattle.cl_base.specs.Seizings.{SeizeResult}
use Rattle.cmm_attempt.specs.declared.step.AttemptEnd.{AttemptEnd}
use Rattle.cmm_attempt.specs.declared.step.Step.{Step}
use Rattle.cmm_attempt.specs.declared.step.Step.TheVariants as step
use Rattle.cmm_attempt.specs.Attempts.{AttemptState, Turn, newest_installed}
use Rattle.cmm_attempt.specs.Calls.{Call, Own_ready, Own_seized, Take, Tick as Call_tick, With_votes, starts_in, turn}
use Rattle.cmm_member.specs.Nodes.{NodeState}
use Rattle.device_queue.specs.declared.progress.Progress.{Progress}
use Rattle.device_queue.specs.declared.progress.Progress.TheVariants.{GoesOn, Seized, Joined}
use Rattle.device_queue.specs.Queue.{begins_plainly, due_device, joins, kept_of, next_of, progress_after}
use Rattle.pgr_device.specs.declared.command.PrAnswer.TheVariants as given
use Rattle.pgr_device.specs.declared.command.PrCommand.{PrCommand}
use Rattle.proposals.specs.Arrivals.{arrival_of, with_arrival}
use Rattle.proposals.specs.Proposing.{goes_again, is_prepared, prepared_by}
use Rattle.proposals.specs.State.{State, first_in, kept_at}
use Rattle.proposals.specs.declared.arrived.Arrival.{Arrival}
use Rattle.proposals.specs.declared.arrived.Arrival.TheVariants.{New, Waits as Waits_already, Answered as Answered_last, Past}
use Rattle.proposals.specs.declared.arrived.Arrived.{Arrived}
use Rattle.proposals.specs.declared.arrived.Kept.{Kept}
use Rattle.proposals.specs.declared.arrived.Proposed.{Proposed}
use Rattle.request_queue.specs.Queue as queue
use Rattle.request_queue.specs.Queue.{found, is_full, next_number, oldest}
use Rattle.request_queue.specs.declared.request.Request.{Request}
use Rattle.rgm_member.specs.Orders.{answer_to, outcome_in}
use Rattle.rgm_member.specs.declared.carried.Carried.{Carried}
use Rattle.rgm_member.specs.declared.carried.Carried.TheVariants as carried
use Rattle.rgm_president.specs.Decisions as decisions
use Rattle.rgm_state.specs.Outcomes as order
use Rattle.seize.specs.Answers.{Answer as DeviceAnswer}
use Rattle.seize.specs.declared.kind.JoinResult.{JoinResult}
use Rattle.seize.specs.declared.kind.JoinResult.TheVariants as join
use Rattle.seize.specs.declared.kind.SeizeKind.{SeizeKind}
use Rattle.seize.specs.declared.kind.SeizeKind.TheVariants.{Vote, Plain}
use Rattle.status_report.specs.declared.command_entry.Answer.{Answer}
use Rattle.status_report.specs.declared.command_entry.Answer.TheVariants as answer
use Rattle.status_report.specs.declared.status_entry.StatusEntry.{StatusEntry}
use Rattle.update_words.specs.Words.{ask_words_of, words_of}
use Rattle.wire.specs.declared.message.Body.{Body}
use Rattle.wire.specs.declared.message.Body.TheVariants as body
use Rattle.wire.specs.declared.message.Install.{Install}
use Rattle.wire.specs.declared.message.Message.{Message}
use Rattle.wire.specs.declared.message.Order.{Order}
use Rattle.node_model.specs.Addresses.{request_for}
use Rattle.ccr_tables.specs.declared.address.Address.{Address}
use Rattle.rg_props.specs.Lookups.{named}
use Rattle.shared_address.specs.Choosing as serving
use Rattle.shared_address.specs.History as clients
use Rattle.node_model.specs.declared.cluster.Cluster.{Cluster}
use Rattle.node_model.specs.declared.input.Input.{Input}
use Rattle.node_model.specs.declared.input.Input.TheVariants.{Boot, Crash, Tick, Packet, CommandDue, Answered, Wrote, Commanded, Reported, Client}
use Rattle.node_model.specs.declared.node.UpNode.{UpNode}
use Rattle.node_model.specs.declared.presidency.Presidency.{Presidency}
use Rattle.node_model.specs.declared.seat.Seat.{Seat}
use Rattle.node_model.specs.declared.seat.Seat.TheVariants.{Forming, Member}
use Rattle.node_model.specs.Attempts.{begins_install, installs_now, is_choosing, left_out_by, next_epoch, starts_now, votes_in}
use Rattle.node_model.specs.Configurations.{in_force}
use Rattle.node_model.specs.Deciding.{is_held_up, may_order}
use Rattle.node_model.specs.Devices.{joining_so}
use Rattle.node_model.specs.Groups.{is_last, orders_again, own_order, with_ended}
use Rattle.node_model.specs.Members.{awaits_start, hearing, is_foreign}
use Rattle.node_model.specs.Presidents.{checked, is_busy, is_clear, others_of, own_arrival, proposed_by, query_lines, requests_of, with_act, with_proposals, word_answer}
use Rattle.node_model.specs.Requests.{is_idle, waiting_with}
use Rattle.node_model.specs.Ticks.{later, members_to_form, waiting_less}
use Rattle.node_model.specs.Steps.{at_second}
use Rattle.node_model.specs.Updates.{commits_now}
use Rattle.refinement.specs.Courses.{Course, joined}
use Rattle.refinement.specs.Courses.Course.{Acts, Falls, Keeps, Stops}
use Rattle.refinement.specs.Cuts as cuts
use Rattle.refinement.specs.Cuts.{acks_of, first_turn, left_answered}
use Rattle.std.specs.Prelude.{ℕ, zero, suc, ◌≡◌, ◌==◌, ◌&&◌, nat_le, nat_lt, Bool, true, false, List, [], ◌∷◌, length, Option, None, Some, Result, Ok, Err, is_some, if◌then◌else◌}
use Rattle.std.proofs.Common.{refl, sym, ◌∙◌, inl, inr}
use Rattle.attempt_laws.proofs.Walk.{if_with}
use Rattle.node_model.specs.Seats.{coordinator_of, installed_of, is_in, is_member, promised_of, record_of, version_of}
use Rattle.refinement.specs.Doings.{Change, acted, answered_so, changed, going}
use Rattle.refinement.specs.Doings.Act.{Gives}
use Rattle.refinement.specs.Doings.Change.{Counts, Installs, Leads, Sits, Starts}
use Rattle.std.specs.List.{AllByRecursion}
use Rattle.cmm_attempt.specs.Calls.{May}
use Rattle.node_model.specs.Attempts.{promise_of, resting}
use Rattle.node_model.specs.Presidents.{orders_for}
use Rattle.node_model.specs.Seats.{promising}
use Rattle.run_commands.proofs.carried.Asides.{IsOther, choosing_is, first_other, turn_other}
use Rattle.admin_words.specs.Commands.{command_of}
use Rattle.node_model.specs.Deciding.{with_turn}
use Rattle.node_model.specs.Presidents.{committing}
use Rattle.node_model.specs.Updates.{is_of_member}
use Rattle.refinement.specs.Cuts.{balanced, left_by_answer, with_committed}
use Rattle.run_messages.specs.Laws.{membership_in}
use Rattle.run_commands.proofs.acknowledged.Asides.{member_here, taken_same}
use Rattle.run_commands.proofs.acknowledged.Own.{ActOwn, ChangeOwn, HasNext, IsLast, OwnCause, TakesReply}
use Rattle.run_commands.proofs.acknowledged.Carrying.{EachGoes, GoesAlso, IsNoCommand}
use Rattle.run_commands.proofs.acknowledged.OwnAsides as asides
use Rattle.std.proofs.Common.{ap, arith}
use Rattle.std.specs.Prelude.{◌≤◌}
use Rattle.node_model.specs.Groups.{monitor_asked}
use Rattle.node_model.specs.Requests.{numbered}

module _ (c : Cluster) (me : ℕ) (came : Input) (v : Option ℕ) where
  abbrev G : UpNode → Course → Type 0
  G x k = GoesAlso ActOwn ChangeOwn c came me v x k

  abbrev C : UpNode → Arrived → Type 0
  C x a = OwnCause came me v x x.requests a

  either_so : (x : UpNode) (b : Bool) (k l : Course) → G x k → G x l → G x (if b then k else l)
  either_so x true k l p q = p
  either_so x false k l p q = q

  then_so : (x : UpNode) (k : Course) (next : UpNode → Course) → G x k → ((y : UpNode) → G y (next y)) → G x (joined c me x k next)
  then_so x Stops next p q = q x
  then_so x (Acts a rest) next p q = (p.0, then_so (acted c me x a) rest next p.1 q)
  then_so x (Keeps change rest) next p q = (p.0, then_so (changed c me x change) rest next p.1 q)
  then_so x (Falls why) next p q = tt

  decided_so : (x : UpNode) (p : Presidency) (t : decisions.Turn) → x.presidency ≡ Some p → G x (cuts.decided_course me x p t)
  decided_so x p t is = (asides.orders_away me x t.orders, (asides.so_own came me v x p (with_turn me p t) is (asides.stays_own (C x) p.proposals), tt))

  deciding_by_so : (x : UpNode) (o : Option Presidency) → x.presidency ≡ o → G x (cuts.deciding_by_course c me x o)
  deciding_by_so x None is = tt
  deciding_by_so x (Some p) is = either_so x (may_order p.groups) _ _ (decided_so x p (decisions.decision (in_force c x) x.second (is_held_up p) p.groups) is) tt

  deciding_so : (x : UpNode) → G x (cuts.deciding_course c me x)
  deciding_so x = deciding_by_so x x.presidency refl

  excluded_so : (x : UpNode) (e newest : ℕ) (o : Option ℕ) → G x (cuts.excluded_course me e newest o)
  excluded_so x e newest None = tt
  excluded_so x e newest (Some m) = either_so x (m == me) _ _ tt (tt, tt)

  ended_so : (x : UpNode) (e : AttemptEnd) (o : Option AttemptState) → G x (cuts.ended_course me e o)
  ended_so x e None = tt
  ended_so x e (Some a) = (tt, excluded_so (resting x) a.plan.epoch (unwrap_or (newest_installed a) 0) (left_out_by e))

  queued_so : (x : UpNode) (d : ℕ) (kind : SeizeKind) (o : Option AttemptState) → G x (cuts.queued_course d kind o)
  queued_so x d kind None = tt
  queued_so x d kind (Some a) = (tt, tt)

  step_so : (x : UpNode) (s : Step) → IsOther s → G x (cuts.step_course me x s)
  step_so x (step.Send to m) is = (asides.other_away x to m.body is, tt)
  step_so x (step.SeizeHere d kind) is = queued_so x d kind x.attempt
  step_so x (step.NeedVotes n) is = tt
  step_so x (step.InstallHere i) is = tt
  step_so x step.StartHere is = tt
  step_so x (step.Ended e) is = ended_so x e x.attempt

  steps_so : (x : UpNode) (steps : List Step) → AllByRecursion IsOther steps → G x (cuts.steps_course c me x steps)
  steps_so x [] all = tt
  steps_so x (s ∷ steps) all = then_so x _ _ (step_so x s all.0) (λ y. steps_so y steps all.1)

  kept_if_so : (x : UpNode) (keeps : Bool) (change : Change) (rest : Course) → ChangeOwn came me v x change → G (changed c me x change) rest
      → G x (cuts.kept_if keeps change rest)
  kept_if_so x true change rest k l = (k, l)
  kept_if_so x false change rest k l = (k, l)

  gone_on_so : (x : UpNode) (a : AttemptState) (k : Call) (steps : List Step) → AllByRecursion IsOther steps → G x (cuts.gone_on c me x a k steps)
  gone_on_so x a k steps all = (tt, steps_so (going x a k) steps all)

  counted_so : (x : UpNode) (a : AttemptState) (k : Call) (i : Install) (rest : List Step) (seat : Seat) → AllByRecursion IsOther rest
      → G x (cuts.counted c me x a k i rest seat)
  counted_so x a k i rest (Member s) all = gone_on_so x a k rest all
  counted_so x a k i rest (Forming s) all =
      either_so x (installs_now s i) _ _ (tt, steps_so (changed c me x (Counts a k s i)) rest all) (gone_on_so x a k rest all)

  started_so : (x : UpNode) (a : AttemptState) (k : Call) (rest : List Step) (seat : Seat) → AllByRecursion IsOther rest → G x (cuts.started c me x a k rest seat)
  started_so x a k rest (Member s) all = gone_on_so x a k rest all
  started_so x a k rest (Forming s) all =
      either_so x (starts_now s (turn a k).after.plan.epoch) _ _
      (kept_if_so x (is_some s.saved.entries.pending) (Starts a k s) (cuts.steps_course c me (changed c me x (Starts a k s)) rest) tt (steps_so (changed c me x (Starts a k s)) rest all))
      (gone_on_so x a k rest all)

  turned_by_so : (x : UpNode) (a : AttemptState) (k : Call) (steps : List Step) → AllByRecursion IsOther steps → G x (cuts.turned_by c me x a k steps)
  turned_by_so x a k [] all = gone_on_so x a k [] tt
  turned_by_so x a k (step.InstallHere i ∷ rest) all = counted_so x a k i rest x.seat all.1
  turned_by_so x a k (step.StartHere ∷ rest) all = started_so x a k rest x.seat all.1
  turned_by_so x a k (step.Send to m ∷ rest) all = gone_on_so x a k (step.Send to m ∷ rest) all
  turned_by_so x a k (step.SeizeHere d kind ∷ rest) all = gone_on_so x a k (step.SeizeHere d kind ∷ rest) all
  turned_by_so x a k (step.NeedVotes n ∷ rest) all = gone_on_so x a k (step.NeedVotes n ∷ rest) all
  turned_by_so x a k (step.Ended e ∷ rest) all = gone_on_so x a k (step.Ended e ∷ rest) all

  turned_so : (x : UpNode) (a : AttemptState) (k : Call) → May a k → G x (cuts.turned c me x a k)
  turned_so x a k may = turned_by_so x a k (turn a k).steps (turn_other a k may)

  if_started_so : (steps : List Step) (y : UpNode) → G y (cuts.if_started c me steps y)
  if_started_so steps y = either_so y (starts_in steps) _ _ (deciding_so y) tt

  turned_all_so : (x : UpNode) (a : AttemptState) (k : Call) → May a k → G x (cuts.turned_all c me x a k)
  turned_all_so x a k may = then_so x _ _ (turned_so x a k may) (λ z. if_started_so (turn a k).steps z)

  readied_so : (x : UpNode) (o : Option AttemptState) → G x (cuts.readied_course c me x o)
  readied_so x None = tt
  readied_so x (Some a) = turned_all_so x a Own_ready tt

  own_ready_so : (x : UpNode) → G x (cuts.own_ready_course c me x)
  own_ready_so x = either_so x (joins x.tasks) _ _ tt (readied_so x x.attempt)

  if_installed_so : (steps : List Step) (y : UpNode) → G y (cuts.if_installed c me steps y)
  if_installed_so steps y = either_so y (begins_install steps) _ _ (own_ready_so y) tt

  called_so : (x : UpNode) (a : AttemptState) (k : Call) → May a k → G x (cuts.called c me x a k)
  called_so x a k may = then_so x _ _ (turned_all_so x a k may) (λ z. if_installed_so (turn a k).steps z)

  going_so : (x : UpNode) (a : AttemptState) (k : Call) → May a k → G x (cuts.going_course c me x a k)
  going_so x a k may =
      if_with (λ z. G x z) (is_choosing (turn a k).after.phase) (is_choosing (turn a k).after.phase) _ _ refl
      (λ is. (tt, called_so (going x a k) (turn a k).after (With_votes (votes_in c (turn a k).after)) (choosing_is (turn a k).after.phase is)))
      (λ is. called_so x a k may)

  begun_so : (x : UpNode) (t : Turn) → AllByRecursion IsOther t.steps → G x (cuts.begun_course c me x t)
  begun_so x t all =
      if_with (λ z. G x z) (is_choosing t.after.phase) (is_choosing t.after.phase) _ _ refl
      (λ is. called_so x t.after (With_votes (votes_in c t.after)) (choosing_is t.after.phase is)) (λ is. steps_so x t.steps all)

  leading_so : (x : UpNode) (p members : ℕ) → G x (cuts.leading_course c me x p members)
  leading_so x p members =
      either_so x (nat_lt (promised_of x) p) _ _ (
        tt,
        begun_so (changed c me x (Leads p members)) (first_turn c me x p members)
            (first_other p members (record { sender = me; body = promise_of (record (promising x p) { greatest = p }) p }) c.attached c.id),
      ) tt

  forming_so : (x : UpNode) (o : Option ℕ) → G x (cuts.forming_course c me x o)
  forming_so x None = tt
  forming_so x (Some members) = leading_so x (next_epoch me x) members

  ticked_so : (x : UpNode) (o : Option AttemptState) → G x (cuts.ticked_course c me x o)
  ticked_so x (Some a) = going_so x a Call_tick tt
  ticked_so x None = either_so x (nat_le 1 x.beats.wait) _ _ (tt, tt) (tt, forming_so (waiting_less x) (members_to_form c me (waiting_less x)))

  heartbeat_so : (x : UpNode) (from session : ℕ) (member : Bool) → G x (cuts.heartbeat_course me x from session member)
  heartbeat_so x from session member = either_so x (awaits_start me x from session member) _ _ (tt, tt) tt

  collect_so : (x : UpNode) (from p : ℕ) → G x (cuts.collect_course x from p)
  collect_so x from p = either_so x (nat_lt (promised_of x) p) _ _ (tt, (tt, tt)) (either_so x (is_in x p) _ _ (tt, tt) (tt, tt))

  request_so : (x : UpNode) (from : ℕ) (kind : SeizeKind) (e members d : ℕ) (o : Option SeizeResult) → G x (cuts.request_course x from kind e members d o)
  request_so x from kind e members d (Some result) = (tt, tt)
  request_so x from kind e members d None = either_so x (installed_of x == e) _ _ (tt, tt) (tt, tt)

  seizing_so : (x : UpNode) (from : ℕ) (kind : SeizeKind) (e members d : ℕ) → G x (cuts.seizing_course x from kind e members d)
  seizing_so x from kind e members d = either_so x (is_in x e) _ _ (request_so x from kind e members d (kept_of x.tasks d)) tt

  readying_so : (x : UpNode) (to : ℕ) → G x (cuts.readying_course c x to)
  readying_so x to = either_so x (joins x.tasks) _ _ tt (tt, tt)

  installed_so : (x : UpNode) (from : ℕ) (i : Install) (seat : Seat) → G x (cuts.installed_course c me x from i seat)
  installed_so x from i (Member s) = readying_so x from
  installed_so x from i (Forming s) = either_so x (s.saved.installed == i.epoch) _ _ (readying_so x from) (tt, readying_so (changed c me x (Installs s i)) from)

  install_so : (x : UpNode) (from : ℕ) (i : Install) → G x (cuts.install_course c me x from i)
  install_so x from i = either_so x (is_in x i.epoch) _ _ (installed_so x from i x.seat) (tt, tt)

  start_so : (x : UpNode) (e : ℕ) (seat : Seat) → G x (cuts.start_course e seat)
  start_so x e (Member s) = tt
  start_so x e (Forming s) = either_so x (starts_now s e) _ _ (kept_if_so x (is_some s.saved.entries.pending) (Sits s e) Stops tt tt) tt

  notice_so : (x : UpNode) (e newest : ℕ) → G x (cuts.notice_course x e newest)
  notice_so x e newest = either_so x (is_in x e) _ _ tt tt

  -- Requests at their president.

  answering_so : (x : UpNode) (p q : Presidency) (a : Arrived) (told : Answer) → x.presidency ≡ Some p → first_in p.proposals.arrived ≡ Some a → q.proposals ≡ p.proposals → G x (cuts.answering_course c me x q a told)
  answering_so x p q a told is first same = (asides.given_away me x x a told, (asides.minds_answer came me v x p q a told is first same, deciding_so (left_answered me x q a told)))

  acknowledged_so : (x : UpNode) (p : Presidency) (a : Arrived) (text : List ℕ) → first_in p.proposals.arrived ≡ Some a → G x (cuts.acknowledged_course c me x p a text)
  acknowledged_so x p a text first = (
    asides.change_answer came me v x p (with_committed c x p text) a answer.Ok first (taken_same (in_force c (committing x)) p (command_of (version_of c) text)),
    (tt, (asides.given_away me x (changed c me x (acks_of c me x p a text)) a answer.Ok, deciding_so (changed c me x (acks_of c me x p a text)))),
  )

  acknowledging_text_so : (x : UpNode) (p : Presidency) (o : Option Arrived) (text : Option (List ℕ)) → first_in p.proposals.arrived ≡ o → G x (cuts.acknowledging_text_course c me x p o text)
  acknowledging_text_so x p (Some a) (Some text) first = acknowledged_so x p a text first
  acknowledging_text_so x p None text first = tt
  acknowledging_text_so x p (Some a) None first = tt

  acknowledging_by_so : (x : UpNode) (o : Option Presidency) → G x (cuts.acknowledging_by_course c me x o)
  acknowledging_by_so x None = tt
  acknowledging_by_so x (Some p) = acknowledging_text_so x p (first_in p.proposals.arrived) (record_of x).entries.pending refl

  acknowledging_so : (x : UpNode) → G x (cuts.acknowledging_course c me x)
  acknowledging_so x = acknowledging_by_so x x.presidency

  proposing_so : (x : UpNode) (p : Presidency) (text : List ℕ) → G x (cuts.proposing_course c me x p text)
  proposing_so x p text = (tt, (tt, either_so (proposed_by c me x p text) (others_of me x == 0) _ _ (acknowledging_so (proposed_by c me x p text)) tt))

  acting_so : (x : UpNode) (p : Presidency) (a : Arrived) (ask : Ask) → x.presidency ≡ Some p → first_in p.proposals.arrived ≡ Some a → G x (cuts.acting_course c me x p a ask)
  acting_so x p a ask is first = either_so x (may_order p.groups) _ _ (asides.orders_away me x (orders_for p.groups ask), answering_so x p (with_act c me x p a ask) a answer.Ok is first refl) tt

  taken_as_so : (x : UpNode) (p : Presidency) (a : Arrived) (r : Result Accepted CheckError) → x.presidency ≡ Some p → first_in p.proposals.arrived ≡ Some a → G x (cuts.taken_as_course c me x p a r)
  taken_as_so x p a (Ok (accepted.Change u)) is first = proposing_so x p (words_of u)
  taken_as_so x p a (Ok (accepted.Act ask)) is first = acting_so x p a ask is first
  taken_as_so x p a (Ok (accepted.Query q)) is first = answering_so x p p a answer.Ok is first refl
  taken_as_so x p a (Err (because.Refused r)) is first = answering_so x p p a (answer.Refused r) is first refl
  taken_as_so x p a (Err because.NoMemory) is first = tt

  taken_so : (x : UpNode) (p : Presidency) (a : Arrived) (r : Result wanted.Request WordError) → x.presidency ≡ Some p → first_in p.proposals.arrived ≡ Some a → G x (cuts.taken_course c me x p a r)
  taken_so x p a (Ok (asked.Change u)) is first = either_so x (is_busy p.groups) _ _ tt (taken_as_so x p a (checked c x p (wish.Change u)) is first)
  taken_so x p a (Ok (asked.Act ask)) is first = either_so x (is_busy p.groups && is_clear ask) _ _ tt (taken_as_so x p a (checked c x p (wish.Act ask)) is first)
  taken_so x p a (Err e) is first = answering_so x p p a (word_answer e) is first refl

  turn_of_so : (x : UpNode) (p : Presidency) (o : Option Proposed) (first : Option Arrived) → x.presidency ≡ Some p → first_in p.proposals.arrived ≡ first → G x (cuts.turn_of_course c me x p o first)
  turn_of_so x p None (Some a) is at = taken_so x p a (request_of (version_of c) a.text) is at
  turn_of_so x p None None is at = tt
  turn_of_so x p (Some proposed) first is at = tt

  turn_by_so : (x : UpNode) (o : Option Presidency) → x.presidency ≡ o → G x (cuts.turn_by_course c me x o)
  turn_by_so x None is = tt
  turn_by_so x (Some p) is = turn_of_so x p p.proposals.proposed (first_in p.proposals.arrived) is refl

  one_turn_so : (x : UpNode) → G x (cuts.one_turn_course c me x)
  one_turn_so x = turn_by_so x x.presidency refl

  turns_so : (x : UpNode) (k : ℕ) → G x (cuts.turns_course c me x k)
  turns_so x zero = tt
  turns_so x (suc k) = then_so x _ _ (turns_so x k) (λ z. one_turn_so z)

  handling_so : (x : UpNode) → G x (cuts.handling_course c me x)
  handling_so x = turns_so x (requests_of x x.presidency)

  kept_again_so : (x : UpNode) (from : ℕ) (o : Option Kept) → G x (cuts.kept_again_course x from o)
  kept_again_so x from None = tt
  kept_again_so x from (Some k) = (tt, tt)

  arrived_so : (x : UpNode) (p : Presidency) (a : Arrived) (how : Arrival) → x.presidency ≡ Some p → arrival_of p.proposals a.from a.number ≡ how → C x a → G x (cuts.arrived_course c me x p a how)
  arrived_so x p a New is new cause =
      let s : State = with_arrival p.proposals a New in
      (asides.so_own came me v x p (record p { proposals = s }) is (inr (record { request = a; new = new; is = refl; cause = cause })), handling_so (with_proposals x p s))
  arrived_so x p a Waits_already is new cause = tt
  arrived_so x p a Answered_last is new cause = kept_again_so x a.from (kept_at p.proposals.answers a.from)
  arrived_so x p a Past is new cause = tt

  arriving_so : (x : UpNode) (p : Presidency) (a : Arrived) → x.presidency ≡ Some p → C x a → G x (cuts.arriving_course c me x p a)
  arriving_so x p a is cause = arrived_so x p a (arrival_of p.proposals a.from a.number) is refl cause

  requested_so : (x : UpNode) (from e number : ℕ) (text : List ℕ) (m : Message) (o : Option Presidency) → membership_in x.seat ≡ v → x.presidency ≡ o → came ≡ Packet from m → m.body ≡ body.Request e number text → is_of_member x from e ≡ true
      → G x (cuts.requested_course c me x from number text o)
  requested_so x from e number text m None seat is at says here = tt
  requested_so x from e number text m (Some p) seat is at says here =
      arriving_so x p (record { from = from; number = number; text = text }) is (inl (record { message = m; input = at; epoch = e; says = says; member = sym seat ∙ member_here x from e here; here = here }))

  asked_so : (x : UpNode) (from e number : ℕ) (text : List ℕ) (m : Message) → membership_in x.seat ≡ v → came ≡ Packet from m → m.body ≡ body.Request e number text → G x (cuts.asked_course c me x from e number text)
  asked_so x from e number text m seat at says =
      if_with (λ z. G x z) (is_of_member x from e) (is_of_member x from e) _ _ refl (λ here. requested_so x from e number text m x.presidency seat refl at says here) (λ here. tt)

  -- Requests at the node that asks.

  request_to_so : (x : UpNode) (r : Request) (o : Option ℕ) → coordinator_of x ≡ o → x.presidency ≡ None → oldest x.requests ≡ Some r → G x (cuts.request_to_course x r o)
  request_to_so x r None is none first = tt
  request_to_so x r (Some president) is none first = (record { none = none; coordinates = is; waits = ap is_some first }, tt)

  asking_of_so : (x : UpNode) (r : Request) (o : Option Presidency) → oldest x.requests ≡ Some r → x.presidency ≡ o → G x (cuts.asking_of_course c me x r o)
  asking_of_so x r None first is = request_to_so x r (coordinator_of x) refl is first
  asking_of_so x r (Some p) first is = arriving_so x p (own_arrival me r) is (inr (record { request = r; first = first; is = refl }))

  asking_for_so : (x : UpNode) (o : Option Request) → oldest x.requests ≡ o → G x (cuts.asking_for_course c me x o)
  asking_for_so x None first = tt
  asking_for_so x (Some r) first = asking_of_so x r x.presidency first refl

  asking_so : (x : UpNode) → G x (cuts.asking_course c me x)
  asking_so x = asking_for_so x (oldest x.requests) refl

  pub asking_if_so : (alone : Bool) (x : UpNode) → G x (cuts.asking_if_course alone c me x)
  asking_if_so alone x = either_so x alone _ _ (asking_so x) tt

  -- A command.

  replying_so : (x : UpNode) (number : ℕ) (told : Answer) → G x (cuts.replying_course me number told)
  replying_so x number told = ((tt, tt), tt)

  waiting_so : (x : UpNode) (number : ℕ) (text : List ℕ) → number ≤ x.requests.asked → IsLast me x number → G x (cuts.waiting_course c me x number text)
  waiting_so x number text low last =
      either_so x (is_full x.requests) _ _ (replying_so x number answer.QueueFull) (
        (asides.no_fewer x x.requests refl, inr (inl (record { request = record { number = number; text = text; told = true; second = x.second }; waiting = refl; low = low; last = last; same = refl }))),
        asking_if_so (is_idle x.requests.waiting) (waiting_with x number text),
      )

  elsewhere_so : (x : UpNode) (number : ℕ) (o : Option ℕ) → G x (cuts.elsewhere_course me number o)
  elsewhere_so x number None = tt
  elsewhere_so x number (Some president) = replying_so x number (answer.Ask president)

  telling_so : (x : UpNode) (number : ℕ) (lines : List StatusEntry) → G x (cuts.telling_course me number lines)
  telling_so x number lines = (asides.lines_away x lines, replying_so x number answer.Ok)

  query_so : (x : UpNode) (p : Presidency) (number : ℕ) (s : ConfigState) (r : Result Accepted CheckError) → G x (cuts.query_course me x p number s r)
  query_so x p number s (Ok (accepted.Query q)) = telling_so x number (query_lines x p s q)
  query_so x p number s (Ok (accepted.Change u)) = tt
  query_so x p number s (Ok (accepted.Act ask)) = tt
  query_so x p number s (Err (because.Refused r)) = replying_so x number (answer.Refused r)
  query_so x p number s (Err because.NoMemory) = tt

  queried_so : (x : UpNode) (number : ℕ) (question : AdminCommand) (o : Option Presidency) → G x (cuts.queried_course c me x number question o)
  queried_so x number question None = elsewhere_so x number (coordinator_of x)
  queried_so x number question (Some p) = either_so x (is_full x.requests) _ _ (replying_so x number answer.QueueFull) (query_so x p number (in_force c x) (checked c x p question))

  commanded_so : (x : UpNode) (number : ℕ) (o : AdminCommand) → number ≤ x.requests.asked → IsLast me x number → G x (cuts.commanded_course c me x number o)
  commanded_so x number (wish.Change u) low last = waiting_so x number (words_of u) low last
  commanded_so x number (wish.Act a) low last = waiting_so x number (ask_words_of a) low last
  commanded_so x number (wish.Status q) low last = queried_so x number (wish.Status q) x.presidency
  commanded_so x number (wish.Rows table) low last = queried_so x number (wish.Rows table) x.presidency

  worded_so : (x : UpNode) (number : ℕ) (r : Result AdminCommand WordError) → number ≤ x.requests.asked → IsLast me x number → G x (cuts.worded_course c me x number r)
  worded_so x number (Err e) low last = replying_so x number (word_answer e)
  worded_so x number (Ok command) low last = either_so x (is_member x.seat) _ _ (commanded_so x number command low last) (replying_so x number answer.NotMember)

  -- the next number is taken first
  pub numbered_so : (x : UpNode) (words : List ℕ) → HasNext me x → G (numbered x) (cuts.worded_course c me (numbered x) (next_number x.requests) (command_of (version_of c) words))
  numbered_so x words next =
      worded_so (numbered x) (next_number x.requests) (command_of (version_of c) words) (no_more (next_number x.requests)) (record { above = next.last.above; unanswered = next.last.unanswered })
    where
      no_more : (k : ℕ) → k ≤ k
      no_more k = omega arith

  -- The president's answer.

  replied_to_so : (x : UpNode) (number : ℕ) (told : Answer) (o : Option Request) → TakesReply came x (queue.answered x.requests number) x.presidency → G x (cuts.replied_to_course c me x number told o)
  replied_to_so x number told None reply = tt
  replied_to_so x number told (Some r) reply = (
    asides.own_away me x told (Some r),
    ((asides.no_fewer x (queue.answered x.requests number) (asides.answered_asked x.requests number), inr (inr (inr reply))), asking_so (record x { requests = queue.answered x.requests number })),
  )

  replied_so : (x : UpNode) (number : ℕ) (o : Option Answer) → TakesReply came x (queue.answered x.requests number) x.presidency → G x (cuts.replied_course c me x number o)
  replied_so x number None reply = tt
  replied_so x number (Some told) reply = replied_to_so x number told (found x.requests.waiting number) reply

  reply_so : (x : UpNode) (from : ℕ) (m : Message) (e number : ℕ) (text : List ℕ) (o : Option Answer) → came ≡ Packet from m → m.body ≡ body.Answer e number text → G x (cuts.reply_course c me x e number o)
  reply_so x from m e number text o at says =
      if_with (λ z. G x z) (is_member x.seat && is_in x e) (is_member x.seat && is_in x e) _ _ refl
      (λ here. replied_so x number o
      (record { from = from; message = m; input = at; epoch = e; number = number; text = text; says_so = says; here = here; waiting = refl; same = refl })) (λ here. tt)

  preparing_so : (x : UpNode) (from e place : ℕ) (s : NodeState) (text : List ℕ) (o : Prepared) → G x (cuts.preparing_course from e place s text o)
  preparing_so x from e place s text Taken = (tt, (tt, tt))
  preparing_so x from e place s text Already = (tt, tt)
  preparing_so x from e place s text (Gap k) = tt

  prepare_so : (x : UpNode) (from e place : ℕ) (text : List ℕ) (seat : Seat) → G x (cuts.prepare_course x from e place text seat)
  prepare_so x from e place text (Forming s) = tt
  prepare_so x from e place text (Member s) = either_so x (is_in x e) _ _ (preparing_so x from e place s text (answer_for (length (texts_of s.saved.entries)) place)) tt

  prepared_all_so : (x : UpNode) (p : Presidency) → G x (cuts.prepared_all_course c me x p)
  prepared_all_so x p = either_so x (is_prepared p.proposals) _ _ (then_so x _ _ (acknowledging_so x) (λ z. handling_so z)) tt

  prepared_at_so : (x : UpNode) (from place : ℕ) (o : Option Presidency) → G x (cuts.prepared_at_course c me x from place o)
  prepared_at_so x from place None = tt
  prepared_at_so x from place (Some p) = let s : State = prepared_by p.proposals from place in (tt, prepared_all_so (with_proposals x p s) (record p { proposals = s }))

  prepared_so : (x : UpNode) (from e place : ℕ) → G x (cuts.prepared_course c me x from e place)
  prepared_so x from e place = either_so x (is_of_member x from e) _ _ (prepared_at_so x from place x.presidency) tt

  commit_so : (x : UpNode) (e place : ℕ) (seat : Seat) → G x (cuts.commit_course x e place seat)
  commit_so x e place (Forming s) = tt
  commit_so x e place (Member s) = either_so x (is_in x e && commits_now s place) _ _ (tt, tt) tt

  done_at_so : (x : UpNode) (from number : ℕ) (outcome : Outcome) (o : Option Presidency) → x.presidency ≡ o → G x (cuts.done_at_course c me x from number outcome o)
  done_at_so x from number outcome None is = tt
  done_at_so x from number outcome (Some p) is =
      either_so x (order.is_due p.groups.view from number) _ _ (
        asides.so_own came me v x p (with_ended c x p from number outcome) is (asides.stays_own (C x) p.proposals),
        then_so (record x { presidency = Some (with_ended c x p from number outcome) }) _ _ (deciding_so (record x { presidency = Some (with_ended c x p from number outcome) })) (λ z. handling_so z),
      ) tt

  done_so : (x : UpNode) (from e number : ℕ) (outcome : Outcome) → G x (cuts.done_course c me x from e number outcome)
  done_so x from e number outcome = either_so x (is_of_member x from e) _ _ (done_at_so x from number outcome x.presidency refl) tt

  carrying_so : (x : UpNode) (o : Order) (how : Carried) → G x (cuts.carrying_course c me x o how)
  carrying_so x o how = (asides.order_away me x o how, either_so x (is_last c x o how) _ _ tt (tt, tt))

  order_answered_so : (from : ℕ) (o : Order) (how : Carried) (x : UpNode) → G x (cuts.order_answered_course from o how x)
  order_answered_so from o carried.Old x = tt
  order_answered_so from o (carried.Called outcome) x = (tt, tt)
  order_answered_so from o carried.Cleared x = (tt, tt)
  order_answered_so from o (carried.Kept outcome) x = (tt, tt)

  obeying_so : (x : UpNode) (from : ℕ) (o : Order) (how : Carried) → G x (cuts.obeying_course c me x from o how)
  obeying_so x from o how = then_so x (cuts.carrying_course c me x o how) _ (carrying_so x o how) (λ z. order_answered_so from o how z)

  order_so : (outcome : Outcome) (x : UpNode) (from : ℕ) (o : Order) → G x (cuts.order_course c me outcome x from o)
  order_so outcome x from o = either_so x (is_member x.seat && is_in x o.epoch) _ _ (obeying_so x from o (answer_to x.worker o outcome)) tt

  own_done_so : (o : Order) (how : Carried) (x : UpNode) → G x (cuts.own_done_course c me o how x)
  own_done_so o how x = done_at_so x me o.number (outcome_in how) x.presidency refl

  own_turn_so : (outcome : Outcome) (x : UpNode) (o : Option Order) → G x (cuts.own_turn_course c me outcome x o)
  own_turn_so outcome x None = tt
  own_turn_so outcome x (Some o) = then_so x (cuts.carrying_course c me x o (answer_to x.worker o outcome)) _ (carrying_so x o (answer_to x.worker o outcome)) (λ z. own_done_so o (answer_to x.worker o outcome) z)

  prepares_so : (before x : UpNode) (o : Option Proposed) (text : Option (List ℕ)) (rest : Course) → G x rest → G x (cuts.prepares_course before o text rest)
  prepares_so before x (Some p) (Some text) rest k = (tt, k)
  prepares_so before x None text rest k = k
  prepares_so before x (Some p) None rest k = k

  prepares_again_so : (before x : UpNode) (o : Option Presidency) (rest : Course) → G x rest → G x (cuts.prepares_again_course before o rest)
  prepares_again_so before x None rest k = k
  prepares_again_so before x (Some p) rest k = either_so x (goes_again p.proposals) _ _ (prepares_so before x p.proposals.proposed (record_of before).entries.pending rest k) k

  going_again_so : (before x : UpNode) → G x (cuts.going_again_course c me before x)
  going_again_so before x = prepares_again_so before x before.presidency (Acts (Gives (orders_again before x)) (cuts.deciding_course c me x)) (asides.again_away x before.presidency x.presidency, deciding_so x)

  governing_so : (outcome : Outcome) (before x : UpNode) → G x (cuts.governing_course c me outcome before x)
  governing_so outcome before x = then_so x _ _ (own_turn_so outcome x (own_order me x)) (λ z. going_again_so before z)

  tick_so : (outcome : Outcome) (x : UpNode) → G x (cuts.tick_course c me outcome x)
  tick_so outcome x = (tt, then_so (later c x) _ _ (governing_so outcome x (later c x)) (λ y. ticked_so y y.attempt))

  serving_so : (x : UpNode) (p : Presidency) (name : List ℕ) (client port : ℕ) (o : serving.Outcome) → x.presidency ≡ Some p → G x (cuts.serving_course x p name client port o)
  serving_so x p name client port o is =
      (asides.served_away x name client port o, (asides.so_own came me v x p (balanced p name o) is (asides.stays_own (C x) p.proposals), tt))

  serving_at_so : (s : ConfigState) (x : UpNode) (p : Presidency) (name : List ℕ) (client port : ℕ) (o : Option Address) → x.presidency ≡ Some p → G x (cuts.serving_at_course s x p name client port o)
  serving_at_so s x p name client port None is = tt
  serving_at_so s x p name client port (Some a) is = serving_so x p name client port (serving.chosen (clients.state_of p.balancer name) (request_for s p a client port)) is

  serving_by_so : (x : UpNode) (name : List ℕ) (client port : ℕ) (o : Option Presidency) → x.presidency ≡ o → G x (cuts.serving_by_course c x name client port o)
  serving_by_so x name client port None is = tt
  serving_by_so x name client port (Some p) is = serving_at_so (in_force c x) x p name client port (named (in_force c x).addresses name) is

  client_so : (x : UpNode) (name : List ℕ) (client port : ℕ) → G x (cuts.client_course c x name client port)
  client_so x name client port = serving_by_so x name client port x.presidency refl

  answer_so : (x : UpNode) (from : ℕ) (m : Message) (o : Option AttemptState) → G x (cuts.answer_course c me x from m o)
  answer_so x from m None = tt
  answer_so x from m (Some a) = going_so x a (Take from m) tt

  body_so : (outcome : Outcome) (x : UpNode) (from : ℕ) (m : Message) (b : Body) → membership_in x.seat ≡ v → came ≡ Packet from m → m.body ≡ b → G x (cuts.body_course c me outcome x from m b)
  body_so outcome x from m (body.Heartbeat promised session member) seat at is = heartbeat_so x from session member
  body_so outcome x from m (body.Collect e members) seat at is = collect_so x from e
  body_so outcome x from m (body.Promise e installed members valid flagged committed pending) seat at is = answer_so x from m x.attempt
  body_so outcome x from m (body.Nack e promised) seat at is = answer_so x from m x.attempt
  body_so outcome x from m (body.SeizeQuorum e members d) seat at is = seizing_so x from Vote e members d
  body_so outcome x from m (body.SeizeData e members d) seat at is = seizing_so x from Plain e members d
  body_so outcome x from m (body.Seized e d ended) seat at is = answer_so x from m x.attempt
  body_so outcome x from m (body.Install i) seat at is = install_so x from i
  body_so outcome x from m (body.Ready e joined_devices report) seat at is = answer_so x from m x.attempt
  body_so outcome x from m (body.Start e) seat at is = start_so x e x.seat
  body_so outcome x from m (body.Excluded e newest) seat at is = notice_so x e newest
  body_so outcome x from m (body.Prepare e place text) seat at is = prepare_so x from e place text x.seat
  body_so outcome x from m (body.Prepared e place) seat at is = prepared_so x from e place
  body_so outcome x from m (body.Commit e place) seat at is = commit_so x e place x.seat
  body_so outcome x from m (body.Request e number text) seat at is = asked_so x from e number text m seat at is
  body_so outcome x from m (body.Answer e number text) seat at is = reply_so x from m e number text (answer_in text) at is
  body_so outcome x from m (body.Order o) seat at is = order_so outcome x from o
  body_so outcome x from m (body.Done e number ended) seat at is = done_so x from e number ended

  packet_so : (outcome : Outcome) (x : UpNode) (from : ℕ) (m : Message) → membership_in x.seat ≡ v → came ≡ Packet from m → G x (cuts.packet_course c me outcome x from m)
  packet_so outcome x from m seat at = either_so x (is_foreign c me x m.body) _ _ tt (tt, body_so outcome (hearing x from m.body) from m m.body seat at refl)

  distrusting_so : (x : UpNode) (o : Option ℕ) → G x (cuts.distrusting_course x o)
  distrusting_so x None = tt
  distrusting_so x (Some d) = either_so x (has (record_of x).valid d) _ _ (tt, tt) tt

  own_seized_so : (x : UpNode) (d : ℕ) (result : SeizeResult) (o : Option AttemptState) → G x (cuts.own_seized_course c me x d result o)
  own_seized_so x d result None = tt
  own_seized_so x d result (Some a) = going_so x a (Own_seized d result) tt

  seized_so : (x : UpNode) (d : ℕ) (result : SeizeResult) (o : Option ℕ) → G x (cuts.seized_course c me x d result o)
  seized_so x d result None = tt
  seized_so x d result (Some coordinator) = either_so x (coordinator == me) _ _ (own_seized_so x d result x.attempt) (tt, tt)

  joined_so : (x : UpNode) (o : Option ℕ) → G x (cuts.joined_course c me x o)
  joined_so x None = tt
  joined_so x (Some coordinator) = either_so x (coordinator == me) _ _ (own_ready_so x) (readying_so x coordinator)

  joins_device_so : (x : UpNode) (at : ℕ) (command : PrCommand) (a : DeviceAnswer) (d : ℕ) (r : JoinResult) → G x (cuts.joining_course c me x at command a d r)
  joins_device_so x at command a d join.Joined = (tt, joined_so (joining_so (answered_so x a) d) (coordinator_of (joining_so (answered_so x a) d)))
  joins_device_so x at command a d (join.Late w) = (tt, joined_so (answered_so x a) (coordinator_of (answered_so x a)))
  joins_device_so x at command a d join.Fault = (tt, joined_so (answered_so x a) (coordinator_of (answered_so x a)))

  progress_so : (x : UpNode) (at : ℕ) (command : PrCommand) (a : DeviceAnswer) (p : Progress) → G x (cuts.progress_course c me x at command a p)
  progress_so x at command a GoesOn = (tt, tt)
  progress_so x at command a (Seized d result) = (tt, seized_so (answered_so x a) d result (coordinator_of (answered_so x a)))
  progress_so x at command a (Joined d result) = joins_device_so x at command a d result

  answer_taken_so : (x : UpNode) (a : DeviceAnswer) (o : Option ℕ) (command : Option PrCommand) → G x (cuts.answered_course c me x a o command)
  answer_taken_so x a (Some d) (Some command) = progress_so x d command a (progress_after x.tasks a)
  answer_taken_so x a None command = tt
  answer_taken_so x a (Some d) None = tt

  fenced_so : (x : UpNode) (d : ℕ) (a : DeviceAnswer) → G x (cuts.fenced_course d a)
  fenced_so x d (Ok given.Good) = tt
  fenced_so x d (Ok given.Conflict) = tt
  fenced_so x d (Ok given.InvalidRelease) = tt
  fenced_so x d (Ok given.NoPath) = tt
  fenced_so x d (Ok (given.Keys keys)) = tt
  fenced_so x d (Ok (given.Holder holder)) = tt
  fenced_so x d (Ok (given.Word w)) = tt
  fenced_so x d (Ok (given.Value v)) = tt
  fenced_so x d (Ok (given.Miscompare w)) = tt
  fenced_so x d (Err e) = tt

  course_of_so : (outcome : Outcome) (x : UpNode) (i : Input) → membership_in x.seat ≡ v → came ≡ i → IsNoCommand i → G x (cuts.course_of c me outcome x i)
  course_of_so outcome x Boot seat at plain = tt
  course_of_so outcome x Crash seat at plain = tt
  course_of_so outcome x Tick seat at plain = tick_so outcome x
  course_of_so outcome x (Packet from message) seat at plain = packet_so outcome x from message seat at
  course_of_so outcome x CommandDue seat at plain = distrusting_so x (begins_plainly x.tasks)
  course_of_so outcome x (Answered a) seat at plain = answer_taken_so x a (due_device x.tasks) (next_of x.tasks)
  course_of_so outcome x (Wrote d value a) seat at plain = (tt, fenced_so x d a)
  course_of_so outcome x (Commanded words) seat at plain = absurd plain
  course_of_so outcome x (Reported r good) seat at plain = absurd plain
  course_of_so outcome x (Client name client port) seat at plain = client_so x name client port

  pub course_at_so : (now : ℕ) (outcome : Outcome) (x : UpNode) (i : Input) → membership_in x.seat ≡ v → came ≡ i → IsNoCommand i → G x (cuts.course_at c me now outcome x i)
  course_at_so now outcome x i seat at plain = (tt, course_of_so outcome (at_second now x) i seat at plain)

-- ---- all courses

pub own_each : (c : Cluster) → EachGoes c HasNext ActOwn ChangeOwn
own_each c = record {
  plain = λ n now ends x i plain. course_at_so c n i (membership_in x.seat) now ends x i refl refl plain;
  words = λ n x words next. numbered_so c n (Commanded words) (membership_in x.seat) x words next;
  reports = λ n i x r how. (tt, tt);
  works = λ n i x w. tt;
  monitors = λ n i x ask. asking_if_so c n i (membership_in x.seat) (is_idle x.requests.waiting) (monitor_asked x ask);
}
