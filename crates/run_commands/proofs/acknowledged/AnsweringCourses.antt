-- Each course of a step goes as the guards say: a president gives the first request its answer and then keeps it, or acknowledges its update and then gives the answer that it owes.
use Rattle.ccr_commit.specs.Entries.{answer_for, texts_of}
use Rattle.ccr_commit.specs.declared.entries.Prepared.{Prepared}
use Rattle.ccr_commit.specs.declared.entries.Prepared.TheVariants.{Taken, Already, Gap}
use Rattle.ccr_tables.specs.State.{ConfigState}
use Rattle.cl_base.specs.Sets.{has}
use Rattle.cl_base.specs.declared.method.Outcome.{Outcome}
use Rattle.cl_base.specs.Seizings.{SeizeResult}
use Rattle.cmm_attempt.specs.Attempts.{AttemptState}
use Rattle.cmm_attempt.specs.Calls.{Own_seized, Take}
use Rattle.cmm_member.specs.Nodes.{NodeState}
use Rattle.device_queue.specs.declared.progress.Progress.{Progress}
use Rattle.device_queue.specs.declared.progress.Progress.TheVariants.{GoesOn, Seized, Joined}
use Rattle.device_queue.specs.Queue.{begins_plainly, due_device, next_of, progress_after}
use Rattle.pgr_device.specs.declared.command.PrAnswer.TheVariants as given
use Rattle.pgr_device.specs.declared.command.PrCommand.{PrCommand}
use Rattle.proposals.specs.Proposing.{goes_again, is_prepared, prepared_by}
use Rattle.proposals.specs.State.{State}
use Rattle.proposals.specs.declared.arrived.Arrived.{Arrived}
use Rattle.proposals.specs.declared.arrived.Proposed.{Proposed}
use Rattle.rgm_member.specs.Orders.{answer_to, outcome_in}
use Rattle.rgm_member.specs.declared.carried.Carried.{Carried}
use Rattle.rgm_member.specs.declared.carried.Carried.TheVariants as carried
use Rattle.rgm_state.specs.Outcomes as order
use Rattle.seize.specs.Answers.{Answer as DeviceAnswer}
use Rattle.seize.specs.declared.kind.JoinResult.{JoinResult}
use Rattle.seize.specs.declared.kind.JoinResult.TheVariants as join
use Rattle.seize.specs.declared.kind.SeizeKind.TheVariants.{Vote, Plain}
use Rattle.wire.specs.declared.message.Body.{Body}
use Rattle.wire.specs.declared.message.Body.TheVariants as body
use Rattle.wire.specs.declared.message.Message.{Message}
use Rattle.wire.specs.declared.message.Order.{Order}
use Rattle.node_model.specs.Addresses.{request_for}
use Rattle.ccr_tables.specs.declared.address.Address.{Address}
use Rattle.rg_props.specs.Lookups.{named}
use Rattle.shared_address.specs.Choosing as serving
use Rattle.shared_address.specs.History as clients
use Rattle.node_model.specs.declared.cluster.Cluster.{Cluster}
use Rattle.node_model.specs.declared.input.Input.{Input}
use Rattle.node_model.specs.declared.input.Input.TheVariants.{Boot, Crash, Tick, Packet, CommandDue, Answered, Wrote, Commanded, Reported, Client}
use Rattle.node_model.specs.declared.node.UpNode.{UpNode}
use Rattle.node_model.specs.declared.presidency.Presidency.{Presidency}
use Rattle.node_model.specs.declared.seat.Seat.{Seat}
use Rattle.node_model.specs.declared.seat.Seat.TheVariants.{Forming, Member}
use Rattle.node_model.specs.Configurations.{in_force}
use Rattle.node_model.specs.Devices.{joining_so}
use Rattle.node_model.specs.Groups.{is_last, orders_again, own_order, with_ended}
use Rattle.node_model.specs.Members.{hearing, is_foreign}
use Rattle.node_model.specs.Presidents.{with_proposals}
use Rattle.node_model.specs.Ticks.{later}
use Rattle.node_model.specs.Steps.{at_second}
use Rattle.node_model.specs.Updates.{commits_now}
use Rattle.refinement.specs.Courses.{Course}
use Rattle.refinement.specs.Courses.Course.{Acts}
use Rattle.refinement.specs.Cuts as cuts
use Rattle.std.specs.Prelude.{ℕ, ◌≡◌, ◌==◌, ◌&&◌, List, length, Option, None, Some, Ok, Err}
use Rattle.std.proofs.Common.{refl, inl}
use Rattle.node_model.specs.Seats.{coordinator_of, is_in, is_member, record_of}
use Rattle.refinement.specs.Doings.{answered_so}
use Rattle.refinement.specs.Doings.Act.{Gives}
use Rattle.node_model.specs.Updates.{is_of_member}
use Rattle.refinement.specs.Cuts.{balanced}
use Rattle.run_messages.specs.Laws.{membership_in}
use Rattle.run_commands.specs.acknowledged.Guards.{CauseOf}
use Rattle.run_commands.specs.acknowledged.Hands.{Stays_or_comes}
use Rattle.run_commands.specs.acknowledged.AnsweringGuards.{GoesSo}
use Rattle.run_commands.specs.acknowledged.AnsweringGuards.Due.{Even}
use Rattle.run_commands.proofs.acknowledged.Dues.{again_still, at_office, order_still, served_still, stays_so}
use Rattle.run_commands.proofs.acknowledged.Forming.{collect_so, deciding_so, either_so, going_so, heartbeat_so, install_so, notice_so, own_ready_so, readying_so, seizing_so, start_so, then_so, ticked_so}
use Rattle.run_commands.proofs.acknowledged.Offices.{acknowledging_so, asked_so, handling_so}
use Rattle.run_commands.proofs.acknowledged.Asking.{command_so, reply_so, report_so}

module _ (c : Cluster) (me : ℕ) (came : Input) (v : Option ℕ) where
  abbrev G : UpNode → Course → Type 0
  G x k = GoesSo c came me v Even x k

  abbrev C : UpNode → Arrived → Type 0
  C x a = CauseOf came me v x a

  preparing_so : (x : UpNode) (from e place : ℕ) (s : NodeState) (text : List ℕ) (o : Prepared) → G x (cuts.preparing_course from e place s text o)
  preparing_so x from e place s text Taken = (Even, refl, (Even, (refl, inl tt, refl), refl))
  preparing_so x from e place s text Already = (Even, (refl, inl tt, refl), refl)
  preparing_so x from e place s text (Gap k) = refl

  prepare_so : (x : UpNode) (from e place : ℕ) (text : List ℕ) (seat : Seat) → G x (cuts.prepare_course x from e place text seat)
  prepare_so x from e place text (Forming s) = refl
  prepare_so x from e place text (Member s) = either_so c me came v x (is_in x e) _ _ (preparing_so x from e place s text (answer_for (length (texts_of s.saved.entries)) place)) refl

  prepared_all_so : (x : UpNode) (p : Presidency) → G x (cuts.prepared_all_course c me x p)
  prepared_all_so x p = either_so c me came v x (is_prepared p.proposals) _ _ (then_so c me came v x _ _ (acknowledging_so c me came v x) (λ z. handling_so c me came v z)) refl

  prepared_at_so : (x : UpNode) (from place : ℕ) (o : Option Presidency) → G x (cuts.prepared_at_course c me x from place o)
  prepared_at_so x from place None = refl
  prepared_at_so x from place (Some p) = let s : State = prepared_by p.proposals from place in (Even, (refl, refl), prepared_all_so (with_proposals x p s) (record p { proposals = s }))

  prepared_so : (x : UpNode) (from e place : ℕ) → G x (cuts.prepared_course c me x from e place)
  prepared_so x from e place = either_so c me came v x (is_of_member x from e) _ _ (prepared_at_so x from place x.presidency) refl

  commit_so : (x : UpNode) (e place : ℕ) (seat : Seat) → G x (cuts.commit_course x e place seat)
  commit_so x e place (Forming s) = refl
  commit_so x e place (Member s) = either_so c me came v x (is_in x e && commits_now s place) _ _ (Even, refl, refl) refl

  done_at_so : (x : UpNode) (from number : ℕ) (outcome : Outcome) (o : Option Presidency) → x.presidency ≡ o → G x (cuts.done_at_course c me x from number outcome o)
  done_at_so x from number outcome None is = refl
  done_at_so x from number outcome (Some p) is =
      either_so c me came v x (order.is_due p.groups.view from number) _ _ (
        Even,
        (at_office (Stays_or_comes (C x)) x.presidency p (with_ended c x p from number outcome) is (stays_so (C x) p.proposals), refl),
        then_so c me came v (record x { presidency = Some (with_ended c x p from number outcome) }) _ _ (deciding_so c me came v (record x { presidency = Some (with_ended c x p from number outcome) })) (λ z. handling_so c me came v z),
      ) refl

  done_so : (x : UpNode) (from e number : ℕ) (outcome : Outcome) → G x (cuts.done_course c me x from e number outcome)
  done_so x from e number outcome = either_so c me came v x (is_of_member x from e) _ _ (done_at_so x from number outcome x.presidency refl) refl

  carrying_so : (x : UpNode) (o : Order) (how : Carried) → G x (cuts.carrying_course c me x o how)
  carrying_so x o how = (Even, inl (order_still me o how, refl), either_so c me came v x (is_last c x o how) _ _ tt (Even, (refl, refl), refl))

  order_answered_so : (from : ℕ) (o : Order) (how : Carried) (x : UpNode) → G x (cuts.order_answered_course from o how x)
  order_answered_so from o carried.Old x = refl
  order_answered_so from o (carried.Called outcome) x = (Even, (refl, inl tt, refl), refl)
  order_answered_so from o carried.Cleared x = (Even, (refl, inl tt, refl), refl)
  order_answered_so from o (carried.Kept outcome) x = (Even, (refl, inl tt, refl), refl)

  obeying_so : (x : UpNode) (from : ℕ) (o : Order) (how : Carried) → G x (cuts.obeying_course c me x from o how)
  obeying_so x from o how = then_so c me came v x (cuts.carrying_course c me x o how) _ (carrying_so x o how) (λ z. order_answered_so from o how z)

  order_so : (outcome : Outcome) (x : UpNode) (from : ℕ) (o : Order) → G x (cuts.order_course c me outcome x from o)
  order_so outcome x from o = either_so c me came v x (is_member x.seat && is_in x o.epoch) _ _ (obeying_so x from o (answer_to x.worker o outcome)) refl

  own_done_so : (o : Order) (how : Carried) (x : UpNode) → G x (cuts.own_done_course c me o how x)
  own_done_so o how x = done_at_so x me o.number (outcome_in how) x.presidency refl

  own_turn_so : (outcome : Outcome) (x : UpNode) (o : Option Order) → G x (cuts.own_turn_course c me outcome x o)
  own_turn_so outcome x None = refl
  own_turn_so outcome x (Some o) = then_so c me came v x (cuts.carrying_course c me x o (answer_to x.worker o outcome)) _ (carrying_so x o (answer_to x.worker o outcome)) (λ z. own_done_so o (answer_to x.worker o outcome) z)

  prepares_so : (before x : UpNode) (o : Option Proposed) (text : Option (List ℕ)) (rest : Course) → G x rest → G x (cuts.prepares_course before o text rest)
  prepares_so before x (Some p) (Some text) rest k = (Even, (tt, refl), k)
  prepares_so before x None text rest k = k
  prepares_so before x (Some p) None rest k = k

  prepares_again_so : (before x : UpNode) (o : Option Presidency) (rest : Course) → G x rest → G x (cuts.prepares_again_course before o rest)
  prepares_again_so before x None rest k = k
  prepares_again_so before x (Some p) rest k = either_so c me came v x (goes_again p.proposals) _ _ (prepares_so before x p.proposals.proposed (record_of before).entries.pending rest k) k

  going_again_so : (before x : UpNode) → G x (cuts.going_again_course c me before x)
  going_again_so before x = prepares_again_so before x before.presidency (Acts (Gives (orders_again before x)) (cuts.deciding_course c me x)) (Even, inl (again_still before.presidency x.presidency, refl), deciding_so c me came v x)

  governing_so : (outcome : Outcome) (before x : UpNode) → G x (cuts.governing_course c me outcome before x)
  governing_so outcome before x = then_so c me came v x _ _ (own_turn_so outcome x (own_order me x)) (λ z. going_again_so before z)

  tick_so : (outcome : Outcome) (x : UpNode) → G x (cuts.tick_course c me outcome x)
  tick_so outcome x = (Even, (refl, refl), then_so c me came v (later c x) _ _ (governing_so outcome x (later c x)) (λ y. ticked_so c me came v y y.attempt))

  serving_so : (x : UpNode) (p : Presidency) (name : List ℕ) (client port : ℕ) (o : serving.Outcome) → x.presidency ≡ Some p → G x (cuts.serving_course x p name client port o)
  serving_so x p name client port o is =
      (Even, inl (served_still name client port o, refl), (Even, (at_office (Stays_or_comes (C x)) x.presidency p (balanced p name o) is (stays_so (C x) p.proposals), refl), refl))

  serving_at_so : (s : ConfigState) (x : UpNode) (p : Presidency) (name : List ℕ) (client port : ℕ) (o : Option Address) → x.presidency ≡ Some p → G x (cuts.serving_at_course s x p name client port o)
  serving_at_so s x p name client port None is = refl
  serving_at_so s x p name client port (Some a) is = serving_so x p name client port (serving.chosen (clients.state_of p.balancer name) (request_for s p a client port)) is

  serving_by_so : (x : UpNode) (name : List ℕ) (client port : ℕ) (o : Option Presidency) → x.presidency ≡ o → G x (cuts.serving_by_course c x name client port o)
  serving_by_so x name client port None is = refl
  serving_by_so x name client port (Some p) is = serving_at_so (in_force c x) x p name client port (named (in_force c x).addresses name) is

  client_so : (x : UpNode) (name : List ℕ) (client port : ℕ) → G x (cuts.client_course c x name client port)
  client_so x name client port = serving_by_so x name client port x.presidency refl

  answer_so : (x : UpNode) (from : ℕ) (m : Message) (o : Option AttemptState) → G x (cuts.answer_course c me x from m o)
  answer_so x from m None = refl
  answer_so x from m (Some a) = going_so c me came v x a (Take from m) tt

  body_so : (outcome : Outcome) (x : UpNode) (from : ℕ) (m : Message) (b : Body) → membership_in x.seat ≡ v → came ≡ Packet from m → m.body ≡ b → G x (cuts.body_course c me outcome x from m b)
  body_so outcome x from m (body.Heartbeat promised session member) seat at is = heartbeat_so c me came v x from session member
  body_so outcome x from m (body.Collect e members) seat at is = collect_so c me came v x from e
  body_so outcome x from m (body.Promise e installed members valid flagged committed pending) seat at is = answer_so x from m x.attempt
  body_so outcome x from m (body.Nack e promised) seat at is = answer_so x from m x.attempt
  body_so outcome x from m (body.SeizeQuorum e members d) seat at is = seizing_so c me came v x from Vote e members d
  body_so outcome x from m (body.SeizeData e members d) seat at is = seizing_so c me came v x from Plain e members d
  body_so outcome x from m (body.Seized e d ended) seat at is = answer_so x from m x.attempt
  body_so outcome x from m (body.Install i) seat at is = install_so c me came v x from i
  body_so outcome x from m (body.Ready e joined_devices report) seat at is = answer_so x from m x.attempt
  body_so outcome x from m (body.Start e) seat at is = start_so c me came v x e x.seat
  body_so outcome x from m (body.Excluded e newest) seat at is = notice_so c me came v x e newest
  body_so outcome x from m (body.Prepare e place text) seat at is = prepare_so x from e place text x.seat
  body_so outcome x from m (body.Prepared e place) seat at is = prepared_so x from e place
  body_so outcome x from m (body.Commit e place) seat at is = commit_so x e place x.seat
  body_so outcome x from m (body.Request e number text) seat at is = asked_so c me came v x from e number text m seat at is
  body_so outcome x from m (body.Answer e number text) seat at is = reply_so c me came v x from m e number text at is
  body_so outcome x from m (body.Order o) seat at is = order_so outcome x from o
  body_so outcome x from m (body.Done e number ended) seat at is = done_so x from e number ended

  packet_so : (outcome : Outcome) (x : UpNode) (from : ℕ) (m : Message) → membership_in x.seat ≡ v → came ≡ Packet from m → G x (cuts.packet_course c me outcome x from m)
  packet_so outcome x from m seat at = either_so c me came v x (is_foreign c me x m.body) _ _ refl (Even, (refl, refl), body_so outcome (hearing x from m.body) from m m.body seat at refl)

  distrusting_so : (x : UpNode) (o : Option ℕ) → G x (cuts.distrusting_course x o)
  distrusting_so x None = refl
  distrusting_so x (Some d) = either_so c me came v x (has (record_of x).valid d) _ _ (Even, refl, refl) refl

  own_seized_so : (x : UpNode) (d : ℕ) (result : SeizeResult) (o : Option AttemptState) → G x (cuts.own_seized_course c me x d result o)
  own_seized_so x d result None = refl
  own_seized_so x d result (Some a) = going_so c me came v x a (Own_seized d result) tt

  seized_so : (x : UpNode) (d : ℕ) (result : SeizeResult) (o : Option ℕ) → G x (cuts.seized_course c me x d result o)
  seized_so x d result None = refl
  seized_so x d result (Some coordinator) = either_so c me came v x (coordinator == me) _ _ (own_seized_so x d result x.attempt) (Even, (refl, inl tt, refl), refl)

  joined_so : (x : UpNode) (o : Option ℕ) → G x (cuts.joined_course c me x o)
  joined_so x None = refl
  joined_so x (Some coordinator) = either_so c me came v x (coordinator == me) _ _ (own_ready_so c me came v x) (readying_so c me came v x coordinator)

  joins_device_so : (x : UpNode) (at : ℕ) (command : PrCommand) (a : DeviceAnswer) (d : ℕ) (r : JoinResult) → G x (cuts.joining_course c me x at command a d r)
  joins_device_so x at command a d join.Joined = (Even, refl, joined_so (joining_so (answered_so x a) d) (coordinator_of (joining_so (answered_so x a) d)))
  joins_device_so x at command a d (join.Late w) = (Even, (refl, refl), joined_so (answered_so x a) (coordinator_of (answered_so x a)))
  joins_device_so x at command a d join.Fault = (Even, (refl, refl), joined_so (answered_so x a) (coordinator_of (answered_so x a)))

  progress_so : (x : UpNode) (at : ℕ) (command : PrCommand) (a : DeviceAnswer) (p : Progress) → G x (cuts.progress_course c me x at command a p)
  progress_so x at command a GoesOn = (Even, (refl, refl), refl)
  progress_so x at command a (Seized d result) = (Even, (refl, refl), seized_so (answered_so x a) d result (coordinator_of (answered_so x a)))
  progress_so x at command a (Joined d result) = joins_device_so x at command a d result

  answer_taken_so : (x : UpNode) (a : DeviceAnswer) (o : Option ℕ) (command : Option PrCommand) → G x (cuts.answered_course c me x a o command)
  answer_taken_so x a (Some d) (Some command) = progress_so x d command a (progress_after x.tasks a)
  answer_taken_so x a None command = refl
  answer_taken_so x a (Some d) None = refl

  fenced_so : (x : UpNode) (d : ℕ) (a : DeviceAnswer) → G x (cuts.fenced_course d a)
  fenced_so x d (Ok given.Good) = refl
  fenced_so x d (Ok given.Conflict) = tt
  fenced_so x d (Ok given.InvalidRelease) = refl
  fenced_so x d (Ok given.NoPath) = refl
  fenced_so x d (Ok (given.Keys keys)) = refl
  fenced_so x d (Ok (given.Holder holder)) = refl
  fenced_so x d (Ok (given.Word w)) = refl
  fenced_so x d (Ok (given.Value v)) = refl
  fenced_so x d (Ok (given.Miscompare w)) = refl
  fenced_so x d (Err e) = refl

  course_of_so : (outcome : Outcome) (x : UpNode) (i : Input) → membership_in x.seat ≡ v → came ≡ i → G x (cuts.course_of c me outcome x i)
  course_of_so outcome x Boot seat at = refl
  course_of_so outcome x Crash seat at = tt
  course_of_so outcome x Tick seat at = tick_so outcome x
  course_of_so outcome x (Packet from message) seat at = packet_so outcome x from message seat at
  course_of_so outcome x CommandDue seat at = distrusting_so x (begins_plainly x.tasks)
  course_of_so outcome x (Answered a) seat at = answer_taken_so x a (due_device x.tasks) (next_of x.tasks)
  course_of_so outcome x (Wrote d value a) seat at = (Even, (refl, refl), fenced_so x d a)
  course_of_so outcome x (Commanded words) seat at = command_so c me came v words x at
  course_of_so outcome x (Reported r good) seat at = report_so c me came v x r good
  course_of_so outcome x (Client name client port) seat at = client_so x name client port

  course_at_so : (now : ℕ) (outcome : Outcome) (x : UpNode) (i : Input) → membership_in x.seat ≡ v → came ≡ i → G x (cuts.course_at c me now outcome x i)
  course_at_so now outcome x i seat at = (Even, (refl, refl), course_of_so outcome (at_second now x) i seat at)

-- whatever comes to a node that is up
pub course_goes : (c : Cluster) (me now : ℕ) (ends : Outcome) (x : UpNode) (i : Input) → GoesSo c i me (membership_in x.seat) Even x (cuts.course_at c me now ends x i)
course_goes c me now ends x i = course_at_so c me i (membership_in x.seat) now ends x i refl refl
