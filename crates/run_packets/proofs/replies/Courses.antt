-- What a node does with each input: each order is of the membership of its president, and is carried out in it.
use Rattle.answer_words.specs.Answers.{answer_in}
use Rattle.ccr_tables.specs.State.{ConfigState}
use Rattle.cl_base.specs.Sets.{has}
use Rattle.node_model.specs.Addresses.{served_lines}
use Rattle.node_model.specs.Groups.{order_told}
use Rattle.node_model.specs.Seats.{session_of}
use Rattle.cl_base.specs.declared.command.Ask.{Ask}
use Rattle.cl_base.specs.declared.method.Outcome.{Outcome}
use Rattle.cl_base.specs.Seizings.{SeizeResult}
use Rattle.cmm_attempt.specs.Attempts.{AttemptState}
use Rattle.cmm_attempt.specs.Calls.{Own_seized, Take}
use Rattle.device_queue.specs.declared.progress.Progress.{Progress}
use Rattle.device_queue.specs.declared.progress.Progress.TheVariants.{GoesOn, Seized, Joined}
use Rattle.device_queue.specs.Queue.{begins_plainly, due_device, joins, kept_of, next_of, progress_after}
use Rattle.pgr_device.specs.declared.command.PrAnswer.TheVariants as given
use Rattle.pgr_device.specs.declared.command.PrCommand.{PrCommand}
use Rattle.proposals.specs.Proposing.{goes_again}
use Rattle.proposals.specs.declared.arrived.Proposed.{Proposed}
use Rattle.request_queue.specs.Queue.{is_full}
use Rattle.rgm_member.specs.Orders.{answer_to, outcome_in}
use Rattle.rgm_member.specs.Probes.{probed}
use Rattle.rgm_member.specs.declared.carried.Carried.{Carried}
use Rattle.rgm_member.specs.declared.carried.Carried.TheVariants as carried
use Rattle.rgm_member.specs.declared.probed.Probed.{Probed}
use Rattle.rgm_member.specs.declared.probed.Probed.TheVariants as probe
use Rattle.rgm_state.specs.Outcomes as order
use Rattle.seize.specs.Answers.{Answer as DeviceAnswer}
use Rattle.seize.specs.declared.kind.JoinResult.{JoinResult}
use Rattle.seize.specs.declared.kind.JoinResult.TheVariants as join
use Rattle.seize.specs.declared.kind.SeizeKind.{SeizeKind}
use Rattle.seize.specs.declared.kind.SeizeKind.TheVariants.{Vote, Plain}
use Rattle.wire.specs.declared.message.Body.{Body}
use Rattle.wire.specs.declared.message.Body.TheVariants as body
use Rattle.wire.specs.declared.message.Install.{Install}
use Rattle.wire.specs.declared.message.Message.{Message}
use Rattle.wire.specs.declared.message.Order.{Order}
use Rattle.node_model.specs.Addresses.{request_for}
use Rattle.ccr_tables.specs.declared.address.Address.{Address}
use Rattle.rg_props.specs.Lookups.{named}
use Rattle.shared_address.specs.Choosing as serving
use Rattle.shared_address.specs.History as clients
use Rattle.node_model.specs.declared.cluster.Cluster.{Cluster}
use Rattle.node_model.specs.declared.input.Input.{Input}
use Rattle.node_model.specs.declared.input.Input.TheVariants.{Boot, Crash, Tick, Packet, CommandDue, Answered, Wrote, Commanded, Reported, Client}
use Rattle.node_model.specs.declared.node.UpNode.{UpNode}
use Rattle.node_model.specs.declared.presidency.Presidency.{Presidency}
use Rattle.node_model.specs.declared.seat.Seat.{Seat}
use Rattle.node_model.specs.declared.seat.Seat.TheVariants.{Forming, Member}
use Rattle.node_model.specs.Attempts.{starts_now}
use Rattle.node_model.specs.Configurations.{in_force, own_config}
use Rattle.node_model.specs.Devices.{joining_so}
use Rattle.node_model.specs.Groups.{asked_by, is_last, monitor_asked, orders_again, own_order, reported, with_ended}
use Rattle.node_model.specs.Members.{awaits_start, hearing, is_foreign}
use Rattle.node_model.specs.Requests.{is_idle}
use Rattle.node_model.specs.Ticks.{later}
use Rattle.node_model.specs.Steps.{at_second}
use Rattle.node_model.specs.Updates.{is_of_member}
use Rattle.refinement.specs.Courses.{Course}
use Rattle.refinement.specs.Courses.Course.{Acts, Stops}
use Rattle.refinement.specs.Cuts as cuts
use Rattle.refinement.specs.Cuts.{balanced}
use Rattle.std.proofs.Common.{refl}
use Rattle.std.specs.Prelude.{ℕ, ◌≡◌, ◌==◌, ◌&&◌, nat_lt, not, Bool, List, Option, None, Some, Ok, Err, is_some}
use Rattle.node_model.specs.Seats.{coordinator_of, installed_of, is_in, is_member, promised_of, record_of}
use Rattle.refinement.specs.Doings.{answered_so, changed}
use Rattle.refinement.specs.Doings.Act.{Gives}
use Rattle.refinement.specs.Doings.Change.{Installs, Sits}
use Rattle.run_packets.specs.replies.Orders.{GoesOrders}
use Rattle.run_packets.proofs.replies.Attempting.{deciding_so, either_so, going_so, kept_if_so, none_gives, own_epoch, own_ready_so, same_epoch, then_so, ticked_so}
use Rattle.run_packets.proofs.replies.Requesting.{asked_so, asking_if_so, command_so, commit_so, handling_so, prepare_so, prepared_so, reply_so}
use Rattle.run_packets.proofs.replies.Given.{told_of, order_epoch, probe_epoch, again_gives, served_of}

module _ (c : Cluster) (me : ℕ) where
  abbrev G : UpNode → Course → Type 0
  G x k = GoesOrders c me x k

  heartbeat_so : (x : UpNode) (from session : ℕ) (member : Bool) → G x (cuts.heartbeat_course me x from session member)
  heartbeat_so x from session member = either_so c me _ (awaits_start me x from session member) _ _ (tt, tt) tt

  collect_so : (x : UpNode) (from p : ℕ) → G x (cuts.collect_course x from p)
  collect_so x from p = either_so c me _ (nat_lt (promised_of x) p) _ _ (tt, (tt, tt)) (either_so c me _ (is_in x p) _ _ (tt, tt) (tt, tt))

  request_so : (x : UpNode) (from : ℕ) (kind : SeizeKind) (e members d : ℕ) (o : Option SeizeResult) → G x (cuts.request_course x from kind e members d o)
  request_so x from kind e members d (Some result) = (tt, tt)
  request_so x from kind e members d None = either_so c me _ (installed_of x == e) _ _ (tt, tt) (tt, tt)

  seizing_so : (x : UpNode) (from : ℕ) (kind : SeizeKind) (e members d : ℕ) → G x (cuts.seizing_course x from kind e members d)
  seizing_so x from kind e members d = either_so c me _ (is_in x e) _ _ (request_so x from kind e members d (kept_of x.tasks d)) tt

  readying_so : (x : UpNode) (to : ℕ) → G x (cuts.readying_course c x to)
  readying_so x to = either_so c me _ (joins x.tasks) _ _ tt (tt, tt)

  installed_so : (x : UpNode) (from : ℕ) (i : Install) (seat : Seat) → G x (cuts.installed_course c me x from i seat)
  installed_so x from i (Member s) = readying_so x from
  installed_so x from i (Forming s) = either_so c me _ (s.saved.installed == i.epoch) _ _ (readying_so x from) (tt, readying_so (changed c me x (Installs s i)) from)

  install_so : (x : UpNode) (from : ℕ) (i : Install) → G x (cuts.install_course c me x from i)
  install_so x from i = either_so c me _ (is_in x i.epoch) _ _ (installed_so x from i x.seat) (tt, tt)

  start_so : (x : UpNode) (e : ℕ) (seat : Seat) → G x (cuts.start_course e seat)
  start_so x e (Member s) = tt
  start_so x e (Forming s) = either_so c me _ (starts_now s e) _ _ (kept_if_so c me _ (is_some s.saved.entries.pending) (Sits s e) Stops tt tt) tt

  notice_so : (x : UpNode) (e newest : ℕ) → G x (cuts.notice_course x e newest)
  notice_so x e newest = either_so c me _ (is_in x e) _ _ tt tt

  done_at_so : (x : UpNode) (from number : ℕ) (outcome : Outcome) (o : Option Presidency) → x.presidency ≡ o → G x (cuts.done_at_course c me x from number outcome o)
  done_at_so x from number outcome None is = tt
  done_at_so x from number outcome (Some p) is =
      either_so c me _ (order.is_due p.groups.view from number) _ _
      (same_epoch x.presidency p (with_ended c x p from number outcome) is refl, then_so c me (record x { presidency = Some (with_ended c x p from number outcome) }) _ _ (deciding_so c me (record x { presidency = Some (with_ended c x p from number outcome) })) (λ z. handling_so c me z)) tt

  done_so : (x : UpNode) (from e number : ℕ) (outcome : Outcome) → G x (cuts.done_course c me x from e number outcome)
  done_so x from e number outcome = either_so c me _ (is_of_member x from e) _ _ (done_at_so x from number outcome x.presidency refl) tt

  carrying_so : (x : UpNode) (o : Order) (how : Carried) → G x (cuts.carrying_course c me x o how)
  carrying_so x o how = (none_gives x.presidency (session_of x) (order_told me o how) (told_of me o how), either_so c me _ (is_last c x o how) _ _ tt (order_epoch x.worker (own_config c x) o x.second how, tt))

  order_answered_so : (from : ℕ) (o : Order) (how : Carried) (x : UpNode) → G x (cuts.order_answered_course from o how x)
  order_answered_so from o carried.Old x = tt
  order_answered_so from o (carried.Called outcome) x = (tt, tt)
  order_answered_so from o carried.Cleared x = (tt, tt)
  order_answered_so from o (carried.Kept outcome) x = (tt, tt)

  obeying_so : (x : UpNode) (from : ℕ) (o : Order) (how : Carried) → G x (cuts.obeying_course c me x from o how)
  obeying_so x from o how = then_so c me x (cuts.carrying_course c me x o how) _ (carrying_so x o how) (λ z. order_answered_so from o how z)

  order_so : (outcome : Outcome) (x : UpNode) (from : ℕ) (o : Order) → G x (cuts.order_course c me outcome x from o)
  order_so outcome x from o = either_so c me _ (is_member x.seat && is_in x o.epoch) _ _ (obeying_so x from o (answer_to x.worker o outcome)) tt

  own_done_so : (o : Order) (how : Carried) (x : UpNode) → G x (cuts.own_done_course c me o how x)
  own_done_so o how x = done_at_so x me o.number (outcome_in how) x.presidency refl

  own_turn_so : (outcome : Outcome) (x : UpNode) (o : Option Order) → G x (cuts.own_turn_course c me outcome x o)
  own_turn_so outcome x None = tt
  own_turn_so outcome x (Some o) = then_so c me x (cuts.carrying_course c me x o (answer_to x.worker o outcome)) _ (carrying_so x o (answer_to x.worker o outcome)) (λ z. own_done_so o (answer_to x.worker o outcome) z)

  prepares_so : (x before : UpNode) (o : Option Proposed) (text : Option (List ℕ)) (rest : Course) → G x rest → G x (cuts.prepares_course before o text rest)
  prepares_so x before (Some p) (Some text) rest h = (tt, h)
  prepares_so x before None text rest h = h
  prepares_so x before (Some p) None rest h = h

  prepares_again_so : (x before : UpNode) (o : Option Presidency) (rest : Course) → G x rest → G x (cuts.prepares_again_course before o rest)
  prepares_again_so x before None rest h = h
  prepares_again_so x before (Some p) rest h = either_so c me _ (goes_again p.proposals) _ _ (prepares_so x before p.proposals.proposed (record_of before).entries.pending rest h) h

  going_again_so : (before x : UpNode) → G x (cuts.going_again_course c me before x)
  going_again_so before x =
      prepares_again_so x before before.presidency (Acts (Gives (orders_again before x)) (cuts.deciding_course c me x)) (again_gives (session_of x) before.presidency x.presidency, deciding_so c me x)

  governing_so : (outcome : Outcome) (before x : UpNode) → G x (cuts.governing_course c me outcome before x)
  governing_so outcome before x = then_so c me x _ _ (own_turn_so outcome x (own_order me x)) (λ z. going_again_so before z)

  tick_so : (outcome : Outcome) (x : UpNode) → G x (cuts.tick_course c me outcome x)
  tick_so outcome x = (tt, then_so c me (later c x) _ _ (governing_so outcome x (later c x)) (λ y. ticked_so c me y y.attempt))

  asking_this_so : (x : UpNode) (o : Option Ask) → G x (cuts.asking_this_course c me x o)
  asking_this_so x None = tt
  asking_this_so x (Some ask) = either_so c me _ (is_member x.seat && not (is_full x.requests)) _ _ (own_epoch x.presidency, asking_if_so c me (is_idle x.requests.waiting) (monitor_asked x ask)) tt

  reporting_so : (x : UpNode) (r : List ℕ) (how : Probed) → G x (cuts.reporting_course c me x r how)
  reporting_so x r probe.NoMonitor = tt
  reporting_so x r probe.Good = (none_gives x.presidency (session_of x) _ (tt, tt), (refl, tt))
  reporting_so x r (probe.Failed a) = (none_gives x.presidency (session_of x) _ (tt, tt), (probe_epoch x.worker (own_config c x) r x.second a, asking_this_so (reported x c r (probe.Failed a)) (asked_by a r)))

  report_so : (x : UpNode) (r : List ℕ) (good : Bool) → G x (cuts.report_course c me x r good)
  report_so x r good = reporting_so x r (probed x.worker (own_config c x) r good x.second)

  serving_so : (x : UpNode) (p : Presidency) (name : List ℕ) (client port : ℕ) (o : serving.Outcome) → x.presidency ≡ Some p → G x (cuts.serving_course x p name client port o)
  serving_so x p name client port o is = (none_gives x.presidency (session_of x) (served_lines name client port o) (served_of name client port o), (same_epoch x.presidency p (balanced p name o) is refl, tt))

  serving_at_so : (s : ConfigState) (x : UpNode) (p : Presidency) (name : List ℕ) (client port : ℕ) (o : Option Address) → x.presidency ≡ Some p → G x (cuts.serving_at_course s x p name client port o)
  serving_at_so s x p name client port None is = tt
  serving_at_so s x p name client port (Some a) is = serving_so x p name client port (serving.chosen (clients.state_of p.balancer name) (request_for s p a client port)) is

  serving_by_so : (x : UpNode) (name : List ℕ) (client port : ℕ) (o : Option Presidency) → x.presidency ≡ o → G x (cuts.serving_by_course c x name client port o)
  serving_by_so x name client port None is = tt
  serving_by_so x name client port (Some p) is = serving_at_so (in_force c x) x p name client port (named (in_force c x).addresses name) is

  client_so : (x : UpNode) (name : List ℕ) (client port : ℕ) → G x (cuts.client_course c x name client port)
  client_so x name client port = serving_by_so x name client port x.presidency refl

  answer_so : (x : UpNode) (from : ℕ) (m : Message) (o : Option AttemptState) → G x (cuts.answer_course c me x from m o)
  answer_so x from m None = tt
  answer_so x from m (Some a) = going_so c me x a (Take from m) tt

  body_so : (outcome : Outcome) (x : UpNode) (from : ℕ) (m : Message) (b : Body) → G x (cuts.body_course c me outcome x from m b)
  body_so outcome x from m (body.Heartbeat promised session member) = heartbeat_so x from session member
  body_so outcome x from m (body.Collect e members) = collect_so x from e
  body_so outcome x from m (body.Promise e installed members valid flagged committed pending) = answer_so x from m x.attempt
  body_so outcome x from m (body.Nack e promised) = answer_so x from m x.attempt
  body_so outcome x from m (body.SeizeQuorum e members d) = seizing_so x from Vote e members d
  body_so outcome x from m (body.SeizeData e members d) = seizing_so x from Plain e members d
  body_so outcome x from m (body.Seized e d ended) = answer_so x from m x.attempt
  body_so outcome x from m (body.Install i) = install_so x from i
  body_so outcome x from m (body.Ready e joined_devices report) = answer_so x from m x.attempt
  body_so outcome x from m (body.Start e) = start_so _ e x.seat
  body_so outcome x from m (body.Excluded e newest) = notice_so x e newest
  body_so outcome x from m (body.Prepare e place text) = prepare_so c me x from e place text x.seat
  body_so outcome x from m (body.Prepared e place) = prepared_so c me x from e place
  body_so outcome x from m (body.Commit e place) = commit_so c me x e place x.seat
  body_so outcome x from m (body.Request e number text) = asked_so c me x from e number text
  body_so outcome x from m (body.Answer e number text) = reply_so c me x e number (answer_in text)
  body_so outcome x from m (body.Order o) = order_so outcome x from o
  body_so outcome x from m (body.Done e number ended) = done_so x from e number ended

  packet_so : (outcome : Outcome) (x : UpNode) (from : ℕ) (m : Message) → G x (cuts.packet_course c me outcome x from m)
  packet_so outcome x from m = either_so c me _ (is_foreign c me x m.body) _ _ tt (tt, body_so outcome (hearing x from m.body) from m m.body)

  distrusting_so : (x : UpNode) (o : Option ℕ) → G x (cuts.distrusting_course x o)
  distrusting_so x None = tt
  distrusting_so x (Some d) = either_so c me _ (has (record_of x).valid d) _ _ (tt, tt) tt

  own_seized_so : (x : UpNode) (d : ℕ) (result : SeizeResult) (o : Option AttemptState) → G x (cuts.own_seized_course c me x d result o)
  own_seized_so x d result None = tt
  own_seized_so x d result (Some a) = going_so c me x a (Own_seized d result) tt

  seized_so : (x : UpNode) (d : ℕ) (result : SeizeResult) (o : Option ℕ) → G x (cuts.seized_course c me x d result o)
  seized_so x d result None = tt
  seized_so x d result (Some coordinator) = either_so c me _ (coordinator == me) _ _ (own_seized_so x d result x.attempt) (tt, tt)

  joined_so : (x : UpNode) (o : Option ℕ) → G x (cuts.joined_course c me x o)
  joined_so x None = tt
  joined_so x (Some coordinator) = either_so c me _ (coordinator == me) _ _ (own_ready_so c me x) (readying_so x coordinator)

  joins_device_so : (x : UpNode) (at : ℕ) (command : PrCommand) (a : DeviceAnswer) (d : ℕ) (r : JoinResult) → G x (cuts.joining_course c me x at command a d r)
  joins_device_so x at command a d join.Joined = (tt, joined_so (joining_so (answered_so x a) d) (coordinator_of (joining_so (answered_so x a) d)))
  joins_device_so x at command a d (join.Late w) = (tt, joined_so (answered_so x a) (coordinator_of (answered_so x a)))
  joins_device_so x at command a d join.Fault = (tt, joined_so (answered_so x a) (coordinator_of (answered_so x a)))

  progress_so : (x : UpNode) (at : ℕ) (command : PrCommand) (a : DeviceAnswer) (p : Progress) → G x (cuts.progress_course c me x at command a p)
  progress_so x at command a GoesOn = (tt, tt)
  progress_so x at command a (Seized d result) = (tt, seized_so (answered_so x a) d result (coordinator_of (answered_so x a)))
  progress_so x at command a (Joined d result) = joins_device_so x at command a d result

  answer_taken_so : (x : UpNode) (a : DeviceAnswer) (o : Option ℕ) (command : Option PrCommand) → G x (cuts.answered_course c me x a o command)
  answer_taken_so x a (Some d) (Some command) = progress_so x d command a (progress_after x.tasks a)
  answer_taken_so x a None command = tt
  answer_taken_so x a (Some d) None = tt

  fenced_so : (x : UpNode) (d : ℕ) (a : DeviceAnswer) → G x (cuts.fenced_course d a)
  fenced_so x d (Ok given.Good) = tt
  fenced_so x d (Ok given.Conflict) = tt
  fenced_so x d (Ok given.InvalidRelease) = tt
  fenced_so x d (Ok given.NoPath) = tt
  fenced_so x d (Ok (given.Keys keys)) = tt
  fenced_so x d (Ok (given.Holder holder)) = tt
  fenced_so x d (Ok (given.Word w)) = tt
  fenced_so x d (Ok (given.Value v)) = tt
  fenced_so x d (Ok (given.Miscompare w)) = tt
  fenced_so x d (Err e) = tt

  course_of_so : (outcome : Outcome) (x : UpNode) (i : Input) → G x (cuts.course_of c me outcome x i)
  course_of_so outcome x Boot = tt
  course_of_so outcome x Crash = tt
  course_of_so outcome x Tick = tick_so outcome x
  course_of_so outcome x (Packet from message) = packet_so outcome x from message
  course_of_so outcome x CommandDue = distrusting_so x (begins_plainly x.tasks)
  course_of_so outcome x (Answered a) = answer_taken_so x a (due_device x.tasks) (next_of x.tasks)
  course_of_so outcome x (Wrote d value a) = (tt, fenced_so _ d a)
  course_of_so outcome x (Commanded words) = command_so c me x words
  course_of_so outcome x (Reported r good) = report_so x r good
  course_of_so outcome x (Client name client port) = client_so x name client port

  pub course_at_so : (now : ℕ) (outcome : Outcome) (x : UpNode) (i : Input) → G x (cuts.course_at c me now outcome x i)
  course_at_so now outcome x i = (tt, course_of_so outcome (at_second now x) i)
