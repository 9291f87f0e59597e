-- What a node does with each input sends Installs to nodes of the attempt, and a Ready with what it has joined.
use Rattle.answer_words.specs.Answers.{answer_in}
use Rattle.ccr_commit.specs.Entries.{answer_for, texts_of}
use Rattle.ccr_commit.specs.declared.entries.Prepared.{Prepared}
use Rattle.ccr_commit.specs.declared.entries.Prepared.TheVariants.{Taken, Already, Gap}
use Rattle.ccr_tables.specs.State.{ConfigState}
use Rattle.cl_base.specs.Sets.{has}
use Rattle.cl_base.specs.declared.command.Ask.{Ask}
use Rattle.cl_base.specs.declared.method.Outcome.{Outcome}
use Rattle.cl_base.specs.Seizings.{SeizeResult}
use Rattle.cmm_attempt.specs.Attempts.{AttemptState}
use Rattle.cmm_attempt.specs.Calls.{Own_seized, Take}
use Rattle.cmm_member.specs.Nodes.{NodeState}
use Rattle.device_queue.specs.declared.progress.Progress.{Progress}
use Rattle.device_queue.specs.declared.progress.Progress.TheVariants.{GoesOn, Seized, Joined}
use Rattle.device_queue.specs.Queue.{begins_plainly, due_device, next_of, progress_after}
use Rattle.pgr_device.specs.declared.command.PrAnswer.TheVariants as given
use Rattle.pgr_device.specs.declared.command.PrCommand.{PrCommand}
use Rattle.proposals.specs.Proposing.{goes_again, is_prepared, prepared_by}
use Rattle.proposals.specs.State.{State}
use Rattle.proposals.specs.declared.arrived.Proposed.{Proposed}
use Rattle.request_queue.specs.Queue.{is_full}
use Rattle.rgm_member.specs.Orders.{answer_to, outcome_in}
use Rattle.rgm_member.specs.Probes.{probed}
use Rattle.rgm_member.specs.declared.carried.Carried.{Carried}
use Rattle.rgm_member.specs.declared.carried.Carried.TheVariants as carried
use Rattle.rgm_member.specs.declared.probed.Probed.{Probed}
use Rattle.rgm_member.specs.declared.probed.Probed.TheVariants as probe
use Rattle.rgm_state.specs.Outcomes as order
use Rattle.seize.specs.Answers.{Answer as DeviceAnswer}
use Rattle.seize.specs.declared.kind.JoinResult.{JoinResult}
use Rattle.seize.specs.declared.kind.JoinResult.TheVariants as join
use Rattle.seize.specs.declared.kind.SeizeKind.TheVariants.{Vote, Plain}
use Rattle.wire.specs.declared.message.Body.{Body}
use Rattle.wire.specs.declared.message.Body.TheVariants as body
use Rattle.wire.specs.declared.message.Message.{Message}
use Rattle.wire.specs.declared.message.Order.{Order}
use Rattle.node_model.specs.Addresses.{request_for}
use Rattle.ccr_tables.specs.declared.address.Address.{Address}
use Rattle.rg_props.specs.Lookups.{named}
use Rattle.shared_address.specs.Choosing as serving
use Rattle.shared_address.specs.History as clients
use Rattle.node_model.specs.declared.cluster.Cluster.{Cluster}
use Rattle.node_model.specs.declared.input.Input.{Input}
use Rattle.node_model.specs.declared.input.Input.TheVariants.{Boot, Crash, Tick, Packet, CommandDue, Answered, Wrote, Commanded, Reported, Client}
use Rattle.node_model.specs.declared.node.Node.{Node}
use Rattle.node_model.specs.declared.node.Node.TheVariants.{Down, Up}
use Rattle.node_model.specs.declared.node.UpNode.{UpNode}
use Rattle.node_model.specs.declared.presidency.Presidency.{Presidency}
use Rattle.node_model.specs.declared.seat.Seat.{Seat}
use Rattle.node_model.specs.declared.seat.Seat.TheVariants.{Forming, Member}
use Rattle.node_model.specs.Configurations.{in_force, own_config}
use Rattle.node_model.specs.Devices.{joining_so}
use Rattle.node_model.specs.Groups.{asked_by, is_last, monitor_asked, orders_again, own_order, reported, with_ended}
use Rattle.node_model.specs.Members.{hearing, is_foreign}
use Rattle.node_model.specs.Presidents.{with_proposals}
use Rattle.node_model.specs.Requests.{is_idle}
use Rattle.node_model.specs.Ticks.{later}
use Rattle.node_model.specs.Steps.{at_second}
use Rattle.node_model.specs.Updates.{commits_now, is_of_member}
use Rattle.refinement.specs.Courses.{Course, Reply, joined, under}
use Rattle.refinement.specs.Courses.Reply.{Done, Lost_new, Lost_old}
use Rattle.refinement.specs.Courses.Course.{Acts, Falls, Keeps, Stops}
use Rattle.refinement.specs.Cuts as cuts
use Rattle.std.specs.Prelude.{ℕ, ◌≡◌, ◌==◌, ◌&&◌, not, Bool, List, [], ◌∷◌, length, Option, None, Some, Ok, Err}
use Rattle.std.proofs.Common.{refl}
use Rattle.node_model.specs.Seats.{coordinator_of, is_in, is_member, record_of}
use Rattle.refinement.specs.Doings.{acted, answered_so, changed, site}
use Rattle.refinement.specs.Doings.Act.{Gives}
use Rattle.refinement.specs.Doings.Change.{Installs}
use Rattle.refinement.specs.Runs.{AnswersFit}
use Rattle.refinement.specs.node_widths.Widths.{AnswerFits}
use Rattle.run_packets.specs.native.Named.{IsKnown}
use Rattle.run_packets.specs.admitted.Guards.{AllFor, GoesFor, KeepsGood}
use Rattle.run_packets.specs.admitted.Known.{TasksKnown}
use Rattle.run_packets.proofs.admitted.Offices.{again_good, order_good, same_office, served_good}
use Rattle.run_packets.proofs.admitted.Tasks.{ProgressKnown, progress_known}
use Rattle.cmm_member.specs.Records.{NodeRecord}
use Rattle.run_packets.proofs.admitted.Attempting.{collect_so, deciding_so, either_so, going_so, heartbeat_so, install_so, notice_so, own_ready_so, readying_so, seizing_so, start_so, then_so, ticked_so}
use Rattle.run_packets.proofs.admitted.Answering.{acknowledging_so, asked_so, asking_if_so, command_so, handling_so, reply_so}

module _ (c : Cluster) (me : ℕ) where
  preparing_so : (x : UpNode) (from e place : ℕ) (s : NodeState) (text : List ℕ) (o : Prepared) → GoesFor c me x (cuts.preparing_course from e place s text o)
  preparing_so x from e place s text Taken = (tt, (tt, tt))
  preparing_so x from e place s text Already = (tt, tt)
  preparing_so x from e place s text (Gap k) = tt

  prepare_so : (x : UpNode) (from e place : ℕ) (text : List ℕ) (seat : Seat) → GoesFor c me x (cuts.prepare_course x from e place text seat)
  prepare_so x from e place text (Forming s) = tt
  prepare_so x from e place text (Member s) = either_so c me _ (is_in x e) _ _ (preparing_so _ from e place s text (answer_for (length (texts_of s.saved.entries)) place)) tt

  prepared_all_so : (x : UpNode) (p : Presidency) → GoesFor c me x (cuts.prepared_all_course c me x p)
  prepared_all_so x p = either_so c me _ (is_prepared p.proposals) _ _ (then_so c me x _ _ (acknowledging_so c me x) (λ z. handling_so c me z)) tt

  prepared_at_so : (x : UpNode) (from place : ℕ) (o : Option Presidency) → x.presidency ≡ o → GoesFor c me x (cuts.prepared_at_course c me x from place o)
  prepared_at_so x from place None at = tt
  prepared_at_so x from place (Some p) at = let s : State = prepared_by p.proposals from place in (same_office x p at, prepared_all_so (with_proposals x p s) (record p { proposals = s }))

  prepared_so : (x : UpNode) (from e place : ℕ) → GoesFor c me x (cuts.prepared_course c me x from e place)
  prepared_so x from e place = either_so c me _ (is_of_member x from e) _ _ (prepared_at_so x from place x.presidency refl) tt

  commit_so : (x : UpNode) (e place : ℕ) (seat : Seat) → GoesFor c me x (cuts.commit_course x e place seat)
  commit_so x e place (Forming s) = tt
  commit_so x e place (Member s) = either_so c me _ (is_in x e && commits_now s place) _ _ (tt, tt) tt

  done_at_so : (x : UpNode) (from number : ℕ) (outcome : Outcome) (o : Option Presidency) → x.presidency ≡ o → GoesFor c me x (cuts.done_at_course c me x from number outcome o)
  done_at_so x from number outcome None at = tt
  done_at_so x from number outcome (Some p) at = either_so c me _ (order.is_due p.groups.view from number) _ _ (same_office x p at, then_so c me (record x { presidency = Some (with_ended c x p from number outcome) }) _ _ (deciding_so c me (record x { presidency = Some (with_ended c x p from number outcome) })) (λ z. handling_so c me z)) tt

  done_so : (x : UpNode) (from e number : ℕ) (outcome : Outcome) → GoesFor c me x (cuts.done_course c me x from e number outcome)
  done_so x from e number outcome = either_so c me _ (is_of_member x from e) _ _ (done_at_so x from number outcome x.presidency refl) tt

  carrying_so : (x : UpNode) (o : Order) (how : Carried) → GoesFor c me x (cuts.carrying_course c me x o how)
  carrying_so x o how = (order_good me o how, either_so c me _ (is_last c x o how) _ _ tt (tt, tt))

  order_answered_so : (from : ℕ) (o : Order) (how : Carried) (x : UpNode) → GoesFor c me x (cuts.order_answered_course from o how x)
  order_answered_so from o carried.Old x = tt
  order_answered_so from o (carried.Called outcome) x = (tt, tt)
  order_answered_so from o carried.Cleared x = (tt, tt)
  order_answered_so from o (carried.Kept outcome) x = (tt, tt)

  obeying_so : (x : UpNode) (from : ℕ) (o : Order) (how : Carried) → GoesFor c me x (cuts.obeying_course c me x from o how)
  obeying_so x from o how = then_so c me x (cuts.carrying_course c me x o how) _ (carrying_so x o how) (λ z. order_answered_so from o how z)

  order_so : (outcome : Outcome) (x : UpNode) (from : ℕ) (o : Order) → GoesFor c me x (cuts.order_course c me outcome x from o)
  order_so outcome x from o = either_so c me _ (is_member x.seat && is_in x o.epoch) _ _ (obeying_so x from o (answer_to x.worker o outcome)) tt

  own_done_so : (o : Order) (how : Carried) (x : UpNode) → GoesFor c me x (cuts.own_done_course c me o how x)
  own_done_so o how x = done_at_so x me o.number (outcome_in how) x.presidency refl

  own_turn_so : (outcome : Outcome) (x : UpNode) (o : Option Order) → GoesFor c me x (cuts.own_turn_course c me outcome x o)
  own_turn_so outcome x None = tt
  own_turn_so outcome x (Some o) = then_so c me x (cuts.carrying_course c me x o (answer_to x.worker o outcome)) _ (carrying_so x o (answer_to x.worker o outcome)) (λ z. own_done_so o (answer_to x.worker o outcome) z)

  prepares_so : (x before : UpNode) (o : Option Proposed) (text : Option (List ℕ)) (rest : Course) → GoesFor c me x rest → GoesFor c me x (cuts.prepares_course before o text rest)
  prepares_so x before (Some p) (Some text) rest h = (tt, h)
  prepares_so x before None text rest h = h
  prepares_so x before (Some p) None rest h = h

  prepares_again_so : (x before : UpNode) (o : Option Presidency) (rest : Course) → GoesFor c me x rest → GoesFor c me x (cuts.prepares_again_course before o rest)
  prepares_again_so x before None rest h = h
  prepares_again_so x before (Some p) rest h = either_so c me _ (goes_again p.proposals) _ _ (prepares_so x before p.proposals.proposed (record_of before).entries.pending rest h) h

  going_again_so : (before x : UpNode) → GoesFor c me x (cuts.going_again_course c me before x)
  going_again_so before x = prepares_again_so x before before.presidency (Acts (Gives (orders_again before x)) (cuts.deciding_course c me x)) (again_good before.presidency x.presidency, deciding_so c me x)

  governing_so : (outcome : Outcome) (before x : UpNode) → GoesFor c me x (cuts.governing_course c me outcome before x)
  governing_so outcome before x = then_so c me x _ _ (own_turn_so outcome x (own_order me x)) (λ z. going_again_so before z)

  tick_so : (outcome : Outcome) (x : UpNode) → GoesFor c me x (cuts.tick_course c me outcome x)
  tick_so outcome x = (tt, then_so c me (later c x) _ _ (governing_so outcome x (later c x)) (λ y. ticked_so c me y y.attempt))

  asking_this_so : (x : UpNode) (o : Option Ask) → GoesFor c me x (cuts.asking_this_course c me x o)
  asking_this_so x None = tt
  asking_this_so x (Some ask) = either_so c me _ (is_member x.seat && not (is_full x.requests)) _ _ ((λ h. h), asking_if_so c me (is_idle x.requests.waiting) (monitor_asked x ask)) tt

  reporting_so : (x : UpNode) (r : List ℕ) (how : Probed) → GoesFor c me x (cuts.reporting_course c me x r how)
  reporting_so x r probe.NoMonitor = tt
  reporting_so x r probe.Good = ((tt, tt), (tt, tt))
  reporting_so x r (probe.Failed a) = ((tt, tt), (tt, asking_this_so (reported x c r (probe.Failed a)) (asked_by a r)))

  report_so : (x : UpNode) (r : List ℕ) (good : Bool) → GoesFor c me x (cuts.report_course c me x r good)
  report_so x r good = reporting_so x r (probed x.worker (own_config c x) r good x.second)

  serving_so : (x : UpNode) (p : Presidency) (name : List ℕ) (client port : ℕ) (o : serving.Outcome) → KeepsGood x (Some p) → GoesFor c me x (cuts.serving_course x p name client port o)
  serving_so x p name client port o keeps = (served_good name client port o, (keeps, tt))

  serving_at_so : (s : ConfigState) (x : UpNode) (p : Presidency) (name : List ℕ) (client port : ℕ) (o : Option Address) → KeepsGood x (Some p)
      → GoesFor c me x (cuts.serving_at_course s x p name client port o)
  serving_at_so s x p name client port None keeps = tt
  serving_at_so s x p name client port (Some a) keeps = serving_so x p name client port (serving.chosen (clients.state_of p.balancer name) (request_for s p a client port)) keeps

  serving_by_so : (x : UpNode) (name : List ℕ) (client port : ℕ) (o : Option Presidency) → x.presidency ≡ o → GoesFor c me x (cuts.serving_by_course c x name client port o)
  serving_by_so x name client port None at = tt
  serving_by_so x name client port (Some p) at = serving_at_so (in_force c x) x p name client port (named (in_force c x).addresses name) (same_office x p at)

  client_so : (x : UpNode) (name : List ℕ) (client port : ℕ) → GoesFor c me x (cuts.client_course c x name client port)
  client_so x name client port = serving_by_so x name client port x.presidency refl

  answer_so : (x : UpNode) (from : ℕ) (m : Message) (o : Option AttemptState) → GoesFor c me x (cuts.answer_course c me x from m o)
  answer_so x from m None = tt
  answer_so x from m (Some a) = going_so c me x a (Take from m)

  body_so : (outcome : Outcome) (x : UpNode) (from : ℕ) (m : Message) (b : Body) → GoesFor c me x (cuts.body_course c me outcome x from m b)
  body_so outcome x from m (body.Heartbeat promised session member) = heartbeat_so c me x from session member
  body_so outcome x from m (body.Collect e members) = collect_so c me x from e
  body_so outcome x from m (body.Promise e installed members valid flagged committed pending) = answer_so x from m x.attempt
  body_so outcome x from m (body.Nack e promised) = answer_so x from m x.attempt
  body_so outcome x from m (body.SeizeQuorum e members d) = seizing_so c me x from Vote e members d
  body_so outcome x from m (body.SeizeData e members d) = seizing_so c me x from Plain e members d
  body_so outcome x from m (body.Seized e d ended) = answer_so x from m x.attempt
  body_so outcome x from m (body.Install i) = install_so c me x from i
  body_so outcome x from m (body.Ready e joined_devices report) = answer_so x from m x.attempt
  body_so outcome x from m (body.Start e) = start_so c me _ e x.seat
  body_so outcome x from m (body.Excluded e newest) = notice_so c me x e newest
  body_so outcome x from m (body.Prepare e place text) = prepare_so x from e place text x.seat
  body_so outcome x from m (body.Prepared e place) = prepared_so x from e place
  body_so outcome x from m (body.Commit e place) = commit_so x e place x.seat
  body_so outcome x from m (body.Request e number text) = asked_so c me x from e number text
  body_so outcome x from m (body.Answer e number text) = reply_so c me x e number (answer_in text)
  body_so outcome x from m (body.Order o) = order_so outcome x from o
  body_so outcome x from m (body.Done e number ended) = done_so x from e number ended

  packet_so : (outcome : Outcome) (x : UpNode) (from : ℕ) (m : Message) → GoesFor c me x (cuts.packet_course c me outcome x from m)
  packet_so outcome x from m = either_so c me _ (is_foreign c me x m.body) _ _ tt (tt, body_so outcome (hearing x from m.body) from m m.body)

  distrusting_so : (x : UpNode) (o : Option ℕ) → GoesFor c me x (cuts.distrusting_course x o)
  distrusting_so x None = tt
  distrusting_so x (Some d) = either_so c me _ (has (record_of x).valid d) _ _ (tt, tt) tt

  own_seized_so : (x : UpNode) (d : ℕ) (result : SeizeResult) (o : Option AttemptState) → GoesFor c me x (cuts.own_seized_course c me x d result o)
  own_seized_so x d result None = tt
  own_seized_so x d result (Some a) = going_so c me x a (Own_seized d result)

  seized_so : (x : UpNode) (d : ℕ) (result : SeizeResult) (o : Option ℕ) → GoesFor c me x (cuts.seized_course c me x d result o)
  seized_so x d result None = tt
  seized_so x d result (Some coordinator) = either_so c me _ (coordinator == me) _ _ (own_seized_so x d result x.attempt) (tt, tt)

  joined_so : (x : UpNode) (o : Option ℕ) → GoesFor c me x (cuts.joined_course c me x o)
  joined_so x None = tt
  joined_so x (Some coordinator) = either_so c me _ (coordinator == me) _ _ (own_ready_so c me x) (readying_so c me x coordinator)

  joins_device_so : (x : UpNode) (at : ℕ) (command : PrCommand) (a : DeviceAnswer) (d : ℕ) (r : JoinResult) → AnswerFits a → (TasksKnown c x.tasks → IsKnown c d)
      → GoesFor c me x (cuts.joining_course c me x at command a d r)
  joins_device_so x at command a d join.Joined fit known = ((fit, known), joined_so (joining_so (answered_so x a) d) (coordinator_of (joining_so (answered_so x a) d)))
  joins_device_so x at command a d (join.Late w) fit known = (fit, joined_so (answered_so x a) (coordinator_of (answered_so x a)))
  joins_device_so x at command a d join.Fault fit known = (fit, joined_so (answered_so x a) (coordinator_of (answered_so x a)))

  progress_so : (x : UpNode) (at : ℕ) (command : PrCommand) (a : DeviceAnswer) (p : Progress) → AnswerFits a → (TasksKnown c x.tasks → ProgressKnown c p)
      → GoesFor c me x (cuts.progress_course c me x at command a p)
  progress_so x at command a GoesOn fit known = (fit, tt)
  progress_so x at command a (Seized d result) fit known = (fit, seized_so (answered_so x a) d result (coordinator_of (answered_so x a)))
  progress_so x at command a (Joined d result) fit known = joins_device_so x at command a d result fit known

  answer_taken_so : (x : UpNode) (a : DeviceAnswer) (o : Option ℕ) (command : Option PrCommand) → AnswerFits a → GoesFor c me x (cuts.answered_course c me x a o command)
  answer_taken_so x a (Some d) (Some command) fit = progress_so x d command a (progress_after x.tasks a) fit (progress_known c x.tasks a)
  answer_taken_so x a None command fit = tt
  answer_taken_so x a (Some d) None fit = tt

  fenced_so : (x : UpNode) (d : ℕ) (a : DeviceAnswer) → GoesFor c me x (cuts.fenced_course d a)
  fenced_so x d (Ok given.Good) = tt
  fenced_so x d (Ok given.Conflict) = tt
  fenced_so x d (Ok given.InvalidRelease) = tt
  fenced_so x d (Ok given.NoPath) = tt
  fenced_so x d (Ok (given.Keys keys)) = tt
  fenced_so x d (Ok (given.Holder holder)) = tt
  fenced_so x d (Ok (given.Word w)) = tt
  fenced_so x d (Ok (given.Value v)) = tt
  fenced_so x d (Ok (given.Miscompare w)) = tt
  fenced_so x d (Err e) = tt

  course_of_so : (outcome : Outcome) (x : UpNode) (i : Input) → AnswersFit i → GoesFor c me x (cuts.course_of c me outcome x i)
  course_of_so outcome x Boot fit = tt
  course_of_so outcome x Crash fit = tt
  course_of_so outcome x Tick fit = tick_so outcome x
  course_of_so outcome x (Packet from message) fit = packet_so outcome x from message
  course_of_so outcome x CommandDue fit = distrusting_so x (begins_plainly x.tasks)
  course_of_so outcome x (Answered a) fit = answer_taken_so x a (due_device x.tasks) (next_of x.tasks) fit
  course_of_so outcome x (Wrote d value a) fit = (tt, fenced_so _ d a)
  course_of_so outcome x (Commanded words) fit = command_so c me x words
  course_of_so outcome x (Reported r good) fit = report_so x r good
  course_of_so outcome x (Client name client port) fit = client_so x name client port

  pub course_at_so : (now : ℕ) (outcome : Outcome) (x : UpNode) (i : Input) → AnswersFit i → GoesFor c me x (cuts.course_at c me now outcome x i)
  course_at_so now outcome x i fit = (tt, course_of_so outcome (at_second now x) i fit)

-- Under all replies of the disk.

under_for : (c : Cluster) (me : ℕ) (replies : List Reply) (kept : NodeRecord) (x : UpNode) (k : Course) → GoesFor c me x k → AllFor c me (site (Up x) kept) (under replies k)
under_for c me replies kept x Stops h = tt
under_for c me replies kept x (Acts a rest) h = (h.0, under_for c me replies kept (acted c me x a) rest h.1)
under_for c me [] kept x (Keeps change rest) h = (tt, tt)
under_for c me (Done ∷ replies) kept x (Keeps change rest) h = (h.0, under_for c me replies _ (changed c me x change) rest h.1)
under_for c me (Lost_new why ∷ replies) kept x (Keeps change rest) h = (h.0, tt)
under_for c me (Lost_old why ∷ replies) kept x (Keeps change rest) h = (tt, tt)
under_for c me replies kept x (Falls why) h = (tt, tt)

boot_for : (c : Cluster) (me : ℕ) (replies : List Reply) (kept : NodeRecord) → AllFor c me (site Down kept) (cuts.boot_doings replies)
boot_for c me [] kept = (tt, (tt, tt))
boot_for c me (Done ∷ replies) kept = (tt, tt)
boot_for c me (Lost_new why ∷ replies) kept = (tt, (tt, tt))
boot_for c me (Lost_old why ∷ replies) kept = (tt, (tt, tt))

pub doings_for : (c : Cluster) (me now : ℕ) (ends : Outcome) (replies : List Reply) (i : Input) (kept : NodeRecord) (node : Node) → AnswersFit i → AllFor c me (site node kept) (cuts.doings c me now ends replies i node)
doings_for c me now ends replies i kept (Up x) fit = under_for c me replies kept x (cuts.course_at c me now ends x i) (course_at_so c me now ends x i fit)
doings_for c me now ends replies Boot kept Down fit = boot_for c me replies kept
doings_for c me now ends replies Crash kept Down fit = tt
doings_for c me now ends replies Tick kept Down fit = tt
doings_for c me now ends replies (Packet from m) kept Down fit = tt
doings_for c me now ends replies CommandDue kept Down fit = tt
doings_for c me now ends replies (Answered a) kept Down fit = tt
doings_for c me now ends replies (Wrote d value a) kept Down fit = tt
doings_for c me now ends replies (Commanded words) kept Down fit = tt
doings_for c me now ends replies (Reported r good) kept Down fit = tt
doings_for c me now ends replies (Client name client port) kept Down fit = tt
