-- In each course of a step what the node keeps stays read, and it answers as president, or by itself to the command that came.
use Rattle.answer_words.specs.Answers.{answer_in}
use Rattle.ccr_commit.specs.Entries.{answer_for, texts_of}
use Rattle.ccr_commit.specs.declared.entries.Prepared.{Prepared}
use Rattle.ccr_commit.specs.declared.entries.Prepared.TheVariants.{Taken, Already, Gap}
use Rattle.ccr_tables.specs.State.{ConfigState}
use Rattle.cl_base.specs.Sets.{has}
use Rattle.cl_base.specs.declared.command.Ask.{Ask}
use Rattle.cl_base.specs.declared.method.Outcome.{Outcome}
use Rattle.cl_base.specs.Seizings.{SeizeResult}
use Rattle.cmm_attempt.specs.Attempts.{AttemptState}
use Rattle.cmm_attempt.specs.Calls.{Own_seized, Take}
use Rattle.cmm_member.specs.Nodes.{NodeState}
use Rattle.device_queue.specs.declared.progress.Progress.{Progress}
use Rattle.device_queue.specs.declared.progress.Progress.TheVariants.{GoesOn, Seized, Joined}
use Rattle.device_queue.specs.Queue.{begins_plainly, due_device, next_of, progress_after}
use Rattle.pgr_device.specs.declared.command.PrAnswer.TheVariants as given
use Rattle.pgr_device.specs.declared.command.PrCommand.{PrCommand}
use Rattle.proposals.specs.Proposing.{goes_again, is_prepared, prepared_by}
use Rattle.proposals.specs.State.{State}
use Rattle.proposals.specs.declared.arrived.Proposed.{Proposed}
use Rattle.request_queue.specs.Queue as queue
use Rattle.request_queue.specs.Queue.{found, is_full, next_number, oldest}
use Rattle.request_queue.specs.declared.request.Request.{Request}
use Rattle.rgm_member.specs.Orders.{answer_to, outcome_in}
use Rattle.rgm_member.specs.declared.carried.Carried.{Carried}
use Rattle.rgm_member.specs.declared.carried.Carried.TheVariants as carried
use Rattle.rgm_state.specs.Outcomes as order
use Rattle.seize.specs.Answers.{Answer as DeviceAnswer}
use Rattle.seize.specs.declared.kind.JoinResult.{JoinResult}
use Rattle.seize.specs.declared.kind.JoinResult.TheVariants as join
use Rattle.seize.specs.declared.kind.SeizeKind.TheVariants.{Vote, Plain}
use Rattle.status_report.specs.declared.command_entry.Answer.{Answer}
use Rattle.update_words.specs.Words.{ask_words_of}
use Rattle.wire.specs.declared.message.Body.{Body}
use Rattle.wire.specs.declared.message.Body.TheVariants as body
use Rattle.wire.specs.declared.message.Message.{Message}
use Rattle.wire.specs.declared.message.Order.{Order}
use Rattle.node_model.specs.Addresses.{request_for}
use Rattle.ccr_tables.specs.declared.address.Address.{Address}
use Rattle.rg_props.specs.Lookups.{named}
use Rattle.shared_address.specs.Choosing as serving
use Rattle.shared_address.specs.History as clients
use Rattle.node_model.specs.declared.cluster.Cluster.{Cluster}
use Rattle.node_model.specs.declared.input.Input.{Input}
use Rattle.node_model.specs.declared.input.Input.TheVariants.{Boot, Crash, Tick, Packet, CommandDue, Answered, Wrote, Commanded, Reported, Client}
use Rattle.node_model.specs.declared.node.UpNode.{UpNode}
use Rattle.node_model.specs.declared.presidency.Presidency.{Presidency}
use Rattle.node_model.specs.declared.seat.Seat.{Seat}
use Rattle.node_model.specs.declared.seat.Seat.TheVariants.{Forming, Member}
use Rattle.node_model.specs.Configurations.{in_force}
use Rattle.node_model.specs.Devices.{joining_so}
use Rattle.node_model.specs.Groups.{is_last, orders_again, own_order, with_ended}
use Rattle.node_model.specs.Members.{hearing, is_foreign}
use Rattle.node_model.specs.Presidents.{with_proposals}
use Rattle.node_model.specs.Requests.{is_idle}
use Rattle.node_model.specs.Ticks.{later}
use Rattle.node_model.specs.Steps.{at_second}
use Rattle.node_model.specs.Updates.{commits_now, is_of_member}
use Rattle.refinement.specs.Courses.{Course}
use Rattle.refinement.specs.Courses.Course.{Acts}
use Rattle.refinement.specs.Cuts as cuts
use Rattle.refinement.specs.Cuts.{acks_of, first_turn, left_answered}
use Rattle.attempt_laws.proofs.Walk.{if_with}
use Rattle.node_model.specs.Seats.{coordinator_of, is_in, is_member, record_of, version_of}
use Rattle.refinement.specs.Doings.{answered_so}
use Rattle.refinement.specs.Doings.Act.{Gives}
use Rattle.std.specs.Prelude.{ℕ, ◌≡◌, ◌≤◌, ◌==◌, ◌&&◌, not, false, List, length, Option, None, Some, IfSome, Ok, Err}
use Rattle.std.proofs.Common.{refl}
use Rattle.history.specs.Setting.{coordinator}
use Rattle.node_model.specs.Configurations.{own_config}
use Rattle.node_model.specs.Groups.{asked_by, monitor_asked, reported}
use Rattle.refinement.specs.Cuts.{with_committed}
use Rattle.rgm_member.specs.Probes.{probed}
use Rattle.rgm_member.specs.declared.probed.Probed.{Probed}
use Rattle.rgm_member.specs.declared.probed.Probed.TheVariants as probe
use Rattle.run_history.proofs.Lists.{all_and}
use Rattle.run_commands.specs.carried.Guards.{is_silent}
use Rattle.run_commands.specs.Reads.{CameSo, GoesRead, IsPresidents, OwnReplies, RequestRead}
use Rattle.run_commands.proofs.Hearing.{IsNoCommand, MonitorsName, NotForeign, again_so, asked_named, collects_so, not_foreign, order_so_told, own_line_so, probed_named, reply_fine, served_so}
use Rattle.run_commands.proofs.Offices.{answered_read, same_reads}
use Rattle.run_commands.proofs.Texts.{IsMonitors, monitor_read}
use Rattle.run_commands.proofs.ReadForming.{collect_so, deciding_so, either_so, going_so, heartbeat_so, install_so, notice_so, own_ready_so, readying_so, seizing_so, start_so, then_so, ticked_so}
use Rattle.run_commands.proofs.ReadRequesting.{acknowledging_so, asked_so, asking_if_so, asking_so, handling_so}

module _ (c : Cluster) (me : ℕ) (low : me ≤ 32) (came : Input) (fine : CameSo came) (word : OwnReplies) where
  abbrev G : UpNode → Course → Type 0
  G x k = GoesRead c me came word x k

  -- The president's answer.

  replied_to_so : (x : UpNode) (number : ℕ) (told : Answer) (o : Option Request) → is_silent told ≡ false → G x (cuts.replied_to_course c me x number told o)
  replied_to_so x number told None loud = tt
  replied_to_so x number told (Some r) loud = (
    (λ k. own_line_so me word told (Some r) loud),
    (
      (λ k. record { waiting_read = answered_read (version_of c) x.requests number k.waiting_read; office_read = k.office_read }),
      asking_so c me came word (record x { requests = queue.answered x.requests number }),
    ),
  )

  replied_so : (x : UpNode) (number : ℕ) (o : Option Answer) → IfSome o (λ reply. is_silent reply ≡ false) → G x (cuts.replied_course c me x number o)
  replied_so x number None loud = tt
  replied_so x number (Some told) loud = replied_to_so x number told (found x.requests.waiting number) loud

  reply_so : (x : UpNode) (e number : ℕ) (text : List ℕ) → IsPresidents text → G x (cuts.reply_course c me x e number (answer_in text))
  reply_so x e number text loud = either_so c me came word x (is_member x.seat && is_in x e) _ _ (replied_so x number (answer_in text) loud) tt

  preparing_so : (x : UpNode) (from e place : ℕ) (s : NodeState) (text : List ℕ) (o : Prepared) → G x (cuts.preparing_course from e place s text o)
  preparing_so x from e place s text Taken = ((λ r. tt), ((λ r. tt), tt))
  preparing_so x from e place s text Already = ((λ r. tt), tt)
  preparing_so x from e place s text (Gap k) = tt

  prepare_so : (x : UpNode) (from e place : ℕ) (text : List ℕ) (seat : Seat) → G x (cuts.prepare_course x from e place text seat)
  prepare_so x from e place text (Forming s) = tt
  prepare_so x from e place text (Member s) = either_so c me came word x (is_in x e) _ _ (preparing_so x from e place s text (answer_for (length (texts_of s.saved.entries)) place)) tt

  prepared_all_so : (x : UpNode) (p : Presidency) → G x (cuts.prepared_all_course c me x p)
  prepared_all_so x p = either_so c me came word x (is_prepared p.proposals) _ _ (then_so c me came word x _ _ (acknowledging_so c me came word x) (λ z. handling_so c me came word z)) tt

  prepared_at_so : (x : UpNode) (from place : ℕ) (o : Option Presidency) → x.presidency ≡ o → G x (cuts.prepared_at_course c me x from place o)
  prepared_at_so x from place None is = tt
  prepared_at_so x from place (Some p) is =
      let s : State = prepared_by p.proposals from place in
      ((λ r. same_reads (version_of c) x x.requests.waiting p _ is refl refl refl r), prepared_all_so (with_proposals x p s) (record p { proposals = s }))

  prepared_so : (x : UpNode) (from e place : ℕ) → G x (cuts.prepared_course c me x from e place)
  prepared_so x from e place = either_so c me came word x (is_of_member x from e) _ _ (prepared_at_so x from place x.presidency refl) tt

  commit_so : (x : UpNode) (e place : ℕ) (seat : Seat) → G x (cuts.commit_course x e place seat)
  commit_so x e place (Forming s) = tt
  commit_so x e place (Member s) = either_so c me came word x (is_in x e && commits_now s place) _ _ ((λ r. tt), tt) tt

  done_at_so : (x : UpNode) (from number : ℕ) (outcome : Outcome) (o : Option Presidency) → x.presidency ≡ o → G x (cuts.done_at_course c me x from number outcome o)
  done_at_so x from number outcome None is = tt
  done_at_so x from number outcome (Some p) is =
      let y : UpNode = record x { presidency = Some (with_ended c x p from number outcome) } in
      either_so c me came word x (order.is_due p.groups.view from number) _ _
      ((λ r. same_reads (version_of c) x x.requests.waiting p _ is refl refl refl r), then_so c me came word y _ _ (deciding_so c me came word y) (λ z. handling_so c me came word z)) tt

  done_so : (x : UpNode) (from e number : ℕ) (outcome : Outcome) → G x (cuts.done_course c me x from e number outcome)
  done_so x from e number outcome = either_so c me came word x (is_of_member x from e) _ _ (done_at_so x from number outcome x.presidency refl) tt

  carrying_so : (x : UpNode) (o : Order) (how : Carried) → G x (cuts.carrying_course c me x o how)
  carrying_so x o how = ((λ r. order_so_told me word o how), either_so c me came word x (is_last c x o how) _ _ tt ((λ r. tt), tt))

  order_answered_so : (from : ℕ) (o : Order) (how : Carried) (x : UpNode) → G x (cuts.order_answered_course from o how x)
  order_answered_so from o carried.Old x = tt
  order_answered_so from o (carried.Called outcome) x = ((λ r. tt), tt)
  order_answered_so from o carried.Cleared x = ((λ r. tt), tt)
  order_answered_so from o (carried.Kept outcome) x = ((λ r. tt), tt)

  obeying_so : (x : UpNode) (from : ℕ) (o : Order) (how : Carried) → G x (cuts.obeying_course c me x from o how)
  obeying_so x from o how = then_so c me came word x (cuts.carrying_course c me x o how) _ (carrying_so x o how) (λ z. order_answered_so from o how z)

  order_so : (outcome : Outcome) (x : UpNode) (from : ℕ) (o : Order) → G x (cuts.order_course c me outcome x from o)
  order_so outcome x from o = either_so c me came word x (is_member x.seat && is_in x o.epoch) _ _ (obeying_so x from o (answer_to x.worker o outcome)) tt

  own_done_so : (o : Order) (how : Carried) (x : UpNode) → G x (cuts.own_done_course c me o how x)
  own_done_so o how x = done_at_so x me o.number (outcome_in how) x.presidency refl

  own_turn_so : (outcome : Outcome) (x : UpNode) (o : Option Order) → G x (cuts.own_turn_course c me outcome x o)
  own_turn_so outcome x None = tt
  own_turn_so outcome x (Some o) = then_so c me came word x (cuts.carrying_course c me x o (answer_to x.worker o outcome)) _ (carrying_so x o (answer_to x.worker o outcome)) (λ z. own_done_so o (answer_to x.worker o outcome) z)

  prepares_so : (before x : UpNode) (o : Option Proposed) (text : Option (List ℕ)) (rest : Course) → G x rest → G x (cuts.prepares_course before o text rest)
  prepares_so before x (Some p) (Some text) rest k = ((λ r. tt), k)
  prepares_so before x None text rest k = k
  prepares_so before x (Some p) None rest k = k

  prepares_again_so : (before x : UpNode) (o : Option Presidency) (rest : Course) → G x rest → G x (cuts.prepares_again_course before o rest)
  prepares_again_so before x None rest k = k
  prepares_again_so before x (Some p) rest k = either_so c me came word x (goes_again p.proposals) _ _ (prepares_so before x p.proposals.proposed (record_of before).entries.pending rest k) k

  going_again_so : (before x : UpNode) → G x (cuts.going_again_course c me before x)
  going_again_so before x = prepares_again_so before x before.presidency (Acts (Gives (orders_again before x)) (cuts.deciding_course c me x)) ((λ r. again_so me word before.presidency x.presidency), deciding_so c me came word x)

  governing_so : (outcome : Outcome) (before x : UpNode) → G x (cuts.governing_course c me outcome before x)
  governing_so outcome before x = then_so c me came word x _ _ (own_turn_so outcome x (own_order me x)) (λ z. going_again_so before z)

  tick_so : (outcome : Outcome) (x : UpNode) → G x (cuts.tick_course c me outcome x)
  tick_so outcome x = ((λ r. tt), then_so c me came word (later c x) _ _ (governing_so outcome x (later c x)) (λ y. ticked_so c me came word low y y.attempt))

  serving_so : (x : UpNode) (p : Presidency) (name : List ℕ) (client port : ℕ) (o : serving.Outcome) → x.presidency ≡ Some p → G x (cuts.serving_course x p name client port o)
  serving_so x p name client port o is = ((λ r. served_so me word name client port o), ((λ r. same_reads (version_of c) x x.requests.waiting p _ is refl refl refl r), tt))

  serving_at_so : (s : ConfigState) (x : UpNode) (p : Presidency) (name : List ℕ) (client port : ℕ) (o : Option Address) → x.presidency ≡ Some p
      → G x (cuts.serving_at_course s x p name client port o)
  serving_at_so s x p name client port None is = tt
  serving_at_so s x p name client port (Some a) is = serving_so x p name client port (serving.chosen (clients.state_of p.balancer name) (request_for s p a client port)) is

  serving_by_so : (x : UpNode) (name : List ℕ) (client port : ℕ) (o : Option Presidency) → x.presidency ≡ o → G x (cuts.serving_by_course c x name client port o)
  serving_by_so x name client port None is = tt
  serving_by_so x name client port (Some p) is = serving_at_so (in_force c x) x p name client port (named (in_force c x).addresses name) is

  client_so : (x : UpNode) (name : List ℕ) (client port : ℕ) → G x (cuts.client_course c x name client port)
  client_so x name client port = serving_by_so x name client port x.presidency refl

  answer_so : (x : UpNode) (from : ℕ) (m : Message) (o : Option AttemptState) → G x (cuts.answer_course c me x from m o)
  answer_so x from m None = tt
  answer_so x from m (Some a) = going_so c me came word x a (Take from m) tt

  body_so : (outcome : Outcome) (x : UpNode) (from : ℕ) (m : Message) (b : Body) → came ≡ Packet from m → m.body ≡ b → NotForeign (version_of c) b → G x (cuts.body_course c me outcome x from m b)
  body_so outcome x from m (body.Heartbeat promised session member) at is known = heartbeat_so c me came word x from session member
  body_so outcome x from m (body.Collect e members) at is known = collect_so c me came word x from e (collects_so came from m e members at is)
  body_so outcome x from m (body.Promise e installed members valid flagged committed pending) at is known = answer_so x from m x.attempt
  body_so outcome x from m (body.Nack e promised) at is known = answer_so x from m x.attempt
  body_so outcome x from m (body.SeizeQuorum e members d) at is known = seizing_so c me came word x from Vote e members d
  body_so outcome x from m (body.SeizeData e members d) at is known = seizing_so c me came word x from Plain e members d
  body_so outcome x from m (body.Seized e d ended) at is known = answer_so x from m x.attempt
  body_so outcome x from m (body.Install i) at is known = install_so c me came word x from i
  body_so outcome x from m (body.Ready e joined_devices report) at is known = answer_so x from m x.attempt
  body_so outcome x from m (body.Start e) at is known = start_so c me came word x e x.seat
  body_so outcome x from m (body.Excluded e newest) at is known = notice_so c me came word x e newest
  body_so outcome x from m (body.Prepare e place text) at is known = prepare_so x from e place text x.seat
  body_so outcome x from m (body.Prepared e place) at is known = prepared_so x from e place
  body_so outcome x from m (body.Commit e place) at is known = commit_so x e place x.seat
  body_so outcome x from m (body.Request e number text) at is known = asked_so c me came word x from e number text known
  body_so outcome x from m (body.Answer e number text) at is known = reply_so x e number text (reply_fine came from m e number text at is fine)
  body_so outcome x from m (body.Order o) at is known = order_so outcome x from o
  body_so outcome x from m (body.Done e number ended) at is known = done_so x from e number ended

  packet_so : (outcome : Outcome) (x : UpNode) (from : ℕ) (m : Message) → came ≡ Packet from m → G x (cuts.packet_course c me outcome x from m)
  packet_so outcome x from m at =
      if_with (λ z. G x z) (is_foreign c me x m.body) (is_foreign c me x m.body) _ _ refl (λ foreign. tt)
      (λ known. ((λ r. tt), body_so outcome (hearing x from m.body) from m m.body at refl (not_foreign c me x m.body known)))

  distrusting_so : (x : UpNode) (o : Option ℕ) → G x (cuts.distrusting_course x o)
  distrusting_so x None = tt
  distrusting_so x (Some d) = either_so c me came word x (has (record_of x).valid d) _ _ ((λ r. tt), tt) tt

  own_seized_so : (x : UpNode) (d : ℕ) (result : SeizeResult) (o : Option AttemptState) → G x (cuts.own_seized_course c me x d result o)
  own_seized_so x d result None = tt
  own_seized_so x d result (Some a) = going_so c me came word x a (Own_seized d result) tt

  seized_so : (x : UpNode) (d : ℕ) (result : SeizeResult) (o : Option ℕ) → G x (cuts.seized_course c me x d result o)
  seized_so x d result None = tt
  seized_so x d result (Some coordinator) = either_so c me came word x (coordinator == me) _ _ (own_seized_so x d result x.attempt) ((λ r. tt), tt)

  joined_so : (x : UpNode) (o : Option ℕ) → G x (cuts.joined_course c me x o)
  joined_so x None = tt
  joined_so x (Some coordinator) = either_so c me came word x (coordinator == me) _ _ (own_ready_so c me came word x) (readying_so c me came word x coordinator)

  joins_device_so : (x : UpNode) (at : ℕ) (command : PrCommand) (a : DeviceAnswer) (d : ℕ) (r : JoinResult) → G x (cuts.joining_course c me x at command a d r)
  joins_device_so x at command a d join.Joined = ((λ r. tt), joined_so (joining_so (answered_so x a) d) (coordinator_of (joining_so (answered_so x a) d)))
  joins_device_so x at command a d (join.Late w) = ((λ r. tt), joined_so (answered_so x a) (coordinator_of (answered_so x a)))
  joins_device_so x at command a d join.Fault = ((λ r. tt), joined_so (answered_so x a) (coordinator_of (answered_so x a)))

  progress_so : (x : UpNode) (at : ℕ) (command : PrCommand) (a : DeviceAnswer) (p : Progress) → G x (cuts.progress_course c me x at command a p)
  progress_so x at command a GoesOn = ((λ r. tt), tt)
  progress_so x at command a (Seized d result) = ((λ r. tt), seized_so (answered_so x a) d result (coordinator_of (answered_so x a)))
  progress_so x at command a (Joined d result) = joins_device_so x at command a d result

  answer_taken_so : (x : UpNode) (a : DeviceAnswer) (o : Option ℕ) (command : Option PrCommand) → G x (cuts.answered_course c me x a o command)
  answer_taken_so x a (Some d) (Some command) = progress_so x d command a (progress_after x.tasks a)
  answer_taken_so x a None command = tt
  answer_taken_so x a (Some d) None = tt

  fenced_so : (x : UpNode) (d : ℕ) (a : DeviceAnswer) → G x (cuts.fenced_course d a)
  fenced_so x d (Ok given.Good) = tt
  fenced_so x d (Ok given.Conflict) = tt
  fenced_so x d (Ok given.InvalidRelease) = tt
  fenced_so x d (Ok given.NoPath) = tt
  fenced_so x d (Ok (given.Keys keys)) = tt
  fenced_so x d (Ok (given.Holder holder)) = tt
  fenced_so x d (Ok (given.Word w)) = tt
  fenced_so x d (Ok (given.Value v)) = tt
  fenced_so x d (Ok (given.Miscompare w)) = tt
  fenced_so x d (Err e) = tt

  -- A monitor's report.

  asking_this_so : (x : UpNode) (o : Option Ask) → IfSome o IsMonitors → G x (cuts.asking_this_course c me x o)
  asking_this_so x None is = tt
  asking_this_so x (Some ask) is =
      either_so c me came word x (is_member x.seat && not (is_full x.requests)) _ _ (
        (λ r. record {
          waiting_read = all_and (RequestRead (version_of c)) x.requests.waiting (record { number = next_number x.requests; text = ask_words_of ask; told = false; second = x.second }) r.waiting_read
              (monitor_read (version_of c) ask is);
          office_read = r.office_read;
        }),
        asking_if_so c me came word (is_idle x.requests.waiting) (monitor_asked x ask),
      ) tt

  reporting_so : (x : UpNode) (r : List ℕ) (p : Probed) → MonitorsName r p → G x (cuts.reporting_course c me x r p)
  reporting_so x r probe.NoMonitor named_so = tt
  reporting_so x r probe.Good named_so = ((λ k. (tt, tt)), ((λ k. tt), tt))
  reporting_so x r (probe.Failed a) named_so = ((λ k. (tt, tt)), ((λ k. tt), asking_this_so (reported x c r (probe.Failed a)) (asked_by a r) (asked_named r a named_so)))

  course_of_so : (outcome : Outcome) (x : UpNode) (i : Input) → came ≡ i → IsNoCommand i → G x (cuts.course_of c me outcome x i)
  course_of_so outcome x Boot at plain = tt
  course_of_so outcome x Crash at plain = tt
  course_of_so outcome x Tick at plain = tick_so outcome x
  course_of_so outcome x (Packet from message) at plain = packet_so outcome x from message at
  course_of_so outcome x CommandDue at plain = distrusting_so x (begins_plainly x.tasks)
  course_of_so outcome x (Answered a) at plain = answer_taken_so x a (due_device x.tasks) (next_of x.tasks)
  course_of_so outcome x (Wrote d value a) at plain = ((λ r. tt), fenced_so x d a)
  course_of_so outcome x (Commanded words) at plain = absurd plain
  course_of_so outcome x (Reported r good) at plain = reporting_so x r (probed x.worker (own_config c x) r good x.second) (probed_named c x r good)
  course_of_so outcome x (Client name client port) at plain = client_so x name client port

  pub course_at_so : (now : ℕ) (outcome : Outcome) (x : UpNode) (i : Input) → came ≡ i → IsNoCommand i → G x (cuts.course_at c me now outcome x i)
  course_at_so now outcome x i at plain = ((λ r. tt), course_of_so outcome (at_second now x) i at plain)
